use Rattle.std.proofs.Common.{sym, ◌∙◌}
use Rattle.std.proofs.lemmas.List.Filters.{dedup_is, All-dedup}
use Rattle.std.proofs.lemmas.List.Sorted.{All-permutation, list_any-IsPermutation}
use Rattle.std.proofs.lemmas.Map.Keys.{IsStrictlyIncreasing-dedup}
use Rattle.ba_clauses.specs.Clauses.{IsCodeOf}
use Rattle.ba_clauses.proofs.Ordered.{list_any-dedup}
use Rattle.ba_clauses.proofs.clauses.distinct.Goals as goal

pub returns : goal.returns
returns c =
    let is = dedup_is _ _ _ c.dedup.ensures.filtered in
    let moved = c.sort_unstable.ensures.permutation in
    record {
      rising = rw is (IsStrictlyIncreasing-dedup _ c.sort_unstable.ensures.sorted);
      within = λ bound all. rw is (All-dedup _ (IsCodeOf bound) _ (All-permutation (IsCodeOf bound) _ _
          moved all));
      same = λ test. rw is (list_any-dedup test _ ∙ sym (list_any-IsPermutation test _ _ moved));
    }
