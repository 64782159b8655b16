use Rattle.std.proofs.Common.{rules, ◌≡◌, ◌==◌, ◌++◌, drop, sym, ◌∙◌, ap}
use Rattle.std.proofs.lemmas.List.Filters.{dedup_is}
use Rattle.std.proofs.lemmas.List.Sorted.{list_any-IsPermutation}
use Rattle.ba_guards.proofs.Writing.{any-dedup}
use Rattle.ba_guards.specs.Written.{is_among}
use Rattle.ba_guards.proofs.names.Names.since.Goals as goal

pub returns : goal.returns
returns c = λ n.
    let is = dedup_is _ _ _ c.dedup.ensures.filtered in
    let moved = c.sort_unstable.ensures.permutation in
    let all : c.extend_from_slice.new.self.items ≡ drop c.args.start c.args.self.now ++ c.args.others.now =
    search rules in
    rw is (any-dedup (λ m. m == n) _ ∙ sym (list_any-IsPermutation (λ m. m == n) _ _ moved)
    ∙ ap (is_among n) all)
