-- A learnt clause after going back to its level.

use Rattle.std.proofs.Common.{◌≡◌, ◌≢◌, ℕ, ◌+◌, ◌<◌, ◌≤◌, false, Option, None, Some, List, length, take, sym, ap, ◌∙◌, arith, ⊎_elim}
use Rattle.std.proofs.lemmas.List.{take-take}
use Rattle.std.proofs.lemmas.List.Sorted.{All-permutation}
use Rattle.std.proofs.lemmas.List.Elements.{All-from_get_or, All-get_or}
use Rattle.std.specs.List.{All}
use Rattle.std.specs.List.Sorted.{IsPermutation}
use Rattle.ba_lits.specs.Literals.{Literal, index_of, lit_at, no_literal}
use Rattle.ba_watch.specs.Threads.{Clause, index_at}
use Rattle.ba_watch.specs.Trails.{value_of, trail_index, decided, level_at, kept}
use Rattle.ba_watch.specs.Propagation.{State, plain_lits, clause_in, lits_in, SameClause, IsReason, IsAsserting, AddsClause, KeepsFacts}
use Rattle.ba_watch.proofs.Values.{value_of-take, value_of-take_none, trail_index-some, trail_index-take}
use Rattle.ba_watch.proofs.Levels.{decided-kept, kept_below, kept_above, kept-le}
use Rattle.ba_learn.specs.Levels.{level_in, IsBacked}
use Rattle.ba_learn.specs.Backjumps.{after_backtrack, IsUnitAt}
use Rattle.ba_lits.proofs.Members.{has_literal-permutation, has_literal-at}
use Rattle.ba_learn.proofs.FollowLaws.{false_at}

pub back_level : (s : State) (lits : List Literal) (back : ℕ) → IsBacked s lits back →
    decided (after_backtrack back s).reasons ≡ back
back_level s lits back b = decided-kept back s.reasons (omega (arith, b.lower))

module _ (s : State) (lits : List Literal) (back : ℕ) (facts : KeepsFacts s) (b : IsBacked s lits back) where
  on_trail : (k : ℕ) → k < length lits → trail_index s.trail (lit_at lits k).variable < length s.trail
  on_trail k k_in = trail_index-some s.trail (lit_at lits k) false
      (false_at (value_of s.trail) lits b.false_ k k_in)

  stays : (k : ℕ) → k < length lits → level_in s lits k ≤ back →
      trail_index s.trail (lit_at lits k).variable < kept back s.reasons
  stays k k_in le = omega (
    arith,
    kept_above back (trail_index s.trail (lit_at lits k).variable + 1) s.reasons
        le (omega (arith, on_trail k k_in, facts.trail.same_length)),
  )

  goes : (k : ℕ) → k < length lits → back < level_in s lits k →
      kept back s.reasons ≤ trail_index s.trail (lit_at lits k).variable
  goes k k_in more = omega (
    arith,
    kept_below back (trail_index s.trail (lit_at lits k).variable + 1) s.reasons
        more,
  )

  stays_false : (k : ℕ) → k < length lits → level_in s lits k ≤ back →
      value_of (after_backtrack back s).trail (lit_at lits k) ≡ Some false
  stays_false k k_in le = value_of-take (kept back s.reasons) s.trail (lit_at lits k) (stays k k_in le)
      ∙ false_at (value_of s.trail) lits b.false_ k k_in

  pub back_unit : IsUnitAt (after_backtrack back s).trail lits b.present
  back_unit = record {
    free_in = b.present_in;
    no_value = value_of-take_none (kept back s.reasons) s.trail (lit_at lits b.present)
        (goes b.present b.present_in (omega (arith, b.present_level, b.lower)));
    others = λ k k_in ne. stays_false k k_in (b.others k k_in ne);
  }

  pub back_asserting : 1 ≤ back → IsAsserting (after_backtrack back s) lits
  back_asserting some = ⊎_elim
      (λ z. absurd (omega (arith, z, some)))
      (λ k. record {
        free = b.present;
        free_in = b.present_in;
        free_none = back_unit.no_value;
        others = back_unit.others;
        recent = k.0;
        recent_in = k.1;
        recent_false = stays_false k.0 k.1 (omega (arith, k.3));
        recent_level =
            let n : ℕ = kept back s.reasons in
            let below : trail_index s.trail (lit_at lits k.0).variable < n =
            stays k.0 k.1 (omega (arith, k.3)) in
            let n_le : n ≤ length s.trail = omega (arith, kept-le back s.reasons, facts.trail.same_length) in
            ap (level_at (take n s.reasons))
            (trail_index-take n s.trail (lit_at lits k.0).variable below n_le)
            ∙ (ap decided (take-take (trail_index s.trail (lit_at lits k.0).variable + 1) n s.reasons
            (omega arith)) ∙ (k.3 ∙ sym (back_level s lits back b)));
      })
      b.met

-- a clause that was added is a reason for its literal without a value
pub added_reason : (old new : State) (clause number free : ℕ) (lits : List Literal) →
    AddsClause old new clause lits number → IsUnitAt old.trail lits free →
    IsReason (lits_in new.clauses clause) new.trail (lit_at lits free)
added_reason old new clause number free lits adds unit =
    let t : Literal = lit_at lits free in
    let same : IsPermutation lits (lits_in new.clauses clause) =
    permuted (clause_in new.clauses clause) adds.there in
    let Fits : Literal → Type 0 = λ x. index_of x ≢ index_of t → value_of new.trail x ≡ Some false in
    let all : All Fits (lits_in new.clauses clause) =
    All-permutation Fits lits (lits_in new.clauses clause) same
    (All-from_get_or Fits lits no_literal (λ k k_in ne. ap
    (λ (T : List Literal). value_of T (lit_at lits k)) adds.trail
    ∙ unit.others k k_in (λ e. ne (ap (index_at lits) e)))) in
    record {
      has = sym (has_literal-permutation t lits (lits_in new.clauses clause) same)
          ∙ has_literal-at lits free unit.free_in;
      others = λ k k_in. All-get_or Fits (lits_in new.clauses clause) k no_literal k_in all;
    }
  where
    permuted : (o : Option Clause) → SameClause (Some (record { lits = lits; number = number })) o →
        IsPermutation lits (plain_lits o)
    permuted None h = absurd h
    permuted (Some c) h = h.1
