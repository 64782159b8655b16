-- What a deletion leaves of a search's clauses and of its marks.

use Rattle.std.proofs.Common.{◌≡◌, ◌≢◌, ℕ, suc, zero, ◌+◌, ◌<◌, ◌==◌, ◌||◌, Bool, true, false, Option, None, Some, List, [], ◌∷◌, All, length, get_or, set, map, refl, sym, ap, subst, ◌∙◌, arith, ⊎_elim, get_or-set_same, get_or-set_other}
use Rattle.std.specs.List.{Contains}
use Rattle.std.specs.Option.{option_map}
use Rattle.std.proofs.lemmas.Bool.{cases_eq, cases_lt}
use Rattle.std.proofs.lemmas.Bool.Decides.{nat_tests}
use Rattle.std.proofs.lemmas.List.Elements.{All-contains}
use Rattle.std.proofs.lemmas.Option.{none-some}
use Rattle.ba_lits.specs.Literals.{Literal}
use Rattle.ba_watch.specs.Threads.{Clause}
use Rattle.ba_watch.specs.Propagation.{State as Watching}
use Rattle.ba_watch.specs.Deletion.{KeepsOthers, Deletes, MayDelete, IsNamed}
use Rattle.ba_watch.proofs.Deleted.{named_from, contains_from}
use Rattle.ba_watch.proofs.DeletedSound.{some_within}
use Rattle.ba_checker.specs.States.{Kept, State, clause_at, without, without_all}
use Rattle.ba_checker.specs.StepRules.{after_delete}
use Rattle.ba_learn.specs.Live.{AreLive, IsSame}
use Rattle.ba_search.specs.Iterations.{Numbering, MarksLive, MarksOne, IsNoReason, Forgets, AreDecisions, IsUnderway}
use Rattle.ba_search.proofs.DeletionLaws.{length-without_all, without_other}

-- the marks of so many numbers are taken off
pub record HasForgotten (numbers : List ℕ) (count : ℕ) (old new : List Bool) : Type 0 where
  pub gone : (n : ℕ) → IsNamed numbers count n → get_or new n false ≡ false
  pub stays : (n : ℕ) → (IsNamed numbers count n → ⊥) → get_or new n false ≡ get_or old n false

pub forgotten_none : (numbers : List ℕ) (taken : List Bool) → HasForgotten numbers 0 taken taken
forgotten_none numbers taken = record {
  gone = λ n named. absurd (omega (arith, named.1));
  stays = λ n other. refl;
}

pub forgotten_more : (numbers : List ℕ) (i x : ℕ) (old now new : List Bool) → x ≡ get_or numbers i 0
    → get_or new x false ≡ false → ((n : ℕ) → n ≢ x → get_or new n false ≡ get_or now n false)
    → HasForgotten numbers i old now → HasForgotten numbers (i + 1) old new
forgotten_more numbers i x old now new x_is cleared others h = record {
  gone = λ n named. ⊎_elim
      (λ e. ap (λ (m : ℕ). get_or new m false) e ∙ cleared)
      (λ ne. others n ne ∙ h.gone n (
        named.0,
        below n named.0 named.1
            (λ k_is. ne (sym named.2 ∙ (ap (λ k. get_or numbers k 0) k_is ∙ sym x_is))),
        named.2,
      ))
      (cases_eq n x);
  stays = λ n other.
      let ne : n ≢ x = λ e. other (i, omega arith, sym x_is ∙ sym e) in
      others n ne ∙ h.stays n (λ named. other (named.0, omega (arith, named.1), named.2));
}
  where
    below : (n k : ℕ) → k < i + 1 → (k ≡ i → ⊥) → k < i
    below n k h ne = ⊎_elim (λ lt. lt) (λ ge. absurd (ne (omega (arith, ge, h)))) (cases_lt k i)

pub forgets_all : (numbers : List ℕ) (count : ℕ) (old new : List Bool) → count ≡ length numbers
    → HasForgotten numbers count old new → Forgets numbers old new
forgets_all numbers count old new count_is h =
    let whole : HasForgotten numbers (length numbers) old new =
    subst (λ (m : ℕ). HasForgotten numbers m old new) count_is h in
    record {
      gone = λ n has. whole.gone n (named_from numbers n has);
      stays = λ n other. whole.stays n (λ named. other (contains_from numbers n named));
    }

-- a mark is set
pub marks_set : (old grown new : List Bool) (number : ℕ) →
    ((k : ℕ) → get_or grown k false ≡ get_or old k false)
    → number < length grown → new ≡ set grown number true → MarksOne old new number
marks_set old grown new number same within new_is k = ⊎_elim
    (λ e. ap (λ (xs : List Bool). get_or xs k false) new_is
    ∙ (ap (λ (m : ℕ). get_or (set grown number true) m false) e
    ∙ (get_or-set_same grown number true false within ∙ sym (hit k (get_or old k false) e))))
    (λ ne. ap (λ (xs : List Bool). get_or xs k false) new_is
    ∙ (get_or-set_other grown number k true false ne ∙ (same k ∙ sym (miss k (get_or old k false) ne))))
    (cases_eq k number)
  where
    hit : (k : ℕ) (b : Bool) → k ≡ number → ((k == number) || b) ≡ true
    hit k b e = grind (arith, nat_tests, e)

    miss : (k : ℕ) (b : Bool) → k ≢ number → ((k == number) || b) ≡ b
    miss k b ne = grind (arith, nat_tests, ne)

-- the clauses of a checker without some of them
without_here : (cs : List Kept) (n : ℕ) → clause_at (without cs n) n ≡ None
without_here cs zero = refl
without_here [] (suc k) = refl
without_here (c ∷ cs) (suc zero) = refl
without_here (c ∷ cs) (suc (suc k)) = without_here cs (suc k)

still_none : (cs : List Kept) (ns : List ℕ) (n : ℕ) → clause_at cs n ≡ None →
    clause_at (without_all cs ns) n ≡ None
still_none cs [] n none = none
still_none cs (m ∷ ms) n none = still_none (without cs m) ms n
    (⊎_elim (λ e. ap (clause_at (without cs m)) e ∙ without_here cs m) (λ ne. without_other cs n m ne
    ∙ none) (cases_eq n m))

without_gone : (cs : List Kept) (ns : List ℕ) (k n : ℕ) → k < length ns → get_or ns k 0 ≡ n →
    clause_at (without_all cs ns) n ≡ None
without_gone cs [] k n h e = absurd (omega (arith, h))
without_gone cs (m ∷ ms) zero n h e =
    still_none (without cs m) ms n (ap (clause_at (without cs m)) (sym e) ∙ without_here cs m)
without_gone cs (m ∷ ms) (suc k) n h e = without_gone (without cs m) ms k n (omega (arith, h)) e

without_stays : (cs : List Kept) (ns : List ℕ) (n : ℕ) → ((k : ℕ) → k < length ns → get_or ns k 0 ≡ n → ⊥)
    → clause_at (without_all cs ns) n ≡ clause_at cs n
without_stays cs [] n other = refl
without_stays cs (m ∷ ms) n other =
    without_stays (without cs m) ms n (λ k h e. other (suc k) (omega (arith, h)) e)
    ∙ without_other cs n m (λ e. other 0 (omega arith) (sym e))

-- the search's clauses are still those of the checker
pub live_deleted : (old new : List (Option Clause)) (cs : List Kept) (ns : List ℕ) (moved : ℕ → ℕ)
    → KeepsOthers ns moved old new → AreLive old (clause_at cs) → AreLive new (clause_at (without_all cs ns))
live_deleted old new cs ns moved keeps live = record {
  each = λ q c is.
      let source = keeps.only q c is in
      let same : clause_at (without_all cs ns) c.number ≡ clause_at cs c.number =
      without_stays cs ns c.number (λ k h e. source.stays (contains_from ns c.number (k, h, e))) in
      subst (λ (o : Option (List Literal)). IsSame o c.lits) (sym same)
      (live.each source.from c source.there);
  all = λ n given is.
      let other : Contains ns n → ⊥ = λ has.
      let named = named_from ns n has in
      none-some given (sym (without_gone cs ns named.0 n named.1 named.2) ∙ is) in
      let was : clause_at cs n ≡ Some given =
      sym (without_stays cs ns n (λ k h e. other (contains_from ns n (k, h, e)))) ∙ is in
      let found = live.all n given was in (
        moved found.0,
        found.1,
        keeps.there found.0 found.1 found.2 (λ has. other (subst (λ m. Contains ns m) found.3 has)),
        found.3,
      );
}

-- and its marks are theirs
pub marks_deleted : (old new : List (Option Clause)) (ns : List ℕ) (moved : ℕ → ℕ) (before after : List Bool)
    → KeepsOthers ns moved old new → Forgets ns before after → MarksLive old before → MarksLive new after
marks_deleted old new ns moved before after keeps forgets marks = record {
  each = λ n is.
      let other : Contains ns n → ⊥ = λ has. clash (sym (forgets.gone n has) ∙ is) in
      let found = marks.each n (sym (forgets.stays n other) ∙ is) in
      record {
        reference = moved found.reference;
        clause = found.clause;
        there = keeps.there found.reference found.clause found.there
            (λ has. other (subst (λ m. Contains ns m) found.named has));
        named = found.named;
      };
  marked = λ q c is.
      let source = keeps.only q c is in
      forgets.stays c.number source.stays ∙ marks.marked source.from c source.there;
  alone = λ a b c d a_is b_is e.
      let x = keeps.only a c a_is in
      let y = keeps.only b d b_is in
      sym x.to ∙ (ap moved (marks.alone x.from y.from c d x.there y.there e) ∙ y.to);
}
  where
    clash : false ≡ true → ⊥
    clash e = cc e

-- the numbers that the keep rule discards may be deleted
pub may_delete : (s : Watching) (taken : List Bool) (ns : List ℕ) → MarksLive s.clauses taken →
    All (IsNoReason s) ns → MayDelete s ns
may_delete s taken ns marks none = record {
  alone = marks.alone;
  no_reason = λ p r d is at has.
      All-contains (IsNoReason s) ns d.number none has p r d (some_within s.reasons p r is) is at refl;
}

-- the search goes on
pub underway_deleted : (a : List Literal) (s t : Watching) (old new : Numbering) (c d : State) (ns : List ℕ)
    → d ≡ after_delete c ns → Deletes s t ns → Forgets ns old.taken new.taken → IsUnderway a s old c →
    IsUnderway a t new d
underway_deleted a s t old new c d ns is del forgets u = record {
  numbered = marks_deleted s.clauses t.clauses ns del.moved old.taken new.taken del.clauses forgets
      u.numbered;
  live = subst (λ (x : State). AreLive t.clauses (clause_at x.clauses)) (sym is)
      (live_deleted s.clauses t.clauses c.clauses ns del.moved del.clauses u.live);
  few = omega (arith, ap (λ (x : State). length x.clauses) is, length-without_all c.clauses ns, u.few);
  room = omega (arith, ap (λ (x : State). x.variables) is, del.variables, u.room);
  decisions = subst (λ (n : ℕ). AreDecisions n a t.trail t.reasons) (sym (ap (λ (x : State). x.variables) is))
      (subst (λ (ls : List Literal). AreDecisions c.variables a ls t.reasons) (sym del.trail)
      (λ p within none. u.decisions p within (before (get_or s.reasons p None) refl
      (sym (get_or-mapped s.reasons p) ∙ (ap (λ (rs : List (Option ℕ)). get_or rs p None) (sym del.reasons)
      ∙ none)))));
  begun = ap (λ (x : State). x.ended) is ∙ u.begun;
  awake = ap (λ (x : State). x.refused) is ∙ u.awake;
}
  where
    get_or-mapped : (rs : List (Option ℕ)) (k : ℕ) →
        get_or (map (option_map del.moved) rs) k None ≡ option_map del.moved (get_or rs k None)
    get_or-mapped [] k = refl
    get_or-mapped (x ∷ xs) zero = refl
    get_or-mapped (x ∷ xs) (suc k) = get_or-mapped xs k

    before : {o : Option ℕ} (x : Option ℕ) → o ≡ x → option_map del.moved x ≡ None → o ≡ None
    before None e none = e
    before (Some r) e none = absurd (cc none)
