-- A list that is written for a row, item by item, and what is left of the row.

use Rattle.std.proofs.Common.{◌≡◌, ℕ, ◌+◌, ◌-◌, ◌<◌, ◌≤◌, Bool, true, false, List, [], ◌∷◌, ◌++◌, length, get_or, drop, ltb, cond, refl, sym, ap, ◌∙◌, append_assoc, append-nil}
use Rattle.std.proofs.lemmas.List.{at_drop_more, at_drop_all}
use Rattle.ba_lits.specs.Literals.{Literal, negate}
use Rattle.ba_lits.specs.Hints.{has_literal}
use Rattle.ba_lits.specs.Satisfaction.{Soft}
use Rattle.ba_checker.specs.Splits.{lowered}
use Rattle.ba_checker.specs.States.{present}

-- the next item is written
pub drop_step : {A B : Type 0} (f : List A → List B)
    → ((x : A) (xs : List A) → f (x ∷ xs) ≡ f (x ∷ []) ++ f xs)
    → (all now next : List B) (xs : List A) (i : ℕ) (x : A) → i < length xs → x ≡ get_or xs i x
    → next ≡ now ++ f (x ∷ []) → now ++ f (drop i xs) ≡ all → next ++ f (drop (i + 1) xs) ≡ all
drop_step f cons all now next xs i x within x_is next_is now_is =
    ap (λ ys. ys ++ f (drop (i + 1) xs)) next_is
    ∙ (append_assoc now (f (x ∷ [])) (f (drop (i + 1) xs))
    ∙ (ap (λ ys. now ++ ys) (sym (at_drop_more f xs i x within
    ∙ (ap (λ y. f (y ∷ drop (i + 1) xs)) (sym x_is) ∙ cons x (drop (i + 1) xs)))) ∙ now_is))

-- nothing is left
pub drop_end : {A B : Type 0} (f : List A → List B) → f [] ≡ []
    → (all now : List B) (xs : List A) (i : ℕ) → length xs ≤ i → now ++ f (drop i xs) ≡ all → now ≡ all
drop_end f none all now xs i past now_is =
    sym (append-nil now) ∙ (ap (λ ys. now ++ ys) (sym (at_drop_all f xs i past ∙ none)) ∙ now_is)

pub present-cons : (s : Soft) (ss : List Soft) → present (s ∷ ss) ≡ present (s ∷ []) ++ present ss
present-cons s ss = by_test (ltb 0 s.1)
  where
    by_test : (b : Bool) → cond b (s ∷ present ss) (present ss) ≡ cond b (s ∷ []) [] ++ present ss
    by_test true = refl
    by_test false = refl

pub lowered-cons : (core : List Literal) (w : ℕ) (s : Soft) (ss : List Soft) →
    lowered core w (s ∷ ss) ≡ lowered core w (s ∷ []) ++ lowered core w ss
lowered-cons core w s ss = by_tests (has_literal (negate s.0) core) (ltb w s.1)
  where
    by_tests : (a b : Bool)
        → cond a (cond b ((s.0, s.1 - w) ∷ lowered core w ss) (lowered core w ss)) (s ∷ lowered core w ss)
        ≡ cond a (cond b ((s.0, s.1 - w) ∷ []) []) (s ∷ []) ++ lowered core w ss
    by_tests true true = refl
    by_tests true false = refl
    by_tests false b = refl
