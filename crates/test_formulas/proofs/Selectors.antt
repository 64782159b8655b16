-- Soft literals of ascending variables are different.

use Rattle.std.proofs.Common.{◌≡◌, ℕ, ◌<◌, ◌≤◌, Bool, true, false, cond, ltb, List, [], ◌∷◌, All, arith, sym, subst, length, drop}
use Rattle.std.proofs.lemmas.List.{drop_all}
use Rattle.std.proofs.lemmas.List.Elements.{All-nil, All-cons}
use Rattle.ba_lits.specs.Satisfaction.{Soft}
use Rattle.ba_checker.specs.States.{present}
use Rattle.ba_checker.specs.Facts.{Differs, AreDifferent, AreAmong, AreSelectors}

-- positive, of ascending variables above one number and up to another
abbrev pub AscendAbove : ℕ → ℕ → List Soft → Type 0
AscendAbove variables low [] = Unit {0}
AscendAbove variables low (s ∷ ss) = (s.0.negated ≡ false) × (low < s.0.variable) × (s.0.variable ≤ variables) × AscendAbove variables s.0.variable ss

differs : (variables x low : ℕ) (softs : List Soft) → x ≤ low → AscendAbove variables low softs → Differs x (present softs)
differs variables x low [] le h = tt
differs variables x low (s ∷ ss) le h = cases (ltb 0 s.1) (differs variables x s.0.variable ss (omega (arith, h.1, le)) h.3)
  where
    cases : (t : Bool) → Differs x (present ss) → Differs x (cond t (s ∷ present ss) (present ss))
    cases true rest = (λ same. absurd (omega (arith, same, h.1, le)), rest)
    cases false rest = rest

different : (variables low : ℕ) (softs : List Soft) → AscendAbove variables low softs → AreDifferent (present softs)
different variables low [] h = tt
different variables low (s ∷ ss) h = cases (ltb 0 s.1) (differs variables s.0.variable s.0.variable ss (omega arith) h.3) (different variables s.0.variable ss h.3)
  where
    cases : (t : Bool) → Differs s.0.variable (present ss) → AreDifferent (present ss) → AreDifferent (cond t (s ∷ present ss) (present ss))
    cases true first rest = (first, rest)
    cases false first rest = rest

all_present : (P : Soft → Type 0) (s : Soft) (ss : List Soft) → P s → All P (present ss) → All P (present (s ∷ ss))
all_present P s ss here rest = cases (ltb 0 s.1)
  where
    cases : (t : Bool) → All P (cond t (s ∷ present ss) (present ss))
    cases true = All-cons P s (present ss) here rest
    cases false = rest

among : (variables low : ℕ) (softs : List Soft) → AscendAbove variables low softs → AreAmong variables (present softs)
among variables low [] h = All-nil (λ (s : Soft). (1 ≤ s.0.variable) × (s.0.variable ≤ variables))
among variables low (s ∷ ss) h = all_present (λ (s : Soft). (1 ≤ s.0.variable) × (s.0.variable ≤ variables)) s ss (omega (arith, h.1), h.2) (among variables s.0.variable ss h.3)

positive : (variables low : ℕ) (softs : List Soft) → AscendAbove variables low softs → All (λ (s : Soft). s.0.negated ≡ false) (present softs)
positive variables low [] h = All-nil (λ (s : Soft). s.0.negated ≡ false)
positive variables low (s ∷ ss) h = all_present (λ (s : Soft). s.0.negated ≡ false) s ss h.0 (positive variables s.0.variable ss h.3)

pub above_selectors : (variables low : ℕ) (softs : List Soft) → AscendAbove variables low softs → AreSelectors variables softs
above_selectors variables low softs h = record { positive = positive variables low softs h; among = among variables low softs h; differ = different variables low softs h }

-- all soft literals were looked at
pub above_done : (variables last i : ℕ) (softs : List Soft) → length softs ≤ i → (AscendAbove variables last (drop i softs) → AscendAbove variables 0 softs) → AreSelectors variables softs
above_done variables last i softs past h =
    let P : List Soft → Type 0 = λ ss. AscendAbove variables last ss in
    above_selectors variables 0 softs (h (subst P (sym (drop_all i softs past)) tt))
