-- The soft literals of at least a weight, among the others.

use Rattle.std.proofs.Common.{◌≡◌, ◌≢◌, ℕ, ◌≤◌, Bool, true, false, not, ◌||◌, ltb, cond, List, [], ◌∷◌, refl, ap, subst}
use Rattle.std.proofs.lemmas.List.Elements.{All-filter}
use Rattle.std.proofs.lemmas.Bool.{or_right}
use Rattle.ba_lits.specs.Literals.{Literal, negate, lit_at, index_of}
use Rattle.ba_lits.specs.Satisfaction.{Soft}
use Rattle.ba_lits.specs.Hints.{has_literal}
use Rattle.ba_checker.specs.States.{State}
use Rattle.ba_checker.specs.Facts.{Differs, AreDifferent, AreAmong}
use Rattle.ba_search.specs.Answers.{AreAssumptions, IsModel, IsCore}
use Rattle.ba_cores.specs.Rounds.{literals_of, heavy}
use Rattle.ba_cores.proofs.CoreLaws.{softs_assumed}

-- they are of different variables
differs_if : (x : ℕ) (b : Bool) (s : Soft) (kept : List Soft) → s.0.variable ≢ x → Differs x kept →
    Differs x (cond b (s ∷ kept) kept)
differs_if x true s kept first rest = (first, rest)
differs_if x false s kept first rest = rest

heavy_differs : (x weight : ℕ) (softs : List Soft) → Differs x softs → Differs x (heavy weight softs)
heavy_differs x weight [] d = d
heavy_differs x weight (s ∷ ss) d = differs_if x (not (ltb s.1 weight)) s (heavy weight ss) d.0
    (heavy_differs x weight ss d.1)

different_if : (b : Bool) (s : Soft) (kept : List Soft) → Differs s.0.variable kept → AreDifferent kept →
    AreDifferent (cond b (s ∷ kept) kept)
different_if true s kept first rest = (first, rest)
different_if false s kept first rest = rest

heavy_different : (weight : ℕ) (softs : List Soft) → AreDifferent softs → AreDifferent (heavy weight softs)
heavy_different weight [] d = d
heavy_different weight (s ∷ ss) d = different_if (not (ltb s.1 weight)) s (heavy weight ss)
    (heavy_differs s.0.variable weight ss d.0) (heavy_different weight ss d.1)

-- so they are assumptions
pub heavy_assumed : (n m weight : ℕ) (softs : List Soft) (lits : List Literal) →
    lits ≡ literals_of (heavy weight softs) → m ≡ n → AreAmong m softs → AreDifferent softs →
    AreAssumptions n lits
heavy_assumed n m weight softs lits is same among differ =
    softs_assumed n m (heavy weight softs) lits is same
    (All-filter (λ (s : Soft). not (ltb s.1 weight)) (λ (s : Soft). (1 ≤ s.0.variable) × (s.0.variable ≤ m))
    softs among)
    (heavy_different weight softs differ)

-- a literal of them is one of all
or_more : (e a b : Bool) → (a ≡ true → b ≡ true) → (e || a) ≡ true → (e || b) ≡ true
or_more true a b more h = refl
or_more false a b more h = more h

has_if : (l : Literal) (b : Bool) (s : Soft) (kept rest : List Soft) →
    (has_literal l (literals_of kept) ≡ true → has_literal l (literals_of rest) ≡ true) →
    has_literal l (literals_of (cond b (s ∷ kept) kept)) ≡ true →
    has_literal l (literals_of (s ∷ rest)) ≡ true
has_if l true s kept rest more h = or_more (Rattle.std.proofs.Common.eqb (index_of s.0) (index_of l))
    (has_literal l (literals_of kept)) (has_literal l (literals_of rest)) more h
has_if l false s kept rest more h = or_right (Rattle.std.proofs.Common.eqb (index_of s.0) (index_of l))
    (has_literal l (literals_of rest)) (more h)

heavy_has : (l : Literal) (weight : ℕ) (softs : List Soft) →
    has_literal l (literals_of (heavy weight softs)) ≡ true →
    has_literal l (literals_of softs) ≡ true
heavy_has l weight [] h = h
heavy_has l weight (s ∷ ss) h = has_if l (not (ltb s.1 weight)) s (heavy weight ss) ss
    (heavy_has l weight ss) h

-- so a core under them is one under all
pub heavy_core : (s : State) (weight : ℕ) (lits : List Literal) (hints : List ℕ) (back : ℕ) →
    IsCore s (literals_of (heavy weight s.softs)) lits hints back →
    IsCore s (literals_of s.softs) lits hints back
heavy_core s weight lits hints back core = record {
  clause = core.clause;
  follows = core.follows;
  numbers = core.numbers;
  negates = λ k lt. heavy_has (negate (lit_at lits k)) weight s.softs (core.negates k lt);
  level = core.level;
  left = core.left;
}

-- if none is lighter they are all
heavy_if : (b : Bool) (s : Soft) (kept rest : List Soft) → b ≡ false → kept ≡ rest →
    cond (not b) (s ∷ kept) kept ≡ s ∷ rest
heavy_if true s kept rest light same = absurd (cc light)
heavy_if false s kept rest light same = ap (λ (ss : List Soft). s ∷ ss) same

pub heavy_next : (weight : ℕ) (s : Soft) (ss : List Soft) → ltb s.1 weight ≡ false → heavy weight ss ≡ ss →
    heavy weight (s ∷ ss) ≡ s ∷ ss
heavy_next weight s ss light same = heavy_if (ltb s.1 weight) s (heavy weight ss) ss light same

pub heavy_model : (s : State) (weight : ℕ) (values : List Bool) → heavy weight s.softs ≡ s.softs →
    IsModel s (literals_of (heavy weight s.softs)) values → IsModel s (literals_of s.softs) values
heavy_model s weight values all model = let P : List Soft → Type 0 =
    λ ss. IsModel s (literals_of ss) values in subst P all model
