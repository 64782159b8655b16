-- What comes back at the end of a frame.
use Rattle.std.proofs.Common.{◌≡◌, ℕ, zero, suc, ◌<◌, ◌⊎◌, inl, inr, pos, None, Some, List, [], ◌∷◌, ◌++◌, map, refl, sym, ◌∙◌, ap, subst}
use Rattle.std.proofs.lemmas.Bool.{cases_eq}
use Rattle.std.proofs.lemmas.List.{map-set, set_comm, set-get_or, set-set}
use Rattle.std.specs.Prelude.{slice_get, slice_index_or, slice_set}
use Rattle.ba_code.specs.State.{CodeState, operand_value}
use Rattle.ba_code.specs.declared.nodes.Operand.{Operand}
use Rattle.ba_code.specs.declared.nodes.Operand.TheVariants.{Const, Var}
use Rattle.ba_inline.specs.Binding.{restored}
use Rattle.ba_inline.specs.Names.{AreApart, AreBelow, IsNotAmong, IsOther, Outside}
use Rattle.ba_numbers.specs.declared.ids.VarId.{VarId}

-- RESTORING

pub restored-append : {A : Type 0} (d : A) (vs : List VarId) (v : VarId) (before now : List A)
    → restored d (vs ++ v ∷ []) before now ≡ slice_set (restored d vs before now) v.0 (slice_index_or
    before v.0 d)
restored-append d [] v before now = refl
restored-append d (w ∷ vs) v before now = restored-append d vs v before (slice_set now w.0 (slice_index_or
    before w.0 d))

-- what is overwritten later need not be restored before
over-step : {A : Type 0} (d : A) (vs : List VarId) (n m : ℕ) (x y b : A) (before now : List A)
    → (n ≡ m) ⊎ (n ≡ m → ⊥)
    → ((now : List A) →
    slice_set (restored d vs before (slice_set now n x)) n y ≡ slice_set (restored d vs before now) n y)
    → slice_set (restored d vs before (slice_set (slice_set now n x) m b)) n y
    ≡ slice_set (restored d vs before (slice_set now m b)) n y
over-step d vs n m x y b before now (inl e) same =
    ap (λ m. slice_set (restored d vs before (slice_set (slice_set now n x) m b)) n y) (sym e)
    ∙ ap (λ now. slice_set (restored d vs before now) n y) (set-set now n x b)
    ∙ ap (λ m. slice_set (restored d vs before (slice_set now m b)) n y) e
over-step d vs n m x y b before now (inr other) same =
    ap (λ now. slice_set (restored d vs before now) n y) (set_comm now n m x b other)
    ∙ same (slice_set now m b)

pub restored-over : {A : Type 0} (d : A) (vs : List VarId) (n : ℕ) (x y : A) (before now : List A)
    → slice_set (restored d vs before (slice_set now n x)) n y ≡ slice_set (restored d vs before now) n y
restored-over d [] n x y before now = set-set now n x y
restored-over d (w ∷ vs) n x y before now = over-step d vs n w.0 x y (slice_index_or before w.0 d) before now
    (cases_eq n w.0) (λ now. restored-over d vs n x y before now)

-- a list that has come back has come back if one more variable does
pub restored-more : {A : Type 0} (d : A) (vs : List VarId) (v : VarId) (x : A) (before now whole : List A)
    → restored d vs before now ≡ whole → slice_index_or before v.0 d ≡ slice_index_or whole v.0 d
    → restored d (vs ++ v ∷ []) before (slice_set now v.0 x) ≡ whole
restored-more d vs v x before now whole is same =
    restored-append d vs v before (slice_set now v.0 x)
    ∙ restored-over d vs v.0 x (slice_index_or before v.0 d) before now
    ∙ ap (λ now. slice_set now v.0 (slice_index_or before v.0 d)) is
    ∙ ap (slice_set whole v.0) same
    ∙ set-get_or whole v.0 d

pub restored-same : {A : Type 0} (d : A) (vs : List VarId) (v : VarId) (before now whole : List A)
    → restored d vs before now ≡ whole → slice_index_or before v.0 d ≡ slice_index_or whole v.0 d
    → restored d (vs ++ v ∷ []) before now ≡ whole
restored-same d vs v before now whole is same =
    restored-append d vs v before now
    ∙ ap (λ now. slice_set now v.0 (slice_index_or before v.0 d)) is
    ∙ ap (slice_set whole v.0) same
    ∙ set-get_or whole v.0 d

-- WHERE VARIABLES OF THE CODE STAND

pub outside-set : (os : List Operand) (v m n : ℕ) → (m ≡ n → ⊥) → Outside n os →
    Outside n (slice_set os v (Var m))
outside-set [] v m n other out = tt
outside-set (o ∷ os) zero m n other out = (other, out.1)
outside-set (o ∷ os) (suc v) m n other out = (out.0, outside-set os v m n other out.1)

not-among-set : (o : Operand) (os : List Operand) (v m : ℕ) → IsOther m o → IsNotAmong o os
    → IsNotAmong o (slice_set os v (Var m))
not-among-set (Const z) os v m other apart = tt
not-among-set (Var n) os v m other apart = outside-set os v m n (λ same. other (sym same)) apart

pub apart-set : (os : List Operand) (v m : ℕ) → Outside m os → AreApart os → AreApart (slice_set os v (Var m))
apart-set [] v m out apart = tt
apart-set (o ∷ os) zero m out apart = (out.1, apart.1)
apart-set (o ∷ os) (suc v) m out apart = (
  not-among-set o os v m out.0 apart.0,
  apart-set os v m out.1
      apart.1,
)

pub below-set : (os : List Operand) (v m count : ℕ) → m < count → AreBelow count os →
    AreBelow count (slice_set os v (Var m))
below-set [] v m count few below = tt
below-set (o ∷ os) zero m count few below = (few, below.1)
below-set (o ∷ os) (suc v) m count few below = (below.0, below-set os v m count few below.1)

further : (os : List Operand) (v m w n : ℕ) → ((w ≡ v) × (m ≡ n)) ⊎ (slice_get os w ≡ Some (Var n))
    → ((suc w ≡ suc v) × (m ≡ n)) ⊎ (slice_get os w ≡ Some (Var n))
further os v m w n (inl both) = inl (ap suc both.0, both.1)
further os v m w n (inr found) = inr found

-- if a list with one more variable has a variable
pub found-set : (os : List Operand) (v m w n : ℕ) → slice_get (slice_set os v (Var m)) w ≡ Some (Var n)
    → ((w ≡ v) × (m ≡ n)) ⊎ (slice_get os w ≡ Some (Var n))
found-set [] v m w n found = inr found
found-set (o ∷ os) zero m zero n found = inl (refl, (let e : Var m ≡ Var n = cc in cc))
found-set (o ∷ os) zero m (suc w) n found = inr found
found-set (o ∷ os) (suc v) m zero n found = inr found
found-set (o ∷ os) (suc v) m (suc w) n found = further os v m w n (found-set os v m w n found)

-- a variable that occurs nowhere is outside
pub outside-by : (os : List Operand) (n : ℕ) → ((v : ℕ) → slice_get os v ≡ Some (Var n) → ⊥) → Outside n os
outside-by [] n none = tt
outside-by (Const z ∷ os) n none = (tt, outside-by os n (λ v found. none (suc v) found))
outside-by (Var m ∷ os) n none =
    ((λ same. none 0 (ap (λ m. Some (Var m)) same)), outside-by os n (λ v found. none (suc v) found))

-- and one that is outside occurs nowhere
pub not-found : (os : List Operand) (n v : ℕ) → Outside n os → slice_get os v ≡ Some (Var n) → ⊥
not-found [] n v out found = absurd (let f : None ≡ Some (Var n) = found in cc)
not-found (o ∷ os) n zero out found = let e : o ≡ Var n = cc in (subst (IsOther n) e out.0) refl
not-found (o ∷ os) n (suc v) out found = not-found os n v out.1 found

-- if variables are apart, each is in one place
pub one-place : (os : List Operand) (n v w : ℕ) → AreApart os → slice_get os v ≡ Some (Var n) →
    slice_get os w ≡ Some (Var n)
    → v ≡ w
one-place [] n v w apart found again = absurd (let f : None ≡ Some (Var n) = found in cc)
one-place (o ∷ os) n zero zero apart found again = refl
one-place (o ∷ os) n zero (suc w) apart found again =
    let e : o ≡ Var n = cc in absurd (not-found os n w (subst (λ o. IsNotAmong o os) e apart.0) again)
one-place (o ∷ os) n (suc v) zero apart found again =
    let e : o ≡ Var n = cc in absurd (not-found os n v (subst (λ o. IsNotAmong o os) e apart.0) found)
one-place (o ∷ os) n (suc v) (suc w) apart found again = ap suc (one-place os n v w apart.1 found again)

-- READS

-- what is at a place of names reads the same, if its variable has the same value
pub same-at : (os : List Operand) (v : ℕ) (t u : CodeState)
    → ((n : ℕ) → slice_get os v ≡ Some (Var n) → u.variables n ≡ t.variables n)
    → slice_index_or (map (operand_value t) os) v (pos 0) ≡ slice_index_or (map (operand_value u) os) v
    (pos 0)
same-at [] v t u same = refl
same-at (Const z ∷ os) zero t u same = refl
same-at (Var n ∷ os) zero t u same = sym (same n refl)
same-at (o ∷ os) (suc v) t u same = same-at os v t u same

pub read-set : (u : CodeState) (os : List Operand) (v m : ℕ)
    → map (operand_value u) (slice_set os v (Var m)) ≡ slice_set (map (operand_value u) os) v (u.variables m)
read-set u os v m = map-set (operand_value u) os v (Var m)
