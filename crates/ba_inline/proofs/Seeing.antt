-- The program's state through names, if the code's state changes.
use Rattle.std.proofs.Common.{◌≡◌, ℕ, zero, suc, ◌<◌, ℤ, pos, cond, None, Some, List, [], ◌∷◌, map, refl, sym, ◌∙◌, ap, subst, arith}
use Rattle.std.specs.Prelude.{slice_get, slice_index_or, slice_set}
use Rattle.std.proofs.lemmas.Bool.{eq-eqb, ne_eqb}
use Rattle.ba_code.specs.State.{CodeState, operand_value, with_array, with_at, with_variable}
use Rattle.ba_code.specs.declared.nodes.Operand.{Operand}
use Rattle.ba_code.specs.declared.nodes.Operand.TheVariants.{Const, Var}
use Rattle.ba_inline.specs.Names.{AreApart, AreApartArrays, AreBelow, IsBelow, IsNotAmong, IsOther, Names, Outside, OutsideArrays, array_of, location_at, name_of, seen}
use Rattle.ba_numbers.specs.declared.ids.VarId.{VarId}
use Rattle.ba_tree.specs.State.{State, elements_of, value_at, with_elements, with_value}

-- ONE NUMBER

pub at-self : {A : Type 0} (f : ℕ → A) (n : ℕ) (a : A) → with_at f n a n ≡ a
at-self f n a = ap (λ b. cond b a (f n)) (eq-eqb n n refl)

pub at-other : {A : Type 0} (f : ℕ → A) (n m : ℕ) (a : A) → (m ≡ n → ⊥) → with_at f n a m ≡ f m
at-other f n m a other = ap (λ b. cond b a (f m)) (ne_eqb m n other)

-- OPERANDS

pub operand-other : (t : CodeState) (n : ℕ) (z : ℤ) (o : Operand) → IsOther n o
    → operand_value (with_variable n z t) o ≡ operand_value t o
operand-other t n z (Const c) other = refl
operand-other t n z (Var m) other = at-other t.variables n m z other

pub operand-self : (t : CodeState) (n : ℕ) (z : ℤ) → operand_value (with_variable n z t) (Var n) ≡ z
operand-self t n z = at-self t.variables n z

pub operands-outside : (t : CodeState) (n : ℕ) (z : ℤ) (os : List Operand) → Outside n os
    → map (operand_value (with_variable n z t)) os ≡ map (operand_value t) os
operands-outside t n z [] out = refl
operands-outside t n z (o ∷ os) out =
    ap (λ v. v ∷ map (operand_value (with_variable n z t)) os) (operand-other t n z o out.0)
    ∙ ap (λ vs. operand_value t o ∷ vs) (operands-outside t n z os out.1)

-- a new variable is none of those below
pub other-new : (count : ℕ) (o : Operand) → IsBelow count o → IsOther count o
other-new count (Const z) below = tt
other-new count (Var m) below = λ is. absurd (omega (arith, below, is))

pub outside-new : (count : ℕ) (os : List Operand) → AreBelow count os → Outside count os
outside-new count [] below = tt
outside-new count (o ∷ os) below = (other-new count o below.0, outside-new count os below.1)

-- where one is, it occurs nowhere else
pub other-by : (o : Operand) (os : List Operand) (v n : ℕ) → IsNotAmong o os →
    slice_get os v ≡ Some (Var n) → IsOther n o
other-by o [] v n apart is = absurd (let f : None ≡ Some (Var n) = is in cc)
other-by (Const z) (q ∷ os) v n apart is = tt
other-by (Var m) (q ∷ os) zero n apart is =
    let e : q ≡ Var n = cc in let h : IsOther m (Var n) = subst (IsOther m) e apart.0 in λ same. h (sym same)
other-by (Var m) (q ∷ os) (suc v) n apart is = other-by (Var m) os v n apart.1 is

pub operands-named : (t : CodeState) (n : ℕ) (z : ℤ) (os : List Operand) (v : ℕ) → AreApart os
    → slice_get os v ≡ Some (Var n)
    → map (operand_value (with_variable n z t)) os ≡ slice_set (map (operand_value t) os) v z
operands-named t n z [] v apart is = absurd (let f : None ≡ Some (Var n) = is in cc)
operands-named t n z (o ∷ os) zero apart is =
    let e : o ≡ Var n = cc in
    ap (λ v. v ∷ map (operand_value (with_variable n z t)) os)
    (ap (operand_value (with_variable n z t)) e ∙ operand-self t n z)
    ∙ ap (λ vs. z ∷ vs) (operands-outside t n z os (subst (λ o. IsNotAmong o os) e apart.0))
operands-named t n z (o ∷ os) (suc v) apart is =
    ap (λ v. v ∷ map (operand_value (with_variable n z t)) os)
    (operand-other t n z o (other-by o os v n apart.0 is))
    ∙ ap (λ vs. operand_value t o ∷ vs) (operands-named t n z os v apart.1 is)

pub operand-at : (t : CodeState) (os : List Operand) (v : ℕ)
    → slice_index_or (map (operand_value t) os) v (pos 0) ≡ operand_value t (slice_index_or os v (Const
    (pos 0)))
operand-at t [] v = refl
operand-at t (o ∷ os) zero = refl
operand-at t (o ∷ os) (suc v) = operand-at t os v

-- VARIABLES

module _ (names : Names) (t : CodeState) where
  abbrev with_values : List ℤ → State
  with_values values = record (seen names t) { values = values }

  pub seen-outside : (n : ℕ) (z : ℤ) → Outside n names.values →
      seen names (with_variable n z t) ≡ seen names t
  seen-outside n z out = ap with_values (operands-outside t n z names.values out)

  pub seen-named : (v : VarId) (n : ℕ) (z : ℤ) → AreApart names.values →
      slice_get names.values v.0 ≡ Some (Var n)
      → seen names (with_variable n z t) ≡ with_value (seen names t) v z
  seen-named v n z apart is = ap with_values (operands-named t n z names.values v.0 apart is)

  pub seen-value : (v : VarId) → value_at (seen names t) v ≡ operand_value t (name_of names v)
  seen-value v = operand-at t names.values v.0

-- WHAT IS SEEN is the same if what is below a number is

operands-same : (base : ℕ) (os : List Operand) (t u : CodeState) → AreBelow base os
    → ((n : ℕ) → n < base → u.variables n ≡ t.variables n) → map (operand_value u) os ≡ map (operand_value
    t) os
operands-same base [] t u below same = refl
operands-same base (Const z ∷ os) t u below same = ap (λ zs. z ∷ zs) (operands-same base os t u below.1 same)
operands-same base (Var n ∷ os) t u below same =
    λ i. same n below.0 i ∷ operands-same base os t u below.1 same i

pub seen-still : (names : Names) (base : ℕ) (t u : CodeState) → AreBelow base names.values
    → ((n : ℕ) → n < base → u.variables n ≡ t.variables n) → u.arrays ≡ t.arrays → u.choices ≡ t.choices
    → seen names u ≡ seen names t
seen-still names base t u below same arrays choices = λ i. record {
  values = operands-same base names.values t u below same i;
  arrays = map (arrays i) names.arrays;
  locations = names.locations;
  choices = choices i;
}

-- ARRAYS

pub arrays-outside : (f : ℕ → List ℤ) (n : ℕ) (zs : List ℤ) (ns : List ℕ) → OutsideArrays n ns
    → map (with_at f n zs) ns ≡ map f ns
arrays-outside f n zs [] out = refl
arrays-outside f n zs (m ∷ ms) out =
    ap (λ v. v ∷ map (with_at f n zs) ms) (at-other f n m zs out.0)
    ∙ ap (λ vs. f m ∷ vs) (arrays-outside f n zs ms out.1)

pub other-array : (m : ℕ) (ms : List ℕ) (k n : ℕ) → OutsideArrays m ms → slice_get ms k ≡ Some n → m ≡ n → ⊥
other-array m [] k n out is = absurd (let f : None ≡ Some n = is in cc)
other-array m (q ∷ ms) zero n out is = λ same. out.0 (let e : q ≡ n = cc in e ∙ sym same)
other-array m (q ∷ ms) (suc k) n out is = other-array m ms k n out.1 is

pub arrays-named : (f : ℕ → List ℤ) (n : ℕ) (zs : List ℤ) (ns : List ℕ) (k : ℕ) → AreApartArrays ns
    → slice_get ns k ≡ Some n → map (with_at f n zs) ns ≡ slice_set (map f ns) k zs
arrays-named f n zs [] k apart is = absurd (let f : None ≡ Some n = is in cc)
arrays-named f n zs (m ∷ ms) zero apart is =
    let e : m ≡ n = cc in
    ap (λ v. v ∷ map (with_at f n zs) ms) (ap (with_at f n zs) e ∙ at-self f n zs)
    ∙ ap (λ vs. zs ∷ vs) (arrays-outside f n zs ms (subst (λ m. OutsideArrays m ms) e apart.0))
arrays-named f n zs (m ∷ ms) (suc k) apart is =
    ap (λ v. v ∷ map (with_at f n zs) ms) (at-other f n m zs (other-array m ms k n apart.0 is))
    ∙ ap (λ vs. f m ∷ vs) (arrays-named f n zs ms k apart.1 is)

pub array-at : (f : ℕ → List ℤ) (ns : List ℕ) (k n : ℕ) → slice_get ns k ≡ Some n
    → slice_index_or (map f ns) k [] ≡ f n
array-at f [] k n is = absurd (let f : None ≡ Some n = is in cc)
array-at f (m ∷ ms) zero n is = ap f (let e : m ≡ n = cc in e)
array-at f (m ∷ ms) (suc k) n is = array-at f ms k n is

module _ (names : Names) (t : CodeState) where
  abbrev with_arrays : List (List ℤ) → State
  with_arrays arrays = record (seen names t) { arrays = arrays }

  pub seen-array-outside : (n : ℕ) (zs : List ℤ) → OutsideArrays n names.arrays
      → seen names (with_array n zs t) ≡ seen names t
  seen-array-outside n zs out = ap with_arrays (arrays-outside t.arrays n zs names.arrays out)

  pub seen-elements : (v : VarId) (n : ℕ) → array_of names v ≡ Some n →
      elements_of (seen names t) v ≡ t.arrays n
  seen-elements v n is = array-at t.arrays names.arrays (location_at names v) n is

  pub seen-array : (v : VarId) (n : ℕ) (zs : List ℤ) → AreApartArrays names.arrays → array_of names v ≡ Some n
      → seen names (with_array n zs t) ≡ with_elements (seen names t) v zs
  seen-array v n zs apart is = ap with_arrays (arrays-named t.arrays n zs names.arrays (location_at names
      v) apart is)
