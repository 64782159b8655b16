-- What the input gives to the parameters of main.
use Rattle.std.proofs.Common.{◌≡◌, ℕ, ◌+◌, ◌<◌, ◌≤◌, ◌⊎◌, inl, inr, ℤ, pos, true, cond, List, [], ◌∷◌, ◌++◌, length, take, get_or, refl, sym, ◌∙◌, ap, subst, arith}
use Rattle.std.proofs.lemmas.Bool.{and_parts, cases_eq}
use Rattle.std.proofs.lemmas.Option.{get_or_from_slice_get}
use Rattle.std.specs.List.{list_all}
use Rattle.std.specs.Prelude.{slice_index_or, ◌==◌}
use Rattle.ba_code.proofs.Ranges.{at-in, elements-in}
use Rattle.ba_code.proofs.Typed.{keeps-array, keeps-variable}
use Rattle.ba_code.specs.Run.{with_param, with_params}
use Rattle.ba_code.specs.State.{CodeState, with_at}
use Rattle.ba_code.specs.Types.{KeepsTypes, Types, element_type}
use Rattle.ba_code.specs.declared.nodes.ArrayInfo.{ArrayInfo}
use Rattle.ba_code.specs.declared.nodes.Param.{Param}
use Rattle.ba_code.specs.declared.nodes.Param.TheVariants.{Var, Array}
use Rattle.ba_inline.proofs.Rows.{next-taken}
use Rattle.ba_inline.proofs.Seeing.{at-other, at-self, seen-array, seen-elements, seen-named}
use Rattle.ba_tree.proofs.Elements.{elements-length}
use Rattle.ba_inline.specs.Names.{IsNaming, Names, seen}
use Rattle.ba_inline.specs.Starting.{AreParams, IsArrayParam, IsParam}
use Rattle.ba_inline.specs.declared.declared.Counts.{Counts}
use Rattle.ba_numbers.specs.Numbers.{is_in}
use Rattle.ba_numbers.specs.declared.ids.VarId.{VarId}
use Rattle.ba_numbers.specs.declared.numbers.CType.TheVariants.{I32}
use Rattle.ba_tree.specs.Meaning.{elements_with, type_of, variable_of}
use Rattle.ba_tree.specs.Run.{fits_all, fits_shape, fits_variable, with_input, with_input_one}
use Rattle.ba_tree.specs.State.{with_elements}
use Rattle.ba_tree.specs.declared.tree.Program.{Program}
use Rattle.ba_tree.specs.declared.tree.Shape.TheVariants as shape

-- WHAT IS LEFT AS IT WAS

-- a parameter is given to what comes after so many
abbrev pub IsOwn : Counts → Param → Type 0
IsOwn low (Var n) = low.vars ≤ n
IsOwn low (Array n) = low.arrays ≤ n

abbrev pub AreOwn : Counts → List Param → Type 0
AreOwn low [] = Unit {0}
AreOwn low (q ∷ qs) = IsOwn low q × AreOwn low qs

own-variable : (low : Counts) (q : Param) (zs : List ℤ) (t : CodeState) (n : ℕ) → IsOwn low q → n < low.vars
    → (with_param q zs t).variables n ≡ t.variables n
own-variable low (Var m) zs t n own few =
    at-other t.variables m n (slice_index_or zs 0 (pos 0)) (λ same. absurd (omega (arith, own, few, same)))
own-variable low (Array m) zs t n own few = refl

pub own-variables : (low : Counts) (qs : List Param) (given : List (List ℤ)) (t : CodeState) (n : ℕ) →
    AreOwn low qs
    → n < low.vars → (with_params qs given t).variables n ≡ t.variables n
own-variables low [] given t n own few = refl
own-variables low (q ∷ qs) [] t n own few = refl
own-variables low (q ∷ qs) (zs ∷ given) t n own few =
    own-variables low qs given (with_param q zs t) n own.1 few ∙ own-variable low q zs t n own.0 few

own-array : (low : Counts) (q : Param) (zs : List ℤ) (t : CodeState) (n : ℕ) → IsOwn low q → n < low.arrays
    → (with_param q zs t).arrays n ≡ t.arrays n
own-array low (Var m) zs t n own few = refl
own-array low (Array m) zs t n own few =
    at-other t.arrays m n (elements_with (length (t.arrays m)) zs) (λ same. absurd (omega (
      arith,
      own,
      few,
      same,
    )))

pub own-arrays : (low : Counts) (qs : List Param) (given : List (List ℤ)) (t : CodeState) (n : ℕ) →
    AreOwn low qs
    → n < low.arrays → (with_params qs given t).arrays n ≡ t.arrays n
own-arrays low [] given t n own few = refl
own-arrays low (q ∷ qs) [] t n own few = refl
own-arrays low (q ∷ qs) (zs ∷ given) t n own few =
    own-arrays low qs given (with_param q zs t) n own.1 few ∙ own-array low q zs t n own.0 few

given-choice : (q : Param) (zs : List ℤ) (t : CodeState) → (with_param q zs t).choices ≡ t.choices
given-choice (Var m) zs t = refl
given-choice (Array m) zs t = refl

pub given-choices : (qs : List Param) (given : List (List ℤ)) (t : CodeState)
    → (with_params qs given t).choices ≡ t.choices
given-choices [] given t = refl
given-choices (q ∷ qs) [] t = refl
given-choices (q ∷ qs) (zs ∷ given) t = given-choices qs given (with_param q zs t) ∙ given-choice q zs t

length-at : (t : CodeState) (m n : ℕ) (zs : List ℤ) → (n ≡ m) ⊎ (n ≡ m → ⊥)
    → length (with_at t.arrays m (elements_with (length (t.arrays m)) zs) n) ≡ length (t.arrays n)
length-at t m n zs (inl same) =
    ap (λ n. length (with_at t.arrays m (elements_with (length (t.arrays m)) zs) n)) same
    ∙ ap length (at-self t.arrays m (elements_with (length (t.arrays m)) zs))
    ∙ elements-length (length (t.arrays m)) zs ∙ ap (λ n. length (t.arrays n)) (sym same)
length-at t m n zs (inr other) = ap length (at-other t.arrays m n (elements_with (length (t.arrays m)) zs)
    other)

given-length : (q : Param) (zs : List ℤ) (t : CodeState) (n : ℕ) →
    length ((with_param q zs t).arrays n) ≡ length (t.arrays n)
given-length (Var m) zs t n = refl
given-length (Array m) zs t n = length-at t m n zs (cases_eq n m)

pub given-lengths : (qs : List Param) (given : List (List ℤ)) (t : CodeState) (n : ℕ)
    → length ((with_params qs given t).arrays n) ≡ length (t.arrays n)
given-lengths [] given t n = refl
given-lengths (q ∷ qs) [] t n = refl
given-lengths (q ∷ qs) (zs ∷ given) t n = given-lengths qs given (with_param q zs t) n ∙ given-length q zs t n

-- STATES that have the same in one place

same-variable : (q : Param) (zs : List ℤ) (t u : CodeState) (n : ℕ) → t.variables n ≡ u.variables n
    → (with_param q zs t).variables n ≡ (with_param q zs u).variables n
same-variable (Var m) zs t u n same = ap (λ z. cond (n == m) (slice_index_or zs 0 (pos 0)) z) same
same-variable (Array m) zs t u n same = same

pub same-variables : (qs : List Param) (given : List (List ℤ)) (t u : CodeState) (n : ℕ) →
    t.variables n ≡ u.variables n
    → (with_params qs given t).variables n ≡ (with_params qs given u).variables n
same-variables [] given t u n same = same
same-variables (q ∷ qs) [] t u n same = same
same-variables (q ∷ qs) (zs ∷ given) t u n same =
    same-variables qs given (with_param q zs t) (with_param q zs u) n (same-variable q zs t u n same)

same-array-by : (m : ℕ) (zs : List ℤ) (t u : CodeState) (n : ℕ) → t.arrays n ≡ u.arrays n →
    (n ≡ m) ⊎ (n ≡ m → ⊥)
    → with_at t.arrays m (elements_with (length (t.arrays m)) zs) n ≡ with_at u.arrays m (elements_with
    (length (u.arrays m)) zs) n
same-array-by m zs t u n same (inl is) =
    let at_m : t.arrays m ≡ u.arrays m = subst (λ n. t.arrays n ≡ u.arrays n) is same in
    ap (with_at t.arrays m (elements_with (length (t.arrays m)) zs)) is
    ∙ at-self t.arrays m (elements_with (length (t.arrays m)) zs)
    ∙ ap (λ (xs : List ℤ). elements_with (length xs) zs) at_m
    ∙ sym (at-self u.arrays m (elements_with (length (u.arrays m)) zs))
    ∙ ap (with_at u.arrays m (elements_with (length (u.arrays m)) zs)) (sym is)
same-array-by m zs t u n same (inr other) =
    at-other t.arrays m n (elements_with (length (t.arrays m)) zs) other ∙ same
    ∙ sym (at-other u.arrays m n (elements_with (length (u.arrays m)) zs) other)

same-array : (q : Param) (zs : List ℤ) (t u : CodeState) (n : ℕ) → t.arrays n ≡ u.arrays n
    → (with_param q zs t).arrays n ≡ (with_param q zs u).arrays n
same-array (Var m) zs t u n same = same
same-array (Array m) zs t u n same = same-array-by m zs t u n same (cases_eq n m)

pub same-arrays : (qs : List Param) (given : List (List ℤ)) (t u : CodeState) (n : ℕ) →
    t.arrays n ≡ u.arrays n
    → (with_params qs given t).arrays n ≡ (with_params qs given u).arrays n
same-arrays [] given t u n same = same
same-arrays (q ∷ qs) [] t u n same = same
same-arrays (q ∷ qs) (zs ∷ given) t u n same =
    same-arrays qs given (with_param q zs t) (with_param q zs u) n (same-array q zs t u n same)

-- THE PARAMETERS OF MAIN

module _ (p : Program) (names : Names) (low : Counts) (high : Types) where
  param-own : (v : VarId) (q : Param) → IsParam p names low high v q → IsOwn low q
  param-own v (Var n) is = is.is_own
  param-own v (Array n) is = is.is_own

  pub params-own : (vs : List VarId) (qs : List Param) → AreParams p names low high vs qs → AreOwn low qs
  params-own [] [] all = tt
  params-own [] (q ∷ qs) all = absurd all
  params-own (v ∷ vs) [] all = absurd all
  params-own (v ∷ vs) (q ∷ qs) all = (param-own v q all.0, params-own vs qs all.1)

  -- the program's state has what the code's state has
  one-seen : (d : Types) (v : VarId) (q : Param) (zs : List ℤ) (t : CodeState) → IsNaming names d
      → IsParam p names low high v q
      → with_input_one (variable_of p v).shape v zs (seen names t) ≡ seen names (with_param q zs t)
  one-seen d v (Var n) zs t naming is =
      ap (λ shape. with_input_one shape v zs (seen names t)) is.shape
      ∙ sym (seen-named names t v n (slice_index_or zs 0 (pos 0)) naming.apart is.found)
  one-seen d v (Array n) zs t naming is =
      ap (λ shape. with_input_one shape v zs (seen names t)) is.shape
      ∙ ap (λ (xs : List ℤ). with_elements (seen names t) v (elements_with (length xs) zs))
      (seen-elements names t v n is.array.found)
      ∙ sym (seen-array names t v n (elements_with (length (t.arrays n)) zs) naming.arrays_apart
      is.array.found)

  pub given-seen : (d : Types) (vs : List VarId) (qs : List Param) (given : List (List ℤ)) (t : CodeState)
      → IsNaming names d
      → AreParams p names low high vs qs →
      with_input p vs given (seen names t) ≡ seen names (with_params qs given t)
  given-seen d [] [] given t naming all = refl
  given-seen d [] (q ∷ qs) given t naming all = absurd all
  given-seen d (v ∷ vs) [] given t naming all = absurd all
  given-seen d (v ∷ vs) (q ∷ qs) [] t naming all = refl
  given-seen d (v ∷ vs) (q ∷ qs) (zs ∷ given) t naming all =
      ap (with_input p vs given) (one-seen d v q zs t naming all.0)
      ∙ given-seen d vs qs given (with_param q zs t) naming all.1

  -- what fits keeps to the types
  value-fits : (v : VarId) (zs : List ℤ) → (variable_of p v).shape ≡ shape.Value →
      fits_variable (variable_of p v) zs ≡ true
      → is_in (type_of p v) (slice_index_or zs 0 (pos 0)) ≡ true
  value-fits v zs is fit =
      let h : fits_shape shape.Value (type_of p v) zs ≡ true = ap (λ shape. fits_shape shape (type_of p v)
      zs) (sym is) ∙ fit in
      at-in (type_of p v) zs 0 (and_parts (length zs == 1) (list_all (is_in (type_of p v)) zs) h).1

  array-fits : (v : VarId) (zs : List ℤ) (count : ℕ) → (variable_of p v).shape ≡ shape.Array count
      → fits_variable (variable_of p v) zs ≡ true → list_all (is_in (type_of p v)) zs ≡ true
  array-fits v zs count is fit =
      let h : fits_shape (shape.Array count) (type_of p v) zs ≡ true =
      ap (λ shape. fits_shape shape (type_of p v) zs) (sym is) ∙ fit in
      (and_parts (length zs == count) (list_all (is_in (type_of p v)) zs) h).1

  declared-type : (v : VarId) (n : ℕ) → IsArrayParam p names low high v n → element_type high n ≡ type_of p v
  declared-type v n is =
      ap (λ (info : ArrayInfo). info.t)
      (get_or_from_slice_get high.arrays n is.array.info (record { len = 0; t = I32 }) is.array.is_declared)
      ∙ is.array.same_type

  one-keeps : (v : VarId) (q : Param) (zs : List ℤ) (t : CodeState) → IsParam p names low high v q
      → fits_variable (variable_of p v) zs ≡ true → KeepsTypes high t → KeepsTypes high (with_param q zs t)
  one-keeps v (Var n) zs t is fit keeps = keeps-variable high t n (slice_index_or zs 0 (pos 0)) keeps
      (λ u found. let same : type_of p v ≡ u = cc (is.same_type, found) in
      subst (λ u. is_in u (slice_index_or zs 0 (pos 0)) ≡ true) same (value-fits v zs is.shape fit))
  one-keeps v (Array n) zs t is fit keeps = keeps-array high t n (elements_with (length (t.arrays n)) zs)
      keeps
      (subst (λ t'. list_all (is_in t') (elements_with (length (t.arrays n)) zs) ≡ true) (sym
      (declared-type v n is))
      (elements-in (type_of p v) (length (t.arrays n)) zs (array-fits v zs is.count is.shape fit)))

  pub given-keeps : (vs : List VarId) (qs : List Param) (given : List (List ℤ)) (t : CodeState)
      → AreParams p names low high vs qs → fits_all p vs given ≡ true → KeepsTypes high t
      → KeepsTypes high (with_params qs given t)
  given-keeps [] [] given t all fit keeps = keeps
  given-keeps [] (q ∷ qs) given t all fit keeps = absurd all
  given-keeps (v ∷ vs) [] given t all fit keeps = absurd all
  given-keeps (v ∷ vs) (q ∷ qs) [] t all fit keeps = keeps
  given-keeps (v ∷ vs) (q ∷ qs) (zs ∷ given) t all fit keeps =
      let both = and_parts (fits_variable (variable_of p v) zs) (fits_all p vs given) fit in
      given-keeps vs qs given (with_param q zs t) all.1 both.1 (one-keeps v q zs t all.0 both.0 keeps)

  params-push : (vs : List VarId) (qs : List Param) (v : VarId) (q : Param) → AreParams p names low high vs qs
      → IsParam p names low high v q → AreParams p names low high (vs ++ v ∷ []) (qs ++ q ∷ [])
  params-push [] [] v q all is = (is, tt)
  params-push [] (r ∷ qs) v q all is = absurd all
  params-push (w ∷ vs) [] v q all is = absurd all
  params-push (w ∷ vs) (r ∷ qs) v q all is = (all.0, params-push vs qs v q all.1 is)

  pub params-more : (vs : List VarId) (i : ℕ) (v : VarId) (q : Param) (qs new : List Param)
      → AreParams p names low high (take i vs) qs → IsParam p names low high v q
      → i < length vs → v ≡ get_or vs i v → new ≡ qs ++ q ∷ [] →
      AreParams p names low high (take (i + 1) vs) new
  params-more vs i v q qs new all is within is_v is_new =
      subst (AreParams p names low high (take (i + 1) vs)) (sym is_new)
      (subst (λ vs. AreParams p names low high vs (qs ++ q ∷ [])) (sym (next-taken vs i v v within is_v))
      (params-push (take i vs) qs v q all is))
