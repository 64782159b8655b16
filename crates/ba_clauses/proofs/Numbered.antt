-- A variable of its own for each node.

use Rattle.std.proofs.Common.{◌≡◌, ◌≢◌, ℕ, suc, zero, ◌+◌, ◌<◌, ◌≤◌, Bool, true, false, List, [], ◌∷◌, ◌++◌, length, get_or, Some, slice_get, refl, sym, ap, subst, ◌∙◌, arith, ◌⊎◌, inl, inr, ⊎_elim}
use Rattle.std.proofs.lemmas.Bool.{cases_eq}
use Rattle.std.proofs.lemmas.List.{get_or_append_left, get_or_at, get_or_past, length_push}
use Rattle.std.proofs.lemmas.Option.{get_or_from_slice_get}
use Rattle.ba_nodes.specs.declared.Node.{Node}
use Rattle.ba_lits.specs.Formulas.{Cnf}
use Rattle.ba_lits.specs.Satisfaction.{Assignment, put}
use Rattle.ba_lits.proofs.Satisfied.{put_here, put_there}
use Rattle.ba_clauses.specs.declared.uses.Use.{Use}
use Rattle.ba_clauses.specs.Uses.{use_at}
use Rattle.ba_clauses.specs.Sides.{has_variable, IsNumbering, IsNext}

pub IsNumbering-none : (nodes : List Node) (uses : List Use) (bound : ℕ) → IsNumbering nodes uses [] bound
IsNumbering-none nodes uses bound = record {
  among = omega arith;
  named = λ number node within found has. absurd (omega (arith, within));
  within = λ number. omega arith;
  assigns = λ values. (λ variable. false, λ number some. absurd (omega (arith, some)));
}

-- what is at a place once an element was pushed
data Place (xs : List ℕ) (x i : ℕ) : Type 0 where
  before : i < length xs → get_or (xs ++ x ∷ []) i 0 ≡ get_or xs i 0 → Place xs x i
  last : i ≡ length xs → get_or (xs ++ x ∷ []) i 0 ≡ x → Place xs x i
  past : length xs < i → get_or (xs ++ x ∷ []) i 0 ≡ 0 → Place xs x i

place : (xs : List ℕ) (x i : ℕ) → Place xs x i
place xs x i = ⊎_elim
    (λ here. last here (get_or_at xs x [] 0 i (sym here)))
    (λ other. ⊎_elim
    (λ less. before less (get_or_append_left xs (x ∷ []) 0 i less))
    (λ more. past more (get_or_past (xs ++ x ∷ []) i 0 (omega (arith, more, length_push xs x))))
    (order i (length xs) other))
    (cases_eq i (length xs))
  where
    order : (i n : ℕ) → i ≢ n → (i < n) ⊎ (n < i)
    order zero zero other = absurd (other refl)
    order zero (suc n) other = inl (omega arith)
    order (suc i) zero other = inr (omega arith)
    order (suc i) (suc n) other = ⊎_elim (λ less. inl (omega (arith, less))) (λ more. inr (omega (
      arith,
      more,
    ))) (order i n (λ e. other (ap suc e)))

pub IsNumbering-next : (nodes : List Node) (uses : List Use) (variables : List ℕ) (old new : Cnf) (wanted :
    Bool) (x : ℕ) →
    IsNumbering nodes uses variables old.variables → length variables < length nodes →
    IsNext old new wanted x →
    ((node : Node) → slice_get nodes (length variables) ≡ Some node →
    wanted ≡ has_variable node (use_at uses (length variables))) →
    IsNumbering nodes uses (variables ++ x ∷ []) new.variables
IsNumbering-next nodes uses variables old new wanted x numbering room next is = record {
  among = omega (arith, room, length_push variables x);
  named = λ number node within found has. named number node (omega (
    arith,
    within,
    length_push variables
        x,
  )) found has (place variables x number);
  within = λ number. inside number (place variables x number);
  assigns = λ values. (
    put (numbering.assigns values).0 x (values (length variables)),
    λ number some.
        assigned values number (place variables x number) some,
  );
}
  where
    named : (number : ℕ) (node : Node) → number < length variables + 1 →
        slice_get nodes number ≡ Some node → has_variable node (use_at uses number) ≡ true →
        Place variables x number → 1 ≤ get_or (variables ++ x ∷ []) number 0
    named number node within found has (before less at) = subst (λ (n : ℕ). 1 ≤ n) (sym at)
        (numbering.named number node less found has)
    named number node within found has (last here at) =
        let found' : slice_get nodes (length variables) ≡ Some node = subst (λ (n : ℕ). slice_get nodes n ≡
        Some node) here found in
        let has' : has_variable node (use_at uses (length variables)) ≡ true = subst (λ (n : ℕ).
        has_variable node (use_at uses n) ≡ true) here has in
        subst (λ (n : ℕ). 1 ≤ n) (sym at) (next.counted (is node found' ∙ has'))
    named number node within found has (past more at) = absurd (omega (arith, within, more))

    inside : (number : ℕ) → Place variables x number → get_or (variables ++ x ∷ []) number 0 ≤ new.variables
    inside number (before less at) = omega (arith, at, numbering.within number, next.grows)
    inside number (last here at) = omega (arith, at, next.within)
    inside number (past more at) = omega (arith, at)

    assigned : (values : ℕ → Bool) (number : ℕ) → Place variables x number →
        1 ≤ get_or (variables ++ x ∷ []) number 0 →
        put (numbering.assigns values).0 x (values (length variables)) (get_or (variables ++ x ∷ []) number
        0) ≡ values number
    assigned values number (before less at) some =
        let v : Assignment = (numbering.assigns values).0 in
        let counted : 1 ≤ get_or variables number 0 = subst (λ (n : ℕ). 1 ≤ n) at some in
        let low : get_or variables number 0 ≤ old.variables = numbering.within number in
        let other : get_or variables number 0 ≢ x = λ e. absurd (omega (
          arith,
          low,
          e,
          next.fresh (subst (λ
              (n : ℕ). 1 ≤ n) e counted),
        )) in
        ap (put v x (values (length variables))) at
        ∙ put_there v x (values (length variables)) (get_or variables number 0) other
        ∙ (numbering.assigns values).1 number counted
    assigned values number (last here at) some =
        ap (put (numbering.assigns values).0 x (values (length variables))) at
        ∙ put_here (numbering.assigns values).0 x (values (length variables))
        ∙ ap values (sym here)
    assigned values number (past more at) some = absurd (omega (arith, at, some))

pub numbered_next : (nodes : List Node) (uses : List Use) (variables pushed : List ℕ) (number : ℕ) (old new
    : Cnf) (wanted : Bool) (x : ℕ) (own : Use) (node : Node) →
    length variables ≡ number → number < length nodes → IsNumbering nodes uses variables old.variables →
    IsNext old new wanted x →
    wanted ≡ has_variable node own → node ≡ get_or nodes number node → own ≡ use_at uses number →
    pushed ≡ variables ++ x ∷ [] →
    IsNumbering nodes uses pushed new.variables
numbered_next nodes uses variables pushed number old new wanted x own node size within numbering next is
    here own_is longer =
    subst (λ (xs : List ℕ). IsNumbering nodes uses xs new.variables) (sym longer)
    (IsNumbering-next nodes uses variables old new wanted x numbering (omega (arith, size, within)) next
    (λ other found.
    let same : slice_get nodes number ≡ Some other = subst (λ (n : ℕ). slice_get nodes n ≡ Some other) size
    found in
    let node_is : node ≡ other = here ∙ get_or_from_slice_get nodes number other node same in
    is ∙ (λ i. has_variable (node_is i) (own_is i)) ∙ ap (λ (n : ℕ). has_variable other (use_at uses n))
    (sym size)))
