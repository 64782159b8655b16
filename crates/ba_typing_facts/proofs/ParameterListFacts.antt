-- Lists of parameters: what they add, and that a function's variables have the types and shapes that its
-- declaration says.
use Rattle.std.proofs.Common.{◌≡◌, ℕ, ◌+◌, Bool, true, false, not, cond, Option, None, Some, List, [], ◌∷◌, ◌++◌, map, refl, sym, ◌∙◌, ap, subst, arith, slice_get, option_map, unwrap_or}
use Rattle.std.specs.List.{list_all}
use Rattle.std.specs.Option.{is_some}
use Rattle.std.proofs.lemmas.Bool.{and_from}
use Rattle.std.proofs.lemmas.Option.{get_or_from_slice_get}
use Rattle.ba_numbers.specs.declared.ids.At.{At}
use Rattle.ba_numbers.specs.declared.numbers.CType.{CType}
use Rattle.ba_numbers.specs.declared.numbers.CType.TheVariants.{I32}
use Rattle.ba_trees.specs.declared.tree.declarations.ArrayLength.{ArrayLength}
use Rattle.ba_trees.specs.declared.tree.declarations.Parameter.{Parameter}
use Rattle.ba_tree.specs.Facts.{holds, is_value_shape, is_passed_shape, own_elements, is_array_length, is_own_length}
use Rattle.ba_tree.specs.declared.tree.Parts.{Parts}
use Rattle.ba_tree.specs.declared.tree.Variable.{Variable}
use Rattle.ba_typing.specs.Declarations.{Added, nothing_added, ◌and◌, Before, behind, faults_added, add_length, TypedLength, typed_length, length_faults}
use Rattle.ba_typing.specs.Faults.{void_faults, limit_faults, parameter_limit, tag_faults}
use Rattle.ba_typing.specs.Files.{vars_of, type_of_param, add_param, add_params, declare_param, param_length, param_shape, position_of_param, name_of_param, check_length}
use Rattle.ba_typing.specs.Names.{Scope, knowing, words_of, type_named, tag_of}
use Rattle.ba_typing.specs.declared.fault.Cause.TheVariants.{WrongKind}
use Rattle.ba_typing_facts.proofs.AdditionFacts.{elements_of}
use Rattle.ba_typing_facts.proofs.FittingFacts.{nil_left, nil_right}
use Rattle.ba_typing_facts.proofs.LeafFacts.{HasAt}
use Rattle.ba_typing_facts.proofs.LengthFacts.{same_count, good_count, shape_range}
use Rattle.ba_typing_facts.proofs.PrimaryFacts.{not_so}
use Rattle.ba_typing_facts.proofs.ScopeFacts.{FitsParam, FitParams}
use Rattle.ba_typing_facts.proofs.ParameterFacts.{IsSized, sized-and, sized_none}

-- NO STATEMENTS, and of a prototype nothing at all

length_statements : (at : At) (l : Option TypedLength) (scope : Scope) (n : Before) →
    (add_length at l scope n).statements ≡ []
length_statements at None scope n = refl
length_statements at (Some l) scope n = refl

check_statements : (at : At) (l : Option TypedLength) (scope : Scope) (n : Before) →
    (check_length at l scope n).statements ≡ []
check_statements at None scope n = refl
check_statements at (Some l) scope n = refl

declared_statements : (defined : Bool) (at : At) (name : List ℕ) (v : Variable) (l : Option TypedLength)
    (scope : Scope)
    (n : Before) → (declare_param defined at name v l scope n).statements ≡ []
declared_statements false at name v l scope n = check_statements at l scope n
declared_statements true at name v l scope n = ap (λ ss. ss ++ []) (length_statements at l scope n)

pub params_statements : (is_main defined : Bool) (at : At) (number : ℕ) (qs : List Parameter)
    (scope : Scope) (n : Before)
    → (add_params is_main defined at number qs scope n).statements ≡ []
params_statements is_main defined at number [] scope n = refl
params_statements is_main defined function_at number (q ∷ qs) scope n =
    let at = position_of_param function_at q in
    let l = param_length is_main at q.length scope n.calls in
    let w : Variable = record {
      t = unwrap_or (type_named q.type_name) I32;
      shape = param_shape is_main
          q.length l;
    } in
    let a = add_param is_main defined function_at number q scope n in
    let b = add_params is_main defined function_at (number + 1) qs (knowing a.entries scope) (behind n a) in
    ap (λ ss. (ss ++ []) ++ b.statements) (declared_statements defined at (name_of_param q.name) w l scope n)
    ∙ params_statements is_main defined function_at (number + 1) qs (knowing a.entries scope) (behind n a)

length_stmts : (at : At) (l : Option TypedLength) (scope : Scope) (n : Before) →
    (add_length at l scope n).stmts ≡ []
length_stmts at None scope n = refl
length_stmts at (Some l) scope n = refl

check_stmts : (at : At) (l : Option TypedLength) (scope : Scope) (n : Before) →
    (check_length at l scope n).stmts ≡ []
check_stmts at None scope n = refl
check_stmts at (Some l) scope n = refl

declared_stmts : (defined : Bool) (at : At) (name : List ℕ) (v : Variable) (l : Option TypedLength)
    (scope : Scope)
    (n : Before) → (declare_param defined at name v l scope n).stmts ≡ []
declared_stmts false at name v l scope n = check_stmts at l scope n
declared_stmts true at name v l scope n = ap (λ ss. ss ++ []) (length_stmts at l scope n)

pub params_stmts : (is_main defined : Bool) (at : At) (number : ℕ) (qs : List Parameter) (scope : Scope)
    (n : Before)
    → (add_params is_main defined at number qs scope n).stmts ≡ []
params_stmts is_main defined at number [] scope n = refl
params_stmts is_main defined function_at number (q ∷ qs) scope n =
    let at = position_of_param function_at q in
    let l = param_length is_main at q.length scope n.calls in
    let w : Variable = record {
      t = unwrap_or (type_named q.type_name) I32;
      shape = param_shape is_main
          q.length l;
    } in
    let a = add_param is_main defined function_at number q scope n in
    let b = add_params is_main defined function_at (number + 1) qs (knowing a.entries scope) (behind n a) in
    ap (λ ss. (ss ++ []) ++ b.stmts) (declared_stmts defined at (name_of_param q.name) w l scope n)
    ∙ params_stmts is_main defined function_at (number + 1) qs (knowing a.entries scope) (behind n a)

-- nothing but calls and faults
pub record IsBare (a : Added) : Type 0 where
  pub no_variables : a.variables ≡ []
  pub no_entries : a.entries ≡ []
  pub no_elements : a.elements ≡ 0

check_bare : (at : At) (l : Option TypedLength) (scope : Scope) (n : Before) → IsBare
    (check_length at l scope n)
check_bare at None scope n = record { no_variables = refl; no_entries = refl; no_elements = refl }
check_bare at (Some l) scope n = record { no_variables = refl; no_entries = refl; no_elements = refl }

bare-and : (a b : Added) → IsBare a → IsBare b → IsBare (a and b)
bare-and a b h k = record {
  no_variables = ap (λ vs. vs ++ b.variables) h.no_variables ∙ k.no_variables;
  no_entries = ap (λ es. es ++ b.entries) h.no_entries ∙ k.no_entries;
  no_elements = let left = h.no_elements in let right = k.no_elements in omega (arith, left, right);
}

pub prototype_bare : (is_main : Bool) (at : At) (number : ℕ) (qs : List Parameter) (scope : Scope)
    (n : Before)
    → IsBare (add_params is_main false at number qs scope n)
prototype_bare is_main at number [] scope n = record {
  no_variables = refl;
  no_entries = refl;
  no_elements =
      refl;
}
prototype_bare is_main function_at number (q ∷ qs) scope n =
    let at = position_of_param function_at q in
    let l = param_length is_main at q.length scope n.calls in
    let a = add_param is_main false function_at number q scope n in
    bare-and a (add_params is_main false function_at (number + 1) qs (knowing a.entries scope) (behind n a))
    (bare-and (check_length at l scope n)
    (faults_added (void_faults (type_named q.type_name) at ++ limit_faults parameter_limit number at
    ++ tag_faults (knowing (check_length at l scope n).entries scope) (tag_of (words_of q.type_name))))
    (check_bare at l scope n) (record { no_variables = refl; no_entries = refl; no_elements = refl }))
    (prototype_bare is_main function_at (number + 1) qs (knowing a.entries scope) (behind n a))

-- ELEMENTS of a definition's arrays

param_elements : (is_main : Bool) (at : At) (o : Option ArrayLength) (scope : Scope) (n : Before)
    → (add_length at (param_length is_main at o scope n.calls) scope n).faults ≡ []
    → own_elements (param_shape is_main o (param_length is_main at o scope n.calls))
    ≡ (add_length at (param_length is_main at o scope n.calls) scope n).elements
param_elements false at None scope n none = refl
param_elements false at (Some o) scope n none = refl
param_elements true at None scope n none = refl
param_elements true at (Some o) scope n none =
    let l = typed_length at None o.length scope n.calls in
    same_count l.count (good_count n at l.count (nil_left (length_faults n at l.count) l.faults none))

param_range : (is_main : Bool) (at : At) (o : Option ArrayLength) (scope : Scope) (calls : ℕ)
    → is_array_length (param_shape is_main o (param_length is_main at o scope calls)) ≡ true
param_range false at None scope calls = refl
param_range false at (Some o) scope calls = refl
param_range true at None scope calls = refl
param_range true at (Some o) scope calls = shape_range at None scope calls (Some o)

no_variables : (at : At) (l : Option TypedLength) (scope : Scope) (n : Before) →
    (add_length at l scope n).variables ≡ []
no_variables at None scope n = refl
no_variables at (Some l) scope n = refl

one_variable : (vs : List Variable) (w : Variable) → vs ≡ [] → (vs ++ (w ∷ [])) ++ [] ≡ w ∷ []
one_variable vs w none = ap (λ vs. (vs ++ (w ∷ [])) ++ []) none

param_sized : (is_main : Bool) (at : At) (number : ℕ) (q : Parameter) (scope : Scope) (n : Before)
    → (add_param is_main true at number q scope n).faults ≡ [] → IsSized
    (add_param is_main true at number q scope n)
param_sized is_main function_at number q scope n none =
    let at = position_of_param function_at q in
    let l = param_length is_main at q.length scope n.calls in
    let w : Variable = record {
      t = unwrap_or (type_named q.type_name) I32;
      shape = param_shape is_main
          q.length l;
    } in
    let first = add_length at l scope n in
    let all = one_variable first.variables w (no_variables at l scope n) in record {
      elements = ap elements_of all ∙ (let count = param_elements is_main at q.length scope n
          (nil_left first.faults _ (nil_left _ _ none)) in omega (arith, count));
      lengths = ap (list_all is_own_length) all ∙ and_from _ _ (param_range is_main at q.length scope n.calls)
          refl;
    }

pub params_sized : (is_main : Bool) (at : At) (number : ℕ) (qs : List Parameter) (scope : Scope) (n : Before)
    → (add_params is_main true at number qs scope n).faults ≡ [] → IsSized
    (add_params is_main true at number qs scope n)
params_sized is_main at number [] scope n none = sized_none nothing_added refl refl
params_sized is_main at number (q ∷ qs) scope n none =
    let a = add_param is_main true at number q scope n in
    let b = add_params is_main true at (number + 1) qs (knowing a.entries scope) (behind n a) in
    sized-and a b (param_sized is_main at number q scope n (nil_left a.faults b.faults none))
    (params_sized is_main at (number + 1) qs (knowing a.entries scope) (behind n a)
    (nil_right a.faults b.faults none))

-- THE PARAMETERS OF A FUNCTION other than main fit its declaration

module _ (p : Parts) where
  shape_fits : (o : Option ArrayLength)
      → (cond (is_some o) is_passed_shape is_value_shape) (param_shape false o None) ≡ true
  shape_fits None = refl
  shape_fits (Some l) = refl

  some_type : (t : Option CType) → not (is_some t) ≡ false → t ≡ Some (unwrap_or t I32)
  some_type None h = cc
  some_type (Some t) h = refl

  param_fits : (q : Parameter) (k : ℕ) → not (is_some (type_named q.type_name)) ≡ false
      → slice_get p.variables k ≡ Some (record {
        t = unwrap_or (type_named q.type_name) I32;
        shape = param_shape false q.length None;
      })
      → FitsParam p (record { 0 = k }) (type_of_param q)
  param_fits q k some place = record {
    typed = some_type (type_named q.type_name) some ∙ ap (λ t. Some t)
        (sym (ap (λ (w : Variable). w.t) (get_or_from_slice_get p.variables k _ _ place)));
    shape = ap (λ o. holds (cond (is_some q.length) is_passed_shape is_value_shape) (option_map
        (λ (w : Variable). w.shape) o))
        place ∙ shape_fits q.length;
  }

  pub params_fit : (at : At) (number : ℕ) (qs : List Parameter) (scope : Scope) (n : Before)
      → HasAt p.variables n.variables (add_params false true at number qs scope n).variables
      → (add_params false true at number qs scope n).faults ≡ []
      → FitParams p (vars_of (add_params false true at number qs scope n).entries) (map type_of_param qs)
  params_fit at number [] scope n stands none = tt
  params_fit at number (q ∷ qs) scope n stands none =
      let a = add_param false true at number q scope n in
      let b = add_params false true at (number + 1) qs (knowing a.entries scope) (behind n a) in
      let void_none = void_faults (type_named q.type_name) (position_of_param at q) in
      let limit = limit_faults parameter_limit number (position_of_param at q) in
      let w : Variable = record {
        t = unwrap_or (type_named q.type_name) I32;
        shape = param_shape false q.length None;
      } in
      let known = knowing (declare_param true (position_of_param at q) (name_of_param q.name) w None scope
      n).entries scope in
      let tags = tag_faults known (tag_of (words_of q.type_name)) in
      let own = nil_left a.faults b.faults none in (
        subst (λ k. FitsParam p (record { 0 = k }) (type_of_param q))
            (let e : n.variables ≡ n.variables + 0 = omega arith in e)
            (param_fits q n.variables (not_so _ WrongKind (position_of_param at q) (nil_left void_none limit
            (nil_left (void_none ++ limit) tags (nil_right _ (void_none ++ limit ++ tags) own)))) stands.0),
        params_fit at (number + 1) qs (knowing a.entries scope) (behind n a) stands.1
            (nil_right a.faults b.faults none),
      )
