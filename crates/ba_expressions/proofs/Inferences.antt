-- What is known of an expression from what the code keeps of it.
use Rattle.std.proofs.Common.{◌≡◌, ℕ, ◌+◌, ℤ, pos, Bool, cond, Option, None, Some, Result, Ok, Err, List, [], ◌∷◌, refl, sym, ◌∙◌, ap, subst}
use Rattle.std.specs.Prelude.{option_map, option_and_then, IfOk, false, map}
use Rattle.ba_numbers.specs.Numbers.{value_of}
use Rattle.ba_numbers.specs.declared.ids.At.{At}
use Rattle.ba_numbers.specs.declared.ids.VarId.{VarId}
use Rattle.ba_numbers.specs.declared.numbers.BinOp.{BinOp}
use Rattle.ba_numbers.specs.declared.numbers.CType.{CType}
use Rattle.ba_numbers.specs.declared.numbers.CType.TheVariants.{I32}
use Rattle.ba_numbers.specs.Types.{type_of_binary}
use Rattle.ba_tree.specs.declared.tree.Expr.{Expr}
use Rattle.ba_typing.specs.Expressions.{Typed, TypedCall, typed_called, expressions_of_args, placeholder, variable_tree, operator_over, typed_value, typed_binary, typed_select, typed_element, typed_name, typed_named, typed_with, tree_as, value_as, both_then, is_true, truth_of, element_type, array_of}
use Rattle.ba_numbers.specs.Types.{working_type, right_type, promoted, usual}
use Rattle.ba_typing.specs.Faults.{array_name_faults}
use Rattle.ba_expressions.specs.Inferring.{Infers, InfersCall, are_constant, greatest_height, typed_from}
use Rattle.ba_tree.specs.Trees.{ExprTree, args_of, tree_of_arg, tree_of_expr}
use Rattle.ba_tree.specs.Trees as tree
use Rattle.ba_typing.specs.declared.fault.Fault.{Fault}
use Rattle.ba_expressions.specs.declared.inferred.Inferred.{Inferred}
use Rattle.ba_expressions.specs.declared.inferred.InferredCall.{InferredCall}
use Rattle.ba_tree.specs.declared.tree.Expr as code
use Rattle.ba_typing.proofs.TreeForms.{tree-Call, tree-Var}
use Rattle.ba_typing.specs.declared.names.Operator.TheVariants.{AndAlso, OrElse}
use Rattle.ba_typing.specs.Names.{is_array_object}
use Rattle.ba_typing.specs.declared.meanings.Object.{Object}
use Rattle.ba_typing.specs.declared.meanings.Meaning.{Meaning}
use Rattle.ba_typing.specs.declared.meanings.Meaning.TheVariants as meaning

-- what holds whatever the calls and faults are holds of what is inferred
pub inferred : (P : Typed → Type 0) (j : Inferred) (s : Typed) → Infers j s
    → ((calls : ℕ) (faults : List Fault) → P (typed_from j calls faults)) → P s
inferred P j s h all = subst P h (all s.calls s.faults)

-- an operator's height and whether it is constant
pub infers-over : (first : At) (height : ℕ) (constant : Bool) (t : CType) (e : Expr) (z : Option ℤ)
    (es : List Typed) → height ≡ 1 + greatest_height es → constant ≡ are_constant es
    → Infers (record {
      first = first;
      name = None;
      height = height;
      is_constant = constant;
      t = t;
      expr = e;
      value = z;
    }) (operator_over first es t (tree_of_expr e) z)
infers-over first height constant t e z es high same =
    let s = operator_over first es t (tree_of_expr e) z in
    ap (λ n. record s { height = n; is_constant = constant }) high ∙ ap (λ b. record s { is_constant = b })
    same

-- its type, its tree and its value
pub as-over : (j : Inferred) (first : At) (es : List Typed) (t u : CType) (x y : ExprTree) (z v : Option ℤ)
    → t ≡ u → x ≡ y → z ≡ v → Infers j (operator_over first es t x z) → Infers j (operator_over first es u
    y v)
as-over j first es t u x y z v types trees values h =
    subst (λ v. Infers j (operator_over first es u y v)) values
    (subst (λ y. Infers j (operator_over first es u y z)) trees
    (subst (λ u. Infers j (operator_over first es u x z)) types h))

-- an answer that a last call gives
pub if-ok : {A E : Type 0} (r : Result A E) (P Q : A → Type 0) → ((a : A) → P a → Q a) → IfOk r P → IfOk r Q
if-ok (Ok a) P Q to is = to a is
if-ok (Err e) P Q to is = is

-- a inference of two operands
pub inferred-two : (P : Typed → Typed → Type 0) (a b : Inferred) (s u : Typed) → Infers a s → Infers b u
    → ((m n : ℕ) (fs gs : List Fault) → P (typed_from a m fs) (typed_from b n gs)) → P s u
inferred-two P a b s u left right all =
    inferred (λ s. P s u) a s left (λ m fs. inferred (P (typed_from a m fs)) b u right (λ n gs. all m n fs
    gs))

-- THE FORMS, if the code has the working types as values of its own

module _ (j : Inferred) (s u : Typed) where
  pub value-is : (op : BinOp) (t r : CType) → t ≡ working_type op s.t u.t → r ≡ right_type op s.t u.t
      → Infers j (operator_over s.first (s ∷ u ∷ []) (type_of_binary op t)
      (tree.binary op t (tree_as t s) (tree_as r u)) (both_then (value_of op t) (value_as t s) (value_as r
      u)))
      → Infers j (typed_value op s u)
  value-is op t r works right h =
      let rest = λ (t r : CType). Infers j (operator_over s.first (s ∷ u ∷ []) (type_of_binary op t)
      (tree.binary op t (tree_as t s) (tree_as r u)) (both_then (value_of op t) (value_as t s) (value_as r
      u))) in
      subst (rest (working_type op s.t u.t)) right (subst (λ t. rest t r) works h)

  pub and_also-is : (t r : CType) → t ≡ promoted s.t → r ≡ promoted u.t
      → Infers j (operator_over s.first (s ∷ u ∷ []) I32 (tree.and_also (tree_as t s) (tree_as r u))
      (option_and_then (λ y. cond (is_true y) (option_map truth_of u.value) (Some (pos 0))) s.value))
      → Infers j (typed_binary AndAlso s u)
  and_also-is t r left right h =
      let rest = λ (t r : CType). Infers j (operator_over s.first (s ∷ u ∷ []) I32
      (tree.and_also (tree_as t s) (tree_as r u))
      (option_and_then (λ y. cond (is_true y) (option_map truth_of u.value) (Some (pos 0))) s.value)) in
      subst (rest (promoted s.t)) right (subst (λ t. rest t r) left h)

  pub or_else-is : (t r : CType) → t ≡ promoted s.t → r ≡ promoted u.t
      → Infers j (operator_over s.first (s ∷ u ∷ []) I32 (tree.or_else (tree_as t s) (tree_as r u))
      (option_and_then (λ y. cond (is_true y) (Some (pos 1)) (option_map truth_of u.value)) s.value))
      → Infers j (typed_binary OrElse s u)
  or_else-is t r left right h =
      let rest = λ (t r : CType). Infers j (operator_over s.first (s ∷ u ∷ []) I32
      (tree.or_else (tree_as t s) (tree_as r u))
      (option_and_then (λ y. cond (is_true y) (Some (pos 1)) (option_map truth_of u.value)) s.value)) in
      subst (rest (promoted s.t)) right (subst (λ t. rest t r) left h)

  pub select-is : (w : Typed) (t : CType) → t ≡ usual s.t u.t
      → Infers j (operator_over w.first (w ∷ s ∷ u ∷ []) t (tree.select t w.tree (tree_as t s) (tree_as t u))
      (option_and_then (λ y. cond (is_true y) (value_as t s) (value_as t u)) w.value))
      → Infers j (typed_select w s u)
  select-is w t works h = subst (λ t. Infers j (operator_over w.first (w ∷ s ∷ u ∷ []) t
      (tree.select t w.tree (tree_as t s) (tree_as t u))
      (option_and_then (λ y. cond (is_true y) (value_as t s) (value_as t u)) w.value))) works h

-- an element, whose array and type the code has as values of its own
pub element-is : (j : Inferred) (at : At) (m : Meaning) (s : Typed) (t r : CType) (array : VarId)
    → t ≡ element_type m → r ≡ promoted s.t → array ≡ array_of m
    → Infers j (typed_with (operator_over at (s ∷ []) t (tree.element array (tree_as r s)) None) None
    (array_name_faults m at))
    → Infers j (typed_element at m s)
element-is j at m s t r array types promotes names h =
    let rest = λ (t r : CType) (array : VarId). Infers j (typed_with
    (operator_over at (s ∷ []) t (tree.element array (tree_as r s)) None) None (array_name_faults m at)) in
    subst (rest (element_type m) (promoted s.t)) names
    (subst (λ r. rest (element_type m) r array) promotes (subst (λ t. rest t r array) types h))

-- a call
pub called-is : (at : At) (j : InferredCall) (c : TypedCall) (height : ℕ) → height ≡ 1 + j.height → InfersCall
    j c
    → Infers (record {
      first = at;
      name = None;
      height = height;
      is_constant = false;
      t = j.result;
      expr = code.Call j.call j.function j.args;
      value = None;
    }) (typed_called at c)
called-is at j c height higher is =
    let form = λ (n : ℕ) (t : CType) (x : ExprTree). record (typed_called at c) {
      height = n;
      t = t;
      tree = x;
    } in
    ap (λ n. form n j.result (tree_of_expr (code.Call j.call j.function j.args))) (higher ∙ ap (λ n. 1 + n)
    is.height)
    ∙ ap (λ t. form (1 + greatest_height (expressions_of_args c.args)) t (tree_of_expr (code.Call j.call
    j.function
    j.args))) is.result
    ∙ ap (form (1 + greatest_height (expressions_of_args c.args)) c.result) (tree-Call j.call j.function
    j.args
    ∙ ap (λ n. tree.call n j.function (args_of (map tree_of_arg j.args.items))) is.call
    ∙ ap (λ f. tree.call c.call f (args_of (map tree_of_arg j.args.items))) is.function
    ∙ ap (λ args. tree.call c.call c.function (args_of args)) is.args)

-- a variable of one value
pub variable-is : (m : Meaning) (e : Object) → m ≡ meaning.Variable e → is_array_object e ≡ false
    → tree_of_expr (code.Var e.var) ≡ variable_tree m
variable-is m e is single = tree-Var e.var
    ∙ sym (ap variable_tree is ∙ ap (λ b. cond b placeholder (tree.var e.var)) single)

-- a name that is no constant's
pub other-name : (at : At) (name : List ℕ) (m : Meaning) → ((z : ℤ) → m ≡ meaning.Constant z → ⊥)
    → typed_named at name m ≡ typed_name at name m
other-name at name meaning.Unknown other = refl
other-name at name meaning.Function other = refl
other-name at name (meaning.Variable e) other = refl
other-name at name (meaning.Constant z) other = absurd (other z refl)
