-- The facts of typed trees, and that they are those of the Rust trees.
use Rattle.std.proofs.Common.{◌≡◌, true, None, Some, List, [], ◌∷◌, map, refl, sym, ◌∙◌, ap, subst}
use Rattle.std.specs.Prelude.{◌&&◌, unwrap_or}
use Rattle.std.specs.Option.{is_some}
use Rattle.ba_numbers.specs.Numbers.{is_in}
use Rattle.ba_numbers.specs.declared.ids.FnId.{FnId}
use Rattle.ba_numbers.specs.declared.ids.VarId.{VarId}
use Rattle.ba_numbers.specs.declared.numbers.CType.TheVariants.{I32}
use Rattle.ba_tree.specs.Facts.{ExprFacts, ArgFacts, operator_facts, with_variable, with_call, type_at, is_value, is_array, fits_right, is_call, result_at, givens, arg_facts_step, expr_facts_step, expr_facts, arg_facts}
use Rattle.ba_numbers.specs.Types.{is_promoted, same_type, type_of_unary, type_of_binary}
use Rattle.ba_tree.specs.declared.tree.Arg.{Arg}
use Rattle.ba_tree.specs.declared.tree.Arg.TheOpen.{Arg-F, Expr-F}
use Rattle.ba_tree.specs.declared.tree.Arg.TheFolds.{fold-roll-Arg, fold-roll-Expr, ind-Expr, ind-Arg, map-Arg, map-Expr}
use Rattle.ba_tree.specs.declared.tree.Arg.TheViews.{roll-Arg, roll-Expr}
use Rattle.ba_tree.specs.declared.tree.Expr.{Expr}
use Rattle.ba_tree.specs.declared.tree.Parts.{Parts}
use Rattle.ba_tree.specs.Trees.{ExprTree, ArgTrees, ArgTree, args_of, arg_tree_step, expr_tree_step, tree_of_expr, tree_of_arg}
use Rattle.ba_tree.specs.Trees as tree

-- an array that is given
abbrev pub array_facts : Parts → VarId → ArgFacts
array_facts p v = record {
  array = Some v;
  given = with_variable v (operator_facts (type_at p v) [] (is_array p v));
}

abbrev pub call_facts : Parts → FnId → List ArgFacts → ExprFacts
call_facts p f args = operator_facts (unwrap_or (result_at p f) I32) (givens args)
    (is_call p f args && is_some (result_at p f))

abbrev mutual
  pub facts_of : Parts → ExprTree → ExprFacts
  facts_of p (tree.const t z) = operator_facts t [] (is_in t z)
  facts_of p (tree.var v) = with_variable v (operator_facts (type_at p v) [] (is_value p v))
  facts_of p (tree.element v i) = with_variable v
      (operator_facts (type_at p v) (facts_of p i ∷ []) (is_array p v && is_promoted (facts_of p i).t))
  facts_of p (tree.unary op t a) =
      operator_facts (type_of_unary op t) (facts_of p a ∷ []) (is_promoted t && same_type (facts_of p a).t t)
  facts_of p (tree.binary op t a b) = operator_facts (type_of_binary op t) (facts_of p a ∷ facts_of p b ∷ [])
      (is_promoted t && same_type (facts_of p a).t t && fits_right op t (facts_of p b).t)
  facts_of p (tree.and_also a b) = operator_facts I32 (facts_of p a ∷ facts_of p b ∷ []) true
  facts_of p (tree.or_else a b) = operator_facts I32 (facts_of p a ∷ facts_of p b ∷ []) true
  facts_of p (tree.select t when a b) = operator_facts t (facts_of p when ∷ facts_of p a ∷ facts_of p b ∷ [])
      (is_promoted t && same_type (facts_of p a).t t && same_type (facts_of p b).t t)
  facts_of p (tree.convert t a) = record (facts_of p a) { t = t }
  facts_of p (tree.call c f args) = with_call c (call_facts p f (args_facts_of p args))

  pub args_facts_of : Parts → ArgTrees → List ArgFacts
  args_facts_of p tree.no_more = []
  args_facts_of p (tree.value_then e args) =
      record { array = None; given = facts_of p e } ∷ args_facts_of p args
  args_facts_of p (tree.array_then v args) = array_facts p v ∷ args_facts_of p args

abbrev pub arg_facts_of : Parts → ArgTree → ArgFacts
arg_facts_of p (tree.value e) = record { array = None; given = facts_of p e }
arg_facts_of p (tree.array v) = array_facts p v

pub args_facts-map : (p : Parts) (args : List ArgTree) → args_facts_of p (args_of args) ≡ map
    (arg_facts_of p) args
args_facts-map p [] = refl
args_facts-map p (tree.value e ∷ args) = ap (λ xs. arg_facts_of p (tree.value e) ∷ xs) (args_facts-map p args)
args_facts-map p (tree.array v ∷ args) = ap (λ xs. arg_facts_of p (tree.array v) ∷ xs) (args_facts-map p args)

-- THE RUST TREES HAVE THE SAME FACTS, by induction

module _ (p : Parts) where
  abbrev SameExpr : Expr → Type 0
  SameExpr e = expr_facts p e ≡ facts_of p (tree_of_expr e)

  abbrev SameArg : Arg → Type 0
  SameArg a = arg_facts p a ≡ arg_facts_of p (tree_of_arg a)

  abbrev InnerExpr : Type 0
  InnerExpr = (e : Expr) × SameExpr e

  abbrev InnerArg : Type 0
  InnerArg = (a : Arg) × SameArg a

  abbrev bare_arg : Arg-F InnerArg InnerExpr → Arg-F Arg Expr
  bare_arg = map-Arg InnerArg InnerExpr Arg Expr (λ a. a.0) (λ e. e.0)

  abbrev bare_expr : Expr-F InnerArg InnerExpr → Expr-F Arg Expr
  bare_expr = map-Expr InnerArg InnerExpr Arg Expr (λ a. a.0) (λ e. e.0)

  same_each : (args : List InnerArg)
      → map (arg_facts p) (map (λ a. a.0) args) ≡ map (arg_facts_of p) (map tree_of_arg (map (λ a. a.0) args))
  same_each [] = refl
  same_each (a ∷ args) = rw (a.1, same_each args) refl

  same_args : (args : List InnerArg)
      → map (arg_facts p) (map (λ a. a.0) args)
      ≡ args_facts_of p (args_of (map tree_of_arg (map (λ a. a.0) args)))
  same_args args = same_each args ∙ sym (args_facts-map p (map tree_of_arg (map (λ a. a.0) args)))

  arg_form : (y : Arg-F InnerArg InnerExpr)
      → arg_facts_step p (map-Arg Arg Expr ArgFacts ExprFacts (arg_facts p) (expr_facts p) (bare_arg y))
      ≡ arg_facts_of p (arg_tree_step (map-Arg Arg Expr ArgTree ExprTree tree_of_arg tree_of_expr
      (bare_arg y)))
  arg_form (Arg-F.Value e) = ap (λ x. record { array = None; given = x }) e.1
  arg_form (Arg-F.Array v) = refl

  expr_form : (y : Expr-F InnerArg InnerExpr)
      → expr_facts_step p (map-Expr Arg Expr ArgFacts ExprFacts (arg_facts p) (expr_facts p) (bare_expr y))
      ≡ facts_of p (expr_tree_step (map-Expr Arg Expr ArgTree ExprTree tree_of_arg tree_of_expr
      (bare_expr y)))
  expr_form (Expr-F.Const t z) = refl
  expr_form (Expr-F.Var v) = refl
  expr_form (Expr-F.Element v i) = rw (i.value.1) refl
  expr_form (Expr-F.Unary op t a) = rw (a.value.1) refl
  expr_form (Expr-F.Binary op t a b) = rw (a.value.1, b.value.1) refl
  expr_form (Expr-F.AndAlso a b) = rw (a.value.1, b.value.1) refl
  expr_form (Expr-F.OrElse a b) = rw (a.value.1, b.value.1) refl
  expr_form (Expr-F.Select t when a b) = rw (when.value.1, a.value.1, b.value.1) refl
  expr_form (Expr-F.Convert t a) = rw (a.value.1) refl
  expr_form (Expr-F.Call c f args) = ap (λ xs. with_call c (call_facts p f xs)) (same_args args.items)

  arg_layer : (y : Arg-F InnerArg InnerExpr) → SameArg (roll-Arg (bare_arg y))
  unfolding expr_facts arg_facts tree_of_expr tree_of_arg
  arg_layer y = fold-roll-Arg ArgFacts ExprFacts (arg_facts_step p) (expr_facts_step p) (bare_arg y)
      ∙ arg_form y
      ∙ ap (arg_facts_of p) (sym (fold-roll-Arg ArgTree ExprTree arg_tree_step expr_tree_step (bare_arg y)))

  expr_layer : (y : Expr-F InnerArg InnerExpr) → SameExpr (roll-Expr (bare_expr y))
  unfolding expr_facts arg_facts tree_of_expr tree_of_arg
  expr_layer y = fold-roll-Expr ArgFacts ExprFacts (arg_facts_step p) (expr_facts_step p) (bare_expr y)
      ∙ expr_form y
      ∙ ap (facts_of p) (sym (fold-roll-Expr ArgTree ExprTree arg_tree_step expr_tree_step (bare_expr y)))

  pub expr_facts_are : (e : Expr) → SameExpr e
  expr_facts_are = ind-Expr SameArg SameExpr
      (λ a y is. subst (λ a. SameArg (roll-Arg a)) is (arg_layer y))
      (λ e y is. subst (λ e. SameExpr (roll-Expr e)) is (expr_layer y))

  pub arg_facts_are : (a : Arg) → SameArg a
  arg_facts_are = ind-Arg SameArg SameExpr
      (λ a y is. subst (λ a. SameArg (roll-Arg a)) is (arg_layer y))
      (λ e y is. subst (λ e. SameExpr (roll-Expr e)) is (expr_layer y))
