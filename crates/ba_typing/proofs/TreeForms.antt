-- What each form of the typed tree is in the standard's terms, one equation a form.
use Rattle.std.proofs.Common.{◌≡◌, ℤ, map, ◌∙◌, ap}
use Rattle.std.specs.Global.{Box, Vec}
use Rattle.ba_numbers.specs.declared.ids.CallId.{CallId}
use Rattle.ba_numbers.specs.declared.ids.FnId.{FnId}
use Rattle.ba_numbers.specs.declared.ids.VarId.{VarId}
use Rattle.ba_numbers.specs.declared.numbers.BinOp.{BinOp}
use Rattle.ba_numbers.specs.declared.numbers.CType.{CType}
use Rattle.ba_numbers.specs.declared.numbers.UnOp.{UnOp}
use Rattle.ba_tree.specs.declared.tree.Arg.{Arg}
use Rattle.ba_tree.specs.declared.tree.Arg.TheFolds.{fold-roll-Expr}
use Rattle.ba_tree.specs.declared.tree.Arg.TheOpen.{Expr-F}
use Rattle.ba_tree.specs.declared.tree.Expr.{Expr}
use Rattle.ba_tree.specs.declared.tree.Expr as code
use Rattle.ba_tree.specs.Trees.{ArgTree, ExprTree, arg_tree_step, expr_tree_step, args_of, tree_of_arg, tree_of_expr}
use Rattle.ba_tree.specs.Trees as tree

pub tree-Convert : (t : CType) (a : Box Expr) (x : Expr) → a.value ≡ x
    → tree_of_expr (code.Convert t a) ≡ tree.convert t (tree_of_expr x)
unfolding tree_of_expr code.roll-Expr denote.Hole.Carrier.roll
tree-Convert t a x a_is =
    fold-roll-Expr ArgTree ExprTree arg_tree_step expr_tree_step (Expr-F.Convert t a)
    ∙ ap (λ e. tree.convert t (tree_of_expr e)) a_is

pub tree-Element : (array : VarId) (a : Box Expr) (x : Expr) → a.value ≡ x
    → tree_of_expr (code.Element array a) ≡ tree.element array (tree_of_expr x)
unfolding tree_of_expr code.roll-Expr denote.Hole.Carrier.roll
tree-Element array a x a_is =
    fold-roll-Expr ArgTree ExprTree arg_tree_step expr_tree_step (Expr-F.Element array a)
    ∙ ap (λ e. tree.element array (tree_of_expr e)) a_is

pub tree-Unary : (op : UnOp) (t : CType) (a : Box Expr) (x : Expr) → a.value ≡ x
    → tree_of_expr (code.Unary op t a) ≡ tree.unary op t (tree_of_expr x)
unfolding tree_of_expr code.roll-Expr denote.Hole.Carrier.roll
tree-Unary op t a x a_is =
    fold-roll-Expr ArgTree ExprTree arg_tree_step expr_tree_step (Expr-F.Unary op t a)
    ∙ ap (λ e. tree.unary op t (tree_of_expr e)) a_is

pub tree-Binary : (op : BinOp) (t : CType) (a b : Box Expr) (x y : Expr) → a.value ≡ x → b.value ≡ y
    → tree_of_expr (code.Binary op t a b) ≡ tree.binary op t (tree_of_expr x) (tree_of_expr y)
unfolding tree_of_expr code.roll-Expr denote.Hole.Carrier.roll
tree-Binary op t a b x y a_is b_is =
    fold-roll-Expr ArgTree ExprTree arg_tree_step expr_tree_step (Expr-F.Binary op t a b)
    ∙ ap (λ e. tree.binary op t (tree_of_expr e) (tree_of_expr b.value)) a_is
    ∙ ap (λ e. tree.binary op t (tree_of_expr x) (tree_of_expr e)) b_is

pub tree-AndAlso : (a b : Box Expr) (x y : Expr) → a.value ≡ x → b.value ≡ y
    → tree_of_expr (code.AndAlso a b) ≡ tree.and_also (tree_of_expr x) (tree_of_expr y)
unfolding tree_of_expr code.roll-Expr denote.Hole.Carrier.roll
tree-AndAlso a b x y a_is b_is =
    fold-roll-Expr ArgTree ExprTree arg_tree_step expr_tree_step (Expr-F.AndAlso a b)
    ∙ ap (λ e. tree.and_also (tree_of_expr e) (tree_of_expr b.value)) a_is
    ∙ ap (λ e. tree.and_also (tree_of_expr x) (tree_of_expr e)) b_is

pub tree-OrElse : (a b : Box Expr) (x y : Expr) → a.value ≡ x → b.value ≡ y
    → tree_of_expr (code.OrElse a b) ≡ tree.or_else (tree_of_expr x) (tree_of_expr y)
unfolding tree_of_expr code.roll-Expr denote.Hole.Carrier.roll
tree-OrElse a b x y a_is b_is =
    fold-roll-Expr ArgTree ExprTree arg_tree_step expr_tree_step (Expr-F.OrElse a b)
    ∙ ap (λ e. tree.or_else (tree_of_expr e) (tree_of_expr b.value)) a_is
    ∙ ap (λ e. tree.or_else (tree_of_expr x) (tree_of_expr e)) b_is

pub tree-Select : (t : CType) (a b d : Box Expr) (x y z : Expr) → a.value ≡ x → b.value ≡ y → d.value ≡ z
    → tree_of_expr (code.Select t a b d) ≡ tree.select t (tree_of_expr x) (tree_of_expr y) (tree_of_expr z)
unfolding tree_of_expr code.roll-Expr denote.Hole.Carrier.roll
tree-Select t a b d x y z a_is b_is d_is =
    fold-roll-Expr ArgTree ExprTree arg_tree_step expr_tree_step (Expr-F.Select t a b d)
    ∙ ap (λ e. tree.select t (tree_of_expr e) (tree_of_expr b.value) (tree_of_expr d.value)) a_is
    ∙ ap (λ e. tree.select t (tree_of_expr x) (tree_of_expr e) (tree_of_expr d.value)) b_is
    ∙ ap (λ e. tree.select t (tree_of_expr x) (tree_of_expr y) (tree_of_expr e)) d_is

pub tree-Const : (t : CType) (z : ℤ) → tree_of_expr (code.Const t z) ≡ tree.const t z
unfolding tree_of_expr code.roll-Expr denote.Hole.Carrier.roll
tree-Const t z = fold-roll-Expr ArgTree ExprTree arg_tree_step expr_tree_step (Expr-F.Const t z)

pub tree-Call : (call : CallId) (function : FnId) (args : Vec Arg)
    → tree_of_expr (code.Call call function args) ≡ tree.call call function (args_of (map tree_of_arg
    args.items))
unfolding tree_of_expr tree_of_arg code.roll-Expr denote.Hole.Carrier.roll
tree-Call call function args = fold-roll-Expr ArgTree ExprTree arg_tree_step expr_tree_step (Expr-F.Call
    call function args)

pub tree-Var : (var : VarId) → tree_of_expr (code.Var var) ≡ tree.var var
unfolding tree_of_expr code.roll-Expr denote.Hole.Carrier.roll
tree-Var var = fold-roll-Expr ArgTree ExprTree arg_tree_step expr_tree_step (Expr-F.Var var)
