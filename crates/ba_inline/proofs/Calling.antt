-- Whether an expression makes a call, one equation a form.
use Rattle.std.proofs.Common.{◌≡◌, ℤ, Bool, true, false, ◌||◌, ◌∙◌, ap}
use Rattle.std.specs.Global.{Box, Vec}
use Rattle.ba_inline.specs.Calling.{arg_calls_step, arg_has_call, calls_step, has_call}
use Rattle.ba_numbers.specs.declared.ids.CallId.{CallId}
use Rattle.ba_numbers.specs.declared.ids.FnId.{FnId}
use Rattle.ba_numbers.specs.declared.ids.VarId.{VarId}
use Rattle.ba_numbers.specs.declared.numbers.BinOp.{BinOp}
use Rattle.ba_numbers.specs.declared.numbers.CType.{CType}
use Rattle.ba_numbers.specs.declared.numbers.UnOp.{UnOp}
use Rattle.ba_tree.specs.declared.tree.Arg.{Arg}
use Rattle.ba_tree.specs.declared.tree.Arg as arg
use Rattle.ba_tree.specs.declared.tree.Arg.TheOpen.{Arg-F, Expr-F}
use Rattle.ba_tree.specs.declared.tree.Arg.TheFolds.{fold-roll-Arg, fold-roll-Expr}
use Rattle.ba_tree.specs.declared.tree.Expr.{Expr}
use Rattle.ba_tree.specs.declared.tree.Expr as tree

module _ (e : Expr) where
  pub has_call-Const : (t : CType) (z : ℤ) → e ≡ tree.Const t z → has_call e ≡ false
  unfolding has_call tree.roll-Expr denote.Hole.Carrier.roll
  has_call-Const t z is = ap has_call is ∙ fold-roll-Expr Bool Bool arg_calls_step calls_step (Expr-F.Const
      t z)

  pub has_call-Var : (v : VarId) → e ≡ tree.Var v → has_call e ≡ false
  unfolding has_call tree.roll-Expr denote.Hole.Carrier.roll
  has_call-Var v is = ap has_call is ∙ fold-roll-Expr Bool Bool arg_calls_step calls_step (Expr-F.Var v)

  pub has_call-Element : (array : VarId) (index : Box Expr) → e ≡ tree.Element array index →
      has_call e ≡ has_call index.value
  unfolding has_call tree.roll-Expr denote.Hole.Carrier.roll
  has_call-Element array index is = ap has_call is ∙ fold-roll-Expr Bool Bool arg_calls_step calls_step
      (Expr-F.Element array index)

  pub has_call-Unary : (op : UnOp) (t : CType) (a : Box Expr) → e ≡ tree.Unary op t a →
      has_call e ≡ has_call a.value
  unfolding has_call tree.roll-Expr denote.Hole.Carrier.roll
  has_call-Unary op t a is = ap has_call is ∙ fold-roll-Expr Bool Bool arg_calls_step calls_step
      (Expr-F.Unary op t a)

  pub has_call-Binary : (op : BinOp) (t : CType) (a b : Box Expr) → e ≡ tree.Binary op t a b →
      has_call e ≡ (has_call a.value || has_call b.value)
  unfolding has_call tree.roll-Expr denote.Hole.Carrier.roll
  has_call-Binary op t a b is = ap has_call is ∙ fold-roll-Expr Bool Bool arg_calls_step calls_step
      (Expr-F.Binary op t a b)

  pub has_call-AndAlso : (a b : Box Expr) → e ≡ tree.AndAlso a b →
      has_call e ≡ (has_call a.value || has_call b.value)
  unfolding has_call tree.roll-Expr denote.Hole.Carrier.roll
  has_call-AndAlso a b is = ap has_call is ∙ fold-roll-Expr Bool Bool arg_calls_step calls_step
      (Expr-F.AndAlso a b)

  pub has_call-OrElse : (a b : Box Expr) → e ≡ tree.OrElse a b →
      has_call e ≡ (has_call a.value || has_call b.value)
  unfolding has_call tree.roll-Expr denote.Hole.Carrier.roll
  has_call-OrElse a b is = ap has_call is ∙ fold-roll-Expr Bool Bool arg_calls_step calls_step
      (Expr-F.OrElse a b)

  pub has_call-Select : (t : CType) (when a b : Box Expr) → e ≡ tree.Select t when a b →
      has_call e ≡ (has_call when.value || (has_call a.value || has_call b.value))
  unfolding has_call tree.roll-Expr denote.Hole.Carrier.roll
  has_call-Select t when a b is = ap has_call is ∙ fold-roll-Expr Bool Bool arg_calls_step calls_step
      (Expr-F.Select t when a b)

  pub has_call-Convert : (t : CType) (a : Box Expr) → e ≡ tree.Convert t a → has_call e ≡ has_call a.value
  unfolding has_call tree.roll-Expr denote.Hole.Carrier.roll
  has_call-Convert t a is = ap has_call is ∙ fold-roll-Expr Bool Bool arg_calls_step calls_step
      (Expr-F.Convert t a)

  pub has_call-Call : (call : CallId) (function : FnId) (args : Vec Arg) →
      e ≡ tree.Call call function args → has_call e ≡ true
  unfolding has_call tree.roll-Expr denote.Hole.Carrier.roll
  has_call-Call call function args is = ap has_call is ∙ fold-roll-Expr Bool Bool arg_calls_step calls_step
      (Expr-F.Call call function args)

module _ (a : Arg) where
  pub arg_has_call-Value : (value : Expr) → a ≡ arg.Value value → arg_has_call a ≡ has_call value
  unfolding has_call arg_has_call arg.roll-Arg denote.Hole.Carrier.roll
  arg_has_call-Value value is = ap arg_has_call is ∙ fold-roll-Arg Bool Bool arg_calls_step calls_step
      (Arg-F.Value value)

  pub arg_has_call-Array : (array : VarId) → a ≡ arg.Array array → arg_has_call a ≡ false
  unfolding arg_has_call arg.roll-Arg denote.Hole.Carrier.roll
  arg_has_call-Array array is = ap arg_has_call is ∙ fold-roll-Arg Bool Bool arg_calls_step calls_step
      (Arg-F.Array array)
