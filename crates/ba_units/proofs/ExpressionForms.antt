-- The units of each form of an expression and of an argument, one equation a form.
use Rattle.std.proofs.Common.{◌≡◌, ℕ, ◌+◌, ℤ, List, sym, ◌∙◌, ap}
use Rattle.std.specs.Global.{Box, Vec}
use Rattle.ba_numbers.specs.declared.ids.CallId.{CallId}
use Rattle.ba_numbers.specs.declared.ids.FnId.{FnId}
use Rattle.ba_numbers.specs.declared.ids.VarId.{VarId}
use Rattle.ba_numbers.specs.declared.numbers.BinOp.{BinOp}
use Rattle.ba_numbers.specs.declared.numbers.CType.{CType}
use Rattle.ba_numbers.specs.declared.numbers.UnOp.{UnOp}
use Rattle.ba_tree.specs.Units.{ArgUnits, Lengths, arg_units_step, call_units, element_units, expr_units_step, length_at, operator_units}
use Rattle.ba_tree.specs.declared.tree.Arg.{Arg}
use Rattle.ba_tree.specs.declared.tree.Arg as arguments
use Rattle.ba_tree.specs.declared.tree.Arg.TheOpen.{Arg-F, Expr-F}
use Rattle.ba_tree.specs.declared.tree.Arg.TheFolds.{fold-Arg, fold-roll-Arg, fold-roll-Expr}
use Rattle.ba_tree.specs.declared.tree.Expr.{Expr}
use Rattle.ba_tree.specs.declared.tree.Expr as tree
use Rattle.ba_units.specs.Counts.{arg_units, bodies_of, expr_units, units_of_call}
use Rattle.ba_units.specs.Lengths.{lengths_of}
use Rattle.ba_units.specs.declared.frame.Frame.{Frame}
use Rattle.ba_units.specs.declared.setting.Setting.{Setting}
use Rattle.ba_units.proofs.Maps.{map-map}

-- what the folds give for an argument and for an expression
abbrev Given : Type 0
Given = Lengths → ArgUnits

abbrev Units : Type 0
Units = Lengths → ℕ

module _ (w : Setting) (n : ℕ) (frame : Frame) where
  abbrev lengths : Lengths
  lengths = lengths_of w.program.now frame

  module _ (e : Expr) where
    -- EXPRESSIONS; x, y and z are the parts as they are counted

    pub expr-Const : (t : CType) (number : ℤ) → e ≡ tree.Const t number → expr_units w n frame e ≡ 0
    unfolding expr_units tree.roll-Expr denote.Hole.Carrier.roll
    expr-Const t number is = ap (expr_units w n frame) is ∙ ap (λ (f : Units). f lengths)
        (fold-roll-Expr Given Units arg_units_step (expr_units_step (bodies_of w n)) (Expr-F.Const t number))

    pub expr-Var : (v : VarId) → e ≡ tree.Var v → expr_units w n frame e ≡ 0
    unfolding expr_units tree.roll-Expr denote.Hole.Carrier.roll
    expr-Var v is = ap (expr_units w n frame) is ∙ ap (λ (f : Units). f lengths)
        (fold-roll-Expr Given Units arg_units_step (expr_units_step (bodies_of w n)) (Expr-F.Var v))

    pub expr-Element : (array : VarId) (index : Box Expr) (x : Expr) → e ≡ tree.Element array index
        → x ≡ index.value
        → expr_units w n frame e ≡ element_units (length_at lengths array) + expr_units w n frame x
    unfolding expr_units tree.roll-Expr denote.Hole.Carrier.roll
    expr-Element array index x is at_x = ap (expr_units w n frame) is ∙ ap (λ (f : Units). f lengths)
        (fold-roll-Expr Given Units arg_units_step (expr_units_step (bodies_of w n))
        (Expr-F.Element array index))
        ∙ ap (λ x. element_units (length_at lengths array) + expr_units w n frame x) (sym at_x)

    pub expr-Unary : (op : UnOp) (t : CType) (a : Box Expr) (x : Expr) → e ≡ tree.Unary op t a → x ≡ a.value
        → expr_units w n frame e ≡ 1 + expr_units w n frame x
    unfolding expr_units tree.roll-Expr denote.Hole.Carrier.roll
    expr-Unary op t a x is at_x = ap (expr_units w n frame) is ∙ ap (λ (f : Units). f lengths)
        (fold-roll-Expr Given Units arg_units_step (expr_units_step (bodies_of w n)) (Expr-F.Unary op t a))
        ∙ ap (λ x. 1 + expr_units w n frame x) (sym at_x)

    pub expr-Binary : (op : BinOp) (t : CType) (a b : Box Expr) (x y : Expr) → e ≡ tree.Binary op t a b
        → x ≡ a.value
        → y ≡ b.value
        → expr_units w n frame e ≡ operator_units op + expr_units w n frame x + expr_units w n frame y
    unfolding expr_units tree.roll-Expr denote.Hole.Carrier.roll
    expr-Binary op t a b x y is at_x at_y = ap (expr_units w n frame) is ∙ ap (λ (f : Units). f lengths)
        (fold-roll-Expr Given Units arg_units_step (expr_units_step (bodies_of w n)) (Expr-F.Binary op t a b))
        ∙ sym (λ i. operator_units op + expr_units w n frame (at_x i) + expr_units w n frame (at_y i))

    pub expr-AndAlso : (a b : Box Expr) (x y : Expr) → e ≡ tree.AndAlso a b → x ≡ a.value → y ≡ b.value
        → expr_units w n frame e ≡ 1 + expr_units w n frame x + expr_units w n frame y
    unfolding expr_units tree.roll-Expr denote.Hole.Carrier.roll
    expr-AndAlso a b x y is at_x at_y = ap (expr_units w n frame) is ∙ ap (λ (f : Units). f lengths)
        (fold-roll-Expr Given Units arg_units_step (expr_units_step (bodies_of w n)) (Expr-F.AndAlso a b))
        ∙ sym (λ i. 1 + expr_units w n frame (at_x i) + expr_units w n frame (at_y i))

    pub expr-OrElse : (a b : Box Expr) (x y : Expr) → e ≡ tree.OrElse a b → x ≡ a.value → y ≡ b.value
        → expr_units w n frame e ≡ 1 + expr_units w n frame x + expr_units w n frame y
    unfolding expr_units tree.roll-Expr denote.Hole.Carrier.roll
    expr-OrElse a b x y is at_x at_y = ap (expr_units w n frame) is ∙ ap (λ (f : Units). f lengths)
        (fold-roll-Expr Given Units arg_units_step (expr_units_step (bodies_of w n)) (Expr-F.OrElse a b))
        ∙ sym (λ i. 1 + expr_units w n frame (at_x i) + expr_units w n frame (at_y i))

    pub expr-Select : (t : CType) (when a b : Box Expr) (x y z : Expr) → e ≡ tree.Select t when a b
        → x ≡ when.value
        → y ≡ a.value → z ≡ b.value
        → expr_units w n frame e
        ≡ 1 + expr_units w n frame x + expr_units w n frame y + expr_units w n frame z
    unfolding expr_units tree.roll-Expr denote.Hole.Carrier.roll
    expr-Select t when a b x y z is at_x at_y at_z = ap (expr_units w n frame) is
        ∙ ap (λ (f : Units). f lengths)
        (fold-roll-Expr Given Units arg_units_step (expr_units_step (bodies_of w n))
        (Expr-F.Select t when a b))
        ∙ sym (λ i. 1 + expr_units w n frame (at_x i) + expr_units w n frame (at_y i) + expr_units w n frame
        (at_z i))

    pub expr-Convert : (t : CType) (a : Box Expr) (x : Expr) → e ≡ tree.Convert t a → x ≡ a.value
        → expr_units w n frame e ≡ expr_units w n frame x
    unfolding expr_units tree.roll-Expr denote.Hole.Carrier.roll
    expr-Convert t a x is at_x = ap (expr_units w n frame) is ∙ ap (λ (f : Units). f lengths)
        (fold-roll-Expr Given Units arg_units_step (expr_units_step (bodies_of w n)) (Expr-F.Convert t a))
        ∙ ap (expr_units w n frame) (sym at_x)

    pub expr-Call : (call : CallId) (function : FnId) (args : Vec Arg) (xs : List Arg)
        → e ≡ tree.Call call function args
        → xs ≡ args.items → expr_units w n frame e ≡ units_of_call w n frame function xs
    unfolding expr_units units_of_call tree.roll-Expr denote.Hole.Carrier.roll
    expr-Call call function args xs is at_xs = ap (expr_units w n frame) is ∙ ap (λ (f : Units). f lengths)
        (fold-roll-Expr Given Units arg_units_step (expr_units_step (bodies_of w n))
        (Expr-F.Call call function args))
        ∙ ap (call_units (bodies_of w n) function) (map-map (λ (a : Given). a lengths)
        (fold-Arg Given Units arg_units_step (expr_units_step (bodies_of w n))) args.items)
        ∙ ap (units_of_call w n frame function) (sym at_xs)

  module _ (a : Arg) where
    -- ARGUMENTS

    pub arg-Value : (value : Expr) → a ≡ arguments.Value value
        → arg_units w n frame a ≡ 1 + expr_units w n frame value
    unfolding arg_units expr_units arguments.roll-Arg denote.Hole.Carrier.roll
    arg-Value value is = ap (arg_units w n frame) is ∙ ap (λ (f : Given). (f lengths).units)
        (fold-roll-Arg Given Units arg_units_step (expr_units_step (bodies_of w n)) (Arg-F.Value value))

    pub arg-Array : (array : VarId) → a ≡ arguments.Array array → arg_units w n frame a ≡ 0
    unfolding arg_units arguments.roll-Arg denote.Hole.Carrier.roll
    arg-Array array is = ap (arg_units w n frame) is ∙ ap (λ (f : Given). (f lengths).units)
        (fold-roll-Arg Given Units arg_units_step (expr_units_step (bodies_of w n)) (Arg-F.Array array))
