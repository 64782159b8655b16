-- The units of each form of a statement, one equation a form.
use Rattle.std.proofs.Common.{◌≡◌, ℕ, ◌+◌, Option, List, [], map, length, sum_by, sym, ◌∙◌, ap, add-zero}
use Rattle.std.specs.Global.{Box, Vec}
use Rattle.ba_numbers.specs.declared.ids.CallId.{CallId}
use Rattle.ba_numbers.specs.declared.ids.FnId.{FnId}
use Rattle.ba_numbers.specs.declared.ids.StmtId.{StmtId}
use Rattle.ba_numbers.specs.declared.ids.VarId.{VarId}
use Rattle.ba_numbers.specs.declared.numbers.CType.{CType}
use Rattle.ba_tree.specs.Meaning.{variable_of}
use Rattle.ba_tree.specs.Units.{Lengths, declaration_units, element_units, length_at, loop_units, stmt_units_step}
use Rattle.ba_tree.specs.declared.tree.Arg.{Arg}
use Rattle.ba_tree.specs.declared.tree.Expr.{Expr}
use Rattle.ba_tree.specs.declared.tree.Start.{Start}
use Rattle.ba_tree.specs.declared.tree.Stmt.{Stmt}
use Rattle.ba_tree.specs.declared.tree.Stmt as stmts
use Rattle.ba_tree.specs.declared.tree.Stmt.TheOpen.{Stmt-F}
use Rattle.ba_tree.specs.declared.tree.Stmt.TheFolds.{fold-Stmt, fold-roll-Stmt}
use Rattle.ba_units.specs.Counts.{bodies_of, expr_units, exprs_units, stmt_units, stmts_units, units_of_call}
use Rattle.ba_units.specs.Lengths.{lengths_of}
use Rattle.ba_units.specs.declared.frame.Frame.{Frame}
use Rattle.ba_units.specs.declared.setting.Setting.{Setting}
use Rattle.ba_units.proofs.Maps.{sum_by-map}

-- what follows `else`
abbrev pub otherwise_units : Setting → ℕ → Frame → Option (Box Stmt) → ℕ
otherwise_units w n frame Option.None = 0
otherwise_units w n frame (Option.Some part) = stmt_units w n frame part.value

-- what the fold gives for a statement
abbrev Units : Type 0
Units = Lengths → ℕ

module _ (w : Setting) (n : ℕ) (frame : Frame) (s : Stmt) where
  abbrev lengths : Lengths
  lengths = lengths_of w.program.now frame

  abbrev step_units : Stmt-F Units → Units
  step_units = stmt_units_step w.program.now w.turns (bodies_of w n)

  -- a row that is mapped by the fold
  row-is : (parts : List Stmt) (xs : List Stmt) → xs ≡ parts
      → sum_by (λ (part : Units). part lengths)
      (map (fold-Stmt Units step_units) parts)
      ≡ stmts_units w n frame xs
  unfolding stmt_units
  row-is parts xs at_xs = sum_by-map (λ (part : Units). part lengths)
      (fold-Stmt Units step_units) parts
      ∙ ap (stmts_units w n frame) (sym at_xs)

  pub stmt-Block : (body : Vec Stmt) (xs : List Stmt) → s ≡ stmts.Block body → xs ≡ body.items
      → stmt_units w n frame s ≡ stmts_units w n frame xs
  unfolding stmt_units stmts.roll-Stmt denote.Hole.Carrier.roll
  stmt-Block body xs is at_xs = ap (stmt_units w n frame) is ∙ ap (λ (f : Units). f lengths)
      (fold-roll-Stmt Units step_units (Stmt-F.Block body))
      ∙ row-is body.items xs at_xs

  pub stmt-Declare : (v : VarId) → s ≡ stmts.Declare v
      → stmt_units w n frame s ≡ declaration_units (variable_of w.program.now v).shape
  unfolding stmt_units stmts.roll-Stmt denote.Hole.Carrier.roll
  stmt-Declare v is = ap (stmt_units w n frame) is ∙ ap (λ (f : Units). f lengths)
      (fold-roll-Stmt Units step_units (Stmt-F.Declare v))

  pub stmt-Init : (stmt : StmtId) (v : VarId) (value : Expr) → s ≡ stmts.Init stmt v value
      → stmt_units w n frame s ≡ expr_units w n frame value
  unfolding stmt_units expr_units stmts.roll-Stmt denote.Hole.Carrier.roll
  stmt-Init stmt v value is = ap (stmt_units w n frame) is ∙ ap (λ (f : Units). f lengths)
      (fold-roll-Stmt Units step_units (Stmt-F.Init stmt v value))

  pub stmt-InitArray : (stmt : StmtId) (array : VarId) (values : Vec Expr) (xs : List Expr)
      → s ≡ stmts.InitArray stmt array values → xs ≡ values.items
      → stmt_units w n frame s ≡ exprs_units w n frame xs
  unfolding stmt_units expr_units stmts.roll-Stmt denote.Hole.Carrier.roll
  stmt-InitArray stmt array values xs is at_xs = ap (stmt_units w n frame) is ∙ ap (λ (f : Units). f lengths)
      (fold-roll-Stmt Units step_units (Stmt-F.InitArray stmt array values))
      ∙ ap (exprs_units w n frame) (sym at_xs)

  pub stmt-Assign : (stmt : StmtId) (v : VarId) (value : Expr) → s ≡ stmts.Assign stmt v value
      → stmt_units w n frame s ≡ 1 + expr_units w n frame value
  unfolding stmt_units expr_units stmts.roll-Stmt denote.Hole.Carrier.roll
  stmt-Assign stmt v value is = ap (stmt_units w n frame) is ∙ ap (λ (f : Units). f lengths)
      (fold-roll-Stmt Units step_units (Stmt-F.Assign stmt v value))

  pub stmt-Store : (stmt : StmtId) (array : VarId) (index value : Expr)
      → s ≡ stmts.Store stmt array index value
      → stmt_units w n frame s
      ≡ 1 + element_units (length_at lengths array) + expr_units w n frame index + expr_units w n frame value
  unfolding stmt_units expr_units stmts.roll-Stmt denote.Hole.Carrier.roll
  stmt-Store stmt array index value is = ap (stmt_units w n frame) is ∙ ap (λ (f : Units). f lengths)
      (fold-roll-Stmt Units step_units (Stmt-F.Store stmt array index value))

  stmt-If : (stmt : StmtId) (when : Expr) (a : Box Stmt) (b : Option (Box Stmt)) (x : Stmt)
      → s ≡ stmts.If stmt when a b
      → x ≡ a.value
      → stmt_units w n frame s
      ≡ 1 + expr_units w n frame when + stmt_units w n frame x + otherwise_units w n frame b
  unfolding stmt_units expr_units stmts.roll-Stmt denote.Hole.Carrier.roll
  stmt-If stmt when a Option.None x is at_x = ap (stmt_units w n frame) is ∙ ap (λ (f : Units). f lengths)
      (fold-roll-Stmt Units step_units (Stmt-F.If stmt when a Option.None))
      ∙ ap (λ x. 1 + expr_units w n frame when + stmt_units w n frame x + 0) (sym at_x)
  stmt-If stmt when a (Option.Some b) x is at_x = ap (stmt_units w n frame) is ∙ ap (λ (f : Units). f lengths)
      (fold-roll-Stmt Units step_units (Stmt-F.If stmt when a (Option.Some b)))
      ∙ ap (λ x. 1 + expr_units w n frame when + stmt_units w n frame x + stmt_units w n frame b.value)
      (sym at_x)

  pub stmt-If-None : (stmt : StmtId) (when : Expr) (a : Box Stmt) (b : Option (Box Stmt)) (x : Stmt)
      → s ≡ stmts.If stmt when a b → x ≡ a.value → b ≡ Option.None
      → stmt_units w n frame s ≡ 1 + expr_units w n frame when + stmt_units w n frame x
  stmt-If-None stmt when a b x is at_x none = stmt-If stmt when a b x is at_x
      ∙ ap (λ b. 1 + expr_units w n frame when + stmt_units w n frame x + otherwise_units w n frame b) none
      ∙ add-zero (1 + expr_units w n frame when + stmt_units w n frame x)

  pub stmt-If-Some : (stmt : StmtId) (when : Expr) (a : Box Stmt) (b : Option (Box Stmt)) (part : Box Stmt)
      (x y : Stmt)
      → s ≡ stmts.If stmt when a b → x ≡ a.value → b ≡ Option.Some part → y ≡ part.value
      → stmt_units w n frame s
      ≡ 1 + expr_units w n frame when + stmt_units w n frame x + stmt_units w n frame y
  stmt-If-Some stmt when a b part x y is at_x some at_y = stmt-If stmt when a b x is at_x
      ∙ ap (λ b. 1 + expr_units w n frame when + stmt_units w n frame x + otherwise_units w n frame b) some
      ∙ ap (λ y. 1 + expr_units w n frame when + stmt_units w n frame x + stmt_units w n frame y) (sym at_y)

  pub stmt-Switch : (stmt : StmtId) (t : CType) (on : Expr) (starts : Vec Start) (other : Option ℕ)
      (body : Vec Stmt) (xs : List Stmt)
      → s ≡ stmts.Switch stmt t on starts other body → xs ≡ body.items
      → stmt_units w n frame s
      ≡ 1 + expr_units w n frame on + length starts.items + stmts_units w n frame xs
  unfolding stmt_units expr_units stmts.roll-Stmt denote.Hole.Carrier.roll
  stmt-Switch stmt t on starts other body xs is at_xs = ap (stmt_units w n frame) is
      ∙ ap (λ (f : Units). f lengths)
      (fold-roll-Stmt Units step_units (Stmt-F.Switch stmt t on starts other body))
      ∙ (λ i. 1 + expr_units w n frame on + length starts.items + row-is body.items xs at_xs i)

  pub stmt-While : (stmt : StmtId) (when : Expr) (body : Box Stmt) (x : Stmt) (zs : List Stmt)
      → s ≡ stmts.While stmt when body → x ≡ body.value → zs ≡ []
      → stmt_units w n frame s
      ≡ loop_units w.turns (1 + expr_units w n frame when) (stmt_units w n frame x) (stmts_units w n frame zs)
  unfolding stmt_units expr_units stmts.roll-Stmt denote.Hole.Carrier.roll
  stmt-While stmt when body x zs is at_x none = ap (stmt_units w n frame) is ∙ ap (λ (f : Units). f lengths)
      (fold-roll-Stmt Units step_units (Stmt-F.While stmt when body))
      ∙ sym (λ i. loop_units w.turns (1 + expr_units w n frame when) (stmt_units w n frame (at_x i))
      (stmts_units w n frame (none i)))

  pub stmt-DoWhile : (stmt : StmtId) (when : Expr) (body : Box Stmt) (x : Stmt) (zs : List Stmt)
      → s ≡ stmts.DoWhile stmt when body → x ≡ body.value → zs ≡ []
      → stmt_units w n frame s
      ≡ loop_units w.turns (1 + expr_units w n frame when) (stmt_units w n frame x) (stmts_units w n frame zs)
  unfolding stmt_units expr_units stmts.roll-Stmt denote.Hole.Carrier.roll
  stmt-DoWhile stmt when body x zs is at_x none = ap (stmt_units w n frame) is ∙ ap (λ (f : Units). f lengths)
      (fold-roll-Stmt Units step_units (Stmt-F.DoWhile stmt when body))
      ∙ sym (λ i. loop_units w.turns (1 + expr_units w n frame when) (stmt_units w n frame (at_x i))
      (stmts_units w n frame (none i)))

  pub stmt-For : (stmt : StmtId) (first : Vec Stmt) (when : Expr) (step : Vec Stmt) (body : Box Stmt)
      (xs zs : List Stmt)
      (x : Stmt) → s ≡ stmts.For stmt first when step body → xs ≡ first.items → x ≡ body.value
      → zs ≡ step.items
      → stmt_units w n frame s
      ≡ stmts_units w n frame xs
      + loop_units w.turns (1 + expr_units w n frame when) (stmt_units w n frame x) (stmts_units w n frame zs)
  unfolding stmt_units expr_units stmts.roll-Stmt denote.Hole.Carrier.roll
  stmt-For stmt first when step body xs zs x is at_xs at_x at_zs = ap (stmt_units w n frame) is
      ∙ ap (λ (f : Units). f lengths)
      (fold-roll-Stmt Units step_units (Stmt-F.For stmt first when step body))
      ∙ (λ i. row-is first.items xs at_xs i
      + loop_units w.turns (1 + expr_units w n frame when) (stmt_units w n frame (sym at_x i))
      (row-is step.items zs at_zs i))

  pub stmt-Break : s ≡ stmts.Break → stmt_units w n frame s ≡ 1
  unfolding stmt_units stmts.roll-Stmt denote.Hole.Carrier.roll
  stmt-Break is = ap (stmt_units w n frame) is ∙ ap (λ (f : Units). f lengths)
      (fold-roll-Stmt Units step_units Stmt-F.Break)

  pub stmt-Continue : s ≡ stmts.Continue → stmt_units w n frame s ≡ 1
  unfolding stmt_units stmts.roll-Stmt denote.Hole.Carrier.roll
  stmt-Continue is = ap (stmt_units w n frame) is ∙ ap (λ (f : Units). f lengths)
      (fold-roll-Stmt Units step_units Stmt-F.Continue)

  pub stmt-Return : (stmt : StmtId) (value : Expr) → s ≡ stmts.Return stmt value
      → stmt_units w n frame s ≡ 1 + expr_units w n frame value
  unfolding stmt_units expr_units stmts.roll-Stmt denote.Hole.Carrier.roll
  stmt-Return stmt value is = ap (stmt_units w n frame) is ∙ ap (λ (f : Units). f lengths)
      (fold-roll-Stmt Units step_units (Stmt-F.Return stmt value))

  pub stmt-ReturnNone : s ≡ stmts.ReturnNone → stmt_units w n frame s ≡ 1
  unfolding stmt_units stmts.roll-Stmt denote.Hole.Carrier.roll
  stmt-ReturnNone is = ap (stmt_units w n frame) is ∙ ap (λ (f : Units). f lengths)
      (fold-roll-Stmt Units step_units Stmt-F.ReturnNone)

  pub stmt-CallStmt : (stmt : StmtId) (call : CallId) (function : FnId) (args : Vec Arg) (xs : List Arg)
      → s ≡ stmts.CallStmt stmt call function args → xs ≡ args.items
      → stmt_units w n frame s ≡ 1 + units_of_call w n frame function xs
  unfolding stmt_units units_of_call stmts.roll-Stmt denote.Hole.Carrier.roll
  stmt-CallStmt stmt call function args xs is at_xs = ap (stmt_units w n frame) is
      ∙ ap (λ (f : Units). f lengths)
      (fold-roll-Stmt Units step_units (Stmt-F.CallStmt stmt call function args))
      ∙ ap (λ xs. 1 + units_of_call w n frame function xs) (sym at_xs)

  pub stmt-Print : (stmt : StmtId) (args : Vec Expr) (xs : List Expr) → s ≡ stmts.Print stmt args
      → xs ≡ args.items
      → stmt_units w n frame s ≡ 1 + exprs_units w n frame xs
  unfolding stmt_units expr_units stmts.roll-Stmt denote.Hole.Carrier.roll
  stmt-Print stmt args xs is at_xs = ap (stmt_units w n frame) is ∙ ap (λ (f : Units). f lengths)
      (fold-roll-Stmt Units step_units (Stmt-F.Print stmt args))
      ∙ ap (λ xs. 1 + exprs_units w n frame xs) (sym at_xs)

  pub stmt-Assert : (stmt : StmtId) (when : Expr) → s ≡ stmts.Assert stmt when
      → stmt_units w n frame s ≡ 1 + expr_units w n frame when
  unfolding stmt_units expr_units stmts.roll-Stmt denote.Hole.Carrier.roll
  stmt-Assert stmt when is = ap (stmt_units w n frame) is ∙ ap (λ (f : Units). f lengths)
      (fold-roll-Stmt Units step_units (Stmt-F.Assert stmt when))
