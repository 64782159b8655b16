-- The typed tree in the standard's terms: the tree of the Rust types without the capacity of vectors.

use Rattle.std.specs.Prelude.{ℕ, ℤ, Option, None, Some, option_map, List, [], ◌∷◌, map}
use Rattle.ba_numbers.specs.declared.ids.CallId.{CallId}
use Rattle.ba_numbers.specs.declared.ids.FnId.{FnId}
use Rattle.ba_numbers.specs.declared.ids.StmtId.{StmtId}
use Rattle.ba_numbers.specs.declared.ids.VarId.{VarId}
use Rattle.ba_numbers.specs.declared.numbers.BinOp.{BinOp}
use Rattle.ba_numbers.specs.declared.numbers.CType.{CType}
use Rattle.ba_numbers.specs.declared.numbers.UnOp.{UnOp}
use Rattle.ba_tree.specs.declared.tree.Arg.TheOpen.{Arg-F, Expr-F}
use Rattle.ba_tree.specs.declared.tree.Arg.TheFolds.{fold-Arg, fold-Expr}
use Rattle.ba_tree.specs.declared.tree.Arg.{Arg}
use Rattle.ba_tree.specs.declared.tree.Expr.{Expr}
use Rattle.ba_tree.specs.declared.tree.Function.{Function}
use Rattle.ba_tree.specs.declared.tree.Parts.{Parts}
use Rattle.ba_tree.specs.declared.tree.Program.{Program}
use Rattle.ba_tree.specs.declared.tree.Start.{Start}
use Rattle.ba_tree.specs.declared.tree.Stmt.{Stmt}
use Rattle.ba_tree.specs.declared.tree.Stmt.TheOpen.{Stmt-F}
use Rattle.ba_tree.specs.declared.tree.Stmt.TheFolds.{fold-Stmt}
use Rattle.ba_tree.specs.declared.tree.StmtInfo.{StmtInfo}
use Rattle.ba_tree.specs.declared.tree.Variable.{Variable}

-- EXPRESSIONS

mutual
  pub data ExprTree : Type 0 where
    const : CType → ℤ → ExprTree
    var : VarId → ExprTree
    element : VarId → ExprTree → ExprTree
    unary : UnOp → CType → ExprTree → ExprTree
    binary : BinOp → CType → ExprTree → ExprTree → ExprTree
    and_also : ExprTree → ExprTree → ExprTree
    or_else : ExprTree → ExprTree → ExprTree
    select : CType → ExprTree → ExprTree → ExprTree → ExprTree
    convert : CType → ExprTree → ExprTree
    call : CallId → FnId → ArgTrees → ExprTree

  pub data ArgTrees : Type 0 where
    no_more : ArgTrees
    value_then : ExprTree → ArgTrees → ArgTrees
    array_then : VarId → ArgTrees → ArgTrees

-- an argument: an expression, or an array's variable
pub data ArgTree : Type 0 where
  value : ExprTree → ArgTree
  array : VarId → ArgTree

-- a list of arguments as a tree
abbrev pub args_of : List ArgTree → ArgTrees
args_of [] = no_more
args_of (value e ∷ args) = value_then e (args_of args)
args_of (array v ∷ args) = array_then v (args_of args)

-- the tree of an argument, by that of the expression in it
abbrev pub arg_tree_step : Arg-F ArgTree ExprTree → ArgTree
arg_tree_step (Arg-F.Value e) = value e
arg_tree_step (Arg-F.Array v) = array v

-- the tree of an expression, by those of its parts
abbrev pub expr_tree_step : Expr-F ArgTree ExprTree → ExprTree
expr_tree_step (Expr-F.Const t z) = const t z
expr_tree_step (Expr-F.Var v) = var v
expr_tree_step (Expr-F.Element v index) = element v index.value
expr_tree_step (Expr-F.Unary op t a) = unary op t a.value
expr_tree_step (Expr-F.Binary op t a b) = binary op t a.value b.value
expr_tree_step (Expr-F.AndAlso a b) = and_also a.value b.value
expr_tree_step (Expr-F.OrElse a b) = or_else a.value b.value
expr_tree_step (Expr-F.Select t when a b) = select t when.value a.value b.value
expr_tree_step (Expr-F.Convert t a) = convert t a.value
expr_tree_step (Expr-F.Call c f args) = call c f (args_of args.items)

-- the tree of an expression
unfoldable pub tree_of_expr : Expr → ExprTree
tree_of_expr = fold-Expr ArgTree ExprTree arg_tree_step expr_tree_step

-- the tree of an argument
unfoldable pub tree_of_arg : Arg → ArgTree
tree_of_arg = fold-Arg ArgTree ExprTree arg_tree_step expr_tree_step

-- STATEMENTS

mutual
  pub data StmtTree : Type 0 where
    block : StmtTrees → StmtTree
    declare : VarId → StmtTree
    init : StmtId → VarId → ExprTree → StmtTree
    init_array : StmtId → VarId → List ExprTree → StmtTree
    assign : StmtId → VarId → ExprTree → StmtTree
    store : StmtId → VarId → ExprTree → ExprTree → StmtTree
    if_then : StmtId → ExprTree → StmtTree → StmtTree
    if_else : StmtId → ExprTree → StmtTree → StmtTree → StmtTree
    switch : StmtId → CType → ExprTree → List Start → Option ℕ → StmtTrees → StmtTree
    while_loop : StmtId → ExprTree → StmtTree → StmtTree
    do_while : StmtId → ExprTree → StmtTree → StmtTree
    for_loop : StmtId → StmtTrees → ExprTree → StmtTrees → StmtTree → StmtTree
    break_loop : StmtTree
    continue_loop : StmtTree
    return_value : StmtId → ExprTree → StmtTree
    return_none : StmtTree
    call_stmt : StmtId → CallId → FnId → List ArgTree → StmtTree
    print : StmtId → List ExprTree → StmtTree
    assert : StmtId → ExprTree → StmtTree

  pub data StmtTrees : Type 0 where
    no_stmts : StmtTrees
    stmt_then : StmtTree → StmtTrees → StmtTrees

-- a list of statements as a tree
abbrev pub stmts_of : List StmtTree → StmtTrees
stmts_of [] = no_stmts
stmts_of (s ∷ ss) = stmt_then s (stmts_of ss)

-- the tree of an `if`, with an `else` or without
abbrev pub if_tree : StmtId → ExprTree → StmtTree → Option StmtTree → StmtTree
if_tree stmt when a None = if_then stmt when a
if_tree stmt when a (Some b) = if_else stmt when a b

-- the tree of a statement, by those of its parts
abbrev pub stmt_tree_step : Stmt-F StmtTree → StmtTree
stmt_tree_step (Stmt-F.Block body) = block (stmts_of body.items)
stmt_tree_step (Stmt-F.Declare v) = declare v
stmt_tree_step (Stmt-F.Init stmt v e) = init stmt v (tree_of_expr e)
stmt_tree_step (Stmt-F.InitArray stmt v es) = init_array stmt v (map tree_of_expr es.items)
stmt_tree_step (Stmt-F.Assign stmt v e) = assign stmt v (tree_of_expr e)
stmt_tree_step (Stmt-F.Store stmt v index e) = store stmt v (tree_of_expr index) (tree_of_expr e)
stmt_tree_step (Stmt-F.If stmt when a b) = if_tree stmt (tree_of_expr when) a.value
    (option_map (λ b. b.value) b)
stmt_tree_step (Stmt-F.Switch stmt t on starts other body) =
    switch stmt t (tree_of_expr on) starts.items other (stmts_of body.items)
stmt_tree_step (Stmt-F.While stmt when body) = while_loop stmt (tree_of_expr when) body.value
stmt_tree_step (Stmt-F.DoWhile stmt when body) = do_while stmt (tree_of_expr when) body.value
stmt_tree_step (Stmt-F.For stmt first when step body) =
    for_loop stmt (stmts_of first.items) (tree_of_expr when) (stmts_of step.items) body.value
stmt_tree_step Stmt-F.Break = break_loop
stmt_tree_step Stmt-F.Continue = continue_loop
stmt_tree_step (Stmt-F.Return stmt e) = return_value stmt (tree_of_expr e)
stmt_tree_step Stmt-F.ReturnNone = return_none
stmt_tree_step (Stmt-F.CallStmt stmt c f args) = call_stmt stmt c f (map tree_of_arg args.items)
stmt_tree_step (Stmt-F.Print stmt args) = print stmt (map tree_of_expr args.items)
stmt_tree_step (Stmt-F.Assert stmt when) = assert stmt (tree_of_expr when)

-- the tree of a statement
unfoldable pub tree_of_stmt : Stmt → StmtTree
tree_of_stmt = fold-Stmt StmtTree stmt_tree_step

-- PROGRAMS

-- the tree of a function
pub record FunctionTree : Type 0 where
  pub result : Option CType
  pub params : List VarId
  pub locals : List VarId
  pub body : List StmtTree

-- the tree of a program
pub record ProgramTree : Type 0 where
  pub variables : List Variable
  pub globals : List VarId
  pub inits : List StmtTree
  pub functions : List FunctionTree
  pub main : FnId
  pub statements : List StmtInfo

-- a function as a tree
abbrev pub tree_of_function : Function → FunctionTree
tree_of_function f = record {
  result = f.result;
  params = f.params;
  locals = f.locals;
  body =
      map tree_of_stmt f.body;
}

-- a program as a tree
abbrev pub tree_of : Program → ProgramTree
tree_of p = record {
  variables = p.variables;
  globals = p.globals;
  inits = map tree_of_stmt p.inits;
  functions = map tree_of_function p.functions;
  main = p.main;
  statements = p.statements;
}

-- parts that are not yet known to be a program
abbrev pub tree_of_parts : Parts → ProgramTree
tree_of_parts p = record {
  variables = p.variables;
  globals = p.globals;
  inits = map tree_of_stmt p.inits;
  functions = map tree_of_function p.functions;
  main = p.main;
  statements = p.statements;
}
