-- THE EDITED PROGRAM: its tree with one node changed. Nodes are counted from 1, in their order. 0, and a
-- number past the last, change nothing.

use Rattle.std.specs.Prelude.{ℕ, ◌-◌, ◌==◌, if◌then◌else◌, ℤ, Option, None, Some, is_some, List, [], ◌∷◌, map, length}
use Rattle.ba_numbers.specs.declared.ids.StmtId.{StmtId}
use Rattle.ba_numbers.specs.declared.numbers.BinOp.{BinOp}
use Rattle.ba_tree.specs.Trees.{ArgTree, ArgTrees, ExprTree, FunctionTree, ProgramTree, StmtTree, StmtTrees}
use Rattle.ba_tree.specs.Trees as tree
use Rattle.ba_repair.specs.Nodes.{arg_nodes, expr_nodes, operator_nodes, partner_of}
use Rattle.ba_repair.specs.declared.listing.Change.{Change}
use Rattle.ba_repair.specs.declared.listing.Change.TheVariants as change
use Rattle.ba_repair.specs.declared.listing.Edit.{Edit}

-- AT A NODE. The change, if node k is this one
abbrev pub change_here : Change → ℕ → Option Change
change_here c k = if k == 1 then Some c else None

-- the value of a constant after the change
abbrev pub changed_value : Option Change → ℤ → ℤ
changed_value (Some (change.Constant from to)) z = to
changed_value _ z = z

-- an operator with a partner after the change
abbrev pub changed_operator : Option Change → BinOp → BinOp
changed_operator (Some (change.Operator from to)) op = to
changed_operator _ op = op

-- `&&` of these parts after the change, and `||`
abbrev pub changed_and : Option Change → ExprTree → ExprTree → ExprTree
changed_and (Some change.ToOr) a b = tree.or_else a b
changed_and _ a b = tree.and_also a b

abbrev pub changed_or : Option Change → ExprTree → ExprTree → ExprTree
changed_or (Some change.ToAnd) a b = tree.and_also a b
changed_or _ a b = tree.or_else a b

-- the operator after the change; one without a partner is no node
abbrev pub operator_here : Change → ℕ → BinOp → BinOp
operator_here c k op = if is_some (partner_of op) then changed_operator (change_here c k) op else op

-- IN AN EXPRESSION. Each part counts its own nodes from 1, so the nodes before it are taken off. What is 0
-- then, or past its last node, changes nothing in it
abbrev mutual
  pub changed_expr : Change → ℕ → ExprTree → ExprTree
  changed_expr c k (tree.const t z) = tree.const t (changed_value (change_here c k) z)
  changed_expr c k (tree.var v) = tree.var v
  changed_expr c k (tree.element v index) = tree.element v (changed_expr c k index)
  changed_expr c k (tree.unary op t a) = tree.unary op t (changed_expr c k a)
  changed_expr c k (tree.binary op t a b) = tree.binary (operator_here c k op) t
      (changed_expr c (k - length (operator_nodes op)) a)
      (changed_expr c (k - length (operator_nodes op) - length (expr_nodes a)) b)
  changed_expr c k (tree.and_also a b) = changed_and (change_here c k)
      (changed_expr c (k - 1) a) (changed_expr c (k - 1 - length (expr_nodes a)) b)
  changed_expr c k (tree.or_else a b) = changed_or (change_here c k)
      (changed_expr c (k - 1) a) (changed_expr c (k - 1 - length (expr_nodes a)) b)
  changed_expr c k (tree.select t when a b) = tree.select t (changed_expr c k when)
      (changed_expr c (k - length (expr_nodes when)) a)
      (changed_expr c (k - length (expr_nodes when) - length (expr_nodes a)) b)
  changed_expr c k (tree.convert t a) = tree.convert t (changed_expr c k a)
  changed_expr c k (tree.call call f args) = tree.call call f (changed_args c k args)

  pub changed_args : Change → ℕ → ArgTrees → ArgTrees
  changed_args c k tree.no_more = tree.no_more
  changed_args c k (tree.value_then e args) =
      tree.value_then (changed_expr c k e) (changed_args c (k - length (expr_nodes e)) args)
  changed_args c k (tree.array_then v args) = tree.array_then v (changed_args c k args)

abbrev pub changed_arg : Change → ℕ → ArgTree → ArgTree
changed_arg c k (tree.value e) = tree.value (changed_expr c k e)
changed_arg c k (tree.array v) = tree.array v

-- in expressions, and in arguments, in a row
abbrev pub changed_exprs : Change → ℕ → List ExprTree → List ExprTree
changed_exprs c k [] = []
changed_exprs c k (e ∷ es) = changed_expr c k e ∷ changed_exprs c (k - length (expr_nodes e)) es

abbrev pub changed_arg_list : Change → ℕ → List ArgTree → List ArgTree
changed_arg_list c k [] = []
changed_arg_list c k (a ∷ args) = changed_arg c k a ∷ changed_arg_list c (k - length (arg_nodes a)) args

-- IN A STATEMENT. The number of the node that an edit changes in this statement's own expressions: 0 in
-- another statement
abbrev pub node_in : Edit → StmtId → ℕ
node_in e stmt = if stmt.0 == e.stmt.0 then e.node else 0

-- the first expression of a statement after the edit
abbrev pub changed_in : Edit → StmtId → ExprTree → ExprTree
changed_in e stmt = changed_expr e.change (node_in e stmt)

abbrev mutual
  pub changed_stmt : Edit → StmtTree → StmtTree
  changed_stmt e (tree.block body) = tree.block (changed_stmts e body)
  changed_stmt e (tree.declare v) = tree.declare v
  changed_stmt e (tree.init stmt v value) = tree.init stmt v (changed_in e stmt value)
  changed_stmt e (tree.init_array stmt v values) =
      tree.init_array stmt v (changed_exprs e.change (node_in e stmt) values)
  changed_stmt e (tree.assign stmt v value) = tree.assign stmt v (changed_in e stmt value)
  changed_stmt e (tree.store stmt v index value) = tree.store stmt v (changed_in e stmt index)
      (changed_expr e.change (node_in e stmt - length (expr_nodes index)) value)
  changed_stmt e (tree.if_then stmt when a) = tree.if_then stmt (changed_in e stmt when) (changed_stmt e a)
  changed_stmt e (tree.if_else stmt when a b) =
      tree.if_else stmt (changed_in e stmt when) (changed_stmt e a) (changed_stmt e b)
  changed_stmt e (tree.switch stmt t on starts other body) =
      tree.switch stmt t (changed_in e stmt on) starts other (changed_stmts e body)
  changed_stmt e (tree.while_loop stmt when body) =
      tree.while_loop stmt (changed_in e stmt when) (changed_stmt e body)
  changed_stmt e (tree.do_while stmt when body) =
      tree.do_while stmt (changed_in e stmt when) (changed_stmt e body)
  changed_stmt e (tree.for_loop stmt first when step body) = tree.for_loop stmt
      (changed_stmts e first) (changed_in e stmt when) (changed_stmts e step) (changed_stmt e body)
  changed_stmt e tree.break_loop = tree.break_loop
  changed_stmt e tree.continue_loop = tree.continue_loop
  changed_stmt e (tree.return_value stmt value) = tree.return_value stmt (changed_in e stmt value)
  changed_stmt e tree.return_none = tree.return_none
  changed_stmt e (tree.call_stmt stmt call f args) =
      tree.call_stmt stmt call f (changed_arg_list e.change (node_in e stmt) args)
  changed_stmt e (tree.print stmt args) = tree.print stmt (changed_exprs e.change (node_in e stmt) args)
  changed_stmt e (tree.assert stmt when) = tree.assert stmt (changed_in e stmt when)

  pub changed_stmts : Edit → StmtTrees → StmtTrees
  changed_stmts e tree.no_stmts = tree.no_stmts
  changed_stmts e (tree.stmt_then s ss) = tree.stmt_then (changed_stmt e s) (changed_stmts e ss)

-- IN A PROGRAM: in the initialisers of its globals, and in the bodies of its functions
abbrev pub changed_function : Edit → FunctionTree → FunctionTree
changed_function e f = record f { body = map (changed_stmt e) f.body }

abbrev pub changed_program : Edit → ProgramTree → ProgramTree
changed_program e p =
    record p { inits = map (changed_stmt e) p.inits; functions = map (changed_function e) p.functions }
