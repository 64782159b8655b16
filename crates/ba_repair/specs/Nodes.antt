-- THE EDITABLE NODES of a program: the constants and the operators of its expressions that an edit may
-- change. A node is before its parts, and parts are from the left to the right.

use Rattle.std.specs.Prelude.{Option, None, Some, List, [], ◌∷◌, ◌++◌, map, flat_map, filter, ℕ, ◌==◌}
use Rattle.ba_numbers.specs.declared.ids.StmtId.{StmtId}
use Rattle.ba_numbers.specs.declared.numbers.BinOp.{BinOp}
use Rattle.ba_numbers.specs.declared.numbers.BinOp.TheVariants.{Lt, Le, Gt, Ge, Eq, Ne, Add, Sub}
use Rattle.ba_tree.specs.Trees.{ArgTree, ArgTrees, ExprTree, FunctionTree, ProgramTree, StmtTree, StmtTrees}
use Rattle.ba_tree.specs.Trees as tree
use Rattle.ba_repair.specs.declared.nodes.EditableNode.{EditableNode}
use Rattle.ba_repair.specs.declared.nodes.EditableNode.TheVariants as node
use Rattle.ba_repair.specs.declared.nodes.StmtNode.{StmtNode}

-- OPERATORS change to each other in pairs: the partner of one, if it has one. `&&` and `||` are forms of
-- their own
abbrev pub partner_of : BinOp → Option BinOp
partner_of Lt = Some Le
partner_of Le = Some Lt
partner_of Gt = Some Ge
partner_of Ge = Some Gt
partner_of Eq = Some Ne
partner_of Ne = Some Eq
partner_of Add = Some Sub
partner_of Sub = Some Add
partner_of _ = None

-- the node of an operator with this partner, if it has one
abbrev pub operator_node_if : BinOp → Option BinOp → List EditableNode
operator_node_if op None = []
operator_node_if op (Some partner) = node.Operator op partner ∷ []

-- an operator is a node exactly if it has a partner
abbrev pub operator_nodes : BinOp → List EditableNode
operator_nodes op = operator_node_if op (partner_of op)

-- OF AN EXPRESSION. Names, elements, unary operators, conversions and calls are no nodes, and an array
-- argument has none
abbrev mutual
  pub expr_nodes : ExprTree → List EditableNode
  expr_nodes (tree.const t z) = node.Constant t z ∷ []
  expr_nodes (tree.var v) = []
  expr_nodes (tree.element v index) = expr_nodes index
  expr_nodes (tree.unary op t a) = expr_nodes a
  expr_nodes (tree.binary op t a b) = operator_nodes op ++ expr_nodes a ++ expr_nodes b
  expr_nodes (tree.and_also a b) = node.And ∷ (expr_nodes a ++ expr_nodes b)
  expr_nodes (tree.or_else a b) = node.Or ∷ (expr_nodes a ++ expr_nodes b)
  expr_nodes (tree.select t when a b) = expr_nodes when ++ expr_nodes a ++ expr_nodes b
  expr_nodes (tree.convert t a) = expr_nodes a
  expr_nodes (tree.call call f args) = args_nodes args

  pub args_nodes : ArgTrees → List EditableNode
  args_nodes tree.no_more = []
  args_nodes (tree.value_then e args) = expr_nodes e ++ args_nodes args
  args_nodes (tree.array_then v args) = args_nodes args

abbrev pub arg_nodes : ArgTree → List EditableNode
arg_nodes (tree.value e) = expr_nodes e
arg_nodes (tree.array v) = []

-- OF A STATEMENT, those of its own expressions in their order: of a store its index, then its value
abbrev pub own_nodes : StmtId → List EditableNode → List StmtNode
own_nodes stmt = map (λ n. record { stmt = stmt; node = n })

-- ALL NODES within a statement, each with its own statement, which may be an inner one
abbrev mutual
  pub stmt_nodes : StmtTree → List StmtNode
  stmt_nodes (tree.block body) = stmts_nodes body
  stmt_nodes (tree.declare v) = []
  stmt_nodes (tree.init stmt v e) = own_nodes stmt (expr_nodes e)
  stmt_nodes (tree.init_array stmt v es) = own_nodes stmt (flat_map expr_nodes es)
  stmt_nodes (tree.assign stmt v e) = own_nodes stmt (expr_nodes e)
  stmt_nodes (tree.store stmt v index e) = own_nodes stmt (expr_nodes index ++ expr_nodes e)
  stmt_nodes (tree.if_then stmt when a) = own_nodes stmt (expr_nodes when) ++ stmt_nodes a
  stmt_nodes (tree.if_else stmt when a b) = own_nodes stmt (expr_nodes when) ++ stmt_nodes a ++ stmt_nodes b
  stmt_nodes (tree.switch stmt t on starts other body) = own_nodes stmt (expr_nodes on) ++ stmts_nodes body
  stmt_nodes (tree.while_loop stmt when body) = own_nodes stmt (expr_nodes when) ++ stmt_nodes body
  stmt_nodes (tree.do_while stmt when body) = own_nodes stmt (expr_nodes when) ++ stmt_nodes body
  stmt_nodes (tree.for_loop stmt first when step body) =
      own_nodes stmt (expr_nodes when) ++ stmts_nodes first ++ stmts_nodes step ++ stmt_nodes body
  stmt_nodes tree.break_loop = []
  stmt_nodes tree.continue_loop = []
  stmt_nodes (tree.return_value stmt e) = own_nodes stmt (expr_nodes e)
  stmt_nodes tree.return_none = []
  stmt_nodes (tree.call_stmt stmt call f args) = own_nodes stmt (flat_map arg_nodes args)
  stmt_nodes (tree.print stmt es) = own_nodes stmt (flat_map expr_nodes es)
  stmt_nodes (tree.assert stmt when) = own_nodes stmt (expr_nodes when)

  pub stmts_nodes : StmtTrees → List StmtNode
  stmts_nodes tree.no_stmts = []
  stmts_nodes (tree.stmt_then s ss) = stmt_nodes s ++ stmts_nodes ss

-- OF A PROGRAM: the initialisers of its globals, and its functions
abbrev pub body_nodes : List StmtTree → List StmtNode
body_nodes = flat_map stmt_nodes

abbrev pub program_nodes : ProgramTree → List StmtNode
program_nodes p = body_nodes p.inits ++ flat_map (λ (f : FunctionTree). body_nodes f.body) p.functions

-- THE NODES OF THE STATEMENT of a number, in their order. One statement of a program has the number
abbrev pub nodes_of : ℕ → List StmtNode → List EditableNode
nodes_of n nodes =
    map (λ (found : StmtNode). found.node) (filter (λ (found : StmtNode). found.stmt.0 == n) nodes)

abbrev pub nodes_at : ProgramTree → ℕ → List EditableNode
nodes_at p n = nodes_of n (program_nodes p)
