-- What the typed tree in the standard's terms costs, by the same steps as the tree of the Rust types.
use Rattle.std.proofs.Common.{◌≡◌, ℕ, ◌+◌, List, [], ◌∷◌, map, length, refl, ap}
use Rattle.std.specs.List.{sum}
use Rattle.ba_tree.specs.Units.{Lengths, Bodies, ArgUnits, length_at, element_units, operator_units, call_units, declaration_units, all_units, loop_units}
use Rattle.ba_tree.specs.declared.tree.Variable.{Variable}
use Rattle.ba_tree.specs.Trees.{ExprTree, ArgTrees, ArgTree, StmtTree, StmtTrees, args_of}
use Rattle.ba_tree.specs.Trees as tree
use Rattle.ba_tree_laws.proofs.TreeRuns.{variable_in}

-- EXPRESSIONS

module _ (bodies : Bodies) where
  abbrev mutual
    pub expr_units : ExprTree → Lengths → ℕ
    expr_units (tree.const t z) lengths = 0
    expr_units (tree.var v) lengths = 0
    expr_units (tree.element v index) lengths =
        element_units (length_at lengths v) + expr_units index lengths
    expr_units (tree.unary op t a) lengths = 1 + expr_units a lengths
    expr_units (tree.binary op t a b) lengths =
        operator_units op + expr_units a lengths + expr_units b lengths
    expr_units (tree.and_also a b) lengths = 1 + expr_units a lengths + expr_units b lengths
    expr_units (tree.or_else a b) lengths = 1 + expr_units a lengths + expr_units b lengths
    expr_units (tree.select t when a b) lengths =
        1 + expr_units when lengths + expr_units a lengths + expr_units b lengths
    expr_units (tree.convert t a) lengths = expr_units a lengths
    expr_units (tree.call call f args) lengths = call_units bodies f (args_units args lengths)

    pub args_units : ArgTrees → Lengths → List ArgUnits
    args_units tree.no_more lengths = []
    args_units (tree.value_then e args) lengths =
        record { units = 1 + expr_units e lengths; elements = 0 } ∷ args_units args lengths
    args_units (tree.array_then v args) lengths =
        record { units = 0; elements = length_at lengths v } ∷ args_units args lengths

  abbrev pub arg_units : ArgTree → Lengths → ArgUnits
  arg_units (tree.value e) lengths = record { units = 1 + expr_units e lengths; elements = 0 }
  arg_units (tree.array v) lengths = record { units = 0; elements = length_at lengths v }

  pub args_units-map : (args : List ArgTree) (lengths : Lengths)
      → args_units (args_of args) lengths ≡ map (λ a. arg_units a lengths) args
  args_units-map [] lengths = refl
  args_units-map (tree.value e ∷ args) lengths =
      ap (λ units. arg_units (tree.value e) lengths ∷ units) (args_units-map args lengths)
  args_units-map (tree.array v ∷ args) lengths =
      ap (λ units. arg_units (tree.array v) lengths ∷ units) (args_units-map args lengths)

-- STATEMENTS

module _ (variables : List Variable) (turns : ℕ) (bodies : Bodies) where
  abbrev pub each_units : List ExprTree → Lengths → List ℕ
  each_units es lengths = map (λ e. expr_units bodies e lengths) es

  abbrev mutual
    pub stmt_units : StmtTree → Lengths → ℕ
    stmt_units (tree.block body) lengths = all_units (stmts_units body) lengths
    stmt_units (tree.declare v) lengths = declaration_units (variable_in variables v).shape
    stmt_units (tree.init stmt v e) lengths = expr_units bodies e lengths
    stmt_units (tree.init_array stmt v es) lengths = sum (each_units es lengths)
    stmt_units (tree.assign stmt v e) lengths = 1 + expr_units bodies e lengths
    stmt_units (tree.store stmt v index e) lengths = 1 + element_units (length_at lengths v)
        + expr_units bodies index lengths + expr_units bodies e lengths
    stmt_units (tree.if_then stmt when a) lengths =
        1 + expr_units bodies when lengths + stmt_units a lengths + 0
    stmt_units (tree.if_else stmt when a b) lengths =
        1 + expr_units bodies when lengths + stmt_units a lengths + stmt_units b lengths
    stmt_units (tree.switch stmt t on starts other body) lengths =
        1 + expr_units bodies on lengths + length starts + all_units (stmts_units body) lengths
    stmt_units (tree.while_loop stmt when body) lengths =
        loop_units turns (1 + expr_units bodies when lengths) (stmt_units body lengths) 0
    stmt_units (tree.do_while stmt when body) lengths =
        loop_units turns (1 + expr_units bodies when lengths) (stmt_units body lengths) 0
    stmt_units (tree.for_loop stmt first when step body) lengths =
        all_units (stmts_units first) lengths
        + loop_units turns (1 + expr_units bodies when lengths) (stmt_units body lengths)
        (all_units (stmts_units step) lengths)
    stmt_units tree.break_loop lengths = 1
    stmt_units tree.continue_loop lengths = 1
    stmt_units (tree.return_value stmt e) lengths = 1 + expr_units bodies e lengths
    stmt_units tree.return_none lengths = 1
    stmt_units (tree.call_stmt stmt call f args) lengths =
        1 + call_units bodies f (map (λ a. arg_units bodies a lengths) args)
    stmt_units (tree.print stmt es) lengths = 1 + sum (each_units es lengths)
    stmt_units (tree.assert stmt when) lengths = 1 + expr_units bodies when lengths

    pub stmts_units : StmtTrees → List (Lengths → ℕ)
    stmts_units tree.no_stmts = []
    stmts_units (tree.stmt_then a others) = stmt_units a ∷ stmts_units others
