-- The program of a sample with this many additions, as its typed tree, and the sets that could repair it.

use Rattle.std.specs.Prelude.{ℕ, ◌+◌, pos, Some, List, [], ◌∷◌, ◌++◌, map}
use Rattle.std.specs.List.{range_with_len}
use Rattle.ba_numbers.specs.declared.ids.VarId.{VarId}
use Rattle.ba_numbers.specs.declared.numbers.BinOp.TheVariants.{Add, Eq}
use Rattle.ba_numbers.specs.declared.numbers.CType.TheVariants.{I32}
use Rattle.ba_tree.specs.Least.{stmt_of}
use Rattle.ba_tree.specs.Trees.{ExprTree, StmtTree, FunctionTree, ProgramTree}
use Rattle.ba_tree.specs.Trees as tree
use Rattle.ba_tree.specs.declared.tree.Shape.TheVariants.{Value}
use Rattle.ba_tree.specs.declared.tree.StmtInfo.{StmtInfo}
use Rattle.ba_tree.specs.declared.tree.StmtKind.{StmtKind}
use Rattle.ba_tree.specs.declared.tree.StmtKind.TheVariants.{Initialiser, Assignment, Return, Assert}
use Rattle.ba_tree.specs.declared.tree.Variable.{Variable}

-- the limit on additions of a program within 4,000 statements
abbrev pub most_additions : ℕ
most_additions = 3997

-- its one variable, an `int`
abbrev pub counter : VarId
counter = record { 0 = 0 }

-- a variable of type `int`
abbrev pub int_variable : Variable
int_variable = record { t = I32; shape = Value }

-- a constant of type `int`
abbrev pub constant : ℕ → ExprTree
constant n = tree.const I32 (pos n)

-- the statement of this number adds 1 to the variable
abbrev pub addition : ℕ → StmtTree
addition stmt = tree.assign (stmt_of stmt) counter (tree.binary Add I32 (tree.var counter) (constant 1))

-- the statement of this number asserts that the variable has this value
abbrev pub assertion : ℕ → ℕ → StmtTree
assertion stmt n = tree.assert (stmt_of stmt) (tree.binary Eq I32 (tree.var counter) (constant n))

-- what follows the additions
abbrev pub sample_end : ℕ → List StmtTree
sample_end n = assertion (n + 2) (n + 1) ∷ tree.return_value (stmt_of (n + 3)) (constant 0) ∷ []

-- the body of `main` of a sample with n additions
abbrev pub sample_body : ℕ → List StmtTree
sample_body n = tree.declare counter ∷ tree.init (stmt_of 1) counter (constant 0)
    ∷ (map addition (range_with_len 2 n) ++ sample_end n)

-- each statement has its own line, from line 2 on
abbrev pub info : ℕ → ℕ → StmtKind → StmtInfo
info line column kind = record { at = record { line = line; column = column }; kind = kind }

-- what a program says of an addition in this line
abbrev pub addition_info : ℕ → StmtInfo
addition_info line = info line 5 Assignment

-- what a program says of the statements of a sample
abbrev pub sample_statements : ℕ → List StmtInfo
sample_statements n = info 2 9 Initialiser
    ∷ (map addition_info (range_with_len 3 n) ++ info (n + 3) 5 Assert ∷ info (n + 4) 5 Return ∷ [])

-- the function `main` of a sample
abbrev pub sample_main : ℕ → FunctionTree
sample_main n = record {
  result = Some I32;
  params = [];
  locals = counter ∷ [];
  body = sample_body n;
}

-- the typed tree of a sample with n additions
abbrev pub sample_tree : ℕ → ProgramTree
sample_tree n = record {
  variables = int_variable ∷ [];
  globals = [];
  inits = [];
  functions = sample_main n ∷ [];
  main = record { 0 = 0 };
  statements = sample_statements n;
}

-- the sets of one statement: the initialiser, and each addition
abbrev pub sample_sets : ℕ → List (List ℕ)
sample_sets n = map (λ stmt. stmt ∷ []) (range_with_len 1 (n + 1))
