-- What type checking has made of the text so far, and what a part of the text adds to it.

use Rattle.std.specs.Prelude.{◌≡◌, ℕ, ℤ, ◌+◌, Bool, Option, None, Some, option_map, Result, Ok, Err, List, [], ◌∷◌, ◌++◌, map, length}
use Rattle.std.specs.Global.{Vec}
use Rattle.std.specs.Option.{is_some}
use Rattle.ba_numbers.specs.declared.ids.At.{At}
use Rattle.ba_numbers.specs.declared.ids.StmtId.{StmtId}
use Rattle.ba_numbers.specs.declared.numbers.BinOp.{BinOp}
use Rattle.ba_numbers.specs.declared.numbers.CType.{CType}
use Rattle.ba_numbers.specs.declared.numbers.CType.TheVariants.{I32}
use Rattle.ba_trees.specs.declared.tree.declarations.Enumerator.{Enumerator}
use Rattle.ba_trees.specs.declared.tree.statements.Target.{Target}
use Rattle.ba_tree.specs.declared.tree.Expr.{Expr}
use Rattle.ba_tree.specs.declared.tree.Stmt.{Stmt}
use Rattle.ba_tree.specs.declared.tree.StmtKind.{StmtKind}
use Rattle.ba_tree.specs.declared.tree.Variable.{Variable}
use Rattle.ba_typing.specs.Declarations.{Added, Before, Part, TypedLength, add_enumerator, add_length, enumerator_value, initial_faults, next_name, next_stmt, value_faults, whole_faults, written_value}
use Rattle.ba_typing.specs.Expressions.{Typed, Typing, constant_value, placeholder, tree_as}
use Rattle.ba_numbers.specs.Types.{promoted}
use Rattle.ba_typing.specs.Faults.{fault, limit_faults, statement_limit, variable_limit, element_limit, height_limit}
use Rattle.ba_expressions.specs.Inferring.{Infers, after, nothing_found, with_faults}
use Rattle.ba_typing.specs.Names.{Scope, knowing, name_of}
use Rattle.ba_typing.specs.Statements.{TypedTarget, add_test, assigned_tree, index_faults, index_typing, kind_of_target, typed_target}
use Rattle.ba_tree.specs.Trees.{ExprTree, StmtTree, tree_of_expr, tree_of_stmt}
use Rattle.ba_statements.specs.declared.assignments.InferredTarget.{InferredTarget}
use Rattle.ba_statements.specs.declared.control.Test.{Test}
use Rattle.ba_statements.specs.declared.declarations.Length.{Length}
use Rattle.ba_typing.specs.declared.fault.Cause.TheVariants.{BadLength}
use Rattle.ba_typing.specs.declared.fault.Fault.{Fault}
use Rattle.ba_expressions.specs.declared.inferred.Inferred.{Inferred}
use Rattle.ba_typing.specs.declared.meanings.Signature.{Signature}
use Rattle.ba_expressions.specs.declared.tally.Tally.{Tally}
use Rattle.ba_statements.specs.declared.work.Work.{Work}

-- how many of each were made
abbrev pub before_of : Work → Before
before_of w = record {
  variables = length w.variables;
  constants = w.constants;
  statements = length w.statements;
  calls = w.tally.calls;
  elements = w.elements;
}

-- the work with these parts added
abbrev pub with_added : Work → Added → Work
with_added w a = record {
  variables = w.variables ++ a.variables;
  constants = w.constants + a.constants;
  statements = w.statements ++ a.statements;
  elements = w.elements + a.elements;
  tally = after w.tally a.calls a.faults;
}

-- THE STATE of type checking at a position in the text: what is in scope, what was made, and the earlier
-- statements of the block
pub record State : Type 0 where
  pub scope : Scope
  pub work : Work
  pub stmts : List StmtTree

-- the state with these statements so far
abbrev pub state_with : Scope → Work → List StmtTree → State
state_with scope work stmts = record { scope = scope; work = work; stmts = stmts }

-- the state of the code, with the trees of its statements
abbrev pub state : Scope → Work → Vec Stmt → State
state scope work stmts = state_with scope work (map tree_of_stmt stmts.items)

-- the state after a part that adds this
abbrev pub extended : State → Added → State
extended s a = record {
  scope = knowing a.entries s.scope;
  work = with_added s.work a;
  stmts =
      s.stmts ++ a.stmts;
}

-- the state after a part of the text
unfoldable pub behind_part : Part → State → State
behind_part part s = extended s (part s.scope (before_of s.work))

-- nothing was made yet
abbrev pub no_work : Work
no_work = record { variables = []; constants = 0; statements = []; elements = 0; tally = nothing_found }

-- WHAT ONE CALL ADDS

-- one more numbered statement; past the limit it is a fault
abbrev pub with_number : Work → At → StmtKind → Work
with_number w at k = record w {
  statements = w.statements ++ record { at = at; kind = k } ∷ [];
  tally = with_faults w.tally (limit_faults statement_limit (length w.statements + 1) at);
}

-- the statement gets the next number
abbrev pub Numbers : At → StmtKind → StmtId → Work → Work → Type 0
Numbers at k stmt old new = (stmt ≡ next_stmt (before_of old)) × (new ≡ with_number old at k)

-- one more variable, whose name is at this position
abbrev pub with_variable : Work → At → Variable → Work
with_variable w at v = record w {
  variables = w.variables ++ v ∷ [];
  tally = with_faults w.tally (limit_faults variable_limit (next_name (before_of w)) at);
}

-- one more enumeration constant, whose name is at this position
abbrev pub with_constant : Work → At → Work
with_constant w at = record w {
  constants = w.constants + 1;
  tally = with_faults w.tally (limit_faults variable_limit (next_name (before_of w)) at);
}

-- the answer is the value of a written constant, None if it is at fault
abbrev pub GivesValue : At → Typed → Tally → Tally → Option ℤ → Type 0
GivesValue at e old new z = (z ≡ constant_value I32 e) × (new ≡ after old e.calls (value_faults at e))

-- the same if it may be absent
abbrev pub GivesWritten : At → Option Typed → Tally → Tally → Option ℤ → Type 0
GivesWritten at None old new z = (z ≡ None) × (new ≡ old)
GivesWritten at (Some e) old new z = GivesValue at e old new z

-- what is said of a written value in a scope, after this number of calls
abbrev pub value_at : Enumerator → Scope → ℕ → Option Typed
value_at e scope calls = option_map (λ (typing : Typing). typing scope calls) (written_value e)

-- A constant after one of the value `last`, if there is one, was added. Its own value and the state are
-- given.
abbrev pub AddsEnumerator : List Signature → Option ℤ → Enumerator → Scope → Work → Scope → Work → ℤ → Type 0
AddsEnumerator functions last e scope old k new z =
    let v = value_at e scope old.tally.calls in
    (z ≡ enumerator_value last v)
    × ((stmts : List StmtTree) → state_with k new stmts
    ≡ behind_part (add_enumerator functions last e v) (state_with scope old stmts))

-- count more elements of arrays
abbrev pub with_elements : Work → ℕ → At → Work
with_elements w count at = record w {
  elements = w.elements + count;
  tally = with_faults w.tally (limit_faults element_limit (w.elements + count) at);
}

-- the calls and faults of expressions were added
abbrev pub with_inferred : Work → ℕ → List Fault → Work
with_inferred w calls faults = record w { tally = after w.tally calls faults }

-- the answer is what is inferred of a whole expression whose statement is at this position
abbrev pub GivesWhole : {E : Type 0} → At → Typed → Tally → Tally → Result Inferred E → Type 0
GivesWhole at s old new (Ok j) = Infers j s × (new ≡ after old s.calls (whole_faults at s))
GivesWhole at s old new (Err e) = Unit {0}

-- EXPRESSIONS ONE AFTER THE OTHER, whose trees are kept: the trees, and what was counted
pub record Kept : Type 0 where
  pub trees : List ExprTree
  pub tally : Tally

-- the trees of expressions, and the tally
abbrev pub kept : Tally → Vec Expr → Kept
kept tally exprs = record { trees = map tree_of_expr exprs.items; tally = tally }

-- how an expression is kept: its tree, and the faults
pub record Keeping : Type 0 where
  pub tree : Typed → ExprTree
  pub faults : Typed → List Fault

-- one more expression is typed and kept
abbrev pub keep_one : Keeping → Typed → Kept → Kept
keep_one how e k = record { trees = k.trees ++ how.tree e ∷ []; tally = after k.tally e.calls (how.faults e) }

-- expressions are typed and kept from left to right
abbrev pub keep_each : Keeping → Scope → List Typing → Kept → Kept
keep_each how scope [] k = k
keep_each how scope (typing ∷ typings) k = keep_each how scope typings
    (keep_one how (typing scope k.tally.calls) k)

-- as values of an initialiser
abbrev pub initialising : At → CType → Bool → Keeping
initialising at t is_global = record { tree = tree_as t; faults = initial_faults at is_global }

-- as arguments of a `printf`
abbrev pub printing : At → Keeping
printing at = record { tree = λ e. e.tree; faults = whole_faults at }

-- THE LENGTH OF AN ARRAY, without the calls and the faults in it
abbrev pub plain_length : Option TypedLength → Option Length
plain_length None = None
plain_length (Some l) = Some (record { count = l.count; is_written = l.is_written })

-- the calls in a length, 0 without one
abbrev pub calls_of_length : Option TypedLength → ℕ
calls_of_length None = 0
calls_of_length (Some l) = l.calls

-- the faults of a length, none without one
abbrev pub faults_of_length : Option TypedLength → List Fault
faults_of_length None = []
faults_of_length (Some l) = l.faults

-- the answer is the length, and the calls and faults of its expression were added
abbrev pub IsLength : Option TypedLength → Tally → Tally → Option Length → Type 0
IsLength s old new l = (l ≡ plain_length s) × (new ≡ after old (calls_of_length s) (faults_of_length s))

-- the elements of a length are counted; a bad one adds none
abbrev pub with_count : Work → At → Option ℕ → Work
with_count w at None = record w { tally = with_faults w.tally (fault BadLength at) }
with_count w at (Some count) = with_elements w count at

-- the answer is the length, and what it adds was added
abbrev pub AddsLength : At → Option TypedLength → Scope → Work → Work → Option Length → Type 0
AddsLength at s scope old new l =
    (l ≡ plain_length s) × (new ≡ with_added old (add_length at s scope (before_of old)))

-- the first of these trees
abbrev pub first_of : List ExprTree → ExprTree
first_of [] = placeholder
first_of (e ∷ es) = e

-- A CONDITION as a statement: its number, its tree, and what it adds

-- a condition was numbered and typed
abbrev pub GivesTest : Typed → Scope → Work → Work → Test → Type 0
GivesTest s scope old new t = (t.stmt ≡ next_stmt (before_of old)) × (tree_of_expr t.when ≡ s.tree)
    × (new ≡ with_added old (add_test s.first s scope (before_of old)))

-- WHAT IS ASSIGNED TO

-- what is said of the target in a scope, after this number of calls
abbrev pub typed_target_of : Target → Scope → ℕ → TypedTarget
typed_target_of target = typed_target target.name.at (name_of target.name) (index_typing target.index)

-- the tree of an index, which is promoted
abbrev pub index_tree : Typed → ExprTree
index_tree index = tree_as (promoted index.t) index

-- what the code infers is what is said of the target
pub record InfersTarget (j : InferredTarget) (s : TypedTarget) : Type 0 where
  pub var : j.var ≡ s.var
  pub t : j.t ≡ s.expression.t
  pub index : option_map tree_of_expr j.index ≡ option_map index_tree s.index

-- the same, and the tally has risen by the calls and the faults
abbrev pub GivesTarget : At → At → Option BinOp → TypedTarget → Tally → Tally → InferredTarget → Type 0
GivesTarget at name_at op s old new j = InfersTarget j s
    × (new ≡ after old s.expression.calls (s.expression.faults
    ++ index_faults at name_at (is_some op) s.index))

-- the statement that assigns an expression was numbered and appended, and the expression's height was tested
abbrev pub Assigns : At → TypedTarget → Typed → Work → Work → List StmtTree → List StmtTree → Type 0
Assigns at s e old new olds news =
    (new ≡ with_number (record old { tally = with_faults old.tally (limit_faults height_limit e.height at) })
    at (kind_of_target s.index))
    × (news ≡ olds ++ assigned_tree (next_stmt (before_of old)) s e ∷ [])
