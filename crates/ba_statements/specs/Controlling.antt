-- Statements that hold others: how what the code makes of their parts relates to the definitions.

use Rattle.std.specs.Prelude.{◌≡◌, map}
use Rattle.ba_trees.specs.declared.tree.statements.ForHead.{ForHead}
use Rattle.ba_tree.specs.declared.tree.Stmt.{Stmt}
use Rattle.ba_statements.specs.Adding.{before_of, with_added}
use Rattle.ba_typing.specs.Declarations.{Added, ◌and◌, Part, behind, next_stmt}
use Rattle.ba_typing.specs.Expressions.{Typing}
use Rattle.ba_typing.specs.Names.{Scope, knowing}
use Rattle.ba_typing.specs.Statements.{add_first, add_step, add_test, for_scope, for_test, one_of}
use Rattle.ba_tree.specs.Trees.{tree_of_expr, tree_of_stmt}
use Rattle.ba_statements.specs.declared.control.Guarded.{Guarded}
use Rattle.ba_statements.specs.declared.control.Head.{Head}
use Rattle.ba_statements.specs.declared.work.Work.{Work}

-- A CONTROLLED STATEMENT: its tree, and what it adds
abbrev pub GivesBody : Added → Work → Work → Stmt → Type 0
GivesBody a old new s = (tree_of_stmt s ≡ one_of a.stmts) × (new ≡ with_added old a)

-- a condition and the statement that it controls
abbrev pub GivesGuarded : Typing → Part → Scope → Work → Work → Guarded → Type 0
GivesGuarded test holds scope old new g =
    let n = before_of old in
    let w = test scope n.calls in
    let c = add_test w.first w scope n in
    let a = holds scope (behind n c) in
    (g.test.stmt ≡ next_stmt n) × (tree_of_expr g.test.when ≡ w.tree) × (tree_of_stmt g.body ≡ one_of a.stmts)
    × (new ≡ with_added old (c and a))

-- THE HEAD OF A `for`: the scope after it, its statements, its condition and its steps, and what they add
abbrev pub GivesHead : ForHead → Scope → Scope → Work → Work → Head → Type 0
GivesHead head outside inside old new h =
    let scope = for_scope head.first outside in
    let n = before_of old in
    let f = add_first head.first scope n in
    let k = knowing f.entries scope in
    let w = for_test head k (behind n f).calls in
    let c = add_test w.first w k (behind n f) in
    let s = add_step head.step k (behind n (f and c)) in
    (inside ≡ k) × (map tree_of_stmt h.first.items ≡ f.stmts) × (h.test.stmt ≡ next_stmt (behind n f))
    × (tree_of_expr h.test.when ≡ w.tree) × (map tree_of_stmt h.step.items ≡ s.stmts)
    × (new ≡ with_added old (f and c and s))
