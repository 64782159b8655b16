-- The labels of a `switch`: how what the code makes of them relates to the definitions.

use Rattle.std.specs.Prelude.{◌≡◌, List, length}
use Rattle.std.specs.Global.{Vec}
use Rattle.ba_numbers.specs.Types.{promoted}
use Rattle.ba_numbers.specs.declared.ids.At.{At}
use Rattle.ba_numbers.specs.declared.numbers.CType.{CType}
use Rattle.ba_tree.specs.Trees.{tree_of_expr}
use Rattle.ba_tree.specs.declared.tree.Stmt.{Stmt}
use Rattle.ba_statements.specs.Adding.{State, before_of, extended, state, with_added}
use Rattle.ba_typing.specs.Declarations.{next_stmt}
use Rattle.ba_typing.specs.Expressions.{Typed, tree_as}
use Rattle.ba_typing.specs.Names.{Scope}
use Rattle.ba_typing.specs.Statements.{GroupParts, Labelled, add_controlling, add_group, add_groups}
use Rattle.ba_typing.specs.declared.meanings.Labels.{Labels}
use Rattle.ba_expressions.specs.Inferring.{after}
use Rattle.ba_expressions.specs.declared.tally.Tally.{Tally}
use Rattle.ba_statements.specs.declared.labels.Controlling.{Controlling}
use Rattle.ba_statements.specs.declared.work.Work.{Work}

-- THE CONTROLLING EXPRESSION as a statement: its number, its position, its type, its tree, and what it adds
abbrev pub GivesControlling : Typed → Scope → Work → Work → Controlling → Type 0
GivesControlling s scope old new c =
    (c.stmt ≡ next_stmt (before_of old)) × (c.at ≡ s.first) × (c.t ≡ promoted s.t)
    × (tree_of_expr c.on ≡ tree_as (promoted s.t) s)
    × (new ≡ with_added old (add_controlling s.first s scope (before_of old)))

-- a label was added: the labels, and what was counted
abbrev pub AddsLabel : Labelled → Tally → Tally → Labels → Type 0
AddsLabel l old new labels = (labels ≡ l.labels) × (new ≡ after old l.added.calls l.added.faults)

-- THE STATE in the braces of a `switch`: the labels so far, and the state of its body
pub record SwitchState : Type 0 where
  pub labels : Labels
  pub body : State

-- the state in the body of a `switch`
abbrev pub switch_state : Labels → Scope → Work → Vec Stmt → SwitchState
switch_state labels scope work body = record { labels = labels; body = state scope work body }

-- the state after a label or group that adds this
abbrev pub behind_labelled : Labelled → SwitchState → SwitchState
behind_labelled l s = record { labels = l.labels; body = extended s.body l.added }

-- the state after a label with its statements
unfoldable pub behind_group : CType → At → GroupParts → SwitchState → SwitchState
behind_group t at g s = behind_labelled
    (add_group t at g s.labels (length s.body.stmts) s.body.scope (before_of s.body.work)) s

-- the state after the groups of a `switch`
unfoldable pub behind_groups : CType → At → List GroupParts → SwitchState → SwitchState
behind_groups t at gs s = behind_labelled
    (add_groups t at gs s.labels (length s.body.stmts) s.body.scope (before_of s.body.work)) s
