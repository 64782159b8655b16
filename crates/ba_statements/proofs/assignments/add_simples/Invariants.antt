use Rattle.std.proofs.Common.{◌≡◌, map, drop}
use Rattle.ba_trees.specs.declared.tree.statements.ListedSimple.{ListedSimple}
use Rattle.ba_statements.specs.Adding.{behind_part, state}
use Rattle.ba_typing.specs.Declarations.{in_order}
use Rattle.ba_typing.specs.Statements.{add_simple, add_simples}
use Rattle.ba_statements.proofs.assignments.add_simples.Given as goal

abbrev pub invariant-loop-listed : goal.invariant-loop-listed
invariant-loop-listed l =
    behind_part (in_order (map (λ (x : ListedSimple). add_simple x.simple) (drop l.listed-index
    l.listed-items)))
    (state l.scope l.work l.stmts)
    ≡ behind_part (add_simples l.simples) (state l.scope l.fn.work l.fn.stmts)
