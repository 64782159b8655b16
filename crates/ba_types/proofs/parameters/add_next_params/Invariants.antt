use Rattle.std.proofs.Common.{◌≡◌, List, drop}
use Rattle.ba_statements.specs.Adding.{state_with, behind_part}
use Rattle.ba_typing.specs.Files.{add_params}
use Rattle.ba_types.specs.Filing.{next_params}
use Rattle.ba_tree.specs.Trees.{StmtTree}
use Rattle.ba_types.proofs.parameters.add_next_params.Given as goal

abbrev pub invariant-loop-next : goal.invariant-loop-next
invariant-loop-next l = (stmts : List StmtTree)
    → behind_part (add_params l.owner.is_main l.owner.is_defined l.owner.at l.number
    (next_params (drop l.next-index l.rest))) (state_with l.scope l.work stmts)
    ≡ behind_part (add_params l.owner.is_main l.owner.is_defined l.owner.at 2 (next_params l.rest))
    (state_with l.fn.scope l.fn.work stmts)
