use Rattle.std.proofs.Common.{◌≡◌, None, Some, List, map, drop}
use Rattle.ba_trees.specs.declared.tree.declarations.NextEnumerator.{NextEnumerator}
use Rattle.ba_statements.specs.Adding.{state_with, behind_part}
use Rattle.ba_typing.specs.Declarations.{add_enumerator_list, enumerators_in}
use Rattle.ba_tree.specs.Trees.{StmtTree}
use Rattle.ba_statements.proofs.declarations.add_enumerators.Given as goal

abbrev pub invariant-loop-next : goal.invariant-loop-next
invariant-loop-next l = (stmts : List StmtTree)
    → behind_part (add_enumerator_list l.functions (Some l.last)
    (map (λ (n : NextEnumerator). n.enumerator) (drop l.next-index l.next-items)))
    (state_with l.scope l.work stmts)
    ≡ behind_part (add_enumerator_list l.functions None (enumerators_in l.list))
    (state_with l.fn.scope l.fn.work stmts)
