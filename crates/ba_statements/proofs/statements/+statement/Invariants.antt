-- What was walked over so far, with what is left, is the whole.
use Rattle.std.proofs.Common.{◌≡◌, map, drop}
use Rattle.ba_statements.specs.Adding.{behind_part, state}
use Rattle.ba_statements.specs.Labelling.{behind_groups, switch_state}
use Rattle.ba_typing.specs.Declarations.{in_order}
use Rattle.ba_typing.specs.Statements.{add_item, add_statement, parts_of_block, parts_of_group}
use Rattle.ba_statements.proofs.statements.+statement.Given as goal

abbrev pub invariant-add_items-loop-item : goal.invariant-add_items-loop-item
invariant-add_items-loop-item l =
    behind_part (in_order (map add_item (drop l.item-index l.item-items))) (state l.scope l.work l.stmts)
    ≡ behind_part (in_order (parts_of_block l.block)) (state l.fn.scope l.fn.work l.fn.stmts)

abbrev pub invariant-add_groups-loop-group : goal.invariant-add_groups-loop-group
invariant-add_groups-loop-group l =
    (behind_groups l.switch.t l.switch.at (map parts_of_group (drop l.group-index l.groups))
    (switch_state l.labels l.scope l.work l.body)
    ≡ behind_groups l.switch.t l.switch.at (map parts_of_group l.groups)
    (switch_state l.fn.labels l.fn.scope l.fn.work l.fn.body))
    × (l.scope ≡ l.fn.scope)

abbrev pub invariant-add_group-loop-statement : goal.invariant-add_group-loop-statement
invariant-add_group-loop-statement l =
    (behind_part (in_order (map add_statement (drop l.statement-index l.statement-items)))
    (state l.scope l.work l.body)
    ≡ behind_part (in_order (map add_statement l.statement-items))
    (state l.initial.scope l.initial.work l.initial.body))
    × (l.scope ≡ l.fn.scope)
