use Rattle.std.proofs.Common.{◌∙◌, ap}
use Rattle.ba_typing.specs.Expressions.{typed_conditional}
use Rattle.ba_typing.specs.Names.{meaning_of, name_of}
use Rattle.ba_statements.proofs.AssignmentSteps.{element-target-is}
use Rattle.ba_statements.proofs.assignments.element_target.Goals as goal

pub returns : goal.returns
returns c = let scope = c.args.scope.now in let name = c.args.name.now in
    element-target-is c.args.at name.at (name_of name) c.args.op (typed_conditional c.args.index.now) scope
    c.args.tally.now c.add_array_name_faults.new.tally c.conditional.new.tally c.add_index_faults.new.tally
    c.array_of.result c.element_type.result c.promoted-t.result c.meaning_of-meaning.result c.in_ok-j.j
    c.in_ok-index.index c.is_changed_by_call-has_call.result
    (c.meaning_of-meaning.ensures ∙ ap (meaning_of scope) c.name_of.ensures) c.array_of.ensures
    c.element_type.ensures c.add_array_name_faults.ensures c.in_ok-j.ensures
    c.is_changed_by_call-has_call.ensures c.add_index_faults.ensures c.promoted-t.ensures
    c.in_ok-index.ensures
