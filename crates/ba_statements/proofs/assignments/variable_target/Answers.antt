use Rattle.std.proofs.Common.{◌∙◌, ap}
use Rattle.ba_typing.specs.Names.{meaning_of, name_of}
use Rattle.ba_statements.proofs.AssignmentSteps.{variable-target-is}
use Rattle.ba_statements.proofs.assignments.variable_target.Goals as goal

pub returns : goal.returns
returns c = let scope = c.args.scope.now in let name = c.args.name.now in
    variable-target-is name.at (name_of name) scope c.args.tally.now c.add_target_name_faults.new.tally
    c.add_value_name_faults.new.tally
    c.var_of.result c.variable_type.result c.meaning_of-meaning.result
    (c.meaning_of-meaning.ensures ∙ ap (meaning_of scope) c.name_of.ensures) c.var_of.ensures
    c.variable_type.ensures c.add_target_name_faults.ensures c.add_value_name_faults.ensures
