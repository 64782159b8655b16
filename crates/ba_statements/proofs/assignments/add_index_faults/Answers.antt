use Rattle.ba_typing.specs.Faults.{fault_if, height_limit, limit_faults}
use Rattle.ba_typing.specs.declared.fault.Cause.TheVariants.{CallInIndex}
use Rattle.ba_expressions.proofs.Tallies.{faults-twice}
use Rattle.ba_statements.proofs.assignments.add_index_faults.Goals as goal

pub returns : goal.returns
returns c = faults-twice c.args.tally.now c.add_limit.new.self c.add_if.new.self
    (limit_faults height_limit c.args.height c.args.at) (fault_if c.args.has_call CallInIndex c.args.name_at)
    c.add_limit.ensures c.add_if.ensures
