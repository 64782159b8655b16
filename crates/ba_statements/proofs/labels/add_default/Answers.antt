use Rattle.std.proofs.Common.{refl}
use Rattle.ba_statements.proofs.LabelSteps.{default-is}
use Rattle.ba_statements.proofs.labels.add_default.Goals as goal

pub returns : goal.returns
returns c = default-is c.args.at c.args.count c.args.labels.now _ c.args.tally.now c.add_if.new.self
    c.is_some.result c.is_some.ensures refl c.add_if.ensures
