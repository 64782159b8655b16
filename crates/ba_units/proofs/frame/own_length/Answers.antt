use Rattle.std.proofs.Common.{◌∙◌, ap}
use Rattle.ba_tree.specs.Units.{declared_length}
use Rattle.ba_units.proofs.ArrayLengths.{own-length}
use Rattle.ba_units.proofs.frame.own_length.Goals as goal

pub returns : goal.returns
returns c = c.declared_length.ensures ∙ ap (λ v. declared_length v.shape) c.variable_of.ensures
    ∙ own-length c.args.program.now c.args.var
