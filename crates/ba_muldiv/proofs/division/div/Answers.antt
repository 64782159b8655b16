use Rattle.std.proofs.Common.{rules}
use Rattle.ba_numbers.specs.declared.numbers.BinOp.TheVariants.{Div}
use Rattle.ba_muldiv.specs.Division.{quotient_of}
use Rattle.ba_muldiv.proofs.Defined.{where_defined}
use Rattle.ba_muldiv.proofs.Values.{div_value}
use Rattle.ba_muldiv.proofs.division.div.Goals as goal

pub returns-in-Some-clause-makes : goal.returns-in-Some-clause-makes
returns-in-Some-clause-makes c = search rules

pub returns-in-Some-clause-value : goal.returns-in-Some-clause-value
returns-in-Some-clause-value c =
    where_defined Div (quotient_of c.args.signed) c.args.signed c.args.nodes.now
    c.quotient_by_power.new.nodes c.args.a.now c.args.b.now
    c.quotient_by_power.result (div_value c.args.signed) c.told-a c.told-b (returns-in-Some-clause-makes c)

pub returns-in-None-clause-value : goal.returns-in-None-clause-value
returns-in-None-clause-value c =
    where_defined Div (quotient_of c.args.signed) c.args.signed c.args.nodes.now
    c.quotient_by_magnitudes.new.nodes c.args.a.now c.args.b.now
    c.quotient_by_magnitudes.result (div_value c.args.signed) c.told-a c.told-b
    c.quotient_by_magnitudes.ensures
