use Rattle.std.proofs.Common.{arith}
use Rattle.ba_rules.proofs.Powers.{again_term, doubled, last_term}
use Rattle.ba_rules.proofs.rules.+luby_term.Goals as goal

pub loop-half-preserved : goal.loop-half-preserved
loop-half-preserved t c = record {
  power = doubled c.loop-half.half c.loop-half.invariant.power;
  positive = omega arith;
  within = omega arith;
}

pub returns-then-number-half-clause-term : goal.returns-then-number-half-clause-term
returns-then-number-half-clause-term t c = last_term c.args.number c.loop-half.half
    c.loop-half.invariant.power c.if-number-half.true

pub returns-else-number-half-clause-term : goal.returns-else-number-half-clause-term
returns-else-number-half-clause-term t c =
    again_term c.args.number c.loop-half.half c.luby_term.result c.loop-half.invariant.power
    c.loop-half.invariant.within c.loop-half-test.false c.if-number-half.false
    c.luby_term.ensures.term
