use Rattle.ba_lits.specs.Members.{has_index}
use Rattle.ba_checker.proofs.ListedLaws.{has_index-is}
use Rattle.ba_checker.proofs.clauses.rarest.Goals as goal

pub loop-lit-preserved : goal.loop-lit-preserved
loop-lit-preserved c =
    c.rarer-best.ensures (λ k. has_index k c.args.lits.now) c.loop-lit.invariant
    (has_index-is c.args.lits.now c.loop-lit.lit-index c.lit-item.result c.index.result c.loop-lit-test.true
    c.lit-item.is c.index.ensures.index)
