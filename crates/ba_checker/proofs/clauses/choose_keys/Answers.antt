use Rattle.ba_checker.proofs.ListedLaws.{has_index-is, key_of}
use Rattle.ba_checker.proofs.clauses.choose_keys.Goals as goal

pub loop-lit-preserved : goal.loop-lit-preserved
loop-lit-preserved c =
    c.with_further-all.ensures c.args.lits.now c.loop-lit.invariant
    (key_of c.index.result c.args.lits.now (has_index-is c.args.lits.now c.loop-lit.lit-index
    c.lit-item.result c.index.result c.loop-lit-test.true c.lit-item.is c.index.ensures.index))
