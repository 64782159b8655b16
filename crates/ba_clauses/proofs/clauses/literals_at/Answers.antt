use Rattle.ba_lits.specs.Literals.{literal_at}
use Rattle.ba_clauses.proofs.Mapped.{mapped_more, mapped_all}
use Rattle.ba_clauses.proofs.clauses.literals_at.Goals as goal

pub loop-code-preserved : goal.loop-code-preserved
loop-code-preserved c =
    mapped_more literal_at c.loop-code.lits.items c.push.new.self.items c.args.codes.now
    c.loop-code.code-index 0
    c.from_index.result c.loop-code.invariant c.loop-code-test.true c.from_index.ensures
    c.in_ok-push.ensures.items

pub returns : goal.returns
returns c =
    mapped_all literal_at c.loop-code.lits.items c.args.codes.now c.loop-code.code-index c.loop-code.invariant
    c.loop-code-test.false
