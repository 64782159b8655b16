use Rattle.std.proofs.Common.{ℕ, ◌-◌, get_or}
use Rattle.ba_clauses.specs.Encodings.{reading_by}
use Rattle.ba_clauses.proofs.Mapped.{mapped_more, mapped_all}
use Rattle.ba_clauses.proofs.encoding.readings_of.Goals as goal

pub loop-bit-preserved : goal.loop-bit-preserved
loop-bit-preserved c =
    mapped_more (reading_by (λ (index : ℕ). get_or c.args.variables.now (index - 1) 0))
    c.loop-bit.readings.items
    c.push.new.self.items c.args.read.now c.loop-bit.bit-index _ c.reading_of.result c.loop-bit.invariant
    c.loop-bit-test.true c.reading_of.ensures c.in_ok-push.ensures.items

pub returns : goal.returns
returns c =
    mapped_all (reading_by (λ (index : ℕ). get_or c.args.variables.now (index - 1) 0))
    c.loop-bit.readings.items
    c.args.read.now c.loop-bit.bit-index c.loop-bit.invariant c.loop-bit-test.false
