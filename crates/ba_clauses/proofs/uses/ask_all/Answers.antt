use Rattle.std.proofs.Common.{subst}
use Rattle.std.proofs.lemmas.List.{get_or_default, take_all}
use Rattle.ba_clauses.specs.Uses.{Asks}
use Rattle.ba_clauses.proofs.Needs.{Asks-more, Asks-none}
use Rattle.ba_clauses.proofs.uses.ask_all.Goals as goal

pub loop-bit-preserved : goal.loop-bit-preserved
loop-bit-preserved c =
    Asks-more c.args.bits.now c.loop-bit.bit-index _ c.args.uses.now c.loop-bit.uses c.ask.new.uses
    c.loop-bit-test.true
    (get_or_default c.args.bits.now c.loop-bit.bit-index _ _ c.loop-bit-test.true) c.loop-bit.invariant
    c.ask.ensures

pub loop-bit-init : goal.loop-bit-init
loop-bit-init c = Asks-none c.args.uses.now

pub returns : goal.returns
returns c =
    subst (λ bits. Asks bits c.args.uses.now c.loop-bit.uses)
    (take_all c.loop-bit.bit-index c.args.bits.now c.loop-bit-test.false) c.loop-bit.invariant
