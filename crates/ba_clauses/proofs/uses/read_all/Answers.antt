use Rattle.std.proofs.Common.{false, All, List, length, subst}
use Rattle.std.proofs.lemmas.List.{get_or_default, take_all}
use Rattle.ba_nodes.specs.declared.Bit.{Bit}
use Rattle.ba_clauses.specs.Uses.{IsRead, NeedMoreBelow}
use Rattle.ba_clauses.proofs.Needs.{IsRead-all, NeedMoreBelow-through}
use Rattle.ba_clauses.proofs.uses.read_all.Goals as goal

pub loop-bit-preserved : goal.loop-bit-preserved
loop-bit-preserved c =
    record {
      read = IsRead-all (length c.loop-bit.uses) c.args.bits.now c.loop-bit.bit-index _ c.loop-bit.uses
          c.read.new.uses c.loop-bit-test.true
          (get_or_default c.args.bits.now c.loop-bit.bit-index (record { index = 0; negated = false }) _
          c.loop-bit-test.true) c.read.ensures.more
          c.loop-bit.invariant.read c.read.ensures.read;
      more = NeedMoreBelow-through (length c.args.uses.now) c.args.uses.now c.loop-bit.uses c.read.new.uses
          c.loop-bit.invariant.more
          (subst (λ n. NeedMoreBelow n c.loop-bit.uses c.read.new.uses) c.loop-bit.invariant.more.size
          c.read.ensures.more);
    }

pub returns-clause-read : goal.returns-clause-read
returns-clause-read c =
    subst (λ (bits : List Bit). All (IsRead c.loop-bit.uses) bits) (take_all c.loop-bit.bit-index
    c.args.bits.now c.loop-bit-test.false) c.loop-bit.invariant.read
