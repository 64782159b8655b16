use Rattle.std.proofs.Common.{◌+◌, sym, subst, take}
use Rattle.std.specs.List.{list_all}
use Rattle.ba_encode.proofs.Held.{met-more}
use Rattle.ba_encode.specs.Parts.{AreHeld, is_set}
use Rattle.ba_nodes.proofs.Truths.{Extends-through}
use Rattle.ba_encode.proofs.required.met.Goals as goal

pub loop-number-preserved : goal.loop-number-preserved
loop-number-preserved c = record {
  held = subst (λ bits. AreHeld c.is_set.new.nodes bits (λ free.
      list_all (is_set free c.args.nodes.now c.args.entries.now)
      (take (c.loop-number.number-index + 1) c.args.require.now)))
      (sym c.in_ok-push.ensures.items)
      (met-more c.args.nodes.now c.loop-number.nodes c.is_set.new.nodes c.args.entries.now c.args.require.now
      c.loop-number.number-index c.loop-number.bits.items c.in_ok-is_set.field-0 c.loop-number-test.true
      c.loop-number.invariant.extends c.requires.entries c.in_ok-is_set.ensures.extends
      c.loop-number.invariant.held
      c.in_ok-is_set.ensures.bit);
  extends = Extends-through c.args.nodes.now c.loop-number.nodes c.is_set.new.nodes
      c.loop-number.invariant.extends
      c.in_ok-is_set.ensures.extends;
}
