use Rattle.std.proofs.Common.{◌+◌, ◌&&◌, sym, subst, take, arith}
use Rattle.std.specs.List.{list_all}
use Rattle.ba_encode.proofs.Held.{kept-all, kept-more}
use Rattle.ba_encode.specs.Parts.{AreHeld, stays}
use Rattle.ba_nodes.proofs.Truths.{Extends-through}
use Rattle.ba_nodes.specs.Gates.{truth}
use Rattle.ba_encode.proofs.required.add_kept.Goals as goal

pub loop-place-preserved : goal.loop-place-preserved
loop-place-preserved c = record {
  held = λ value first. subst (λ bits. AreHeld c.kept.new.nodes bits (λ free.
      value free && list_all (stays (truth free c.args.nodes.now))
      (take (c.loop-place.place-index + 1) c.args.places.now)))
      (sym c.in_ok-push.ensures.items)
      (kept-more c.args.nodes.now c.loop-place.nodes c.kept.new.nodes c.args.places.now
      c.loop-place.place-index
      c.place-item.result c.loop-place.required.items c.in_ok-kept.field-0 value c.loop-place-test.true
      c.place-item.is
      c.loop-place.invariant.extends c.requires.places c.in_ok-kept.ensures.extends
      (c.loop-place.invariant.held value first) c.in_ok-kept.ensures.bit);
  extends = Extends-through c.args.nodes.now c.loop-place.nodes c.kept.new.nodes
      c.loop-place.invariant.extends
      c.in_ok-kept.ensures.extends;
}

pub returns-clause-held : goal.returns-clause-held
returns-clause-held c = λ value first.
    kept-all c.args.nodes.now c.loop-place.nodes c.args.places.now c.loop-place.place-index
    c.loop-place.required.items
    value (omega arith) (c.loop-place.invariant.held value first)
