use Rattle.std.proofs.Common.{◌++◌}
use Rattle.std.proofs.lemmas.Result.{on_ok_weaker}
use Rattle.ba_inline.proofs.Adding.{adds-block, adds-loop}
use Rattle.ba_inline.proofs.Arms.{adds-old}
use Rattle.ba_inline.proofs.Wrapping.{loop-wrapped}
use Rattle.ba_inline.proofs.blocks.wrap_loop.Goals as goal

pub returns : goal.returns
returns c = on_ok_weaker c.add_block-2.result (λ put old heads bodies steps start head_end body_end is.
    let off = c.in_ok-step.ensures ((old ++ heads) ++ bodies) steps body_end is in
    let off_2 = c.in_ok-body.ensures (old ++ heads) bodies head_end off.0 in
    let off_3 = c.in_ok-head.ensures old heads start off_2.0 in
    loop-wrapped c.args.after c.args.stmt c.args.to c.taken_off-3.new.out.items old c.in_ok-head.head.items
    heads c.in_ok-body.body.items bodies c.in_ok-step.step.items steps c.add_block.new.out.items
    c.add.new.out.items c.add_block-2.new.out.items off_3.0 off_3.1 off_2.1 off.1
    (adds-old c.new-turn.ensures.items (adds-block _ _ _ _ c.in_ok-add_block.ensures))
    (adds-old c.new-whole.ensures.items (adds-loop _ _ _ _ _ _ _ _ c.in_ok-add.ensures))
    (adds-block _ _ _ _ put)) c.add_block-2.ensures
