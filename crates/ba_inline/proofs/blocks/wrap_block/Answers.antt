use Rattle.std.proofs.lemmas.Result.{on_ok_weaker}
use Rattle.ba_inline.proofs.Adding.{adds-block}
use Rattle.ba_inline.proofs.Wrapping.{block-wrapped}
use Rattle.ba_inline.proofs.blocks.wrap_block.Goals as goal

pub returns : goal.returns
returns c = on_ok_weaker c.add_block.result (λ put old made start is.
    let off = c.in_ok-body.ensures old made start is in
    block-wrapped c.args.label c.taken_off.new.out.items old c.in_ok-body.body.items made
    c.add_block.new.out.items off.0 off.1 (adds-block _ _ _ _ put)) c.add_block.ensures
