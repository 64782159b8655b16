use Rattle.std.proofs.Common.{◌++◌}
use Rattle.std.proofs.lemmas.Result.{on_ok_weaker}
use Rattle.ba_inline.proofs.Wrapping.{branches-wrapped}
use Rattle.ba_inline.proofs.blocks.wrap_branches.Goals as goal

pub returns : goal.returns
returns c = on_ok_weaker c.add_branches.result (λ put old one two start middle is.
    let off = c.in_ok-no.ensures (old ++ one) two middle is in
    let off_2 = c.in_ok-yes.ensures old one start off.0 in
    branches-wrapped c.args.when c.taken_off-2.new.out.items old c.in_ok-yes.yes.items one
    c.in_ok-no.no.items two c.add_branches.new.out.items off_2.0 off_2.1 off.1 put) c.add_branches.ensures
