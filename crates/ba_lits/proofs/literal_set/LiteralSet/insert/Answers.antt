use Rattle.std.proofs.Common.{◌<◌, length, arith}
use Rattle.ba_lits.proofs.Members.{AreMarks-push}
use Rattle.ba_lits.proofs.literal_set.LiteralSet.insert.Goals as goal

pub invariant_of-self-2 : goal.invariant_of-self-2
invariant_of-self-2 c =
    let room : c.index-index.result < length c.grow.new.self = omega (arith, c.in_ok-grow.ensures.room) in
    AreMarks-push c.self.inside.marks c.grow.new.self c.mark.new.self c.self.inside.members.items c.push.new.self.items
    c.args.lit c.index-index.result c.self.invariant c.grow.ensures.same c.mark.ensures room c.index-index.ensures.index
    c.in_ok-push.ensures.items
