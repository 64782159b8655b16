use Rattle.std.proofs.Common.{length}
use Rattle.ba_enum.proofs.GroupLaws.{present_at}
use Rattle.ba_enum.proofs.blocking.false_groups.Goals as goal

pub is_false_group-requires : goal.is_false_group-requires
is_false_group-requires c =
    present_at (length c.args.model.now.values) c.args.softs.now c.loop-place.place
    c.index-softs-place.result c.requires c.loop-place-test.true c.index-softs-place.is
