use Rattle.std.proofs.Common.{◌-◌, ◌≤◌, length}
use Rattle.ba_world.specs.World.{OnlyReads}
use Rattle.ba_world.specs.Read.{IsReadTo}
use Rattle.ba_world.proofs.read.read_whole.Given as goal

abbrev pub invariant-loop-bytes : goal.invariant-loop-bytes
invariant-loop-bytes g l = record {
  read : IsReadTo l.name l.bytes.items (g.W.World.outside l.fn.world) (g.W.World.outside l.world);
  within : length l.bytes.items ≤ l.limit;
  stays : OnlyReads (g.W.World.outside l.fn.world) (g.W.World.outside l.world);
}

abbrev pub decreases-loop-bytes : goal.decreases-loop-bytes
decreases-loop-bytes g l = 65537 - length l.bytes.items
