use Rattle.std.proofs.Common.{◌*◌, ◌+◌, take}
use Rattle.ba_answers.specs.Limits.{limit}
use Rattle.ba_world.specs.Read.{piece_size}
use Rattle.ba_world.specs.World.{OnlyReads}
use Rattle.ba_files.specs.Files.{AreRead, GivesAtMost}
use Rattle.ba_files.proofs.files.read_files.Given as goal

-- the files so far were read
abbrev pub invariant-loop-named : goal.invariant-loop-named
invariant-loop-named g l = record {
  read : AreRead (take l.named-index l.files) l.texts.items (g.W.World.outside l.fn.world)
      (g.W.World.outside l.world);
  given : GivesAtMost (l.named-index * (limit + piece_size)) (g.W.World.outside l.fn.world)
      (g.W.World.outside l.world);
  stays : OnlyReads (g.W.World.outside l.fn.world) (g.W.World.outside l.world);
}
