use Rattle.std.proofs.Common.{rules, arith, ◌<◌, length}
use Rattle.std.proofs.lemmas.Grind.{common_steps}
use Rattle.ba_world.proofs.Files.{file_of-name_at}
use Rattle.ba_world.proofs.memory.MemoryWorldWorld.next_piece.Goals as goal

pub returns-clause-exactly : goal.returns-clause-exactly
returns-clause-exactly c =
    let files = c.self.inside.files.items in
    let within : c.in-Some.file < length files = search rules in
    let found = file_of-name_at files c.in-Some.file c.self.invariant.differ within in
    let reading = c.in-Some.is in
    rw (← c.self.view_is) (grind (arith, common_steps, found, reading))
