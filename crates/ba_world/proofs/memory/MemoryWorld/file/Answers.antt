use Rattle.std.proofs.Common.{rules, arith, ◌≡◌, Some, slice_index_or}
use Rattle.std.proofs.lemmas.Grind.{common_steps}
use Rattle.ba_world.specs.Memory.{file_of}
use Rattle.ba_world.proofs.Files.{no_file, file_of-found}
use Rattle.ba_world.proofs.memory.MemoryWorld.file.Goals as goal

pub returns : goal.returns
returns c =
    let files = c.self.inside.files.items in
    let there = c.in_ok-place.ensures in
    let found : file_of files c.args.name.now ≡ Some (slice_index_or files c.in_ok-place.place no_file) =
    search (rules, file_of-found, there) in
    rw (← c.self.view_is) (grind (arith, common_steps, found))
