use Rattle.std.proofs.Common.{rules, arith, ◌≡◌, Some, slice_index_or}
use Rattle.std.proofs.lemmas.Grind.{common_steps}
use Rattle.ba_world.specs.Memory.{file_of, name_at}
use Rattle.ba_world.proofs.Files.{no_file, file_of-found}
use Rattle.ba_world.proofs.memory.MemoryWorldWorld.open_file.Goals as goal

pub returns-in-Some-clause-exactly : goal.returns-in-Some-clause-exactly
returns-in-Some-clause-exactly c =
    let files = c.self.inside.files.items in
    let there = c.in-Some.ensures in
    let found : file_of files c.args.name.now ≡ Some (slice_index_or files c.in-Some.file no_file) =
    search (rules, file_of-found, there) in
    let named : name_at files c.in-Some.file ≡ c.args.name.now = search (rules, there) in
    rw (← c.self.view_is) (grind (arith, common_steps, found, named))
