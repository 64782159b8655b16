use Rattle.std.proofs.Common.{arith, ◌≡◌, slice_index_or}
use Rattle.std.proofs.lemmas.Grind.{common_steps}
use Rattle.ba_world.specs.Memory.{name_at}
use Rattle.ba_world.proofs.Files.{no_file, file_of-name_at, with_file-set}
use Rattle.ba_world.proofs.memory.append_to.Goals as goal

pub returns-clause-ok : goal.returns-clause-ok
returns-clause-ok c =
    let files = c.args.files.now.items in
    let found = file_of-name_at files c.args.place c.requires.differ c.requires.within in
    let there : c.index_mut.result.now ≡ slice_index_or files c.args.place no_file = grind (arith, common_steps) in
    let same : name_at files c.args.place ≡ c.append.new.self.name = grind (arith, common_steps, there) in
    let put = with_file-set c.append.new.self files c.args.place c.requires.differ c.requires.within same in
    rw found (grind (arith, common_steps, put, there))
