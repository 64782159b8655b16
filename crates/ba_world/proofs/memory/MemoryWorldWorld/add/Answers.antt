use Rattle.std.proofs.Common.{arith}
use Rattle.std.proofs.lemmas.Grind.{common_steps}
use Rattle.ba_world.proofs.Files.{option_map-name_at, option_map-opened}
use Rattle.ba_world.proofs.memory.MemoryWorldWorld.add.Goals as goal

pub returns-clause-exactly : goal.returns-clause-exactly
returns-clause-exactly c ok =
    let after = c.append_to-2.new.files.items in
    let stay = c.append_to-2.ensures.names_stay in
    let writing = option_map-name_at c.self.inside.writing c.self.inside.files.items after stay in
    let reading = option_map-opened c.self.inside.reading c.self.inside.files.items after stay in
    rw (← c.self.view_is) (grind (arith, common_steps, writing, reading))

pub returns-then-fails-clause-exactly : goal.returns-then-fails-clause-exactly
returns-then-fails-clause-exactly c ok =
    let after = c.append_to.new.files.items in
    let stay = c.append_to.ensures.names_stay in
    let writing = option_map-name_at c.self.inside.writing c.self.inside.files.items after stay in
    let reading = option_map-opened c.self.inside.reading c.self.inside.files.items after stay in
    rw (← c.self.view_is) (grind (arith, common_steps, writing, reading))
