use Rattle.std.proofs.Common.{rules, refl}
use Rattle.std.specs.String.{string_bytes}
use Rattle.ba_world.specs.Memory.{held_file}
use Rattle.ba_world.proofs.Files.{NamesDiffer-map}
use Rattle.ba_world.proofs.memory.MemoryWorld.new.Goals as goal

pub invariant_of-result : goal.invariant_of-result
invariant_of-result c = record {
  differ =
      rw c.in_ok-held_files.ensures
      (NamesDiffer-map (λ file. held_file (string_bytes file.0) file.1.items) (λ file. string_bytes file.0) c.args.files.items
      (λ value. refl) c.requires.names);
  reads = search rules;
  writes = search rules;
  gives = c.requires.piece;
}
