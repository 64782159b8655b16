use Rattle.std.proofs.Common.{◌≡◌, drop}
use Rattle.ba_world.specs.Memory.{file_of}
use Rattle.ba_world.proofs.memory.file_index.Given as goal

abbrev pub invariant-loop-place : goal.invariant-loop-place
invariant-loop-place l = file_of l.files l.name ≡ file_of (drop l.place l.files) l.name
