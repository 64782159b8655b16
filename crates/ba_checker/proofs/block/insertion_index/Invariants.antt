use Rattle.std.proofs.Common.{◌≡◌, ◌++◌, take, drop}
use Rattle.ba_checker.specs.Blocks.{inserted}
use Rattle.ba_checker.proofs.block.insertion_index.Given as goal

abbrev pub invariant-loop-place : goal.invariant-loop-place
invariant-loop-place l = take l.place l.lits ++ inserted l.lit (drop l.place l.lits) ≡ inserted l.lit l.lits
