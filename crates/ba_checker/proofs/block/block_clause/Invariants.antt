use Rattle.std.proofs.Common.{◌≡◌, drop}
use Rattle.ba_checker.specs.Blocks.{block_clause}
use Rattle.ba_checker.proofs.block.block_clause.Given as goal

abbrev pub invariant-loop-place : goal.invariant-loop-place
invariant-loop-place l = l.lits.items ≡ block_clause l.groups (drop l.place l.set)
