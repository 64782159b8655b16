use Rattle.std.proofs.Common.{◌≡◌, map, replicate, rc_value}
use Rattle.ba_guards.proofs.variables.full_chunks.Given as goal

abbrev pub invariant-loop-chunk : goal.invariant-loop-chunk
invariant-loop-chunk l = (map rc_value l.chunks.items ≡ replicate l._chunk (replicate 128 0))
    × (rc_value l.zeros ≡ replicate 128 0)
