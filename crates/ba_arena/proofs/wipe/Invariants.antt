use Rattle.ba_arena.proofs.Wiping.{IsWiping}
use Rattle.ba_arena.proofs.wipe.Given as goal

abbrev pub invariant-loop-place : goal.invariant-loop-place
invariant-loop-place l = IsWiping l.initial.words.items l.words.items l.place l.left l.gone
