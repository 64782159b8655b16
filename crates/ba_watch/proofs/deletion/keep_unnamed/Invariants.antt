use Rattle.ba_watch.proofs.Unnamed.{IsKeeping}
use Rattle.ba_watch.proofs.deletion.keep_unnamed.Given as goal

abbrev pub invariant-loop-place : goal.invariant-loop-place
invariant-loop-place l = IsKeeping l.arena l.numbers l.initial.list.items l.list.items l.place l.count
