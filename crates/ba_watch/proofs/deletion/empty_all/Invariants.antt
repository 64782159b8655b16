use Rattle.std.proofs.Common.{◌≡◌, ℕ, ◌<◌, None, length, get_or}
use Rattle.ba_watch.proofs.deletion.empty_all.Given as goal

abbrev pub invariant-loop-place : goal.invariant-loop-place
invariant-loop-place l = record {
  len : length l.heads.items ≡ length l.initial.heads.items;
  none : (k : ℕ) → k < l.place → get_or l.heads.items k None ≡ None;
}
