use Rattle.std.proofs.Common.{◌≡◌, ◌++◌, drop, map}
use Rattle.ba_wordlist.specs.Joining.{shifted_op}
use Rattle.ba_wordlist.proofs.joining.words_joined.Given as goal

abbrev pub invariant-loop-op : goal.invariant-loop-op
invariant-loop-op l =
    l.initial.words ++ map (shifted_op l.by) l.others
    ≡ l.words ++ map (shifted_op l.by) (drop l.op-index l.others)
