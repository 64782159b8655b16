use Rattle.std.proofs.Common.{◌≡◌, ◌++◌, drop}
use Rattle.ba_wordlist.specs.Joining.{shifted}
use Rattle.ba_wordlist.proofs.joining.numbers_behind.Given as goal

abbrev pub invariant-loop-number : goal.invariant-loop-number
invariant-loop-number l =
    shifted l.by l.numbers ≡ l.moved.items ++ shifted l.by (drop l.number-index l.numbers)
