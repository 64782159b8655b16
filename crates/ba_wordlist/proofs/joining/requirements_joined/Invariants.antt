use Rattle.std.proofs.Common.{◌≡◌, ◌++◌, drop}
use Rattle.ba_wordlist.specs.Joining.{shifted}
use Rattle.ba_wordlist.proofs.joining.requirements_joined.Given as goal

abbrev pub invariant-loop-word : goal.invariant-loop-word
invariant-loop-word l =
    l.initial.require ++ shifted l.by l.others
    ≡ l.require ++ shifted l.by (drop l.word-index l.others)
