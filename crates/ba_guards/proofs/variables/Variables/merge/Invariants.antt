use Rattle.std.proofs.Common.{◌≡◌, true, ◌<◌, drop, length}
use Rattle.ba_guards.proofs.Merging.{Merging}
use Rattle.ba_guards.specs.Written.{AgreeBut}
use Rattle.ba_wordlist.specs.Facts.{are_names, are_words}
use Rattle.ba_guards.proofs.variables.Variables.merge.Given as goal

abbrev pub invariant-loop-number : goal.invariant-loop-number
invariant-loop-number l = AgreeBut l.numbers l.initial.self l.self
    × (are_words l.initial.words ≡ true → l.which < length l.initial.words
    → are_names (length l.initial.words) l.yes ≡ true
    → are_names (length l.initial.words) l.initial.self ≡ true → length l.yes ≡ length l.initial.self
    → AgreeBut l.numbers l.yes l.initial.self
    → Merging l.initial.words l.words l.which (drop l.number-index l.numbers) l.yes l.initial.self l.self)
