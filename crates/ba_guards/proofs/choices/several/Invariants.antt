use Rattle.std.proofs.Common.{◌≡◌, true}
use Rattle.ba_guards.specs.Making.{Draws, are_of}
use Rattle.ba_wordlist.specs.Facts.{are_words}
use Rattle.ba_guards.proofs.choices.several.Given as goal

abbrev pub invariant-loop-made : goal.invariant-loop-made
invariant-loop-made l = are_words l.initial.words ≡ true →
    Draws l.initial.words l.words l.values (are_of l.t l._made)
