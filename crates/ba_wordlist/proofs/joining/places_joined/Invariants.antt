use Rattle.std.proofs.Common.{◌≡◌, ◌++◌, drop, map}
use Rattle.ba_wordlist.specs.Joining.{shifted_place}
use Rattle.ba_wordlist.proofs.joining.places_joined.Given as goal

abbrev pub invariant-loop-words : goal.invariant-loop-words
invariant-loop-words l =
    l.initial.places ++ map (shifted_place l.by) l.others
    ≡ l.places ++ map (shifted_place l.by) (drop l.words-index l.others)
