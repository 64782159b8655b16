use Rattle.std.proofs.Common.{rules, ◌≡◌, ◌++◌, map, length}
use Rattle.ba_wordlist.proofs.Joined.{list-joined}
use Rattle.ba_wordlist.specs.Joining.{shifted, shifted_op, shifted_place}
use Rattle.ba_wordlist.proofs.joining.append.Goals as goal

pub invariant_of-result : goal.invariant_of-result
invariant_of-result c =
    let first = c.args.list in
    let second = c.args.other in
    let n = length first.words in
    let words : c.in_ok-words_joined.field-0 ≡ first.words ++ map (shifted_op n) second.words = search rules
    in
    let require : c.in_ok-requirements_joined.field-0 ≡ first.require ++ shifted n second.require =
    search rules in
    let places : c.in_ok-places_joined.field-0 ≡ first.places ++ map (shifted_place n) second.places =
    search rules in
    record {
      fit = list-joined first second c.in_ok-words_joined.field-0 c.in_ok-requirements_joined.field-0
          c.in_ok-places_joined.field-0 words require places;
    }
