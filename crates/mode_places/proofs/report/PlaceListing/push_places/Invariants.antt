use Rattle.std.proofs.Common.{◌≡◌, ◌++◌, drop, flat_map}
use Rattle.ba_places.specs.Numbers.{places_at}
use Rattle.mode_places.specs.Report.{place_line}
use Rattle.mode_places.proofs.report.PlaceListing.push_places.Given as goal

-- the text so far and the lines of what is left are the whole
abbrev pub invariant-loop-number : goal.invariant-loop-number
invariant-loop-number l =
    l.text.items
    ++ flat_map (place_line l.self.lines l.self.program.now)
    (places_at l.self.places.now (drop l.number-index l.numbers))
    ≡ l.initial.text.items
    ++ flat_map (place_line l.self.lines l.self.program.now) (places_at l.self.places.now l.numbers)
