use Rattle.std.proofs.Common.{◌≡◌, ◌+◌, ◌++◌, drop, map}
use Rattle.ba_localise.specs.Places.{found_at}
use Rattle.mode_places.specs.Report.{sets_lines}
use Rattle.mode_places.proofs.report.PlaceListing.push_sets.Given as goal

-- the text so far and the sets that are left are the whole
abbrev pub invariant-loop-set : goal.invariant-loop-set
invariant-loop-set l = record {
  counted : l.number ≡ l.set-index + 1;
  whole : l.text.items
      ++ sets_lines l.self.lines l.self.program.now l.self.runs l.number
      (map (found_at l.self.places.now) (drop l.set-index l.sets))
      ≡ l.initial.text.items
      ++ sets_lines l.self.lines l.self.program.now l.self.runs 1 (map (found_at l.self.places.now) l.sets);
}
