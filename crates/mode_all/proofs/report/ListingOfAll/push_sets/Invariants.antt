use Rattle.std.proofs.Common.{◌≡◌, ◌+◌, ℕ, List, drop}
use Rattle.mode_all.specs.Listing.{AreAdded}
use Rattle.mode_all.proofs.report.ListingOfAll.push_sets.Given as goal

-- if the sets that are left are added to the text so far, all are
abbrev pub invariant-loop-found : goal.invariant-loop-found
invariant-loop-found l = record {
  counted : l.number ≡ l.found-index + 1;
  added : (text : List ℕ)
      → AreAdded l.self.listing.lines l.self.listing.program.now l.self.listing.runs l.self.inputs.now
      l.self.bounds l.number (drop l.found-index l.sets) l.text.items text
      → AreAdded l.self.listing.lines l.self.listing.program.now l.self.listing.runs l.self.inputs.now
      l.self.bounds 1 l.sets l.initial.text.items text;
}
