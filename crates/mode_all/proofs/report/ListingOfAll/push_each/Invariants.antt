use Rattle.std.proofs.Common.{◌≡◌, ◌++◌, drop, map}
use Rattle.mode_all.specs.Report.{runs_lines}
use Rattle.mode_all.proofs.report.ListingOfAll.push_each.Given as goal

-- the text so far and the lines of the runs that are left are the whole
abbrev pub invariant-loop-run : goal.invariant-loop-run
invariant-loop-run l =
    l.text.items ++ runs_lines l.self.listing.runs (map (λ run. run.now) (drop l.run-index l.runs))
    ≡ l.initial.text.items ++ runs_lines l.self.listing.runs (map (λ run. run.now) l.runs)
