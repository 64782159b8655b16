use Rattle.std.proofs.Common.{◌≡◌, ◌++◌, drop, flat_map}
use Rattle.ba_report.specs.Report.{statement_line}
use Rattle.ba_report.proofs.listing.Listing.push_statements.Given as goal

-- the text so far and the lines of what is left are the whole
abbrev pub invariant-loop-number : goal.invariant-loop-number
invariant-loop-number l =
    l.text.items ++ flat_map (statement_line l.self.lines l.self.program.now) (drop l.number-index l.numbers)
    ≡ l.initial.text.items ++ flat_map (statement_line l.self.lines l.self.program.now) l.numbers
