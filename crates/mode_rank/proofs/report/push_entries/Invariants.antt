use Rattle.std.proofs.Common.{◌≡◌, ◌++◌, drop, flat_map}
use Rattle.mode_rank.specs.Report.{entry_line}
use Rattle.mode_rank.proofs.report.push_entries.Given as goal

-- the text so far and the lines of what is left are the whole
abbrev pub invariant-loop-entry : goal.invariant-loop-entry
invariant-loop-entry l =
    l.text.items ++ flat_map (entry_line l.lines l.program l.all) (drop l.entry-index l.entries)
    ≡ l.initial.text.items ++ flat_map (entry_line l.lines l.program l.all) l.entries
