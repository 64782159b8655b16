use Rattle.std.proofs.Common.{◌≡◌, ◌++◌, drop, flat_map}
use Rattle.mode_repair.specs.Report.{edit_line}
use Rattle.mode_repair.proofs.report.push_edits.Given as goal

-- the text so far and the lines of what is left are the whole
abbrev pub invariant-loop-edit : goal.invariant-loop-edit
invariant-loop-edit l =
    l.text.items ++ flat_map (edit_line l.lines l.program) (drop l.edit-index l.edits)
    ≡ l.initial.text.items ++ flat_map (edit_line l.lines l.program) l.edits
