use Rattle.std.proofs.Common.{◌≡◌, ◌++◌, drop, flat_map}
use Rattle.mode_places.specs.Report.{step_text}
use Rattle.mode_places.proofs.report.PlaceListing.push_path.Given as goal

-- the text so far and the steps that are left are the whole
abbrev pub invariant-loop-step : goal.invariant-loop-step
invariant-loop-step l =
    l.text.items ++ flat_map (step_text l.self.program.now) (drop l.step-index l.path)
    ≡ l.initial.text.items ++ flat_map (step_text l.self.program.now) l.path
