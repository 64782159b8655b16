use Rattle.std.proofs.Common.{take}
use Rattle.ba_cases.specs.declared.texts.Texts.{Texts}
use Rattle.ba_steps.specs.Sinks.{Outlasts}
use Rattle.mode_rank.specs.Inputs.{AreRunsOf}
use Rattle.mode_rank.specs.Searches.{HasListed}
use Rattle.mode_rank.proofs.searches.search_all.Given as goal

-- the inputs so far have their lists
abbrev pub invariant-loop-entry : goal.invariant-loop-entry
invariant-loop-entry g l = (x : Texts) → AreRunsOf l.job.bounds x l.runs →
    HasListed l.job x l.runs.program (take l.entry-index l.runs.inputs) l.lists
    (g.D.StepSink.told l.fn.steps) (g.D.StepSink.told l.steps)
    × Outlasts (g.D.StepSink.told l.fn.steps) (g.D.StepSink.told l.steps)
