use Rattle.std.proofs.Common.{take}
use Rattle.ba_formula.specs.Words.{HasRuns, good_on_all}
use Rattle.ba_formula.proofs.runs.words_of_all.Given as goal

abbrev pub invariant-loop-input : goal.invariant-loop-input
invariant-loop-input l = HasRuns l.program (good_on_all l.program (take l.input-index l.inputs) l.fn.bounds)
    l.words
