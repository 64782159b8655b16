-- THE ANSWER OF A RUN of a program.

use Rattle.std.specs.Prelude.{Option, None, option_map, List}
use Rattle.ba_answers.specs.declared.answers.Answer.{Answer}
use Rattle.ba_answers.specs.declared.answers.Answer.TheVariants as answer
use Rattle.ba_answers.specs.declared.file.File.TheVariants as file
use Rattle.ba_cases.specs.AtOnce.{at_once, input_refusal, position_of, run_in, unfailing}
use Rattle.ba_cases.specs.Reading.{files_for}
use Rattle.ba_cases.specs.declared.texts.Texts.{Texts}
use Rattle.ba_files.specs.declared.files.Named.{Named}
use Rattle.ba_tree.specs.declared.run.Bounds.{Bounds}
use Rattle.ba_tree.specs.declared.run.Outcome.{Outcome}
use Rattle.ba_tree.specs.declared.run.Outcome.TheVariants as outcome
use Rattle.ba_tree.specs.declared.tree.Program.{Program}
use Rattle.mode_run.specs.declared.running.RunJob.{RunJob}

-- the files of a job
abbrev pub files_of : RunJob → List Named
files_of j = files_for j.program file.Input j.input None

-- the run fails; or it doesn't, or exceeds a bound
abbrev pub end_answer : Program → Outcome → Option Answer
end_answer p (outcome.AssertFails stmt) = option_map (λ at. answer.AssertFails at) (position_of p stmt)
end_answer p (outcome.Trap stmt) = option_map (λ at. answer.Trap at) (position_of p stmt)
end_answer p end = unfailing p None end

-- THE ANSWER, which comes without a search
abbrev pub run_answer : Bounds → Texts → Program → Option Answer
run_answer bounds x p =
    at_once (input_refusal file.Input p x.input) x.weights bounds (end_answer p (run_in bounds x p)) p
