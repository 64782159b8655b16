-- Runs on several inputs, each of which is searched.

use Rattle.std.proofs.Common.{◌≡◌, ◌≢◌, None, List, sym, subst}
use Rattle.std.proofs.lemmas.List.Elements.{All-from_recursion}
use Rattle.ba_answers.specs.declared.file.File.TheVariants as file
use Rattle.ba_cases.proofs.SeveralInputs.{last_none, none_done}
use Rattle.ba_cases.specs.AtOnce.{size_refusal, weights_refusal}
use Rattle.ba_cases.specs.Inputs.{ends_answer, inputs_of, inputs_refusal}
use Rattle.ba_cases.specs.declared.texts.Texts.{Texts}
use Rattle.ba_inputs.specs.declared.inputs.InputLine.{InputLine}
use Rattle.ba_tree.specs.Run.{plain_run}
use Rattle.ba_tree.specs.declared.run.Outcome.TheVariants as outcome
use Rattle.mode_rank.specs.Inputs.{AreRunsOf}
use Rattle.mode_rank.specs.Jobs.{MayBeDone}
use Rattle.mode_rank.specs.Searches.{MayBeSearched}
use Rattle.mode_rank.specs.declared.jobs.RankJob.{RankJob}
use Rattle.mode_rank.specs.declared.runs.Runs.{Runs}

pub may_be_searched : (j : RankJob) (x : Texts) (c : Runs) → MayBeDone j → AreRunsOf j.bounds x c →
    MayBeSearched j c
may_be_searched j x c job runs = record {
  job = job;
  fit = runs.fit;
  weighed = runs.weighed;
  failing = All-from_recursion
      (λ (entry : InputLine). plain_run c.program entry.input j.bounds ≢ outcome.Done) c.inputs
      (none_done j.bounds c.program c.inputs none);
}
  where
    none : ends_answer j.bounds c.program c.inputs ≡ None
    none = subst (λ (inputs : List InputLine). ends_answer j.bounds c.program inputs ≡ None) (sym runs.inputs)
        (last_none (inputs_refusal file.Inputs 1 c.program x.input) (weights_refusal x.weights)
        (size_refusal c.program j.bounds)
        (ends_answer j.bounds c.program (inputs_of c.program x.input)) runs.undecided)
