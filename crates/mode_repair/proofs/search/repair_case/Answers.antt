use Rattle.std.proofs.Common.{rules}
use Rattle.mode_repair.proofs.Searching.{concluded, run_fails, stopped}
use Rattle.mode_repair.proofs.search.repair_case.Goals as goal

pub localise-requires-clause-failing : goal.localise-requires-clause-failing
localise-requires-clause-failing g c =
    run_fails c.args.job.now c.args.texts.now c.args.case.now c.requires.search.case

pub returns-in_err-verdict : goal.returns-in_err-verdict
returns-in_err-verdict g c = record {
  answer = search rules;
  left = stopped c.args.job.now c.args.texts.now c.args.case.now c.requires.search.case
      (g.D.StepSink.told c.args.steps.now) (g.D.StepSink.told c.localise.new.steps) c.localise.ensures.leaves;
  cause = search rules;
  outlasts = c.localise.ensures.outlasts;
}

pub returns-in_err-verdict_answer : goal.returns-in_err-verdict_answer
returns-in_err-verdict_answer g c = record {
  answer = search rules;
  left = stopped c.args.job.now c.args.texts.now c.args.case.now c.requires.search.case
      (g.D.StepSink.told c.args.steps.now) (g.D.StepSink.told c.localise.new.steps) c.localise.ensures.leaves;
  cause = first_of (search rules, cc);
  outlasts = c.localise.ensures.outlasts;
}

pub returns : goal.returns
returns g c = record {
  answer = concluded c.args.job.now c.args.texts.now c.args.case.now c.requires.search.case
      (g.D.StepSink.told c.args.steps.now) (g.D.StepSink.told c.localise.new.steps)
      c.in_ok-verdict.verdict c.in_ok-verdict_answer.field-0 c.in_ok-verdict.ensures.finds
      (c.in_ok-verdict_answer.ensures c.args.texts.now c.as_slice-source.ensures c.requires.search.case);
  left = stopped c.args.job.now c.args.texts.now c.args.case.now c.requires.search.case
      (g.D.StepSink.told c.args.steps.now) (g.D.StepSink.told c.localise.new.steps) c.localise.ensures.leaves;
  cause = λ failed. absurd (cc failed);
  outlasts = c.localise.ensures.outlasts;
}
