use Rattle.std.proofs.Common.{rules}
use Rattle.mode_places.proofs.Searching.{concluded, stopped}
use Rattle.mode_places.proofs.search.locate.Goals as goal

pub returns-in_err-found : goal.returns-in_err-found
returns-in_err-found g c = record {
  answer = search rules;
  left = stopped c.args.job.now c.args.texts.now c.args.case.now c.requires.search.case
      (g.D.StepSink.told c.args.steps.now) (g.D.StepSink.told c.localise_places.new.steps)
      c.localise_places.ensures.leaves;
  cause = search rules;
  outlasts = c.localise_places.ensures.outlasts;
}

pub returns-in_err-verdict_answer : goal.returns-in_err-verdict_answer
returns-in_err-verdict_answer g c = record {
  answer = search rules;
  left = stopped c.args.job.now c.args.texts.now c.args.case.now c.requires.search.case
      (g.D.StepSink.told c.args.steps.now) (g.D.StepSink.told c.localise_places.new.steps)
      c.localise_places.ensures.leaves;
  cause = first_of (search rules, cc);
  outlasts = c.localise_places.ensures.outlasts;
}

pub returns : goal.returns
returns g c = record {
  answer = concluded c.args.job.now c.args.texts.now c.args.case.now c.requires.search.case
      c.as_slice-source.result.now _ _ c.in_ok-found.found c.in_ok-verdict_answer.field-0
      c.in_ok-found.ensures.finds c.as_slice-source.ensures c.in_ok-verdict_answer.ensures;
  left = stopped c.args.job.now c.args.texts.now c.args.case.now c.requires.search.case
      (g.D.StepSink.told c.args.steps.now) (g.D.StepSink.told c.localise_places.new.steps)
      c.localise_places.ensures.leaves;
  cause = λ failed. absurd (cc failed);
  outlasts = c.localise_places.ensures.outlasts;
}
