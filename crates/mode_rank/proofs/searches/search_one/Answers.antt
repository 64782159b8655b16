use Rattle.std.proofs.Common.{rules}
use Rattle.mode_rank.proofs.Listing.{finds, part_left}
use Rattle.mode_rank.proofs.searches.search_one.Goals as goal

pub returns-in_err-verdict : goal.returns-in_err-verdict
returns-in_err-verdict g c = λ x runs. record {
  answer = search rules;
  left = part_left c.args.job.now x c.args.runs.now runs c.args.entry.now (g.D.StepSink.told c.args.steps.now)
      (g.D.StepSink.told c.localise.new.steps) c.localise.ensures.leaves;
  cause = search rules;
  outlasts = c.localise.ensures.outlasts;
}

pub returns-in_err-found_by : goal.returns-in_err-found_by
returns-in_err-found_by g c = λ x runs. record {
  answer = search rules;
  left = part_left c.args.job.now x c.args.runs.now runs c.args.entry.now (g.D.StepSink.told c.args.steps.now)
      (g.D.StepSink.told c.localise.new.steps) c.localise.ensures.leaves;
  cause = first_of (search rules, cc);
  outlasts = c.localise.ensures.outlasts;
}

pub returns : goal.returns
returns g c = λ x runs. record {
  answer = finds c.args.job.now x c.args.runs.now runs c.args.entry.now (g.D.StepSink.told c.args.steps.now)
      (g.D.StepSink.told c.localise.new.steps) c.in_ok-verdict.verdict c.in_ok-found_by.field-0
      c.in_ok-verdict.ensures.finds c.in_ok-found_by.ensures;
  left = part_left c.args.job.now x c.args.runs.now runs c.args.entry.now (g.D.StepSink.told c.args.steps.now)
      (g.D.StepSink.told c.localise.new.steps) c.localise.ensures.leaves;
  cause = λ failed. absurd (cc failed);
  outlasts = c.localise.ensures.outlasts;
}
