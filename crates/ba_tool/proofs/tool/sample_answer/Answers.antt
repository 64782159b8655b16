use Rattle.std.proofs.Common.{refl, rules, ap, arith}
use Rattle.ba_steps.proofs.SinkLaws.{Outlasts-refl}
use Rattle.ba_tree.specs.Run.{are_bounds}
use Rattle.ba_world.proofs.WholeReads.{only_reads_none}
use Rattle.mode_localise.proofs.Sampling.{inputs_short, texts_short}
use Rattle.mode_localise.specs.declared.jobs.LocaliseJob.{LocaliseJob}
use Rattle.ba_tool.specs.Calls.{in_reading}
use Rattle.ba_tool.proofs.Coming.{sample_ends}
use Rattle.ba_tool.proofs.tool.sample_answer.Goals as goal

pub localise_texts-requires-clause-short : goal.localise_texts-requires-clause-short
localise_texts-requires-clause-short g c = record {
  program = texts_short c.in_ok-texts.texts c.args.additions c.in_ok-texts.ensures c.requires.few;
  input = inputs_short c.in_ok-texts.texts c.args.additions c.in_ok-texts.ensures;
}

pub localise_texts-requires-clause-job : goal.localise_texts-requires-clause-job
localise_texts-requires-clause-job g c = record {
  countable = let is = ap (λ (j : LocaliseJob). j.conflicts) c.sample_job-job.ensures in omega (arith, is);
  bounds = ap (λ (j : LocaliseJob). are_bounds j.bounds) c.sample_job-job.ensures;
}

pub returns-in_err-texts-clause-ends : goal.returns-in_err-texts-clause-ends
returns-in_err-texts-clause-ends g c = record {
  answer = search rules;
  left = in_reading (only_reads_none _) (refl, refl);
  cause = first_of (search rules, cc);
  outlasts = Outlasts-refl (g.D.StepSink.told c.args.steps.now);
}

pub returns-clause-ends : goal.returns-clause-ends
returns-clause-ends g c = sample_ends c.args.additions c.sample_job-job.result c.in_ok-texts.texts
    (g.W.World.outside c.args.world.now) (g.W.World.outside c.localise_texts.new.world)
    (g.D.StepSink.told c.args.steps.now) (g.D.StepSink.told c.localise_texts.new.steps)
    c.localise_texts.result c.sample_job-job.ensures c.in_ok-texts.ensures c.localise_texts.ensures.ends
