use Rattle.std.proofs.Common.{rules}
use Rattle.ba_steps.proofs.SinkLaws.{MayAddStep-same}
use Rattle.ba_checker.proofs.PutLaws.{lasts_same}
use Rattle.ba_checker.specs.Puts.{log_of}
use Rattle.ba_checker.proofs.checked.Checked.put.Goals as goal

pub returns-in-Some : goal.returns-in-Some
returns-in-Some g c = record {
  lasts = lasts_same (log_of g.J.RunJudge.accepts c.args.self.now);
  fresh = search rules;
  taken = search rules;
  awake = search rules;
  told = search rules;
  still_fresh = search rules;
  taken_too = search rules;
  taken_or_asleep = search rules;
  refused = MayAddStep-same c.args.step.now c.args.self.now.told.logs;
  keeps = search rules;
  again = search rules;
  cause = search rules;
}
