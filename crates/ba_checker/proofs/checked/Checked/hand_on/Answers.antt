use Rattle.std.proofs.Common.{rules, ap}
use Rattle.ba_steps.proofs.SinkLaws.{MayAddStep-as}
use Rattle.ba_checker.proofs.checked.Checked.hand_on.Goals as goal

pub returns-then-not-advance : goal.returns-then-not-advance
returns-then-not-advance g c = record {
  lasts = search rules;
  refusal_stays = search rules;
  taken = search rules;
  awake = search rules;
  told = search rules;
  taken_too = search rules;
  taken_or_asleep = search rules;
  refused = MayAddStep-as c.args.step.now c.args.self.now.told.logs
      (g.S.StepSink.told c.self.inside.sink).logs (ap (λ p. p.told.logs) c.self.view_is);
  cause = search rules;
}
