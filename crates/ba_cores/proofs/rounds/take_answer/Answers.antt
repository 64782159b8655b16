use Rattle.std.proofs.Common.{subst}
use Rattle.std.proofs.lemmas.Result.{IfOk-weaker}
use Rattle.ba_search.specs.Answers.{IsAnswer}
use Rattle.ba_cores.specs.Rounds.{literals_of, heavy}
use Rattle.ba_cores.proofs.DerivesLaws.{puts_none, leaves_none, round_weight, round_model}
use Rattle.ba_cores.proofs.HeavyLaws.{heavy_core}
use Rattle.ba_cores.proofs.rounds.take_answer.Goals as goal

pub take_model-requires : goal.take_model-requires
take_model-requires g c =
    let s = (g.L.ProofLog.log c.args.log.now).checker in
    record {
      model = subst (IsAnswer s (literals_of (heavy c.args.weight.now s.softs))) c.in-Model.is
          c.requires.answer;
      ready = c.requires.stands.ready;
    }

pub returns-in-Model-clause-found : goal.returns-in-Model-clause-found
returns-in-Model-clause-found g c =
    round_model (g.L.ProofLog.log c.args.log.now) c.args.weight.now c.take_model.new.weight
    c.take_model.result
    c.take_model.ensures.found c.take_model.ensures.less

pub returns-in-Model-clause-put : goal.returns-in-Model-clause-put
returns-in-Model-clause-put g c =
    record { goes_on = c.requires.stands.goes_on; puts = puts_none (g.L.ProofLog.log c.args.log.now) }

pub returns-in-Model-clause-leaves : goal.returns-in-Model-clause-leaves
returns-in-Model-clause-leaves g c = leaves_none (g.L.ProofLog.log c.args.log.now)

pub take_core-requires-clause-core : goal.take_core-requires-clause-core
take_core-requires-clause-core g c =
    let s = (g.L.ProofLog.log c.args.log.now).checker in
    heavy_core s c.args.weight.now c.in-Core.core.lits c.in-Core.core.hints c.in-Core.core.back
    (subst (IsAnswer s (literals_of (heavy c.args.weight.now s.softs))) c.in-Core.is c.requires.answer)

pub returns-in-Core-clause-found : goal.returns-in-Core-clause-found
returns-in-Core-clause-found g c =
    IfOk-weaker c.take_core.result _ _
    (λ found ends. round_weight (g.L.ProofLog.log c.args.log.now) (g.L.ProofLog.log c.take_core.new.log)
    c.args.weight.now found ends)
    c.take_core.ensures.found

pub returns-in-Spent-clause-put : goal.returns-in-Spent-clause-put
returns-in-Spent-clause-put g c =
    record { goes_on = c.requires.stands.goes_on; puts = puts_none (g.L.ProofLog.log c.args.log.now) }

pub returns-in-Spent-clause-leaves : goal.returns-in-Spent-clause-leaves
returns-in-Spent-clause-leaves g c = leaves_none (g.L.ProofLog.log c.args.log.now)
