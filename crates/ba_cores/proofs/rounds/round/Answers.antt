use Rattle.std.proofs.Common.{◌≡◌, List, ap, sym, subst, ◌∙◌}
use Rattle.std.proofs.lemmas.Result.{IfOk-weaker, on_ok_weaker}
use Rattle.ba_lits.specs.Literals.{Literal}
use Rattle.ba_checker.specs.States.{State}
use Rattle.ba_search.specs.Answers.{IsAnswer}
use Rattle.ba_cores.specs.Rounds.{literals_of, heavy}
use Rattle.ba_cores.proofs.DerivesLaws.{puts_on, puts_searched, puts_ready, puts_softs, round_on, leaves_none, leaves_searches, leaves_on}
use Rattle.ba_cores.proofs.HeavyLaws.{heavy_assumed}
use Rattle.ba_cores.proofs.rounds.round.Goals as goal

pub solve-requires-clause-ready : goal.solve-requires-clause-ready
solve-requires-clause-ready g c = λ working. record {
  same = c.requires.stands.goes_on.same;
  begun = c.requires.stands.ready.begun;
  awake = c.requires.stands.ready.awake;
  fresh = c.requires.stands.goes_on.fresh;
  may_assume = heavy_assumed (g.L.ProofLog.log c.args.log.now).checker.variables
      c.checker.result.now.variables
      c.args.weight.now c.softs.result.now c.as_slice.result.now
      (c.as_slice.ensures.value ∙ c.in-Ok.ensures)
      (ap (λ (s : State). s.variables) c.checker.ensures)
      c.softs.ensures.among c.softs.ensures.differ;
}

pub take_answer-requires-clause-answer : goal.take_answer-requires-clause-answer
take_answer-requires-clause-answer g c =
    let old = g.L.ProofLog.log c.args.log.now in
    let new = g.L.ProofLog.log c.solve.new.log in
    let softs : new.checker.softs ≡ old.checker.softs = puts_softs old new c.in_ok-answer.ensures.steps in
    let seen : c.softs.result.now ≡ old.checker.softs =
    c.softs.ensures.softs ∙ ap (λ (s : State). s.softs) c.checker.ensures in
    let assumed : c.as_slice.result.now ≡ literals_of (heavy c.args.weight.now new.checker.softs) =
    c.as_slice.ensures.value ∙ c.in-Ok.ensures
    ∙ ap (λ ss. literals_of (heavy c.args.weight.now ss)) (seen ∙ sym softs) in
    subst (λ (a : List Literal). IsAnswer new.checker a c.in_ok-answer.answer) assumed
    c.in_ok-answer.ensures.answer

pub take_answer-requires-clause-stands : goal.take_answer-requires-clause-stands
take_answer-requires-clause-stands g c =
    let old = g.L.ProofLog.log c.args.log.now in
    let new = g.L.ProofLog.log c.solve.new.log in
    record {
      goes_on = c.in_ok-answer.ensures.solved.goes_on;
      ready = puts_ready old new (puts_searched old new c.in_ok-answer.ensures.steps) c.requires.stands.ready;
    }

pub returns-clause-found : goal.returns-clause-found
returns-clause-found g c =
    let old = g.L.ProofLog.log c.args.log.now in
    let mid = g.L.ProofLog.log c.solve.new.log in
    IfOk-weaker c.take_answer.result _ _
    (λ found ends. round_on old mid (g.L.ProofLog.log c.take_answer.new.log) c.args.weight.now
    c.take_answer.new.weight c.in_ok-answer.ensures.ran.lasts
    (puts_searched old mid c.in_ok-answer.ensures.steps) found ends)
    c.take_answer.ensures.found

pub returns-clause-put : goal.returns-clause-put
returns-clause-put g c =
    let old = g.L.ProofLog.log c.args.log.now in
    let mid = g.L.ProofLog.log c.solve.new.log in
    on_ok_weaker c.take_answer.result
    (λ put. record {
      goes_on = put.goes_on;
      puts = puts_on old mid (g.L.ProofLog.log c.take_answer.new.log) c.in_ok-answer.ensures.ran.lasts
          (puts_searched old mid c.in_ok-answer.ensures.steps) put.puts;
    })
    c.take_answer.ensures.put

pub returns-in_default-clause-leaves : goal.returns-in_default-clause-leaves
returns-in_default-clause-leaves g c = leaves_none (g.L.ProofLog.log c.args.log.now)

pub returns-in_err-answer-clause-leaves : goal.returns-in_err-answer-clause-leaves
returns-in_err-answer-clause-leaves g c =
    leaves_searches (g.L.ProofLog.log c.args.log.now) (g.L.ProofLog.log c.solve.new.log)
    c.solve.ensures.leaves

pub returns-clause-leaves : goal.returns-clause-leaves
returns-clause-leaves g c =
    let old = g.L.ProofLog.log c.args.log.now in
    let mid = g.L.ProofLog.log c.solve.new.log in
    leaves_on old mid (g.L.ProofLog.log c.take_answer.new.log) c.in_ok-answer.ensures.ran.lasts
    (puts_searched old mid c.in_ok-answer.ensures.steps) c.take_answer.ensures.leaves
