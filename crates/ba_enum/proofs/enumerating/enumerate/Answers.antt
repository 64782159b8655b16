use Rattle.std.proofs.Common.{inr, ◌≡◌, arith, sym, ap, subst, ◌∙◌}
use Rattle.std.proofs.lemmas.Result.{IfOk-weaker}
use Rattle.ba_checker.proofs.PutLaws.{lasts_then}
use Rattle.ba_cores.specs.Rounds.{literals_of}
use Rattle.ba_steps.proofs.SinkLaws.{rose_later}
use Rattle.ba_enum.specs.Turning.{ComesTo}
use Rattle.ba_enum.proofs.EndingLaws.{reached_found, finishes_of}
use Rattle.ba_enum.specs.Problems.{IsReadable}
use Rattle.ba_enum.proofs.LeadLaws.{puts_most}
use Rattle.ba_enum.proofs.TurnLaws.{adds_on, adds_reached, adds_leave}
use Rattle.ba_enum.proofs.enumerating.enumerate.Goals as goal

pub returns-in_err-next-clause-leaves : goal.returns-in_err-next-clause-leaves
returns-in_err-next-clause-leaves g c =
    adds_leave c.args.task.now.encoded.now (g.L.ProofLog.log c.args.log.now) (g.L.ProofLog.log c.turns.log)
    (g.L.ProofLog.log c.turn.new.log) c.turns.invariant.lasts.judge_stays c.turns.invariant.adds
    c.turn.ensures.leaves

pub turns-preserved : goal.turns-preserved
turns-preserved g c =
    let encoded = c.args.task.now.encoded.now in
    let old = g.L.ProofLog.log c.args.log.now in
    let mid = g.L.ProofLog.log c.turns.log in
    let new = g.L.ProofLog.log c.turn.new.log in
    let i = c.turns.invariant in
    let turn = c.in_ok-next.ensures in
    let comes = subst (ComesTo encoded new c.turn.new.found) c.in-Model.is turn.comes in
    let listed : new.checker.most_sets ≡ c.args.task.now.sets =
    puts_most encoded mid new turn.turned.adds.more turn.turned.adds.puts ∙ i.listed in
    let few = comes.1 in
    record {
      goes_on = turn.turned.goes_on;
      adds = adds_on encoded old mid new _ c.turns.found c.turn.new.found i.lasts.judge_stays i.adds
          turn.turned.adds;
      next = comes.0;
      assumed = i.assumed ∙ ap literals_of (sym turn.turned.softs_stay);
      listed = listed;
      few = omega (arith, few, listed);
      ready = turn.turned.ready;
      rules = c.turn.ensures.ran.rules_stay ∙ i.rules;
      propagated = omega (arith, c.turn.ensures.ran.propagated, i.propagated);
      lasts = lasts_then old mid new i.lasts c.turn.ensures.ran.lasts;
    }

pub finish-requires-clause-found : goal.finish-requires-clause-found
finish-requires-clause-found g c =
    let encoded = c.args.task.now.encoded.now in
    let old = g.L.ProofLog.log c.args.log.now in
    let mid = g.L.ProofLog.log c.turns.log in
    let new = g.L.ProofLog.log c.turn.new.log in
    let i = c.turns.invariant in
    reached_found encoded new c.turn.new.found
    (adds_reached (c.turn.ensures.ran.lasts.judge_stays ∙ i.lasts.judge_stays)
    (adds_on encoded old mid new _ c.turns.found c.turn.new.found i.lasts.judge_stays i.adds
    c.in_ok-next.ensures.turned.adds)
    c.requires.stands.reached)

pub finish-requires-clause-may_put : goal.finish-requires-clause-may_put
finish-requires-clause-may_put g c =
    let turned = c.in_ok-next.ensures.turned in
    record { ready = turned.ready; fresh = turned.goes_on.fresh }

pub returns-in-End-clause-finishes : goal.returns-in-End-clause-finishes
returns-in-End-clause-finishes g c =
    let encoded = c.args.task.now.encoded.now in
    let old = g.L.ProofLog.log c.args.log.now in
    let mid = g.L.ProofLog.log c.turns.log in
    let new = g.L.ProofLog.log c.turn.new.log in
    let i = c.turns.invariant in
    IfOk-weaker c.finish.result _ _
    (λ verdict ends. finishes_of encoded old new (g.L.ProofLog.log c.finish.new.log) c.turn.new.found verdict
    (c.turn.ensures.ran.lasts.judge_stays ∙ i.lasts.judge_stays)
    (adds_on encoded old mid new _ c.turns.found c.turn.new.found i.lasts.judge_stays i.adds
    c.in_ok-next.ensures.turned.adds)
    ends)
    c.finish.ensures.ends

pub returns-in-End-clause-leaves : goal.returns-in-End-clause-leaves
returns-in-End-clause-leaves g c =
    let encoded = c.args.task.now.encoded.now in
    let old = g.L.ProofLog.log c.args.log.now in
    let mid = g.L.ProofLog.log c.turns.log in
    let new = g.L.ProofLog.log c.turn.new.log in
    let i = c.turns.invariant in
    adds_leave encoded old new (g.L.ProofLog.log c.finish.new.log)
    (c.turn.ensures.ran.lasts.judge_stays ∙ i.lasts.judge_stays)
    (adds_on encoded old mid new _ c.turns.found c.turn.new.found i.lasts.judge_stays i.adds
    c.in_ok-next.ensures.turned.adds)
    c.finish.ensures.leaves

pub turn-requires-clause-readable : goal.turn-requires-clause-readable
turn-requires-clause-readable g c = subst (λ j. IsReadable c.args.task.now.encoded.now j)
    (sym c.turns.invariant.lasts.judge_stays) c.requires.readable

pub turn-requires-clause-next : goal.turn-requires-clause-next
turn-requires-clause-next g c = c.turns.invariant.next

pub turn-requires-clause-stands : goal.turn-requires-clause-stands
turn-requires-clause-stands g c =
    let i = c.turns.invariant in
    record {
      goes_on = i.goes_on;
      reached = adds_reached i.lasts.judge_stays i.adds c.requires.stands.reached;
      assumed = i.assumed;
      listed = i.listed;
      few = i.few;
      ready = i.ready;
    }

pub finish-requires-clause-end : goal.finish-requires-clause-end
finish-requires-clause-end g c =
    subst (ComesTo c.args.task.now.encoded.now (g.L.ProofLog.log c.turn.new.log) c.turn.new.found) c.in-End.is
    c.in_ok-next.ensures.comes

pub returns-in-End-clause-ran : goal.returns-in-End-clause-ran
returns-in-End-clause-ran g c =
    let old = g.L.ProofLog.log c.args.log.now in
    let new = g.L.ProofLog.log c.turn.new.log in
    let i = c.turns.invariant in
    let first = lasts_then old (g.L.ProofLog.log c.turns.log) new i.lasts c.turn.ensures.ran.lasts in
    record {
      lasts = lasts_then old new (g.L.ProofLog.log c.finish.new.log) first c.finish.ensures.ran.lasts;
      cause = λ failed. inr (rose_later _ _ _ first.no_fall (c.finish.ensures.ran.cause failed));
      rules_stay = c.turn.ensures.ran.rules_stay ∙ i.rules;
      propagated = omega (arith, c.turn.ensures.ran.propagated, i.propagated);
    }
