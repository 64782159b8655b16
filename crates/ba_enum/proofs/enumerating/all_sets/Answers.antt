use Rattle.std.proofs.Common.{rules, arith, ◌≡◌, inr, None, Some, [], ap, sym, subst, ◌∙◌}
use Rattle.std.proofs.lemmas.Result.{IfOk-weaker}
use Rattle.ba_encode.specs.declared.encoded.Encoded.{Encoded}
use Rattle.ba_steps.proofs.SinkLaws.{rose_later}
use Rattle.ba_enum.specs.Enumerating.{Finishes}
use Rattle.ba_enum.specs.Leading.{HasReached, IsNextModel}
use Rattle.ba_enum.specs.Problems.{IsReadable}
use Rattle.ba_enum.proofs.EndingLaws.{none_found, fresh_sets, fresh_start, enumerates_on, enumerates_end, was_working, least_reached, least_next}
use Rattle.ba_checker.specs.States.{State}
use Rattle.ba_checker.proofs.PutLaws.{lasts_then}
use Rattle.ba_enum.proofs.TurnLaws.{cause_later}
use Rattle.ba_enum.proofs.LeadLaws.{puts_most, leaves_on}
use Rattle.ba_enum.proofs.SearchLaws.{puts_derived, leaves_derived}
use Rattle.ba_enum.proofs.enumerating.all_sets.Goals as goal

pub returns-in_err-hints-clause-leaves : goal.returns-in_err-hints-clause-leaves
returns-in_err-hints-clause-leaves g c = λ working.
    leaves_derived (g.L.ProofLog.log c.args.log.now) (g.L.ProofLog.log c.least.new.log)
    c.least.ensures.leaves

pub finish-requires-clause-found : goal.finish-requires-clause-found
finish-requires-clause-found g c =
    none_found (g.L.ProofLog.log c.least.new.log) c.new.result c.in_ok-hints.ensures.ready.none_blocked
    c.new.ensures

pub finish-requires-in-Spent-clause-found : goal.finish-requires-in-Spent-clause-found
finish-requires-in-Spent-clause-found g c =
    none_found (g.L.ProofLog.log c.least.new.log) c.new-in-Spent.result
    c.in_ok-hints.ensures.ready.none_blocked c.new-in-Spent.ensures

pub returns-in-NoModel-clause-verdict : goal.returns-in-NoModel-clause-verdict
returns-in-NoModel-clause-verdict g c =
    let old = g.L.ProofLog.log c.args.log.now in
    let mid = g.L.ProofLog.log c.least.new.log in
    let encoded = c.args.encoded.now in
    let working = was_working c.args.search.now.failure c.least.result c.in_ok-hints.field-0
    c.in_ok-hints.was (λ e is. (c.least.ensures.again e is).0) in
    let puts = puts_derived encoded old mid c.in_ok-hints.ensures.put.puts in
    IfOk-weaker c.finish.result _ _
    (λ verdict ends. enumerates_end encoded old mid (g.L.ProofLog.log c.finish.new.log) c.new.result verdict
    c.requires.clauses c.least.ensures.ran.lasts.judge_stays
    (fresh_start (c.requires.fresh working) old.accepts) puts c.new.ensures ends)
    c.finish.ensures.ends

pub returns-in-NoModel-clause-leaves : goal.returns-in-NoModel-clause-leaves
returns-in-NoModel-clause-leaves g c = λ working.
    let old = g.L.ProofLog.log c.args.log.now in
    let mid = g.L.ProofLog.log c.least.new.log in
    let encoded = c.args.encoded.now in
    let puts = puts_derived encoded old mid c.in_ok-hints.ensures.put.puts in
    leaves_on encoded old mid (g.L.ProofLog.log c.finish.new.log) _
    c.least.ensures.ran.lasts.judge_stays puts c.finish.ensures.leaves

pub returns-in-Spent-clause-verdict : goal.returns-in-Spent-clause-verdict
returns-in-Spent-clause-verdict g c =
    let old = g.L.ProofLog.log c.args.log.now in
    let mid = g.L.ProofLog.log c.least.new.log in
    let encoded = c.args.encoded.now in
    let working = was_working c.args.search.now.failure c.least.result c.in_ok-hints.field-0
    c.in_ok-hints.was (λ e is. (c.least.ensures.again e is).0) in
    let puts = puts_derived encoded old mid c.in_ok-hints.ensures.put.puts in
    IfOk-weaker c.finish-in-Spent.result _ _
    (λ verdict ends. enumerates_end encoded old mid (g.L.ProofLog.log c.finish-in-Spent.new.log)
    c.new-in-Spent.result verdict c.requires.clauses c.least.ensures.ran.lasts.judge_stays
    (fresh_start (c.requires.fresh working) old.accepts) puts c.new-in-Spent.ensures ends)
    c.finish-in-Spent.ensures.ends

pub returns-in-Spent-clause-leaves : goal.returns-in-Spent-clause-leaves
returns-in-Spent-clause-leaves g c = λ working.
    let old = g.L.ProofLog.log c.args.log.now in
    let mid = g.L.ProofLog.log c.least.new.log in
    let encoded = c.args.encoded.now in
    let puts = puts_derived encoded old mid c.in_ok-hints.ensures.put.puts in
    leaves_on encoded old mid (g.L.ProofLog.log c.finish-in-Spent.new.log) _
    c.least.ensures.ran.lasts.judge_stays puts c.finish-in-Spent.ensures.leaves

pub returns-in_err-task-in-Least-clause-leaves : goal.returns-in_err-task-in-Least-clause-leaves
returns-in_err-task-in-Least-clause-leaves g c = λ working.
    leaves_derived (g.L.ProofLog.log c.args.log.now) (g.L.ProofLog.log c.least.new.log)
    c.least.ensures.leaves

pub enumerate-requires-clause-next : goal.enumerate-requires-clause-next
enumerate-requires-clause-next g c =
    let old = g.L.ProofLog.log c.args.log.now in
    let mid = g.L.ProofLog.log c.least.new.log in
    let encoded = c.args.encoded.now in
    let working = was_working c.args.search.now.failure c.least.result c.in_ok-hints.field-0
    c.in_ok-hints.was (λ e is. (c.least.ensures.again e is).0) in
    subst (λ (e : Encoded). IsNextModel e mid c.in-Least.model.values)
    (sym c.in_ok-task-in-Least.ensures.encoded)
    (least_next encoded old mid c.in_ok-hints.field-0 c.in-Least.weight c.in-Least.model
    c.requires.clauses (fresh_start (c.requires.fresh working) old.accepts) c.in-Least.is
    c.in_ok-hints.ensures.found c.in_ok-hints.ensures.ready.none_blocked)

pub returns-in_ok-task-in-Least-clause-verdict : goal.returns-in_ok-task-in-Least-clause-verdict
returns-in_ok-task-in-Least-clause-verdict g c =
    let old = g.L.ProofLog.log c.args.log.now in
    let mid = g.L.ProofLog.log c.least.new.log in
    let last = g.L.ProofLog.log c.enumerate.new.log in
    let encoded = c.args.encoded.now in
    let working = was_working c.args.search.now.failure c.least.result c.in_ok-hints.field-0
    c.in_ok-hints.was (λ e is. (c.least.ensures.again e is).0) in
    let puts = puts_derived encoded old mid c.in_ok-hints.ensures.put.puts in
    IfOk-weaker c.enumerate.result _ _
    (λ verdict finishes. enumerates_on encoded old mid last verdict
    c.requires.clauses c.least.ensures.ran.lasts.judge_stays
    (fresh_start (c.requires.fresh working) old.accepts) puts
    (subst (λ (e : Encoded). Finishes e mid last verdict)
    c.in_ok-task-in-Least.ensures.encoded finishes))
    c.enumerate.ensures.finishes

pub returns-in_ok-task-in-Least-clause-leaves : goal.returns-in_ok-task-in-Least-clause-leaves
returns-in_ok-task-in-Least-clause-leaves g c = λ working.
    let old = g.L.ProofLog.log c.args.log.now in
    let mid = g.L.ProofLog.log c.least.new.log in
    let encoded = c.args.encoded.now in
    let puts = puts_derived encoded old mid c.in_ok-hints.ensures.put.puts in
    leaves_on encoded old mid (g.L.ProofLog.log c.enumerate.new.log) _
    c.least.ensures.ran.lasts.judge_stays puts c.enumerate.ensures.leaves

pub least-requires-clause-starts : goal.least-requires-clause-starts
least-requires-clause-starts g c = λ working.
    let fresh = c.requires.fresh working in
    record {
      same = fresh.same;
      fresh = fresh.accepted;
      ready = record {
        begun = ap (λ (s : State). s.ended) fresh.starts;
        awake = ap (λ (s : State). s.refused) fresh.starts;
        none_blocked = ap (λ (s : State). s.sets) fresh.starts;
      };
    }

pub enumerate-requires-clause-readable : goal.enumerate-requires-clause-readable
enumerate-requires-clause-readable g c =
    subst (λ (e : Encoded). IsReadable e (g.L.ProofLog.log c.least.new.log).accepts)
    (sym c.in_ok-task-in-Least.ensures.encoded)
    (subst (λ j. IsReadable c.args.encoded.now j)
    (sym c.least.ensures.ran.lasts.judge_stays) c.requires.readable)

pub enumerate-requires-clause-stands : goal.enumerate-requires-clause-stands
enumerate-requires-clause-stands g c =
    let old = g.L.ProofLog.log c.args.log.now in
    let mid = g.L.ProofLog.log c.least.new.log in
    let encoded = c.args.encoded.now in
    let working = was_working c.args.search.now.failure c.least.result c.in_ok-hints.field-0
    c.in_ok-hints.was (λ e is. (c.least.ensures.again e is).0) in
    let fresh = c.requires.fresh working in
    let puts = puts_derived encoded old mid c.in_ok-hints.ensures.put.puts in
    let ready = c.in_ok-hints.ensures.ready in
    record {
      goes_on = c.in_ok-hints.ensures.put.goes_on;
      reached = subst (λ (e : Encoded). HasReached e mid []) (sym c.in_ok-task-in-Least.ensures.encoded)
          (least_reached encoded old mid c.least.ensures.ran.lasts.judge_stays c.requires.clauses
          (fresh_start fresh old.accepts) puts);
      assumed = search rules;
      listed = puts_most encoded old mid _ puts ∙ (fresh_sets fresh ∙ sym c.in_ok-task-in-Least.ensures.sets);
      few = omega arith;
      ready = record { begun = ready.begun; awake = ready.awake };
    }

pub finish-requires-clause-may_put : goal.finish-requires-clause-may_put
finish-requires-clause-may_put g c =
    let ready = c.in_ok-hints.ensures.ready in
    record {
      ready = record { begun = ready.begun; awake = ready.awake };
      fresh = c.in_ok-hints.ensures.put.goes_on.fresh;
    }

pub finish-requires-in-Spent-clause-may_put : goal.finish-requires-in-Spent-clause-may_put
finish-requires-in-Spent-clause-may_put g c =
    let ready = c.in_ok-hints.ensures.ready in
    record {
      ready = record { begun = ready.begun; awake = ready.awake };
      fresh = c.in_ok-hints.ensures.put.goes_on.fresh;
    }

pub returns-in-NoModel-clause-ran : goal.returns-in-NoModel-clause-ran
returns-in-NoModel-clause-ran g c =
    record {
      lasts = lasts_then (g.L.ProofLog.log c.args.log.now) (g.L.ProofLog.log c.least.new.log)
          (g.L.ProofLog.log c.finish.new.log) c.least.ensures.ran.lasts c.finish.ensures.ran.lasts;
      cause = λ failed. inr (rose_later _ _ _ c.least.ensures.ran.lasts.no_fall
          (c.finish.ensures.ran.cause failed));
      rules_stay = c.least.ensures.ran.rules_stay;
      propagated = c.least.ensures.ran.propagated;
    }

pub returns-in-Spent-clause-ran : goal.returns-in-Spent-clause-ran
returns-in-Spent-clause-ran g c =
    record {
      lasts = lasts_then (g.L.ProofLog.log c.args.log.now) (g.L.ProofLog.log c.least.new.log)
          (g.L.ProofLog.log c.finish-in-Spent.new.log) c.least.ensures.ran.lasts
          c.finish-in-Spent.ensures.ran.lasts;
      cause = λ failed. inr (rose_later _ _ _ c.least.ensures.ran.lasts.no_fall
          (c.finish-in-Spent.ensures.ran.cause failed));
      rules_stay = c.least.ensures.ran.rules_stay;
      propagated = c.least.ensures.ran.propagated;
    }

pub returns-in_ok-task-in-Least-clause-ran : goal.returns-in_ok-task-in-Least-clause-ran
returns-in_ok-task-in-Least-clause-ran g c =
    record {
      lasts = lasts_then (g.L.ProofLog.log c.args.log.now) (g.L.ProofLog.log c.least.new.log)
          (g.L.ProofLog.log c.enumerate.new.log) c.least.ensures.ran.lasts c.enumerate.ensures.ran.lasts;
      cause = λ failed. cause_later _ _ _ _ c.in_ok-hints.ensures.put.goes_on.working
          c.least.ensures.ran.lasts.no_fall (c.enumerate.ensures.ran.cause failed);
      rules_stay = c.enumerate.ensures.ran.rules_stay ∙ c.least.ensures.ran.rules_stay;
      propagated = omega (arith, c.enumerate.ensures.ran.propagated, c.least.ensures.ran.propagated);
    }

pub returns-in-NoModel-clause-again : goal.returns-in-NoModel-clause-again
returns-in-NoModel-clause-again g c = λ error failed.
    let working = was_working c.args.search.now.failure c.least.result c.in_ok-hints.field-0
    c.in_ok-hints.was (λ e is. (c.least.ensures.again e is).0) in
    let both : None ≡ Some error = sym working ∙ failed in
    absurd (cc)

pub returns-in-Spent-clause-again : goal.returns-in-Spent-clause-again
returns-in-Spent-clause-again g c = λ error failed.
    let working = was_working c.args.search.now.failure c.least.result c.in_ok-hints.field-0
    c.in_ok-hints.was (λ e is. (c.least.ensures.again e is).0) in
    let both : None ≡ Some error = sym working ∙ failed in
    absurd (cc)

pub returns-in_err-task-in-Least-clause-again : goal.returns-in_err-task-in-Least-clause-again
returns-in_err-task-in-Least-clause-again g c = λ error failed.
    let working = was_working c.args.search.now.failure c.least.result c.in_ok-hints.field-0
    c.in_ok-hints.was (λ e is. (c.least.ensures.again e is).0) in
    let both : None ≡ Some error = sym working ∙ failed in
    absurd (cc)

pub returns-in_ok-task-in-Least-clause-again : goal.returns-in_ok-task-in-Least-clause-again
returns-in_ok-task-in-Least-clause-again g c = λ error failed.
    let working = was_working c.args.search.now.failure c.least.result c.in_ok-hints.field-0
    c.in_ok-hints.was (λ e is. (c.least.ensures.again e is).0) in
    let both : None ≡ Some error = sym working ∙ failed in
    absurd (cc)
