use Rattle.std.proofs.Common.{arith, rules, refl, ◌∙◌}
use Rattle.ba_checker.proofs.PutLaws.{lasts_same, lasts_then}
use Rattle.ba_cores.proofs.DerivesLaws.{puts_none, puts_on, puts_ready, found_on, found_some, leaves_none, leaves_on}
use Rattle.ba_cores.proofs.costs.least.Goals as goal

pub rounds-init : goal.rounds-init
rounds-init g c =
    let starts = c.requires.starts c.in_ok-take_new.ensures.keeps.fresh in
    record {
      stands = record {
        goes_on = record {
          working = search rules;
          fresh = starts.fresh;
          same = search rules;
        };
        ready = starts.ready;
      };
      puts = puts_none (g.L.ProofLog.log c.args.log.now);
      rules = refl;
      propagated = omega (arith, c.take_new.ensures.stays.propagated);
      lasts = lasts_same (g.L.ProofLog.log c.args.log.now);
    }

pub returns-in-Some-clause-found : goal.returns-in-Some-clause-found
returns-in-Some-clause-found g c =
    let old = g.L.ProofLog.log c.args.log.now in
    let mid = g.L.ProofLog.log c.rounds.log in
    let new = g.L.ProofLog.log c.round.new.log in
    found_on old mid new c.rounds.invariant.lasts c.rounds.invariant.puts c.in-Some.found
    (found_some mid new c.rounds.weight c.round.new.weight c.in_ok-found.field-0 c.in-Some.found c.in-Some.is
    c.in_ok-found.ensures.found)

pub returns-in-Some-clause-put : goal.returns-in-Some-clause-put
returns-in-Some-clause-put g c =
    let put = c.in_ok-found.ensures.put in
    record {
      goes_on = put.goes_on;
      puts = puts_on (g.L.ProofLog.log c.args.log.now) (g.L.ProofLog.log c.rounds.log)
          (g.L.ProofLog.log c.round.new.log) c.rounds.invariant.lasts c.rounds.invariant.puts put.puts;
    }

pub returns-in-Some-clause-ready : goal.returns-in-Some-clause-ready
returns-in-Some-clause-ready g c =
    puts_ready (g.L.ProofLog.log c.rounds.log) (g.L.ProofLog.log c.round.new.log)
    c.in_ok-found.ensures.put.puts
    c.rounds.invariant.stands.ready

pub rounds-preserved : goal.rounds-preserved
rounds-preserved g c =
    let old = g.L.ProofLog.log c.args.log.now in
    let mid = g.L.ProofLog.log c.rounds.log in
    let new = g.L.ProofLog.log c.round.new.log in
    let i = c.rounds.invariant in
    let put = c.in_ok-found.ensures.put in
    record {
      stands = record { goes_on = put.goes_on; ready = puts_ready mid new put.puts i.stands.ready };
      puts = puts_on old mid new i.lasts i.puts put.puts;
      rules = c.round.ensures.ran.rules_stay ∙ i.rules;
      propagated = omega (arith, c.round.ensures.ran.propagated, i.propagated);
      lasts = lasts_then old mid new i.lasts c.round.ensures.ran.lasts;
    }

pub returns-in_err-take_new-clause-leaves : goal.returns-in_err-take_new-clause-leaves
returns-in_err-take_new-clause-leaves g c = leaves_none (g.L.ProofLog.log c.args.log.now)

pub returns-in_err-found-clause-leaves : goal.returns-in_err-found-clause-leaves
returns-in_err-found-clause-leaves g c =
    leaves_on (g.L.ProofLog.log c.args.log.now) (g.L.ProofLog.log c.rounds.log) (g.L.ProofLog.log
    c.round.new.log)
    c.rounds.invariant.lasts c.rounds.invariant.puts c.round.ensures.leaves

pub returns-in-Some-clause-leaves : goal.returns-in-Some-clause-leaves
returns-in-Some-clause-leaves g c =
    leaves_on (g.L.ProofLog.log c.args.log.now) (g.L.ProofLog.log c.rounds.log) (g.L.ProofLog.log
    c.round.new.log)
    c.rounds.invariant.lasts c.rounds.invariant.puts c.round.ensures.leaves

pub round-requires-clause-stands : goal.round-requires-clause-stands
round-requires-clause-stands g c = c.rounds.invariant.stands
