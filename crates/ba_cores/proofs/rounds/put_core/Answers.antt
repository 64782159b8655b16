use Rattle.std.proofs.Common.{arith, ap}
use Rattle.ba_checker.specs.States.{State}
use Rattle.ba_cores.proofs.CoreLaws.{core_formed, core_allowed, part_after_core}
use Rattle.ba_cores.proofs.DerivesLaws.{puts_core, put_taken, core_fewer, on_ok, leaves_put, leaves_core}
use Rattle.ba_cores.specs.Rounds.{literals_of}
use Rattle.ba_cores.proofs.rounds.put_core.Goals as goal

pub put-requires-clause-formed : goal.put-requires-clause-formed
put-requires-clause-formed g c =
    let s = (g.L.ProofLog.log c.args.log.now).checker in
    core_formed s (literals_of s.softs) c.args.core.lits c.args.core.hints c.args.core.back c.requires.core
    (omega (arith, c.keeps_facts.ensures.few, ap (λ (s : State). s.variables) c.checker.ensures))
    c.requires.some

pub put-requires-clause-allowed : goal.put-requires-clause-allowed
put-requires-clause-allowed g c = λ fresh awake.
    let log = g.L.ProofLog.log c.args.log.now in
    core_allowed log.accepts log.checker c.args.core.lits c.args.core.hints c.args.core.back c.requires.core
    c.requires.stands.ready

pub returns-in-Err-clause-leaves : goal.returns-in-Err-clause-leaves
returns-in-Err-clause-leaves g c =
    let old = g.L.ProofLog.log c.args.log.now in
    let core = c.args.core in
    leaves_core old (g.L.ProofLog.log c.put.new.self) core.lits core.hints
    (core_formed old.checker (literals_of old.checker.softs) core.lits core.hints core.back c.requires.core
    (omega (arith, c.keeps_facts.ensures.few, ap (λ (s : State). s.variables) c.checker.ensures))
    c.requires.some)
    (core_allowed old.accepts old.checker core.lits core.hints core.back c.requires.core
    c.requires.stands.ready)
    (c.in-Err.ensures.taken_or_asleep c.requires.stands.goes_on.fresh) c.in-Err.ensures.refused

pub take_new-requires : goal.take_new-requires
take_new-requires g c = record {
  part = λ working. part_after_core (g.L.ProofLog.log c.args.log.now).checker
      (g.L.ProofLog.log c.put.new.self).checker c.args.core.lits c.args.core.hints c.in_default.ensures.taken
      c.requires.stands.goes_on.same;
}

pub returns-clause-put : goal.returns-clause-put
returns-clause-put g c =
    let old = g.L.ProofLog.log c.args.log.now in
    let new = g.L.ProofLog.log c.put.new.self in
    let core = c.args.core in
    put_taken c.take_new.result c.take_new.new.self old new c.take_new.ensures.taken
    c.in_default.ensures.still_fresh
    (puts_core old new core.lits core.hints
    (core_formed old.checker (literals_of old.checker.softs) core.lits core.hints core.back c.requires.core
    (omega (arith, c.keeps_facts.ensures.few, ap (λ (s : State). s.variables) c.checker.ensures))
    c.requires.some)
    (core_allowed old.accepts old.checker core.lits core.hints core.back c.requires.core
    c.requires.stands.ready)
    c.in_default.ensures.taken c.in_default.ensures.told)

pub returns-clause-leaves : goal.returns-clause-leaves
returns-clause-leaves g c =
    let old = g.L.ProofLog.log c.args.log.now in
    let new = g.L.ProofLog.log c.put.new.self in
    let core = c.args.core in
    leaves_put old new
    (puts_core old new core.lits core.hints
    (core_formed old.checker (literals_of old.checker.softs) core.lits core.hints core.back c.requires.core
    (omega (arith, c.keeps_facts.ensures.few, ap (λ (s : State). s.variables) c.checker.ensures))
    c.requires.some)
    (core_allowed old.accepts old.checker core.lits core.hints core.back c.requires.core
    c.requires.stands.ready)
    c.in_default.ensures.taken c.in_default.ensures.told)

pub returns-clause-fewer : goal.returns-clause-fewer
returns-clause-fewer g c =
    on_ok c.take_new.result
    (core_fewer (g.L.ProofLog.log c.args.log.now).checker (g.L.ProofLog.log c.put.new.self).checker
    c.args.core.lits c.args.core.hints c.requires.core.left c.in_default.ensures.taken)
