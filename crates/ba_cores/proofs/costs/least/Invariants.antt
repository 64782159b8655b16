use Rattle.std.proofs.Common.{◌≡◌, ◌+◌, ◌-◌, ◌≤◌}
use Rattle.ba_checker.specs.Puts.{Lasts}
use Rattle.ba_cores.specs.Rounds.{Puts, Stands}
use Rattle.ba_cores.proofs.costs.least.Given as goal

abbrev pub invariant-rounds : goal.invariant-rounds
invariant-rounds g l =
    let first = g.L.ProofLog.log l.initial.log in
    let log = g.L.ProofLog.log l.log in
    record {
      stands : Stands l.search log;
      puts : Puts first log;
      rules : l.search.rules ≡ l.initial.search.rules;
      propagated : l.initial.search.propagated ≤ l.search.propagated;
      lasts : Lasts first log;
    }

abbrev pub decreases-rounds : goal.decreases-rounds
decreases-rounds g l =
    let s = (g.L.ProofLog.log l.log).checker in (s.budget - s.conflicts) + l.weight
