use Rattle.std.proofs.Common.{◌≡◌, ◌≤◌, None}
use Rattle.ba_checker.specs.Puts.{Lasts}
use Rattle.ba_search.specs.Searching.{Puts}
use Rattle.ba_search.specs.Iterations.{IsUnderway, iterations_left}
use Rattle.ba_search.proofs.engine.Engine.search.Given as goal

abbrev pub invariant-iterations : goal.invariant-iterations
invariant-iterations g l = record {
  underway : IsUnderway l.assumptions l.self.watch l.self.numbers (g.L.ProofLog.log l.log).checker;
  variables : (g.L.ProofLog.log l.log).checker.variables ≡ (g.L.ProofLog.log l.initial.log).checker.variables;
  puts : Puts (g.R.SearchRules.keeping l.rules) l.initial.self.numbers.learnt l.self.numbers.learnt
      (g.L.ProofLog.log l.initial.log) (g.L.ProofLog.log l.log);
  fresh : (g.L.ProofLog.log l.log).refusal ≡ None;
  propagated : l.initial.self.propagated ≤ l.self.propagated;
  lasts : Lasts (g.L.ProofLog.log l.initial.log) (g.L.ProofLog.log l.log);
}

abbrev pub decreases-iterations : goal.decreases-iterations
decreases-iterations g l = iterations_left (g.L.ProofLog.log l.log).checker l.self.backtracks_left
    l.self.watch
