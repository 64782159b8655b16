use Rattle.std.proofs.Common.{◌≡◌}
use Rattle.ba_watch.specs.Trails.{decided}
use Rattle.ba_checker.specs.States.{clause_at}
use Rattle.ba_search.specs.Engines.{LearnsNothing}
use Rattle.ba_search.specs.Iterations.{AreTaken, AreThere}
use Rattle.ba_search.proofs.engine.Engine.take_all.Given as goal

abbrev pub invariant-loop-place : goal.invariant-loop-place
invariant-loop-place l = record {
  level : decided l.self.watch.reasons ≡ 0;
  taken : AreTaken l.self.watch.clauses l.self.numbers.taken (clause_at l.checker.clauses);
  there : AreThere l.self.watch.clauses l.place (clause_at l.checker.clauses);
  variables : l.self.watch.variables ≡ l.initial.self.watch.variables;
  learns_nothing : LearnsNothing l.initial.self l.self;
}
