use Rattle.std.proofs.Common.{◌≡◌, ℕ, ◌<◌, false, [], get_or, map}
use Rattle.ba_watch.specs.Trails.{decided}
use Rattle.ba_checker.specs.States.{clause_at, kept}
use Rattle.ba_checker.specs.declared.store.Origin.TheVariants.{Given}
use Rattle.ba_search.specs.Iterations.{AreTaken, AreThere}
use Rattle.ba_search.proofs.search.Search.by_rules.Given as goal

abbrev pub invariant-loop-place : goal.invariant-loop-place
invariant-loop-place g l = record {
  level : decided l.engine.watch.reasons ≡ 0;
  variables : l.engine.watch.variables ≡ l.formula.variables;
  taken : AreTaken l.engine.watch.clauses l.engine.numbers.taken
      (clause_at (map (kept Given) l.formula.clauses));
  there : AreThere l.engine.watch.clauses l.place (clause_at (map (kept Given) l.formula.clauses));
  unmarked : (k : ℕ) → l.place < k → get_or l.engine.numbers.taken k false ≡ false;
  learnt : l.engine.numbers.learnt ≡ [];
  propagated : l.engine.propagated ≡ 0;
}
