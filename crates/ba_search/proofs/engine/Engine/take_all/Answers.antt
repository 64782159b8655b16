use Rattle.std.proofs.Common.{◌+◌, refl, ◌∙◌, arith}
use Rattle.ba_checker.specs.States.{clause_at}
use Rattle.ba_search.proofs.TakenLaws.{there_next, taken_live}
use Rattle.ba_search.proofs.engine.Engine.take_all.Goals as goal

pub loop-place-preserved : goal.loop-place-preserved
loop-place-preserved c =
    let i = c.loop-place.invariant in
    let t = c.in_ok-take_next.ensures in
    record {
      level = t.level;
      taken = t.taken;
      there = there_next c.take_next.new.self.watch.clauses c.loop-place.place (c.loop-place.place + 1)
          (clause_at c.args.checker.now.clauses) refl
          (λ k within given is. t.stays k (i.there k within given is))
          (λ given is. t.there given is);
      variables = t.variables ∙ i.variables;
      learns_nothing = record {
        learnt = t.learns_nothing.learnt ∙ i.learns_nothing.learnt;
        backtracks = t.learns_nothing.backtracks ∙ i.learns_nothing.backtracks;
        propagated = t.learns_nothing.propagated ∙ i.learns_nothing.propagated;
      };
    }

pub returns-clause-live : goal.returns-clause-live
returns-clause-live c =
    taken_live c.loop-place.self.watch.clauses c.loop-place.self.numbers.taken c.args.checker.now.clauses
    c.loop-place.place c.loop-place.invariant.taken c.loop-place.invariant.there
    (omega (arith, c.loop-place-test.false, c.last-place-end.ensures))
