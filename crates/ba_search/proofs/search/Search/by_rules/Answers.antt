use Rattle.std.proofs.Common.{rules, map, refl, ap, ◌∙◌, ◌+◌, arith}
use Rattle.ba_watch.specs.Trails.{decided}
use Rattle.ba_checker.specs.States.{clause_at, kept}
use Rattle.ba_checker.specs.declared.store.Origin.TheVariants.{Given}
use Rattle.ba_search.proofs.TakenLaws.{taken_more, there_more, marks_later}
use Rattle.ba_search.proofs.StepLaws.{given_next, given_live}
use Rattle.ba_search.proofs.search.Search.by_rules.Goals as goal

pub loop-place-preserved : goal.loop-place-preserved
loop-place-preserved g c =
    let adds = c.in_ok-add.ensures.adds in
    let i = c.loop-place.invariant in
    record {
      level = ap decided adds.adds.reasons ∙ i.level;
      variables = adds.adds.variables ∙ i.variables;
      taken = taken_more c.loop-place.engine.watch c.add.new.self.watch c.loop-place.engine.numbers
          c.add.new.self.numbers (c.loop-place.place + 1) c.clause.result.now
          (clause_at (map (kept Given) c.args.formula.now.clauses)) adds
          (i.unmarked (c.loop-place.place + 1) (omega arith)) i.taken
          (given_next c.args.formula.now.clauses c.loop-place.place c.loop-place.place c.clause.result.now
          refl
          (omega (arith, c.loop-place-test.true, c.len-place-end.ensures)) c.clause.ensures.clause);
      there = there_more c.loop-place.engine.watch c.add.new.self.watch c.loop-place.engine.numbers
          c.add.new.self.numbers c.loop-place.place (c.loop-place.place + 1) c.clause.result.now
          (clause_at (map (kept Given) c.args.formula.now.clauses)) adds refl i.there;
      unmarked = λ k past. marks_later c.loop-place.engine.numbers.taken c.add.new.self.numbers.taken
          c.loop-place.place k adds.marks i.unmarked past;
      learnt = adds.learnt ∙ i.learnt;
      propagated = c.add.ensures.learns_nothing.propagated ∙ i.propagated;
    }

pub returns-clause-starts : goal.returns-clause-starts
returns-clause-starts g c = record {
  clauses = given_live c.loop-place.engine.watch.clauses c.loop-place.engine.numbers.taken c.loop-place.place
      c.args.formula.now.clauses c.loop-place.invariant.taken c.loop-place.invariant.there
      (omega (arith, c.loop-place-test.false, c.len-place-end.ensures));
  variables = search rules;
  alone = search rules;
  learnt = search rules;
  fresh = search rules;
  propagated = search rules;
}
