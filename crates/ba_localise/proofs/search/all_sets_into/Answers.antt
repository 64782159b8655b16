use Rattle.std.proofs.Common.{◌≡◌, rules, arith, inl, inr, ap, sym, subst, ◌∙◌}
use Rattle.ba_checker.specs.States.{State, clause_at, first_state}
use Rattle.ba_encode.specs.Softs.{softs_of}
use Rattle.ba_enum.specs.Problems.{IsReadable}
use Rattle.ba_learn.specs.Live.{AreLive}
use Rattle.ba_localise.proofs.Concluding.{leaves-same, rose-same}
use Rattle.ba_localise.proofs.search.all_sets_into.Goals as goal

pub returns-clause-cause : goal.returns-clause-cause
returns-clause-cause g c = λ is. elim (c.all_sets-answer.ensures.ran.cause is) [
  | inl failed ↦ absurd (cc (sym c.requires.started.working ∙ failed))
  | inr rose ↦
      let start = ap (λ x. x.told.faults) c.new-checked.ensures in
      rose-same _ _ _ _ start (first_of (search rules, cc, grind arith)) rose
]

pub returns-clause-leaves : goal.returns-clause-leaves
returns-clause-leaves g c =
    leaves-same _ _ _ _ _ _ _ _ _ _ (ap (λ x. g.J.RunJudge.accepts x.judge) c.new-checked.ensures)
    (ap (λ x. x.checker) c.new-checked.ensures)
    (ap (λ x. x.told.logs) c.new-checked.ensures) (sym c.finish-checker.ensures.checker)
    (first_of (search rules, cc, grind arith)) (c.all_sets-answer.ensures.leaves c.requires.started.working)

pub all_sets-answer-requires-clause-clauses : goal.all_sets-answer-requires-clause-clauses
all_sets-answer-requires-clause-clauses g c = c.requires.clauses

pub all_sets-answer-requires-clause-readable : goal.all_sets-answer-requires-clause-readable
all_sets-answer-requires-clause-readable g c =
    subst (IsReadable c.args.encoded.now)
    (sym (ap (λ x. g.J.RunJudge.accepts x.judge) c.new-checked.ensures)) c.requires.readable

pub all_sets-answer-requires-clause-fresh : goal.all_sets-answer-requires-clause-fresh
all_sets-answer-requires-clause-fresh g c = λ working.
    let encoded = c.args.encoded.now in
    let same = ap (λ x. x.checker) c.new-checked.ensures in
    record {
      same = subst (λ (s : State). AreLive c.args.search.now.clauses (clause_at s.clauses)) (sym same)
          c.requires.started.same;
      starts = subst (λ (s : State). s ≡ first_state encoded.formula (softs_of encoded.groups) s.budget
          c.args.sets) (sym same) c.requires.started.starts;
      accepted = ap (λ x. x.refusal) c.new-checked.ensures;
    }
