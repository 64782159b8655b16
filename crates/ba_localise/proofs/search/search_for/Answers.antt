use Rattle.std.proofs.Common.{◌≡◌, ℕ, List, map, sym, ◌∙◌, ap, subst}
use Rattle.std.proofs.lemmas.Result.{IfOk-weaker}
use Rattle.ba_checker.specs.Facts.{AreSelectors}
use Rattle.ba_checker.specs.States.{State, clause_at, kept, first_state}
use Rattle.ba_checker.specs.declared.store.Origin.TheVariants.{Given}
use Rattle.ba_derivations.specs.Encodings.{IsFaithful}
use Rattle.ba_encode.specs.Softs.{softs_of}
use Rattle.ba_learn.specs.Live.{AreLive}
use Rattle.ba_lits.specs.Formulas.{Cnf}
use Rattle.ba_lits.specs.Satisfaction.{Soft}
use Rattle.ba_localise.proofs.Concluding.{finds, left}
use Rattle.ba_localise.specs.Verdicts.{leaves_formula}
use Rattle.ba_steps.specs.Sinks.{basis, with_told}
use Rattle.ba_steps.proofs.SinkLaws.{Outlasts-trans, rose_later}
use Rattle.ba_localise.proofs.search.search_for.Goals as goal

pub new-requires : goal.new-requires
new-requires g c =
    let encoded = c.args.encoded.now in
    let selectors = subst (λ (f : Cnf). AreSelectors f.variables c.as_slice.result.now) (sym
    c.formula.ensures)
    (subst (λ (ss : List Soft). AreSelectors encoded.formula.variables ss)
    (sym (c.as_slice.ensures.value ∙ c.in_ok-softs.ensures)) c.requires.selectors) in
    record { selectors = selectors }

pub all_sets_into-answer-requires-clause-started : goal.all_sets_into-answer-requires-clause-started
all_sets_into-answer-requires-clause-started g c =
    let encoded = c.args.encoded.now in
    let softs = softs_of encoded.groups in
    let starts : c.in_ok-checker.checker ≡ first_state encoded.formula softs c.args.conflicts c.args.sets =
    c.in_ok-checker.ensures
    ∙ (ap (λ (f : Cnf). first_state f c.as_slice.result.now c.args.conflicts c.args.sets) c.formula.ensures
    ∙ ap (λ (ss : List Soft). first_state encoded.formula ss c.args.conflicts c.args.sets)
    (c.as_slice.ensures.value ∙ c.in_ok-softs.ensures)) in
    record {
      working = c.in_ok-search.ensures.starts.fresh;
      same = subst (λ kepts. AreLive c.in_ok-search.search.clauses (clause_at kepts))
          (ap (λ (f : Cnf). map (kept Given) f.clauses) c.formula-2.ensures
          ∙ sym (ap (λ (s : State). s.clauses) starts)) c.in_ok-search.ensures.starts.clauses;
      starts = subst (λ (n : ℕ). c.in_ok-checker.checker ≡ first_state encoded.formula softs n c.args.sets)
          (sym (ap (λ (s : State). s.budget) starts)) starts;
    }

pub returns-clause-finds : goal.returns-clause-finds
returns-clause-finds g c = λ w faithful.
    let conflicts = c.args.conflicts in
    let most = c.args.sets in
    let encoded = c.args.encoded.now in
    let formula = encoded.formula in
    let softs = softs_of encoded.groups in
    let starts : c.in_ok-checker.checker ≡ first_state formula softs conflicts most =
    c.in_ok-checker.ensures
    ∙ (ap (λ (f : Cnf). first_state f c.as_slice.result.now conflicts most) c.formula.ensures
    ∙ ap (λ (ss : List Soft). first_state formula ss conflicts most)
    (c.as_slice.ensures.value ∙ c.in_ok-softs.ensures)) in
    let before = (g.D.StepSink.told c.args.steps.now).over in
    let begins : (g.D.StepSink.told c.begin.new.self).over ≡ with_told (basis formula softs) before =
    c.in_ok-begin.ensures.told
    ∙ (ap (λ (f : Cnf). with_told (basis f c.as_slice-2.result.now) before) c.formula-3.ensures
    ∙ ap (λ (ss : List Soft). with_told (basis formula ss) before)
    (c.as_slice-2.ensures.value ∙ c.in_ok-softs.ensures)) in
    let has = c.all_sets_into-answer.ensures in
    IfOk-weaker c.all_sets_into-answer.result.0 _ _
    (λ verdict enumerates. finds w (g.J.RunJudge.accepts c.args.judge) (basis formula softs)
    c.in_ok-checker.checker c.all_sets_into-answer.result.1 conflicts most
    (g.D.StepSink.told c.args.steps.now)
    (g.D.StepSink.told c.begin.new.self)
    (g.D.StepSink.told c.all_sets_into-answer.new.steps) verdict
    faithful starts begins c.in_ok-begin.ensures.logs_stay has.over_stays enumerates)
    has.verdict

pub returns-in_err-begin-clause-leaves : goal.returns-in_err-begin-clause-leaves
returns-in_err-begin-clause-leaves g c = λ w faithful.
    let good = g.J.RunJudge.accepts c.args.judge in
    let formula = c.args.encoded.now.formula in
    let f = c.formula-3.result.now in
    let ss = c.as_slice-2.result.now in
    let whole : IsFaithful formula ss w good =
    subst (λ (ss : List Soft). IsFaithful formula ss w good)
    (sym (c.as_slice-2.ensures.value ∙ c.in_ok-softs.ensures)) faithful in
    let same : IsFaithful f ss w good =
    subst (λ (f : Cnf). IsFaithful f ss w good) (sym c.formula-3.ensures) whole in
    leaves_formula (basis f ss) same c.in_err-begin.ensures.refused c.in_err-begin.ensures.logs_stay

pub returns-clause-leaves : goal.returns-clause-leaves
returns-clause-leaves g c = λ w faithful.
    let conflicts = c.args.conflicts in
    let most = c.args.sets in
    let encoded = c.args.encoded.now in
    let formula = encoded.formula in
    let softs = softs_of encoded.groups in
    let starts : c.in_ok-checker.checker ≡ first_state formula softs conflicts most =
    c.in_ok-checker.ensures
    ∙ (ap (λ (f : Cnf). first_state f c.as_slice.result.now conflicts most) c.formula.ensures
    ∙ ap (λ (ss : List Soft). first_state formula ss conflicts most)
    (c.as_slice.ensures.value ∙ c.in_ok-softs.ensures)) in
    let before = (g.D.StepSink.told c.args.steps.now).over in
    let begins : (g.D.StepSink.told c.begin.new.self).over ≡ with_told (basis formula softs) before =
    c.in_ok-begin.ensures.told
    ∙ (ap (λ (f : Cnf). with_told (basis f c.as_slice-2.result.now) before) c.formula-3.ensures
    ∙ ap (λ (ss : List Soft). with_told (basis formula ss) before)
    (c.as_slice-2.ensures.value ∙ c.in_ok-softs.ensures)) in
    let has = c.all_sets_into-answer.ensures in
    left w (g.J.RunJudge.accepts c.args.judge) (basis formula softs)
    c.in_ok-checker.checker c.all_sets_into-answer.result.1 conflicts most
    (g.D.StepSink.told c.args.steps.now)
    (g.D.StepSink.told c.begin.new.self)
    (g.D.StepSink.told c.all_sets_into-answer.new.steps)
    faithful starts begins c.in_ok-begin.ensures.logs_stay has.over_stays has.leaves

pub returns-clause-cause : goal.returns-clause-cause
returns-clause-cause g c = λ is.
    rose_later _ _ _ c.in_ok-begin.ensures.outlasts.no_fall (c.all_sets_into-answer.ensures.cause is)

pub returns-clause-outlasts : goal.returns-clause-outlasts
returns-clause-outlasts g c = Outlasts-trans (g.D.StepSink.told c.args.steps.now)
    (g.D.StepSink.told c.begin.new.self) (g.D.StepSink.told c.all_sets_into-answer.new.steps)
    c.in_ok-begin.ensures.outlasts c.all_sets_into-answer.ensures.outlasts
