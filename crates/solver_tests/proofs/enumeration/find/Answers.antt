use Rattle.std.proofs.Common.{◌≡◌, List, IfOk, map, ap, sym, subst, ◌∙◌}
use Rattle.ba_encode.specs.Softs.{softs_of}
use Rattle.ba_learn.specs.Live.{AreLive}
use Rattle.ba_lits.specs.Formulas.{Cnf}
use Rattle.ba_lits.specs.Satisfaction.{Soft}
use Rattle.ba_checker.specs.States.{Kept, State, clause_at, first_state, kept}
use Rattle.ba_checker.specs.declared.store.Origin.TheVariants.{Given}
use Rattle.ba_search.specs.Searching.{Starts}
use Rattle.solver_tests.proofs.enumeration.find.Goals as goal

pub all_sets-requires-clause-fresh : goal.all_sets-requires-clause-fresh
all_sets-requires-clause-fresh g c = λ working.
    let encoded = c.without_places-encoded.result in
    let formula = encoded.formula in
    let softs = softs_of encoded.groups in
    let conflicts = c.args.conflicts in
    let sets = c.args.sets in
    let made : c.checker_of-checker.result ≡ first_state formula softs conflicts sets =
    c.checker_of-checker.ensures
    ∙ (ap (λ (f : Cnf). first_state f c.as_slice-2.result.now conflicts sets) c.formula.ensures
    ∙ ap (λ (ss : List Soft). first_state formula ss conflicts sets)
    (c.as_slice-2.ensures.value ∙ c.softs_in-softs.ensures)) in
    let begins : c.new-checked.result.checker ≡ first_state formula softs conflicts sets =
    ap (λ x. x.checker) c.new-checked.ensures ∙ made in
    let given : List Kept = map (kept Given) c.formula-2.result.now.clauses in
    let clauses : given ≡ c.new-checked.result.checker.clauses =
    ap (λ (f : Cnf). map (kept Given) f.clauses) c.formula-2.ensures
    ∙ sym (ap (λ (s : State). s.clauses) begins) in
    let live : AreLive c.expect-search.result.clauses (clause_at given) =
    (subst (λ made. IfOk made (Starts c.formula-2.result.now)) c.expect-search.ensures
    c.new.ensures.starts).clauses
    in
    record {
      same = subst (λ (cs : List Kept). AreLive c.expect-search.result.clauses (clause_at cs)) clauses live;
      starts = begins ∙ ap (λ n. first_state formula softs n sets) (sym (ap (λ (s : State). s.budget)
          begins));
      accepted = ap (λ x. x.refusal) c.new-checked.ensures;
    }
