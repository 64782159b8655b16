use Rattle.std.proofs.Common.{◌≡◌, sym, subst}
use Rattle.ba_choices.specs.Judges.{Judge}
use Rattle.ba_enum.specs.Problems.{IsReadable}
use Rattle.ba_judge.proofs.Judges.{same-judge}
use Rattle.ba_localise.specs.Starting.{IsEncodedBy}
use Rattle.ba_localise.specs.Verdicts.{Finds, LeavesDerivation}
use Rattle.ba_tree.specs.Least.{judge_of}
use Rattle.std.specs.Prelude.{IfOk}
use Rattle.ba_localise.proofs.search.localise.Goals as goal

pub search_for-requires-clause-clauses : goal.search_for-requires-clause-clauses
search_for-requires-clause-clauses g c =
    let made = c.in_ok-encoded.ensures.faithful in record {
      clauses = made.clauses;
      softs_among = made.selectors.among;
      softs_differ = made.selectors.differ;
    }

pub search_for-requires-clause-selectors : goal.search_for-requires-clause-selectors
search_for-requires-clause-selectors g c = c.in_ok-encoded.ensures.faithful.selectors

pub search_for-requires-clause-readable : goal.search_for-requires-clause-readable
search_for-requires-clause-readable g c =
    let p = c.args.program.now in
    let i = c.args.input.now in
    let b = c.args.bounds in
    let j = c.new-judge.result in
    let same : judge_of p i b ≡ judge_of j.program.now j.input.now j.bounds =
    same-judge p j.program.now i j.input.now b j.bounds
    (sym c.new-judge.ensures.program) (sym c.new-judge.ensures.input) (sym c.new-judge.ensures.bounds) in
    let made = c.in_ok-encoded.ensures in
    subst (IsReadable c.in_ok-encoded.encoded) same
    (record { some = made.some c.requires.failing; good_run = made.runs })

pub returns-clause-finds : goal.returns-clause-finds
returns-clause-finds g c =
    let p = c.args.program.now in
    let i = c.args.input.now in
    let b = c.args.bounds in
    let w = c.args.weights.now.of in
    let j = c.new-judge.result in
    let same : judge_of j.program.now j.input.now j.bounds ≡ judge_of p i b =
    same-judge j.program.now p j.input.now i j.bounds b
    c.new-judge.ensures.program c.new-judge.ensures.input c.new-judge.ensures.bounds in
    let faithful : IsEncodedBy w (judge_of j.program.now j.input.now j.bounds) c.in_ok-encoded.encoded =
    subst (λ (good : Judge). IsEncodedBy w good c.in_ok-encoded.encoded) (sym same)
    c.in_ok-encoded.ensures.faithful in
    subst (λ (good : Judge). IfOk c.search_for.result (Finds w good c.args.conflicts c.args.sets
    (g.D.StepSink.told c.args.steps.now) (g.D.StepSink.told c.search_for.new.steps))) same
    (c.search_for.ensures.finds w faithful)

pub returns-clause-leaves : goal.returns-clause-leaves
returns-clause-leaves g c =
    let p = c.args.program.now in
    let i = c.args.input.now in
    let b = c.args.bounds in
    let w = c.args.weights.now.of in
    let j = c.new-judge.result in
    let same : judge_of j.program.now j.input.now j.bounds ≡ judge_of p i b =
    same-judge j.program.now p j.input.now i j.bounds b
    c.new-judge.ensures.program c.new-judge.ensures.input c.new-judge.ensures.bounds in
    let faithful : IsEncodedBy w (judge_of j.program.now j.input.now j.bounds) c.in_ok-encoded.encoded =
    subst (λ (good : Judge). IsEncodedBy w good c.in_ok-encoded.encoded) (sym same)
    c.in_ok-encoded.ensures.faithful in
    subst (λ (good : Judge). LeavesDerivation w good c.args.conflicts c.args.sets
    (g.D.StepSink.told c.args.steps.now) (g.D.StepSink.told c.search_for.new.steps)) same
    (c.search_for.ensures.leaves w faithful)
