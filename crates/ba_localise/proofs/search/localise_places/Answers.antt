use Rattle.std.proofs.Common.{sym, ◌∙◌, subst}
use Rattle.ba_enum.specs.Problems.{IsReadable}
use Rattle.ba_localise.proofs.PlaceVerdicts.{finds-places, leaves-places, same-judge}
use Rattle.ba_places.specs.Least.{place_judge_of}
use Rattle.ba_places.specs.Numbers.{judge_by}
use Rattle.ba_localise.proofs.search.localise_places.Goals as goal

pub search_for-requires-clause-clauses : goal.search_for-requires-clause-clauses
search_for-requires-clause-clauses g c =
    let is = c.in_ok-places.ensures.faithful in record {
      clauses = is.clauses;
      softs_among = is.selectors.among;
      softs_differ = is.selectors.differ;
    }

pub search_for-requires-clause-selectors : goal.search_for-requires-clause-selectors
search_for-requires-clause-selectors g c = c.in_ok-places.ensures.faithful.selectors

pub search_for-requires-clause-readable : goal.search_for-requires-clause-readable
search_for-requires-clause-readable g c =
    let made = c.in_ok-places.field-0 in
    let is = c.in_ok-places.ensures in
    let j = c.new-judge.result in
    let same = same-judge j.program.now c.args.program.now j.input.now c.args.input.now j.bounds c.args.bounds
    j.places.now made.places c.new-judge.ensures.program c.new-judge.ensures.input
    c.new-judge.ensures.bounds (c.new-judge.ensures.places ∙ c.as_slice.ensures) in
    subst (IsReadable made.encoded) (sym same) (record {
      some = is.some c.requires.failing;
      good_run = is.runs;
    })

pub returns-clause-finds : goal.returns-clause-finds
returns-clause-finds g c =
    let made = c.in_ok-places.field-0 in
    let is = c.in_ok-places.ensures in
    let w = c.args.weights.now.of in
    let good = place_judge_of c.args.program.now c.args.input.now c.args.bounds in
    let j = c.new-judge.result in
    let same = same-judge j.program.now c.args.program.now j.input.now c.args.input.now j.bounds c.args.bounds
    j.places.now made.places c.new-judge.ensures.program c.new-judge.ensures.input
    c.new-judge.ensures.bounds (c.new-judge.ensures.places ∙ c.as_slice.ensures) in
    let law = c.least_by_number.ensures in
    finds-places w good made.places is.suspects
    (judge_by (place_judge_of j.program.now j.input.now j.bounds) j.places.now) same made.encoded is.faithful
    c.args.conflicts c.args.sets (g.D.StepSink.told c.args.steps.now)
    (g.D.StepSink.told c.search_for.new.steps)
    (λ sets. law.all w good made.places sets is.suspects)
    (λ members most sets. law.too_many w good made.places members most sets is.suspects)
    c.in_ok-verdict.verdict c.in_ok-verdict.ensures.finds

pub returns-clause-leaves : goal.returns-clause-leaves
returns-clause-leaves g c =
    let made = c.in_ok-places.field-0 in
    let is = c.in_ok-places.ensures in
    let j = c.new-judge.result in
    let same = same-judge j.program.now c.args.program.now j.input.now c.args.input.now j.bounds c.args.bounds
    j.places.now made.places c.new-judge.ensures.program c.new-judge.ensures.input
    c.new-judge.ensures.bounds (c.new-judge.ensures.places ∙ c.as_slice.ensures) in
    leaves-places c.args.weights.now.of
    (place_judge_of c.args.program.now c.args.input.now c.args.bounds) made.places is.suspects
    (judge_by (place_judge_of j.program.now j.input.now j.bounds) j.places.now) same made.encoded is.faithful
    c.args.conflicts c.args.sets (g.D.StepSink.told c.args.steps.now)
    (g.D.StepSink.told c.search_for.new.steps) c.search_for.ensures.leaves

pub returns-in_err-verdict-clause-leaves : goal.returns-in_err-verdict-clause-leaves
returns-in_err-verdict-clause-leaves g c =
    let made = c.in_ok-places.field-0 in
    let is = c.in_ok-places.ensures in
    let j = c.new-judge.result in
    let same = same-judge j.program.now c.args.program.now j.input.now c.args.input.now j.bounds c.args.bounds
    j.places.now made.places c.new-judge.ensures.program c.new-judge.ensures.input
    c.new-judge.ensures.bounds (c.new-judge.ensures.places ∙ c.as_slice.ensures) in
    leaves-places c.args.weights.now.of
    (place_judge_of c.args.program.now c.args.input.now c.args.bounds) made.places is.suspects
    (judge_by (place_judge_of j.program.now j.input.now j.bounds) j.places.now) same made.encoded is.faithful
    c.args.conflicts c.args.sets (g.D.StepSink.told c.args.steps.now)
    (g.D.StepSink.told c.search_for.new.steps) c.search_for.ensures.leaves
