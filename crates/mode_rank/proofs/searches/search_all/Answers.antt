use Rattle.std.proofs.Common.{◌≡◌, ◌+◌, ◌++◌, ◌∷◌, [], Err, rules, arith, ap, length, refl}
use Rattle.ba_search.specs.declared.search.SearchError.TheVariants.{SinkFailed}
use Rattle.ba_steps.specs.Sinks.{Rose}
use Rattle.ba_steps.proofs.SinkLaws.{Outlasts-refl, Outlasts-trans, rose_later}
use Rattle.mode_rank.proofs.Listing.{all_listed, ends_there, first_listed, is_at, left_between, left_within, next_listed}
use Rattle.mode_rank.proofs.searches.search_all.Goals as goal

pub loop-entry-init : goal.loop-entry-init
loop-entry-init g c = λ x runs. (
  first_listed c.args.job.now x c.args.runs.now runs c.new-lists.result
      (g.D.StepSink.told c.args.steps.now) c.new-lists.ensures,
  Outlasts-refl (g.D.StepSink.told c.args.steps.now),
)

pub loop-entry-preserved : goal.loop-entry-preserved
loop-entry-preserved g c = λ x runs.
    let place = is_at c.args.runs.now.inputs c.as_slice-entry-items.result.now c.loop-entry.entry-index
    c.entry-item.result c.as_slice-entry-items.ensures c.loop-entry-test.true c.entry-item.is in
    let t = g.D.StepSink.told c.args.steps.now in
    let m = g.D.StepSink.told c.loop-entry.steps in
    let u = g.D.StepSink.told c.search_one.new.steps in
    let before = c.loop-entry.invariant x runs in
    let ends = c.in_ok-sets.ensures x runs in (
      next_listed c.args.job.now x c.args.runs.now runs c.loop-entry.entry-index c.entry-item.result place
          c.loop-entry.lists t m u before.0 c.in_ok-sets.field-0 c.in-Sets.sets c.push.new.self
          c.in-Sets.is ends.answer c.in_ok-push-in-Sets.ensures.ok,
      Outlasts-trans t m u before.1 ends.outlasts,
    )

pub returns-in_err-sets : goal.returns-in_err-sets
returns-in_err-sets g c = λ x runs.
    let place = is_at c.args.runs.now.inputs c.as_slice-entry-items.result.now c.loop-entry.entry-index
    c.entry-item.result c.as_slice-entry-items.ensures c.loop-entry-test.true c.entry-item.is in
    let t = g.D.StepSink.told c.args.steps.now in
    let m = g.D.StepSink.told c.loop-entry.steps in
    let u = g.D.StepSink.told c.search_one.new.steps in
    let before = c.loop-entry.invariant x runs in
    let ends = c.search_one.ensures x runs in
    let later : c.search_one.result ≡ Err SinkFailed → Rose t.faults u.faults =
    λ failed. rose_later t.faults m.faults u.faults before.1.no_fall (ends.cause failed) in
    record {
      answer = search rules;
      left = left_within c.args.job.now x c.args.runs.now runs c.loop-entry.entry-index c.entry-item.result
          place
          c.loop-entry.lists t m u before.0 ends.left;
      cause = search (rules, later);
      outlasts = Outlasts-trans t m u before.1 ends.outlasts;
    }

pub returns-in_err-push-in-Sets : goal.returns-in_err-push-in-Sets
returns-in_err-push-in-Sets g c = λ x runs.
    let place = is_at c.args.runs.now.inputs c.as_slice-entry-items.result.now c.loop-entry.entry-index
    c.entry-item.result c.as_slice-entry-items.ensures c.loop-entry-test.true c.entry-item.is in
    let t = g.D.StepSink.told c.args.steps.now in
    let m = g.D.StepSink.told c.loop-entry.steps in
    let u = g.D.StepSink.told c.search_one.new.steps in
    let before = c.loop-entry.invariant x runs in
    let ends = c.in_ok-sets.ensures x runs in
    let more = c.loop-entry.lists ++ c.in-Sets.sets ∷ [] in
    record {
      answer = search rules;
      left = left_between c.args.job.now x c.args.runs.now runs (c.loop-entry.entry-index + 1) more t u
          (next_listed c.args.job.now x c.args.runs.now runs c.loop-entry.entry-index c.entry-item.result
          place
          c.loop-entry.lists t m u before.0 c.in_ok-sets.field-0
          c.in-Sets.sets more c.in-Sets.is ends.answer refl);
      cause = first_of (search rules, cc);
      outlasts = Outlasts-trans t m u before.1 ends.outlasts;
    }

pub returns-in-Stopped : goal.returns-in-Stopped
returns-in-Stopped g c = λ x runs.
    let place = is_at c.args.runs.now.inputs c.as_slice-entry-items.result.now c.loop-entry.entry-index
    c.entry-item.result c.as_slice-entry-items.ensures c.loop-entry-test.true c.entry-item.is in
    let t = g.D.StepSink.told c.args.steps.now in
    let m = g.D.StepSink.told c.loop-entry.steps in
    let u = g.D.StepSink.told c.search_one.new.steps in
    let before = c.loop-entry.invariant x runs in
    let ends = c.in_ok-sets.ensures x runs in
    record {
      answer = ends_there c.args.job.now x c.args.runs.now runs c.loop-entry.entry-index c.entry-item.result
          place c.loop-entry.lists t m u before.0 c.in_ok-sets.field-0
          c.in-Stopped.answer c.in-Stopped.is ends.answer;
      left = left_within c.args.job.now x c.args.runs.now runs c.loop-entry.entry-index c.entry-item.result
          place
          c.loop-entry.lists t m u before.0 ends.left;
      cause = λ failed. absurd {A = Rose t.faults u.faults} (cc failed);
      outlasts = Outlasts-trans t m u before.1 ends.outlasts;
    }

pub returns : goal.returns
returns g c = λ x runs.
    let t = g.D.StepSink.told c.args.steps.now in
    let u = g.D.StepSink.told c.loop-entry.steps in
    let before = c.loop-entry.invariant x runs in
    record {
      answer = all_listed c.args.job.now x c.args.runs.now runs c.loop-entry.entry-index c.loop-entry.lists t
          u
          (omega (arith, ap length c.as_slice-entry-items.ensures, c.loop-entry-test.false)) before.0;
      left = left_between c.args.job.now x c.args.runs.now runs c.loop-entry.entry-index c.loop-entry.lists t
          u
          before.0;
      cause = λ failed. absurd {A = Rose t.faults u.faults} (cc failed);
      outlasts = before.1;
    }
