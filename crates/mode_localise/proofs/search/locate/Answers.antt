use Rattle.std.proofs.Common.{rules, refl}
use Rattle.ba_judge.proofs.Judges.{same-judge}
use Rattle.ba_tree.specs.Least.{judge_of}
use Rattle.mode_localise.specs.Leaving.{at_once}
use Rattle.mode_localise.proofs.Searching.{concluded, readable, searched, stopped}
use Rattle.mode_localise.proofs.search.locate.Goals as goal

pub search_certified-requires-clause-clauses : goal.search_certified-requires-clause-clauses
search_certified-requires-clause-clauses g c =
    let made = c.in_ok-encoded.ensures.faithful in record {
      clauses = made.clauses;
      softs_among = made.selectors.among;
      softs_differ = made.selectors.differ;
    }

pub search_certified-requires-clause-selectors : goal.search_certified-requires-clause-selectors
search_certified-requires-clause-selectors g c = c.in_ok-encoded.ensures.faithful.selectors

pub search_certified-requires-clause-readable : goal.search_certified-requires-clause-readable
search_certified-requires-clause-readable g c =
    let j = c.args.job.now in
    let k = c.args.case.now in
    let judge = c.new-judge.result in
    let same = same-judge judge.program.now k.program judge.input.now k.input judge.bounds j.bounds
    c.new-judge.ensures.program c.new-judge.ensures.input c.new-judge.ensures.bounds in
    readable j c.args.texts.now k c.requires.search.case c.in_ok-encoded.encoded c.in_ok-encoded.ensures
    (judge_of judge.program.now judge.input.now judge.bounds) same

pub returns-in_err-encoded-clause-ends : goal.returns-in_err-encoded-clause-ends
returns-in_err-encoded-clause-ends g c = record {
  answer = search rules;
  left = at_once refl (refl, refl);
  cause = first_of (search rules, cc);
  outlasts = search rules;
}

pub returns-in_err-verdict-clause-ends : goal.returns-in_err-verdict-clause-ends
returns-in_err-verdict-clause-ends g c =
    let j = c.args.job.now in
    let x = c.args.texts.now in
    let k = c.args.case.now in
    let judge = c.new-judge.result in
    let same = same-judge judge.program.now k.program judge.input.now k.input judge.bounds j.bounds
    c.new-judge.ensures.program c.new-judge.ensures.input c.new-judge.ensures.bounds in
    let ends = searched j x k c.requires.search.case c.in_ok-encoded.encoded c.in_ok-encoded.ensures
    (judge_of judge.program.now judge.input.now judge.bounds) same c.head_by-head.result
    (g.W.World.outside c.args.world.now) (g.W.World.outside c.search_certified.new.world)
    (g.D.StepSink.told c.args.steps.now) (g.D.StepSink.told c.search_certified.new.steps)
    c.search_certified.result c.head_by-head.ensures c.search_certified.ensures.ends in
    record {
      answer = search rules;
      left = stopped j x k c.requires.search.case _ _ _ _ ends.left;
      cause = search (rules, ends.cause);
      outlasts = ends.outlasts;
    }

pub returns-in_err-verdict_answer-clause-ends : goal.returns-in_err-verdict_answer-clause-ends
returns-in_err-verdict_answer-clause-ends g c =
    let j = c.args.job.now in
    let x = c.args.texts.now in
    let k = c.args.case.now in
    let judge = c.new-judge.result in
    let same = same-judge judge.program.now k.program judge.input.now k.input judge.bounds j.bounds
    c.new-judge.ensures.program c.new-judge.ensures.input c.new-judge.ensures.bounds in
    let ends = searched j x k c.requires.search.case c.in_ok-encoded.encoded c.in_ok-encoded.ensures
    (judge_of judge.program.now judge.input.now judge.bounds) same c.head_by-head.result
    (g.W.World.outside c.args.world.now) (g.W.World.outside c.search_certified.new.world)
    (g.D.StepSink.told c.args.steps.now) (g.D.StepSink.told c.search_certified.new.steps)
    c.search_certified.result c.head_by-head.ensures c.search_certified.ensures.ends in
    record {
      answer = search rules;
      left = stopped j x k c.requires.search.case _ _ _ _ ends.left;
      cause = first_of (search rules, cc);
      outlasts = ends.outlasts;
    }

pub returns-clause-ends : goal.returns-clause-ends
returns-clause-ends g c =
    let j = c.args.job.now in
    let x = c.args.texts.now in
    let k = c.args.case.now in
    let judge = c.new-judge.result in
    let same = same-judge judge.program.now k.program judge.input.now k.input judge.bounds j.bounds
    c.new-judge.ensures.program c.new-judge.ensures.input c.new-judge.ensures.bounds in
    let ends = searched j x k c.requires.search.case c.in_ok-encoded.encoded c.in_ok-encoded.ensures
    (judge_of judge.program.now judge.input.now judge.bounds) same c.head_by-head.result
    (g.W.World.outside c.args.world.now) (g.W.World.outside c.search_certified.new.world)
    (g.D.StepSink.told c.args.steps.now) (g.D.StepSink.told c.search_certified.new.steps)
    _ c.head_by-head.ensures c.in_ok-verdict.ensures.ends in
    record {
      answer = concluded j x k c.requires.search.case c.as_slice-source.result.now _ _ _ _
          c.in_ok-verdict.verdict c.in_ok-verdict_answer.field-0 ends.answer c.as_slice-source.ensures
          c.in_ok-verdict_answer.ensures;
      left = stopped j x k c.requires.search.case _ _ _ _ ends.left;
      cause = λ failed. absurd (cc failed);
      outlasts = ends.outlasts;
    }
