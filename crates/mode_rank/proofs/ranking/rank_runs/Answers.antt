use Rattle.std.proofs.Common.{rules, subst}
use Rattle.ba_rank.specs.Ranking.{IsRanking}
use Rattle.mode_rank.proofs.Listing.{concludes_there, left_searching, ranks}
use Rattle.mode_rank.proofs.ranking.rank_runs.Goals as goal

pub returns-in_err-lists : goal.returns-in_err-lists
returns-in_err-lists g c =
    let ends = c.search_all.ensures c.args.texts.now c.requires.case in
    record {
      answer = search rules;
      left = left_searching c.args.job.now c.args.texts.now c.args.runs.now c.requires.case
          (g.D.StepSink.told c.args.steps.now) (g.D.StepSink.told c.search_all.new.steps) ends.left;
      cause = search (rules, ends.cause);
      outlasts = ends.outlasts;
    }

pub returns-in_err-ranked_answer-in-Lists : goal.returns-in_err-ranked_answer-in-Lists
returns-in_err-ranked_answer-in-Lists g c =
    let ends = c.search_all.ensures c.args.texts.now c.requires.case in
    record {
      answer = search rules;
      left = left_searching c.args.job.now c.args.texts.now c.args.runs.now c.requires.case
          (g.D.StepSink.told c.args.steps.now) (g.D.StepSink.told c.search_all.new.steps) ends.left;
      cause = first_of (search rules, cc);
      outlasts = ends.outlasts;
    }

pub returns-in_ok-ranked_answer-in-Lists : goal.returns-in_ok-ranked_answer-in-Lists
returns-in_ok-ranked_answer-in-Lists g c =
    let j = c.args.job.now in
    let x = c.args.texts.now in
    let t = g.D.StepSink.told c.args.steps.now in
    let u = g.D.StepSink.told c.search_all.new.steps in
    let ends = c.in_ok-lists.ensures x c.requires.case in
    let by = c.in_ok-ranked_answer-in-Lists.ensures in
    record {
      answer = ranks j x c.args.runs.now c.requires.case t u c.in_ok-lists.field-0 c.in-Lists.lists
          c.as_slice-source.result.now by.0 c.in_ok-ranked_answer-in-Lists.field-0 c.in-Lists.is ends.answer
          c.as_slice-source.ensures
          (subst (λ lists. IsRanking lists by.0) c.as_slice.ensures by.1) by.2;
      left = left_searching j x c.args.runs.now c.requires.case t u ends.left;
      cause = λ failed. absurd (cc failed);
      outlasts = ends.outlasts;
    }

pub returns-in-Stopped : goal.returns-in-Stopped
returns-in-Stopped g c =
    let j = c.args.job.now in
    let x = c.args.texts.now in
    let t = g.D.StepSink.told c.args.steps.now in
    let u = g.D.StepSink.told c.search_all.new.steps in
    let ends = c.in_ok-lists.ensures x c.requires.case in
    record {
      answer = concludes_there j x c.args.runs.now c.requires.case t u c.in_ok-lists.field-0
          c.in-Stopped.answer c.in-Stopped.is ends.answer;
      left = left_searching j x c.args.runs.now c.requires.case t u ends.left;
      cause = λ failed. absurd (cc failed);
      outlasts = ends.outlasts;
    }
