use Rattle.std.proofs.Common.{arith, rules, sym, ap, subst, ◌∙◌}
use Rattle.ba_checker.proofs.PutLaws.{lasts_then}
use Rattle.ba_cores.specs.Rounds.{literals_of}
use Rattle.ba_cores.proofs.DerivesLaws.{puts_softs}
use Rattle.ba_enum.specs.Turning.{ComesTo}
use Rattle.ba_enum.proofs.LeadLaws.{puts_most}
use Rattle.ba_enum.proofs.SearchLaws.{puts_searched, leaves_searches}
use Rattle.ba_enum.proofs.TurnLaws.{part_after_block, blocks_ready, blocks_softs, blocks_most, blocks_longer, blocks_adds, adds_then, adds_reached, adds_leaves, adds_leave, reached_assumed, comes_of}
use Rattle.ba_enum.proofs.turns.turn.Goals as goal

pub take_new-requires : goal.take_new-requires
take_new-requires g c = record {
  part = λ working. part_after_block c.in_ok-block.ensures.blocks c.requires.stands.goes_on.same;
}

pub solve-requires-clause-ready : goal.solve-requires-clause-ready
solve-requires-clause-ready g c = λ working.
    let blocks = c.in_ok-block.ensures.blocks in
    let ready = blocks_ready blocks c.requires.stands.ready in
    record {
      same = c.in_ok-take_new.ensures.taken.same;
      begun = ready.begun;
      awake = ready.awake;
      fresh = c.in_ok-block.ensures.ran.fresh;
      may_assume = reached_assumed c.args.task.now.encoded.now (g.L.ProofLog.log c.block.new.log)
          c.block.new.found c.as_slice.result.now
          (adds_reached c.block.ensures.ran.lasts.judge_stays (blocks_adds blocks) c.requires.stands.reached)
          (c.as_slice.ensures.value ∙ (c.requires.stands.assumed ∙ ap literals_of (sym (blocks_softs
          blocks))));
    }

pub returns-in_err-answer-clause-leaves : goal.returns-in_err-answer-clause-leaves
returns-in_err-answer-clause-leaves g c =
    let mid = g.L.ProofLog.log c.block.new.log in
    let new = g.L.ProofLog.log c.solve.new.log in
    adds_leave c.args.task.now.encoded.now (g.L.ProofLog.log c.args.log.now) mid new
    c.block.ensures.ran.lasts.judge_stays (blocks_adds c.in_ok-block.ensures.blocks)
    (leaves_searches mid new c.solve.ensures.leaves)

pub returns-clause-leaves : goal.returns-clause-leaves
returns-clause-leaves g c =
    let old = g.L.ProofLog.log c.args.log.now in
    let mid = g.L.ProofLog.log c.block.new.log in
    let new = g.L.ProofLog.log c.solve.new.log in
    let encoded = c.args.task.now.encoded.now in
    adds_leaves encoded old new
    (adds_then encoded old mid new c.args.found.now c.block.new.found c.block.ensures.ran.lasts.judge_stays
    (blocks_adds c.in_ok-block.ensures.blocks) (puts_searched encoded mid new c.in_ok-answer.ensures.steps))

pub returns-clause-comes : goal.returns-clause-comes
returns-clause-comes g c =
    let old = g.L.ProofLog.log c.args.log.now in
    let mid = g.L.ProofLog.log c.block.new.log in
    let new = g.L.ProofLog.log c.solve.new.log in
    let encoded = c.args.task.now.encoded.now in
    let found = c.block.new.found in
    let stands = c.requires.stands in
    let blocks = c.in_ok-block.ensures.blocks in
    let steps = c.in_ok-answer.ensures.steps in
    let puts = puts_searched encoded mid new steps in
    let judge = c.block.ensures.ran.lasts.judge_stays in
    let adds = adds_then encoded old mid new c.args.found.now found judge (blocks_adds blocks) puts in
    let softs = puts_softs mid new steps ∙ blocks_softs blocks in
    let most = puts_most encoded mid new _ puts ∙ (blocks_most blocks ∙ stands.listed) in
    let longer = blocks_longer blocks in
    subst (ComesTo encoded new found) (sym c.next_of.ensures)
    (comes_of encoded new found c.as_slice.result.now c.in_ok-answer.answer
    (adds_reached (c.in_ok-answer.ensures.ran.lasts.judge_stays ∙ judge) adds stands.reached)
    (c.as_slice.ensures.value ∙ (stands.assumed ∙ ap literals_of (sym softs))) c.in_ok-answer.ensures.answer
    (omega (arith, longer)) (omega (arith, most, c.len.ensures, c.if-len-task.false)))

pub returns-then-len-task-clause-leaves : goal.returns-then-len-task-clause-leaves
returns-then-len-task-clause-leaves g c = c.block.ensures.leaves

pub returns-then-len-task-clause-ran : goal.returns-then-len-task-clause-ran
returns-then-len-task-clause-ran g c = record {
  lasts = c.block.ensures.ran.lasts;
  cause = search rules;
  rules_stay = c.take_new.ensures.stays.rules_stay;
  propagated = omega (arith, c.take_new.ensures.stays.propagated);
}

pub returns-clause-ran : goal.returns-clause-ran
returns-clause-ran g c = record {
  lasts = lasts_then (g.L.ProofLog.log c.args.log.now) (g.L.ProofLog.log c.block.new.log)
      (g.L.ProofLog.log c.solve.new.log) c.block.ensures.ran.lasts c.solve.ensures.ran.lasts;
  cause = search rules;
  rules_stay = c.solve.ensures.ran.rules_stay ∙ c.take_new.ensures.stays.rules_stay;
  propagated = omega (arith, c.take_new.ensures.stays.propagated, c.solve.ensures.ran.propagated);
}

pub returns-in_err-block-clause-leaves : goal.returns-in_err-block-clause-leaves
returns-in_err-block-clause-leaves g c = c.block.ensures.leaves

pub returns-in_err-take_new-clause-leaves : goal.returns-in_err-take_new-clause-leaves
returns-in_err-take_new-clause-leaves g c = c.block.ensures.leaves

pub returns-then-len-task-clause-turned : goal.returns-then-len-task-clause-turned
returns-then-len-task-clause-turned g c =
    let blocks = c.in_ok-block.ensures.blocks in
    record {
      goes_on = record {
        working = c.in_ok-take_new.ensures.taken.stays_fresh;
        fresh = c.in_ok-block.ensures.ran.fresh;
        same = c.in_ok-take_new.ensures.taken.same;
      };
      adds = blocks_adds blocks;
      one_more = blocks_longer blocks;
      ready = blocks_ready blocks c.requires.stands.ready;
      softs_stay = blocks_softs blocks;
    }

pub returns-clause-turned : goal.returns-clause-turned
returns-clause-turned g c =
    let mid = g.L.ProofLog.log c.block.new.log in
    let new = g.L.ProofLog.log c.solve.new.log in
    let encoded = c.args.task.now.encoded.now in
    let blocks = c.in_ok-block.ensures.blocks in
    let steps = c.in_ok-answer.ensures.steps in
    let solved = c.in_ok-answer.ensures.solved in
    record {
      goes_on = solved.goes_on;
      adds = adds_then encoded (g.L.ProofLog.log c.args.log.now) mid new c.args.found.now c.block.new.found
          c.block.ensures.ran.lasts.judge_stays (blocks_adds blocks) (puts_searched encoded mid new steps);
      one_more = blocks_longer blocks;
      ready = record { begun = solved.stays_begun; awake = solved.awake };
      softs_stay = puts_softs mid new steps ∙ blocks_softs blocks;
    }
