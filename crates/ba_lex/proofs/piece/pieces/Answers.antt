use Rattle.std.proofs.Common.{◌≡◌, ◌<◌, ◌++◌, length, arith, sym, ap, ◌∙◌, append-nil}
use Rattle.std.proofs.lemmas.Bool.Decides.{nat_tests}
use Rattle.ba_lex.specs.Pieces.{cut}
use Rattle.ba_lex.proofs.CutLemmas.{turned_on, stopped, empty_from_length}
use Rattle.ba_lex.proofs.piece.pieces.Goals as goal
use Rattle.ba_lex.proofs.piece.pieces.Goals.{else-loop-rest-test, then-loop-rest-test+in_ok-form+in_ok-push_piece+then-not-branch}

pub loop-rest-preserved : goal.loop-rest-preserved
loop-rest-preserved c =
    let some : 0 < length c.loop-rest.rest.now = grind (arith, nat_tests) in
    record {
      whole = turned_on _ c.loop-rest.pieces.items c.push_piece.new.pieces.items c.loop-rest.rest.now c.loop-rest.at c.in_ok-form.form c.in_ok-form.count c.in_ok-push_piece.field-0
          c.loop-rest.invariant.whole some c.in_ok-form.ensures.within.0 c.in_ok-form.ensures.value c.in_ok-push_piece.ensures
          c.split_at.result.0.now c.split_at.result.1.now c.position_after-at.result c.split_at.ensures.front c.split_at.ensures.back c.position_after-at.ensures.value c.if-not-branch.false;
      short = grind arith;
      column = c.position_after-at.ensures.column;
      room = grind arith;
    }

pub returns : goal.returns
returns c = elim c.loop-rest-test.branch [
  | else-loop-rest-test w ↦
      let none : length c.loop-rest.rest.now ≡ 0 = grind (arith, nat_tests) in
      ap (λ v. v.items) w.pieces-is ∙ sym (append-nil c.loop-rest.pieces.items) ∙ ap (λ bs. c.loop-rest.pieces.items ++ cut c.loop-rest.at 0 bs) (sym (empty_from_length c.loop-rest.rest.now none)) ∙ c.loop-rest.invariant.whole
  | then-loop-rest-test+in_ok-form+in_ok-push_piece+then-not-branch w ↦
      let some : 0 < length c.loop-rest.rest.now = grind (arith, nat_tests) in
      ap (λ v. v.items) w.pieces-is ∙ stopped _ c.loop-rest.pieces.items w.push_piece.new.pieces.items c.loop-rest.rest.now c.loop-rest.at w.in_ok-form.form w.in_ok-form.count w.in_ok-push_piece.field-0
      c.loop-rest.invariant.whole some w.in_ok-form.ensures.within.0 w.in_ok-form.ensures.value w.in_ok-push_piece.ensures w.if-not-branch.true
]
