use Rattle.std.proofs.Common.{◌+◌, false, get_or, sym, ap, ◌∙◌, arith}
use Rattle.std.proofs.lemmas.List.{at_drop_all, at_drop_more}
use Rattle.std.specs.Prelude.{◌==◌, ◌||◌}
use Rattle.std.specs.List.{list_any}
use Rattle.mode_repair.proofs.Marking.{or-more, or-none}
use Rattle.mode_repair.proofs.statements.mark.Goals as goal

pub loop-number-preserved : goal.loop-number-preserved
loop-number-preserved c = record {
  all = c.mark_one.ensures.all ∙ c.loop-number.invariant.all;
  each = λ i within. or-more (get_or c.loop-number.marks i false) _ _ _ _
      (c.mark_one.ensures.each i (omega (arith, c.loop-number.invariant.all)))
      (ap (λ b. get_or c.loop-number.marks i false || b)
      (sym (at_drop_more (list_any (λ m. (i + 1) == m)) c.args.numbers.now c.loop-number.number-index 0
      c.loop-number-test.true)) ∙ c.loop-number.invariant.each i within);
}

pub returns : goal.returns
returns c = record {
  all = c.loop-number.invariant.all;
  each = λ i within. or-none (get_or c.loop-number.marks i false) _
      (ap (λ b. get_or c.loop-number.marks i false || b)
      (sym (at_drop_all (list_any (λ m. (i + 1) == m)) c.args.numbers.now c.loop-number.number-index
      c.loop-number-test.false)) ∙ c.loop-number.invariant.each i within);
}
