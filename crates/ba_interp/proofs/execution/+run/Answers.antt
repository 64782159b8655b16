use Rattle.std.proofs.Common.{rules, ◌≡◌, ◌+◌, ◌-◌, pos, SFits, w64, to_z, of_z, to_z-of_z, refl, sym, ◌∙◌, ap, subst, map, length, Ok, Err, []}
use Rattle.std.proofs.lemmas.Result.{err_from_is_err_and}
use Rattle.ba_tree.specs.Acts.{give, then_do, each, after_part}
use Rattle.ba_tree.specs.Meaning.{eval, exec, exec_all}
use Rattle.ba_tree.specs.declared.run.Exit.TheVariants.{Return}
use Rattle.ba_tree.specs.declared.run.Flow.TheVariants.{Next, Leaves}
use Rattle.ba_interp.specs.Doing.{Did, ok_map}
use Rattle.ba_interp.specs.Loops.{for_loop_at, do_loop_at, test_at, turn_at}
use Rattle.ba_interp.specs.Paths.{steps_of}
use Rattle.ba_interp.specs.Settings.{context_at}
use Rattle.ba_interp.proofs.ChoiceArms.{chosen-ends, chosen-written, chosen-values, given-parts, elements-parts, element-parts, call-parts, print-parts, call-stops, call-made, element-first, element-second, element-both}
use Rattle.std.proofs.Common.{◌<◌, ◌*◌}
use Rattle.ba_tree.specs.Heights.{weight, arg_weight, height, weights, arg_weights, heights, tallest}
use Rattle.ba_interp.proofs.CallArms as calls
use Rattle.ba_tree.proofs.Falling.{item-below, body-below}
use Rattle.ba_interp.proofs.ExpressionArms as arms
use Rattle.ba_interp.proofs.Rounds.{test-ends, zero-ends, turn-ends, turn-leaves, turn-again, past-is}
use Rattle.ba_interp.proofs.StatementArms as forms
use Rattle.ba_interp.proofs.StatementArms.{assign-parts, turn-parts, row-parts, row-goes, row-done, tested, turned, for-now, for-more, for-last, for-again, do-now, do-more, do-last, do-again}
use Rattle.ba_interp.specs.Parts.{parts_of}
use Rattle.ba_tree.proofs.Equations.{otherwise}
use Rattle.ba_tree.specs.declared.run.Halt.TheVariants.{Beyond}
use Rattle.ba_tree.specs.Meaning.{declare, elements_with, entered, given_value, in_turn, set_value, test_behind, type_of}
use Rattle.ba_tree.specs.Acts.{halt_with}
use Rattle.ba_tree.specs.State.{elements_of, with_elements}
use Rattle.std.proofs.Common.{zero, suc}
use Rattle.ba_interp.proofs.Steps.{did-is, did-end, did-then, fork-zero, fork-other, then-ends, then-goes}
use Rattle.ba_interp.proofs.execution.+run.Goals as goal

pub eval-returns-in_err-index-in-Element : goal.eval-returns-in_err-index-in-Element
eval-returns-in_err-index-in-Element t c = let p = err_from_is_err_and c.from_residual.result
    c.from_residual.ensures.1 in
    arms.element-ends (context_at c.args.setting.now c.args.frame) (steps_of c.args.path.now) c.args.here
    c.args.expr.now c.args.machine.now c.in-Element.array c.in-Element.index c.in-Element.is
    c.from_residual.result c.eval.new.machine p.0 p.1
    (rw (p.2, ← c.deref.ensures) c.in_err-index-in-Element.ensures)

pub eval-returns-in_err-a-in-Unary : goal.eval-returns-in_err-a-in-Unary
eval-returns-in_err-a-in-Unary t c = let p = err_from_is_err_and c.from_residual-in_err-a-in-Unary.result
    c.from_residual-in_err-a-in-Unary.ensures.1 in
    arms.unary-ends (context_at c.args.setting.now c.args.frame) (steps_of c.args.path.now) c.args.here
    c.args.expr.now c.args.machine.now c.in-Unary.op c.in-Unary.t c.in-Unary.a c.in-Unary.is
    c.eval-in-Unary.new.machine c.from_residual-in_err-a-in-Unary.result p.0 p.1
    (rw (p.2, ← c.deref-in-Unary.ensures) c.in_err-a-in-Unary.ensures)

pub eval-returns-in_err-a-in-Convert : goal.eval-returns-in_err-a-in-Convert
eval-returns-in_err-a-in-Convert t c = let p = err_from_is_err_and c.from_residual-in_err-a-in-Convert.result
    c.from_residual-in_err-a-in-Convert.ensures.1 in
    arms.convert-ends (context_at c.args.setting.now c.args.frame) (steps_of c.args.path.now) c.args.here
    c.args.expr.now c.args.machine.now c.in-Convert.t c.in-Convert.a c.in-Convert.is
    c.eval-in-Convert.new.machine c.from_residual-in_err-a-in-Convert.result p.0 p.1
    (rw (p.2, ← c.deref-in-Convert.ensures) c.in_err-a-in-Convert.ensures)

pub eval-returns-in_err-a-in-Binary : goal.eval-returns-in_err-a-in-Binary
eval-returns-in_err-a-in-Binary t c = let p = err_from_is_err_and c.from_residual-in_err-a-in-Binary.result
    c.from_residual-in_err-a-in-Binary.ensures.1 in
    arms.binary-ends (context_at c.args.setting.now c.args.frame) (steps_of c.args.path.now) c.args.here
    c.args.expr.now c.args.machine.now c.in-Binary.op c.in-Binary.t c.in-Binary.a c.in-Binary.b c.in-Binary.is
    c.from_residual-in_err-a-in-Binary.result p.0 c.eval-in-Binary.new.machine p.1
    (rw (p.2, ← c.deref-in-Binary.ensures) c.in_err-a-in-Binary.ensures)

pub eval-returns-in_err-b-in-Binary : goal.eval-returns-in_err-b-in-Binary
eval-returns-in_err-b-in-Binary t c = let p = err_from_is_err_and c.from_residual-in_err-b-in-Binary.result
    c.from_residual-in_err-b-in-Binary.ensures.1 in
    arms.binary-second-ends (context_at c.args.setting.now c.args.frame) (steps_of c.args.path.now)
    c.args.here c.args.expr.now c.args.machine.now c.in-Binary.op c.in-Binary.t c.in-Binary.a c.in-Binary.b
    c.in-Binary.is c.from_residual-in_err-b-in-Binary.result p.0 c.in_ok-a-in-Binary.a
    c.eval-in-Binary.new.machine c.eval-in-Binary-2.new.machine
    (rw (← c.deref-in-Binary.ensures) c.in_ok-a-in-Binary.ensures) p.1
    (rw (p.2, ← c.deref-in-Binary-2.ensures) c.in_err-b-in-Binary.ensures)

pub eval-returns-in_ok-b-in-Binary : goal.eval-returns-in_ok-b-in-Binary
eval-returns-in_ok-b-in-Binary t c =
    let fits_a : SFits w64 c.in_ok-a-in-Binary.a = search rules in let fits_b : SFits w64
    c.in_ok-b-in-Binary.b = search rules in
    arms.binary-is (context_at c.args.setting.now c.args.frame) (steps_of c.args.path.now) c.args.here
    c.args.expr.now c.args.machine.now c.in-Binary.op c.in-Binary.t c.in-Binary.a c.in-Binary.b c.in-Binary.is
    c.operate.result c.in_ok-a-in-Binary.a c.in_ok-b-in-Binary.b c.eval-in-Binary.new.machine
    c.eval-in-Binary-2.new.machine
    (rw (← c.deref-in-Binary.ensures) c.in_ok-a-in-Binary.ensures) (rw (← c.deref-in-Binary-2.ensures)
    c.in_ok-b-in-Binary.ensures)
    (simp to_z-of_z at (c.operate.ensures c.eval-in-Binary-2.new.machine))

pub eval-returns-in_err-a-in-AndAlso : goal.eval-returns-in_err-a-in-AndAlso
eval-returns-in_err-a-in-AndAlso t c = let p = err_from_is_err_and c.from_residual-in_err-a-in-AndAlso.result
    c.from_residual-in_err-a-in-AndAlso.ensures.1 in
    arms.and-ends (context_at c.args.setting.now c.args.frame) (steps_of c.args.path.now) c.args.here
    c.args.expr.now c.args.machine.now c.in-AndAlso.a c.in-AndAlso.b c.in-AndAlso.is
    c.from_residual-in_err-a-in-AndAlso.result p.0 c.eval-in-AndAlso.new.machine p.1
    (rw (p.2, ← c.deref-in-AndAlso.ensures) c.in_err-a-in-AndAlso.ensures)

pub eval-returns-then-is_zero : goal.eval-returns-then-is_zero
eval-returns-then-is_zero t c = let fits : SFits w64 c.in_ok-a-in-AndAlso.a = search rules in
    arms.and-zero (context_at c.args.setting.now c.args.frame) (steps_of c.args.path.now) c.args.here
    c.args.expr.now c.args.machine.now c.in-AndAlso.a c.in-AndAlso.b c.in-AndAlso.is c.in_ok-a-in-AndAlso.a
    (pos 0) c.eval-in-AndAlso.new.machine
    (rw (← c.deref-in-AndAlso.ensures) c.in_ok-a-in-AndAlso.ensures) (simp to_z-of_z at (sym c.is_zero.ensures
    ∙ c.if-is_zero.true)) refl

pub eval-returns-in_err-b-in-AndAlso : goal.eval-returns-in_err-b-in-AndAlso
eval-returns-in_err-b-in-AndAlso t c = let fits : SFits w64 c.in_ok-a-in-AndAlso.a = search rules in
    let p = err_from_is_err_and c.from_residual-in_err-b-in-AndAlso.result
    c.from_residual-in_err-b-in-AndAlso.ensures.1 in
    arms.and-second-ends (context_at c.args.setting.now c.args.frame) (steps_of c.args.path.now) c.args.here
    c.args.expr.now c.args.machine.now c.in-AndAlso.a c.in-AndAlso.b c.in-AndAlso.is
    c.from_residual-in_err-b-in-AndAlso.result p.0 c.in_ok-a-in-AndAlso.a c.eval-in-AndAlso.new.machine
    c.eval-in-AndAlso-2.new.machine
    (rw (← c.deref-in-AndAlso.ensures) c.in_ok-a-in-AndAlso.ensures) (simp to_z-of_z at (sym c.is_zero.ensures
    ∙ c.if-is_zero.false)) p.1
    (rw (p.2, ← c.deref-in-AndAlso-2.ensures) c.in_err-b-in-AndAlso.ensures)

pub eval-returns-in_ok-b-in-AndAlso : goal.eval-returns-in_ok-b-in-AndAlso
eval-returns-in_ok-b-in-AndAlso t c = let fits : SFits w64 c.in_ok-a-in-AndAlso.a = search rules in
    let fits_b : SFits w64 c.in_ok-b-in-AndAlso.b = search rules in
    let fits_t : SFits w64 c.truth_of.result = search rules in
    arms.and-is (context_at c.args.setting.now c.args.frame) (steps_of c.args.path.now) c.args.here
    c.args.expr.now c.args.machine.now c.in-AndAlso.a c.in-AndAlso.b c.in-AndAlso.is c.in_ok-a-in-AndAlso.a
    c.in_ok-b-in-AndAlso.b (to_z w64 (of_z w64 c.truth_of.result)) c.eval-in-AndAlso.new.machine
    c.eval-in-AndAlso-2.new.machine
    (rw (← c.deref-in-AndAlso.ensures) c.in_ok-a-in-AndAlso.ensures) (simp to_z-of_z at (sym c.is_zero.ensures
    ∙ c.if-is_zero.false))
    (rw (← c.deref-in-AndAlso-2.ensures) c.in_ok-b-in-AndAlso.ensures) (to_z-of_z fits_t
    ∙ simp to_z-of_z at c.truth_of.ensures)

pub eval-returns-in_err-a-in-OrElse : goal.eval-returns-in_err-a-in-OrElse
eval-returns-in_err-a-in-OrElse t c = let p = err_from_is_err_and c.from_residual-in_err-a-in-OrElse.result
    c.from_residual-in_err-a-in-OrElse.ensures.1 in
    arms.or-ends (context_at c.args.setting.now c.args.frame) (steps_of c.args.path.now) c.args.here
    c.args.expr.now c.args.machine.now c.in-OrElse.a c.in-OrElse.b c.in-OrElse.is
    c.from_residual-in_err-a-in-OrElse.result p.0 c.eval-in-OrElse.new.machine p.1
    (rw (p.2, ← c.deref-in-OrElse.ensures) c.in_err-a-in-OrElse.ensures)

pub eval-returns-in_err-b-in-OrElse : goal.eval-returns-in_err-b-in-OrElse
eval-returns-in_err-b-in-OrElse t c = let fits : SFits w64 c.in_ok-a-in-OrElse.a = search rules in
    let p = err_from_is_err_and c.from_residual-in_err-b-in-OrElse.result
    c.from_residual-in_err-b-in-OrElse.ensures.1 in
    arms.or-second-ends (context_at c.args.setting.now c.args.frame) (steps_of c.args.path.now) c.args.here
    c.args.expr.now c.args.machine.now c.in-OrElse.a c.in-OrElse.b c.in-OrElse.is
    c.from_residual-in_err-b-in-OrElse.result p.0 c.in_ok-a-in-OrElse.a c.eval-in-OrElse.new.machine
    c.eval-then-is_zero-2.new.machine
    (rw (← c.deref-in-OrElse.ensures) c.in_ok-a-in-OrElse.ensures) (simp to_z-of_z at (sym
    c.is_zero-in-OrElse.ensures ∙ c.if-is_zero-2.true)) p.1
    (rw (p.2, ← c.deref-then-is_zero-2.ensures) c.in_err-b-in-OrElse.ensures)

pub eval-returns-then-is_zero-2 : goal.eval-returns-then-is_zero-2
eval-returns-then-is_zero-2 t c = let fits : SFits w64 c.in_ok-a-in-OrElse.a = search rules in
    let fits_b : SFits w64 c.in_ok-b-in-OrElse.b = search rules in
    let fits_t : SFits w64 c.truth_of-then-is_zero-2.result = search rules in
    arms.or-is (context_at c.args.setting.now c.args.frame) (steps_of c.args.path.now) c.args.here
    c.args.expr.now c.args.machine.now c.in-OrElse.a c.in-OrElse.b c.in-OrElse.is c.in_ok-a-in-OrElse.a
    c.in_ok-b-in-OrElse.b (to_z w64 (of_z w64 c.truth_of-then-is_zero-2.result)) c.eval-in-OrElse.new.machine
    c.eval-then-is_zero-2.new.machine
    (rw (← c.deref-in-OrElse.ensures) c.in_ok-a-in-OrElse.ensures) (simp to_z-of_z at (sym
    c.is_zero-in-OrElse.ensures ∙ c.if-is_zero-2.true))
    (rw (← c.deref-then-is_zero-2.ensures) c.in_ok-b-in-OrElse.ensures) (to_z-of_z fits_t
    ∙ simp to_z-of_z at c.truth_of-then-is_zero-2.ensures)

pub eval-returns-else-is_zero-2 : goal.eval-returns-else-is_zero-2
eval-returns-else-is_zero-2 t c = let fits : SFits w64 c.in_ok-a-in-OrElse.a = search rules in
    arms.or-other (context_at c.args.setting.now c.args.frame) (steps_of c.args.path.now) c.args.here
    c.args.expr.now c.args.machine.now c.in-OrElse.a c.in-OrElse.b c.in-OrElse.is c.in_ok-a-in-OrElse.a (pos
    1) c.eval-in-OrElse.new.machine
    (rw (← c.deref-in-OrElse.ensures) c.in_ok-a-in-OrElse.ensures) (simp to_z-of_z at (sym
    c.is_zero-in-OrElse.ensures ∙ c.if-is_zero-2.false)) refl

pub eval-returns-in_err-when-in-Select : goal.eval-returns-in_err-when-in-Select
eval-returns-in_err-when-in-Select t c = let p = err_from_is_err_and
    c.from_residual-in_err-when-in-Select.result c.from_residual-in_err-when-in-Select.ensures.1 in
    arms.select-ends (context_at c.args.setting.now c.args.frame) (steps_of c.args.path.now) c.args.here
    c.args.expr.now c.args.machine.now c.in-Select.t c.in-Select.when c.in-Select.yes c.in-Select.no
    c.in-Select.is c.from_residual-in_err-when-in-Select.result p.0 c.eval-in-Select.new.machine p.1
    (rw (p.2, ← c.deref-in-Select.ensures) c.in_err-when-in-Select.ensures)

pub eval-returns-then-is_zero-3 : goal.eval-returns-then-is_zero-3
eval-returns-then-is_zero-3 t c = let fits : SFits w64 c.in_ok-when-in-Select.when = search rules in
    arms.select-zero (context_at c.args.setting.now c.args.frame) (steps_of c.args.path.now) c.args.here
    c.args.expr.now c.args.machine.now c.in-Select.t c.in-Select.when c.in-Select.yes c.in-Select.no
    c.in-Select.is c.eval-then-is_zero-3.result c.in_ok-when-in-Select.when c.eval-in-Select.new.machine
    c.eval-then-is_zero-3.new.machine
    (rw (← c.deref-in-Select.ensures) c.in_ok-when-in-Select.ensures) (simp to_z-of_z at (sym
    c.is_zero-in-Select.ensures ∙ c.if-is_zero-3.true)) (rw (← c.deref-then-is_zero-3.ensures)
    c.eval-then-is_zero-3.ensures)

pub eval-returns-else-is_zero-3 : goal.eval-returns-else-is_zero-3
eval-returns-else-is_zero-3 t c = let fits : SFits w64 c.in_ok-when-in-Select.when = search rules in
    arms.select-other (context_at c.args.setting.now c.args.frame) (steps_of c.args.path.now) c.args.here
    c.args.expr.now c.args.machine.now c.in-Select.t c.in-Select.when c.in-Select.yes c.in-Select.no
    c.in-Select.is c.eval-else-is_zero-3.result c.in_ok-when-in-Select.when c.eval-in-Select.new.machine
    c.eval-else-is_zero-3.new.machine
    (rw (← c.deref-in-Select.ensures) c.in_ok-when-in-Select.ensures) (simp to_z-of_z at (sym
    c.is_zero-in-Select.ensures ∙ c.if-is_zero-3.false)) (rw (← c.deref-else-is_zero-3.ensures)
    c.eval-else-is_zero-3.ensures)

pub eval-returns-in-Call : goal.eval-returns-in-Call
eval-returns-in-Call t c =
    arms.call-is (context_at c.args.setting.now c.args.frame) (steps_of c.args.path.now) c.args.here
    c.args.expr.now c.args.machine.now c.in-Call.call c.in-Call.function c.in-Call.args c.in-Call.is
    c.call_value.result c.call_value.new.machine (rw (← c.as_slice.ensures.value) c.call_value.ensures)

pub call_value-returns-in_err-arguments : goal.call_value-returns-in_err-arguments
call_value-returns-in_err-arguments t c = let p = err_from_is_err_and c.from_residual.result
    c.from_residual.ensures.1 in
    arms.arguments-end (context_at c.args.setting.now c.args.frame) (steps_of c.args.path.now) c.args.here
    c.args.call c.args.function c.args.args.now c.args.machine.now
    c.from_residual.result p.0 c.eval_args.new.machine p.1 (rw p.2 c.in_err-arguments.ensures)

pub call_value-returns : goal.call_value-returns
call_value-returns t c =
    arms.then-called (context_at c.args.setting.now c.args.frame) (steps_of c.args.path.now) c.args.here
    c.args.call c.args.function c.args.args.now c.args.machine.now
    c.in_ok-arguments.arguments.items c.as_slice.result.now (steps_of c.within-inside.result)
    c.as_slice.ensures.value c.within-inside.ensures c.invoke.result c.eval_args.new.machine
    c.invoke.new.machine c.in_ok-arguments.ensures c.invoke.ensures

pub eval-returns-in-Const : goal.eval-returns-in-Const
eval-returns-in-Const t c = let fits : SFits w64 c.in-Const.value = search rules in
    arms.const-is (context_at c.args.setting.now c.args.frame) (steps_of c.args.path.now) c.args.here
    c.args.expr.now c.args.machine.now c.in-Const.t c.in-Const.value (to_z w64 (of_z w64 c.in-Const.value))
    c.in-Const.is (sym (to_z-of_z fits))

pub eval-returns-in-Var : goal.eval-returns-in-Var
eval-returns-in-Var t c = let fits : SFits w64 c.value.result = search rules in
    arms.var-is (context_at c.args.setting.now c.args.frame) (steps_of c.args.path.now) c.args.here
    c.args.expr.now c.args.machine.now c.in-Var.var (to_z w64 (of_z w64 c.value.result)) c.in-Var.is
    (to_z-of_z fits ∙ c.value.ensures)

pub eval-returns-in_ok-index-in-Element : goal.eval-returns-in_ok-index-in-Element
eval-returns-in_ok-index-in-Element t c = let fits : SFits w64 c.in_ok-index-in-Element.index = search rules
    in
    arms.element-is (context_at c.args.setting.now c.args.frame) (steps_of c.args.path.now) c.args.here
    c.args.expr.now c.args.machine.now c.in-Element.array c.in-Element.index c.in-Element.is c.element.result
    c.eval.new.machine c.in_ok-index-in-Element.index
    (rw (← c.deref.ensures) c.in_ok-index-in-Element.ensures) (simp to_z-of_z at (c.element.ensures
    c.eval.new.machine))

pub eval-returns-in_ok-a-in-Unary : goal.eval-returns-in_ok-a-in-Unary
eval-returns-in_ok-a-in-Unary t c = let fits : SFits w64 c.apply_one.result = search rules in
    let fits_a : SFits w64 c.in_ok-a-in-Unary.a = search rules in
    arms.unary-is (context_at c.args.setting.now c.args.frame) (steps_of c.args.path.now) c.args.here
    c.args.expr.now c.args.machine.now c.in-Unary.op c.in-Unary.t c.in-Unary.a c.in-Unary.is
    c.eval-in-Unary.new.machine c.in_ok-a-in-Unary.a (to_z w64 (of_z w64 c.apply_one.result))
    (rw (← c.deref-in-Unary.ensures) c.in_ok-a-in-Unary.ensures) (to_z-of_z fits
    ∙ simp to_z-of_z at c.apply_one.ensures.value)

pub eval-returns-in_ok-a-in-Convert : goal.eval-returns-in_ok-a-in-Convert
eval-returns-in_ok-a-in-Convert t c = let fits : SFits w64 c.convert.result = search rules in
    let fits_a : SFits w64 c.in_ok-a-in-Convert.a = search rules in
    arms.convert-is (context_at c.args.setting.now c.args.frame) (steps_of c.args.path.now) c.args.here
    c.args.expr.now c.args.machine.now c.in-Convert.t c.in-Convert.a c.in-Convert.is
    c.eval-in-Convert.new.machine c.in_ok-a-in-Convert.a (to_z w64 (of_z w64 c.convert.result))
    (rw (← c.deref-in-Convert.ensures) c.in_ok-a-in-Convert.ensures) (to_z-of_z fits
    ∙ simp to_z-of_z at c.convert.ensures.value)

pub eval_arg-returns-in_err-value-in-Value : goal.eval_arg-returns-in_err-value-in-Value
eval_arg-returns-in_err-value-in-Value t c = let p = err_from_is_err_and c.from_residual.result
    c.from_residual.ensures.1 in
    arms.value-ends (context_at c.args.setting.now c.args.frame) (steps_of c.args.path.now) c.args.here
    c.args.arg.now c.args.machine.now c.in-Value.value c.from_residual.result p.0 c.eval.new.machine
    c.in-Value.is p.1
    (rw p.2 c.in_err-value-in-Value.ensures)

pub eval_arg-returns-in_ok-value-in-Value : goal.eval_arg-returns-in_ok-value-in-Value
eval_arg-returns-in_ok-value-in-Value t c = let fits : SFits w64 c.in_ok-value-in-Value.value = search rules
    in
    arms.value-is (context_at c.args.setting.now c.args.frame) (steps_of c.args.path.now) c.args.here
    c.args.arg.now c.args.machine.now c.in-Value.value c.in_ok-value-in-Value.value (to_z w64 (of_z w64
    c.in_ok-value-in-Value.value)) c.eval.new.machine c.in-Value.is
    c.in_ok-value-in-Value.ensures (to_z-of_z fits)

pub eval_arg-returns-in-Array : goal.eval_arg-returns-in-Array
eval_arg-returns-in-Array t c = rw c.location.ensures (arms.array-is (context_at c.args.setting.now
    c.args.frame) (steps_of c.args.path.now) c.args.here c.args.arg.now c.args.machine.now c.in-Array.array
    c.in-Array.is)

pub given-returns-in_err-choice_at : goal.given-returns-in_err-choice_at
given-returns-in_err-choice_at t c = let p = err_from_is_err_and c.from_residual.result
    c.from_residual.ensures.1 in
    chosen-ends (given-parts c.args.setting.now c.args.frame (steps_of c.args.path.now) c.args.stmt
    c.args.machine.now c.args.wanted c.args.expr.now) c.from_residual.result c.choice_at.new.machine p.1
    (rw p.2 c.in_err-choice_at.ensures)

pub given-returns-in-None : goal.given-returns-in-None
given-returns-in-None t c = chosen-written (given-parts c.args.setting.now c.args.frame (steps_of
    c.args.path.now) c.args.stmt c.args.machine.now c.args.wanted c.args.expr.now)
    c.eval.result c.choice_at.new.machine c.eval.new.machine (λ v. v.now) c.in_ok-choice_at.field-0
    c.in_ok-choice_at.ensures c.in-None.is c.eval.ensures

pub given-returns-in-Some : goal.given-returns-in-Some
given-returns-in-Some t c = chosen-values (given-parts c.args.setting.now c.args.frame (steps_of
    c.args.path.now) c.args.stmt c.args.machine.now c.args.wanted c.args.expr.now)
    c.fitting.result c.choice_at.new.machine (λ v. v.now) c.in_ok-choice_at.field-0 c.in-Some.values
    c.in_ok-choice_at.ensures c.in-Some.is (rw (← c.as_slice.ensures) (c.fitting.ensures
    c.choice_at.new.machine))

pub given_elements-returns-in_err-choice_at : goal.given_elements-returns-in_err-choice_at
given_elements-returns-in_err-choice_at t c = let p = err_from_is_err_and c.from_residual.result
    c.from_residual.ensures.1 in
    chosen-ends (elements-parts c.args.setting.now c.args.frame (steps_of c.args.path.now) c.args.stmt
    c.args.machine.now c.args.array c.args.exprs.now c.variable_of-t.result.t (length
    c.elements-count.result.now) (ap (λ v. v.t) c.variable_of-t.ensures) (ap length c.elements-count.ensures))
    (ok_map (λ v. v.items) c.from_residual.result) c.choice_at.new.machine (ap (ok_map (λ v. v.items)) p.1)
    (rw p.2 c.in_err-choice_at.ensures)

pub given_elements-returns-in-None : goal.given_elements-returns-in-None
given_elements-returns-in-None t c = chosen-written (elements-parts c.args.setting.now c.args.frame (steps_of
    c.args.path.now) c.args.stmt c.args.machine.now c.args.array c.args.exprs.now c.variable_of-t.result.t
    (length c.elements-count.result.now) (ap (λ v. v.t) c.variable_of-t.ensures) (ap length
    c.elements-count.ensures))
    (ok_map (λ v. v.items) c.eval_all.result) c.choice_at.new.machine c.eval_all.new.machine (λ v. v.now)
    c.in_ok-choice_at.field-0
    c.in_ok-choice_at.ensures c.in-None.is c.eval_all.ensures

pub given_elements-returns-in-Some : goal.given_elements-returns-in-Some
given_elements-returns-in-Some t c = chosen-values (elements-parts c.args.setting.now c.args.frame (steps_of
    c.args.path.now) c.args.stmt c.args.machine.now c.args.array c.args.exprs.now c.variable_of-t.result.t
    (length c.elements-count.result.now) (ap (λ v. v.t) c.variable_of-t.ensures) (ap length
    c.elements-count.ensures))
    (ok_map (λ v. v.items) c.all_elements.result) c.choice_at.new.machine (λ v. v.now)
    c.in_ok-choice_at.field-0 c.in-Some.values
    c.in_ok-choice_at.ensures c.in-Some.is
    (rw (← c.as_slice.ensures) (c.all_elements.ensures c.choice_at.new.machine))

pub given_element-returns-in_err-choice_at : goal.given_element-returns-in_err-choice_at
given_element-returns-in_err-choice_at t c = let p = err_from_is_err_and c.from_residual.result
    c.from_residual.ensures.1 in
    chosen-ends (element-parts c.args.setting.now c.args.frame (steps_of c.args.path.now) c.args.stmt
    c.args.machine.now c.args.array c.args.index.now c.args.value.now c.variable_of-t.result.t (length
    c.elements-count.result.now) (ap (λ v. v.t) c.variable_of-t.ensures) (ap length c.elements-count.ensures))
    c.from_residual.result c.choice_at.new.machine p.1
    (rw p.2 c.in_err-choice_at.ensures)

pub given_element-returns-in_err-index-in-None : goal.given_element-returns-in_err-index-in-None
given_element-returns-in_err-index-in-None t c = let p = err_from_is_err_and
    c.from_residual-in_err-index-in-None.result c.from_residual-in_err-index-in-None.ensures.1 in
    chosen-written (element-parts c.args.setting.now c.args.frame (steps_of c.args.path.now) c.args.stmt
    c.args.machine.now c.args.array c.args.index.now c.args.value.now c.variable_of-t.result.t (length
    c.elements-count.result.now) (ap (λ v. v.t) c.variable_of-t.ensures) (ap length c.elements-count.ensures))
    c.from_residual-in_err-index-in-None.result c.choice_at.new.machine c.eval.new.machine (λ v. v.now)
    c.in_ok-choice_at.field-0
    c.in_ok-choice_at.ensures c.in-None.is
    (element-first c.args.setting.now c.args.frame (steps_of c.args.path.now) c.args.stmt c.args.machine.now
    c.args.index.now c.args.value.now c.choice_at.new.machine c.from_residual-in_err-index-in-None.result p.0
    c.eval.new.machine p.1
    (rw p.2 c.in_err-index-in-None.ensures))

pub given_element-returns-in_err-value-in-None : goal.given_element-returns-in_err-value-in-None
given_element-returns-in_err-value-in-None t c = let p = err_from_is_err_and
    c.from_residual-in_err-value-in-None.result c.from_residual-in_err-value-in-None.ensures.1 in
    chosen-written (element-parts c.args.setting.now c.args.frame (steps_of c.args.path.now) c.args.stmt
    c.args.machine.now c.args.array c.args.index.now c.args.value.now c.variable_of-t.result.t (length
    c.elements-count.result.now) (ap (λ v. v.t) c.variable_of-t.ensures) (ap length c.elements-count.ensures))
    c.from_residual-in_err-value-in-None.result c.choice_at.new.machine c.eval-in-None.new.machine (λ v.
    v.now) c.in_ok-choice_at.field-0
    c.in_ok-choice_at.ensures c.in-None.is
    (element-second c.args.setting.now c.args.frame (steps_of c.args.path.now) c.args.stmt c.args.machine.now
    c.args.index.now c.args.value.now c.choice_at.new.machine c.from_residual-in_err-value-in-None.result p.0
    c.in_ok-index-in-None.index c.eval.new.machine
    c.eval-in-None.new.machine c.in_ok-index-in-None.ensures p.1 (rw p.2 c.in_err-value-in-None.ensures))

pub given_element-returns-in_ok-value-in-None : goal.given_element-returns-in_ok-value-in-None
given_element-returns-in_ok-value-in-None t c =
    let fits_i : SFits w64 c.in_ok-index-in-None.index = search rules in let fits : SFits w64
    c.in_ok-value-in-None.value = search rules in
    chosen-written (element-parts c.args.setting.now c.args.frame (steps_of c.args.path.now) c.args.stmt
    c.args.machine.now c.args.array c.args.index.now c.args.value.now c.variable_of-t.result.t (length
    c.elements-count.result.now) (ap (λ v. v.t) c.variable_of-t.ensures) (ap length c.elements-count.ensures))
    (Ok (to_z w64 (of_z w64 c.in_ok-index-in-None.index), to_z w64 (of_z w64 c.in_ok-value-in-None.value)))
    c.choice_at.new.machine c.eval-in-None.new.machine (λ v. v.now) c.in_ok-choice_at.field-0
    c.in_ok-choice_at.ensures c.in-None.is
    (element-both c.args.setting.now c.args.frame (steps_of c.args.path.now) c.args.stmt c.args.machine.now
    c.args.index.now c.args.value.now c.choice_at.new.machine c.in_ok-index-in-None.index (to_z w64 (of_z w64
    c.in_ok-index-in-None.index))
    c.in_ok-value-in-None.value (to_z w64 (of_z w64 c.in_ok-value-in-None.value)) c.eval.new.machine
    c.eval-in-None.new.machine (to_z-of_z fits_i) (to_z-of_z fits) c.in_ok-index-in-None.ensures
    c.in_ok-value-in-None.ensures)

pub given_element-returns-in-Some : goal.given_element-returns-in-Some
given_element-returns-in-Some t c = chosen-values (element-parts c.args.setting.now c.args.frame (steps_of
    c.args.path.now) c.args.stmt c.args.machine.now c.args.array c.args.index.now c.args.value.now
    c.variable_of-t.result.t (length c.elements-count.result.now) (ap (λ v. v.t) c.variable_of-t.ensures) (ap
    length c.elements-count.ensures))
    c.one_element.result c.choice_at.new.machine (λ v. v.now) c.in_ok-choice_at.field-0 c.in-Some.values
    c.in_ok-choice_at.ensures c.in-Some.is
    (rw (← c.as_slice.ensures) (c.one_element.ensures c.choice_at.new.machine))

pub call_effect-returns-in_err-choice_at : goal.call_effect-returns-in_err-choice_at
call_effect-returns-in_err-choice_at t c = let p = err_from_is_err_and c.from_residual.result
    c.from_residual.ensures.1 in
    chosen-ends (call-parts c.args.setting.now c.args.frame (steps_of c.args.path.now) c.args.stmt
    c.args.machine.now c.args.call c.args.function c.args.args.now) c.from_residual.result
    c.choice_at.new.machine p.1
    (rw p.2 c.in_err-choice_at.ensures)

pub call_effect-returns-in_err-call_value-in-None : goal.call_effect-returns-in_err-call_value-in-None
call_effect-returns-in_err-call_value-in-None t c = let p = err_from_is_err_and
    c.from_residual-in_err-call_value-in-None.result c.from_residual-in_err-call_value-in-None.ensures.1 in
    chosen-written (call-parts c.args.setting.now c.args.frame (steps_of c.args.path.now) c.args.stmt
    c.args.machine.now c.args.call c.args.function c.args.args.now)
    c.from_residual-in_err-call_value-in-None.result c.choice_at.new.machine c.call_value.new.machine (λ v.
    v.now) c.in_ok-choice_at.field-0
    c.in_ok-choice_at.ensures c.in-None.is
    (call-stops c.args.setting.now c.args.frame (steps_of c.args.path.now) c.args.stmt c.args.machine.now
    c.args.call c.args.function c.args.args.now c.choice_at.new.machine
    c.from_residual-in_err-call_value-in-None.result p.0 c.call_value.new.machine p.1
    (rw p.2 c.in_err-call_value-in-None.ensures))

pub call_effect-returns-in_ok-call_value-in-None : goal.call_effect-returns-in_ok-call_value-in-None
call_effect-returns-in_ok-call_value-in-None t c = chosen-written (call-parts c.args.setting.now c.args.frame
    (steps_of c.args.path.now) c.args.stmt c.args.machine.now c.args.call c.args.function c.args.args.now)
    (Ok tt) c.choice_at.new.machine c.call_value.new.machine (λ v. v.now) c.in_ok-choice_at.field-0
    c.in_ok-choice_at.ensures c.in-None.is
    (call-made c.args.setting.now c.args.frame (steps_of c.args.path.now) c.args.stmt c.args.machine.now
    c.args.call c.args.function c.args.args.now c.choice_at.new.machine
    c.in_ok-call_value-in-None.field-0 c.call_value.new.machine c.in_ok-call_value-in-None.ensures)

pub call_effect-returns-in-Some : goal.call_effect-returns-in-Some
call_effect-returns-in-Some t c = chosen-values (call-parts c.args.setting.now c.args.frame (steps_of
    c.args.path.now) c.args.stmt c.args.machine.now c.args.call c.args.function c.args.args.now)
    c.no_value.result c.choice_at.new.machine (λ v. v.now) c.in_ok-choice_at.field-0 c.in-Some.values
    c.in_ok-choice_at.ensures c.in-Some.is (rw (← c.as_slice.ensures) (c.no_value.ensures
    c.choice_at.new.machine))

pub print_effect-returns-in_err-choice_at : goal.print_effect-returns-in_err-choice_at
print_effect-returns-in_err-choice_at t c = let p = err_from_is_err_and c.from_residual.result
    c.from_residual.ensures.1 in
    chosen-ends (print-parts c.args.setting.now c.args.frame (steps_of c.args.path.now) c.args.stmt
    c.args.machine.now c.args.args.now) c.from_residual.result c.choice_at.new.machine p.1
    (rw p.2 c.in_err-choice_at.ensures)

pub print_effect-returns-in_err-eval_all-in-None : goal.print_effect-returns-in_err-eval_all-in-None
print_effect-returns-in_err-eval_all-in-None t c = let p = err_from_is_err_and
    c.from_residual-in_err-eval_all-in-None.result c.from_residual-in_err-eval_all-in-None.ensures.1 in
    chosen-written (print-parts c.args.setting.now c.args.frame (steps_of c.args.path.now) c.args.stmt
    c.args.machine.now c.args.args.now)
    c.from_residual-in_err-eval_all-in-None.result c.choice_at.new.machine c.eval_all.new.machine (λ v. v.now)
    c.in_ok-choice_at.field-0
    c.in_ok-choice_at.ensures c.in-None.is
    (did-end c.from_residual-in_err-eval_all-in-None.result p.0 c.eval_all.new.machine (each (map (eval
    (context_at c.args.setting.now c.args.frame) (steps_of c.args.path.now) c.args.stmt) c.args.args.now)
    c.choice_at.new.machine) (λ zs. give tt) p.1
    (rw p.2 c.in_err-eval_all-in-None.ensures))

pub print_effect-returns-in_ok-eval_all-in-None : goal.print_effect-returns-in_ok-eval_all-in-None
print_effect-returns-in_ok-eval_all-in-None t c = chosen-written (print-parts c.args.setting.now c.args.frame
    (steps_of c.args.path.now) c.args.stmt c.args.machine.now c.args.args.now)
    (Ok tt) c.choice_at.new.machine c.eval_all.new.machine (λ v. v.now) c.in_ok-choice_at.field-0
    c.in_ok-choice_at.ensures c.in-None.is
    (did-then c.in_ok-eval_all-in-None.field-0.items (Ok tt) c.eval_all.new.machine c.eval_all.new.machine
    (each (map (eval (context_at c.args.setting.now c.args.frame) (steps_of c.args.path.now) c.args.stmt)
    c.args.args.now) c.choice_at.new.machine) (λ zs. give tt)
    c.in_ok-eval_all-in-None.ensures refl)

pub print_effect-returns-in-Some : goal.print_effect-returns-in-Some
print_effect-returns-in-Some t c = chosen-values (print-parts c.args.setting.now c.args.frame (steps_of
    c.args.path.now) c.args.stmt c.args.machine.now c.args.args.now)
    c.no_value.result c.choice_at.new.machine (λ v. v.now) c.in_ok-choice_at.field-0 c.in-Some.values
    c.in_ok-choice_at.ensures c.in-Some.is (rw (← c.as_slice.ensures) (c.no_value.ensures
    c.choice_at.new.machine))

pub assign-returns-in_err-value : goal.assign-returns-in_err-value
assign-returns-in_err-value t c = let p = err_from_is_err_and c.from_residual.result c.from_residual.ensures.1
    in
    then-ends (assign-parts c.args.setting.now c.args.frame (steps_of c.args.path.now) c.args.machine.now
    c.args.stmt c.args.var c.args.value.now c.variable_of-t.result.t (ap (λ v. v.t) c.variable_of-t.ensures))
    c.from_residual.result c.given.new.machine p.1
    (rw p.2 c.in_err-value.ensures)

pub assign-returns : goal.assign-returns
assign-returns t c = let fits : SFits w64 c.in_ok-value.value = search rules in
    then-goes (assign-parts c.args.setting.now c.args.frame (steps_of c.args.path.now) c.args.machine.now
    c.args.stmt c.args.var c.args.value.now c.variable_of-t.result.t (ap (λ v. v.t) c.variable_of-t.ensures))
    (Ok Next) c.given.new.machine c.set_value.new.self c.in_ok-value.value c.in_ok-value.ensures
    (ap (λ s. (Ok Next, s)) (sym (simp to_z-of_z at c.set_value.ensures)))

pub exec-returns-in-Block : goal.exec-returns-in-Block
exec-returns-in-Block t c = did-is c.exec_all.result c.exec_all.new.machine (exec (context_at
    c.args.setting.now c.args.frame) c.args.stmt.now (steps_of c.args.path.now) c.args.machine.now)
    (exec_all (context_at c.args.setting.now c.args.frame) (steps_of c.args.path.now) c.in-Block.body.items
    c.args.machine.now)
    (forms.block-is c.args.setting.now c.args.frame (steps_of c.args.path.now) c.args.machine.now
    c.args.stmt.now c.in-Block.body c.in-Block.is) (rw (← c.as_slice.ensures.value) c.exec_all.ensures)

pub exec-returns-in-Declare : goal.exec-returns-in-Declare
exec-returns-in-Declare t c = forms.declare-is c.args.setting.now c.args.frame (steps_of c.args.path.now)
    c.args.machine.now c.args.stmt.now c.in-Declare.var c.in-Declare.is
    ∙ ap (λ s. (Ok Next, s)) (sym (c.declare.ensures
    ∙ ap (λ v. declare v.shape c.in-Declare.var c.args.machine.now) c.variable_of.ensures))

pub exec-returns-in-Init : goal.exec-returns-in-Init
exec-returns-in-Init t c = did-is c.assign.result c.assign.new.machine (exec (context_at c.args.setting.now
    c.args.frame) c.args.stmt.now (steps_of c.args.path.now) c.args.machine.now)
    (then_do (given_value (context_at c.args.setting.now c.args.frame) (steps_of c.args.path.now)
    c.in-Init.stmt (type_of c.args.setting.now.program.now c.in-Init.var) c.in-Init.value c.args.machine.now)
    (set_value c.in-Init.var))
    (forms.init-is c.args.setting.now c.args.frame (steps_of c.args.path.now) c.args.machine.now
    c.args.stmt.now c.in-Init.stmt c.in-Init.var c.in-Init.value c.in-Init.is) c.assign.ensures

pub exec-returns-in-Assign : goal.exec-returns-in-Assign
exec-returns-in-Assign t c = did-is c.assign-in-Assign.result c.assign-in-Assign.new.machine (exec (context_at
    c.args.setting.now c.args.frame) c.args.stmt.now (steps_of c.args.path.now) c.args.machine.now)
    (then_do (given_value (context_at c.args.setting.now c.args.frame) (steps_of c.args.path.now)
    c.in-Assign.stmt (type_of c.args.setting.now.program.now c.in-Assign.var) c.in-Assign.value
    c.args.machine.now) (set_value c.in-Assign.var))
    (forms.assign-is c.args.setting.now c.args.frame (steps_of c.args.path.now) c.args.machine.now
    c.args.stmt.now c.in-Assign.stmt c.in-Assign.var c.in-Assign.value c.in-Assign.is)
    c.assign-in-Assign.ensures

pub exec-returns-in_err-values-in-InitArray : goal.exec-returns-in_err-values-in-InitArray
exec-returns-in_err-values-in-InitArray t c = let p = err_from_is_err_and c.from_residual.result
    c.from_residual.ensures.1 in
    then-ends (forms.array-parts c.args.setting.now c.args.frame (steps_of c.args.path.now) c.args.machine.now
    c.args.stmt.now c.in-InitArray.stmt c.in-InitArray.array c.in-InitArray.values c.in-InitArray.is)
    c.from_residual.result c.given_elements.new.machine p.1
    (rw (p.2, ← c.as_slice-in-InitArray.ensures.value) c.in_err-values-in-InitArray.ensures)

pub exec-returns-in_ok-values-in-InitArray : goal.exec-returns-in_ok-values-in-InitArray
exec-returns-in_ok-values-in-InitArray t c = then-goes (forms.array-parts c.args.setting.now c.args.frame
    (steps_of c.args.path.now) c.args.machine.now c.args.stmt.now c.in-InitArray.stmt c.in-InitArray.array
    c.in-InitArray.values c.in-InitArray.is) (Ok Next) c.given_elements.new.machine c.set_elements.new.self
    c.in_ok-values-in-InitArray.values.items
    (rw (← c.as_slice-in-InitArray.ensures.value) c.in_ok-values-in-InitArray.ensures)
    (ap (λ s. (Ok Next, s)) (sym (c.set_elements.ensures
    ∙ ap (λ zs. with_elements c.given_elements.new.machine c.in-InitArray.array (elements_with (length
    (elements_of c.given_elements.new.machine c.in-InitArray.array)) zs))
    c.as_slice-in-InitArray-2.ensures.value)))

pub exec-returns-in_err-index-in-Store : goal.exec-returns-in_err-index-in-Store
exec-returns-in_err-index-in-Store t c = let p = err_from_is_err_and
    c.from_residual-in_err-index-in-Store.result c.from_residual-in_err-index-in-Store.ensures.1 in
    then-ends (forms.store-parts c.args.setting.now c.args.frame (steps_of c.args.path.now) c.args.machine.now
    c.args.stmt.now c.in-Store.stmt c.in-Store.array c.in-Store.index c.in-Store.value c.in-Store.is)
    c.from_residual-in_err-index-in-Store.result c.given_element.new.machine p.1 (rw p.2
    c.in_err-index-in-Store.ensures)

pub exec-returns-in_ok-index-in-Store : goal.exec-returns-in_ok-index-in-Store
exec-returns-in_ok-index-in-Store t c = let fits_i : SFits w64 c.in_ok-index-in-Store.index = search rules in
    let fits : SFits w64 c.in_ok-index-in-Store.value = search rules in
    then-goes (forms.store-parts c.args.setting.now c.args.frame (steps_of c.args.path.now) c.args.machine.now
    c.args.stmt.now c.in-Store.stmt c.in-Store.array c.in-Store.index c.in-Store.value c.in-Store.is)
    c.set_element.result c.given_element.new.machine c.set_element.new.self (
      c.in_ok-index-in-Store.index,
      c.in_ok-index-in-Store.value,
    )
    c.in_ok-index-in-Store.ensures (simp to_z-of_z at c.set_element.ensures)

pub exec-returns-in_err-value-in-If : goal.exec-returns-in_err-value-in-If
exec-returns-in_err-value-in-If t c = let p = err_from_is_err_and c.from_residual-in_err-value-in-If.result
    c.from_residual-in_err-value-in-If.ensures.1 in
    then-ends (forms.if-parts c.args.setting.now c.args.frame (steps_of c.args.path.now) c.args.machine.now
    c.args.stmt.now c.in-If.stmt c.in-If.when c.in-If.yes c.in-If.no c.in-If.is)
    c.from_residual-in_err-value-in-If.result c.given.new.machine p.1 (rw p.2 c.in_err-value-in-If.ensures)

pub exec-returns-in-Some : goal.exec-returns-in-Some
exec-returns-in-Some t c = let fits : SFits w64 c.in_ok-value-in-If.value = search rules in
    then-goes (forms.if-parts c.args.setting.now c.args.frame (steps_of c.args.path.now) c.args.machine.now
    c.args.stmt.now c.in-If.stmt c.in-If.when c.in-If.yes c.in-If.no c.in-If.is) c.exec.result
    c.given.new.machine c.exec.new.machine c.in_ok-value-in-If.value c.in_ok-value-in-If.ensures
    (fork-zero c.in_ok-value-in-If.value c.exec.result c.given.new.machine c.exec.new.machine (exec
    (context_at c.args.setting.now c.args.frame) c.in-If.yes.value (steps_of c.args.path.now)) (otherwise
    (context_at c.args.setting.now c.args.frame) (steps_of c.args.path.now) c.in-If.no) (simp to_z-of_z at
    (sym c.is_zero.ensures ∙ c.if-is_zero.true))
    (subst (λ o. Did c.exec.result c.exec.new.machine (otherwise (context_at c.args.setting.now c.args.frame)
    (steps_of c.args.path.now) o c.given.new.machine)) (sym c.in-Some.is)
    (rw (← c.deref.ensures) c.exec.ensures)))

pub exec-returns-in-None : goal.exec-returns-in-None
exec-returns-in-None t c = let fits : SFits w64 c.in_ok-value-in-If.value = search rules in
    then-goes (forms.if-parts c.args.setting.now c.args.frame (steps_of c.args.path.now) c.args.machine.now
    c.args.stmt.now c.in-If.stmt c.in-If.when c.in-If.yes c.in-If.no c.in-If.is) (Ok Next) c.given.new.machine
    c.given.new.machine c.in_ok-value-in-If.value c.in_ok-value-in-If.ensures
    (fork-zero c.in_ok-value-in-If.value (Ok Next) c.given.new.machine c.given.new.machine (exec (context_at
    c.args.setting.now c.args.frame) c.in-If.yes.value (steps_of c.args.path.now)) (otherwise (context_at
    c.args.setting.now c.args.frame) (steps_of c.args.path.now) c.in-If.no) (simp to_z-of_z at (sym
    c.is_zero.ensures ∙ c.if-is_zero.true))
    (subst (λ o. Did (Ok Next) c.given.new.machine (otherwise (context_at c.args.setting.now c.args.frame)
    (steps_of c.args.path.now) o c.given.new.machine)) (sym c.in-None.is) refl))

pub exec-returns-else-is_zero : goal.exec-returns-else-is_zero
exec-returns-else-is_zero t c = let fits : SFits w64 c.in_ok-value-in-If.value = search rules in
    then-goes (forms.if-parts c.args.setting.now c.args.frame (steps_of c.args.path.now) c.args.machine.now
    c.args.stmt.now c.in-If.stmt c.in-If.when c.in-If.yes c.in-If.no c.in-If.is) c.exec-else-is_zero.result
    c.given.new.machine c.exec-else-is_zero.new.machine c.in_ok-value-in-If.value c.in_ok-value-in-If.ensures
    (fork-other c.in_ok-value-in-If.value c.exec-else-is_zero.result c.given.new.machine
    c.exec-else-is_zero.new.machine (exec (context_at c.args.setting.now c.args.frame) c.in-If.yes.value
    (steps_of c.args.path.now)) (otherwise (context_at c.args.setting.now c.args.frame) (steps_of
    c.args.path.now) c.in-If.no) (simp to_z-of_z at (sym c.is_zero.ensures ∙ c.if-is_zero.false))
    (rw (← c.deref-else-is_zero.ensures) c.exec-else-is_zero.ensures))

pub exec-returns-in_err-value-in-Switch : goal.exec-returns-in_err-value-in-Switch
exec-returns-in_err-value-in-Switch t c = let p = err_from_is_err_and
    c.from_residual-in_err-value-in-Switch.result c.from_residual-in_err-value-in-Switch.ensures.1 in
    then-ends (forms.switch-parts c.args.setting.now c.args.frame (steps_of c.args.path.now)
    c.args.machine.now c.args.stmt.now c.in-Switch.stmt c.in-Switch.t c.in-Switch.on c.in-Switch.starts
    c.in-Switch.other c.in-Switch.body c.in-Switch.is)
    c.from_residual-in_err-value-in-Switch.result c.given-in-Switch.new.machine p.1 (rw p.2
    c.in_err-value-in-Switch.ensures)

pub exec-returns-in_err-flow-in-Switch : goal.exec-returns-in_err-flow-in-Switch
exec-returns-in_err-flow-in-Switch t c = let p = err_from_is_err_and
    c.from_residual-in_err-flow-in-Switch.result c.from_residual-in_err-flow-in-Switch.ensures.1 in
    let fits : SFits w64 c.in_ok-value-in-Switch.value = search rules in
    then-goes (forms.switch-parts c.args.setting.now c.args.frame (steps_of c.args.path.now)
    c.args.machine.now c.args.stmt.now c.in-Switch.stmt c.in-Switch.t c.in-Switch.on c.in-Switch.starts
    c.in-Switch.other c.in-Switch.body c.in-Switch.is)
    c.from_residual-in_err-flow-in-Switch.result c.given-in-Switch.new.machine
    c.exec_all-in-Switch.new.machine c.in_ok-value-in-Switch.value c.in_ok-value-in-Switch.ensures
    (then-ends (forms.labelled-parts (context_at c.args.setting.now c.args.frame) (steps_of
    c.args.path.now) c.given-in-Switch.new.machine c.in-Switch.starts.items c.in-Switch.other
    c.in-Switch.body.items c.entered-part.result.now c.in_ok-value-in-Switch.value
    (forms.part-is c.in-Switch.starts.items c.as_slice-in-Switch.result.now c.in_ok-value-in-Switch.value
    c.in-Switch.other c.label_at-label.result c.in-Switch.body.items c.as_slice-in-Switch-2.result.now
    c.entered-part.result.now c.as_slice-in-Switch.ensures.value c.as_slice-in-Switch-2.ensures.value
    (simp to_z-of_z at c.label_at-label.ensures) c.entered-part.ensures))
    c.from_residual-in_err-flow-in-Switch.result c.exec_all-in-Switch.new.machine p.1 (rw p.2
    c.in_err-flow-in-Switch.ensures))

pub exec-returns-in_ok-flow-in-Switch : goal.exec-returns-in_ok-flow-in-Switch
exec-returns-in_ok-flow-in-Switch t c = let fits : SFits w64 c.in_ok-value-in-Switch.value = search rules in
    then-goes (forms.switch-parts c.args.setting.now c.args.frame (steps_of c.args.path.now)
    c.args.machine.now c.args.stmt.now c.in-Switch.stmt c.in-Switch.t c.in-Switch.on c.in-Switch.starts
    c.in-Switch.other c.in-Switch.body c.in-Switch.is)
    (Ok c.flow_after_loop.result) c.given-in-Switch.new.machine c.exec_all-in-Switch.new.machine
    c.in_ok-value-in-Switch.value c.in_ok-value-in-Switch.ensures
    (then-goes (forms.labelled-parts (context_at c.args.setting.now c.args.frame) (steps_of
    c.args.path.now) c.given-in-Switch.new.machine c.in-Switch.starts.items c.in-Switch.other
    c.in-Switch.body.items c.entered-part.result.now c.in_ok-value-in-Switch.value
    (forms.part-is c.in-Switch.starts.items c.as_slice-in-Switch.result.now c.in_ok-value-in-Switch.value
    c.in-Switch.other c.label_at-label.result c.in-Switch.body.items c.as_slice-in-Switch-2.result.now
    c.entered-part.result.now c.as_slice-in-Switch.ensures.value c.as_slice-in-Switch-2.ensures.value
    (simp to_z-of_z at c.label_at-label.ensures) c.entered-part.ensures))
    (Ok c.flow_after_loop.result) c.exec_all-in-Switch.new.machine c.exec_all-in-Switch.new.machine
    c.in_ok-flow-in-Switch.flow c.in_ok-flow-in-Switch.ensures
    (ap (λ flow. (Ok flow, c.exec_all-in-Switch.new.machine)) (sym c.flow_after_loop.ensures)))

pub exec-returns-in-While : goal.exec-returns-in-While
exec-returns-in-While t c = did-is c.for_loop.result c.for_loop.new.machine (exec (context_at
    c.args.setting.now c.args.frame) c.args.stmt.now (steps_of c.args.path.now) c.args.machine.now)
    (for_loop_at (context_at c.args.setting.now c.args.frame) (record {
      stmt = c.in-While.stmt;
      when =
          c.in-While.when;
      body = c.deref-in-While.result.now;
      step = [];
    }) (steps_of c.args.path.now)
    c.args.machine.now)
    (forms.while-is c.args.setting.now c.args.frame (steps_of c.args.path.now) c.args.machine.now
    c.args.stmt.now (record {
      stmt = c.in-While.stmt;
      when = c.in-While.when;
      body =
          c.deref-in-While.result.now;
      step = [];
    }) c.in-While.stmt c.in-While.when c.in-While.body c.in-While.is
    (ap (λ body. record { stmt = c.in-While.stmt; when = c.in-While.when; body = body; step = [] })
    c.deref-in-While.ensures)) c.for_loop.ensures

pub exec-returns-in-DoWhile : goal.exec-returns-in-DoWhile
exec-returns-in-DoWhile t c = did-is c.do_loop.result c.do_loop.new.machine (exec (context_at
    c.args.setting.now c.args.frame) c.args.stmt.now (steps_of c.args.path.now) c.args.machine.now)
    (do_loop_at (context_at c.args.setting.now c.args.frame) (record {
      stmt = c.in-DoWhile.stmt;
      when =
          c.in-DoWhile.when;
      body = c.deref-in-DoWhile.result.now;
      step = [];
    }) (steps_of c.args.path.now)
    c.args.machine.now)
    (forms.do-is c.args.setting.now c.args.frame (steps_of c.args.path.now) c.args.machine.now c.args.stmt.now
    (record {
      stmt = c.in-DoWhile.stmt;
      when = c.in-DoWhile.when;
      body = c.deref-in-DoWhile.result.now;
      step =
          [];
    }) c.in-DoWhile.stmt c.in-DoWhile.when c.in-DoWhile.body c.in-DoWhile.is
    (ap (λ body. record { stmt = c.in-DoWhile.stmt; when = c.in-DoWhile.when; body = body; step = [] })
    c.deref-in-DoWhile.ensures)) c.do_loop.ensures

pub exec-returns-in_err-exec_all-in-For : goal.exec-returns-in_err-exec_all-in-For
exec-returns-in_err-exec_all-in-For t c = let p = err_from_is_err_and
    c.from_residual-in_err-exec_all-in-For.result c.from_residual-in_err-exec_all-in-For.ensures.1 in
    then-ends (forms.for-first c.args.setting.now c.args.frame (steps_of c.args.path.now) c.args.machine.now
    c.args.stmt.now c.in-For.stmt c.in-For.first c.in-For.when c.in-For.step c.in-For.body c.in-For.is)
    c.from_residual-in_err-exec_all-in-For.result c.exec_all-in-For.new.machine p.1
    (rw (p.2, ← c.as_slice-in-For.ensures.value) c.in_err-exec_all-in-For.ensures)

pub exec-returns-in-Leaves : goal.exec-returns-in-Leaves
exec-returns-in-Leaves t c = then-goes (forms.for-first c.args.setting.now c.args.frame (steps_of
    c.args.path.now) c.args.machine.now c.args.stmt.now c.in-For.stmt c.in-For.first c.in-For.when
    c.in-For.step c.in-For.body c.in-For.is) (Ok (Leaves c.in-Leaves.exit)) c.exec_all-in-For.new.machine
    c.exec_all-in-For.new.machine (Leaves c.in-Leaves.exit)
    (subst (λ flow. Did (Ok flow) c.exec_all-in-For.new.machine (exec_all (context_at c.args.setting.now
    c.args.frame) (steps_of c.args.path.now) c.in-For.first.items c.args.machine.now)) c.in-Leaves.is
    (rw (← c.as_slice-in-For.ensures.value) c.in_ok-exec_all-in-For.ensures)) refl

pub exec-returns-in-Next : goal.exec-returns-in-Next
exec-returns-in-Next t c = then-goes (forms.for-parts c.args.setting.now c.args.frame (steps_of
    c.args.path.now) c.args.machine.now c.args.stmt.now (record {
      stmt = c.in-For.stmt;
      when = c.in-For.when;
      body = c.deref-in-For.result.now;
      step = c.as_slice-in-For-2.result.now;
    }) c.in-For.stmt c.in-For.first
    c.in-For.when c.in-For.step c.in-For.body c.in-For.is
    (ap (λ body. record {
      stmt = c.in-For.stmt;
      when = c.in-For.when;
      body = body;
      step =
          c.as_slice-in-For-2.result.now;
    }) c.deref-in-For.ensures
    ∙ ap (λ step. record {
      stmt = c.in-For.stmt;
      when = c.in-For.when;
      body = c.in-For.body.value;
      step = step;
    }) c.as_slice-in-For-2.ensures.value))
    c.for_loop-in-For.result c.exec_all-in-For.new.machine c.for_loop-in-For.new.machine Next
    (subst (λ flow. Did (Ok flow) c.exec_all-in-For.new.machine (exec_all (context_at c.args.setting.now
    c.args.frame) (steps_of c.args.path.now) c.in-For.first.items c.args.machine.now)) c.in-Next.is
    (rw (← c.as_slice-in-For.ensures.value) c.in_ok-exec_all-in-For.ensures)) c.for_loop-in-For.ensures

pub exec-returns-in-Break : goal.exec-returns-in-Break
exec-returns-in-Break t c = forms.break-is c.args.setting.now c.args.frame (steps_of c.args.path.now)
    c.args.machine.now c.args.stmt.now c.in-Break.is

pub exec-returns-in-Continue : goal.exec-returns-in-Continue
exec-returns-in-Continue t c = forms.continue-is c.args.setting.now c.args.frame (steps_of c.args.path.now)
    c.args.machine.now c.args.stmt.now c.in-Continue.is

pub exec-returns-in-ReturnNone : goal.exec-returns-in-ReturnNone
exec-returns-in-ReturnNone t c = forms.return-none-is c.args.setting.now c.args.frame (steps_of
    c.args.path.now) c.args.machine.now c.args.stmt.now c.in-ReturnNone.is

pub exec-returns-in_err-value-in-Return : goal.exec-returns-in_err-value-in-Return
exec-returns-in_err-value-in-Return t c = let p = err_from_is_err_and
    c.from_residual-in_err-value-in-Return.result c.from_residual-in_err-value-in-Return.ensures.1 in
    then-ends (forms.return-parts c.args.setting.now c.args.frame (steps_of c.args.path.now)
    c.args.machine.now c.args.stmt.now c.in-Return.stmt c.in-Return.value c.unwrap_or-t.result c.in-Return.is
    c.unwrap_or-t.ensures) c.from_residual-in_err-value-in-Return.result c.given-in-Return.new.machine p.1 (rw
    p.2 c.in_err-value-in-Return.ensures)

pub exec-returns-in_ok-value-in-Return : goal.exec-returns-in_ok-value-in-Return
exec-returns-in_ok-value-in-Return t c = let fits : SFits w64 c.in_ok-value-in-Return.value = search rules in
    then-goes (forms.return-parts c.args.setting.now c.args.frame (steps_of c.args.path.now)
    c.args.machine.now c.args.stmt.now c.in-Return.stmt c.in-Return.value c.unwrap_or-t.result c.in-Return.is
    c.unwrap_or-t.ensures) (Ok (Leaves (Return (to_z w64 (of_z w64 c.in_ok-value-in-Return.value)))))
    c.given-in-Return.new.machine c.given-in-Return.new.machine
    c.in_ok-value-in-Return.value c.in_ok-value-in-Return.ensures
    (ap (λ z. (Ok (Leaves (Return z)), c.given-in-Return.new.machine)) (sym (to_z-of_z fits)))

pub exec-returns-in_err-call_effect-in-CallStmt : goal.exec-returns-in_err-call_effect-in-CallStmt
exec-returns-in_err-call_effect-in-CallStmt t c = let p = err_from_is_err_and
    c.from_residual-in_err-call_effect-in-CallStmt.result
    c.from_residual-in_err-call_effect-in-CallStmt.ensures.1 in
    then-ends (forms.call-parts c.args.setting.now c.args.frame (steps_of c.args.path.now) c.args.machine.now
    c.args.stmt.now c.in-CallStmt.stmt c.in-CallStmt.call c.in-CallStmt.function c.in-CallStmt.args
    c.in-CallStmt.is) c.from_residual-in_err-call_effect-in-CallStmt.result c.call_effect.new.machine p.1
    (rw (p.2, ← c.as_slice-in-CallStmt.ensures.value) c.in_err-call_effect-in-CallStmt.ensures)

pub exec-returns-in_ok-call_effect-in-CallStmt : goal.exec-returns-in_ok-call_effect-in-CallStmt
exec-returns-in_ok-call_effect-in-CallStmt t c = then-goes (forms.call-parts c.args.setting.now c.args.frame
    (steps_of c.args.path.now) c.args.machine.now c.args.stmt.now c.in-CallStmt.stmt c.in-CallStmt.call
    c.in-CallStmt.function c.in-CallStmt.args c.in-CallStmt.is) (Ok Next) c.call_effect.new.machine
    c.call_effect.new.machine tt
    (rw (← c.as_slice-in-CallStmt.ensures.value) c.in_ok-call_effect-in-CallStmt.ensures) refl

pub exec-returns-in_err-print_effect-in-Print : goal.exec-returns-in_err-print_effect-in-Print
exec-returns-in_err-print_effect-in-Print t c = let p = err_from_is_err_and
    c.from_residual-in_err-print_effect-in-Print.result c.from_residual-in_err-print_effect-in-Print.ensures.1
    in
    then-ends (forms.print-parts c.args.setting.now c.args.frame (steps_of c.args.path.now) c.args.machine.now
    c.args.stmt.now c.in-Print.stmt c.in-Print.args c.in-Print.is)
    c.from_residual-in_err-print_effect-in-Print.result c.print_effect.new.machine p.1
    (rw (p.2, ← c.as_slice-in-Print.ensures.value) c.in_err-print_effect-in-Print.ensures)

pub exec-returns-in_ok-print_effect-in-Print : goal.exec-returns-in_ok-print_effect-in-Print
exec-returns-in_ok-print_effect-in-Print t c = then-goes (forms.print-parts c.args.setting.now c.args.frame
    (steps_of c.args.path.now) c.args.machine.now c.args.stmt.now c.in-Print.stmt c.in-Print.args
    c.in-Print.is) (Ok Next) c.print_effect.new.machine c.print_effect.new.machine tt
    (rw (← c.as_slice-in-Print.ensures.value) c.in_ok-print_effect-in-Print.ensures) refl

pub exec-returns-in_err-value-in-Assert : goal.exec-returns-in_err-value-in-Assert
exec-returns-in_err-value-in-Assert t c = let p = err_from_is_err_and
    c.from_residual-in_err-value-in-Assert.result c.from_residual-in_err-value-in-Assert.ensures.1 in
    then-ends (forms.assert-parts c.args.setting.now c.args.frame (steps_of c.args.path.now)
    c.args.machine.now c.args.stmt.now c.in-Assert.stmt c.in-Assert.when c.in-Assert.is)
    c.from_residual-in_err-value-in-Assert.result c.eval.new.machine p.1 (rw p.2
    c.in_err-value-in-Assert.ensures)

pub exec-returns-in_ok-value-in-Assert : goal.exec-returns-in_ok-value-in-Assert
exec-returns-in_ok-value-in-Assert t c = let fits : SFits w64 c.in_ok-value-in-Assert.value = search rules in
    then-goes (forms.assert-parts c.args.setting.now c.args.frame (steps_of c.args.path.now)
    c.args.machine.now c.args.stmt.now c.in-Assert.stmt c.in-Assert.when c.in-Assert.is) c.assert_that.result
    c.eval.new.machine c.eval.new.machine c.in_ok-value-in-Assert.value c.in_ok-value-in-Assert.ensures
    (simp to_z-of_z at (c.assert_that.ensures c.eval.new.machine))

pub exec_all-returns-in_err-exec : goal.exec_all-returns-in_err-exec
exec_all-returns-in_err-exec t c = let p = err_from_is_err_and c.from_residual.result
    c.from_residual.ensures.1 in
    then-ends (row-parts (context_at c.args.setting.now c.args.frame) (steps_of c.args.path.now)
    c.args.body.now c.loop-stmt.stmt-index c.loop-stmt.machine c.args.machine.now c.loop-stmt.invariant
    c.stmt-item.result (search rules) (search rules)) c.from_residual.result c.exec.new.machine p.1 (rw p.2
    c.in_err-exec.ensures)

pub exec_all-returns-in-Leaves : goal.exec_all-returns-in-Leaves
exec_all-returns-in-Leaves t c = then-goes (row-parts (context_at c.args.setting.now c.args.frame) (steps_of
    c.args.path.now) c.args.body.now c.loop-stmt.stmt-index c.loop-stmt.machine c.args.machine.now
    c.loop-stmt.invariant c.stmt-item.result (search rules) (search rules))
    (Ok (Leaves c.in-Leaves.exit)) c.exec.new.machine c.exec.new.machine (Leaves c.in-Leaves.exit)
    (subst (λ flow. Did (Ok flow) c.exec.new.machine (exec (context_at c.args.setting.now c.args.frame)
    c.stmt-item.result (steps_of c.args.path.now) c.loop-stmt.machine)) c.in-Leaves.is c.in_ok-exec.ensures)
    refl

pub exec_all-loop-stmt-preserved : goal.exec_all-loop-stmt-preserved
exec_all-loop-stmt-preserved t c = row-goes (context_at c.args.setting.now c.args.frame) (steps_of
    c.args.path.now) c.args.body.now c.loop-stmt.stmt-index c.loop-stmt.machine c.args.machine.now
    c.loop-stmt.invariant c.stmt-item.result (search rules) (search rules) c.exec.new.machine
    (subst (λ flow. Did (Ok flow) c.exec.new.machine (exec (context_at c.args.setting.now c.args.frame)
    c.stmt-item.result (steps_of c.args.path.now) c.loop-stmt.machine)) c.in-Next.is c.in_ok-exec.ensures)

pub exec_all-returns : goal.exec_all-returns
exec_all-returns t c = row-done (context_at c.args.setting.now c.args.frame) (steps_of c.args.path.now)
    c.args.body.now c.loop-stmt.stmt-index c.loop-stmt.machine c.args.machine.now c.loop-stmt.invariant
    (search rules)

pub turn-returns-in_err-flow : goal.turn-returns-in_err-flow
turn-returns-in_err-flow t c = let p = err_from_is_err_and c.from_residual.result c.from_residual.ensures.1 in
    then-ends (turn-parts (context_at c.args.setting.now c.args.frame) (parts_of c.args.parts.now) (steps_of
    c.args.path.now) c.args.machine.now) c.from_residual.result c.exec.new.machine p.1 (rw p.2
    c.in_err-flow.ensures)

pub turn-returns-in-Next : goal.turn-returns-in-Next
turn-returns-in-Next t c = then-goes (turn-parts (context_at c.args.setting.now c.args.frame) (parts_of
    c.args.parts.now) (steps_of c.args.path.now) c.args.machine.now) c.exec_all.result c.exec.new.machine
    c.exec_all.new.machine c.in_ok-flow.flow c.in_ok-flow.ensures
    (subst (λ flow. Did c.exec_all.result c.exec_all.new.machine (after_part (exec_all (context_at
    c.args.setting.now c.args.frame) (steps_of c.args.path.now) (parts_of c.args.parts.now).step) flow
    c.exec.new.machine)) (sym (sym c.flow_after_body.ensures ∙ c.in-Next.is)) c.exec_all.ensures)

pub turn-returns-in-Leaves : goal.turn-returns-in-Leaves
turn-returns-in-Leaves t c = then-goes (turn-parts (context_at c.args.setting.now c.args.frame) (parts_of
    c.args.parts.now) (steps_of c.args.path.now) c.args.machine.now) (Ok (Leaves c.in-Leaves.exit))
    c.exec.new.machine c.exec.new.machine c.in_ok-flow.flow c.in_ok-flow.ensures
    (subst (λ flow. Did (Ok (Leaves c.in-Leaves.exit)) c.exec.new.machine (after_part (exec_all (context_at
    c.args.setting.now c.args.frame) (steps_of c.args.path.now) (parts_of c.args.parts.now).step) flow
    c.exec.new.machine)) (sym (sym c.flow_after_body.ensures ∙ c.in-Leaves.is)) refl)

pub for_loop-returns-in_err-value : goal.for_loop-returns-in_err-value
for_loop-returns-in_err-value t c = let p = err_from_is_err_and c.from_residual.result
    c.from_residual.ensures.1 in
    test-ends (test_at (context_at c.args.setting.now c.args.frame) (parts_of c.args.parts.now) (steps_of
    c.args.path.now)) (λ k. turn_at (context_at c.args.setting.now c.args.frame) (parts_of c.args.parts.now)
    (in_turn (parts_of c.args.parts.now).stmt k (steps_of c.args.path.now))) (halt_with (Beyond (parts_of
    c.args.parts.now).stmt)) (for_loop_at (context_at c.args.setting.now c.args.frame) (parts_of
    c.args.parts.now) (steps_of c.args.path.now) c.args.machine.now) (c.args.setting.now.turns - c.loop-k.k)
    (c.loop-k.k + 1) c.loop-k.machine (for-now c.args.setting.now c.args.frame (steps_of c.args.path.now)
    (parts_of c.args.parts.now) c.args.machine.now c.loop-k.machine c.loop-k.k c.loop-k.invariant)
    c.from_residual.result p.0 c.given.new.machine p.1
    (tested c.args.setting.now c.args.frame (steps_of c.args.path.now) (parts_of c.args.parts.now)
    c.args.machine.now c.loop-k.machine (c.loop-k.k + 1) (steps_of c.within-inside.result) (sym (sym
    c.within-inside.ensures)) (Err p.0) c.given.new.machine (rw p.2 c.in_err-value.ensures))

pub for_loop-returns-then-is_zero : goal.for_loop-returns-then-is_zero
for_loop-returns-then-is_zero t c = let fits : SFits w64 c.in_ok-value.value = search rules in
    zero-ends (test_at (context_at c.args.setting.now c.args.frame) (parts_of c.args.parts.now) (steps_of
    c.args.path.now)) (λ k. turn_at (context_at c.args.setting.now c.args.frame) (parts_of c.args.parts.now)
    (in_turn (parts_of c.args.parts.now).stmt k (steps_of c.args.path.now))) (halt_with (Beyond (parts_of
    c.args.parts.now).stmt)) (for_loop_at (context_at c.args.setting.now c.args.frame) (parts_of
    c.args.parts.now) (steps_of c.args.path.now) c.args.machine.now) (c.args.setting.now.turns - c.loop-k.k)
    (c.loop-k.k + 1) c.loop-k.machine (for-now c.args.setting.now c.args.frame (steps_of c.args.path.now)
    (parts_of c.args.parts.now) c.args.machine.now c.loop-k.machine c.loop-k.k c.loop-k.invariant)
    c.in_ok-value.value c.given.new.machine
    (tested c.args.setting.now c.args.frame (steps_of c.args.path.now) (parts_of c.args.parts.now)
    c.args.machine.now c.loop-k.machine (c.loop-k.k + 1) (steps_of c.within-inside.result) (sym (sym
    c.within-inside.ensures)) (Ok c.in_ok-value.value) c.given.new.machine c.in_ok-value.ensures) (simp
    to_z-of_z at (sym c.is_zero.ensures ∙ c.if-is_zero.true))

pub for_loop-returns-in_err-turn : goal.for_loop-returns-in_err-turn
for_loop-returns-in_err-turn t c = let p = err_from_is_err_and c.from_residual-in_err-turn.result
    c.from_residual-in_err-turn.ensures.1 in
    let fits : SFits w64 c.in_ok-value.value = search rules in
    turn-ends (test_at (context_at c.args.setting.now c.args.frame) (parts_of c.args.parts.now) (steps_of
    c.args.path.now)) (λ k. turn_at (context_at c.args.setting.now c.args.frame) (parts_of c.args.parts.now)
    (in_turn (parts_of c.args.parts.now).stmt k (steps_of c.args.path.now))) (halt_with (Beyond (parts_of
    c.args.parts.now).stmt)) (for_loop_at (context_at c.args.setting.now c.args.frame) (parts_of
    c.args.parts.now) (steps_of c.args.path.now) c.args.machine.now) (c.args.setting.now.turns - (c.loop-k.k +
    1)) (c.loop-k.k + 1) c.loop-k.machine (for-more c.args.setting.now c.args.frame (steps_of c.args.path.now)
    (parts_of c.args.parts.now) c.args.machine.now c.loop-k.machine c.loop-k.k c.loop-k.invariant (search
    rules)) c.from_residual-in_err-turn.result p.0 c.in_ok-value.value c.given.new.machine c.turn.new.machine
    (tested c.args.setting.now c.args.frame (steps_of c.args.path.now) (parts_of c.args.parts.now)
    c.args.machine.now c.loop-k.machine (c.loop-k.k + 1) (steps_of c.within-inside.result) (sym (sym
    c.within-inside.ensures)) (Ok c.in_ok-value.value) c.given.new.machine c.in_ok-value.ensures) (simp
    to_z-of_z at (sym c.is_zero.ensures
    ∙ c.if-is_zero.false)) p.1 (turned c.args.setting.now c.args.frame (steps_of c.args.path.now) (parts_of
    c.args.parts.now) c.args.machine.now c.given.new.machine (c.loop-k.k + 1) (steps_of
    c.within-inside.result) c.within-inside.ensures (Err p.0) c.turn.new.machine (rw p.2
    c.in_err-turn.ensures))

pub for_loop-returns-in-Leaves : goal.for_loop-returns-in-Leaves
for_loop-returns-in-Leaves t c = let fits : SFits w64 c.in_ok-value.value = search rules in
    subst (λ flow. Did (Ok flow) c.turn.new.machine (for_loop_at (context_at c.args.setting.now c.args.frame)
    (parts_of c.args.parts.now) (steps_of c.args.path.now) c.args.machine.now)) (sym
    c.flow_after_loop.ensures)
    (turn-leaves (test_at (context_at c.args.setting.now c.args.frame) (parts_of c.args.parts.now) (steps_of
    c.args.path.now)) (λ k. turn_at (context_at c.args.setting.now c.args.frame) (parts_of c.args.parts.now)
    (in_turn (parts_of c.args.parts.now).stmt k (steps_of c.args.path.now))) (halt_with (Beyond (parts_of
    c.args.parts.now).stmt)) (for_loop_at (context_at c.args.setting.now c.args.frame) (parts_of
    c.args.parts.now) (steps_of c.args.path.now) c.args.machine.now) (c.args.setting.now.turns - (c.loop-k.k +
    1)) (c.loop-k.k + 1) c.loop-k.machine (for-more c.args.setting.now c.args.frame (steps_of c.args.path.now)
    (parts_of c.args.parts.now) c.args.machine.now c.loop-k.machine c.loop-k.k c.loop-k.invariant (search
    rules)) c.in-Leaves.exit c.in_ok-value.value c.given.new.machine c.turn.new.machine
    (tested c.args.setting.now c.args.frame (steps_of c.args.path.now) (parts_of c.args.parts.now)
    c.args.machine.now c.loop-k.machine (c.loop-k.k + 1) (steps_of c.within-inside.result) (sym (sym
    c.within-inside.ensures)) (Ok c.in_ok-value.value) c.given.new.machine c.in_ok-value.ensures) (simp
    to_z-of_z at (sym c.is_zero.ensures
    ∙ c.if-is_zero.false)) (turned c.args.setting.now c.args.frame (steps_of c.args.path.now) (parts_of
    c.args.parts.now) c.args.machine.now c.given.new.machine (c.loop-k.k + 1) (steps_of
    c.within-inside.result) c.within-inside.ensures (Ok (Leaves c.in-Leaves.exit)) c.turn.new.machine (subst
    (λ flow. Did (Ok flow) c.turn.new.machine (turn_at (context_at c.args.setting.now c.args.frame) (parts_of
    c.args.parts.now) (steps_of c.within-inside.result) c.given.new.machine)) c.in-Leaves.is
    c.in_ok-turn.ensures)))

pub for_loop-loop-k-preserved : goal.for_loop-loop-k-preserved
for_loop-loop-k-preserved t c = let fits : SFits w64 c.in_ok-value.value = search rules in
    for-again c.args.setting.now c.args.frame (steps_of c.args.path.now) (parts_of c.args.parts.now)
    c.args.machine.now c.loop-k.machine c.loop-k.k c.loop-k.invariant (search rules) c.turn.new.machine
    (turn-again (test_at (context_at c.args.setting.now c.args.frame) (parts_of c.args.parts.now) (steps_of
    c.args.path.now)) (λ k. turn_at (context_at c.args.setting.now c.args.frame) (parts_of c.args.parts.now)
    (in_turn (parts_of c.args.parts.now).stmt k (steps_of c.args.path.now))) (halt_with (Beyond (parts_of
    c.args.parts.now).stmt)) (c.args.setting.now.turns - (c.loop-k.k + 1)) (c.loop-k.k + 1) c.loop-k.machine
    c.given.new.machine c.turn.new.machine c.in_ok-value.value
    (tested c.args.setting.now c.args.frame (steps_of c.args.path.now) (parts_of c.args.parts.now)
    c.args.machine.now c.loop-k.machine (c.loop-k.k + 1) (steps_of c.within-inside.result) (sym (sym
    c.within-inside.ensures)) (Ok c.in_ok-value.value) c.given.new.machine c.in_ok-value.ensures) (simp
    to_z-of_z at (sym c.is_zero.ensures
    ∙ c.if-is_zero.false)) (turned c.args.setting.now c.args.frame (steps_of c.args.path.now) (parts_of
    c.args.parts.now) c.args.machine.now c.given.new.machine (c.loop-k.k + 1) (steps_of
    c.within-inside.result) c.within-inside.ensures (Ok Next) c.turn.new.machine (subst (λ flow. Did (Ok flow)
    c.turn.new.machine (turn_at (context_at c.args.setting.now c.args.frame) (parts_of c.args.parts.now)
    (steps_of c.within-inside.result) c.given.new.machine)) c.in-Next.is c.in_ok-turn.ensures)))

pub for_loop-returns-in_err-value-2 : goal.for_loop-returns-in_err-value-2
for_loop-returns-in_err-value-2 t c = let p = err_from_is_err_and c.from_residual-in_err-value-2.result
    c.from_residual-in_err-value-2.ensures.1 in
    let at_end : c.args.setting.now.turns ≡ c.loop-k.k = search rules in
    test-ends (test_at (context_at c.args.setting.now c.args.frame) (parts_of c.args.parts.now) (steps_of
    c.args.path.now)) (λ k. turn_at (context_at c.args.setting.now c.args.frame) (parts_of c.args.parts.now)
    (in_turn (parts_of c.args.parts.now).stmt k (steps_of c.args.path.now))) (halt_with (Beyond (parts_of
    c.args.parts.now).stmt)) (for_loop_at (context_at c.args.setting.now c.args.frame) (parts_of
    c.args.parts.now) (steps_of c.args.path.now) c.args.machine.now) zero (c.loop-k.k + 1) c.loop-k.machine
    (for-last c.args.setting.now c.args.frame (steps_of c.args.path.now) (parts_of c.args.parts.now)
    c.args.machine.now c.loop-k.machine c.loop-k.k c.loop-k.invariant (search rules))
    c.from_residual-in_err-value-2.result p.0 c.given-2.new.machine p.1
    (tested c.args.setting.now c.args.frame (steps_of c.args.path.now) (parts_of c.args.parts.now)
    c.args.machine.now c.loop-k.machine (c.loop-k.k + 1) (steps_of c.within-past.result)
    (c.within-past.ensures ∙ ap (λ k. in_turn (parts_of c.args.parts.now).stmt (k + 1) (steps_of
    c.args.path.now)) at_end) (Err p.0) c.given-2.new.machine (rw p.2 c.in_err-value-2.ensures))

pub for_loop-returns : goal.for_loop-returns
for_loop-returns t c = let at_end : c.args.setting.now.turns ≡ c.loop-k.k = search rules in let fits : SFits
    w64 c.in_ok-value-2.value = search rules in
    past-is (test_at (context_at c.args.setting.now c.args.frame) (parts_of c.args.parts.now) (steps_of
    c.args.path.now)) (λ k. turn_at (context_at c.args.setting.now c.args.frame) (parts_of c.args.parts.now)
    (in_turn (parts_of c.args.parts.now).stmt k (steps_of c.args.path.now))) (halt_with (Beyond (parts_of
    c.args.parts.now).stmt)) (for_loop_at (context_at c.args.setting.now c.args.frame) (parts_of
    c.args.parts.now) (steps_of c.args.path.now) c.args.machine.now) (c.loop-k.k + 1) c.loop-k.machine
    c.given-2.new.machine (for-last c.args.setting.now c.args.frame (steps_of c.args.path.now) (parts_of
    c.args.parts.now) c.args.machine.now c.loop-k.machine c.loop-k.k c.loop-k.invariant (search rules))
    c.past_bound.result c.in_ok-value-2.value
    (tested c.args.setting.now c.args.frame (steps_of c.args.path.now) (parts_of c.args.parts.now)
    c.args.machine.now c.loop-k.machine (c.loop-k.k + 1) (steps_of c.within-past.result)
    (c.within-past.ensures ∙ ap (λ k. in_turn (parts_of c.args.parts.now).stmt (k + 1) (steps_of
    c.args.path.now)) at_end) (Ok c.in_ok-value-2.value) c.given-2.new.machine c.in_ok-value-2.ensures) (simp
    to_z-of_z at (c.past_bound.ensures c.given-2.new.machine))

pub do_loop-returns-in_err-value : goal.do_loop-returns-in_err-value
do_loop-returns-in_err-value t c = let p = err_from_is_err_and c.from_residual.result
    c.from_residual.ensures.1 in
    test-ends (test_behind (test_at (context_at c.args.setting.now c.args.frame) (parts_of c.args.parts.now)
    (steps_of c.args.path.now))) (λ k. turn_at (context_at c.args.setting.now c.args.frame) (parts_of
    c.args.parts.now) (in_turn (parts_of c.args.parts.now).stmt (k + 1) (steps_of c.args.path.now)))
    (halt_with (Beyond (parts_of c.args.parts.now).stmt)) (do_loop_at (context_at c.args.setting.now
    c.args.frame) (parts_of c.args.parts.now) (steps_of c.args.path.now) c.args.machine.now)
    (c.args.setting.now.turns - c.loop-k.k) c.loop-k.k c.loop-k.machine (do-now c.args.setting.now
    c.args.frame (steps_of c.args.path.now) (parts_of c.args.parts.now) c.args.machine.now c.loop-k.machine
    c.loop-k.k c.loop-k.invariant) c.from_residual.result p.0 c.test_behind.new.machine p.1
    (rw p.2 c.in_err-value.ensures)

pub do_loop-returns-then-is_zero : goal.do_loop-returns-then-is_zero
do_loop-returns-then-is_zero t c = let fits : SFits w64 c.in_ok-value.value = search rules in
    zero-ends (test_behind (test_at (context_at c.args.setting.now c.args.frame) (parts_of c.args.parts.now)
    (steps_of c.args.path.now))) (λ k. turn_at (context_at c.args.setting.now c.args.frame) (parts_of
    c.args.parts.now) (in_turn (parts_of c.args.parts.now).stmt (k + 1) (steps_of c.args.path.now)))
    (halt_with (Beyond (parts_of c.args.parts.now).stmt)) (do_loop_at (context_at c.args.setting.now
    c.args.frame) (parts_of c.args.parts.now) (steps_of c.args.path.now) c.args.machine.now)
    (c.args.setting.now.turns - c.loop-k.k) c.loop-k.k c.loop-k.machine (do-now c.args.setting.now
    c.args.frame (steps_of c.args.path.now) (parts_of c.args.parts.now) c.args.machine.now c.loop-k.machine
    c.loop-k.k c.loop-k.invariant) c.in_ok-value.value c.test_behind.new.machine
    c.in_ok-value.ensures (simp to_z-of_z at (sym c.is_zero.ensures ∙ c.if-is_zero.true))

pub do_loop-returns-in_err-turn : goal.do_loop-returns-in_err-turn
do_loop-returns-in_err-turn t c = let p = err_from_is_err_and c.from_residual-in_err-turn.result
    c.from_residual-in_err-turn.ensures.1 in
    let fits : SFits w64 c.in_ok-value.value = search rules in
    turn-ends (test_behind (test_at (context_at c.args.setting.now c.args.frame) (parts_of c.args.parts.now)
    (steps_of c.args.path.now))) (λ k. turn_at (context_at c.args.setting.now c.args.frame) (parts_of
    c.args.parts.now) (in_turn (parts_of c.args.parts.now).stmt (k + 1) (steps_of c.args.path.now)))
    (halt_with (Beyond (parts_of c.args.parts.now).stmt)) (do_loop_at (context_at c.args.setting.now
    c.args.frame) (parts_of c.args.parts.now) (steps_of c.args.path.now) c.args.machine.now)
    (c.args.setting.now.turns - (c.loop-k.k + 1)) c.loop-k.k c.loop-k.machine (do-more c.args.setting.now
    c.args.frame (steps_of c.args.path.now) (parts_of c.args.parts.now) c.args.machine.now c.loop-k.machine
    c.loop-k.k c.loop-k.invariant (search rules)) c.from_residual-in_err-turn.result p.0 c.in_ok-value.value
    c.test_behind.new.machine c.turn.new.machine
    c.in_ok-value.ensures (simp to_z-of_z at (sym c.is_zero.ensures
    ∙ c.if-is_zero.false)) p.1 (turned c.args.setting.now c.args.frame (steps_of c.args.path.now) (parts_of
    c.args.parts.now) c.args.machine.now c.test_behind.new.machine (c.loop-k.k + 1) (steps_of
    c.within-inside.result) c.within-inside.ensures (Err p.0) c.turn.new.machine (rw p.2
    c.in_err-turn.ensures))

pub do_loop-returns-in-Leaves : goal.do_loop-returns-in-Leaves
do_loop-returns-in-Leaves t c = let fits : SFits w64 c.in_ok-value.value = search rules in
    subst (λ flow. Did (Ok flow) c.turn.new.machine (do_loop_at (context_at c.args.setting.now c.args.frame)
    (parts_of c.args.parts.now) (steps_of c.args.path.now) c.args.machine.now)) (sym
    c.flow_after_loop.ensures)
    (turn-leaves (test_behind (test_at (context_at c.args.setting.now c.args.frame) (parts_of
    c.args.parts.now) (steps_of c.args.path.now))) (λ k. turn_at (context_at c.args.setting.now c.args.frame)
    (parts_of c.args.parts.now) (in_turn (parts_of c.args.parts.now).stmt (k + 1) (steps_of c.args.path.now)))
    (halt_with (Beyond (parts_of c.args.parts.now).stmt)) (do_loop_at (context_at c.args.setting.now
    c.args.frame) (parts_of c.args.parts.now) (steps_of c.args.path.now) c.args.machine.now)
    (c.args.setting.now.turns - (c.loop-k.k + 1)) c.loop-k.k c.loop-k.machine (do-more c.args.setting.now
    c.args.frame (steps_of c.args.path.now) (parts_of c.args.parts.now) c.args.machine.now c.loop-k.machine
    c.loop-k.k c.loop-k.invariant (search rules)) c.in-Leaves.exit c.in_ok-value.value
    c.test_behind.new.machine c.turn.new.machine
    c.in_ok-value.ensures (simp to_z-of_z at (sym c.is_zero.ensures
    ∙ c.if-is_zero.false)) (turned c.args.setting.now c.args.frame (steps_of c.args.path.now) (parts_of
    c.args.parts.now) c.args.machine.now c.test_behind.new.machine (c.loop-k.k + 1) (steps_of
    c.within-inside.result) c.within-inside.ensures (Ok (Leaves c.in-Leaves.exit)) c.turn.new.machine (subst
    (λ flow. Did (Ok flow) c.turn.new.machine (turn_at (context_at c.args.setting.now c.args.frame) (parts_of
    c.args.parts.now) (steps_of c.within-inside.result) c.test_behind.new.machine)) c.in-Leaves.is
    c.in_ok-turn.ensures)))

pub do_loop-loop-k-preserved : goal.do_loop-loop-k-preserved
do_loop-loop-k-preserved t c = let fits : SFits w64 c.in_ok-value.value = search rules in
    do-again c.args.setting.now c.args.frame (steps_of c.args.path.now) (parts_of c.args.parts.now)
    c.args.machine.now c.loop-k.machine c.loop-k.k c.loop-k.invariant (search rules) c.turn.new.machine
    (turn-again (test_behind (test_at (context_at c.args.setting.now c.args.frame) (parts_of c.args.parts.now)
    (steps_of c.args.path.now))) (λ k. turn_at (context_at c.args.setting.now c.args.frame) (parts_of
    c.args.parts.now) (in_turn (parts_of c.args.parts.now).stmt (k + 1) (steps_of c.args.path.now)))
    (halt_with (Beyond (parts_of c.args.parts.now).stmt)) (c.args.setting.now.turns - (c.loop-k.k + 1))
    c.loop-k.k c.loop-k.machine c.test_behind.new.machine c.turn.new.machine c.in_ok-value.value
    c.in_ok-value.ensures (simp to_z-of_z at (sym c.is_zero.ensures
    ∙ c.if-is_zero.false)) (turned c.args.setting.now c.args.frame (steps_of c.args.path.now) (parts_of
    c.args.parts.now) c.args.machine.now c.test_behind.new.machine (c.loop-k.k + 1) (steps_of
    c.within-inside.result) c.within-inside.ensures (Ok Next) c.turn.new.machine (subst (λ flow. Did (Ok flow)
    c.turn.new.machine (turn_at (context_at c.args.setting.now c.args.frame) (parts_of c.args.parts.now)
    (steps_of c.within-inside.result) c.test_behind.new.machine)) c.in-Next.is c.in_ok-turn.ensures)))

pub do_loop-returns-in_err-value-2 : goal.do_loop-returns-in_err-value-2
do_loop-returns-in_err-value-2 t c = let p = err_from_is_err_and c.from_residual-in_err-value-2.result
    c.from_residual-in_err-value-2.ensures.1 in
    let at_end : c.args.setting.now.turns ≡ c.loop-k.k = search rules in
    test-ends (test_behind (test_at (context_at c.args.setting.now c.args.frame) (parts_of c.args.parts.now)
    (steps_of c.args.path.now))) (λ k. turn_at (context_at c.args.setting.now c.args.frame) (parts_of
    c.args.parts.now) (in_turn (parts_of c.args.parts.now).stmt (k + 1) (steps_of c.args.path.now)))
    (halt_with (Beyond (parts_of c.args.parts.now).stmt)) (do_loop_at (context_at c.args.setting.now
    c.args.frame) (parts_of c.args.parts.now) (steps_of c.args.path.now) c.args.machine.now) zero c.loop-k.k
    c.loop-k.machine (do-last c.args.setting.now c.args.frame (steps_of c.args.path.now) (parts_of
    c.args.parts.now) c.args.machine.now c.loop-k.machine c.loop-k.k c.loop-k.invariant (search rules))
    c.from_residual-in_err-value-2.result p.0 c.test_behind-2.new.machine p.1
    (subst (λ k. Did (Err p.0) c.test_behind-2.new.machine (test_behind (test_at (context_at
    c.args.setting.now c.args.frame) (parts_of c.args.parts.now) (steps_of c.args.path.now)) k
    c.loop-k.machine)) at_end (rw p.2 c.in_err-value-2.ensures))

pub do_loop-returns : goal.do_loop-returns
do_loop-returns t c = let at_end : c.args.setting.now.turns ≡ c.loop-k.k = search rules in let fits : SFits
    w64 c.in_ok-value-2.value = search rules in
    past-is (test_behind (test_at (context_at c.args.setting.now c.args.frame) (parts_of c.args.parts.now)
    (steps_of c.args.path.now))) (λ k. turn_at (context_at c.args.setting.now c.args.frame) (parts_of
    c.args.parts.now) (in_turn (parts_of c.args.parts.now).stmt (k + 1) (steps_of c.args.path.now)))
    (halt_with (Beyond (parts_of c.args.parts.now).stmt)) (do_loop_at (context_at c.args.setting.now
    c.args.frame) (parts_of c.args.parts.now) (steps_of c.args.path.now) c.args.machine.now) c.loop-k.k
    c.loop-k.machine c.test_behind-2.new.machine (do-last c.args.setting.now c.args.frame (steps_of
    c.args.path.now) (parts_of c.args.parts.now) c.args.machine.now c.loop-k.machine c.loop-k.k
    c.loop-k.invariant (search rules)) c.past_bound.result c.in_ok-value-2.value
    (subst (λ k. Did (Ok c.in_ok-value-2.value) c.test_behind-2.new.machine (test_behind (test_at (context_at
    c.args.setting.now c.args.frame) (parts_of c.args.parts.now) (steps_of c.args.path.now)) k
    c.loop-k.machine)) at_end c.in_ok-value-2.ensures) (simp to_z-of_z at (c.past_bound.ensures
    c.test_behind-2.new.machine))

pub invoke-returns-then-frame-eq0 : goal.invoke-returns-then-frame-eq0
invoke-returns-then-frame-eq0 t c = calls.beyond-is c.args.setting.now c.args.frame (steps_of c.args.path.now)
    c.args.here c.args.function c.args.arguments.now c.args.machine.now (search rules)

pub invoke-returns-in_default : goal.invoke-returns-in_default
invoke-returns-in_default t c = calls.nothing-is c.args.setting.now c.args.frame (steps_of c.args.path.now)
    c.args.here c.args.function c.args.arguments.now c.args.machine.now (c.args.frame.frames - 1) (search
    rules) (c.in_default.ensures)

pub invoke-returns-in_err-flow : goal.invoke-returns-in_err-flow
invoke-returns-in_err-flow t c = let p = err_from_is_err_and c.from_residual-in_err-flow.result
    c.from_residual-in_err-flow.ensures.1 in
    calls.call-ends c.args.setting.now c.args.frame (steps_of c.args.path.now) c.args.here c.args.function
    c.args.arguments.now c.args.machine.now c.in-Some.function.now (c.args.frame.frames - 1) (search rules)
    c.in-Some.ensures.1 c.begin_frame.new.machine c.exec_all.new.machine c.in_ok-begin_frame.ensures
    c.from_residual-in_err-flow.result p.0 p.1
    (rw (p.2, ← c.as_slice.ensures) c.in_err-flow.ensures)

pub invoke-returns : goal.invoke-returns
invoke-returns t c = let fits : SFits w64 c.result_of.result = search rules in
    calls.call-returns c.args.setting.now c.args.frame (steps_of c.args.path.now) c.args.here c.args.function
    c.args.arguments.now c.args.machine.now c.in-Some.function.now (c.args.frame.frames - 1) (search rules)
    c.in-Some.ensures.1 c.begin_frame.new.machine c.exec_all.new.machine c.in_ok-begin_frame.ensures
    c.in_ok-flow.flow (to_z w64 (of_z w64 c.result_of.result)) c.end_frame.new.machine
    (rw (← c.as_slice.ensures) c.in_ok-flow.ensures) (to_z-of_z fits
    ∙ c.result_of.ensures) (c.end_frame.ensures c.args.machine.now c.in_ok-kept.ensures)

pub eval_all-eval-requires : goal.eval_all-eval-requires
eval_all-eval-requires t c = let h : weight c.expr-item.result < weights c.args.exprs.now =
    item-below weight c.args.exprs.now c.loop-expr.expr-index c.expr-item.result (search rules) (search rules)
    in search (rules, h)

pub eval_args-eval_arg-requires : goal.eval_args-eval_arg-requires
eval_args-eval_arg-requires t c = let h : arg_weight c.arg-item.result < arg_weights c.args.args.now =
    item-below arg_weight c.args.args.now c.loop-arg.arg-index c.arg-item.result (search rules) (search rules)
    in search (rules, h)

pub exec_all-exec-requires : goal.exec_all-exec-requires
exec_all-exec-requires t c = let h : height c.stmt-item.result < heights c.args.body.now =
    item-below height c.args.body.now c.loop-stmt.stmt-index c.stmt-item.result (search rules) (search rules)
    in search (rules, h)

pub exec-exec_all-requires-in-Switch : goal.exec-exec_all-requires-in-Switch
exec-exec_all-requires-in-Switch t c = let h : heights c.entered-part.result.now + 1 < height
    c.args.stmt.now =
    forms.switch-below c.args.stmt.now c.in-Switch.stmt c.in-Switch.t c.in-Switch.on c.in-Switch.starts
    c.in-Switch.other c.label_at-label.result c.in-Switch.body c.entered-part.result.now c.in-Switch.is
    (c.entered-part.ensures ∙ ap (entered c.label_at-label.result) c.as_slice-in-Switch-2.ensures.value) in
    search (rules, h)

pub invoke-exec_all-requires : goal.invoke-exec_all-requires
invoke-exec_all-requires t c = let frames : c.args.frame.frames ≡ suc (c.args.frame.frames - 1) = search rules
    in
    let h : (c.args.frame.frames - 1) * tallest c.args.setting.now.program.now + (heights
    c.in-Some.function.now.body + 1) < c.args.frame.frames * tallest c.args.setting.now.program.now =
    body-below c.args.setting.now.program.now c.in-Some.function.now c.args.function.0 c.args.frame.frames
    (c.args.frame.frames - 1) frames c.in-Some.ensures.0 c.in-Some.ensures.1 in
    search (rules, h, c.as_slice.ensures)
