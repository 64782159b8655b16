use Rattle.std.proofs.Common.{◌≡◌, ◌+◌, ◌-◌, ◌*◌, take}
use Rattle.std.specs.Prelude.{sum_by}
use Rattle.ba_tree.specs.Heights.{weight, arg_weight, weights, arg_weights, height, heights, tallest}
use Rattle.ba_units.specs.Counts.{arg_units, expr_units, stmt_units}
use Rattle.ba_units.proofs.counting.+units.Given as goal

-- MEASURES: the frames that may begin, and then what is counted

abbrev pub decreases-left_after_expr : goal.decreases-left_after_expr
decreases-left_after_expr l = l.frames * tallest l.setting.now.program.now + weight l.expr.now

abbrev pub decreases-left_after_exprs : goal.decreases-left_after_exprs
decreases-left_after_exprs l = l.frames * tallest l.setting.now.program.now + (weights l.exprs.now + 1)

abbrev pub decreases-left_after_arg : goal.decreases-left_after_arg
decreases-left_after_arg l = l.frames * tallest l.setting.now.program.now + arg_weight l.arg.now

abbrev pub decreases-left_after_args : goal.decreases-left_after_args
decreases-left_after_args l = l.frames * tallest l.setting.now.program.now + arg_weights l.args.now

abbrev pub decreases-left_after_call : goal.decreases-left_after_call
decreases-left_after_call l = l.frames * tallest l.setting.now.program.now + (arg_weights l.args.now + 1)

abbrev pub decreases-left_after_stmt : goal.decreases-left_after_stmt
decreases-left_after_stmt l = l.frames * tallest l.setting.now.program.now + height l.stmt.now

abbrev pub decreases-left_after_stmts : goal.decreases-left_after_stmts
decreases-left_after_stmts l = l.frames * tallest l.setting.now.program.now + (heights l.body.now + 1)

abbrev pub decreases-left_after_loop : goal.decreases-left_after_loop
decreases-left_after_loop l = l.frames * tallest l.setting.now.program.now
    + (weight l.when.now + height l.body.now + heights l.step.now + 5)

-- ROWS: what is left after the parts up to a place

abbrev pub invariant-left_after_exprs-loop-expr : goal.invariant-left_after_exprs-loop-expr
invariant-left_after_exprs-loop-expr l =
    l.rest ≡ l.left - sum_by (expr_units l.setting l.frames l.frame) (take l.expr-index l.exprs)

abbrev pub invariant-left_after_args-loop-arg : goal.invariant-left_after_args-loop-arg
invariant-left_after_args-loop-arg l =
    l.rest ≡ l.left - sum_by (arg_units l.setting l.frames l.frame) (take l.arg-index l.args)

abbrev pub invariant-left_after_stmts-loop-stmt : goal.invariant-left_after_stmts-loop-stmt
invariant-left_after_stmts-loop-stmt l =
    l.rest ≡ l.left - sum_by (stmt_units l.setting l.frames l.frame) (take l.stmt-index l.body)
