use Rattle.std.proofs.Common.{◌≡◌, ℕ, true, ◌+◌, ◌*◌, take, length}
use Rattle.std.specs.List.{list_any}
use Rattle.ba_inline.specs.Calling.{arg_has_call, has_call}
use Rattle.ba_tree.specs.Heights.{arg_weight, arg_weights, height, heights, optional_stmt_height, tallest, weight, weights}
use Rattle.ba_inline.proofs.Guarding.{IsGrouped}
use Rattle.ba_inline.specs.Inlining.{Executes, InScope, program_of}
use Rattle.ba_inline.specs.Making.{AreSettled, MakesArguments, MakesValues}
use Rattle.ba_inline.specs.Names.{IsFrame, with_home}
use Rattle.ba_inline.specs.Parts.{arguments_part, stmts_part, values_part}
use Rattle.ba_inline.specs.declared.frames.Inliner.{Inliner}
use Rattle.ba_inline.proofs.frames.Inliner.+inline.Given as goal

-- MEASURES: the frames that may begin, and then what is translated

abbrev frames_left : Inliner → ℕ
frames_left inliner = inliner.frame.frames * tallest (program_of inliner)

abbrev pub decreases-expression : goal.decreases-expression
decreases-expression l = frames_left l.self.now + weight l.expr.now

abbrev pub decreases-and_also : goal.decreases-and_also
decreases-and_also l = frames_left l.self.now + (weight l.a.now + weight l.b.now + 1)

abbrev pub decreases-or_else : goal.decreases-or_else
decreases-or_else l = frames_left l.self.now + (weight l.a.now + weight l.b.now + 1)

abbrev pub decreases-selected : goal.decreases-selected
decreases-selected l = frames_left l.self.now
    + (weight l.when.now + weight l.a.now + weight l.b.now + 1)

abbrev pub decreases-kept_expression : goal.decreases-kept_expression
decreases-kept_expression l = frames_left l.self.now + (weight l.expr.now + 1)

abbrev pub decreases-expression_to : goal.decreases-expression_to
decreases-expression_to l = frames_left l.self.now + (weight l.expr.now + 1)

abbrev pub decreases-truth_to : goal.decreases-truth_to
decreases-truth_to l = frames_left l.self.now + (weight l.expr.now + 1)

abbrev pub decreases-expressions : goal.decreases-expressions
decreases-expressions l = frames_left l.self.now + (weights l.exprs.now + 1)

abbrev pub decreases-argument : goal.decreases-argument
decreases-argument l = frames_left l.self.now + arg_weight l.arg.now

abbrev pub decreases-arguments : goal.decreases-arguments
decreases-arguments l = frames_left l.self.now + (arg_weights l.args.now + 1)

abbrev pub decreases-call_value : goal.decreases-call_value
decreases-call_value l = frames_left l.self.now + (arg_weights l.args.now + 2)

abbrev pub decreases-invoke : goal.decreases-invoke
decreases-invoke l = frames_left l.self.now

abbrev pub decreases-given_to : goal.decreases-given_to
decreases-given_to l = frames_left l.self.now + (weight l.expr.now + 2)

abbrev pub decreases-condition : goal.decreases-condition
decreases-condition l = frames_left l.self.now + (weight l.when.now + 3)

abbrev pub decreases-assign : goal.decreases-assign
decreases-assign l = frames_left l.self.now + (weight l.value.now + 3)

abbrev pub decreases-store : goal.decreases-store
decreases-store l = frames_left l.self.now + (weight l.index.now + weight l.value.now + 3)

abbrev pub decreases-init_array : goal.decreases-init_array
decreases-init_array l = frames_left l.self.now + (weights l.values.now + 2)

abbrev pub decreases-call_statement : goal.decreases-call_statement
decreases-call_statement l = frames_left l.self.now + (arg_weights l.args.now + 3)

abbrev pub decreases-print : goal.decreases-print
decreases-print l = frames_left l.self.now + (weights l.args.now + 2)

abbrev pub decreases-statement : goal.decreases-statement
decreases-statement l = frames_left l.self.now + height l.stmt.now

abbrev pub decreases-optional : goal.decreases-optional
decreases-optional l = frames_left l.self.now + optional_stmt_height l.stmt.now

abbrev pub decreases-statements : goal.decreases-statements
decreases-statements l = frames_left l.self.now + (heights l.body.now + 1)

abbrev pub decreases-repeat : goal.decreases-repeat
decreases-repeat l = frames_left l.self.now
    + (weight l.when.now + height l.body.now + heights l.step.now + 5)

abbrev pub decreases-switch : goal.decreases-switch
decreases-switch l = frames_left l.self.now + (weight l.on.now + heights l.body.now + 5)

abbrev pub decreases-guarded : goal.decreases-guarded
decreases-guarded l = frames_left l.self.now + (heights l.body.now + 1)

-- ROWS: what is made of the first ones

abbrev pub invariant-expressions-loop-expr : goal.invariant-expressions-loop-expr
invariant-expressions-loop-expr l = InScope l.self l.fn.declared
    → MakesValues (program_of l.self) l.self.scope.now l.self.path.now
    (values_part (program_of l.self) l.self.frame l.here (take l.expr-index l.exprs))
    (list_any has_call (take l.expr-index l.exprs)) (list_any has_call l.exprs) l.operands.items
    l.fn.declared l.declared l.fn.out.items l.out.items

abbrev pub invariant-arguments-loop-arg : goal.invariant-arguments-loop-arg
invariant-arguments-loop-arg l = InScope l.self l.fn.declared
    → MakesArguments (program_of l.self) l.self.scope.now l.self.path.now
    (arguments_part (program_of l.self) l.self.frame l.here (take l.arg-index l.args))
    (list_any arg_has_call (take l.arg-index l.args)) (list_any arg_has_call l.args) l.given.items
    l.fn.declared l.declared l.fn.out.items l.out.items

abbrev pub invariant-statements-loop-stmt : goal.invariant-statements-loop-stmt
invariant-statements-loop-stmt l = Executes l.self (λ p frame. stmts_part p frame (take l.stmt-index l.body))
    l.fn.declared l.declared l.fn.out.items l.out.items

-- statements of a `switch`, of which the last ones stand in a group
abbrev pub invariant-guarded-loop-place : goal.invariant-guarded-loop-place
invariant-guarded-loop-place l = length l.flags ≡ length l.body
    → AreSettled true (with_home l.self.frame.home l.self.scope.now) l.fn.declared l.flags
    → IsFrame (program_of l.self) l.self.frame.home l.self.scope.now l.fn.declared
    → IsGrouped (program_of l.self) l.self.scope.now l.self.path.now l.self.frame l.fn.declared l.declared
    l.fn.out.items l.out.items l.group.nodes.items l.group.when (take l.place l.body) (take l.place l.flags)
