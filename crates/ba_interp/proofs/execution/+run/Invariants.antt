use Rattle.std.proofs.Common.{◌≡◌, ◌+◌, ◌-◌, ◌*◌, ◌++◌, map, drop, Ok}
use Rattle.ba_tree.specs.Acts.{each, then_do}
use Rattle.ba_tree.specs.Meaning.{eval, eval_arg, exec_all}
use Rattle.ba_tree.specs.Heights.{weight, arg_weight, weights, arg_weights, height, heights, tallest}
use Rattle.ba_interp.specs.Loops.{for_rounds, do_rounds}
use Rattle.ba_interp.specs.Parts.{parts_of}
use Rattle.ba_interp.specs.Paths.{steps_of}
use Rattle.ba_interp.specs.Settings.{context_at}
use Rattle.ba_interp.proofs.execution.+run.Given as goal

-- MEASURES: the frames that may begin, and then what is executed

abbrev pub decreases-eval : goal.decreases-eval
decreases-eval l = l.frame.frames * tallest l.setting.now.program.now + weight l.expr.now

abbrev pub decreases-eval_args : goal.decreases-eval_args
decreases-eval_args l = l.frame.frames * tallest l.setting.now.program.now + (arg_weights l.args.now + 1)

abbrev pub decreases-eval_arg : goal.decreases-eval_arg
decreases-eval_arg l = l.frame.frames * tallest l.setting.now.program.now + arg_weight l.arg.now

abbrev pub decreases-call_value : goal.decreases-call_value
decreases-call_value l = l.frame.frames * tallest l.setting.now.program.now + (arg_weights l.args.now + 2)

abbrev pub decreases-invoke : goal.decreases-invoke
decreases-invoke l = l.frame.frames * tallest l.setting.now.program.now

abbrev pub decreases-given : goal.decreases-given
decreases-given l = l.frame.frames * tallest l.setting.now.program.now + (weight l.expr.now + 1)

abbrev pub decreases-eval_all : goal.decreases-eval_all
decreases-eval_all l = l.frame.frames * tallest l.setting.now.program.now + (weights l.exprs.now + 1)

abbrev pub decreases-given_elements : goal.decreases-given_elements
decreases-given_elements l = l.frame.frames * tallest l.setting.now.program.now + (weights l.exprs.now + 2)

abbrev pub decreases-given_element : goal.decreases-given_element
decreases-given_element l = l.frame.frames * tallest l.setting.now.program.now + (weight l.index.now + weight
    l.value.now + 2)

abbrev pub decreases-call_effect : goal.decreases-call_effect
decreases-call_effect l = l.frame.frames * tallest l.setting.now.program.now + (arg_weights l.args.now + 3)

abbrev pub decreases-print_effect : goal.decreases-print_effect
decreases-print_effect l = l.frame.frames * tallest l.setting.now.program.now + (weights l.args.now + 3)

abbrev pub decreases-assign : goal.decreases-assign
decreases-assign l = l.frame.frames * tallest l.setting.now.program.now + (weight l.value.now + 2)

abbrev pub decreases-exec : goal.decreases-exec
decreases-exec l = l.frame.frames * tallest l.setting.now.program.now + height l.stmt.now

abbrev pub decreases-exec_all : goal.decreases-exec_all
decreases-exec_all l = l.frame.frames * tallest l.setting.now.program.now + (heights l.body.now + 1)

abbrev pub decreases-turn : goal.decreases-turn
decreases-turn l = l.frame.frames * tallest l.setting.now.program.now
    + (height l.parts.now.body.now + heights l.parts.now.step.now + 2)

abbrev pub decreases-for_loop : goal.decreases-for_loop
decreases-for_loop l = l.frame.frames * tallest l.setting.now.program.now
    + (weight l.parts.now.when.now + height l.parts.now.body.now + heights l.parts.now.step.now + 5)

abbrev pub decreases-do_loop : goal.decreases-do_loop
decreases-do_loop l = l.frame.frames * tallest l.setting.now.program.now
    + (weight l.parts.now.when.now + height l.parts.now.body.now + heights l.parts.now.step.now + 5)

abbrev pub decreases-test_behind : goal.decreases-test_behind
decreases-test_behind l = l.frame.frames * tallest l.setting.now.program.now + (weight l.parts.now.when.now +
    2)

-- LOOPS: the whole is what was done and what is left from here

abbrev pub invariant-eval_args-loop-arg : goal.invariant-eval_args-loop-arg
invariant-eval_args-loop-arg l =
    each (map (eval_arg (context_at l.setting l.frame) (steps_of l.path) l.here) l.args) l.fn.machine
    ≡ then_do (each (map (eval_arg (context_at l.setting l.frame) (steps_of l.path) l.here) (drop l.arg-index
    l.args)) l.machine)
    (λ rest s. (Ok (l.arguments.items ++ rest), s))

abbrev pub invariant-eval_all-loop-expr : goal.invariant-eval_all-loop-expr
invariant-eval_all-loop-expr l =
    each (map (eval (context_at l.setting l.frame) (steps_of l.path) l.here) l.exprs) l.fn.machine
    ≡ then_do (each (map (eval (context_at l.setting l.frame) (steps_of l.path) l.here) (drop l.expr-index
    l.exprs)) l.machine)
    (λ rest s. (Ok (l.values.items ++ rest), s))

abbrev pub invariant-exec_all-loop-stmt : goal.invariant-exec_all-loop-stmt
invariant-exec_all-loop-stmt l =
    exec_all (context_at l.setting l.frame) (steps_of l.path) l.body l.fn.machine
    ≡ exec_all (context_at l.setting l.frame) (steps_of l.path) (drop l.stmt-index l.body) l.machine

abbrev pub invariant-for_loop-loop-k : goal.invariant-for_loop-loop-k
invariant-for_loop-loop-k l =
    for_rounds (context_at l.setting l.frame) (parts_of l.parts) (steps_of l.path) l.setting.turns 1
    l.fn.machine
    ≡ for_rounds (context_at l.setting l.frame) (parts_of l.parts) (steps_of l.path) (l.setting.turns - l.k)
    (l.k + 1) l.machine

abbrev pub invariant-do_loop-loop-k : goal.invariant-do_loop-loop-k
invariant-do_loop-loop-k l =
    do_rounds (context_at l.setting l.frame) (parts_of l.parts) (steps_of l.path) l.setting.turns 0
    l.fn.machine
    ≡ do_rounds (context_at l.setting l.frame) (parts_of l.parts) (steps_of l.path) (l.setting.turns - l.k)
    l.k l.machine
