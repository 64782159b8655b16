use Rattle.std.proofs.Common.{◌&&◌, sym, ◌∙◌, ap}
use Rattle.ba_tree.specs.Choices.{same_step}
use Rattle.ba_interp.specs.Paths.{steps_of}
use Rattle.ba_interp.proofs.Paths.{steps_of-Main, steps_of-Within, none-same, no-steps, last-compared}
use Rattle.ba_interp.proofs.path.+has_steps.Goals as goal

pub returns-in-Main : goal.returns-in-Main
returns-in-Main t c = c.is_empty.ensures
    ∙ none-same c.args.steps.now (steps_of c.args.path.now) (steps_of-Main c.args.path.now c.in-Main.is)

pub returns-in-None : goal.returns-in-None
returns-in-None t c = no-steps c.args.steps.now (steps_of c.args.path.now) (steps_of c.in-Within.outer.now)
    c.in-Within.step
    (steps_of-Within c.args.path.now c.in-Within.step c.in-Within.outer c.in-Within.is)
    c.in-None.ensures.cases

pub returns-then-has_steps : goal.returns-then-has_steps
returns-then-has_steps t c = c.is_same.ensures
    ∙ ap (λ b. b && same_step c.in-Some.last.now c.in-Within.step) (sym c.if-has_steps.true
    ∙ c.has_steps.ensures)
    ∙ sym (last-compared c.args.steps.now (steps_of c.args.path.now) (steps_of c.in-Within.outer.now)
    c.in-Within.step
    (steps_of-Within c.args.path.now c.in-Within.step c.in-Within.outer c.in-Within.is) c.in-Some.others.now
    c.in-Some.last.now c.in-Some.ensures.cases.0)

pub returns-else-has_steps : goal.returns-else-has_steps
returns-else-has_steps t c = c.if-has_steps.false
    ∙ ap (λ b. b && same_step c.in-Some.last.now c.in-Within.step) (sym c.if-has_steps.false
    ∙ c.has_steps.ensures)
    ∙ sym (last-compared c.args.steps.now (steps_of c.args.path.now) (steps_of c.in-Within.outer.now)
    c.in-Within.step
    (steps_of-Within c.args.path.now c.in-Within.step c.in-Within.outer c.in-Within.is) c.in-Some.others.now
    c.in-Some.last.now c.in-Some.ensures.cases.0)
