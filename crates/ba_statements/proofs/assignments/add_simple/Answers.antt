use Rattle.std.proofs.Common.{sym, ◌∙◌, ap}
use Rattle.std.proofs.lemmas.Result.{on_ok_weaker}
use Rattle.ba_trees.specs.declared.tree.statements.Simple.{Simple}
use Rattle.ba_statements.specs.Adding.{behind_part, state}
use Rattle.ba_typing.specs.Statements.{add_simple}
use Rattle.ba_statements.proofs.assignments.add_simple.Goals as goal

pub returns-in-Assign : goal.returns-in-Assign
returns-in-Assign c = on_ok_weaker c.add_assign.result (λ added. added
    ∙ ap (λ (s : Simple). behind_part (add_simple s) (state c.args.scope.now c.args.work.now
    c.args.stmts.now))
    (sym c.in-Assign.is)) c.add_assign.ensures

pub returns-in-Step : goal.returns-in-Step
returns-in-Step c = on_ok_weaker c.add_step.result (λ added. added
    ∙ ap (λ (s : Simple). behind_part (add_simple s) (state c.args.scope.now c.args.work.now
    c.args.stmts.now))
    (sym c.in-Step.is)) c.add_step.ensures

pub returns-in-PrefixStep : goal.returns-in-PrefixStep
returns-in-PrefixStep c = on_ok_weaker c.add_step-in-PrefixStep.result (λ added. added
    ∙ ap (λ (s : Simple). behind_part (add_simple s) (state c.args.scope.now c.args.work.now
    c.args.stmts.now))
    (sym c.in-PrefixStep.is)) c.add_step-in-PrefixStep.ensures

pub returns-in-Call : goal.returns-in-Call
returns-in-Call c = on_ok_weaker c.add_call.result (λ added. added
    ∙ ap (λ (s : Simple). behind_part (add_simple s) (state c.args.scope.now c.args.work.now
    c.args.stmts.now))
    (sym c.in-Call.is)) c.add_call.ensures
