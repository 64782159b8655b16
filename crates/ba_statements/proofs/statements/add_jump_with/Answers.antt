use Rattle.std.proofs.Common.{Option, sym, ◌∙◌, ap}
use Rattle.std.proofs.lemmas.Result.{on_ok_weaker}
use Rattle.ba_trees.specs.declared.tree.expressions.Conditional.{Conditional}
use Rattle.ba_statements.specs.Adding.{behind_part, state}
use Rattle.ba_typing.specs.Statements.{add_jump_with, optional_typing}
use Rattle.ba_statements.proofs.statements.add_jump_with.Goals as goal

pub returns-in-None : goal.returns-in-None
returns-in-None c = on_ok_weaker c.add_jump.result (λ added. added
    ∙ ap (λ (v : Option Conditional). behind_part (add_jump_with c.args.keyword.now (optional_typing v))
    (state c.args.scope.now c.args.work.now c.args.stmts.now)) (sym c.in-None.is)) c.add_jump.ensures

pub returns-in-Some : goal.returns-in-Some
returns-in-Some c = on_ok_weaker c.add_return.result (λ added. added
    ∙ ap (λ (v : Option Conditional). behind_part (add_jump_with c.args.keyword.now (optional_typing v))
    (state c.args.scope.now c.args.work.now c.args.stmts.now)) (sym c.in-Some.is)) c.add_return.ensures
