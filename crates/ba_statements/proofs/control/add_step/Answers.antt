use Rattle.std.proofs.Common.{Option, sym, ◌∙◌, ap}
use Rattle.std.proofs.lemmas.Result.{on_ok_weaker}
use Rattle.ba_trees.specs.declared.tree.statements.Simples.{Simples}
use Rattle.ba_statements.specs.Adding.{behind_part, state}
use Rattle.ba_typing.specs.Statements.{add_step}
use Rattle.ba_statements.proofs.Adding.{behind-nothing}
use Rattle.ba_statements.proofs.control.add_step.Goals as goal

pub returns-in-None : goal.returns-in-None
returns-in-None c = let old = state c.args.scope.now c.args.work.now c.args.stmts.now in
    behind-nothing old ∙ ap (λ (o : Option Simples). behind_part (add_step o) old) (sym c.in-None.is)

pub returns-in-Some : goal.returns-in-Some
returns-in-Some c = let old = state c.args.scope.now c.args.work.now c.args.stmts.now in
    on_ok_weaker c.add_simples.result (λ added. added
    ∙ ap (λ (o : Option Simples). behind_part (add_step o) old) (sym c.in-Some.is)) c.add_simples.ensures
