use Rattle.std.proofs.Common.{Option, sym, ◌∙◌, ap}
use Rattle.ba_trees.specs.declared.tree.declarations.Declarators.{Declarators}
use Rattle.ba_statements.specs.Adding.{behind_part, state}
use Rattle.ba_typing.specs.Declarations.{add_optional_declarators}
use Rattle.ba_statements.proofs.Adding.{behind-nothing}
use Rattle.ba_statements.proofs.declarations.add_optional_declarators.Goals as goal

pub returns-in-None : goal.returns-in-None
returns-in-None c =
    let old = state c.args.scope.now c.args.work.now c.args.stmts.now in
    behind-nothing old
    ∙ ap (λ (ds : Option Declarators). behind_part (add_optional_declarators c.args.functions.now c.args.t ds)
    old)
    (sym c.in-None.is)
