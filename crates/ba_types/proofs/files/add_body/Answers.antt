use Rattle.std.proofs.Common.{sym, ◌∙◌, ap}
use Rattle.ba_trees.specs.declared.tree.statements.FunctionEnd.{FunctionEnd}
use Rattle.ba_statements.specs.Adding.{behind_part, state}
use Rattle.ba_typing.specs.Declarations.{in_order}
use Rattle.ba_typing.specs.Files.{body_parts}
use Rattle.ba_statements.proofs.Adding.{behind-nothing}
use Rattle.ba_types.proofs.files.add_body.Goals as goal

pub returns-in-Prototype : goal.returns-in-Prototype
returns-in-Prototype c = let s = state c.args.scope.now c.args.work.now c.args.stmts.now in
    behind-nothing s ∙ ap (λ (e : FunctionEnd). behind_part (in_order (body_parts e)) s)
    (sym c.in-Prototype.is)
