use Rattle.std.proofs.Common.{ℕ, Bool, [], ◌∷◌, ◌∙◌, ap}
use Rattle.std.proofs.lemmas.Result.{on_ok_weaker}
use Rattle.ba_typing.specs.Faults.{fault_if}
use Rattle.ba_expressions.specs.Inferring.{with_faults}
use Rattle.ba_typing.specs.Names.{knowing}
use Rattle.ba_typing.specs.declared.fault.Cause.TheVariants.{Twice}
use Rattle.ba_expressions.specs.declared.tally.Tally.{Tally}
use Rattle.ba_statements.proofs.Adding.{variable-is, variable_entry}
use Rattle.ba_statements.proofs.declarations.add_variable.Goals as goal

pub returns : goal.returns
returns c = let w = c.args.work.now in let scope = c.args.scope.now in
    on_ok_weaker c.declare.result (λ knows stmts. variable-is c.args.functions.now c.args.at c.args.name
    c.args.variable scope
    c.declare.new.self w (record w { tally = c.add_if.new.self }) c.add_variable.new.self c.in_ok-var.var
    stmts
    (ap (λ (t : Tally). record w { tally = t }) (c.add_if.ensures
    ∙ ap (λ (b : Bool). with_faults w.tally (fault_if b Twice c.args.at)) c.is_declared.ensures))
    c.in_ok-var.ensures.added c.in_ok-var.ensures.var
    (knows ∙ ap (λ (n : ℕ). knowing (variable_entry c.args.name n c.in_ok-var.var c.args.variable ∷ []) scope)
    c.depth-depth.ensures)) c.declare.ensures.ok
