use Rattle.std.proofs.Common.{ℕ, ℤ, Bool, SFits, w64, to_z-of_z, rules, [], ◌∷◌, ◌∙◌, ap}
use Rattle.std.proofs.lemmas.Result.{on_ok_weaker}
use Rattle.ba_typing.specs.Faults.{fault_if}
use Rattle.ba_expressions.specs.Inferring.{with_faults}
use Rattle.ba_typing.specs.Names.{knowing}
use Rattle.ba_typing.specs.declared.fault.Cause.TheVariants.{Twice}
use Rattle.ba_expressions.specs.declared.tally.Tally.{Tally}
use Rattle.ba_statements.proofs.Adding.{constant-is, constant_entry}
use Rattle.ba_statements.proofs.declarations.add_constant.Goals as goal

pub returns : goal.returns
returns c =
    let w = c.args.work.now in
    let scope = c.args.scope.now in
    let fits : SFits w64 c.args.value = search rules in
    on_ok_weaker c.declare.result (λ knows stmts.
    constant-is c.args.functions.now c.args.at c.args.name c.args.value scope c.declare.new.self w
    (record w { tally = c.add_if.new.self }) c.add_constant.new.self stmts
    (ap (λ (t : Tally). record w { tally = t }) (c.add_if.ensures
    ∙ ap (λ (b : Bool). with_faults w.tally (fault_if b Twice c.args.at)) c.is_declared.ensures))
    c.in_ok-add_constant.ensures
    (knows ∙ ap (λ (z : ℤ). knowing (constant_entry c.args.name c.depth-depth.result z ∷ []) scope)
    (to_z-of_z fits)
    ∙ ap (λ (n : ℕ). knowing (constant_entry c.args.name n c.args.value ∷ []) scope) c.depth-depth.ensures))
    c.declare.ensures.ok
