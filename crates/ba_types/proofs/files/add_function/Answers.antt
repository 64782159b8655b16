use Rattle.std.proofs.Common.{Bool, ◌∙◌, ap, subst}
use Rattle.std.proofs.lemmas.Result.{on_ok_weaker}
use Rattle.ba_typing.specs.Files.{params_of}
use Rattle.ba_types.specs.Filing.{GivesFunction}
use Rattle.ba_scopes.specs.Marks.{back_to}
use Rattle.ba_typing.specs.Names.{Scope}
use Rattle.ba_scopes.specs.declared.scopes.Mark.{Mark}
use Rattle.ba_expressions.specs.declared.tally.Tally.{Tally}
use Rattle.ba_types.proofs.FunctionSteps.{function-added}
use Rattle.ba_types.proofs.files.add_function.Goals as goal

pub returns : goal.returns
returns c =
    let s = c.args.signature.now in let ps = params_of c.args.parameters.now in let e = c.args.end.now in
    let scope = c.args.scope.now in let w = c.args.work.now in
    let w1 = record w { tally = c.add_signature_faults.new.tally } in
    let s1 = c.set_result.new.self in let s2 = c.add_inside.new.scope in let w2 = c.add_inside.new.work in
    let f = c.in_ok-function.function in
    on_ok_weaker c.put_function.result (λ pushed inits.
    function-added c.args.at s ps e c.args.earlier.now scope s1 s2 c.back_to.new.self w w1 w2 f inits
    c.args.functions.now c.put_function.new.functions
    (ap (λ (t : Tally). record w { tally = t }) c.add_signature_faults.ensures)
    (c.set_result.ensures ∙ ap (λ (k : Scope). record k { result = s.result }) c.in_ok-enter.ensures.ok)
    (subst (λ (b : Bool). GivesFunction (record { is_main = b; is_defined = s.is_definition; at = c.args.at })
    s.result ps e s1 w1 s2 w2 f) c.is_main.ensures c.in_ok-function.ensures)
    (c.back_to.ensures ∙ ap (λ (m : Mark). back_to m s2) c.mark-mark.ensures)
    pushed) c.put_function.ensures
