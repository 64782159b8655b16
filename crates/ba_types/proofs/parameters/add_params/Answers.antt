use Rattle.std.proofs.Common.{List, ◌∙◌, ap}
use Rattle.std.proofs.lemmas.Result.{on_ok_weaker}
use Rattle.ba_trees.specs.declared.tree.declarations.NextParameter.{NextParameter}
use Rattle.ba_trees.specs.declared.tree.declarations.Parameter.{Parameter}
use Rattle.ba_statements.specs.Adding.{state_with, behind_part}
use Rattle.ba_typing.specs.Files.{add_params}
use Rattle.ba_types.specs.Filing.{next_params}
use Rattle.ba_statements.proofs.Adding.{behind-nothing}
use Rattle.ba_types.proofs.ParameterSteps.{first-param}
use Rattle.ba_types.proofs.parameters.add_params.Goals as goal

pub returns-in_default : goal.returns-in_default
returns-in_default c stmts =
    let o = c.args.owner in let s = state_with c.args.scope.now c.args.work.now stmts in
    behind-nothing s
    ∙ ap (λ (ps : List Parameter). behind_part
    (add_params o.is_main o.is_defined o.at 1 ps) s) c.in_default.ensures

pub returns : goal.returns
returns c =
    let o = c.args.owner in let l = c.in-Some.list.now in
    let s1 = c.add_param.new.scope in let w1 = c.add_param.new.work in
    on_ok_weaker c.add_next_params.result (λ rest stmts.
    let s = state_with c.args.scope.now c.args.work.now stmts in
    first-param o.is_main o.is_defined o.at l.first (next_params l.rest.items) s (state_with s1 w1 stmts)
    (state_with c.add_next_params.new.scope c.add_next_params.new.work stmts)
    (c.in_ok-add_param.ensures stmts)
    (rest stmts ∙ ap (λ (xs : List NextParameter). behind_part (add_params o.is_main o.is_defined o.at 2
    (next_params xs)) (state_with s1 w1 stmts)) c.as_slice.ensures.value)
    ∙ ap (λ (ps : List Parameter). behind_part
    (add_params o.is_main o.is_defined o.at 1 ps) s) c.in-Some.ensures)
    c.add_next_params.ensures
