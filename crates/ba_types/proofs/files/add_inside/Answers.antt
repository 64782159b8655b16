use Rattle.std.proofs.Common.{◌≡◌, ◌-◌, ℕ, List, [], length, drop, map, refl, ◌∙◌, ap}
use Rattle.ba_numbers.specs.declared.ids.VarId.{VarId}
use Rattle.ba_tree.specs.declared.tree.Stmt.{Stmt}
use Rattle.ba_statements.specs.Adding.{state_with, behind_part}
use Rattle.ba_typing.specs.Declarations.{in_order}
use Rattle.ba_typing.specs.Files.{body_parts, params_of, vars_from, vars_of}
use Rattle.ba_tree.specs.Trees.{tree_of_stmt}
use Rattle.ba_types.proofs.FunctionSteps.{function-is}
use Rattle.ba_types.proofs.files.add_inside.Goals as goal

pub returns : goal.returns
returns c =
    let e = c.args.end.now in let scope = c.args.scope.now in let w = c.args.work.now in
    let s1 = c.add_params.new.scope in let w1 = c.add_params.new.work in
    let s2 = c.add_body.new.scope in let w2 = c.add_body.new.work in
    let stmts = c.add_body.new.stmts.items in
    let low : c.in_ok-first.first.0 ≡ length w1.variables = ap (λ (v : VarId). v.0) c.in_ok-first.ensures in
    let high : c.in_ok-past.past.0 ≡ length w2.variables = ap (λ (v : VarId). v.0) c.in_ok-past.ensures in
    function-is c.args.owner c.args.result_type (params_of c.args.parameters.now) e scope s1 s2 w w1 w2
    (map tree_of_stmt stmts)
    (record {
      result = c.args.result_type;
      params = c.in_ok-params.params;
      locals = c.from_vec.result;
      body = c.from_vec-2.result;
    })
    (c.in_ok-add_params.ensures [])
    (c.in_ok-add_body.ensures
    ∙ ap (λ (ss : List Stmt). behind_part (in_order (body_parts e)) (state_with s1 w1 (map tree_of_stmt ss)))
    c.new-body.ensures.items)
    refl
    (c.in_ok-params.ensures ∙ ap (λ (n : ℕ). vars_of (drop n s1.known)) c.count-outside.ensures)
    (c.from_vec.ensures ∙ c.in_ok-locals.ensures
    ∙ ap (λ (n : ℕ). vars_from n (c.in_ok-past.past.0 - n)) low
    ∙ ap (λ (n : ℕ). vars_from (length w1.variables) (n - length w1.variables)) high)
    (ap (map tree_of_stmt) c.from_vec-2.ensures)
