use Rattle.std.proofs.Common.{map, refl, ap, ◌∙◌}
use Rattle.ba_tree.specs.Trees.{tree_of_function, tree_of_stmt}
use Rattle.ba_tree.specs.declared.tree.Parts.{Parts}
use Rattle.ba_repair.specs.Changes.{changed_function, changed_stmt}
use Rattle.ba_repair.proofs.Fitting.{edited-fits, edited-tree}
use Rattle.ba_repair.proofs.programs.edited.Goals as goal

pub invariant_of-result : goal.invariant_of-result
invariant_of-result c =
    let edit = c.args.edit.now in
    let q : Parts = record {
      variables = c.in_ok-variables.variables;
      globals = c.in_ok-globals.globals;
      inits = c.from_vec.result;
      functions = c.in_ok-functions.functions;
      main = c.args.program.now.main;
      statements = c.in_ok-statements.statements;
    } in
    let same = edited-tree c.args.program.now edit q
    (c.in_ok-variables.ensures ∙ c.as_slice.ensures) (c.in_ok-globals.ensures ∙ c.as_slice-2.ensures)
    (ap (map tree_of_stmt) c.from_vec.ensures ∙ c.in_ok-inits.ensures
    ∙ ap (λ ss. map (changed_stmt edit) (map tree_of_stmt ss)) c.as_slice-4.ensures)
    (c.in_ok-functions.ensures
    ∙ ap (λ fs. map (changed_function edit) (map tree_of_function fs)) c.as_slice-5.ensures)
    refl (c.in_ok-statements.ensures ∙ c.as_slice-3.ensures) in
    record { fit = edited-fits c.args.program.now edit q c.requires.own same }

pub returns : goal.returns
returns c =
    let edit = c.args.edit.now in
    let q : Parts = record {
      variables = c.in_ok-variables.variables;
      globals = c.in_ok-globals.globals;
      inits = c.from_vec.result;
      functions = c.in_ok-functions.functions;
      main = c.args.program.now.main;
      statements = c.in_ok-statements.statements;
    } in
    edited-tree c.args.program.now edit q
    (c.in_ok-variables.ensures ∙ c.as_slice.ensures) (c.in_ok-globals.ensures ∙ c.as_slice-2.ensures)
    (ap (map tree_of_stmt) c.from_vec.ensures ∙ c.in_ok-inits.ensures
    ∙ ap (λ ss. map (changed_stmt edit) (map tree_of_stmt ss)) c.as_slice-4.ensures)
    (c.in_ok-functions.ensures
    ∙ ap (λ fs. map (changed_function edit) (map tree_of_function fs)) c.as_slice-5.ensures)
    refl (c.in_ok-statements.ensures ∙ c.as_slice-3.ensures)
