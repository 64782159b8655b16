use Rattle.std.proofs.Common.{◌≡◌, [], Some, SFits, w64, to_z, of_z, to_z-of_z, rules, refl, ◌∙◌, ap}
use Rattle.ba_tree.specs.Trees as tree
use Rattle.ba_expressions.proofs.Inferences.{as-over, if-ok}
use Rattle.ba_typing.proofs.TreeForms.{tree-Const}
use Rattle.ba_expressions.proofs.inferred.constant.Goals as goal

pub returns : goal.returns
returns c = let z = to_z w64 (of_z w64 c.args.value) in
    let fits : SFits w64 c.args.value = search rules in
    let same : z ≡ c.args.value = to_z-of_z fits in
    if-ok c.over.result _ _ (λ j over.
    as-over j c.args.at [] c.args.t c.args.t _ (tree.const c.args.t c.args.value) (Some z) (Some
    c.args.value) refl
    (tree-Const c.args.t z ∙ ap (tree.const c.args.t) same) (ap Some same) (over [] c.none.ensures))
    c.over.ensures
