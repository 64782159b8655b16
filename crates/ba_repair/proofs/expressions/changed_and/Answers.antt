use Rattle.std.proofs.Common.{rules, ◌≡◌, refl, sym, ◌∙◌}
use Rattle.ba_tree.specs.Trees.{tree_of_expr}
use Rattle.ba_tree.specs.Trees as tree
use Rattle.ba_typing.proofs.TreeForms.{tree-AndAlso, tree-OrElse}
use Rattle.ba_repair.specs.Changes.{changed_and}
use Rattle.ba_repair.proofs.expressions.changed_and.Goals as goal

pub returns-in-Some-ToOr : goal.returns-in-Some-ToOr
returns-in-Some-ToOr c =
    let changed : changed_and c.args.change (tree_of_expr c.args.a.value) (tree_of_expr c.args.b.value)
    ≡ tree.or_else (tree_of_expr c.args.a.value) (tree_of_expr c.args.b.value) = search rules in
    tree-OrElse c.args.a c.args.b c.args.a.value c.args.b.value refl refl ∙ sym changed

pub returns-in_default : goal.returns-in_default
returns-in_default c =
    let kept : changed_and c.args.change (tree_of_expr c.args.a.value) (tree_of_expr c.args.b.value)
    ≡ tree.and_also (tree_of_expr c.args.a.value) (tree_of_expr c.args.b.value) = search rules in
    tree-AndAlso c.args.a c.args.b c.args.a.value c.args.b.value refl refl ∙ sym kept
