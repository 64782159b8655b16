use Rattle.ba_typing.proofs.TreeForms.{tree-OrElse}
use Rattle.ba_expressions.proofs.trees.or_else.Goals as goal

pub returns : goal.returns
returns c = tree-OrElse c.in_ok-a.a c.in_ok-b.b c.args.a c.args.b
    c.in_ok-a.ensures.ok c.in_ok-b.ensures.ok
