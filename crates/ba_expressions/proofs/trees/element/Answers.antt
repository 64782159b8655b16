use Rattle.ba_typing.proofs.TreeForms.{tree-Element}
use Rattle.ba_expressions.proofs.trees.element.Goals as goal

pub returns : goal.returns
returns c = tree-Element c.args.array c.in_ok-index.index c.args.index
    c.in_ok-index.ensures.ok
