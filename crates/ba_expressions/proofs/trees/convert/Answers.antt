use Rattle.ba_typing.proofs.TreeForms.{tree-Convert}
use Rattle.ba_expressions.proofs.trees.convert.Goals as goal

pub returns : goal.returns
returns c = tree-Convert c.args.t c.in_ok-a.a c.args.a
    c.in_ok-a.ensures.ok
