use Rattle.ba_typing.proofs.TreeForms.{tree-Unary}
use Rattle.ba_expressions.proofs.trees.unary.Goals as goal

pub returns : goal.returns
returns c = tree-Unary c.args.op c.args.t c.in_ok-a.a c.args.a
    c.in_ok-a.ensures.ok
