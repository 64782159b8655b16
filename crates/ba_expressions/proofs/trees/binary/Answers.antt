use Rattle.ba_typing.proofs.TreeForms.{tree-Binary}
use Rattle.ba_expressions.proofs.trees.binary.Goals as goal

pub returns : goal.returns
returns c = tree-Binary c.args.op c.args.t c.in_ok-a.a c.in_ok-b.b c.args.a c.args.b
    c.in_ok-a.ensures.ok c.in_ok-b.ensures.ok
