use Rattle.ba_typing.proofs.TreeForms.{tree-AndAlso}
use Rattle.ba_expressions.proofs.trees.and_also.Goals as goal

pub returns : goal.returns
returns c = tree-AndAlso c.in_ok-a.a c.in_ok-b.b c.args.a c.args.b
    c.in_ok-a.ensures.ok c.in_ok-b.ensures.ok
