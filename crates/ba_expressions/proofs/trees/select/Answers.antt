use Rattle.ba_typing.proofs.TreeForms.{tree-Select}
use Rattle.ba_expressions.proofs.trees.select.Goals as goal

pub returns : goal.returns
returns c = tree-Select c.args.t c.in_ok-when.when c.in_ok-yes.yes c.in_ok-no.no c.args.when c.args.a c.args.b
    c.in_ok-when.ensures.ok c.in_ok-yes.ensures.ok c.in_ok-no.ensures.ok
