use Rattle.std.proofs.Common.{length}
use Rattle.std.proofs.lemmas.Result.{IfOk-weaker}
use Rattle.ba_inline.proofs.Wholes.{has-outcomes}
use Rattle.ba_inline.proofs.whole.inline.Goals as goal

pub returns : goal.returns
returns c = IfOk-weaker c.tree_of.result _ _ (λ tree told.
    has-outcomes c.args.program.now c.args.frames (length c.in_ok-made.made.declared.vars)
    c.in_ok-made.made.declared
    c.in_ok-made.made.params.items c.in_ok-made.made.body.items c.in_ok-made.ensures told.0 tree told.1)
    c.tree_of.ensures
