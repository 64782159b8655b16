use Rattle.std.proofs.Common.{◌++◌, ◌∷◌, [], refl, ◌∙◌, ap}
use Rattle.std.proofs.lemmas.Result.{on_ok_weaker}
use Rattle.ba_code.specs.declared.nodes.Node as node
use Rattle.ba_unroll.proofs.nodes.wrap_block.Goals as goal

pub returns : goal.returns
returns c = on_ok_weaker c.add.result (λ put old made start is.
    let off = c.in_ok-body.ensures old made start is in
    record {
      last = node.Block c.args.label c.in_ok-body.body;
      is = put ∙ ap (λ ns. ns ++ node.Block c.args.label c.in_ok-body.body ∷ []) off.0;
      of_kind = record { nodes = c.in_ok-body.body; is = refl; inside = off.1 };
    }) c.add.ensures
