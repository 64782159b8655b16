use Rattle.std.proofs.Common.{◌++◌, ◌∷◌, [], refl, ◌∙◌, ap}
use Rattle.std.proofs.lemmas.Result.{on_ok_weaker}
use Rattle.ba_code.specs.declared.nodes.Node as node
use Rattle.ba_unroll.proofs.nodes.wrap_pick.Goals as goal

pub returns : goal.returns
returns c = on_ok_weaker c.add.result (λ put old made start is.
    let off = c.in_ok-keep.ensures old made start is in
    record {
      last = node.Pick c.in_ok-place.place c.args.take c.in_ok-keep.keep;
      is = put ∙ ap (λ ns. ns ++ node.Pick c.in_ok-place.place c.args.take c.in_ok-keep.keep ∷ []) off.0;
      of_kind = record {
        at = c.in_ok-place.place;
        nodes = c.in_ok-keep.keep;
        is = refl;
        path = c.in_ok-place.ensures.path;
        stmt = c.in_ok-place.ensures.stmt;
        counted = c.in_ok-place.ensures.counted;
        inside = off.1;
      };
    }) c.add.ensures
