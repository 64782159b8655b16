use Rattle.std.proofs.Common.{◌++◌, ◌∷◌, [], refl, ◌∙◌, ap}
use Rattle.std.proofs.lemmas.Result.{on_ok_weaker}
use Rattle.ba_code.specs.declared.nodes.Node as node
use Rattle.ba_unroll.proofs.nodes.wrap_if.Goals as goal

pub returns : goal.returns
returns c = on_ok_weaker c.add.result (λ put old first second start middle is.
    let off = c.in_ok-no.ensures (old ++ first) second middle is in
    let off_2 = c.in_ok-yes.ensures old first start off.0 in
    record {
      last = node.If c.args.when c.in_ok-yes.yes c.in_ok-no.no;
      is = put ∙ ap (λ ns. ns ++ node.If c.args.when c.in_ok-yes.yes c.in_ok-no.no ∷ []) off_2.0;
      of_kind = record {
        one = c.in_ok-yes.yes;
        other = c.in_ok-no.no;
        is = refl;
        inside_one = off_2.1;
        inside_other = off.1;
      };
    }) c.add.ensures
