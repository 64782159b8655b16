use Rattle.std.proofs.Common.{◌++◌, ◌∷◌, [], refl, ◌∙◌, ap}
use Rattle.std.proofs.lemmas.Result.{on_ok_weaker}
use Rattle.ba_code.specs.declared.nodes.Node as node
use Rattle.ba_unroll.proofs.nodes.wrap_rest.Goals as goal

pub returns : goal.returns
returns c = on_ok_weaker c.add.result (λ put old rest made start middle is.
    let off = c.in_ok-made.ensures (old ++ rest) made middle is in
    let off_2 = c.in_ok-yes.ensures old rest start off.0 in
    record {
      last = node.If c.args.when c.in_ok-yes.yes c.new.result;
      is = put ∙ ap (λ ns. ns ++ node.If c.args.when c.in_ok-yes.yes c.new.result ∷ [])
          (c.in_ok-append.ensures.items ∙ ap (λ ns. ns ++ c.in_ok-made.made.items) off_2.0
          ∙ ap (λ ns. old ++ ns) off.1);
      of_kind = record {
        one = c.in_ok-yes.yes;
        other = c.new.result;
        is = refl;
        inside_one = off_2.1;
        inside_other = c.new.ensures.items;
      };
    }) c.add.ensures
