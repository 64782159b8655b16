use Rattle.std.proofs.Common.{subst}
use Rattle.std.proofs.lemmas.Result.{on_ok_weaker}
use Rattle.ba_inline.proofs.Adding.{adds-if}
use Rattle.ba_inline.specs.Adding.{if_act}
use Rattle.ba_inline.specs.Making.{Adds}
use Rattle.ba_inline.proofs.labels.add_where.Goals as goal

pub returns : goal.returns
returns c = on_ok_weaker c.add.result (λ is.
    subst (λ none. Adds c.args.out.now.items c.add.new.out.items (if_act c.args.when c.args.nodes.items none))
    c.new.ensures.items (adds-if _ _ c.args.when c.args.nodes c.new.result is)) c.add.ensures
