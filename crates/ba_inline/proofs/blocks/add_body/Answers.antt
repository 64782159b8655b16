use Rattle.std.proofs.Common.{◌≡◌, true, rules}
use Rattle.std.proofs.lemmas.Result.{on_ok_weaker}
use Rattle.ba_inline.proofs.Adding.{adds-block}
use Rattle.ba_inline.proofs.Leaving.{adds-blocked, adds-unblocked}
use Rattle.ba_inline.specs.Leaving.{none_leaves}
use Rattle.ba_inline.specs.Making.{return_label}
use Rattle.ba_inline.proofs.blocks.add_body.Goals as goal

pub returns : goal.returns
returns c =
    let none : none_leaves return_label c.without_last_return-nodes.result.items ≡ true = search rules in
    adds-unblocked return_label c.args.out.now.items c.append.new.self.items c.args.body.items
    c.without_last_return-nodes.result.items none c.without_last_return-nodes.ensures
    c.in_ok-append.ensures.items

pub returns-then-not-none_leaves : goal.returns-then-not-none_leaves
returns-then-not-none_leaves c = on_ok_weaker c.add.result (λ is.
    adds-blocked return_label c.args.out.now.items c.add.new.out.items c.args.body.items
    c.without_last_return-nodes.result.items c.without_last_return-nodes.ensures
    (adds-block _ _ return_label c.without_last_return-nodes.result is)) c.add.ensures
