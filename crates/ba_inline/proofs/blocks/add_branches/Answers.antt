use Rattle.std.proofs.Common.{rules}
use Rattle.std.proofs.lemmas.Bool.{OnTrue_at}
use Rattle.std.proofs.lemmas.Result.{on_ok_weaker}
use Rattle.ba_inline.proofs.Adding.{adds-if, adds-leave}
use Rattle.ba_inline.proofs.Leaving.{adds-branches, returned-last}
use Rattle.ba_inline.specs.Making.{return_label}
use Rattle.ba_inline.proofs.blocks.add_branches.Goals as goal

pub returns : goal.returns
returns c = on_ok_weaker c.add-3.result (λ left.
    adds-branches return_label c.args.out.now.items c.add-2.new.out.items c.add-3.new.out.items
    c.args.when c.pop.new.self.items c.pop-2.new.self.items c.args.yes.items c.args.no.items
    (returned-last c.args.yes.items c.pop.new.self.items c.as_slice.result.now c.args.yes.len
    c.as_slice.ensures.value c.as_slice.ensures.len
    (OnTrue_at {b = c.ends_in_return.result} (search rules) c.ends_in_return.ensures) c.pop.ensures.rest)
    (returned-last c.args.no.items c.pop-2.new.self.items c.as_slice-else-not-ends_in_return.result.now
    c.args.no.len c.as_slice-else-not-ends_in_return.ensures.value
    c.as_slice-else-not-ends_in_return.ensures.len
    (OnTrue_at {b = c.ends_in_return-else-not-ends_in_return.result} (search rules)
    c.ends_in_return-else-not-ends_in_return.ensures) c.pop-2.ensures.rest)
    (adds-if _ _ _ _ _ c.in_ok-add.ensures) (adds-leave _ _ _ left)) c.add-3.ensures

pub returns-then-not-ends_in_return : goal.returns-then-not-ends_in_return
returns-then-not-ends_in_return c = on_ok_weaker c.add.result (λ is.
    adds-if _ _ c.args.when c.args.yes c.args.no is) c.add.ensures
