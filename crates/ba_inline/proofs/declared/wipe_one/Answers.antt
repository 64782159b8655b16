use Rattle.std.proofs.Common.{rules}
use Rattle.std.proofs.lemmas.Result.{on_ok_weaker}
use Rattle.ba_inline.proofs.Wiping.{wipes-none, wipes-one}
use Rattle.ba_inline.specs.Wiping.{MayGo}
use Rattle.ba_inline.proofs.declared.wipe_one.Goals as goal

pub returns-then-number-from : goal.returns-then-number-from
returns-then-number-from c = wipes-none c.args.from c.args.kept c.args.out.now.items

pub returns : goal.returns
returns c =
    let may : MayGo c.args.from c.args.kept c.args.number = (search rules, search rules) in
    on_ok_weaker c.add_zero.result (λ added.
    wipes-one c.args.from c.args.kept c.args.number c.args.out.now.items c.add_zero.new.out.items may added)
    c.add_zero.ensures
