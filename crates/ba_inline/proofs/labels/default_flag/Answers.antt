use Rattle.std.proofs.lemmas.Result.{IfOk-weaker}
use Rattle.ba_inline.proofs.EntrySteps.{default-none, default-some}
use Rattle.ba_inline.proofs.labels.default_flag.Goals as goal

pub returns-in-Some : goal.returns-in-Some
returns-in-Some c = IfOk-weaker c.none_of.result _ _ (λ flag made base le between.
    default-some base c.args.declared.now c.none_of.new.declared c.args.out.now.items c.none_of.new.out.items
    c.args.tests.now c.args.labels.now.other _ flag c.in-Some.is (made base le between)) c.none_of.ensures

pub returns-in-None : goal.returns-in-None
returns-in-None c = λ base le between.
    default-none base c.args.declared.now c.args.out.now.items c.args.tests.now c.args.labels.now.other
    c.in-None.is
