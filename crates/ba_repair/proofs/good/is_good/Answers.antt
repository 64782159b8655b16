use Rattle.std.proofs.lemmas.Result.{IfOk-weaker}
use Rattle.ba_repair.proofs.GoodEdits.{good-exactly}
use Rattle.ba_repair.proofs.Passing.{lent}
use Rattle.ba_repair.proofs.good.is_good.Goals as goal

pub returns : goal.returns
returns c = IfOk-weaker c.passes.result _ _
    (λ good. good-exactly c.args.program.now c.in_ok-program.program c.args.bounds (lent c.args.inputs.now)
    c.args.edit.now good c.in_ok-program.ensures) c.passes.ensures
