use Rattle.ba_guards.proofs.Stores.{beyond-arm}
use Rattle.ba_guards.proofs.Building.{zero-below}
use Rattle.ba_guards.proofs.steps.beyond.Goals as goal

pub returns : goal.returns
returns c = λ d fits. beyond-arm d c.args.b.now _ c.args.stmt fits (c.in_ok-demand.ensures d fits
    (zero-below d c.args.b.now fits))
