use Rattle.std.proofs.Common.{refl}
use Rattle.ba_guards.proofs.Building.{opens-by}
use Rattle.ba_guards.proofs.builder.Builder.open.Goals as goal

pub returns-clause-opens : goal.returns-clause-opens
returns-clause-opens c = λ d fits below. opens-by d c.args.self.now _ c.args.which fits below refl
    c.in_ok-first.ensures
