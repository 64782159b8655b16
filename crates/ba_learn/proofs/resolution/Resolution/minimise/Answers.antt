use Rattle.std.proofs.Common.{ℕ, subst, sym, arith}
use Rattle.ba_learn.specs.Resolving.{IsRedundant}
use Rattle.ba_learn.proofs.FollowLaws.{occurs_at}
use Rattle.ba_learn.proofs.resolution.Resolution.minimise.Goals as goal

pub returns-clause-short : goal.returns-clause-short
returns-clause-short c = λ p some h.
    let k = occurs_at p c.loop-index.self.kept some in
    c.loop-index.invariant.short k.0 (omega (arith, c.loop-index-test.false)) k.1
    (subst (λ (x : ℕ). IsRedundant c.args.watch.now c.loop-index.self x) (sym k.2) h)
