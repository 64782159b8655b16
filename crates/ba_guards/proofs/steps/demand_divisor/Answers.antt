use Rattle.std.proofs.Common.{◌≡◌, Bool, true, false, not, refl}
use Rattle.ba_guards.proofs.Arms.{divisor-arm, no-divisor-arm}
use Rattle.ba_guards.proofs.Growing.{fits-grown}
use Rattle.ba_guards.proofs.steps.demand_divisor.Goals as goal

opposite : (b c : Bool) → b ≡ not c → b ≡ true → c ≡ false
opposite b true is h = absurd (cc)
opposite b false is h = refl

same : (b c : Bool) → b ≡ not c → b ≡ false → c ≡ true
same b true is h = refl
same b false is h = absurd (cc)

pub returns-then-never_traps : goal.returns-then-never_traps
returns-then-never_traps c = λ d halt fits below. no-divisor-arm d c.args.b.now c.args.op c.args.t
    c.args.divisor halt fits
    (opposite c.never_traps.result _ c.never_traps.ensures c.if-never_traps.true)

pub returns : goal.returns
returns c = λ d halt fits below.
    let e = c.in_ok-converted.ensures fits.words below in
    divisor-arm d c.args.b.now _ c.args.op c.args.t c.args.divisor c.in_ok-converted.converted
    c.convert.new.self halt fits
    (same c.never_traps.result _ c.never_traps.ensures c.if-never_traps.false) e
    (c.in_ok-demand.ensures d (fits-grown d c.args.b.now c.convert.new.self e.more fits e.grown e.fit) e.name)
