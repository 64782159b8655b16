use Rattle.std.proofs.Common.{◌+◌, sym, subst}
use Rattle.ba_guards.proofs.Offering.{several-more, several-none}
use Rattle.ba_guards.specs.Making.{Draws, are_of}
use Rattle.ba_guards.proofs.choices.several.Goals as goal

pub loop-made-init : goal.loop-made-init
loop-made-init c = λ fit. subst (λ ws. Draws c.args.words.now c.args.words.now ws (are_of c.args.t 0)) (sym
    c.new-values.ensures)
    (several-none c.args.t c.args.words.now fit)

pub loop-made-preserved : goal.loop-made-preserved
loop-made-preserved c = λ fit.
    let before = c.loop-made.invariant fit in
    subst (λ ws. Draws c.args.words.now c.any.new.self ws (are_of c.args.t (c.loop-made._made + 1))) (sym
    c.in_ok-push.ensures.ok)
    (several-more c.args.t c.loop-made._made c.args.words.now c.loop-made.words c.any.new.self
    c.loop-made.values c.in_ok-value.value
    before (c.in_ok-value.ensures before.fit))
