use Rattle.std.proofs.Common.{arith, ap, ◌∙◌, ◌+◌, ◌-◌, ◌++◌, ◌∷◌, []}
use Rattle.ba_lits.specs.Literals.{Literal, negate}
use Rattle.ba_checker.proofs.SplitLaws.{late_step, late_end}
use Rattle.ba_checker.proofs.split.add_late_softs.Goals as goal

pub loop-place-preserved : goal.loop-place-preserved
loop-place-preserved c =
    late_step c.args.weight c.args.e c.loop-place.place (c.args.e + c.loop-place.place - 1) c.args.lits.now
    c.loop-place.softs.items c.push.new.self.items _ (omega arith) (omega arith) c.loop-place.invariant
    (omega arith)
    (c.in_ok-push.ensures.items ∙ ap (λ (l : Literal). c.loop-place.softs.items ++ (l, c.args.weight) ∷ [])
    (c.negated.ensures ∙ ap negate c.positive-fresh.ensures))

pub returns : goal.returns
returns c =
    late_end c.args.weight c.args.e c.loop-place.place c.args.lits.now c.loop-place.softs.items _
    (omega (arith, c.loop-place-test.false)) c.loop-place.invariant
