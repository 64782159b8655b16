use Rattle.std.proofs.Common.{◌≡◌, ◌+◌, ℕ, Option, Some, IfSome, refl, subst, arith}
use Rattle.ba_arena.proofs.Planning.{IsPlanning, IsPlannedBelow, planning-init, planning-step}
use Rattle.ba_arena.proofs.Arena.plan.Goals as goal

if_some : (P : ℕ → Type 0) (o : Option ℕ) → IfSome o P → (n : ℕ) → o ≡ Some n → P n
if_some P o h n e = subst (λ (x : Option ℕ). IfSome x P) e h

pub loop-next-init : goal.loop-next-init
loop-next-init c = planning-init c.args.self.now 0 c.first-next.result refl c.first-next.ensures

pub overflow_add-size : goal.overflow_add-size
overflow_add-size c = omega (arith, c.len-size.ensures, c.after-next.ensures.below)

pub overflow_add-place : goal.overflow_add-place
overflow_add-place c =
    let m : IsPlannedBelow c.args.self.now c.loop-next.self c.loop-next.place c.in-Some.clause =
    subst (λ (o : Option ℕ). IsPlanning c.args.self.now c.loop-next.self c.loop-next.place o) c.in-Some.is c.loop-next.invariant in
    omega (arith, c.len-size.ensures, c.after-next.ensures.below, m.le)

pub loop-next-preserved : goal.loop-next-preserved
loop-next-preserved c =
    let m : IsPlannedBelow c.args.self.now c.loop-next.self c.loop-next.place c.in-Some.clause =
    subst (λ (o : Option ℕ). IsPlanning c.args.self.now c.loop-next.self c.loop-next.place o) c.in-Some.is c.loop-next.invariant in
    planning-step c.args.self.now c.loop-next.self c.set_link.new.self c.loop-next.place c.in-Some.clause m
    c.set_link.ensures _ (4 + c.len-size.result) c.after-next.result c.after-next.ensures.first
    (omega (arith, c.len-size.ensures)) refl (if_some _ c.after-next.result c.after-next.ensures.room)
