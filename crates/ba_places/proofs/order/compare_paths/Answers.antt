use Rattle.std.proofs.Common.{◌≡◌, ◌<◌, ◌≤◌, length, drop, sym, subst, ◌∙◌, arith}
use Rattle.std.specs.Ordering.{nat_cmp}
use Rattle.std.specs.declared.cmp.Ordering.TheVariants.{Greater}
use Rattle.ba_places.specs.Order.{path_cmp}
use Rattle.ba_places.proofs.Steps.{path_ended, path_longer}
use Rattle.ba_places.proofs.order.compare_paths.Goals as goal

pub returns-then-i-b : goal.returns-then-i-b
returns-then-i-b c =
    let a = c.args.a.now in
    let b = c.args.b.now in
    let is = c.if-i-b.true in
    let within = c.loop-i-test.true in
    let longer : length b < length a = omega (arith, is, within) in
    sym (subst (λ k. path_cmp (drop k a) (drop k b) ≡ Greater) (sym is) (path_longer a b longer))
    ∙ c.loop-i.invariant.1

pub returns : goal.returns
returns c =
    let a = c.args.a.now in
    let b = c.args.b.now in
    let past = c.loop-i-test.false in
    let end = c.loop-i.auto.i-end in
    let few = c.loop-i.invariant.0 in
    let all : length a ≡ c.loop-i.i = omega (arith, past, end) in
    let fewer : length a ≤ length b = omega (arith, all, few) in
    c.cmp.ensures
    ∙ sym (subst (λ k. path_cmp (drop k a) (drop k b) ≡ nat_cmp (length a) (length b)) all (path_ended a b
    fewer))
    ∙ c.loop-i.invariant.1
