use Rattle.std.proofs.Common.{◌≡◌, ◌==◌, ◌<◌, ◌≤◌, ◌+◌, true, false, length, get_or, ap, subst, arith}
use Rattle.std.proofs.lemmas.Bool.Decides.{nat_tests}
use Rattle.ba_typing.specs.declared.meanings.Entry.{Entry}
use Rattle.ba_scopes.proofs.Hiding.{steps_left, as-long, entry-at, hidden-at, hides-falls, hides-first, hides-found, hides-next, hides-none, hides-within}
use Rattle.ba_scopes.proofs.scopes.Declared.is_declared_at.Goals as goal

pub returns-in_default-get : goal.returns-in_default-get
returns-in_default-get c =
    let test = λ (e : Entry). e.depth == c.args.depth in
    let items = c.self.inside.stored.items in let es = c.args.self.now in
    let i = c.in-Some.number in
    let so_far = c.loop-next.invariant in
    let within = hides-within es c.args.within c.args.name.now test so_far.0 i c.loop-next.next c.in-Some.is
    so_far.1 in
    let long = as-long items c.self.inside.newest es c.self.invariant c.self.view_is in
    let past = subst (λ xs. length xs ≤ i) c.deref.ensures.value c.in_default-get.ensures.lookup.3 in
    absurd (let none : ⊥ = omega (arith, within, long, past) in none)

pub returns-then-stored-depth : goal.returns-then-stored-depth
returns-then-stored-depth c =
    let test = λ (e : Entry). e.depth == c.args.depth in
    let items = c.self.inside.stored.items in let es = c.args.self.now in
    let i = c.in-Some.number in let t = c.in-Some-get.stored.now in
    let so_far = c.loop-next.invariant in
    let within = subst (λ xs. i < length xs) c.deref.ensures.value c.in-Some-get.ensures.lookup.3.0 in
    let is = subst (λ xs. t ≡ get_or xs i t) c.deref.ensures.value c.in-Some-get.ensures.lookup.1 in
    let passes : (t.entry.depth == c.args.depth) ≡ true = grind (arith, nat_tests, c.if-stored-depth.true) in
    hides-found es c.args.within c.args.name.now test so_far.0 i c.loop-next.next c.in-Some.is so_far.1
    t.entry
    (entry-at items c.self.inside.newest es c.self.invariant c.self.view_is i t within is) passes

pub loop-next-smaller : goal.loop-next-smaller
loop-next-smaller c =
    let test = λ (e : Entry). e.depth == c.args.depth in
    let items = c.self.inside.stored.items in let es = c.args.self.now in let newest = c.self.inside.newest in
    let i = c.in-Some.number in let t = c.in-Some-get.stored.now in
    let so_far = c.loop-next.invariant in
    let within = subst (λ xs. i < length xs) c.deref.ensures.value c.in-Some-get.ensures.lookup.3.0 in
    let is = subst (λ xs. t ≡ get_or xs i t) c.deref.ensures.value c.in-Some-get.ensures.lookup.1 in
    let fails : (t.entry.depth == c.args.depth) ≡ false = grind (arith, nat_tests, c.if-stored-depth.false) in
    let next = hides-next es c.args.within c.args.name.now test so_far.0 i c.loop-next.next c.in-Some.is
    so_far.1
    t.entry t.hidden
    (entry-at items newest es c.self.invariant c.self.view_is i t within is) fails
    (hidden-at items newest es c.self.invariant c.self.view_is i t within is) in
    let falls = hides-falls es c.args.within c.args.name.now test i t.hidden next in
    let was : steps_left c.loop-next.next ≡ i + 1 = ap steps_left c.in-Some.is in
    let smaller : steps_left t.hidden < steps_left c.loop-next.next = omega (arith, falls, was) in smaller

pub loop-next-preserved : goal.loop-next-preserved
loop-next-preserved c =
    let test = λ (e : Entry). e.depth == c.args.depth in
    let items = c.self.inside.stored.items in let es = c.args.self.now in let newest = c.self.inside.newest in
    let i = c.in-Some.number in let t = c.in-Some-get.stored.now in
    let so_far = c.loop-next.invariant in
    let within = subst (λ xs. i < length xs) c.deref.ensures.value c.in-Some-get.ensures.lookup.3.0 in
    let is = subst (λ xs. t ≡ get_or xs i t) c.deref.ensures.value c.in-Some-get.ensures.lookup.1 in
    let fails : (t.entry.depth == c.args.depth) ≡ false = grind (arith, nat_tests, c.if-stored-depth.false)
    in (
      i,
      hides-next es c.args.within c.args.name.now test so_far.0 i c.loop-next.next c.in-Some.is so_far.1
          t.entry t.hidden
          (entry-at items newest es c.self.invariant c.self.view_is i t within is) fails
          (hidden-at items newest es c.self.invariant c.self.view_is i t within is),
    )

pub loop-next-init : goal.loop-next-init
loop-next-init c = (
  _,
  hides-first c.self.inside.stored.items c.self.inside.newest c.args.self.now c.self.invariant c.self.view_is
      c.args.within c.args.name.now (λ (e : Entry). e.depth == c.args.depth) c.get-next.result
      c.get-next.ensures,
)

pub returns : goal.returns
returns c = let so_far = c.loop-next.invariant in
    hides-none c.args.self.now c.args.within c.args.name.now (λ (e : Entry). e.depth == c.args.depth) so_far.0
    c.loop-next.next
    c.in_default.is so_far.1
