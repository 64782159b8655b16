use Rattle.std.proofs.Common.{◌≡◌, ◌++◌, ◌∷◌, [], subst, sym, ap, ◌∙◌}
use Rattle.ba_learn.specs.Resolving.{Work, MayResolve, Meets, with_resolved, reason_of_index}
use Rattle.ba_learn.proofs.ResolveLaws.{Resolves-trans, popped_within, popped_reason, popped_may, popped_resolves, popped_keeps, popped_pending, popped_short, popped_less}
use Rattle.ba_learn.proofs.resolution.Resolution.close.Goals as goal

pub resolve-requires-clause-within : goal.resolve-requires-clause-within
resolve-requires-clause-within c =
    let h = c.requires.work in
    let is : c.loop-place.self.waiting ≡ c.pop.new.self.items ++ c.in-Some.place ∷ [] =
    ap (λ (w : Work). w.waiting) (sym c.self.view_is) ∙ c.in-Some.ensures.items in
    popped_within c.args.watch.now c.loop-place.self c.pop.new.self.items c.in-Some.place is h.0
    (c.loop-place.invariant.work h.0 h.1)

pub resolve-requires-clause-reason : goal.resolve-requires-clause-reason
resolve-requires-clause-reason c =
    let h = c.requires.work in
    let is : c.loop-place.self.waiting ≡ c.pop.new.self.items ++ c.in-Some.place ∷ [] =
    ap (λ (w : Work). w.waiting) (sym c.self.view_is) ∙ c.in-Some.ensures.items in
    popped_reason c.args.watch.now c.loop-place.self c.pop.new.self.items c.in-Some.place is h.0
    (c.loop-place.invariant.work h.0 h.1)

pub resolve-requires-clause-may : goal.resolve-requires-clause-may
resolve-requires-clause-may c =
    let h = c.requires.work in
    let is : c.loop-place.self.waiting ≡ c.pop.new.self.items ++ c.in-Some.place ∷ [] =
    ap (λ (w : Work). w.waiting) (sym c.self.view_is) ∙ c.in-Some.ensures.items in
    subst (λ (w : Work). MayResolve c.args.watch.now w c.in-Some.place)
    (sym (ap (λ (w : Work). record w { waiting = c.pop.new.self.items }) c.self.view_is))
    (popped_may c.args.watch.now c.loop-place.self c.pop.new.self.items c.in-Some.place is h.0
    (c.loop-place.invariant.work h.0 h.1))

pub loop-place-preserved : goal.loop-place-preserved
loop-place-preserved c =
    let s = c.args.watch.now in
    let is : c.loop-place.self.waiting ≡ c.pop.new.self.items ++ c.in-Some.place ∷ [] =
    ap (λ (w : Work). w.waiting) (sym c.self.view_is) ∙ c.in-Some.ensures.items in
    let met : Meets s (with_resolved (record c.loop-place.self { waiting = c.pop.new.self.items })
    c.in-Some.place) c.resolve.new.self (reason_of_index s c.in-Some.place) =
    subst (λ (w : Work). Meets s (with_resolved w c.in-Some.place) c.resolve.new.self
    (reason_of_index s c.in-Some.place)) (ap (λ (w : Work). record w { waiting = c.pop.new.self.items })
    c.self.view_is) c.in_ok-resolve.ensures in
    record {
      resolves = Resolves-trans s c.args.self.now c.loop-place.self c.resolve.new.self
          c.loop-place.invariant.resolves (popped_resolves s c.loop-place.self c.pop.new.self.items
          c.in-Some.place is c.resolve.new.self met);
      work = λ high i. popped_keeps s c.loop-place.self c.pop.new.self.items c.in-Some.place is
          c.resolve.new.self met c.keeps_facts.ensures high (c.loop-place.invariant.work high i);
      pending = popped_pending s c.loop-place.self c.pop.new.self.items c.in-Some.place is
          c.resolve.new.self met c.keeps_facts.ensures c.requires.work.0
          (c.loop-place.invariant.work c.requires.work.0 c.requires.work.1) ∙ c.loop-place.invariant.pending;
      short = λ shallow h. popped_short s c.loop-place.self c.pop.new.self.items c.in-Some.place is
          c.resolve.new.self met c.keeps_facts.ensures c.requires.work.0
          (c.loop-place.invariant.work c.requires.work.0 c.requires.work.1)
          (c.loop-place.invariant.resolves.deep ∙ shallow) (c.loop-place.invariant.short shallow h);
    }

pub loop-place-smaller : goal.loop-place-smaller
loop-place-smaller c =
    let s = c.args.watch.now in
    let h = c.requires.work in
    let is : c.loop-place.self.waiting ≡ c.pop.new.self.items ++ c.in-Some.place ∷ [] =
    ap (λ (w : Work). w.waiting) (sym c.self.view_is) ∙ c.in-Some.ensures.items in
    let met : Meets s (with_resolved (record c.loop-place.self { waiting = c.pop.new.self.items })
    c.in-Some.place) c.resolve.new.self (reason_of_index s c.in-Some.place) =
    subst (λ (w : Work). Meets s (with_resolved w c.in-Some.place) c.resolve.new.self
    (reason_of_index s c.in-Some.place)) (ap (λ (w : Work). record w { waiting = c.pop.new.self.items })
    c.self.view_is) c.in_ok-resolve.ensures in
    popped_less s c.loop-place.self c.pop.new.self.items c.in-Some.place is c.resolve.new.self met
    c.keeps_facts.ensures h.0 (c.loop-place.invariant.work h.0 h.1)
