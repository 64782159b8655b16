use Rattle.std.proofs.Common.{arith, ◌+◌, ◌≤◌, ◌≡◌, ℕ, ◌<◌, List, ◌∷◌, None, IsSome, OnOk, length, get_or, subst, sym, ap, ◌∙◌}
use Rattle.std.proofs.lemmas.List.{get_or_default}
use Rattle.std.proofs.lemmas.List.Sorted.{IsPermutation-swap_remove}
use Rattle.std.proofs.lemmas.Result.{on_ok_weaker}
use Rattle.std.specs.List.{swap_remove}
use Rattle.std.specs.List.Sorted.{IsPermutation}
use Rattle.ba_learn.specs.Resolving.{Work, is_seen, AreAbsorbed, IsInert, IsRedundant, MayResolve, Meets, StandsBehind, with_resolved, reason_of_index}
use Rattle.ba_learn.proofs.ResolveLaws.{inert_redundant, dropped_inert, kept_on_trail, dropped_within, dropped_may, dropped_resolves, dropped_keeps, dropped_pending, dropped_length}
use Rattle.ba_learn.proofs.resolution.Resolution.minimise_at.Goals as goal

-- the work without the place that is at an index of what is kept
abbrev without : Work → ℕ → ℕ → Work
without w index place = record w { kept = swap_remove w.kept index place }

place_at : {xs : List ℕ} (w : Work) (index place : ℕ) → xs ≡ w.kept → index < length w.kept →
    place ≡ get_or xs index place → place ≡ get_or w.kept index 0
place_at w index place same within e = e ∙ ap (λ (ys : List ℕ). get_or ys index place) same
    ∙ get_or_default w.kept index place 0 within

parted : (w : Work) (index place : ℕ) → index < length w.kept → place ≡ get_or w.kept index 0 →
    IsPermutation w.kept (place ∷ swap_remove w.kept index place)
parted w index place within e = IsPermutation-swap_remove w.kept index place within
    (e ∙ get_or_default w.kept index 0 place within)

dropped : {new : Work} (w : Work) (index place : ℕ) → place ≡ get_or w.kept index 0 →
    new ≡ record w { kept = swap_remove w.kept index (get_or w.kept index 0) } → new ≡ without w index place
dropped w index place e is = is ∙ ap (without w index) (sym e)

pub is_redundant-requires : goal.is_redundant-requires
is_redundant-requires c =
    let w = c.args.self.now in
    let place : ℕ = c.index-place.result.now in
    let at = place_at w c.args.index place (ap (λ (v : Work). v.kept) c.self.view_is) c.requires.within
    c.index-place.ensures in
    kept_on_trail c.args.watch.now w place c.requires.work.0 c.requires.work.1
    (swap_remove w.kept c.args.index place) (parted w c.args.index place c.requires.within at)

pub drop_kept-requires : goal.drop_kept-requires
drop_kept-requires c = c.requires.within

pub resolve-requires-clause-within : goal.resolve-requires-clause-within
resolve-requires-clause-within c =
    let s = c.args.watch.now in
    let w = c.args.self.now in
    let place : ℕ = c.index-place.result.now in
    let at = place_at w c.args.index place (ap (λ (v : Work). v.kept) c.self.view_is) c.requires.within
    c.index-place.ensures in
    let is = parted w c.args.index place c.requires.within at in
    let rest : List ℕ = swap_remove w.kept c.args.index place in
    let some : IsSome (get_or s.reasons place None) =
    (c.is_redundant.ensures.0 c.if-not-is_redundant.false).0 in
    dropped_within s w rest place is some c.requires.work.0 c.requires.work.1

pub resolve-requires-clause-may : goal.resolve-requires-clause-may
resolve-requires-clause-may c =
    let s = c.args.watch.now in
    let w = c.args.self.now in
    let place : ℕ = c.index-place.result.now in
    let at = place_at w c.args.index place (ap (λ (v : Work). v.kept) c.self.view_is) c.requires.within
    c.index-place.ensures in
    let is = parted w c.args.index place c.requires.within at in
    let rest : List ℕ = swap_remove w.kept c.args.index place in
    let some : IsSome (get_or s.reasons place None) =
    (c.is_redundant.ensures.0 c.if-not-is_redundant.false).0 in
    let same : c.drop_kept.new.self ≡ without w c.args.index place =
    dropped w c.args.index place at c.drop_kept.ensures.drops in
    subst (λ (v : Work). MayResolve s v place) (sym same)
    (dropped_may s w rest place is some c.requires.work.0 c.requires.work.1)

pub returns-clause-resolves : goal.returns-clause-resolves
returns-clause-resolves c =
    let s = c.args.watch.now in
    let w = c.args.self.now in
    let place : ℕ = c.index-place.result.now in
    let at = place_at w c.args.index place (ap (λ (v : Work). v.kept) c.self.view_is) c.requires.within
    c.index-place.ensures in
    let is = parted w c.args.index place c.requires.within at in
    let rest : List ℕ = swap_remove w.kept c.args.index place in
    let some : IsSome (get_or s.reasons place None) =
    (c.is_redundant.ensures.0 c.if-not-is_redundant.false).0 in
    let same : c.drop_kept.new.self ≡ without w c.args.index place =
    dropped w c.args.index place at c.drop_kept.ensures.drops in
    let met = subst (λ (v : Work). OnOk c.resolve.result (Meets s (with_resolved v place) c.resolve.new.self
    (reason_of_index s place))) same c.resolve.ensures in
    on_ok_weaker c.resolve.result (dropped_resolves s w rest place is some c.resolve.new.self) met

pub returns-clause-work : goal.returns-clause-work
returns-clause-work c =
    let s = c.args.watch.now in
    let w = c.args.self.now in
    let place : ℕ = c.index-place.result.now in
    let at = place_at w c.args.index place (ap (λ (v : Work). v.kept) c.self.view_is) c.requires.within
    c.index-place.ensures in
    let is = parted w c.args.index place c.requires.within at in
    let rest : List ℕ = swap_remove w.kept c.args.index place in
    let some : IsSome (get_or s.reasons place None) =
    (c.is_redundant.ensures.0 c.if-not-is_redundant.false).0 in
    let same : c.drop_kept.new.self ≡ without w c.args.index place =
    dropped w c.args.index place at c.drop_kept.ensures.drops in
    let met = subst (λ (v : Work). OnOk c.resolve.result (Meets s (with_resolved v place) c.resolve.new.self
    (reason_of_index s place))) same c.resolve.ensures in
    on_ok_weaker c.resolve.result (λ m. dropped_keeps s w rest place is some c.resolve.new.self m
    c.keeps_facts.ensures) met

pub returns-clause-pending : goal.returns-clause-pending
returns-clause-pending c =
    let s = c.args.watch.now in
    let w = c.args.self.now in
    let place : ℕ = c.index-place.result.now in
    let at = place_at w c.args.index place (ap (λ (v : Work). v.kept) c.self.view_is) c.requires.within
    c.index-place.ensures in
    let is = parted w c.args.index place c.requires.within at in
    let rest : List ℕ = swap_remove w.kept c.args.index place in
    let some : IsSome (get_or s.reasons place None) =
    (c.is_redundant.ensures.0 c.if-not-is_redundant.false).0 in
    let same : c.drop_kept.new.self ≡ without w c.args.index place =
    dropped w c.args.index place at c.drop_kept.ensures.drops in
    let met = subst (λ (v : Work). OnOk c.resolve.result (Meets s (with_resolved v place) c.resolve.new.self
    (reason_of_index s place))) same c.resolve.ensures in
    on_ok_weaker c.resolve.result (λ m. dropped_pending s w rest place is some c.resolve.new.self m
    c.keeps_facts.ensures c.requires.work.0 c.requires.work.1) met

pub returns-clause-kept : goal.returns-clause-kept
returns-clause-kept c =
    let s = c.args.watch.now in
    let w = c.args.self.now in
    let place : ℕ = c.index-place.result.now in
    let at = place_at w c.args.index place (ap (λ (v : Work). v.kept) c.self.view_is) c.requires.within
    c.index-place.ensures in
    let is = parted w c.args.index place c.requires.within at in
    let rest : List ℕ = swap_remove w.kept c.args.index place in
    let some : IsSome (get_or s.reasons place None) =
    (c.is_redundant.ensures.0 c.if-not-is_redundant.false).0 in
    let same : c.drop_kept.new.self ≡ without w c.args.index place =
    dropped w c.args.index place at c.drop_kept.ensures.drops in
    let met = subst (λ (v : Work). OnOk c.resolve.result (Meets s (with_resolved v place) c.resolve.new.self
    (reason_of_index s place))) same c.resolve.ensures in
    on_ok_weaker c.resolve.result (λ m. dropped_length s w rest place is some c.resolve.new.self m
    c.args.index c.requires.within) met

pub returns-clause-short : goal.returns-clause-short
returns-clause-short c =
    let s = c.args.watch.now in
    let w = c.args.self.now in
    let place : ℕ = c.index-place.result.now in
    let at = place_at w c.args.index place (ap (λ (v : Work). v.kept) c.self.view_is) c.requires.within
    c.index-place.ensures in
    let is = parted w c.args.index place c.requires.within at in
    let rest : List ℕ = swap_remove w.kept c.args.index place in
    let some : IsSome (get_or s.reasons place None) =
    (c.is_redundant.ensures.0 c.if-not-is_redundant.false).0 in
    let same : c.drop_kept.new.self ≡ without w c.args.index place =
    dropped w c.args.index place at c.drop_kept.ensures.drops in
    let met = subst (λ (v : Work). OnOk c.resolve.result (Meets s (with_resolved v place) c.resolve.new.self
    (reason_of_index s place))) same c.resolve.ensures in
    let settled : AreAbsorbed s (is_seen w) (reason_of_index s place) =
    (c.is_redundant.ensures.0 c.if-not-is_redundant.false).1 in
    on_ok_weaker c.resolve.result
    (λ m shallow short.
    let new : Work = c.resolve.new.self in
    let inert : IsInert s (with_resolved (without w c.args.index place) place) new =
    dropped_inert s w rest place is some new m shallow settled in
    let behind : (x : ℕ) → StandsBehind w.kept c.args.index x → IsRedundant s new x → ⊥ =
    λ x h redundant. short h.0 (omega (arith, h.1)) h.2 (subst (IsRedundant s w) h.3
    (inert_redundant s (with_resolved (without w c.args.index place) place) new x inert redundant)) in
    subst (λ (ys : List ℕ). (k : ℕ) → c.args.index ≤ k → k < length ys →
    IsRedundant s new (get_or ys k 0) → ⊥)
    (ap (λ (v : Work). v.kept) same ∙ sym inert.kept)
    (λ k above within. behind (get_or c.drop_kept.new.self.kept k 0)
    (c.drop_kept.ensures.behind k above within)))
    met
