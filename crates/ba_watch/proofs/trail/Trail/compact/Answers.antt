use Rattle.std.proofs.Common.{◌≡◌, ◌++◌, ℕ, Option, List, length, take, drop, map, refl, sym, ap, subst, ◌∙◌, arith}
use Rattle.ba_arena.specs.Compaction.{led, AreLiveReferences}
use Rattle.ba_arena.proofs.Mapped.{map_length}
use Rattle.ba_watch.specs.Trails.{Assignments, Holds}
use Rattle.ba_watch.proofs.Follows.{Holds-follow, agrees_led, written_back}
use Rattle.ba_watch.proofs.trail.Trail.compact.Goals as goal

pub invariant_of-self : goal.invariant_of-self
invariant_of-self c =
    let i = c.self.inside in
    let h = c.self.invariant.1 in
    let arena = c.args.arena.now in
    let live : AreLiveReferences arena (take i.assigned i.reasons.items) =
    subst (λ (s : Assignments). AreLiveReferences arena s.reasons) (sym c.self.view_is) c.requires.reasons in
    let is : c.compact_front.new.reasons
    ≡ map (led arena) (take i.assigned i.reasons.items) ++ drop i.assigned i.reasons.items =
    subst (λ (xs : List (Option ℕ)). c.compact_front.new.reasons
    ≡ map (led arena) (take i.assigned xs) ++ drop i.assigned xs) c.as_mut_slice.ensures.value
    c.compact_front.ensures.reasons in
    let long : length c.compact_front.new.reasons ≡ length i.reasons.items =
    ap (λ (xs : List (Option ℕ)). length xs) is ∙ map_length (led arena) i.reasons.items i.assigned in (
      c.self.invariant.0,
      subst (λ (xs : List (Option ℕ)). Holds i.variables i.lits.items xs i.levels.items i.assigned i.level
          i.values.items i.places.items)
          (written_back c.compact_front.new.reasons i.reasons.items i.reasons.len long
          (omega (arith, i.reasons.ok.0)))
          (Holds-follow (led arena) i.variables i.lits.items i.reasons.items c.compact_front.new.reasons
          i.assigned
          (omega (arith, h.assigned_le, h.reasons_room)) is i.levels.items i.level
          i.values.items i.places.items
          refl (agrees_led arena (take i.assigned i.reasons.items) live) h),
    )
