use Rattle.std.proofs.Common.{◌≡◌, ℕ, ◌<◌, ◌≤◌, IsSome, None, Option, List, length, get_or, subst, sym, ap, ◌∙◌, arith, is_some, true}
use Rattle.std.proofs.lemmas.List.{get_or_default}
use Rattle.ba_watch.specs.Trails.{decided}
use Rattle.ba_learn.proofs.ResolveLaws.{start_further}
use Rattle.ba_learn.proofs.resolution.level_start.Goals as goal

some_read : (R : List (Option ℕ)) (p : ℕ) (o : Option ℕ) → p < length R → o ≡ get_or R p o →
    is_some o ≡ true → IsSome (get_or R p None)
some_read R p o within e some = ap is_some (get_or_default R p None o within ∙ sym e) ∙ some

pub overflow_sub-place-in-loop-reasons : goal.overflow_sub-place-in-loop-reasons
overflow_sub-place-in-loop-reasons c =
    let R = c.reasons-reasons.result.now in
    let i = c.loop-reasons.invariant in
    start_further R c.loop-reasons.place (subst (λ (x : List (Option ℕ)). 1 ≤ decided x)
    (sym c.reasons-reasons.ensures) c.requires) i.within i.later
    (some_read R c.loop-reasons.place _ i.within c.index-reasons-place.is (sym c.is_some.ensures
    ∙ c.loop-reasons-test.true))

pub loop-reasons-smaller : goal.loop-reasons-smaller
loop-reasons-smaller c =
    let R = c.reasons-reasons.result.now in
    let i = c.loop-reasons.invariant in
    let some : 1 ≤ c.loop-reasons.place = start_further R c.loop-reasons.place
    (subst (λ (x : List (Option ℕ)). 1 ≤ decided x) (sym c.reasons-reasons.ensures) c.requires) i.within
    i.later
    (some_read R c.loop-reasons.place _ i.within c.index-reasons-place.is (sym c.is_some.ensures
    ∙ c.loop-reasons-test.true)) in
    omega arith
