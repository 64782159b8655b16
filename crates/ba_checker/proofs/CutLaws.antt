-- Clauses that are one after the other.

use Rattle.std.proofs.Common.{◌≡◌, ◌≢◌, ℕ, suc, zero, ◌-◌, ◌<◌, ◌≤◌, None, Some, List, [], ◌∷◌, ◌++◌, length, get_or, take, drop, refl, sym, ap, ◌∙◌, arith, Bool, true, false, cond, set}
use Rattle.std.proofs.lemmas.List.{drop_at, take_all, take-append-le, drop-append-le, length-append, length-drop, length-set}
use Rattle.std.specs.List.{slice_range, slice_get}
use Rattle.ba_lits.specs.Literals.{Literal}
use Rattle.ba_checker.specs.States.{Kept, kept, kept_at, clause_at, live_lits, is_live_origin, is_live_at, is_live_entry, is_learnt_at, is_learnt_entry, is_learnt_origin, lits_of, lits_at, without}
use Rattle.ba_checker.specs.Cuts.{IsCut, entries, start_of}
use Rattle.ba_checker.specs.declared.store.Origin.{Origin}
use Rattle.ba_checker.specs.declared.store.Origin.TheVariants.{Given, Deleted}

-- no clause begins past the end of the list
pub IsCut-within : (size from : ℕ) (ends : List ℕ) → IsCut size from ends → from ≤ size
IsCut-within size from [] cut = omega (arith, cut)
IsCut-within size from (end ∷ ends) cut = let rest = IsCut-within size end ends cut.1 in
    omega (arith, cut.0, rest)

pub IsCut-push : (size from more : ℕ) (ends : List ℕ) → IsCut size from ends → size ≤ more →
    IsCut more from (ends ++ more ∷ [])
IsCut-push size from more [] cut le = (omega (arith, cut), refl)
IsCut-push size from more (end ∷ ends) cut le = (cut.0, IsCut-push size end more ends cut.1 le)

-- a part within the front of a list
front_part : (lits more : List Literal) (a b : ℕ) → a ≤ b → b ≤ length lits →
    slice_range (lits ++ more) a b ≡ slice_range lits a b
front_part lits more a b le within =
    ap (take (b - a)) (drop-append-le a lits more (omega arith))
    ∙ take-append-le (b - a) (drop a lits) more (rw (length-drop a lits) (omega arith))

last_part : (lits more : List Literal) → slice_range (lits ++ more) (length lits) (length (lits ++ more))
    ≡ more
last_part lits more =
    ap (take (length (lits ++ more) - length lits)) (drop_at lits more (length lits) refl)
    ∙ take_all (length (lits ++ more) - length lits) more (rw (length-append lits more) (omega arith))

-- a clause is added at the end
pub entries-push : (lits more : List Literal) (from : ℕ) (ends : List ℕ) (origins : List Origin)
    (origin : Origin) →
    IsCut (length lits) from ends → length origins ≡ length ends →
    entries (lits ++ more) from (ends ++ length (lits ++ more) ∷ []) (origins ++ origin ∷ [])
    ≡ entries lits from ends origins ++ kept origin more ∷ []
entries-push lits more from [] [] origin cut same =
    ap (λ c. kept origin c ∷ []) (ap (λ n. slice_range (lits ++ more) n (length (lits ++ more))) cut
    ∙ last_part lits more)
entries-push lits more from [] (o ∷ os) origin cut same = absurd (omega arith)
entries-push lits more from (e ∷ es) [] origin cut same = absurd (omega arith)
entries-push lits more from (e ∷ es) (o ∷ os) origin cut same =
    ap (λ c. kept o c ∷ entries (lits ++ more) e (es ++ length (lits ++ more) ∷ []) (os ++ origin ∷ []))
    (front_part lits more from e cut.0 (IsCut-within (length lits) e es cut.1))
    ∙ ap (λ rest. kept o (slice_range lits from e) ∷ rest)
    (entries-push lits more e es os origin cut.1 (omega arith))

pub length-entries : (lits : List Literal) (from : ℕ) (ends : List ℕ) (origins : List Origin) →
    length origins ≡ length ends → length (entries lits from ends origins) ≡ length ends
length-entries lits from [] origins same = refl
length-entries lits from (e ∷ es) [] same = absurd (omega arith)
length-entries lits from (e ∷ es) (o ∷ os) same = ap suc (length-entries lits e es os (omega arith))

-- the clause at a place, from its start to its end
pub entries-at : (lits : List Literal) (from : ℕ) (ends : List ℕ) (origins : List Origin) (k : ℕ) (d : ℕ)
    (o : Origin) →
    length origins ≡ length ends → k < length ends →
    slice_get (entries lits from ends origins) k ≡ Some
    (kept (get_or origins k o) (slice_range lits (start_of from ends k) (get_or ends k d)))
entries-at lits from [] origins k d o same lt = absurd (omega arith)
entries-at lits from (e ∷ es) [] k d o same lt = absurd (omega arith)
entries-at lits from (e ∷ es) (p ∷ ps) zero d o same lt = refl
entries-at lits from (e ∷ es) (p ∷ ps) (suc k) d o same lt =
    entries-at lits e es ps k d o (omega arith) (omega arith)

-- a clause is deleted
pub entries-set : (lits : List Literal) (from : ℕ) (ends : List ℕ) (origins : List Origin) (k : ℕ)
    (o : Origin) →
    entries lits from ends (set origins k o) ≡ set (entries lits from ends origins) k
    (kept o (lits_at (entries lits from ends origins) k))
entries-set lits from [] origins k o = refl
entries-set lits from (e ∷ es) [] k o = refl
entries-set lits from (e ∷ es) (p ∷ ps) zero o = refl
entries-set lits from (e ∷ es) (p ∷ ps) (suc k) o =
    ap (λ rest. kept p (slice_range lits from e) ∷ rest) (entries-set lits e es ps k o)

-- a clause ends where the next begins, and within the list
pub start_of-le : (size from : ℕ) (ends : List ℕ) (k d : ℕ) → IsCut size from ends → k < length ends →
    start_of from ends k ≤ get_or ends k d
start_of-le size from [] k d cut lt = absurd (omega arith)
start_of-le size from (e ∷ es) zero d cut lt = cut.0
start_of-le size from (e ∷ es) (suc k) d cut lt = start_of-le size e es k d cut.1 (omega arith)

pub end_within : (size from : ℕ) (ends : List ℕ) (k d : ℕ) → IsCut size from ends → k < length ends →
    get_or ends k d ≤ size
end_within size from [] k d cut lt = absurd (omega arith)
end_within size from (e ∷ es) zero d cut lt = IsCut-within size e es cut.1
end_within size from (e ∷ es) (suc k) d cut lt = end_within size e es k d cut.1 (omega arith)

-- the clause after another begins at its end
pub start_of-suc : (from : ℕ) (ends : List ℕ) (k d : ℕ) → k < length ends →
    start_of from ends (suc k) ≡ get_or ends k d
start_of-suc from [] k d lt = absurd (omega arith)
start_of-suc from (e ∷ es) zero d lt = refl
start_of-suc from (e ∷ es) (suc k) d lt = start_of-suc e es k d (omega arith)

-- what the code has after it added a clause
pub added : (lits longer new : List Literal) (ends more : List ℕ) (origins others : List Origin)
    (origin : Origin) (n : ℕ) (seen : List Kept) →
    IsCut (length lits) 0 ends × (length origins ≡ length ends) → entries lits 0 ends origins ≡ seen →
    longer ≡ lits ++ new → n ≡ length longer → more ≡ ends ++ n ∷ [] → others ≡ origins ++ origin ∷ [] →
    (IsCut (length longer) 0 more × (length others ≡ length more))
    × (entries longer 0 more others ≡ seen ++ kept origin new ∷ [])
added lits longer new ends more origins others origin n seen inv view longer_is n_is more_is others_is =
    rw (more_is, others_is, n_is, longer_is) (
      (
        IsCut-push (length lits) 0 (length (lits ++ new)) ends inv.0
            (rw (length-append lits new) (omega arith)),
        rw (length-append origins (origin ∷ []), length-append ends (length (lits ++ new) ∷ []))
            (omega (arith, inv.1)),
      ),
      entries-push lits new 0 ends origins origin inv.0 inv.1 ∙ ap (λ s. s ++ kept origin new ∷ []) view,
    )

-- the same of the code's index
pub start_at : (ends : List ℕ) (place start : ℕ) → place ≢ 0 → place < length ends →
    start ≡ get_or ends (place - 1) 0 → start ≡ start_of 0 ends place
start_at ends zero start ne lt is = absurd (ne refl)
start_at ends (suc k) start ne lt is =
    let e : suc k - 1 ≡ k = omega arith in
    is ∙ (ap (λ n. get_or ends n 0) e ∙ sym (start_of-suc 0 ends k 0 (omega arith)))

-- what a number names
pub named : (lits : List Literal) (ends : List ℕ) (origins : List Origin) (seen : List Kept) (number : ℕ) →
    IsCut (length lits) 0 ends × (length origins ≡ length ends) → entries lits 0 ends origins ≡ seen →
    number ≢ 0 → number ≤ length seen → (d : ℕ) (o : Origin) →
    (kept_at seen number ≡ Some (kept (get_or origins (number - 1) o)
    (slice_range lits (start_of 0 ends (number - 1)) (get_or ends (number - 1) d))))
    × (number - 1 < length ends)
named lits ends origins seen zero inv view pos le d o = absurd (pos refl)
named lits ends origins seen (suc k) inv view pos le d o =
    let long = length-entries lits 0 ends origins inv.1 in
    let within : k < length ends = omega (arith, ap length view, long) in
    let at = ap (λ s. slice_get s k) (sym view) ∙ entries-at lits 0 ends origins k d o inv.1 within in
    let e : suc k - 1 ≡ k = omega arith in
    rw e (at, within)

pub part_named : (lits : List Literal) (ends : List ℕ) (origins : List Origin) (seen : List Kept)
    (number : ℕ) →
    IsCut (length lits) 0 ends × (length origins ≡ length ends) → entries lits 0 ends origins ≡ seen →
    number ≢ 0 → number ≤ length seen → (read : List ℕ) → read ≡ ends → number - 1 < length read
part_named lits ends origins seen number inv view pos le read same =
    rw same ((named lits ends origins seen number inv view pos le 0 Given).1)

pub clause_named : (lits : List Literal) (ends : List ℕ) (origins : List Origin) (seen : List Kept)
    (number : ℕ) →
    IsCut (length lits) 0 ends × (length origins ≡ length ends) → entries lits 0 ends origins ≡ seen →
    number ≢ 0 → number ≤ length seen → (origin : Origin) → origin ≡ get_or origins (number - 1) origin →
    is_live_origin origin ≡ true →
    (read : List ℕ) → read ≡ ends → (all : List Literal) → all ≡ lits → (part : List Literal) →
    part ≡ slice_range all (start_of 0 read (number - 1)) (get_or read (number - 1) 0) →
    Some part ≡ clause_at seen number
clause_named lits ends origins seen number inv view pos le origin origin_is lives read same all same_lits
    part is =
    ap Some (is ∙ (ap (λ r. slice_range all (start_of 0 r (number - 1)) (get_or r (number - 1) 0)) same
    ∙ ap (λ a. slice_range a (start_of 0 ends (number - 1)) (get_or ends (number - 1) 0)) same_lits))
    ∙ sym
    (ap live_lits ((named lits ends origins seen number inv view pos le 0 origin).0)
    ∙ ap (λ b. cond b (Some (slice_range lits (start_of 0 ends (number - 1)) (get_or ends (number - 1) 0)))
    None) (ap is_live_origin (sym origin_is) ∙ lives))

pub deleted_named : (lits : List Literal) (ends : List ℕ) (origins : List Origin) (seen : List Kept)
    (number : ℕ) →
    IsCut (length lits) 0 ends × (length origins ≡ length ends) → entries lits 0 ends origins ≡ seen →
    number ≢ 0 → number ≤ length seen → (origin : Origin) → origin ≡ get_or origins (number - 1) origin →
    is_live_origin origin ≡ false → clause_at seen number ≡ None
deleted_named lits ends origins seen number inv view pos le origin origin_is dead =
    ap live_lits ((named lits ends origins seen number inv view pos le 0 origin).0)
    ∙ ap (λ b. cond b (Some (slice_range lits (start_of 0 ends (number - 1)) (get_or ends (number - 1) 0)))
    None) (ap is_live_origin (sym origin_is) ∙ dead)

pub place_named : (lits : List Literal) (ends : List ℕ) (origins : List Origin) (seen : List Kept)
    (number : ℕ) →
    IsCut (length lits) 0 ends × (length origins ≡ length ends) → entries lits 0 ends origins ≡ seen →
    number ≢ 0 → number ≤ length seen → number - 1 < length origins
place_named lits ends origins seen number inv view pos le =
    let within = (named lits ends origins seen number inv view pos le 0 Given).1 in
    omega (arith, within, inv.1)

pub learnt_named : (lits : List Literal) (ends : List ℕ) (origins : List Origin) (seen : List Kept)
    (number : ℕ) →
    IsCut (length lits) 0 ends × (length origins ≡ length ends) → entries lits 0 ends origins ≡ seen →
    number ≢ 0 → number ≤ length seen → (origin : Origin) → origin ≡ get_or origins (number - 1) origin →
    (learnt : Bool) → learnt ≡ is_learnt_origin origin → learnt ≡ is_learnt_at seen number
learnt_named lits ends origins seen number inv view pos le origin read learnt is =
    is ∙ (ap is_learnt_origin read ∙ sym (ap is_learnt_entry
    ((named lits ends origins seen number inv view pos le 0 origin).0)))

-- what the code has after it deleted a clause
pub deleted : (lits : List Literal) (ends : List ℕ) (origins others : List Origin) (seen : List Kept)
    (number : ℕ) →
    IsCut (length lits) 0 ends × (length origins ≡ length ends) → entries lits 0 ends origins ≡ seen →
    number ≢ 0 → others ≡ set origins (number - 1) Deleted →
    (IsCut (length lits) 0 ends × (length others ≡ length ends))
    × (entries lits 0 ends others ≡ without seen number)
deleted lits ends origins others seen zero inv view pos others_is = absurd (pos refl)
deleted lits ends origins others seen (suc k) inv view pos others_is =
    let e : suc k - 1 ≡ k = omega arith in
    let is : others ≡ set origins k Deleted = others_is ∙ ap (λ n. set origins n Deleted) e in (
      (inv.0, ap length is ∙ (length-set origins k Deleted ∙ inv.1)),
      ap (entries lits 0 ends) is ∙ (entries-set lits 0 ends origins k Deleted
          ∙ ap (λ s. without s (suc k)) view),
    )

pub live_place : (lits : List Literal) (ends : List ℕ) (origins : List Origin) (seen : List Kept)
    (place : ℕ) →
    IsCut (length lits) 0 ends × (length origins ≡ length ends) → entries lits 0 ends origins ≡ seen →
    place < length seen → (origin : Origin) →
    (place < length origins) × (origin ≡ get_or origins place origin → (live : Bool) →
    live ≡ is_live_origin origin → live ≡ is_live_at seen place)
live_place lits ends origins seen place inv view lt origin =
    let long = length-entries lits 0 ends origins inv.1 in
    let within : place < length ends = omega (arith, ap length view, long) in
    let at = ap (λ s. slice_get s place) (sym view)
    ∙ entries-at lits 0 ends origins place 0 origin inv.1 within in
    (omega (arith, within, inv.1), λ read live is. is ∙ (ap is_live_origin read ∙ sym (ap is_live_entry at)))

pub at_place : (lits : List Literal) (ends : List ℕ) (origins : List Origin) (seen : List Kept) (place : ℕ) →
    IsCut (length lits) 0 ends × (length origins ≡ length ends) → entries lits 0 ends origins ≡ seen →
    place < length seen →
    (read : List ℕ) → read ≡ ends → (all : List Literal) → all ≡ lits → (part : List Literal) →
    part ≡ slice_range all (start_of 0 read place) (get_or read place 0) →
    (place < length read) × (part ≡ lits_at seen place)
at_place lits ends origins seen place inv view lt read same all same_lits part is =
    let long = length-entries lits 0 ends origins inv.1 in
    let within : place < length ends = omega (arith, ap length view, long) in
    let at = ap (λ s. slice_get s place) (sym view)
    ∙ entries-at lits 0 ends origins place 0 Given inv.1 within in (
      rw same within,
      is ∙ (ap (λ r. slice_range all (start_of 0 r place) (get_or r place 0)) same
          ∙ (ap (λ a. slice_range a (start_of 0 ends place) (get_or ends place 0)) same_lits
          ∙ sym (ap lits_of at))),
    )

pub place_in : (lits : List Literal) (ends : List ℕ) (origins : List Origin) (seen : List Kept) (place : ℕ) →
    IsCut (length lits) 0 ends × (length origins ≡ length ends) → entries lits 0 ends origins ≡ seen →
    place < length seen →
    (read : List ℕ) → read ≡ ends → place < length read
place_in lits ends origins seen place inv view lt read same =
    let long = length-entries lits 0 ends origins inv.1 in
    let within : place < length ends = omega (arith, ap length view, long) in
    rw same within
