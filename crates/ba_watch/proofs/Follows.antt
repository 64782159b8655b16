-- Reasons that are rewritten: as many are decisions as before.

use Rattle.std.proofs.Common.{◌≡◌, ℕ, suc, ◌+◌, ◌≤◌, Option, None, Some, IsSome, is_some, List, [], ◌∷◌, ◌++◌, length, get_or, take, drop, map, Bool, true, false, refl, sym, ap, subst, ◌∙◌, arith, ⊎_elim}
use Rattle.std.proofs.lemmas.Bool.{cases_lt}
use Rattle.std.proofs.lemmas.List.{take-map, get_or-take, get_or_past, length-take, length-take-le, length-map, take_all, drop_all, append-nil}
use Rattle.std.proofs.Math.Seq.{take-append_seam}
use Rattle.std.specs.Option.{option_map}
use Rattle.ba_arena.specs.Clauses.{Clauses, Stored, clause_at}
use Rattle.ba_arena.specs.Compaction.{moved, led, AreLiveReferences}
use Rattle.ba_arena.proofs.Mapped.{map_length}
use Rattle.ba_lits.specs.Literals.{Literal}
use Rattle.ba_watch.specs.Trails.{decided, level_at, Holds}

-- what was no decision is none then
abbrev pub Agrees : (Option ℕ → Option ℕ) → List (Option ℕ) → Type 0
Agrees f rs = (k : ℕ) → is_some (f (get_or rs k None)) ≡ is_some (get_or rs k None)

decided_both : (o x : Option ℕ) (rs ss : List (Option ℕ)) → is_some o ≡ is_some x → decided rs ≡ decided ss
    → decided (o ∷ rs) ≡ decided (x ∷ ss)
decided_both None None rs ss e h = ap (λ n. 1 + n) h
decided_both None (Some x) rs ss e h = absurd (cc e)
decided_both (Some o) None rs ss e h = absurd (cc e)
decided_both (Some o) (Some x) rs ss e h = h

pub decided_map : (f : Option ℕ → Option ℕ) (rs : List (Option ℕ)) → Agrees f rs →
    decided (map f rs) ≡ decided rs
decided_map f [] agrees = refl
decided_map f (r ∷ rs) agrees =
    decided_both (f r) r (map f rs) rs (agrees 0) (decided_map f rs (λ k. agrees (suc k)))

pub agrees_take : (f : Option ℕ → Option ℕ) (m : ℕ) (rs : List (Option ℕ)) → is_some (f None) ≡ false →
    Agrees f rs
    → Agrees f (take m rs)
agrees_take f m rs none agrees k = ⊎_elim
    (λ below. subst (λ (o : Option ℕ). is_some (f o) ≡ is_some o) (sym (get_or-take m rs k None below))
    (agrees k))
    (λ past. subst (λ (o : Option ℕ). is_some (f o) ≡ is_some o)
    (sym (get_or_past (take m rs) k None (omega (arith, past, length-take m rs)))) none)
    (cases_lt k m)

pub level_map : (f : Option ℕ → Option ℕ) (rs : List (Option ℕ)) (p : ℕ) → is_some (f None) ≡ false →
    Agrees f rs
    → level_at (map f rs) p ≡ level_at rs p
level_map f rs p none agrees =
    ap decided (take-map f (p + 1) rs) ∙ decided_map f (take (p + 1) rs)
    (agrees_take f (p + 1) rs none agrees)

-- reasons of live clauses that follow them
pub agrees_led : (a : Clauses) (rs : List (Option ℕ)) → AreLiveReferences a rs → Agrees (led a) rs
agrees_led a rs live k = at (get_or rs k None) refl
  where
    still : (n : ℕ) (o : Option Stored) → IsSome o → is_some (option_map (λ s. n) o) ≡ true
    still n None live = absurd (cc live)
    still n (Some s) live = refl

    at : (o : Option ℕ) → get_or rs k None ≡ o → is_some (led a o) ≡ is_some o
    at None is = refl
    at (Some c) is = still (moved a c) (clause_at a c) (live k c is)

-- what a slice of a whole vector writes back
pub written_back : {X : Type 0} (new old : List X) (n : ℕ) → length new ≡ length old → n ≡ length old →
    new ≡ take n (new ++ drop (length new) old)
written_back new old n long n_is =
    sym (ap (λ (xs : List _). take n (new ++ xs)) (drop_all (length new) old (omega (arith, long)))
    ∙ (ap (take n) (append-nil new) ∙ take_all n new (omega (arith, long, n_is))))

module _ (f : Option ℕ → Option ℕ) (v : ℕ) (lits : List Literal) (rs rs' : List (Option ℕ)) (n : ℕ)
    (within : n ≤ length rs) (rs'_is : rs' ≡ map f (take n rs) ++ drop n rs) where
  pub front_mapped : take n rs' ≡ map f (take n rs)
  front_mapped =
      let len : n ≡ length (map f (take n rs)) = sym (length-map (take n rs) f
      ∙ length-take-le n rs within) in
      ap (take n) rs'_is ∙ (ap (λ m. take m (map f (take n rs) ++ drop n rs)) len
      ∙ take-append_seam (map f (take n rs)) (drop n rs))

  pub Holds-follow : (levels : List ℕ) (level : ℕ) (values : List (Option Bool)) (places : List ℕ)
      → is_some (f None) ≡ false → Agrees f (take n rs)
      → Holds v lits rs levels n level values places → Holds v lits rs' levels n level values places
  Holds-follow levels level values places none agrees h = record {
    trail = record {
      same_length = ap (λ (xs : List (Option ℕ)). length xs) front_mapped
          ∙ (length-map (take n rs) f ∙ h.trail.same_length);
      fresh = h.trail.fresh;
      counted = h.trail.counted;
      within = h.trail.within;
      short = h.trail.short;
    };
    lits_room = h.lits_room;
    reasons_room = omega (
      arith,
      h.reasons_room,
      ap (λ (xs : List (Option ℕ)). length xs) rs'_is,
      map_length
          f rs n,
    );
    levels_room = h.levels_room;
    places_room = h.places_room;
    assigned_le = h.assigned_le;
    values_room = h.values_room;
    count = h.count;
    level_is = h.level_is ∙ sym (ap decided front_mapped ∙ decided_map f (take n rs) agrees);
    levels_are = λ p p_in. h.levels_are p p_in
        ∙ sym (ap (λ (xs : List (Option ℕ)). level_at xs p) front_mapped
        ∙ level_map f (take n rs) p none agrees);
    places_are = h.places_are;
    values_are = h.values_are;
  }
