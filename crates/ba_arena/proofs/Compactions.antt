-- What a compaction leaves: planned, rewritten, moved.

use Rattle.std.proofs.Common.{◌≡◌, ℕ, suc, ◌+◌, ◌<◌, Option, None, Some, IsSome, is_some, List, [], ◌∷◌, length, get_or, map, refl, sym, ap, ◌∙◌, arith, ◌⊎◌, inl, inr, ⊎_elim}
use Rattle.std.specs.Option.{option_map}
use Rattle.ba_arena.specs.Clauses.{Stored, Clauses, IsLive, IsOutside, AreReferences, clause_at, lits_of, link_at, link_of, linked}
use Rattle.ba_arena.specs.Compaction.{size_of, moved, compacted, forwarded, followed, link_or, led, Compacts, Plans}
use Rattle.ba_arena.proofs.Moves.{moved-there, moved-from, moved-same, moved-lt, moved-length, moved-past}
use Rattle.ba_arena.proofs.Reading.{stored_some}
use Rattle.ba_arena.proofs.Writing.{cons_both}

size_linked : (n : ℕ) (o : Option Stored) → size_of (linked 0 (Some n) o) ≡ size_of o
size_linked n None = refl
size_linked n (Some s) = refl

link_linked : (n : ℕ) (o : Option Stored) → link_of 0 (linked 0 (Some n) o) ≡ option_map (λ s. n) o
link_linked n None = refl
link_linked n (Some s) = refl

live_linked : (n : ℕ) (o : Option Stored) → is_some (linked 0 (Some n) o) ≡ is_some o
live_linked n None = refl
live_linked n (Some s) = refl

some_map : (n : ℕ) (o : Option Stored) → IsSome o → option_map (λ s. n) o ≡ Some n
some_map n None live = absurd (cc live)
some_map n (Some s) live = refl

-- lists on whose members two functions agree
pub map_agree : {X : Type 0} (f g : X → X) (xs : List X) (d : X) →
    ((k : ℕ) → k < length xs → f (get_or xs k d) ≡ g (get_or xs k d))
    → map f xs ≡ map g xs
map_agree f g [] d same = refl
map_agree f g (x ∷ xs) d same =
    cons_both _ _ _ _ (same 0 (omega arith)) (map_agree f g xs d (λ k h. same (suc k) (omega (arith, h))))

module _ (a0 a1 : Clauses) (plans : Plans a0 a1) where
  pub planned_live : (r : ℕ) → IsLive a0 r → IsLive a1 r
  planned_live r live = ap is_some (plans r) ∙ (live_linked (moved a0 r) (clause_at a0 r) ∙ live)

  was_live : (r : ℕ) → IsLive a1 r → IsLive a0 r
  was_live r live = sym (live_linked (moved a0 r) (clause_at a0 r)) ∙ (sym (ap is_some (plans r)) ∙ live)

  pub planned_link : (r : ℕ) → link_at a1 r 0 ≡ option_map (λ s. moved a0 r) (clause_at a0 r)
  planned_link r = ap (link_of 0) (plans r) ∙ link_linked (moved a0 r) (clause_at a0 r)

  lits_linked : (n : ℕ) (o : Option Stored) → length (lits_of (linked 0 (Some n) o)) ≡ length (lits_of o)
  lits_linked n None = refl
  lits_linked n (Some s) = refl

  pub planned_outside : (xs : List (Option ℕ)) → AreReferences a0 xs → AreReferences a1 xs
  planned_outside xs all k r is = of (all k r is)
    where
      of : IsLive a0 r ⊎ IsOutside a0 r → IsLive a1 r ⊎ IsOutside a1 r
      of (inl live) = inl (planned_live r live)
      of (inr out) = inr (λ q live. ⊎_elim (λ h. inl h)
          (λ h. inr (omega (
            arith,
            h,
            ap (λ (o : Option Stored). length (lits_of o)) (plans q),
            lits_linked (moved a0 q) (clause_at a0 q),
          )))
          (out q (was_live q live)))

  forward : (o : Option ℕ) → forwarded a1 o ≡ led a0 o
  forward None = refl
  forward (Some r) = planned_link r

  pub led-is : (xs : List (Option ℕ)) → map (forwarded a1) xs ≡ map (led a0) xs
  led-is xs = map_agree (forwarded a1) (led a0) xs None (λ k h. forward (get_or xs k None))

  pub moved-is : (xs : List ℕ) → ((k : ℕ) → k < length xs → IsLive a0 (get_or xs k 0)) →
      map (followed a1) xs ≡ map (moved a0) xs
  moved-is xs live = map_agree (followed a1) (moved a0) xs 0 (λ k h.
      let r = get_or xs k 0 in
      ap (link_or r) (planned_link r ∙ some_map (moved a0 r) (clause_at a0 r) (live k h)))

  to : (r : ℕ) → moved a1 r ≡ moved a0 r
  to r = moved-same a0 a1 (λ k. ap size_of (plans k) ∙ size_linked (moved a0 k) (clause_at a0 k)) r

  pub compacts : (a2 : Clauses) → a2 ≡ compacted a1 → Compacts a0 a2
  compacts a2 is = record {
    there = λ r live.
        let s = stored_some (clause_at a1 r) (planned_live r live) in
        ap (λ (cs : Clauses). clause_at cs (moved a0 r)) is
        ∙ (ap (clause_at (compacted a1)) (sym (to r)) ∙ (moved-there a1 r s.0 s.1 ∙ (sym s.1 ∙ plans r)));
    only = λ q live.
        let s = stored_some (clause_at a2 q) live in
        let source = moved-from a1 q s.0 (ap (λ (cs : Clauses). clause_at cs q) (sym is) ∙ s.1) in
        record {
          from = source.from;
          live = was_live source.from (ap is_some source.is);
          to = sym (to source.from) ∙ source.to;
        };
    order = λ a b live h. moved-lt a0 a b h live;
    words = ap length is ∙ (moved-length a1 ∙ (sym (moved-past a1 (length a0 + length a1) (omega arith))
        ∙ (to (length a0 + length a1) ∙ moved-past a0 (length a0 + length a1) (omega arith))));
  }
