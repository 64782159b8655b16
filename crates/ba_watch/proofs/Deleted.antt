-- What a deletion leaves of the clauses, and of what names them.

use Rattle.std.proofs.Common.{◌≡◌, ℕ, suc, zero, Option, None, Some, IsSome, is_some, List, [], ◌∷◌, length, get_or, map, refl, sym, ap, subst, ◌∙◌, ⊎_elim}
use Rattle.std.specs.List.{Contains}
use Rattle.std.specs.Option.{option_map}
use Rattle.std.proofs.lemmas.List.{get_or_default}
use Rattle.std.proofs.lemmas.Option.{none-some}
use Rattle.ba_lits.specs.Literals.{Literal}
use Rattle.ba_arena.specs.Clauses.{Clauses, Stored, IsLive, clause_at, lits_at, lits_of, linked}
use Rattle.ba_arena.specs.Compaction.{moved, led, Compacts}
use Rattle.ba_arena.proofs.Moves.{moved-apart}
use Rattle.ba_arena.proofs.Compactions.{map_agree}
use Rattle.ba_watch.specs.Threads.{Clause, plain, plain_at, SamePlain}
use Rattle.ba_watch.specs.Propagation.{clause_in}
use Rattle.ba_watch.specs.Trails.{Assignments}
use Rattle.ba_watch.specs.Deletion.{KeepsOthers, DeletesAll, IsKept, number_of, numbered, AreReferenced, IsNamed, IsWithout, unnamed_of}
use Rattle.ba_watch.proofs.Sounds.{clause_in-map}

-- a number of the list, read in two ways
pub named_from : (numbers : List ℕ) (n : ℕ) → Contains numbers n → IsNamed numbers (length numbers) n
named_from numbers n has = (has.0, has.1, get_or_default numbers has.0 0 n has.1 ∙ has.2)

pub contains_from : (numbers : List ℕ) (n : ℕ) → IsNamed numbers (length numbers) n → Contains numbers n
contains_from numbers n named = (named.0, named.1, sym (get_or_default numbers named.0 0 n named.1) ∙ named.2)

-- a clause and its number, without links
stored_of : (o : Option Stored) (c : Clause) → plain o ≡ Some c → (s : Stored) × (o ≡ Some s)
stored_of None c e = absurd (cc e)
stored_of (Some s) c e = (s, refl)

number_plain : (o : Option Stored) (c : Clause) → plain o ≡ Some c → number_of o ≡ Some c.number
number_plain None c e = absurd (cc e)
number_plain (Some s) c e =
    let is : ◌≡◌ {A = Clause} (record { lits = s.lits; number = s.number }) c = cc e in
    ap (λ (d : Clause). Some d.number) is

plain_linked : (n : ℕ) (o : Option Stored) → plain (linked 0 (Some n) o) ≡ plain o
plain_linked n None = refl
plain_linked n (Some s) = refl

live_plain : (o : Option Stored) (c : Clause) → plain o ≡ Some c → IsSome o
live_plain None c e = absurd (cc e)
live_plain (Some s) c e = refl

led_some : (n : ℕ) (o : Option Stored) → IsSome o → option_map (λ s. n) o ≡ Some n
led_some n None live = absurd (cc live)
led_some n (Some s) live = refl

pub numbered_live : (a : Clauses) (r n : ℕ) → numbered a r ≡ Some n → IsLive a r
numbered_live a r n e = of (clause_at a r) e
  where
    of : (o : Option Stored) → number_of o ≡ Some n → IsSome o
    of None e = absurd (cc e)
    of (Some s) e = refl

lits_linked : (n : ℕ) (o : Option Stored) → lits_of (linked 0 (Some n) o) ≡ lits_of o
lits_linked n None = refl
lits_linked n (Some s) = refl

-- clauses are marked
module _ (a0 a1 : Clauses) (numbers : List ℕ)
    (without : IsWithout (IsNamed numbers (length numbers)) a0 a1) where
  pub kept_live : (r : ℕ) → IsKept a0 numbers r → IsLive a1 r
  kept_live r kept =
      let s = kept.0 in
      let stays = without.stays r s.number (ap number_of kept.1)
      (λ named. kept.2 (contains_from numbers s.number named)) in
      ap is_some (stays ∙ kept.1)

  pub led_there : (r : ℕ) → IsLive a1 r → led a1 (Some r) ≡ Some (moved a1 r)
  led_there r live = led_some (moved a1 r) (clause_at a1 r) live

  -- what holds of the literals of each clause still does
  pub compact_lits : (a3 : Clauses) → Compacts a1 a3 → (P : List Literal → Type 0) → P []
      → ((r : ℕ) → P (lits_at a0 r)) → (q : ℕ) → P (lits_at a3 q)
  compact_lits a3 compacts P none all q = at (clause_at a3 q) refl
    where
      at : (o : Option Stored) → clause_at a3 q ≡ o → P (lits_at a3 q)
      at None is = subst P (sym (ap lits_of is)) none
      at (Some s) is =
          let source = compacts.only q (ap is_some is) in
          let r = source.from in
          let same : lits_at a3 q ≡ lits_at a1 r = ap (lits_at a3) (sym source.to)
          ∙ (ap lits_of (compacts.there r source.live) ∙ lits_linked (moved a1 r) (clause_at a1 r)) in
          let first : lits_at a0 r ≡ lits_at a1 r = ⊎_elim
          (λ gone. absurd (cc (sym source.live ∙ ap is_some gone)))
          (λ same. sym (ap lits_of same))
          (without.either r) in
          subst P (first ∙ sym same) (all r)

  module _ (a3 a4 : Clauses) (compacts : Compacts a1 a3) (same : SamePlain a3 a4) where
    plain_there : (r : ℕ) (c : Clause) → plain_at a1 r ≡ Some c → plain_at a4 (moved a1 r) ≡ Some c
    plain_there r c is = same (moved a1 r)
        ∙ (ap plain (compacts.there r (live_plain (clause_at a1 r) c is))
        ∙ (plain_linked (moved a1 r) (clause_at a1 r) ∙ is))

    -- where a clause that is there has come from
    record From (q : ℕ) (c : Clause) : Type 0 where
      pub from : ℕ
      pub is : plain_at a1 from ≡ Some c
      pub at : moved a1 from ≡ q

    came : (q : ℕ) (c : Clause) → plain_at a4 q ≡ Some c → From q c
    came q c is =
        let before : plain_at a3 q ≡ Some c = sym (same q) ∙ is in
        let source = compacts.only q (live_plain (clause_at a3 q) c before) in
        let r = source.from in
        record {
          from = r;
          is = sym (plain_linked (moved a1 r) (clause_at a1 r))
              ∙ (sym (ap plain (compacts.there r source.live)) ∙ (ap (plain_at a3) source.to ∙ before));
          at = source.to;
        }

    stays_plain : (r : ℕ) (c : Clause) → clause_in (map plain a0) r ≡ Some c →
        (Contains numbers c.number → ⊥) → plain_at a1 r ≡ Some c
    stays_plain r c is stays =
        let was : plain_at a0 r ≡ Some c = sym (clause_in-map a0 r) ∙ is in
        ap plain (without.stays r c.number (number_plain (clause_at a0 r) c was)
        (λ named. stays (contains_from numbers c.number named))) ∙ was

    pub keeps_others : KeepsOthers numbers (moved a1) (map plain a0) (map plain a4)
    keeps_others = record {
      there = λ r c is stays. clause_in-map a4 (moved a1 r) ∙ plain_there r c (stays_plain r c is stays);
      only = λ q c is.
          let source = came q c (sym (clause_in-map a4 q) ∙ is) in
          let r = source.from in
          let was : plain_at a0 r ≡ Some c = ⊎_elim
          (λ none. absurd (none-some c (sym (ap plain none) ∙ source.is)))
          (λ still. sym (ap plain still) ∙ source.is)
          (without.either r) in
          record {
            from = r;
            there = clause_in-map a0 r ∙ was;
            stays = λ has. none-some c (sym (ap plain (without.gone r c.number
                (number_plain (clause_at a0 r) c was)
                (named_from numbers c.number has))) ∙ source.is);
            to = source.at;
          };
      apart = λ x y c d x_is x_stays y_is y_stays e. moved-apart a1 x y
          (live_plain (clause_at a1 x) c (stays_plain x c x_is x_stays))
          (live_plain (clause_at a1 y) d (stays_plain y d y_is y_stays)) e;
    }

    -- numbers
    plain_of_number : (o : Option Stored) (n : ℕ) → number_of o ≡ Some n → (c : Clause) × (plain o ≡ Some c)
    plain_of_number None n e = absurd (cc e)
    plain_of_number (Some s) n e = (record { lits = s.lits; number = s.number }, refl)

    number_there : (r n : ℕ) → numbered a1 r ≡ Some n → numbered a4 (moved a1 r) ≡ Some n
    number_there r n is =
        let c = plain_of_number (clause_at a1 r) n is in
        number_plain (clause_at a4 (moved a1 r)) c.0 (plain_there r c.0 c.1)
        ∙ (sym (number_plain (clause_at a1 r) c.0 c.1) ∙ is)

    pub references_moved : (refs : List (Option ℕ)) → AreReferenced a1 refs →
        AreReferenced a4 (map (led a1) refs)
    references_moved refs r = record {
      sound = λ n q at. sound_at n q (get_or refs n None) refl (sym (get_or-forward refs n) ∙ at);
      each = λ n q at.
          let c = plain_of_number (clause_at a4 q) n at in
          let source = came q c.0 c.1 in
          let was : numbered a1 source.from ≡ Some n =
          number_plain (clause_at a1 source.from) c.0 source.is
          ∙ (sym (number_plain (clause_at a4 q) c.0 c.1) ∙ at) in
          each_at n (get_or refs n None) refl (r.each n source.from was);
    }
      where
        get_or-forward : (xs : List (Option ℕ)) (n : ℕ) →
            get_or (map (led a1) xs) n None ≡ led a1 (get_or xs n None)
        get_or-forward [] n = refl
        get_or-forward (x ∷ xs) zero = refl
        get_or-forward (x ∷ xs) (suc n) = get_or-forward xs n

        live_number : (o : Option Stored) (n : ℕ) → number_of o ≡ Some n → IsSome o
        live_number None n e = absurd (cc e)
        live_number (Some s) n e = refl

        sound_at : (n q : ℕ) (o : Option ℕ) → get_or refs n None ≡ o → led a1 o ≡ Some q →
            numbered a4 q ≡ Some n
        sound_at n q None is at = absurd (cc at)
        sound_at n q (Some k) is at =
            let named : numbered a1 k ≡ Some n = r.sound n k is in
            let there : Some (moved a1 k) ≡ Some q = sym (led_there k
            (live_number (clause_at a1 k) n named)) ∙ at in
            let q_is : moved a1 k ≡ q = cc there in
            ap (numbered a4) (sym q_is) ∙ number_there k n named

        each_at : (n : ℕ) (o : Option ℕ) → get_or refs n None ≡ o → IsSome (get_or refs n None) →
            IsSome (get_or (map (led a1) refs) n None)
        each_at n None is some = absurd (cc (sym (ap is_some is) ∙ some))
        each_at n (Some k) is some =
            let named : numbered a1 k ≡ Some n = r.sound n k is in
            ap is_some (get_or-forward refs n ∙ (ap (led a1) is
            ∙ led_there k (live_number (clause_at a1 k) n named)))

abbrev with_reasons : Assignments → List (Option ℕ) → Assignments
with_reasons t rs = record t { reasons = rs }

pub deletes_all : (a0 a1 a3 a4 : Clauses) (t u : Assignments) (w w1 w' numbers : List ℕ)
    (refs refs' : List (Option ℕ))
    → IsWithout (IsNamed numbers (length numbers)) a0 a1 → AreReferenced a1 refs → Compacts a1 a3 →
    SamePlain a3 a4
    → ((p r : ℕ) → get_or t.reasons p None ≡ Some r → IsKept a0 numbers r)
    → u ≡ record t { reasons = map (led a1) t.reasons } → w1 ≡ unnamed_of a0 numbers w →
    w' ≡ map (moved a1) w1 → refs' ≡ map (led a1) refs → DeletesAll a0 a4 t u w w' refs' numbers
deletes_all a0 a1 a3 a4 t u w w1 w' numbers refs refs' without r compacts same reasons u_is w1_is w'_is
    refs'_is =
    record {
      moved = moved a1;
      clauses = keeps_others a0 a1 numbers without a3 a4 compacts same;
      trail = u_is ∙ ap (with_reasons t)
          (map_agree (led a1) (option_map (moved a1)) t.reasons None
          (λ k h. lead (get_or t.reasons k None) (λ q is. kept_live a0 a1 numbers without q (reasons k q is))));
      waiting_moved = w'_is ∙ ap (map (moved a1)) w1_is;
      referenced = subst (λ (rs : List (Option ℕ)). AreReferenced a4 rs) (sym refs'_is)
          (references_moved a0 a1 numbers without a3 a4 compacts same refs r);
    }
  where
    lead : (o : Option ℕ) → ((q : ℕ) → o ≡ Some q → IsLive a1 q) → led a1 o ≡ option_map (moved a1) o
    lead None live = refl
    lead (Some q) live = led_there a0 a1 numbers without q (live q refl)
