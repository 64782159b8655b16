-- A word changed within a clause.

use Rattle.std.proofs.Common.{◌≡◌, ℕ, Bool, true, false, cond, eqb, suc, zero, ◌+◌, ◌<◌, ◌≤◌, Option, None, Some, IsSome, is_some, List, [], ◌∷◌, length, get_or, set, drop, map, refl, sym, ap, subst, ◌∙◌, arith, length-drop}
use Rattle.std.proofs.lemmas.List.{length-set, take-set-le}
use Rattle.std.proofs.lemmas.Bool.Decides.{nat_tests}
use Rattle.ba_lits.specs.Literals.{literal_at}
use Rattle.ba_arena.specs.Clauses.{Stored, Clauses, clause_at, changed, linked}
use Rattle.ba_arena.specs.Words.{clauses_of, stored_in, entry_in, dead, lacking, link_of_word, word_of_link, Fits, AreWords}
use Rattle.ba_arena.proofs.Reading.{after_left, IsHere}

-- a word of the present clause
unmoved : (left : ℕ) (ws : List ℕ) (j v : ℕ) → j < left → clauses_of left (set ws j v) ≡ clauses_of left ws
unmoved left [] j v h = refl
unmoved zero (w ∷ ws) j v h = absurd (omega (arith, h))
unmoved (suc left) (w ∷ ws) zero v h = refl
unmoved (suc left) (w ∷ ws) (suc j) v h =
    ap (λ (cs : Clauses). None ∷ cs) (unmoved left ws j v (omega (arith, h)))

lacking-unmoved : (left : ℕ) (ws : List ℕ) (j v : ℕ) → j < left → lacking left (set ws j v) ≡ lacking left ws
lacking-unmoved left [] j v h = refl
lacking-unmoved zero (w ∷ ws) j v h = absurd (omega (arith, h))
lacking-unmoved (suc left) (w ∷ ws) zero v h = refl
lacking-unmoved (suc left) (w ∷ ws) (suc j) v h = lacking-unmoved left ws j v (omega (arith, h))

-- a word past a clause
entry-past : (count q v : ℕ) (ws : List ℕ) → 3 + count ≤ q
    → entry_in count (set ws q v) ≡ entry_in count ws
entry-past count zero v ws h = absurd (omega (arith, h))
entry-past count (suc zero) v ws h = absurd (omega (arith, h))
entry-past count (suc (suc zero)) v ws h = absurd (omega (arith, h))
entry-past count (suc (suc (suc p))) v [] h = refl
entry-past count (suc (suc (suc p))) v (n ∷ []) h = refl
entry-past count (suc (suc (suc p))) v (n ∷ a ∷ []) h = refl
entry-past count (suc (suc (suc p))) v (n ∷ a ∷ b ∷ codes) h =
    let of_codes : List ℕ → Option Stored =
    λ cs. cond (eqb n dead) None (Some (record {
      lits = map literal_at cs;
      number = n;
      first = link_of_word a;
      second = link_of_word b;
    })) in
    ap of_codes (take-set-le count codes p v (omega (arith, h)))

pub cons_both : {X : Type 0} (x y : X) (xs ys : List X) → x ≡ y → xs ≡ ys → x ∷ xs ≡ y ∷ ys
cons_both x y xs ys e f = rw (e, f) refl

-- what a word within a clause changes
pub writes : (left : ℕ) (ws : List ℕ) (i j q v : ℕ) → q ≡ suc (i + j)
    → IsSome (clause_at (clauses_of left ws) i) → j < 3 + get_or ws i 0
    → clauses_of left (set ws q v) ≡ set (clauses_of left ws) i
    (entry_in (get_or ws i 0) (set (drop (suc i) ws) j v))
writes left [] i j q v e live h = absurd (cc live)
writes zero (w ∷ ws) zero j zero v e live h = absurd (omega (arith, e))
writes zero (w ∷ ws) zero j (suc q) v e live h =
    let q_is : q ≡ j = omega (arith, e) in
    rw q_is (ap (λ (cs : Clauses). entry_in w (set ws j v) ∷ cs)
    (unmoved (suc (suc (suc w))) ws j v (omega (arith, h))))
writes zero (w ∷ ws) (suc i) j zero v e live h = absurd (omega (arith, e))
writes zero (w ∷ ws) (suc i) j (suc q) v e live h =
    let after = after_left (suc (suc (suc w))) ws i live in
    cons_both _ _ _ _ (entry-past w q v ws (omega (arith, after, e)))
    (writes (suc (suc (suc w))) ws i j q v (omega (arith, e)) live h)
writes (suc left) (w ∷ ws) zero j q v e live h = absurd (cc live)
writes (suc left) (w ∷ ws) (suc i) j zero v e live h = absurd (omega (arith, e))
writes (suc left) (w ∷ ws) (suc i) j (suc q) v e live h =
    ap (λ (cs : Clauses). None ∷ cs) (writes left ws i j q v (omega (arith, e)) live h)

lacking-writes : (left : ℕ) (ws : List ℕ) (i j q v : ℕ) → q ≡ suc (i + j)
    → IsSome (clause_at (clauses_of left ws) i) → j < 3 + get_or ws i 0
    → lacking left (set ws q v) ≡ lacking left ws
lacking-writes left [] i j q v e live h = absurd (cc live)
lacking-writes zero (w ∷ ws) zero j zero v e live h = absurd (omega (arith, e))
lacking-writes zero (w ∷ ws) zero j (suc q) v e live h =
    lacking-unmoved (suc (suc (suc w))) ws q v (omega (arith, h, e))
lacking-writes zero (w ∷ ws) (suc i) j zero v e live h = absurd (omega (arith, e))
lacking-writes zero (w ∷ ws) (suc i) j (suc q) v e live h =
    lacking-writes (suc (suc (suc w))) ws i j q v (omega (arith, e)) live h
lacking-writes (suc left) (w ∷ ws) zero j q v e live h = absurd (cc live)
lacking-writes (suc left) (w ∷ ws) (suc i) j zero v e live h = absurd (omega (arith, e))
lacking-writes (suc left) (w ∷ ws) (suc i) j (suc q) v e live h =
    lacking-writes left ws i j q v (omega (arith, e)) live h

-- if one clause is changed into one that fits, or into none, all fit
fit-set : (cs : Clauses) (i : ℕ) (o : Option Stored) → ((t : Stored) → o ≡ Some t → Fits t)
    → ((k : ℕ) (t : Stored) → clause_at cs k ≡ Some t → Fits t) → (k : ℕ) (t : Stored)
    → clause_at (set cs i o) k ≡ Some t → Fits t
fit-set [] i o fits all k t e = all k t e
fit-set (c ∷ cs) zero o fits all zero t e = fits t e
fit-set (c ∷ cs) zero o fits all (suc k) t e = all (suc k) t e
fit-set (c ∷ cs) (suc i) o fits all zero t e = all zero t e
fit-set (c ∷ cs) (suc i) o fits all (suc k) t e = fit-set cs i o fits (λ k t e. all (suc k) t e) k t e

-- the words after a clause's count
pub rest_long : (ws : List ℕ) (i : ℕ) → IsHere ws i → 3 + get_or ws i 0 ≤ length (drop (suc i) ws)
rest_long ws i h = omega (arith, h.room, length-drop (suc i) ws)

pub words-written : (ws : List ℕ) (i j q v : ℕ) → AreWords ws → IsHere ws i → q ≡ suc (i + j)
    → j < 3 + get_or ws i 0
    → ((t : Stored) → entry_in (get_or ws i 0) (set (drop (suc i) ws) j v) ≡ Some t → Fits t)
    → AreWords (set ws q v)
words-written ws i j q v words h e within fits = record {
  whole = lacking-writes 0 ws i j q v e (ap is_some h.is) within ∙ words.whole;
  few = rw length-set words.few;
  fit = λ k t at. fit-set (clauses_of 0 ws) i _ fits words.fit k t
      (ap (λ (cs : Clauses). clause_at cs k) (sym (writes 0 ws i j q v e (ap is_some h.is) within)) ∙ at);
}

-- a change of a clause that isn't dead
pub entry-change : (b : Bool) (s t : Stored) (f : Option Stored → Option Stored) → f None ≡ None
    → Some t ≡ f (Some s) → cond b None (Some t) ≡ f (cond b None (Some s))
entry-change true s t f none some = sym none
entry-change false s t f none some = some

-- a clause that fits if it isn't dead
pub entry-fits : (b : Bool) (s t : Stored) → Fits s → cond b None (Some s) ≡ Some t → Fits t
entry-fits true s t fits e = absurd (cc e)
entry-fits false s t fits e = subst Fits (cc e) fits

-- a link
linked-word : (count which v : ℕ) (rest : List ℕ) (next : Option ℕ) → which ≤ 1 → 3 + count ≤ length rest
    → link_of_word v ≡ next
    → entry_in count (set rest (suc which) v) ≡ linked which next (entry_in count rest)
linked-word count zero v [] next le long e = absurd (omega (arith, long))
linked-word count zero v (n ∷ []) next le long e = absurd (omega (arith, long))
linked-word count zero v (n ∷ a ∷ []) next le long e = absurd (omega (arith, long))
linked-word count zero v (n ∷ a ∷ b ∷ codes) next le long e =
    entry-change (eqb n dead) (stored_in count (n ∷ a ∷ b ∷ codes)) (stored_in count (n ∷ v ∷ b ∷ codes))
    (linked 0 next) refl (rw e refl)
linked-word count (suc zero) v [] next le long e = absurd (omega (arith, long))
linked-word count (suc zero) v (n ∷ []) next le long e = absurd (omega (arith, long))
linked-word count (suc zero) v (n ∷ a ∷ []) next le long e = absurd (omega (arith, long))
linked-word count (suc zero) v (n ∷ a ∷ b ∷ codes) next le long e =
    entry-change (eqb n dead) (stored_in count (n ∷ a ∷ b ∷ codes)) (stored_in count (n ∷ a ∷ v ∷ codes))
    (linked 1 next) refl (rw e refl)
linked-word count (suc (suc which)) v rest next le long e = absurd (omega (arith, le))

linked-fits : (count which v : ℕ) (rest : List ℕ) → which ≤ 1 → 3 + count ≤ length rest
    → Fits (stored_in count rest) → Fits (stored_in count (set rest (suc which) v))
linked-fits count zero v [] le long fits = absurd (omega (arith, long))
linked-fits count zero v (n ∷ []) le long fits = absurd (omega (arith, long))
linked-fits count zero v (n ∷ a ∷ []) le long fits = absurd (omega (arith, long))
linked-fits count zero v (n ∷ a ∷ b ∷ codes) le long fits = record { lits = fits.lits }
linked-fits count (suc zero) v [] le long fits = absurd (omega (arith, long))
linked-fits count (suc zero) v (n ∷ []) le long fits = absurd (omega (arith, long))
linked-fits count (suc zero) v (n ∷ a ∷ []) le long fits = absurd (omega (arith, long))
linked-fits count (suc zero) v (n ∷ a ∷ b ∷ codes) le long fits = record { lits = fits.lits }
linked-fits count (suc (suc which)) v rest le long fits = absurd (omega (arith, le))

pub set_link-is : (ws : List ℕ) (i which v : ℕ) (next : Option ℕ) → IsHere ws i → which ≤ 1
    → link_of_word v ≡ next
    → clauses_of 0 (set ws (i + 2 + which) v) ≡ changed (linked which next) (clauses_of 0 ws) i
set_link-is ws i which v next h le e =
    writes 0 ws i (suc which) (i + 2 + which) v (omega arith) (ap is_some h.is) (omega (arith, le))
    ∙ ap (λ (o : Option Stored). set (clauses_of 0 ws) i o)
    (linked-word _ which v (drop (suc i) ws) next le (rest_long ws i h) e
    ∙ ap (linked which next) h.entry_is)

pub set_link-words : (ws : List ℕ) (i which v : ℕ) → AreWords ws → IsHere ws i → which ≤ 1
    → AreWords (set ws (i + 2 + which) v)
set_link-words ws i which v words h le =
    words-written ws i (suc which) (i + 2 + which) v words h (omega arith) (omega (arith, le))
    (λ t is. entry-fits _ _ t (linked-fits _ which v (drop (suc i) ws) le (rest_long ws i h) h.fits) is)

pub link-word : (v : ℕ) (next : Option ℕ) → v ≡ word_of_link next → link_of_word v ≡ next
link-word v None e = rw e refl
link-word v (Some clause) e = rw e (some clause)
  where
    some : (clause : ℕ) → link_of_word (clause + 1) ≡ Some clause
    some clause = grind (arith, nat_tests)

-- the word of a dead clause
dead-word : (count : ℕ) (rest : List ℕ) → 3 + count ≤ length rest → entry_in count (set rest 0 dead) ≡ None
dead-word count [] long = absurd (omega (arith, long))
dead-word count (n ∷ rest) long = refl

pub mark_dead-is : (ws : List ℕ) (i : ℕ) → IsHere ws i
    → clauses_of 0 (set ws (i + 1) dead) ≡ set (clauses_of 0 ws) i None
mark_dead-is ws i h =
    writes 0 ws i 0 (i + 1) dead (omega arith) (ap is_some h.is) (omega arith)
    ∙ ap (λ (o : Option Stored). set (clauses_of 0 ws) i o) (dead-word _ (drop (suc i) ws) (rest_long ws i h))

pub mark_dead-words : (ws : List ℕ) (i : ℕ) → AreWords ws → IsHere ws i → AreWords (set ws (i + 1) dead)
mark_dead-words ws i words h =
    words-written ws i 0 (i + 1) dead words h (omega arith) (omega arith)
    (λ t is. absurd (clash t (sym (dead-word _ (drop (suc i) ws) (rest_long ws i h)) ∙ is)))
  where
    clash : (t : Stored) → None ≡ Some t → ⊥
    clash t e = cc e
