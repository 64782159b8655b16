-- Places at which a clause begins.

use Rattle.std.proofs.Common.{◌≡◌, ◌≢◌, ℕ, suc, zero, ◌+◌, ◌-◌, ◌<◌, ◌≤◌, Bool, true, false, Option, None, Some, IsSome, IfSome, is_some, List, [], ◌∷◌, length, get_or, drop, cond, refl, sym, ap, subst, ◌∙◌, arith, length-drop, ⊎_elim}
use Rattle.std.proofs.lemmas.Bool.{cases_lt, ne_eqb, eq-eqb}
use Rattle.std.proofs.lemmas.List.{get_or-drop, drop-drop}
use Rattle.std.proofs.lemmas.Grind.{get_or_default_zero}
use Rattle.std.proofs.Math.Seq.{drop-cons}
use Rattle.ba_arena.specs.Clauses.{Stored, Clauses, clause_at, IsLive}
use Rattle.ba_arena.specs.Compaction.{IsFirstFrom}
use Rattle.ba_arena.specs.Words.{clauses_of, entry_in, dead, lacking, AreWords, IsCut}
use Rattle.ba_arena.proofs.Reading.{left_le, IsHere}

-- the rest of the present clause
inner : (left : ℕ) (ws : List ℕ) → left ≤ length ws
    → drop left (clauses_of left ws) ≡ clauses_of 0 (drop left ws)
inner zero ws h = refl
inner (suc left) [] h = absurd (omega (arith, h))
inner (suc left) (w ∷ ws) h = inner left ws (omega (arith, h))

lacking-inner : (left : ℕ) (ws : List ℕ) → left ≤ length ws → lacking left ws ≡ lacking 0 (drop left ws)
lacking-inner zero ws h = refl
lacking-inner (suc left) [] h = absurd (omega (arith, h))
lacking-inner (suc left) (w ∷ ws) h = lacking-inner left ws (omega (arith, h))

pub none_inside : (left : ℕ) (ws : List ℕ) (j : ℕ) → j < left → clause_at (clauses_of left ws) j ≡ None
none_inside left [] j h = refl
none_inside zero (w ∷ ws) j h = absurd (omega (arith, h))
none_inside (suc left) (w ∷ ws) zero h = refl
none_inside (suc left) (w ∷ ws) (suc j) h = none_inside left ws j (omega (arith, h))

-- what begins at a cut
pub record Block (ws : List ℕ) (p : ℕ) : Type 0 where
  pub words : drop p ws ≡ get_or ws p 0 ∷ drop (suc p) ws
  pub long : suc (suc (suc (get_or ws p 0))) ≤ length (drop (suc p) ws)
  pub room : p + 4 + get_or ws p 0 ≤ length ws
  pub clauses : drop p (clauses_of 0 ws)
      ≡ entry_in (get_or ws p 0) (drop (suc p) ws) ∷ clauses_of (suc (suc (suc (get_or ws p 0)))) (drop (suc p) ws)

pub block : (ws : List ℕ) (p : ℕ) → IsCut ws p → p < length ws → Block ws p
block ws p cut h =
    let is : drop p ws ≡ get_or ws p 0 ∷ drop (suc p) ws = drop-cons ws p 0 h in
    let long = left_le _ (drop (suc p) ws) (ap (lacking 0) (sym is) ∙ cut.whole) in
    record {
      words = is;
      long = long;
      room = omega (arith, long, length-drop (suc p) ws, h);
      clauses = cut.clauses ∙ ap (clauses_of 0) is;
    }

pub cut-start : (ws : List ℕ) → AreWords ws → IsCut ws 0
cut-start ws words = record { within = omega arith; whole = words.whole; clauses = refl }

pub cut-next : (ws : List ℕ) (p n : ℕ) → IsCut ws p → p < length ws → n ≡ p + 4 + get_or ws p 0 → IsCut ws n
cut-next ws p n cut h n_is =
    let b = block ws p cut h in
    let w = get_or ws p 0 in
    let rest = drop (suc p) ws in
    let left : ℕ = suc (suc (suc w)) in
    let past : drop left rest ≡ drop n ws =
    drop-drop left (suc p) ws ∙ ap (λ m. drop m ws) (omega (arith, n_is)) in
    let over : drop n (clauses_of 0 ws) ≡ drop (suc left) (drop p (clauses_of 0 ws)) =
    ap (λ m. drop m (clauses_of 0 ws)) (omega (arith, n_is)) ∙ sym (drop-drop (suc left) p (clauses_of 0 ws)) in
    record {
      within = omega (arith, b.room, n_is);
      whole = ap (lacking 0) (sym past) ∙ (sym (lacking-inner left rest b.long)
          ∙ (ap (lacking 0) (sym b.words) ∙ cut.whole));
      clauses = over ∙ (ap (drop (suc left)) b.clauses ∙ (inner left rest b.long ∙ ap (clauses_of 0) past));
    }

-- a live clause begins at a cut
live_cut : (left : ℕ) (ws : List ℕ) (i : ℕ) → IsSome (clause_at (clauses_of left ws) i) → lacking left ws ≡ 0
    → (lacking 0 (drop i ws) ≡ 0) × (drop i (clauses_of left ws) ≡ clauses_of 0 (drop i ws))
live_cut left [] i live whole = absurd (cc live)
live_cut zero (w ∷ ws) zero live whole = (whole, refl)
live_cut zero (w ∷ ws) (suc i) live whole = live_cut (suc (suc (suc w))) ws i live whole
live_cut (suc left) (w ∷ ws) zero live whole = absurd (cc live)
live_cut (suc left) (w ∷ ws) (suc i) live whole = live_cut left ws i live whole

pub cut-live : (ws : List ℕ) (i : ℕ) → AreWords ws → IsHere ws i → IsCut ws i
cut-live ws i words h =
    let out = live_cut 0 ws i (ap is_some h.is) words.whole in
    record { within = omega (arith, h.room); whole = out.0; clauses = out.1 }

-- the entry at a cut, and the gap after it
pub entry-at : (ws : List ℕ) (p : ℕ) → IsCut ws p → p < length ws
    → clause_at (clauses_of 0 ws) p ≡ entry_in (get_or ws p 0) (drop (suc p) ws)
entry-at ws p cut h =
    let b = block ws p cut h in
    ap (λ m. clause_at (clauses_of 0 ws) m) (omega arith)
    ∙ (sym (get_or-drop p (clauses_of 0 ws) 0 None) ∙ ap (λ (cs : Clauses). clause_at cs 0) b.clauses)

pub gap-at : (ws : List ℕ) (p k : ℕ) → IsCut ws p → p < length ws → p < k → k < p + 4 + get_or ws p 0
    → clause_at (clauses_of 0 ws) k ≡ None
gap-at ws p k cut h after before =
    let b = block ws p cut h in
    let j : ℕ = k - (p + 1) in
    let k_is : k ≡ p + suc j = omega (arith, after) in
    ap (λ m. clause_at (clauses_of 0 ws) m) k_is
    ∙ (sym (get_or-drop p (clauses_of 0 ws) (suc j) None)
    ∙ (ap (λ (cs : Clauses). clause_at cs (suc j)) b.clauses
    ∙ none_inside (suc (suc (suc (get_or ws p 0)))) (drop (suc p) ws) j (omega (arith, before, after))))

-- whether the clause is dead is read in the word of its number
entry_live : (b : Bool) (s : Stored) → b ≡ false → IsSome (cond b None (Some s))
entry_live true s e = absurd (cc e)
entry_live false s e = refl

entry_dead : (b : Bool) (s : Stored) → b ≡ true → cond b None (Some s) ≡ None
entry_dead true s e = refl
entry_dead false s e = absurd (cc e)

number_word : (ws : List ℕ) (p : ℕ) → get_or ws (p + 1) 0 ≡ get_or (drop (suc p) ws) 0 0
number_word ws p = ap (λ m. get_or ws m 0) (omega arith) ∙ sym (get_or-drop (suc p) ws 0 0)

pub live-at : (ws : List ℕ) (p : ℕ) → IsCut ws p → p < length ws → get_or ws (p + 1) 0 ≢ dead
    → IsLive (clauses_of 0 ws) p
live-at ws p cut h ne =
    subst (λ (o : Option Stored). IsSome o) (sym (entry-at ws p cut h))
    (entry_live _ _ (ne_eqb (get_or (drop (suc p) ws) 0 0) dead (λ e. ne (number_word ws p ∙ e))))

pub dead-at : (ws : List ℕ) (p : ℕ) → IsCut ws p → p < length ws → get_or ws (p + 1) 0 ≡ dead
    → clause_at (clauses_of 0 ws) p ≡ None
dead-at ws p cut h e =
    entry-at ws p cut h ∙ entry_dead _ _ (eq-eqb (get_or (drop (suc p) ws) 0 0) dead (sym (number_word ws p) ∙ e))

-- past a dead clause nothing lives up to the next cut
pub none_on : (ws : List ℕ) (start p n k : ℕ) → IsCut ws p → p < length ws → n ≡ p + 4 + get_or ws p 0
    → get_or ws (p + 1) 0 ≡ dead
    → ((k : ℕ) → start ≤ k → k < p → clause_at (clauses_of 0 ws) k ≡ None) → start ≤ k → k < n
    → clause_at (clauses_of 0 ws) k ≡ None
none_on ws start p n k cut h n_is gone none from below = ⊎_elim
    (λ before. none k from before)
    (λ above. ⊎_elim
    (λ after. gap-at ws p k cut h after (omega (arith, below, n_is)))
    (λ le. ap (clause_at (clauses_of 0 ws)) (equal k p above le) ∙ dead-at ws p cut h gone)
    (cases_lt p k))
    (cases_lt k p)
  where
    equal : (k p : ℕ) → p ≤ k → k ≤ p → k ≡ p
    equal k p a b = omega (arith, a, b)

-- after a live clause
pub after-cut : (ws : List ℕ) (i x : ℕ) → AreWords ws → IsHere ws i → x ≡ get_or ws i x → IsCut ws (i + 4 + x)
after-cut ws i x words h read =
    let x_is : x ≡ get_or ws i 0 = read ∙ get_or_default_zero ws i x (omega (arith, h.room)) in
    cut-next ws i (i + 4 + x) (cut-live ws i words h) (omega (arith, h.room)) (omega (arith, x_is))

pub after-first : (ws : List ℕ) (i x : ℕ) (next : Option ℕ) → AreWords ws → IsHere ws i → x ≡ get_or ws i x
    → IsFirstFrom (clauses_of 0 ws) (i + 4 + x) next → IsFirstFrom (clauses_of 0 ws) (i + 1) next
after-first ws i x next words h read first = of next first
  where
    x_is : x ≡ get_or ws i 0
    x_is = read ∙ get_or_default_zero ws i x (omega (arith, h.room))

    between : (k : ℕ) → i + 1 ≤ k → k < i + 4 + x → clause_at (clauses_of 0 ws) k ≡ None
    between k after before =
        gap-at ws i k (cut-live ws i words h) (omega (arith, h.room)) (omega (arith, after)) (omega (arith, before, x_is))

    of : (o : Option ℕ) → IsFirstFrom (clauses_of 0 ws) (i + 4 + x) o → IsFirstFrom (clauses_of 0 ws) (i + 1) o
    of None f = λ k after. ⊎_elim (λ below. between k after below) (λ above. f k above) (cases_lt k (i + 4 + x))
    of (Some n) f = (
      omega (arith, f.0),
      f.1,
      λ k after before. ⊎_elim (λ below. between k after below) (λ above. f.2 k above before) (cases_lt k (i + 4 + x)),
    )

pub after-room : (cs : Clauses) (from n : ℕ) (next : Option ℕ) → n ≤ from → IsFirstFrom cs from next
    → IfSome next (λ c. n ≤ c)
after-room cs from n None le first = tt
after-room cs from n (Some c) le first = omega (arith, first.0, le)
