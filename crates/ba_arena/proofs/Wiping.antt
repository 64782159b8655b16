-- The words of dead clauses are overwritten.

use Rattle.std.proofs.Common.{◌≡◌, ◌≢◌, ℕ, suc, zero, ◌+◌, ◌-◌, ◌<◌, ◌≤◌, ◌⊎◌, inl, inr, Bool, true, false, cond, Option, None, Some, IsSome, is_some, List, [], ◌∷◌, ◌++◌, length, get_or, take, drop, set, eqb, map, refl, sym, ap, subst, ◌∙◌, arith, length-drop, ⊎_elim}
use Rattle.std.proofs.lemmas.Bool.{cases_lt}
use Rattle.std.proofs.lemmas.List.{length-map, length-take, length-set, get_or-drop, append-nil, drop_all, take_all}
use Rattle.std.proofs.lemmas.Grind.{get_or_default_zero}
use Rattle.ba_lits.specs.Literals.{literal_at}
use Rattle.ba_arena.specs.Clauses.{Stored, Clauses, IsLive, IsOutside, clause_at, lits_at, lits_of, link_at, link_of}
use Rattle.ba_arena.specs.Words.{clauses_of, stored_in, entry_in, link_of_word, dead, lacking, IsWiped, AreWords}
use Rattle.ba_arena.proofs.Reading.{left_le, here, IsHere, link_read, len_read}
use Rattle.ba_arena.proofs.Cuts.{cut-live, dead-at, gap-at}
use Rattle.ba_arena.proofs.Writing.{cons_both}

-- The words with those of dead clauses overwritten, except the first of each. The present clause, dead or
-- not, has this many words left.
abbrev wiped : Bool → ℕ → List ℕ → List ℕ
wiped gone left [] = []
wiped gone zero (count ∷ rest) = count ∷ wiped (eqb (get_or rest 0 0) dead) (suc (suc (suc count))) rest
wiped gone (suc left) (word ∷ rest) = (cond gone dead word) ∷ wiped gone left rest

pub length-wiped : (gone : Bool) (left : ℕ) (ws : List ℕ) → length (wiped gone left ws) ≡ length ws
length-wiped gone left [] = refl
length-wiped gone zero (w ∷ ws) = ap suc (length-wiped (eqb (get_or ws 0 0) dead) (suc (suc (suc w))) ws)
length-wiped gone (suc left) (w ∷ ws) = ap suc (length-wiped gone left ws)

pub lacking-wiped : (gone : Bool) (left : ℕ) (ws : List ℕ) → lacking left
    (wiped gone left ws) ≡ lacking left ws
lacking-wiped gone left [] = refl
lacking-wiped gone zero (w ∷ ws) = lacking-wiped (eqb (get_or ws 0 0) dead) (suc (suc (suc w))) ws
lacking-wiped gone (suc left) (w ∷ ws) = lacking-wiped gone left ws

-- the words of a live clause stay
take-wiped : (n : ℕ) (ws : List ℕ) → take n (wiped false n ws) ≡ take n ws
take-wiped zero ws = refl
take-wiped (suc n) [] = refl
take-wiped (suc n) (w ∷ ws) = ap (λ xs. w ∷ xs) (take-wiped n ws)

stored-wiped : (count : ℕ) (ws : List ℕ) → stored_in count (wiped false (suc (suc
    (suc count))) ws) ≡ stored_in count ws
stored-wiped count [] = refl
stored-wiped count (a ∷ []) = refl
stored-wiped count (a ∷ b ∷ []) = refl
stored-wiped count (a ∷ b ∷ c ∷ ws) =
    ap (λ (xs : List ℕ). record (stored_in count (a ∷ b ∷ c ∷ ws)) { lits = map literal_at xs })
    (take-wiped count ws)

entry-wiped : (count : ℕ) (ws : List ℕ) (b : Bool) → eqb (get_or ws 0 0) dead ≡ b →
    entry_in count (wiped b (suc (suc (suc count))) ws) ≡ entry_in count ws
entry-wiped count [] b e = refl
entry-wiped count (w ∷ ws) true e = sym (ap (λ (x : Bool). cond x None (Some (stored_in count (w ∷ ws)))) e)
entry-wiped count (w ∷ ws) false e =
    ap (λ (s : Stored). cond (eqb w dead) None (Some s)) (stored-wiped count (w ∷ ws))

pub clauses-wiped : (gone : Bool) (left : ℕ) (ws : List ℕ) → clauses_of left
    (wiped gone left ws) ≡ clauses_of left ws
clauses-wiped gone left [] = refl
clauses-wiped gone zero (w ∷ ws) =
    cons_both _ _ _ _ (entry-wiped w ws (eqb (get_or ws 0 0) dead) refl)
    (clauses-wiped (eqb (get_or ws 0 0) dead) (suc (suc (suc w))) ws)
clauses-wiped gone (suc left) (w ∷ ws) = ap (λ (cs : Clauses). None ∷ cs) (clauses-wiped gone left ws)

-- outside of live clauses a word of the dead is met
first_dead : (b : Bool) (left : ℕ) (ws : List ℕ) → b ≡ true → 0 < length ws → get_or (wiped b
    (suc left) ws) 0 0 ≡ dead
first_dead b left [] e h = absurd (omega (arith, h))
first_dead true left (w ∷ ws) e h = refl
first_dead false left (w ∷ ws) e h = absurd (cc e)

entry_gone : (b : Bool) (s : Stored) → cond b None (Some s) ≡ None → b ≡ true
entry_gone true s e = refl
entry_gone false s e = absurd (cc e)

entry_there : (b : Bool) (s : Stored) → b ≡ false → cond b None (Some s) ≡ Some s
entry_there true s e = absurd (cc e)
entry_there false s e = refl

long_stored : (w : ℕ) (ws : List ℕ) → suc (suc (suc w)) ≤ length ws → length (stored_in w ws).lits ≡ w
long_stored w ws h =
    omega (arith, h, length-map (take w (drop 3 ws)) literal_at, length-take w (drop 3 ws), length-drop 3 ws)

gap : (gone : Bool) (left : ℕ) (ws : List ℕ) (r : ℕ) → lacking left ws ≡ 0 → suc r < length ws
    → clause_at (clauses_of left ws) r ≡ None → (gone ≡ false → left ≤ r) → IsOutside (clauses_of left ws) r
    → (get_or (wiped gone left ws) r 0 ≡ dead) ⊎ (get_or (wiped gone left ws) (suc r) 0 ≡ dead)
gap gone left [] r whole h none behind out = absurd (omega (arith, h))
gap gone zero (w ∷ ws) zero whole h none behind out =
    inr (first_dead (eqb (get_or ws 0 0) dead) (suc (suc w)) ws (entry_gone _ _ none) (omega (arith, h)))
gap gone zero (w ∷ ws) (suc r) whole h none behind out =
    gap (eqb (get_or ws 0 0) dead) (suc (suc (suc w))) ws r whole (omega (arith, h)) none
    (λ e. past e (out 0 (ap is_some (entry_there _ (stored_in w ws) e))))
    (λ q live. ⊎_elim (λ a. inl (omega (arith, a))) (λ b. inr (omega (arith, b))) (out (suc q) live))
  where
    past : eqb (get_or ws 0 0) dead ≡ false →
        (suc r ≤ 0) ⊎ (0 + 4 + length (lits_at (clauses_of 0 (w ∷ ws)) 0) ≤ suc r) → suc (suc (suc w)) ≤ r
    past e (inl a) = absurd (omega (arith, a))
    past e (inr b) = omega (
      arith,
      b,
      ap (λ (o : Option Stored). length (lits_of o)) (entry_there _ (stored_in w ws) e),
      long_stored w ws (left_le (suc (suc (suc w))) ws whole),
    )
gap true (suc left) (w ∷ ws) zero whole h none behind out = inl refl
gap false (suc left) (w ∷ ws) zero whole h none behind out = absurd (omega (arith, behind refl))
gap gone (suc left) (w ∷ ws) (suc r) whole h none behind out =
    gap gone left ws r whole (omega (arith, h)) none (λ e. omega (arith, behind e))
    (λ q live. ⊎_elim (λ a. inl (omega (arith, a))) (λ b. inr (omega (arith, b))) (out (suc q) live))

pub is-wiped : (ws : List ℕ) → AreWords ws → IsWiped (wiped false 0 ws)
is-wiped ws words r h none out =
    let same : clauses_of 0 (wiped false 0 ws) ≡ clauses_of 0 ws = clauses-wiped false 0 ws in
    subst (λ n. (get_or (wiped false 0 ws) r 0 ≡ dead) ⊎ (get_or (wiped false 0 ws) n 0 ≡ dead)) (next r)
    (gap false 0 ws r words.whole (omega (arith, h, length-wiped false 0 ws))
    (sym (ap (λ (cs : Clauses). clause_at cs r) same) ∙ none) (λ e. omega arith)
    (subst (λ (cs : Clauses). IsOutside cs r) same out))
  where
    next : (r : ℕ) → suc r ≡ r + 1
    next r = omega arith

pub words-wiped : (ws : List ℕ) → AreWords ws → AreWords (wiped false 0 ws)
words-wiped ws words = record {
  whole = lacking-wiped false 0 ws ∙ words.whole;
  few = omega (arith, words.few, length-wiped false 0 ws);
  fit = λ clause s is. words.fit clause s (sym (ap (λ (cs : Clauses). clause_at cs clause)
      (clauses-wiped false 0 ws)) ∙ is);
}

-- if a clause is live, or isn't
gone : (o : Option Stored) → (IsSome o → ⊥) → o ≡ None
gone None h = refl
gone (Some s) h = absurd (h refl)

none_link : (o : Option Stored) → o ≡ None → None ≡ link_of 0 o
none_link None e = refl
none_link (Some s) e = absurd (cc e)

pub past-none : (ws : List ℕ) (r : ℕ) → AreWords ws → length ws ≤ r + 1 → None ≡ link_at (clauses_of 0 ws) r 0
past-none ws r words h = none_link _ (gone (clause_at (clauses_of 0 ws) r)
    (λ live. omega (arith, h, (here ws r words live).room)))

pub count-none : (ws : List ℕ) (r : ℕ) → AreWords ws → get_or ws r 0 ≡ dead → None ≡ link_at
    (clauses_of 0 ws) r 0
count-none ws r words is = none_link _ (gone (clause_at (clauses_of 0 ws) r)
    (λ live. omega (arith, is, words.few, (here ws r words live).room)))

pub number-none : (ws : List ℕ) (r : ℕ) → AreWords ws → get_or ws (r + 1) 0 ≡ dead → None ≡ link_at
    (clauses_of 0 ws) r 0
number-none ws r words is = none_link _ (gone (clause_at (clauses_of 0 ws) r)
    (λ live.
    let h = here ws r words live in
    absurd (cc (sym live ∙ ap is_some (dead-at ws r (cut-live ws r words h) (omega (arith, h.room)) is)))))

pub wiped-live : (ws : List ℕ) (r : ℕ) → IsWiped ws → r + 1 < length ws
    → IsLive (clauses_of 0 ws) r ⊎ IsOutside (clauses_of 0 ws) r
    → get_or ws r 0 ≢ dead → get_or ws (r + 1) 0 ≢ dead → IsLive (clauses_of 0 ws) r
wiped-live ws r wiped within (inl live) count number = live
wiped-live ws r wiped within (inr out) count number = at (clause_at (clauses_of 0 ws) r) refl
  where
    at : (o : Option Stored) → clause_at (clauses_of 0 ws) r ≡ o → IsLive (clauses_of 0 ws) r
    at None is = ⊎_elim (λ e. absurd (count e)) (λ e. absurd (number e)) (wiped r within is out)
    at (Some s) is = ap is_some is

pub link-live : (ws : List ℕ) (r : ℕ) → AreWords ws → IsLive (clauses_of 0 ws) r
    → link_of_word (get_or ws (r + 2) 0) ≡ link_at (clauses_of 0 ws) r 0
link-live ws r words live =
    let h = here ws r words live in
    link_read ws r 0 (get_or ws (r + 2) 0) h (omega arith)
    (sym (get_or_default_zero ws (r + 2) (get_or ws (r + 2) 0) (omega (arith, h.room)))
    ∙ ap (λ n. get_or ws n (get_or ws (r + 2) 0)) (omega arith))

-- the loop over the words
pub record IsWiping (start now : List ℕ) (place left : ℕ) (gone : Bool) : Type 0 where
  pub whole : take place now ++ wiped gone left (drop place now) ≡ wiped false 0 start
  pub lacking_is : lacking left (drop place now) ≡ 0
  pub len : length now ≡ length start

one : (p : ℕ) → p + 1 ≡ suc p
one p = omega arith

take_suc : (ws xs : List ℕ) (p : ℕ) → p < length ws → take (suc p) ws ++ xs ≡ take p ws ++
    (get_or ws p 0 ∷ xs)
take_suc [] xs p h = absurd (omega (arith, h))
take_suc (w ∷ ws) xs zero h = refl
take_suc (w ∷ ws) xs (suc p) h = ap (λ ys. w ∷ ys) (take_suc ws xs p (omega (arith, h)))

set_suc : (ws xs : List ℕ) (p v : ℕ) → p < length ws → take (suc p) (set ws p v) ++ xs ≡ take p ws ++ (v ∷ xs)
set_suc [] xs p v h = absurd (omega (arith, h))
set_suc (w ∷ ws) xs zero v h = refl
set_suc (w ∷ ws) xs (suc p) v h = ap (λ ys. w ∷ ys) (set_suc ws xs p v (omega (arith, h)))

drop_suc : (ws : List ℕ) (p v : ℕ) → drop (suc p) (set ws p v) ≡ drop (suc p) ws
drop_suc [] zero v = refl
drop_suc [] (suc p) v = refl
drop_suc (w ∷ ws) zero v = refl
drop_suc (w ∷ ws) (suc p) v = drop_suc ws p v

here_suc : (ws : List ℕ) (p : ℕ) → p < length ws → drop p ws ≡ get_or ws p 0 ∷ drop (suc p) ws
here_suc [] p h = absurd (omega (arith, h))
here_suc (w ∷ ws) zero h = refl
here_suc (w ∷ ws) (suc p) h = here_suc ws p (omega (arith, h))

step_take : (ws xs : List ℕ) (p : ℕ) → p < length ws → take (p + 1) ws ++ xs ≡ take p ws ++
    (get_or ws p 0 ∷ xs)
step_take ws xs p h = ap (λ n. take n ws ++ xs) (one p) ∙ take_suc ws xs p h

step_set : (ws xs : List ℕ) (p v : ℕ) → p < length ws → take (p + 1) (set ws p v) ++ xs ≡ take p ws ++
    (v ∷ xs)
step_set ws xs p v h = ap (λ n. take n (set ws p v) ++ xs) (one p) ∙ set_suc ws xs p v h

drop_set : (ws : List ℕ) (p v : ℕ) → drop (p + 1) (set ws p v) ≡ drop (p + 1) ws
drop_set ws p v = ap (λ n. drop n (set ws p v)) (one p) ∙ (drop_suc ws p v ∙ sym (ap (λ n. drop n ws)
    (one p)))

drop_here : (ws : List ℕ) (p : ℕ) → p < length ws → drop p ws ≡ get_or ws p 0 ∷ drop (p + 1) ws
drop_here ws p h = here_suc ws p h ∙ ap (λ n. get_or ws p 0 ∷ drop n ws) (sym (one p))

pub pred : (n : ℕ) → (n ≡ 0 → ⊥) → n ≡ suc (n - 1)
pred zero h = absurd (h refl)
pred (suc n) h = omega arith

head_drop : (ws : List ℕ) (p : ℕ) → get_or (drop (p + 1) ws) 0 0 ≡ get_or ws (p + 1) 0
head_drop ws p = get_or-drop (p + 1) ws 0 0 ∙ ap (λ n. get_or ws n 0) (omega arith)

module _ (start now : List ℕ) (p : ℕ) (within : p < length now) where
  pub wiping-begin : (after : List ℕ) (left left' x y : ℕ) (gone gone' : Bool) →
      IsWiping start now p left gone → left ≡ 0
      → x ≡ get_or now p x → y ≡ get_or now (p + 1) y → left' ≡ 3 + x → gone' ≡ eqb y dead
      → after ≡ now → IsWiping start after (p + 1) left' gone'
  wiping-begin after left left' x y gone gone' m zero_is x_is y_is left'_is gone'_is after_is =
      let w = get_or now p 0 in
      let rest = drop (p + 1) now in
      let w_is : x ≡ w = x_is ∙ get_or_default_zero now p x within in
      let lack : lacking (suc (suc (suc w))) rest ≡ 0 =
      sym (ap (lacking 0) (drop_here now p within)) ∙ (ap (λ n. lacking n (drop p now)) (sym zero_is)
      ∙ m.lacking_is) in
      let room = left_le (suc (suc (suc w))) rest lack in
      let y_read : y ≡ get_or rest 0 0 = y_is ∙ (get_or_default_zero now (p + 1) y (omega
      (arith, room, length-drop (p + 1) now))
      ∙ sym (head_drop now p)) in
      let left_is : left' ≡ suc (suc (suc w)) = omega (arith, left'_is, w_is) in
      let gone_is : gone' ≡ eqb (get_or rest 0 0) dead = gone'_is ∙ ap (λ n. eqb n dead) y_read in
      subst (λ (xs : List ℕ). IsWiping start xs (p + 1) left' gone') (sym after_is) (record {
        whole = ap (λ n. take (p + 1) now ++ wiped gone' n rest) left_is
            ∙ (ap (λ b. take (p + 1) now ++ wiped b (suc (suc (suc w))) rest) gone_is
            ∙ (step_take now _ p within
            ∙ (ap (λ xs. take p now ++ wiped gone 0 xs) (sym (drop_here now p within))
            ∙ (ap (λ n. take p now ++ wiped gone n (drop p now)) (sym zero_is) ∙ m.whole))));
        lacking_is = ap (λ n. lacking n rest) left_is ∙ lack;
        len = m.len;
      })

  pub wiping-over : (after : List ℕ) (left left' : ℕ) (gone : Bool) → IsWiping start now p left gone →
      left ≡ suc left'
      → gone ≡ true → after ≡ set now p dead → IsWiping start after (p + 1) left' gone
  wiping-over after left left' gone m left_is gone_is after_is =
      let rest = drop (p + 1) now in
      let drop_is : drop (p + 1) after ≡ rest = ap (drop (p + 1)) after_is ∙ drop_set now p dead in
      record {
        whole = ap (λ xs. take (p + 1) after ++ wiped gone left' xs) drop_is
            ∙ (ap (λ ys. take (p + 1) ys ++ wiped gone left' rest) after_is
            ∙ (step_set now (wiped gone left' rest) p dead within
            ∙ (ap (λ b. take p now ++ (cond b dead (get_or now p 0) ∷ wiped gone left' rest)) (sym gone_is)
            ∙ (ap (λ xs. take p now ++ wiped gone (suc left') xs) (sym (drop_here now p within))
            ∙ (ap (λ n. take p now ++ wiped gone n (drop p now)) (sym left_is) ∙ m.whole)))));
        lacking_is = ap (lacking left') drop_is
            ∙ (sym (ap (lacking (suc left')) (drop_here now p within))
            ∙ (ap (λ n. lacking n (drop p now)) (sym left_is) ∙ m.lacking_is));
        len = ap (λ (xs : List ℕ). length xs) after_is ∙ (length-set now p dead ∙ m.len);
      }

  pub wiping-past : (after : List ℕ) (left left' : ℕ) (gone : Bool) → IsWiping start now p left gone →
      left ≡ suc left'
      → gone ≡ false → after ≡ now → IsWiping start after (p + 1) left' gone
  wiping-past after left left' gone m left_is gone_is after_is =
      let rest = drop (p + 1) now in
      subst (λ (xs : List ℕ). IsWiping start xs (p + 1) left' gone) (sym after_is) (record {
        whole = step_take now (wiped gone left' rest) p within
            ∙ (ap (λ b. take p now ++ (cond b dead (get_or now p 0) ∷ wiped gone left' rest)) (sym gone_is)
            ∙ (ap (λ xs. take p now ++ wiped gone (suc left') xs) (sym (drop_here now p within))
            ∙ (ap (λ n. take p now ++ wiped gone n (drop p now)) (sym left_is) ∙ m.whole)));
        lacking_is = sym (ap (lacking (suc left')) (drop_here now p within))
            ∙ (ap (λ n. lacking n (drop p now)) (sym left_is) ∙ m.lacking_is);
        len = m.len;
      })

pub wiping-init : (ws : List ℕ) → AreWords ws → IsWiping ws ws 0 0 false
wiping-init ws words = record { whole = refl; lacking_is = words.whole; len = refl }

pub record IsDone (start now : List ℕ) : Type 0 where
  pub words : AreWords now
  pub wiped : IsWiped now
  pub clauses : clauses_of 0 now ≡ clauses_of 0 start

pub wiping-end : (start now : List ℕ) (place left : ℕ) (gone : Bool) → AreWords start →
    IsWiping start now place left gone
    → length start ≤ place → IsDone start now
wiping-end start now place left gone words m end =
    let is : now ≡ wiped false 0 start =
    sym (append-nil now) ∙ (ap (λ xs. now ++ wiped gone left xs) (sym (drop_all place now (omega
    (arith, end, m.len))))
    ∙ (ap (λ xs. xs ++ wiped gone left (drop place now)) (sym (take_all place now (omega
    (arith, end, m.len)))) ∙ m.whole)) in
    record {
      words = subst AreWords (sym is) (words-wiped start words);
      wiped = subst IsWiped (sym is) (is-wiped start words);
      clauses = ap (clauses_of 0) is ∙ clauses-wiped false 0 start;
    }

-- live clauses have no word in common
pub live-outside : (ws : List ℕ) (r : ℕ) → AreWords ws → IsLive (clauses_of 0 ws) r → IsOutside
    (clauses_of 0 ws) r
live-outside ws r words live q q_live = ⊎_elim (λ h. inl (omega (arith, h))) (λ h. ⊎_elim
    (λ before. inl (same before))
    (λ past. inr (omega (arith, past, count)))
    (cases_lt r (q + 4 + get_or ws q 0))) (cases_lt r (suc q))
  where
    h : IsHere ws q
    h = here ws q words q_live

    count : get_or ws q 0 ≡ length (lits_at (clauses_of 0 ws) q)
    count = len_read ws q (get_or ws q 0) h (sym (get_or_default_zero ws q (get_or ws q 0) (omega
        (arith, h.room))))

    same : r < q + 4 + get_or ws q 0 → r ≤ q
    same before = ⊎_elim (λ lt. absurd (cc (sym live ∙ ap is_some
        (gap-at ws q r (cut-live ws q words h) (omega (arith, h.room)) lt before))))
        (λ ge. ge) (cases_lt q r)
