-- What is read at a place where a clause begins.

use Rattle.std.proofs.Common.{is_some, ◌≡◌, ℕ, Bool, true, false, cond, eqb, suc, zero, ◌+◌, ◌<◌, ◌≤◌, Option, None, Some, IsSome, List, [], ◌∷◌, length, ◌^◌, get_or, take, drop, refl, sym, ap, subst, ◌∙◌, arith, length-drop}
use Rattle.std.proofs.lemmas.List.{get_or-map, get_or-take, get_or-drop, length-map, length-take}
use Rattle.std.proofs.lemmas.Grind.{get_or_default_zero}
use Rattle.ba_lits.specs.Literals.{literal_at, index_of, index_of-literal_at, lit_at, no_literal}
use Rattle.ba_arena.specs.Clauses.{Stored, clause_at, lits_at, lits_of, number_at, number_of, link_at, link_of, IsLive}
use Rattle.ba_arena.specs.Words.{clauses_of, stored_in, entry_in, dead, lacking, link_of_word, Fits, AreWords}

-- there is a place for each word
pub length-clauses : (left : ℕ) (ws : List ℕ) → length (clauses_of left ws) ≡ length ws
length-clauses left [] = refl
length-clauses zero (w ∷ ws) = ap suc (length-clauses (suc (suc (suc w))) ws)
length-clauses (suc left) (w ∷ ws) = ap suc (length-clauses left ws)

some_entry : {X : Type 0} (b : Bool) (x : X) → IsSome (cond b None (Some x)) → cond b None (Some x) ≡ Some x
some_entry true x live = absurd (cc live)
some_entry false x live = refl

-- what begins at a place
pub entry : (left : ℕ) (ws : List ℕ) (i : ℕ) → IsSome (clause_at (clauses_of left ws) i)
    → clause_at (clauses_of left ws) i ≡ entry_in (get_or ws i 0) (drop (suc i) ws)
entry left [] i live = absurd (cc live)
entry zero (w ∷ ws) zero live = refl
entry zero (w ∷ ws) (suc i) live = entry (suc (suc (suc w))) ws i live
entry (suc left) (w ∷ ws) zero live = absurd (cc live)
entry (suc left) (w ∷ ws) (suc i) live = entry left ws i live

pub begins : (left : ℕ) (ws : List ℕ) (i : ℕ) → IsSome (clause_at (clauses_of left ws) i)
    → clause_at (clauses_of left ws) i ≡ Some (stored_in (get_or ws i 0) (drop (suc i) ws))
begins left ws i live =
    let is = entry left ws i live in
    is ∙ some_entry (eqb (get_or (drop (suc i) ws) 0 0) dead) (stored_in (get_or ws i 0) (drop (suc i) ws))
    (ap is_some (sym is) ∙ live)

-- no clause begins within another
pub after_left : (left : ℕ) (ws : List ℕ) (i : ℕ) → IsSome (clause_at (clauses_of left ws) i) → left ≤ i
after_left left [] i live = absurd (cc live)
after_left zero (w ∷ ws) i live = omega arith
after_left (suc left) (w ∷ ws) zero live = absurd (cc live)
after_left (suc left) (w ∷ ws) (suc i) live = omega (arith, after_left left ws i live)

-- whole clauses have all their words
pub left_le : (left : ℕ) (ws : List ℕ) → lacking left ws ≡ 0 → left ≤ length ws
left_le left [] whole = omega (arith, whole)
left_le zero (w ∷ ws) whole = omega arith
left_le (suc left) (w ∷ ws) whole = omega (arith, left_le left ws whole)

pub room : (left : ℕ) (ws : List ℕ) (i : ℕ) → IsSome (clause_at (clauses_of left ws) i) → lacking left ws ≡ 0
    → i + 4 + get_or ws i 0 ≤ length ws
room left [] i live whole = absurd (cc live)
room zero (w ∷ ws) zero live whole = omega (arith, left_le (suc (suc (suc w))) ws whole)
room zero (w ∷ ws) (suc i) live whole = omega (arith, room (suc (suc (suc w))) ws i live whole)
room (suc left) (w ∷ ws) zero live whole = absurd (cc live)
room (suc left) (w ∷ ws) (suc i) live whole = omega (arith, room left ws i live whole)

-- what is at a place where a clause begins
pub record IsHere (ws : List ℕ) (i : ℕ) : Type 0 where
  pub is : clause_at (clauses_of 0 ws) i ≡ Some (stored_in (get_or ws i 0) (drop (suc i) ws))
  pub entry_is : entry_in (get_or ws i 0) (drop (suc i) ws) ≡ clause_at (clauses_of 0 ws) i
  pub room : i + 4 + get_or ws i 0 ≤ length ws
  pub fits : Fits (stored_in (get_or ws i 0) (drop (suc i) ws))

pub here : (ws : List ℕ) (i : ℕ) → AreWords ws → IsLive (clauses_of 0 ws) i → IsHere ws i
here ws i words live =
    let is = begins 0 ws i live in
    record { is = is; entry_is = sym (entry 0 ws i live); room = room 0 ws i live words.whole; fits = words.fit i _ is }

pub live_from_lits : (o : Option Stored) (k : ℕ) → k < length (lits_of o) → IsSome o
live_from_lits None k h = absurd (omega (arith, h))
live_from_lits (Some s) k h = refl

pub stored_some : (o : Option Stored) → IsSome o → (s : Stored) × (o ≡ Some s)
stored_some None live = absurd (cc live)
stored_some (Some s) live = (s, refl)

-- a word after the first of a clause
word : (ws : List ℕ) (i j n : ℕ) → n ≡ i + 1 + j → get_or (drop (suc i) ws) j 0 ≡ get_or ws n 0
word ws i j n e = get_or-drop (suc i) ws j 0 ∙ ap (λ m. get_or ws m 0) (omega (arith, e))

pub len_read : (ws : List ℕ) (i x : ℕ) → IsHere ws i → x ≡ get_or ws i x
    → x ≡ length (lits_at (clauses_of 0 ws) i)
len_read ws i x h read =
    let x_is : x ≡ get_or ws i 0 = read ∙ get_or_default_zero ws i x (omega (arith, h.room)) in
    let codes = take (get_or ws i 0) (drop 3 (drop (suc i) ws)) in
    let count : length codes ≡ get_or ws i 0 =
    let a = length-take (get_or ws i 0) (drop 3 (drop (suc i) ws)) in
    let b = length-drop 3 (drop (suc i) ws) in
    let d = length-drop (suc i) ws in
    omega (arith, a, b, d, h.room) in
    x_is ∙ (sym count ∙ (sym (length-map codes literal_at) ∙ sym (ap (λ o. length (lits_of o)) h.is)))

pub number_read : (ws : List ℕ) (i x : ℕ) → IsHere ws i → x ≡ get_or ws (i + 1) x
    → x ≡ number_at (clauses_of 0 ws) i
number_read ws i x h read =
    let x_is : x ≡ get_or ws (i + 1) 0 = read ∙ get_or_default_zero ws (i + 1) x (omega (arith, h.room)) in
    x_is ∙ (sym (word ws i 0 (i + 1) (omega arith)) ∙ sym (ap number_of h.is))

pub link_word : (ws : List ℕ) (i which x : ℕ) → IsHere ws i → which ≤ 1 → x ≡ get_or ws (i + 2 + which) x
    → x ≡ get_or (drop (suc i) ws) (suc which) 0
link_word ws i which x h le read =
    let x_is : x ≡ get_or ws (i + 2 + which) 0 =
    read ∙ get_or_default_zero ws (i + 2 + which) x (omega (arith, h.room, le)) in
    x_is ∙ sym (word ws i (suc which) (i + 2 + which) (omega arith))

pub link_read : (ws : List ℕ) (i which x : ℕ) → IsHere ws i → which ≤ 1 → x ≡ get_or ws (i + 2 + which) x
    → link_of_word x ≡ link_at (clauses_of 0 ws) i which
link_read ws i zero x h le read =
    ap link_of_word (link_word ws i zero x h le read) ∙ sym (ap (link_of 0) h.is)
link_read ws i (suc zero) x h le read =
    ap link_of_word (link_word ws i (suc zero) x h le read) ∙ sym (ap (link_of 1) h.is)
link_read ws i (suc (suc which)) x h le read = absurd (omega (arith, le))

-- a literal is within its clause, and so within the words
pub lit_within : (ws : List ℕ) (i k : ℕ) → IsHere ws i → k < length (lits_at (clauses_of 0 ws) i)
    → k < get_or ws i 0
lit_within ws i k h k_in =
    let codes = take (get_or ws i 0) (drop 3 (drop (suc i) ws)) in
    let count : length (lits_at (clauses_of 0 ws) i) ≡ length codes =
    ap (λ o. length (lits_of o)) h.is ∙ length-map codes literal_at in
    omega (arith, count, k_in, length-take (get_or ws i 0) (drop 3 (drop (suc i) ws)))

pub lit_read : (ws : List ℕ) (i k x : ℕ) → IsHere ws i → k < length (lits_at (clauses_of 0 ws) i)
    → x ≡ get_or ws (i + 4 + k) x → literal_at x ≡ lit_at (lits_at (clauses_of 0 ws) i) k
lit_read ws i k x h k_in read =
    let rest = drop (suc i) ws in
    let codes = take (get_or ws i 0) (drop 3 rest) in
    let below : k < get_or ws i 0 = lit_within ws i k h k_in in
    let x_is : x ≡ get_or ws (i + 4 + k) 0 =
    read ∙ get_or_default_zero ws (i + 4 + k) x (omega (arith, h.room, below)) in
    let there : get_or codes k 0 ≡ get_or ws (i + 4 + k) 0 =
    get_or-take (get_or ws i 0) (drop 3 rest) k 0 below
    ∙ (get_or-drop 3 rest k 0 ∙ word ws i (3 + k) (i + 4 + k) (omega arith)) in
    let count : length (lits_at (clauses_of 0 ws) i) ≡ length codes =
    ap (λ o. length (lits_of o)) h.is ∙ length-map codes literal_at in
    ap literal_at (x_is ∙ sym there)
    ∙ (sym (get_or-map literal_at codes k 0 no_literal (omega (arith, count, k_in)))
    ∙ sym (ap (λ o. lit_at (lits_of o) k) h.is))

-- the word is the index of the literal
index_is : (ws : List ℕ) (i k x : ℕ) → IsHere ws i → k < length (lits_at (clauses_of 0 ws) i)
    → x ≡ get_or ws (i + 4 + k) x → x ≡ index_of (lit_at (stored_in (get_or ws i 0) (drop (suc i) ws)).lits k)
index_is ws i k x h k_in read =
    sym (index_of-literal_at x)
    ∙ ap index_of (lit_read ws i k x h k_in read ∙ ap (λ o. lit_at (lits_of o) k) h.is)

-- and so in the range of indices
pub lit_counted : (ws : List ℕ) (i k x : ℕ) → IsHere ws i → k < length (lits_at (clauses_of 0 ws) i)
    → x ≡ get_or ws (i + 4 + k) x → 2 ≤ x
lit_counted ws i k x h k_in read =
    let is = index_is ws i k x h k_in read in
    omega (arith, is, (h.fits.lits k (subst (λ o. k < length (lits_of o)) h.is k_in)).0)

pub lit_below : (ws : List ℕ) (i k x : ℕ) → IsHere ws i → k < length (lits_at (clauses_of 0 ws) i)
    → x ≡ get_or ws (i + 4 + k) x → x < 2 ^ 63
lit_below ws i k x h k_in read =
    let is = index_is ws i k x h k_in read in
    omega (arith, is, (h.fits.lits k (subst (λ o. k < length (lits_of o)) h.is k_in)).1)

pub here_with_lit : (ws : List ℕ) (i k : ℕ) → AreWords ws → k < length (lits_at (clauses_of 0 ws) i)
    → IsHere ws i
here_with_lit ws i k words k_in = here ws i words (live_from_lits (clause_at (clauses_of 0 ws) i) k k_in)

pub lit_room : (ws : List ℕ) (i k : ℕ) → AreWords ws → k < length (lits_at (clauses_of 0 ws) i)
    → i + 4 + k < length ws
lit_room ws i k words k_in =
    let h = here_with_lit ws i k words k_in in
    omega (arith, h.room, lit_within ws i k h k_in)
