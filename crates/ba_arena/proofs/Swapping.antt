-- Two literals exchanged, as two words that are written one after the other.

use Rattle.std.proofs.Common.{◌≡◌, ℕ, eqb, suc, zero, ◌+◌, ◌^◌, ◌<◌, ◌≤◌, Option, None, Some, is_some, List, [], ◌∷◌, length, get_or, set, take, drop, map, refl, sym, ap, subst, ◌∙◌, arith, get_or-set_same}
use Rattle.std.proofs.lemmas.List.{length-set, map-set}
use Rattle.std.proofs.Math.Seq.{take-set-lt}
use Rattle.std.proofs.lemmas.List.Edits.{swap_is}
use Rattle.std.proofs.lemmas.Grind.{get_or_default_zero}
use Rattle.std.specs.List.{swap}
use Rattle.ba_lits.specs.Literals.{Literal, literal_at, index_of, index_of-literal_at, lit_at, no_literal}
use Rattle.ba_arena.specs.Clauses.{Stored, Clauses, clause_at, lits_at, lits_of, changed, swapped}
use Rattle.ba_arena.specs.Words.{clauses_of, entry_in, dead, link_of_word, Fits, AreIndexed, AreWords}
use Rattle.ba_arena.proofs.Reading.{length-clauses, here_with_lit, lit_within, lit_room, lit_read, lit_counted, lit_below}
use Rattle.ba_arena.proofs.Writing.{writes, words-written, rest_long, entry-change}

-- the clause with another literal at a place
abbrev pub put : ℕ → Literal → Option Stored → Option Stored
put k l None = None
put k l (Some s) = Some (record s { lits = set s.lits k l })

put-word : (count k v : ℕ) (rest : List ℕ) → k < count → 3 + count ≤ length rest
    → entry_in count (set rest (suc (suc (suc k))) v) ≡ put k (literal_at v) (entry_in count rest)
put-word count k v [] h long = absurd (omega (arith, long))
put-word count k v (n ∷ []) h long = absurd (omega (arith, long))
put-word count k v (n ∷ a ∷ []) h long = absurd (omega (arith, long))
put-word count k v (n ∷ a ∷ b ∷ codes) h long =
    let of_lits : List Literal → Option Stored =
    λ ls. Some (record { lits = ls; number = n; first = link_of_word a; second = link_of_word b }) in
    entry-change (eqb n dead) _ _ (put k (literal_at v)) refl
    (ap of_lits (ap (map literal_at) (take-set-lt count codes k v h)
    ∙ map-set literal_at (take count codes) k v))

-- literals in the range of indices stay so
indexed-set : (ls : List Literal) (k : ℕ) (l : Literal) → 2 ≤ index_of l → index_of l < 2 ^ 63
    → AreIndexed ls → AreIndexed (set ls k l)
indexed-set [] k l low high all j j_in = all j j_in
indexed-set (x ∷ xs) zero l low high all zero j_in = (low, high)
indexed-set (x ∷ xs) zero l low high all (suc j) j_in = all (suc j) (omega (arith, j_in))
indexed-set (x ∷ xs) (suc k) l low high all zero j_in = all zero (omega arith)
indexed-set (x ∷ xs) (suc k) l low high all (suc j) j_in =
    indexed-set xs k l low high (λ i i_in. all (suc i) (omega (arith, i_in))) j (omega (arith, j_in))

put-fits : (k v : ℕ) (s t : Stored) → 2 ≤ v → v < 2 ^ 63 → Fits s → Some t ≡ put k (literal_at v) (Some s)
    → Fits t
put-fits k v s t low high fits e =
    let is : t ≡ record s { lits = set s.lits k (literal_at v) } = cc e in
    let of : Fits (record s { lits = set s.lits k (literal_at v) }) = record {
      lits = indexed-set s.lits k (literal_at v) (omega (arith, low, index_of-literal_at v))
          (omega (arith, high, index_of-literal_at v)) fits.lits;
    } in
    subst Fits (sym is) of

-- a literal written into a clause
pub record Puts (ws : List ℕ) (i k v : ℕ) : Type 0 where
  pub is : clauses_of 0 (set ws (i + 4 + k) v) ≡ changed (put k (literal_at v)) (clauses_of 0 ws) i
  pub words : AreWords (set ws (i + 4 + k) v)

pub puts : (ws : List ℕ) (i k v : ℕ) → AreWords ws → k < length (lits_at (clauses_of 0 ws) i) → 2 ≤ v
    → v < 2 ^ 63 → Puts ws i k v
puts ws i k v words k_in low high =
    let h = here_with_lit ws i k words k_in in
    let below = lit_within ws i k h k_in in
    let e : i + 4 + k ≡ suc (i + suc (suc (suc k))) = omega arith in
    let j_in : suc (suc (suc k)) < 3 + get_or ws i 0 = omega (arith, below) in
    let word = put-word (get_or ws i 0) k v (drop (suc i) ws) below (rest_long ws i h) in
    record {
      is = writes 0 ws i (suc (suc (suc k))) (i + 4 + k) v e (ap is_some h.is) j_in
          ∙ ap (λ (o : Option Stored). set (clauses_of 0 ws) i o)
          (word ∙ ap (put k (literal_at v)) h.entry_is);
      words = words-written ws i (suc (suc (suc k))) (i + 4 + k) v words h e j_in
          (λ t is. put-fits k v _ t low high h.fits
          (sym is ∙ (word ∙ ap (put k (literal_at v)) (h.entry_is ∙ h.is))));
    }

-- two changes of one clause
set_set : {X : Type 0} (xs : List X) (i : ℕ) (x y : X) → set (set xs i x) i y ≡ set xs i y
set_set [] i x y = refl
set_set (z ∷ zs) zero x y = refl
set_set (z ∷ zs) (suc i) x y = ap (λ (ys : List _). z ∷ ys) (set_set zs i x y)

changed_twice : (f g : Option Stored → Option Stored) (cs : Clauses) (i : ℕ) → i < length cs
    → changed g (changed f cs i) i ≡ changed (λ o. g (f o)) cs i
changed_twice f g cs i within =
    let there : clause_at (changed f cs i) i ≡ f (clause_at cs i) =
    get_or-set_same cs i (f (clause_at cs i)) None within in
    ap (λ (o : Option Stored). set (changed f cs i) i (g o)) there ∙ set_set cs i _ _

two_puts : (a b : ℕ) (o : Option Stored) → a < length (lits_of o) → b < length (lits_of o)
    → put b (lit_at (lits_of o) a) (put a (lit_at (lits_of o) b) o) ≡ swapped a b o
two_puts a b None a_in b_in = refl
two_puts a b (Some s) a_in b_in =
    ap (λ (ls : List Literal). Some (record s { lits = ls })) (swap_is s.lits a b no_literal a_in b_in)

-- what two exchanged words are
pub record Swaps (ws : List ℕ) (i a b : ℕ) : Type 0 where
  pub is : clauses_of 0 (swap ws (i + 4 + a) (i + 4 + b)) ≡ changed (swapped a b) (clauses_of 0 ws) i
  pub words : AreWords (swap ws (i + 4 + a) (i + 4 + b))

pub swaps : (ws : List ℕ) (i a b : ℕ) → AreWords ws → a < length (lits_at (clauses_of 0 ws) i)
    → b < length (lits_at (clauses_of 0 ws) i) → Swaps ws i a b
swaps ws i a b words a_in b_in =
    let cs = clauses_of 0 ws in
    let x = get_or ws (i + 4 + a) 0 in
    let y = get_or ws (i + 4 + b) 0 in
    let a_room = lit_room ws i a words a_in in
    let b_room = lit_room ws i b words b_in in
    let h = here_with_lit ws i a words a_in in
    let x_is : x ≡ get_or ws (i + 4 + a) x = sym (get_or_default_zero ws (i + 4 + a) x a_room) in
    let y_is : y ≡ get_or ws (i + 4 + b) y = sym (get_or_default_zero ws (i + 4 + b) y b_room) in
    let first = puts ws i a y words a_in (lit_counted ws i b y h b_in y_is)
    (lit_below ws i b y h b_in y_is) in
    let within : i < length cs = omega (arith, a_room, length-clauses 0 ws) in
    let once : clause_at (clauses_of 0 (set ws (i + 4 + a) y)) i ≡ put a (literal_at y) (clause_at cs i) =
    ap (λ (c : Clauses). clause_at c i) first.is ∙ get_or-set_same cs i _ None within in
    let b_in' : b < length (lits_at (clauses_of 0 (set ws (i + 4 + a) y)) i) =
    subst (λ n. b < n)
    (sym (ap (λ (o : Option Stored). length (lits_of o)) once
    ∙ put_length a (literal_at y) (clause_at cs i))) b_in in
    let second =
    puts (set ws (i + 4 + a) y) i b x first.words b_in' (lit_counted ws i a x h a_in x_is)
    (lit_below ws i a x h a_in x_is) in
    let both : set (set ws (i + 4 + a) y) (i + 4 + b) x ≡ swap ws (i + 4 + a) (i + 4 + b) =
    swap_is ws (i + 4 + a) (i + 4 + b) 0 a_room b_room in
    let x_lit : literal_at x ≡ lit_at (lits_at cs i) a = lit_read ws i a x h a_in x_is in
    let y_lit : literal_at y ≡ lit_at (lits_at cs i) b = lit_read ws i b y h b_in y_is in
    let result : put b (literal_at x) (put a (literal_at y) (clause_at cs i)) ≡ swapped a b (clause_at cs i) =
    rw (x_lit, y_lit) (two_puts a b (clause_at cs i) a_in b_in) in
    record {
      is = ap (λ (us : List ℕ). clauses_of 0 us) (sym both)
          ∙ (second.is ∙ (ap (λ (c : Clauses). changed (put b (literal_at x)) c i) first.is
          ∙ (changed_twice (put a (literal_at y)) (put b (literal_at x)) cs i within
          ∙ ap (λ (o : Option Stored). set cs i o) result)));
      words = subst AreWords both second.words;
    }
  where
    put_length : (k : ℕ) (l : Literal) (o : Option Stored) → length (lits_of (put k l o)) ≡ length (lits_of o)
    put_length k l None = refl
    put_length k l (Some s) = length-set s.lits k l
