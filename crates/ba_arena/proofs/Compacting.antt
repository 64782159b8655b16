-- The words of the live clauses moved down.

use Rattle.std.proofs.Common.{◌≡◌, ◌≢◌, ℕ, suc, zero, ◌+◌, ◌<◌, ◌≤◌, Option, None, Some, List, [], ◌∷◌, ◌++◌, length, get_or, take, drop, replicate, Bool, true, false, cond, eqb, ◌-◌, length-append, refl, sym, ap, subst, ◌∙◌, arith, length-drop, append_assoc}
use Rattle.std.proofs.lemmas.List.{take-append-drop, get_or-drop, length-take-le, drop-drop, drop_all, length-map, append-nil}
use Rattle.std.proofs.Math.Seq.{paste, drop-append-add, length_paste_head}
use Rattle.std.proofs.lemmas.Grind.{get_or_default_zero}
use Rattle.std.proofs.lemmas.List.Edits.{take-paste}
use Rattle.ba_lits.specs.Literals.{literal_at}
use Rattle.ba_arena.specs.Clauses.{Stored, Clauses, clause_at}
use Rattle.ba_arena.specs.Compaction.{compacted}
use Rattle.ba_arena.specs.Words.{clauses_of, stored_in, entry_in, dead, lacking, Fits, AreWords, IsCut}
use Rattle.ba_arena.proofs.Appending.{entry-append, clauses-append, lacking-append, fit-append}
use Rattle.ba_arena.proofs.Cuts.{block, cut-next, entry-at, live-at, dead-at}
use Rattle.ba_arena.proofs.Reading.{length-clauses, stored_some}
use Rattle.ba_arena.proofs.Writing.{cons_both}

-- a clause of its own
all_none : (left : ℕ) (ws : List ℕ) → left ≡ length ws → clauses_of left ws ≡ replicate left None
all_none left [] e = rw e refl
all_none zero (w ∷ ws) e = absurd (omega (arith, e))
all_none (suc left) (w ∷ ws) e = ap (λ (cs : Clauses). None ∷ cs) (all_none left ws (omega (arith, e)))

none_lacks : (left : ℕ) (ws : List ℕ) → left ≡ length ws → lacking left ws ≡ 0
none_lacks left [] e = e
none_lacks zero (w ∷ ws) e = absurd (omega (arith, e))
none_lacks (suc left) (w ∷ ws) e = none_lacks left ws (omega (arith, e))

compacted-inside : (left : ℕ) (ws : List ℕ)
    → compacted (clauses_of left ws) ≡ compacted (drop left (clauses_of left ws))
compacted-inside zero ws = refl
compacted-inside (suc left) [] = refl
compacted-inside (suc left) (w ∷ ws) = compacted-inside left ws

-- so far the live clauses before a place have moved down
pub record IsMoving (start now : List ℕ) (place end : ℕ) : Type 0 where
  pub le : end ≤ place
  pub len : length now ≡ length start
  pub cut : IsCut start place
  pub rest : drop place now ≡ drop place start
  pub done : AreWords (take end now)
  pub is : compacted (clauses_of 0 start)
      ≡ clauses_of 0 (take end now) ++ compacted (drop place (clauses_of 0 start))

pub moving-init : (ws : List ℕ) → AreWords ws → IsMoving ws ws 0 0
moving-init ws words = record {
  le = omega arith;
  len = refl;
  cut = record { within = omega arith; whole = words.whole; clauses = refl };
  rest = refl;
  done = record { whole = refl; few = omega arith; fit = λ k s e. absurd (clash s e) };
  is = refl;
}
  where
    clash : (s : Stored) → None ≡ Some s → ⊥
    clash s e = cc e

pub moving-read : (start now : List ℕ) (place end x n j : ℕ) → IsMoving start now place end → n ≡ place + j
    → n < length start → x ≡ get_or now n x → x ≡ get_or start n x
moving-read start now place end x n j m n_is within read =
    let same : get_or now n x ≡ get_or start n x =
    ap (λ k. get_or now k x) n_is ∙ (sym (get_or-drop place now j x)
    ∙ (ap (λ (ws : List ℕ). get_or ws j x) m.rest ∙ (get_or-drop place start j x
    ∙ ap (λ k. get_or start k x) (sym n_is)))) in
    read ∙ same

module _ (start now : List ℕ) (place end next : ℕ) (words : AreWords start) (m : IsMoving start now place end)
    (inside : place < length start) (next_is : next ≡ place + 4 + get_or start place 0) where
  w : ℕ
  w = get_or start place 0

  left : ℕ
  left = suc (suc (suc (get_or start place 0)))

  over : {X : Type 0} (xs : List X) → drop next xs ≡ drop (suc (suc (suc (suc (get_or start place 0))))) (drop place xs)
  over xs = ap (λ k. drop k xs) (omega (arith, next_is))
      ∙ sym (drop-drop (suc (suc (suc (suc (get_or start place 0))))) place xs)

  behind : compacted (drop next (clauses_of 0 start))
      ≡ compacted (clauses_of (suc (suc (suc (get_or start place 0)))) (drop (suc place) start))
  behind =
      let b = block start place m.cut inside in
      ap compacted (over (clauses_of 0 start)
      ∙ ap (drop (suc (suc (suc (suc (get_or start place 0)))))) b.clauses)
      ∙ sym (compacted-inside (suc (suc (suc (get_or start place 0)))) (drop (suc place) start))

  pub moving-dead : clause_at (clauses_of 0 start) place ≡ None → IsMoving start now next end
  moving-dead none =
      let b = block start place m.cut inside in
      let o_is = sym (entry-at start place m.cut inside) ∙ none in
      record {
        le = omega (arith, m.le, next_is);
        len = m.len;
        cut = cut-next start place next m.cut inside next_is;
        rest = over now ∙ (ap (drop (suc (suc (suc (suc (get_or start place 0)))))) m.rest ∙ sym (over start));
        done = m.done;
        is = m.is ∙ ap (λ (cs : Clauses). clauses_of 0 (take end now) ++ cs)
            (ap compacted (b.clauses
            ∙ ap (λ (o : Option Stored). o ∷ clauses_of (suc (suc (suc (get_or start place 0)))) (drop (suc place) start)) o_is)
            ∙ sym behind);
      }

  pub moving-live : (s : Stored) (end' : ℕ) (after : List ℕ) → clause_at (clauses_of 0 start) place ≡ Some s
      → end' ≡ end + (4 + get_or start place 0) → after ≡ paste now end (drop place now) (4 + get_or start place 0)
      → IsMoving start after next end'
  moving-live s end' after some end'_is after_is =
      let b = block start place m.cut inside in
      let rest : List ℕ = drop (suc place) start in
      let count : ℕ = get_or start place 0 in
      let inner : List ℕ = take (suc (suc (suc count))) rest in
      let size : ℕ = 4 + count in
      let size_is : size ≡ suc (suc (suc (suc count))) = omega arith in
      let long : size ≤ length (drop place now) = omega (arith, length-drop place now, m.len, b.room) in
      let inner_len : length inner ≡ suc (suc (suc count)) = length-take-le (suc (suc (suc count))) rest b.long in
      -- the words
      let block_is : take size (drop place now) ≡ count ∷ inner =
      ap (λ k. take k (drop place now)) size_is
      ∙ (ap (take (suc (suc (suc (suc count))))) (m.rest ∙ b.words)) in
      let front : take end' after ≡ take end now ++ (count ∷ inner) =
      ap (λ k. take k after) end'_is ∙ (ap (take (end + size)) after_is
      ∙ (take-paste now end (drop place now) size (omega (arith, m.le, m.cut.within, m.len)) long
      ∙ ap (λ (ws : List ℕ). take end now ++ ws) block_is)) in
      let head : List ℕ = take end now ++ take size (drop place now) in
      let head_len : length head ≡ end + size =
      length_paste_head now end (drop place now) size (omega (arith, m.le, m.cut.within, m.len)) long in
      let tail : drop next after ≡ drop next now =
      ap (drop next) after_is ∙ (ap (λ k. drop k (head ++ drop (end + size) now)) (gap next (end + size) (length head) head_len
      (omega (arith, m.le, next_is)))
      ∙ (drop-append-add head (drop (end + size) now) (next - (end + size))
      ∙ (drop-drop (next - (end + size)) (end + size) now
      ∙ ap (λ k. drop k now) (omega (arith, m.le, next_is))))) in
      -- the clauses
      let entry : entry_in count inner ≡ Some s =
      sym (entry-append count inner (drop (suc (suc (suc count))) rest) (omega (arith, inner_len)))
      ∙ (ap (entry_in count) (take-append-drop (suc (suc (suc count))) rest)
      ∙ (sym (entry-at start place m.cut inside) ∙ some)) in
      let one : clauses_of 0 (count ∷ inner) ≡ Some s ∷ replicate (suc (suc (suc count))) None =
      cons_both _ _ _ _ entry (all_none (suc (suc (suc count))) inner (sym inner_len)) in
      let lits_len : length s.lits ≡ count =
      entry_len count rest s (omega (arith, b.long)) (sym (entry-at start place m.cut inside) ∙ some) in
      let moves : compacted (drop place (clauses_of 0 start)) ≡ clauses_of 0 (count ∷ inner) ++ compacted (drop next (clauses_of 0 start)) =
      ap compacted (b.clauses
      ∙ ap (λ (o : Option Stored). o ∷ clauses_of (suc (suc (suc count))) rest) (sym (entry-at start place m.cut inside) ∙ some))
      ∙ (ap (λ n. Some s ∷ (replicate n None ++ compacted (clauses_of (suc (suc (suc count))) rest))) (three (length s.lits) count lits_len)
      ∙ (ap (λ (cs : Clauses). Some s ∷ (replicate (suc (suc (suc count))) None ++ cs)) (sym behind)
      ∙ ap (λ (cs : Clauses). cs ++ compacted (drop next (clauses_of 0 start))) (sym one))) in
      let both : clauses_of 0 (take end' after) ≡ clauses_of 0 (take end now) ++ clauses_of 0 (count ∷ inner) =
      ap (clauses_of 0) front ∙ clauses-append 0 (take end now) (count ∷ inner) m.done.whole in
      let fits : Fits s = words.fit place s some in
      record {
        le = omega (arith, m.le, next_is, end'_is);
        len = ap (λ (ws : List ℕ). length ws) after_is ∙ (paste_len now end (drop place now) size
            (omega (arith, m.le, m.len, b.room)) long ∙ m.len);
        cut = cut-next start place next m.cut inside next_is;
        rest = tail ∙ (over now ∙ (ap (drop (suc (suc (suc (suc count))))) m.rest ∙ sym (over start)));
        done = record {
          whole = ap (lacking 0) front ∙ (lacking-append 0 (take end now) (count ∷ inner) m.done.whole
              ∙ none_lacks (suc (suc (suc count))) inner (sym inner_len));
          few = omega (
            arith,
            ap (λ (ws : List ℕ). length ws) front,
            length-append (take end now) (count ∷ inner),
            length-take-le end now (omega (arith, m.le, m.cut.within, m.len)),
            inner_len,
            words.few,
            m.le,
            b.room,
          );
          fit = λ k t e. fit-append (clauses_of 0 (take end now)) (clauses_of 0 (count ∷ inner)) m.done.fit
              (λ j u is. one_fits s count fits j u (ap (λ (cs : Clauses). clause_at cs j) (sym one) ∙ is)) k t
              (ap (λ (cs : Clauses). clause_at cs k) (sym both) ∙ e);
        };
        is = m.is ∙ (ap (λ (cs : Clauses). clauses_of 0 (take end now) ++ cs) moves
            ∙ (sym (append_assoc (clauses_of 0 (take end now)) (clauses_of 0 (count ∷ inner)) (compacted (drop next (clauses_of 0 start))))
            ∙ ap (λ (cs : Clauses). cs ++ compacted (drop next (clauses_of 0 start))) (sym both)));
      }
    where
      gap : (n k l : ℕ) → l ≡ k → k ≤ n → n ≡ l + (n - k)
      gap n k l e h = omega (arith, e, h)

      three : (n k : ℕ) → n ≡ k → 3 + n ≡ suc (suc (suc k))
      three n k e = omega (arith, e)

      of_entry : (b : Bool) (t s : Stored) → cond b None (Some t) ≡ Some s → (n : ℕ) → length t.lits ≡ n → length s.lits ≡ n
      of_entry true t s e n h = absurd (cc e)
      of_entry false t s e n h = let is : t ≡ s = cc e in subst (λ (u : Stored). length u.lits ≡ n) is h

      entry_len : (n : ℕ) (ws : List ℕ) (s : Stored) → 3 + n ≤ length ws → entry_in n ws ≡ Some s → length s.lits ≡ n
      entry_len n [] s long e = absurd (omega (arith, long))
      entry_len n (a ∷ []) s long e = absurd (omega (arith, long))
      entry_len n (a ∷ b ∷ []) s long e = absurd (omega (arith, long))
      entry_len n (a ∷ b ∷ c ∷ codes) s long e =
          of_entry (eqb a dead) (stored_in n (a ∷ b ∷ c ∷ codes)) s e n
          (length-map (take n codes) literal_at ∙ length-take-le n codes (omega (arith, long)))

      paste_len : (d : List ℕ) (at : ℕ) (s : List ℕ) (n : ℕ) → at + n ≤ length d → n ≤ length s
          → length (paste d at s n) ≡ length d
      paste_len d at s n h k =
          omega (
            arith,
            length-append (take at d ++ take n s) (drop (at + n) d),
            length_paste_head d at s n (omega (arith, h)) k,
            length-drop (at + n) d,
            h,
          )

      nones : (n j : ℕ) → clause_at (replicate n None) j ≡ None
      nones zero j = refl
      nones (suc n) zero = refl
      nones (suc n) (suc j) = nones n j

      clash : (u : Stored) → None ≡ Some u → ⊥
      clash u e = cc e

      one_fits : (s : Stored) (n : ℕ) → Fits s → (j : ℕ) (u : Stored)
          → clause_at (Some s ∷ replicate (suc (suc (suc n))) None) j ≡ Some u → Fits u
      one_fits s n fits zero u is = let e : s ≡ u = cc is in subst Fits e fits
      one_fits s n fits (suc j) u is = absurd (clash u (sym (nones (suc (suc (suc n))) j) ∙ is))

-- a clause as the code moves it, or leaves it behind
module _ (start now after : List ℕ) (place end end' next x y : ℕ) (words : AreWords start)
    (m : IsMoving start now place end) (inside : place < length now) (x_is : x ≡ get_or now place x)
    (y_is : y ≡ get_or now (place + 1) y) (next_is : next ≡ place + (4 + x)) where
  within : place < length start
  within = omega (arith, inside, m.len)

  count_is : x ≡ get_or start place 0
  count_is = moving-read start now place end x place 0 m (omega arith) within x_is ∙ get_or_default_zero start place x within

  next_at : next ≡ place + 4 + get_or start place 0
  next_at = omega (arith, next_is, count_is)

  number_is : y ≡ get_or start (place + 1) 0
  number_is =
      let more : place + 1 < length start = omega (arith, (block start place m.cut within).room) in
      moving-read start now place end y (place + 1) 1 m refl more y_is ∙ get_or_default_zero start (place + 1) y more

  pub moving-room : place + (4 + x) ≤ length now
  moving-room = omega (arith, (block start place m.cut within).room, count_is, m.len)

  pub moving-down : y ≢ dead → after ≡ paste now end (drop place now) (place + (4 + x) - place) → end' ≡ end + (4 + x)
      → IsMoving start after next end'
  moving-down ne after_is end'_is =
      let some = stored_some _ (live-at start place m.cut within (λ e. ne (number_is ∙ e))) in
      moving-live start now place end next words m within next_at some.0 end' after some.1 (omega (arith, end'_is, count_is))
      (after_is ∙ ap (paste now end (drop place now)) (omega (arith, count_is)))

  pub moving-past : y ≡ dead → after ≡ now → end' ≡ end → IsMoving start after next end'
  moving-past e after_is end'_is =
      subst (λ n. IsMoving start after next n) (sym end'_is)
      (subst (λ (ws : List ℕ). IsMoving start ws next end) (sym after_is)
      (moving-dead start now place end next words m within next_at (dead-at start place m.cut within (sym number_is ∙ e))))

-- at the end of the words
pub moving-end : (start now : List ℕ) (place end : ℕ) → IsMoving start now place end → length start ≤ place
    → clauses_of 0 (take end now) ≡ compacted (clauses_of 0 start)
moving-end start now place end m past =
    sym (m.is ∙ (ap (λ (cs : Clauses). clauses_of 0 (take end now) ++ compacted cs)
    (drop_all place (clauses_of 0 start) (omega (arith, past, length-clauses 0 start)))
    ∙ append-nil (clauses_of 0 (take end now))))
