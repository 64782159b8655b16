-- Marks of entries.
use Rattle.std.proofs.Common.{◌≡◌, ℕ, zero, suc, ◌+◌, ◌-◌, ◌<◌, ◌≤◌, Bool, true, false, cond, List, [], ◌∷◌, length, get_or, set, drop, take, ◌++◌, Some, slice_get, replicate, refl, sym, ◌∙◌, ap, subst, arith, inl, inr}
use Rattle.std.proofs.lemmas.Bool.{and_from, and_parts, cases_eq, cases_lt}
use Rattle.std.proofs.lemmas.List.{get_or-replicate, get_or-set_other, get_or-set_same, get_or_past, get_or_read, length-replicate, length-set, take_at}
use Rattle.std.proofs.lemmas.Option.{get_or_from_slice_get, slice_get-get_or, slice_get_within}
use Rattle.ba_bits.proofs.Spelled.{names-below}
use Rattle.ba_bits.specs.Bits.{is_needed}
use Rattle.ba_bits.specs.Needs.{AreFewest, are_needed, marked, names_of}
use Rattle.ba_wordlist.specs.Facts.{are_names, are_words, is_name}
use Rattle.ba_wordlist.specs.declared.words.WordOp.{WordOp}
use Rattle.ba_wordlist.specs.declared.words.WordOp.TheVariants.{Free}
use Rattle.ba_wordlist.proofs.Values.{names-more, of_name}

pub length-marked : (needed : List Bool) (ws : List ℕ) → length (marked needed ws) ≡ length needed
length-marked needed [] = refl
length-marked needed (w ∷ ws) = length-marked (set needed w true) ws ∙ length-set needed w true

set-keeps : (needed : List Bool) (w k : ℕ) → is_needed needed k ≡ true
    → is_needed (set needed w true) k ≡ true
set-keeps [] w k h = h
set-keeps (b ∷ bs) zero zero h = refl
set-keeps (b ∷ bs) zero (suc k) h = h
set-keeps (b ∷ bs) (suc w) zero h = h
set-keeps (b ∷ bs) (suc w) (suc k) h = set-keeps bs w k h

-- marks stay
pub marked-keeps : (needed : List Bool) (ws : List ℕ) (k : ℕ) → is_needed needed k ≡ true
    → is_needed (marked needed ws) k ≡ true
marked-keeps needed [] k h = h
marked-keeps needed (w ∷ ws) k h = marked-keeps (set needed w true) ws k (set-keeps needed w k h)

pub all-keeps : (needed : List Bool) (ws names : List ℕ) → are_needed needed names ≡ true
    → are_needed (marked needed ws) names ≡ true
all-keeps needed ws [] h = refl
all-keeps needed ws (k ∷ ks) h =
    let both = and_parts (is_needed needed k) (are_needed needed ks) h in
    and_from (is_needed (marked needed ws) k) (are_needed (marked needed ws) ks)
    (marked-keeps needed ws k both.0)
    (all-keeps needed ws ks both.1)

-- the entries are marked
pub marked-marks : (needed : List Bool) (ws : List ℕ) → are_names (length needed) ws ≡ true
    → are_needed (marked needed ws) ws ≡ true
marked-marks needed [] h = refl
marked-marks needed (w ∷ ws) h =
    let both = and_parts (is_name (length needed) w) (are_names (length needed) ws) h in
    let long = length-set needed w true in
    and_from (is_needed (marked (set needed w true) ws) w) (are_needed (marked (set needed w true) ws) ws)
    (marked-keeps (set needed w true) ws w
    (get_or-set_same needed w true false (of_name (length needed) w both.0)))
    (marked-marks (set needed w true) ws (subst (λ n. are_names n ws ≡ true) (sym long) both.1))

set-within : (needed marks : List Bool) (w k : ℕ) → is_needed marks w ≡ true
    → (is_needed needed k ≡ true → is_needed marks k ≡ true) → is_needed (set needed w true) k ≡ true
    → is_needed marks k ≡ true
set-within needed marks w k has within need = elim (cases_eq k w) [
  | inl e ↦ subst (λ n. is_needed marks n ≡ true) (sym e) has
  | inr other ↦ within (sym (get_or-set_other needed w k true false other) ∙ need)
]

-- what is marked of them was marked, or is one of the entries
pub marked-within : (needed marks : List Bool) (ws : List ℕ) → are_needed marks ws ≡ true
    → ((k : ℕ) → is_needed needed k ≡ true → is_needed marks k ≡ true)
    → (k : ℕ) → is_needed (marked needed ws) k ≡ true → is_needed marks k ≡ true
marked-within needed marks [] has within k need = within k need
marked-within needed marks (w ∷ ws) has within k need =
    let both = and_parts (is_needed marks w) (are_needed marks ws) has in
    marked-within (set needed w true) marks ws both.1
    (λ n mark. set-within needed marks w n both.0 (within n) mark) k need

-- and no others
pub marked-others : (needed : List Bool) (ws : List ℕ) (n k : ℕ) → are_names n ws ≡ true → n ≤ k
    → is_needed (marked needed ws) k ≡ is_needed needed k
marked-others needed [] n k h le = refl
marked-others needed (w ∷ ws) n k h le =
    let both = and_parts (is_name n w) (are_names n ws) h in
    let below : w < n = of_name n w both.0 in
    marked-others (set needed w true) ws n k both.1 le
    ∙ get_or-set_other needed w k true false (λ e. omega (arith, below, e))

-- MARKING, from the last entry to the first

-- the roots are marked, and of entries from a number on what the marked ones name
pub record AreMarked (ops : List WordOp) (roots : List ℕ) (n : ℕ) (needed : List Bool) : Type 0 where
  pub long : length needed ≡ length ops
  pub of_roots : are_needed needed roots ≡ true
  pub closed : (w : ℕ) (op : WordOp) → n ≤ w → slice_get ops w ≡ Some op → is_needed needed w ≡ true
      → are_needed needed (names_of op) ≡ true
  pub fewest : AreFewest ops roots needed

-- nothing is marked
abbrev pub IsUnmarked : List Bool → Type 0
IsUnmarked needed = (k : ℕ) → is_needed needed k ≡ false

replicate-unmarked : (n : ℕ) → IsUnmarked (replicate n false)
replicate-unmarked n k = elim (cases_lt k n) [
  | inl below ↦ get_or-replicate n k false false below
  | inr past ↦ get_or_past (replicate n false) k false (omega (arith, past, length-replicate n false))
]

take-none : (n : ℕ) (marks : List Bool) → take n [] ++ marks ≡ marks
take-none zero marks = refl
take-none (suc n) marks = refl

-- no mark is set in a vector that was empty and was filled up
pub filled-unmarked : (n len : ℕ) (before : List Bool) → before ≡ [] → len ≡ 0
    → IsUnmarked (take n before ++ replicate (n - len) false)
filled-unmarked n len before none empty =
    let left : n - len ≡ n = omega (arith, empty) in
    subst IsUnmarked
    (sym (ap (λ marks. take n marks ++ replicate (n - len) false) none
    ∙ take-none n (replicate (n - len) false)
    ∙ ap (λ m. replicate m false) left))
    (replicate-unmarked n)

pub marked-roots : (ops : List WordOp) (roots : List ℕ) (n : ℕ) (needed : List Bool) → length ops ≤ n
    → length needed ≡ length ops → are_names (length ops) roots ≡ true → IsUnmarked needed
    → AreMarked ops roots n (marked needed roots)
marked-roots ops roots n needed all long names none = record {
  long = length-marked needed roots ∙ long;
  of_roots = marked-marks needed roots (subst (λ k. are_names k roots ≡ true) (sym long) names);
  closed = λ w op le found need. absurd (omega (arith, all, le, slice_get_within ops w op found));
  fewest = λ marks has closed. marked-within needed marks roots has
      (λ k need. absurd (cc (none k, need)));
}

module _ (ops : List WordOp) (fit : are_words ops ≡ true) (roots : List ℕ) (n : ℕ) (below : n < length ops)
  where
    marked-next : (needed : List Bool) → AreMarked ops roots (n + 1) needed → is_needed needed n ≡ true
        → AreMarked ops roots n (marked needed (names_of (get_or ops n Free)))
    marked-next needed has here =
        let names : are_names n (names_of (get_or ops n Free)) ≡ true = names-below ops n fit below in
        record {
          long = length-marked needed (names_of (get_or ops n Free)) ∙ has.long;
          of_roots = all-keeps needed (names_of (get_or ops n Free)) roots has.of_roots;
          closed = λ w own le found need. elim (cases_eq w n) [
            | inl e ↦
                let same : get_or ops n Free ≡ own =
                get_or_from_slice_get ops n own Free (subst (λ k. slice_get ops k ≡ Some own) e found) in
                subst (λ o. are_needed (marked needed (names_of (get_or ops n Free))) (names_of o) ≡ true)
                same
                (marked-marks needed (names_of (get_or ops n Free))
                (names-more n (length needed) (names_of (get_or ops n Free)) (omega (arith, has.long, below))
                names))
            | inr other ↦
                all-keeps needed (names_of (get_or ops n Free)) (names_of own)
                (has.closed w own (omega (arith, le, other)) found
                (sym (marked-others needed (names_of (get_or ops n Free)) n w names le) ∙ need))
          ];
          fewest = λ marks of_roots closed. marked-within needed marks (names_of (get_or ops n Free))
              (closed n (get_or ops n Free) (slice_get-get_or ops n Free below)
              (has.fewest marks of_roots closed n here))
              (has.fewest marks of_roots closed);
        }

    unmarked-next : (needed : List Bool) → AreMarked ops roots (n + 1) needed → is_needed needed n ≡ false
        → AreMarked ops roots n needed
    unmarked-next needed has here = record {
      long = has.long;
      of_roots = has.of_roots;
      closed = λ w own le found need. elim (cases_eq w n) [
        | inl e ↦
            let marked_here : is_needed needed n ≡ true = subst (λ k. is_needed needed k ≡ true) e need in
            absurd (cc)
        | inr other ↦ has.closed w own (omega (arith, le, other)) found need
      ];
      fewest = has.fewest;
    }

    pub marks-next : (needed : List Bool) (b : Bool) → AreMarked ops roots (n + 1) needed
        → is_needed needed n ≡ b
        → AreMarked ops roots n (cond b (marked needed (names_of (get_or ops n Free))) needed)
    marks-next needed true has here = marked-next needed has here
    marks-next needed false has here = unmarked-next needed has here

-- MARKS IN A SLICE, which are written back

pub marked-first : (ops : List WordOp) (roots : List ℕ) (len : ℕ) (marks before items : List Bool)
    → marks ≡ marked before roots → length before ≡ len → len ≡ length ops
    → are_names (length ops) roots ≡ true → IsUnmarked before
    → AreMarked ops roots (length ops - 0) (take len (marks ++ drop (length marks) items))
marked-first ops roots len marks before items is long many names none =
    let now = marked-roots ops roots (length ops - 0) before (omega arith) (long ∙ many) names none in
    let back = take_at marks (drop (length marks) items) len (ap length is ∙ length-marked before roots
    ∙ long) in
    subst (AreMarked ops roots (length ops - 0)) (sym (back ∙ is)) now

module _ (ops : List WordOp) (fit : are_words ops ≡ true) (roots : List ℕ) (i : ℕ) (within : i < length ops)
    (op : WordOp) (read : op ≡ get_or ops (length ops - 1 - i) op) where
  own : op ≡ get_or ops (length ops - 1 - i) Free
  own = get_or_read ops (length ops - 1 - i) op (omega (arith, within)) read Free

  pub names-fit : (needed : List Bool) → length needed ≡ length ops
      → are_names (length needed) (names_of op) ≡ true
  names-fit needed long =
      let below : length ops - 1 - i < length ops = omega (arith, within) in
      names-more (length ops - 1 - i) (length needed) (names_of op) (omega (arith, long))
      (subst (λ o. are_names (length ops - 1 - i) (names_of o) ≡ true) (sym own)
      (names-below ops (length ops - 1 - i) fit below))

  pub marked-further : (len : ℕ) (marks before needed : List Bool) → before ≡ needed → length before ≡ len
      → marks ≡ cond (is_needed before (length ops - 1 - i)) (marked before (names_of op)) before
      → AreMarked ops roots (length ops - i) needed
      → AreMarked ops roots (length ops - (i + 1)) (take len (marks ++ drop (length marks) needed))
  marked-further len marks before needed same long is has =
      let below : length ops - 1 - i < length ops = omega (arith, within) in
      let here : length ops - i ≡ length ops - 1 - i + 1 = omega (arith, within) in
      let next : length ops - 1 - i ≡ length ops - (i + 1) = omega arith in
      let now = marks-next ops fit roots (length ops - 1 - i) below needed
      (is_needed needed (length ops - 1 - i))
      (subst (λ k. AreMarked ops roots k needed) here has) refl in
      let all : marks ≡ cond (is_needed needed (length ops - 1 - i))
      (marked needed (names_of (get_or ops (length ops - 1 - i) Free))) needed =
      is ∙ (λ k. cond (is_needed (same k) (length ops - 1 - i)) (marked (same k) (names_of (own k)))
      (same k)) in
      let many : length marks ≡ len = ap length all ∙ now.long ∙ sym has.long ∙ sym (ap length same) ∙ long in
      let back = take_at marks (drop (length marks) needed) len many in
      subst (λ k. AreMarked ops roots k (take len (marks ++ drop (length marks) needed))) next
      (subst (AreMarked ops roots (length ops - 1 - i)) (sym (back ∙ all)) now)
