-- What is declared and found by maps: what a push and a pop keep.
use Rattle.std.proofs.Common.{true≢false, ◌≡◌, inl, inr, ℕ, zero, suc, ◌+◌, ◌<◌, ◌≤◌, Bool, true, false, cond, Option, None, Some, Result, Ok, Err, List, [], ◌∷◌, ◌++◌, length, take, drop, get_or, slice_get, refl, sym, ◌∙◌, ap, subst, arith, append_assoc, length-append}
use Rattle.std.specs.Prelude.{◌&&◌, flat_map, option_and_then, option_map, is_err, OnOk}
use Rattle.std.proofs.Math.ListN.{get_or-append}
use Rattle.std.proofs.Math.Seq.{get_or-append_seam, take-append_seam}
use Rattle.std.proofs.lemmas.Bool.{cases_lt}
use Rattle.std.proofs.lemmas.List.{append-nil, drop-map, length-map, map-append, take-append-le}
use Rattle.std.proofs.lemmas.List.Folds.{flat_map-map}
use Rattle.std.proofs.lemmas.Option.{slice_get-map, slice_get-get_or}
use Rattle.std.proofs.lemmas.Slice.Eq.{bytes_eq-Decides}
use Rattle.ba_numbers.specs.declared.ids.VarId.{VarId}
use Rattle.ba_typing.proofs.Walks.{next_item, none_left}
use Rattle.ba_typing.specs.Files.{var_in, vars_of}
use Rattle.ba_typing.specs.Names.{is_named, last_entry, same_name, same_space, space_of}
use Rattle.ba_scopes.specs.Storage.{AreStored, HasNewest, entries_of, last_number, newest_in, last_number_from}
use Rattle.ba_scopes.specs.declared.number_maps.Newest.{Newest}
use Rattle.ba_typing.specs.declared.meanings.Entry.{Entry}
use Rattle.ba_typing.specs.declared.meanings.Space.{Space}
use Rattle.ba_typing.specs.declared.meanings.Space.TheVariants as space
use Rattle.ba_scopes.specs.declared.scopes.Stored.{Stored}

-- THE NUMBER OF THE LAST ENTRY OF A NAME

number-push : (i : ℕ) (within : Space) (name : List ℕ) (es : List Entry) (e : Entry) (last : Option ℕ)
    → last_number_from i within name (es ++ e ∷ []) last ≡ cond (is_named within name e) (Some (i + length
    es))
    (last_number_from i within name es last)
number-push i within name [] e last = let same : i ≡ i + 0 = omega arith in
    ap (λ n. cond (is_named within name e) (Some n) last) same
number-push i within name (x ∷ es) e last =
    let same : i + 1 + length es ≡ i + suc (length es) = omega arith in
    number-push (i + 1) within name es e (cond (is_named within name x) (Some i) last)
    ∙ ap (λ n. cond (is_named within name e) (Some n)
    (last_number_from (i + 1) within name es (cond (is_named within name x) (Some i) last))) same

last-push : (within : Space) (name : List ℕ) (es : List Entry) (e : Entry)
    → last_number within name (es ++ e ∷ []) ≡ cond (is_named within name e) (Some (length es))
    (last_number within name es)
last-push within name es e = let same : 0 + length es ≡ length es = omega arith in
    number-push 0 within name es e None ∙ ap (λ n. cond (is_named within name e) (Some n)
    (last_number within name es)) same

-- THE LAST ENTRY ITSELF

module _ {A : Type 0} where
  pub at-front : (xs : List A) (i : ℕ) (y : A) (ys : List A) → drop i xs ≡ y ∷ ys → slice_get xs i ≡ Some y
  at-front [] zero y ys e = absurd (let none : ⊥ = cc in none)
  at-front [] (suc i) y ys e = absurd (let none : ⊥ = cc in none)
  at-front (x ∷ xs) zero y ys e = cc
  at-front (x ∷ xs) (suc i) y ys e = at-front xs i y ys e

  pub behind-front : (xs : List A) (i : ℕ) (y : A) (ys : List A) → drop i xs ≡ y ∷ ys → drop (suc i) xs ≡ ys
  behind-front [] zero y ys e = absurd (let none : ⊥ = cc in none)
  behind-front [] (suc i) y ys e = absurd (let none : ⊥ = cc in none)
  behind-front (x ∷ xs) zero y ys e = cc
  behind-front (x ∷ xs) (suc i) y ys e = behind-front xs i y ys e

either-found : (whole : List Entry) (b : Bool) (i : ℕ) (e : Entry) (last : Option ℕ) (found : Option Entry)
    → slice_get whole i ≡ Some e → option_and_then (slice_get whole) last ≡ found
    → option_and_then (slice_get whole) (cond b (Some i) last) ≡ cond b (Some e) found
either-found whole true i e last found here rest = here
either-found whole false i e last found here rest = rest

find-from : (whole : List Entry) (within : Space) (name : List ℕ) (es : List Entry) (i : ℕ) (last : Option ℕ)
    (found : Option Entry)
    → drop i whole ≡ es → option_and_then (slice_get whole) last ≡ found
    → option_and_then (slice_get whole) (last_number_from i within name es last) ≡ last_entry within name es
    found
find-from whole within name [] i last found left rest = rest
find-from whole within name (e ∷ es) i last found left rest =
    let next : suc i ≡ i + 1 = omega arith in
    find-from whole within name es (i + 1) (cond (is_named within name e) (Some i) last)
    (cond (is_named within name e)
    (Some e) found)
    (subst (λ j. drop j whole ≡ es) next (behind-front whole i e es left))
    (either-found whole (is_named within name e) i e last found (at-front whole i e es left) rest)

pub found-at : (es : List Entry) (within : Space) (name : List ℕ)
    → option_and_then (slice_get es) (last_number within name es) ≡ last_entry within name es None
found-at es within name = find-from es within name es 0 None None refl refl

-- A POP

pub same-is : (m n : List ℕ) → same_name m n ≡ true → m ≡ n
same-is m n same = (bytes_eq-Decides m n).0 same

same-space-is : (a b : Space) → same_space a b ≡ true → a ≡ b
same-space-is space.Ordinary space.Ordinary same = refl
same-space-is space.Ordinary space.Tags same = absurd (true≢false (sym same))
same-space-is space.Tags space.Ordinary same = absurd (true≢false (sym same))
same-space-is space.Tags space.Tags same = refl

both : (a b : Bool) → (a && b) ≡ true → (a ≡ true) × (b ≡ true)
both true true is = (refl, refl)
both true false is = absurd (true≢false (sym is))
both false b is = absurd (true≢false (sym is))

-- an entry of a name in a name space has this name and is of this space
pub named-name : (within : Space) (name : List ℕ) (e : Entry) → is_named within name e ≡ true → e.name ≡ name
named-name within name e mine =
    same-is e.name name (both (same_name e.name name) (same_space (space_of e.entity) within) mine).0

pub named-space : (within : Space) (name : List ℕ) (e : Entry) → is_named within name e ≡ true
    → space_of e.entity ≡ within
named-space within name e mine = same-space-is (space_of e.entity) within
    (both (same_name e.name name) (same_space (space_of e.entity) within) mine).1

and-swap : (a b : Bool) → (a && b) ≡ (b && a)
and-swap true true = refl
and-swap true false = refl
and-swap false true = refl
and-swap false false = refl

has-newest : (e : Entry) (number : Option ℕ) (old new : Newest)
    → HasNewest (space_of e.entity) e.name number old new
    → (within : Space) (name : List ℕ)
    → newest_in new within name ≡ cond (is_named within name e) number (newest_in old within name)
has-newest e number old new has within name = has within name
    ∙ ap (λ b. cond b number (newest_in old within name)) (and-swap (same_space (space_of e.entity) within)
    (same_name e.name name))

pick-other : (b : Bool) (one other mine : Option ℕ) → (b ≡ true → one ≡ mine)
    → cond b one (cond b other mine) ≡ mine
pick-other true one other mine is = is refl
pick-other false one other mine is = refl

module _ (items : List Stored) (t : Stored) (newest next : Newest) (stored : AreStored (items ++ t ∷ [])
    newest) where
  abbrev es : List Entry
  es = entries_of items

  all-entries : entries_of (items ++ t ∷ []) ≡ es ++ t.entry ∷ []
  all-entries = map-append (λ (s : Stored). s.entry) items (t ∷ [])

  many : length es ≡ length items
  many = length-map items (λ (s : Stored). s.entry)

  pub newest-is : (within : Space) (name : List ℕ)
      → newest_in newest within name ≡ cond (is_named within name t.entry) (Some (length es))
      (last_number within name es)
  newest-is within name = stored.found within name ∙ ap (last_number within name) all-entries
      ∙ last-push within name es t.entry

  last-hides : t.hidden ≡ last_number (space_of t.entry.entity) t.entry.name es
  last-hides =
      let more = length-append items (t ∷ []) in
      let here = get_or-append_seam items t [] t in
      ap (λ (s : Stored). s.hidden) (sym here)
      ∙ stored.hides (length items) t (omega (arith, more))
      ∙ ap (λ (s : Stored). last_number (space_of s.entry.entity) s.entry.name
      (take (length items) (entries_of (items ++ t ∷ [])))) here
      ∙ ap (λ xs. last_number (space_of t.entry.entity) t.entry.name (take (length items) xs)) all-entries
      ∙ ap (λ n. last_number (space_of t.entry.entity) t.entry.name (take n (es ++ t.entry ∷ []))) (sym many)
      ∙ ap (last_number (space_of t.entry.entity) t.entry.name) (take-append_seam es (t.entry ∷ []))

  pub pop-stored : HasNewest (space_of t.entry.entity) t.entry.name t.hidden newest next
      → AreStored items next
  pop-stored restored = record {
    found = λ within name. has-newest t.entry t.hidden newest next restored within name
        ∙ ap (λ p. cond (is_named within name t.entry) t.hidden p) (newest-is within name)
        ∙ pick-other (is_named within name t.entry) t.hidden (Some (length es)) (last_number within name es)
        (λ same. last-hides
        ∙ ap (λ n. last_number (space_of t.entry.entity) n es) (named-name within name t.entry same)
        ∙ ap (λ s. last_number s name es) (named-space within name t.entry same));
    hides = λ i d inside.
        let more = length-append items (t ∷ []) in
        let here = get_or-append items (t ∷ []) d i inside in
        ap (λ (s : Stored). s.hidden) (sym here) ∙ stored.hides i d (omega (arith, more))
        ∙ ap (λ (s : Stored). last_number (space_of s.entry.entity) s.entry.name
        (take i (entries_of (items ++ t ∷ [])))) here
        ∙ ap (λ xs. last_number (space_of (get_or items i d).entry.entity) (get_or items i d).entry.name
        (take i xs))
        all-entries
        ∙ ap (last_number (space_of (get_or items i d).entry.entity) (get_or items i d).entry.name)
        (take-append-le i es (t.entry ∷ []) (omega (
          arith,
          many,
        )));
  }

-- A PUSH

module _ (items : List Stored) (t : Stored) (newest next : Newest) (stored : AreStored items newest) where
  abbrev before : List Entry
  before = entries_of items

  pub push-stored : t.hidden ≡ newest_in newest (space_of t.entry.entity) t.entry.name
      → HasNewest (space_of t.entry.entity) t.entry.name (Some (length items)) newest next
      → AreStored (items ++ t ∷ []) next
  push-stored hidden set =
      let all : entries_of (items ++ t ∷ []) ≡ before ++ t.entry ∷ []
      = map-append (λ (s : Stored). s.entry) items (t ∷ []) in
      let many : length before ≡ length items = length-map items (λ (s : Stored). s.entry) in
      let more : length (items ++ t ∷ []) ≡ length items + 1 = length-append items (t ∷ []) in
      record {
        found = λ within name. has-newest t.entry (Some (length items)) newest next set within name
            ∙ ap (λ p. cond (is_named within name t.entry) (Some (length items)) p) (stored.found within name)
            ∙ ap (λ n. cond (is_named within name t.entry) (Some n) (last_number within name before))
            (sym many)
            ∙ sym (last-push within name before t.entry) ∙ ap (last_number within name) (sym all);
        hides = λ i d inside. elim (cases_lt i (length items)) [
          | inl old ↦ let here = get_or-append items (t ∷ []) d i old in
              ap (λ (s : Stored). s.hidden) here ∙ stored.hides i d old
              ∙ ap (λ (s : Stored). last_number (space_of s.entry.entity) s.entry.name (take i before))
              (sym here)
              ∙ ap (last_number (space_of (get_or (items ++ t ∷ []) i d).entry.entity)
              (get_or (items ++ t ∷ []) i d).entry.name)
              (sym (take-append-le i before (t.entry ∷ []) (omega (arith, many))) ∙ ap (take i) (sym all))
          | inr new ↦
              let last : length items ≡ i = omega (arith, more) in
              let here : get_or (items ++ t ∷ []) i d ≡ t = ap (λ n. get_or (items ++ t ∷ []) n d) (sym last)
              ∙ get_or-append_seam items t [] d in
              ap (λ (s : Stored). s.hidden) here ∙ hidden ∙ stored.found
              (space_of t.entry.entity) t.entry.name
              ∙ ap (λ (s : Stored). last_number (space_of s.entry.entity) s.entry.name before) (sym here)
              ∙ ap (last_number (space_of (get_or (items ++ t ∷ []) i d).entry.entity)
              (get_or (items ++ t ∷ []) i d).entry.name)
              (sym (take-append_seam before (t.entry ∷ [])) ∙ ap (λ n. take n (before ++ t.entry ∷ []))
              (many ∙ last)
              ∙ ap (take i) (sym all))
        ];
      }

-- LOOKING UP

pub slice-past : {A : Type 0} (xs : List A) (i : ℕ) → length xs ≤ i → slice_get xs i ≡ None
slice-past [] zero past = refl
slice-past [] (suc i) past = refl
slice-past (x ∷ xs) zero past = absurd (let none : ⊥ = omega (arith, past) in none)
slice-past (x ∷ xs) (suc i) past = slice-past xs i (omega (arith, past))

module _ (items : List Stored) (newest : Newest) (within : Space) (name : List ℕ) (es : List Entry)
    (stored : AreStored items newest)
    (view : entries_of items ≡ es) (found : Option ℕ) (is : found ≡ newest_in newest within name) where
  found-is : option_and_then (slice_get (entries_of items)) found ≡ last_entry within name es None
  found-is = ap (option_and_then (slice_get (entries_of items))) (is ∙ stored.found within name)
      ∙ found-at (entries_of items) within name ∙ ap (λ es. last_entry within name es None) view

  pub find-none : found ≡ None → None ≡ last_entry within name es None
  find-none none = ap (option_and_then (slice_get (entries_of items))) (sym none) ∙ found-is

  pub find-past : (i : ℕ) → found ≡ Some i → length items ≤ i → None ≡ last_entry within name es None
  find-past i some past = sym (slice_get-map (λ (s : Stored). s.entry) items i
      ∙ ap (option_map (λ (s : Stored). s.entry)) (slice-past items i past))
      ∙ ap (option_and_then (slice_get (entries_of items))) (sym some) ∙ found-is

  pub find-some : (i : ℕ) (t : Stored) → found ≡ Some i → i < length items → t ≡ get_or items i t
      → Some t.entry ≡ last_entry within name es None
  find-some i t some within here = sym (slice_get-map (λ (s : Stored). s.entry) items i
      ∙ ap (option_map (λ (s : Stored). s.entry)) (slice_get-get_or items i t within ∙ ap Some (sym here)))
      ∙ ap (option_and_then (slice_get (entries_of items))) (sym some) ∙ found-is

-- THE NUMBERS OF VARIABLES

pub vars-stored : (items : List Stored) (count : ℕ) (es : List Entry) → entries_of items ≡ es
    → flat_map (λ (s : Stored). var_in s.entry.entity) (drop count items) ≡ vars_of (drop count es)
vars-stored items count entries view =
    sym (flat_map-map (λ (e : Entry). var_in e.entity) (λ (s : Stored). s.entry) (drop count items))
    ∙ ap vars_of (sym (drop-map (λ (s : Stored). s.entry) count items))
    ∙ ap (λ (all : List Entry). vars_of (drop count all)) view

abbrev pub numbers_of : List Stored → List VarId
numbers_of = flat_map (λ (s : Stored). var_in s.entry.entity)

-- the numbers of each entry are appended
module _ (items : List Stored) (i : ℕ) (old whole : List VarId)
    (rest : old ++ numbers_of (drop i items) ≡ whole) where
  pub next-numbers : (s : Stored) (new : List VarId) → i < length items → s ≡ get_or items i s
      → new ≡ old ++ var_in s.entry.entity → new ++ numbers_of (drop (i + 1) items) ≡ whole
  next-numbers s new inside is added =
      ap (λ vs. vs ++ numbers_of (drop (i + 1) items)) added
      ∙ append_assoc old (var_in s.entry.entity) (numbers_of (drop (i + 1) items))
      ∙ ap (λ xs. old ++ numbers_of xs) (sym (next_item items i s inside is)) ∙ rest

  pub all-numbers : length items ≤ i → old ≡ whole
  all-numbers past = sym (append-nil old) ∙ ap (λ xs. old ++ numbers_of xs) (sym (none_left items i past))
      ∙ rest

-- WHAT CALLS SAY

pub same-self : (n : List ℕ) → same_name n n ≡ true
same-self n = (bytes_eq-Decides n n).1 refl

same-space-self : (s : Space) → same_space s s ≡ true
same-space-self space.Ordinary = refl
same-space-self space.Tags = refl

pub named-self : (e : Entry) → is_named (space_of e.entity) e.name e ≡ true
named-self e = ap (λ b. b && same_space (space_of e.entity) (space_of e.entity)) (same-self e.name)
    ∙ same-space-self (space_of e.entity)

pub when-ok : {A E : Type 0} (r : Result A E) (P : Type 0) → OnOk r P → is_err r ≡ false → P
when-ok (Ok a) P is ok = is
when-ok (Err e) P is ok = absurd (true≢false ok)
