-- A list behind another: what its words have, and that they fit.
use Rattle.std.proofs.Common.{◌≡◌, ℕ, zero, suc, ◌+◌, ◌-◌, ◌<◌, ◌≤◌, ◌==◌, Option, None, Some, slice_get, ℤ, pos, Bool, true, false, ◌&&◌, cond, List, [], ◌∷◌, ◌++◌, map, length, get_or, refl, sym, ◌∙◌, ap, ap₂, subst, arith, append_assoc, append-nil}
use Rattle.std.proofs.lemmas.Bool.{and_from, and_parts}
use Rattle.std.proofs.lemmas.Bool.Decides.{nat_tests}
use Rattle.std.proofs.lemmas.List.{get_or-append-add, get_or_append_left, length-append, length-map}
use Rattle.std.proofs.lemmas.List.Folds.{list_all-append}
use Rattle.std.proofs.lemmas.Option.{slice_get_within, slice_get-get_or, slice_get-map, get_or_from_slice_get}
use Rattle.std.specs.List.{fold, list_all}
use Rattle.std.specs.Option.{option_map}
use Rattle.std.specs.Prelude.{nat_lt, slice_set}
use Rattle.ba_choices.specs.declared.Choice.TheVariants.{Keep, Take}
use Rattle.ba_code.specs.Operators.{converting}
use Rattle.ba_numbers.specs.Numbers.{converted, low_word}
use Rattle.ba_numbers.specs.Types.{is_promoted}
use Rattle.ba_wordlist.proofs.Choices.{visits-append}
use Rattle.ba_wordlist.proofs.Lengths.{length-lengths}
use Rattle.ba_wordlist.proofs.Values.{Agree, SameBelow, length-values, met-same, name-more, names-more, of_name, to_name, values-agree, values-append}
use Rattle.ba_wordlist.proofs.Choices.{visits-same}
use Rattle.ba_wordlist.specs.Facts.{are_names, are_typed, are_words, fit_behind, fits_behind, is_name, is_place, is_typed, is_word_list, shows_type, length_of, lengths_of, more_lengths}
use Rattle.ba_wordlist.specs.Joining.{IsJoined, behind, joined_at, shifted, shifted_op, shifted_place}
use Rattle.ba_wordlist.specs.Meaning.{Assignment, are_met, binary_value, element_read, elements_at, entry_of, holds, is_nonzero, more_values, value_at, values_of, visit_of, visits_in, visits_of}
use Rattle.ba_wordlist.specs.declared.words.PlaceWords.{PlaceWords}
use Rattle.ba_wordlist.specs.declared.words.WordList.{WordList}
use Rattle.ba_wordlist.specs.declared.words.WordOp.{WordOp}
use Rattle.ba_wordlist.specs.declared.words.WordOp.TheVariants.{Const, Free, Flag, Unary, Binary, Convert, Select, Read, Zeros, Fill, Write}

-- WHAT ENTRIES HAVE that stand behind others, which have these elements

module _ (us : List (List ℤ)) where
  elements-behind : (vs : List (List ℤ)) (w : ℕ) → elements_at (us ++ vs) (length us + w) ≡ elements_at vs w
  elements-behind vs w = get_or-append-add us vs w []

  value-behind : (vs : List (List ℤ)) (w : ℕ) → value_at (us ++ vs) (length us + w) ≡ value_at vs w
  value-behind vs w = ap (λ zs. get_or zs 0 (pos 0)) (elements-behind vs w)

  values-behind : (vs : List (List ℤ)) (ws : List ℕ)
      → map (value_at (us ++ vs)) (shifted (length us) ws) ≡ map (value_at vs) ws
  values-behind vs [] = refl
  values-behind vs (w ∷ ws) = ap₂ (λ z zs. z ∷ zs) (value-behind vs w) (values-behind vs ws)

  entry-behind : (z : ℤ) (vs : List (List ℤ)) (op : WordOp)
      → entry_of z (us ++ vs) (shifted_op (length us) op) ≡ entry_of z vs op
  entry-behind z vs (Const y) = refl
  entry-behind z vs Free = refl
  entry-behind z vs Flag = refl
  entry-behind z vs (Unary op t a) = ap (λ y. converting.unary op t y ∷ []) (value-behind vs a)
  entry-behind z vs (Binary op t a b) =
      ap₂ (λ x y. binary_value op t x y ∷ []) (value-behind vs a) (value-behind vs b)
  entry-behind z vs (Convert t a) = ap (λ y. converted t y ∷ []) (value-behind vs a)
  entry-behind z vs (Select which a b) =
      ap (λ w. cond (is_nonzero w) (value_at (us ++ vs) (length us + a))
      (value_at (us ++ vs) (length us + b)) ∷ []) (value-behind vs which)
      ∙ ap₂ (λ x y. cond (is_nonzero (value_at vs which)) x y ∷ []) (value-behind vs a) (value-behind vs b)
  entry-behind z vs (Read array index) =
      ap₂ (λ zs i. element_read zs i ∷ []) (elements-behind vs array) (value-behind vs index)
  entry-behind z vs (Zeros count) = refl
  entry-behind z vs (Fill array words when) =
      ap (λ w. cond (is_nonzero w) (map (value_at (us ++ vs)) (shifted (length us) words))
      (elements_at (us ++ vs) (length us + array))) (value-behind vs when)
      ∙ ap₂ (λ xs ys. cond (is_nonzero (value_at vs when)) xs ys) (values-behind vs words)
      (elements-behind vs array)
  entry-behind z vs (Write array index value when) =
      ap (λ w. cond (is_nonzero w) (slice_set (elements_at (us ++ vs) (length us + array))
      (low_word (value_at (us ++ vs) (length us + index))) (value_at (us ++ vs) (length us + value)))
      (elements_at (us ++ vs) (length us + array))) (value-behind vs when)
      ∙ ap (λ xs. cond (is_nonzero (value_at vs when)) (slice_set xs
      (low_word (value_at (us ++ vs) (length us + index))) (value_at (us ++ vs) (length us + value))) xs)
      (elements-behind vs array)
      ∙ ap₂ (λ i y. cond (is_nonzero (value_at vs when)) (slice_set (elements_at vs array) (low_word i) y)
      (elements_at vs array)) (value-behind vs index) (value-behind vs value)

  more-behind : (f : Assignment) (vs : List (List ℤ)) (op : WordOp)
      → more_values f (us ++ vs) (shifted_op (length us) op) ≡ us ++ more_values (behind (length us) f) vs op
  more-behind f vs op =
      ap (λ n. (us ++ vs) ++ entry_of (f n) (us ++ vs) (shifted_op (length us) op) ∷ []) (length-append us vs)
      ∙ ap (λ zs. (us ++ vs) ++ zs ∷ []) (entry-behind (f (length us + length vs)) vs op)
      ∙ append_assoc us vs (entry_of (f (length us + length vs)) vs op ∷ [])

  grown-behind : (f : Assignment) (vs : List (List ℤ)) (ops : List WordOp)
      → fold (more_values f) (us ++ vs) (map (shifted_op (length us)) ops)
      ≡ us ++ fold (more_values (behind (length us) f)) vs ops
  grown-behind f vs [] = refl
  grown-behind f vs (op ∷ ops) =
      ap (λ zs. fold (more_values f) zs (map (shifted_op (length us)) ops)) (more-behind f vs op)
      ∙ grown-behind f (more_values (behind (length us) f) vs op) ops

  -- requirements and places

  met-behind : (vs : List (List ℤ)) (ws : List ℕ) → are_met (us ++ vs) (shifted (length us) ws) ≡ are_met vs
      ws
  met-behind vs [] = refl
  met-behind vs (w ∷ ws) =
      ap₂ (λ z b. is_nonzero z && b) (value-behind vs w) (met-behind vs ws)

  visit-behind : (vs : List (List ℤ)) (p : PlaceWords)
      → visit_of (us ++ vs) (shifted_place (length us) p) ≡ visit_of vs p
  visit-behind vs p = ap₂ (λ z zs. record {
    place = p.place;
    choice = cond (is_nonzero z) Keep (Take zs);
  }) (value-behind vs p.keep) (values-behind vs p.values)

  visits-behind : (vs : List (List ℤ)) (ps : List PlaceWords)
      → visits_in (us ++ vs) (map (shifted_place (length us)) ps) ≡ visits_in vs ps
  unfolding visits_in
  visits-behind vs [] = refl
  visits-behind vs (p ∷ ps) =
      ap (λ z. cond (is_nonzero z) (visit_of (us ++ vs) (shifted_place (length us) p)
      ∷ visits_in (us ++ vs) (map (shifted_place (length us)) ps))
      (visits_in (us ++ vs) (map (shifted_place (length us)) ps))) (value-behind vs p.guard)
      ∙ ap₂ (λ v rest. cond (is_nonzero (value_at vs p.guard)) (v ∷ rest) rest) (visit-behind vs p)
      (visits-behind vs ps)

-- THE VALUES of both lists, one's behind the other's
pub values-joined : (f : Assignment) (ops more : List WordOp)
    → values_of f (ops ++ map (shifted_op (length ops)) more)
    ≡ values_of f ops ++ values_of (behind (length ops) f) more
unfolding values_of
values-joined f ops more =
    let us = fold (more_values f) [] ops in
    let long : length us ≡ length ops = length-values f ops in
    values-append f ops (map (shifted_op (length ops)) more)
    ∙ ap (λ n. fold (more_values f) us (map (shifted_op n) more)) (sym long)
    ∙ ap (λ zs. fold (more_values f) zs (map (shifted_op (length us)) more)) (sym (append-nil us))
    ∙ grown-behind us f [] more
    ∙ ap (λ n. us ++ fold (more_values (behind n f)) [] more) long

met-append : (vs : List (List ℤ)) (ws xs : List ℕ) → are_met vs (ws ++ xs) ≡ (are_met vs ws && are_met vs xs)
met-append vs [] xs = refl
met-append vs (w ∷ ws) xs =
    ap (λ b. is_nonzero (value_at vs w) && b) (met-append vs ws xs)
    ∙ regroup (is_nonzero (value_at vs w)) (are_met vs ws) (are_met vs xs) where
      regroup : (a b c : Bool) → (a && (b && c)) ≡ ((a && b) && c)
      regroup true b c = refl
      regroup false b c = refl

-- the first list's entries have what they had
same-first : (f : Assignment) (ops : List WordOp) (us : List (List ℤ))
    → SameBelow (length ops) (values_of f ops ++ us) (values_of f ops)
same-first f ops us w within = get_or_append_left (values_of f ops) us [] w
    (omega (arith, length-values f ops, within))

-- THE MEANING of both lists

module _ (first second joined : WordList) (j : IsJoined first second joined) (f : Assignment) where
  abbrev us : List (List ℤ)
  us = values_of f first.words

  abbrev vs : List (List ℤ)
  vs = values_of (behind (length first.words) f) second.words

  both : values_of f joined.words ≡ us ++ vs
  both = ap (values_of f) j.words ∙ values-joined f first.words second.words

  long : length us ≡ length first.words
  long = length-values f first.words

  pub holds-both : are_names (length first.words) first.require ≡ true
      → holds f joined ≡ (holds f first && holds (behind (length first.words) f) second)
  holds-both names =
      ap (λ zs. are_met zs joined.require) both
      ∙ ap (are_met (us ++ vs)) j.require
      ∙ met-append (us ++ vs) first.require (shifted (length first.words) second.require)
      ∙ ap (λ b. b && are_met (us ++ vs) (shifted (length first.words) second.require))
      (met-same (length first.words) first.require (us ++ vs) us (same-first f first.words vs) names)
      ∙ ap (λ n. are_met us first.require && are_met (us ++ vs) (shifted n second.require)) (sym long)
      ∙ ap (λ b. are_met us first.require && b) (met-behind us vs second.require)

  pub visits-both : list_all (is_place (length first.words)) first.places ≡ true
      → visits_of f joined ≡ visits_of f first ++ visits_of (behind (length first.words) f) second
  visits-both places =
      ap (λ zs. visits_in zs joined.places) both
      ∙ ap (visits_in (us ++ vs)) j.places
      ∙ visits-append (us ++ vs) first.places (map (shifted_place (length first.words)) second.places)
      ∙ ap (λ xs. xs ++ visits_in (us ++ vs) (map (shifted_place (length first.words)) second.places))
      (visits-same (length first.words) first.places (us ++ vs) us (same-first f first.words vs) places)
      ∙ ap (λ n. visits_in us first.places ++ visits_in (us ++ vs) (map (shifted_place n) second.places))
      (sym long)
      ∙ ap (λ xs. visits_in us first.places ++ xs) (visits-behind us vs second.places)

-- ASSIGNMENTS of both

joined-first : (n : ℕ) (f g : Assignment) → Agree n (joined_at n f g) f
joined-first n f g k below = ap (λ b. cond b (f k) (g (k - n))) (test k below) where
  test : (k : ℕ) → k < n → nat_lt k n ≡ true
  test k below = grind (arith, nat_tests)

joined-behind : (n : ℕ) (f g : Assignment) → behind n (joined_at n f g) ≡ g
joined-behind n f g = λ i k. at k i where
  past : (k : ℕ) → nat_lt (n + k) n ≡ false
  past k = grind (arith, nat_tests)

  back : (k : ℕ) → (n + k) - n ≡ k
  back k = omega arith

  at : (k : ℕ) → behind n (joined_at n f g) k ≡ g k
  at k = ap (λ b. cond b (f (n + k)) (g ((n + k) - n))) (past k) ∙ ap g (back k)

-- THE LIST FITS

-- names, of so many words behind so many others
module _ (by n m : ℕ) (all : m ≡ by + n) where
  name-behind : (w : ℕ) → is_name n w ≡ true → is_name m (by + w) ≡ true
  name-behind w h = let below : w < n = of_name n w h in to_name m (by + w) (omega (arith, all, below))

  names-behind : (ws : List ℕ) → are_names n ws ≡ true → are_names m (shifted by ws) ≡ true
  names-behind [] h = refl
  names-behind (w ∷ ws) h =
      let both = and_parts (is_name n w) (are_names n ws) h in
      and_from (is_name m (by + w)) (are_names m (shifted by ws)) (name-behind w both.0)
      (names-behind ws both.1)

  two-names : (a b : ℕ) → (is_name n a && is_name n b) ≡ true
      → (is_name m (by + a) && is_name m (by + b)) ≡ true
  two-names a b h = let both = and_parts (is_name n a) (is_name n b) h in
      and_from (is_name m (by + a)) (is_name m (by + b)) (name-behind a both.0) (name-behind b both.1)

  three-names : (a b c : ℕ) → (is_name n a && is_name n b && is_name n c) ≡ true
      → (is_name m (by + a) && is_name m (by + b) && is_name m (by + c)) ≡ true
  three-names a b c h = let both = and_parts (is_name n a && is_name n b) (is_name n c) h in
      and_from (is_name m (by + a) && is_name m (by + b)) (is_name m (by + c)) (two-names a b both.0)
      (name-behind c both.1)

  place-behind : (p : PlaceWords) → is_place n p ≡ true → is_place m (shifted_place by p) ≡ true
  place-behind p h =
      let all = and_parts (is_name n p.guard && is_name n p.keep) (are_names n p.values) h in
      and_from (is_name m (by + p.guard) && is_name m (by + p.keep)) (are_names m (shifted by p.values))
      (two-names p.guard p.keep all.0) (names-behind p.values all.1)

  places-behind : (ps : List PlaceWords) → list_all (is_place n) ps ≡ true
      → list_all (is_place m) (map (shifted_place by) ps) ≡ true
  places-behind [] h = refl
  places-behind (p ∷ ps) h =
      let both = and_parts (is_place n p) (list_all (is_place n) ps) h in
      and_from (is_place m (shifted_place by p)) (list_all (is_place m) (map (shifted_place by) ps))
      (place-behind p both.0) (places-behind ps both.1)

-- entries, which have these lengths and stand behind others of these
module _ (ls ms : List ℕ) where
  abbrev n : ℕ
  n = length ms

  abbrev m : ℕ
  m = length (ls ++ ms)

  abbrev by : ℕ
  by = length ls

  all : m ≡ by + n
  all = length-append ls ms

  long-behind : (w : ℕ) → get_or (ls ++ ms) (length ls + w) 1 ≡ get_or ms w 1
  long-behind w = get_or-append-add ls ms w 1

  length-shifted : (op : WordOp) → length_of (ls ++ ms) (shifted_op (length ls) op) ≡ length_of ms op
  length-shifted (Const z) = refl
  length-shifted Free = refl
  length-shifted Flag = refl
  length-shifted (Unary op t a) = refl
  length-shifted (Binary op t a b) = refl
  length-shifted (Convert t a) = refl
  length-shifted (Select which a b) = refl
  length-shifted (Read array index) = refl
  length-shifted (Zeros count) = refl
  length-shifted (Fill array words when) = long-behind array
  length-shifted (Write array index value when) = long-behind array

  fits-shifted : (op : WordOp) → fits_behind ms op ≡ true → fits_behind (ls ++ ms) (shifted_op by op) ≡ true
  fits-shifted (Const z) h = h
  fits-shifted Free h = refl
  fits-shifted Flag h = refl
  fits-shifted (Unary op t a) h =
      let both = and_parts (is_promoted t) (is_name n a) h in
      and_from (is_promoted t) (is_name m (by + a)) both.0 (name-behind by n m all a both.1)
  fits-shifted (Binary op t a b) h =
      let both = and_parts (is_promoted t && is_name n a) (is_name n b) h in
      let two = and_parts (is_promoted t) (is_name n a) both.0 in
      and_from (is_promoted t && is_name m (by + a)) (is_name m (by + b))
      (and_from (is_promoted t) (is_name m (by + a)) two.0 (name-behind by n m all a two.1))
      (name-behind by n m all b both.1)
  fits-shifted (Convert t a) h = name-behind by n m all a h
  fits-shifted (Select which a b) h = three-names by n m all which a b h
  fits-shifted (Read array index) h = two-names by n m all array index h
  fits-shifted (Zeros count) h = h
  fits-shifted (Fill array words when) h =
      let four = and_parts (is_name n array && are_names n words && (length words == get_or ms array 1))
      (is_name n when) h in
      let three = and_parts (is_name n array && are_names n words) (length words == get_or ms array 1) four.0
      in
      let two = and_parts (is_name n array) (are_names n words) three.0 in
      let same : (length (shifted by words) == get_or (ls ++ ms) (by + array) 1) ≡ true =
      ap₂ (λ k l. k == l) (length-map words (λ w. by + w)) (long-behind array) ∙ three.1 in
      and_from (is_name m (by + array) && are_names m (shifted by words)
      && (length (shifted by words) == get_or (ls ++ ms) (by + array) 1)) (is_name m (by + when))
      (and_from (is_name m (by + array) && are_names m (shifted by words))
      (length (shifted by words) == get_or (ls ++ ms) (by + array) 1)
      (and_from (is_name m (by + array)) (are_names m (shifted by words))
      (name-behind by n m all array two.0)
      (names-behind by n m all words two.1)) same) (name-behind by n m all when four.1)
  fits-shifted (Write array index value when) h =
      let both = and_parts (is_name n array && is_name n index && is_name n value) (is_name n when) h in
      and_from (is_name m (by + array) && is_name m (by + index) && is_name m (by + value))
      (is_name m (by + when)) (three-names by n m all array index value both.0)
      (name-behind by n m all when both.1)

fit-shifted : (ls ms : List ℕ) (ops : List WordOp) → fit_behind ms ops ≡ true
    → fit_behind (ls ++ ms) (map (shifted_op (length ls)) ops) ≡ true
fit-shifted ls ms [] h = refl
fit-shifted ls ms (op ∷ ops) h =
    let both = and_parts (fits_behind ms op) (fit_behind (more_lengths ms op) ops) h in
    let more : more_lengths (ls ++ ms) (shifted_op (length ls) op) ≡ ls ++ more_lengths ms op =
    ap (λ l. (ls ++ ms) ++ l ∷ []) (length-shifted ls ms op) ∙ append_assoc ls ms (length_of ms op ∷ []) in
    and_from (fits_behind (ls ++ ms) (shifted_op (length ls) op))
    (fit_behind (more_lengths (ls ++ ms) (shifted_op (length ls) op)) (map (shifted_op (length ls)) ops))
    (fits-shifted ls ms op both.0)
    (subst (λ l. fit_behind l (map (shifted_op (length ls)) ops) ≡ true) (sym more)
    (fit-shifted ls (more_lengths ms op) ops both.1))

fit-all : (ls : List ℕ) (ops more : List WordOp) → fit_behind ls ops ≡ true
    → fit_behind (fold more_lengths ls ops) more ≡ true → fit_behind ls (ops ++ more) ≡ true
fit-all ls [] more h k = k
fit-all ls (op ∷ ops) more h k =
    let both = and_parts (fits_behind ls op) (fit_behind (more_lengths ls op) ops) h in
    and_from (fits_behind ls op) (fit_behind (more_lengths ls op) (ops ++ more)) both.0
    (fit-all (more_lengths ls op) ops more both.1 k)

pub words-joined : (ops more : List WordOp) → are_words ops ≡ true → are_words more ≡ true
    → are_words (ops ++ map (shifted_op (length ops)) more) ≡ true
unfolding are_words lengths_of
words-joined ops more h k =
    let ls = fold more_lengths [] ops in
    let long : length ls ≡ length ops = length-lengths ops in
    fit-all [] ops (map (shifted_op (length ops)) more) h
    (subst (λ n. fit_behind ls (map (shifted_op n) more) ≡ true) long
    (subst (λ l. fit_behind l (map (shifted_op (length ls)) more) ≡ true) (append-nil ls)
    (fit-shifted ls [] more k)))

-- values show their types

shown-shifted : (k : ℕ) (op : WordOp) → shows_type (Some (shifted_op k op)) ≡ shows_type (Some op)
shown-shifted k (Const z) = refl
shown-shifted k Free = refl
shown-shifted k Flag = refl
shown-shifted k (Unary op t a) = refl
shown-shifted k (Binary op t a b) = refl
shown-shifted k (Convert t a) = refl
shown-shifted k (Select which a b) = refl
shown-shifted k (Read array index) = refl
shown-shifted k (Zeros count) = refl
shown-shifted k (Fill array words when) = refl
shown-shifted k (Write array index value when) = refl

shown-first : (ops more : List WordOp) (w : ℕ) → shows_type (slice_get ops w) ≡ true
    → shows_type (slice_get (ops ++ more) w) ≡ true
shown-first [] more w h = absurd (cc)
shown-first (op ∷ ops) more zero h = h
shown-first (op ∷ ops) more (suc w) h = shown-first ops more w h

slice-behind : (ops more : List WordOp) (w : ℕ) (op : WordOp) → slice_get more w ≡ Some op
    → slice_get (ops ++ more) (length ops + w) ≡ Some op
slice-behind ops more w op found =
    let within : w < length more = slice_get_within more w op found in
    slice_get-get_or (ops ++ more) (length ops + w) op (omega (arith, length-append ops more))
    ∙ ap Some (get_or-append-add ops more w op ∙ get_or_from_slice_get more w op op found)

shown-behind : (ops more : List WordOp) (k w : ℕ) → shows_type (slice_get more w) ≡ true
    → shows_type (slice_get (ops ++ map (shifted_op k) more) (length ops + w)) ≡ true
shown-behind ops more k w h = at (slice_get more w) refl h where
  at : (o : Option WordOp) → slice_get more w ≡ o → shows_type o ≡ true
      → shows_type (slice_get (ops ++ map (shifted_op k) more) (length ops + w)) ≡ true
  at None none h = absurd (cc)
  at (Some op) found h =
      let moved : slice_get (map (shifted_op k) more) w ≡ Some (shifted_op k op) =
      slice_get-map (shifted_op k) more w ∙ ap (option_map (shifted_op k)) found in
      ap shows_type (slice-behind ops (map (shifted_op k) more) w (shifted_op k op) moved)
      ∙ shown-shifted k op ∙ h

abbrev are_shown : List WordOp → List ℕ → Bool
are_shown ops ws = list_all (λ w. shows_type (slice_get ops w)) ws

module _ (ops more : List WordOp) where
  abbrev joined-ops : List WordOp
  joined-ops = ops ++ map (shifted_op (length ops)) more

  all-shown-first : (ws : List ℕ) → are_shown ops ws ≡ true → are_shown joined-ops ws ≡ true
  all-shown-first [] h = refl
  all-shown-first (w ∷ ws) h =
      let both = and_parts (shows_type (slice_get ops w)) (are_shown ops ws) h in
      and_from (shows_type (slice_get joined-ops w)) (are_shown joined-ops ws)
      (shown-first ops (map (shifted_op (length ops)) more) w both.0) (all-shown-first ws both.1)

  all-shown-behind : (ws : List ℕ) → are_shown more ws ≡ true
      → are_shown joined-ops (shifted (length ops) ws) ≡ true
  all-shown-behind [] h = refl
  all-shown-behind (w ∷ ws) h =
      let both = and_parts (shows_type (slice_get more w)) (are_shown more ws) h in
      and_from (shows_type (slice_get joined-ops (length ops + w)))
      (are_shown joined-ops (shifted (length ops) ws)) (shown-behind ops more (length ops) w both.0)
      (all-shown-behind ws both.1)

  typed-first : (ps : List PlaceWords) → are_typed ops ps ≡ true → are_typed joined-ops ps ≡ true
  typed-first [] h = refl
  typed-first (p ∷ ps) h =
      let both = and_parts (is_typed ops p) (are_typed ops ps) h in
      and_from (is_typed joined-ops p) (are_typed joined-ops ps) (all-shown-first p.values both.0)
      (typed-first ps both.1)

  typed-behind : (ps : List PlaceWords) → are_typed more ps ≡ true
      → are_typed joined-ops (map (shifted_place (length ops)) ps) ≡ true
  typed-behind [] h = refl
  typed-behind (p ∷ ps) h =
      let both = and_parts (is_typed more p) (are_typed more ps) h in
      and_from (is_typed joined-ops (shifted_place (length ops) p))
      (are_typed joined-ops (map (shifted_place (length ops)) ps)) (all-shown-behind p.values both.0)
      (typed-behind ps both.1)

-- places of the first list

place-first : (n m : ℕ) (p : PlaceWords) → n ≤ m → is_place n p ≡ true → is_place m p ≡ true
place-first n m p le h =
    let all = and_parts (is_name n p.guard && is_name n p.keep) (are_names n p.values) h in
    let two = and_parts (is_name n p.guard) (is_name n p.keep) all.0 in
    and_from (is_name m p.guard && is_name m p.keep) (are_names m p.values)
    (and_from (is_name m p.guard) (is_name m p.keep) (name-more n m p.guard le two.0)
    (name-more n m p.keep le two.1)) (names-more n m p.values le all.1)

places-first : (n m : ℕ) (ps : List PlaceWords) → n ≤ m → list_all (is_place n) ps ≡ true
    → list_all (is_place m) ps ≡ true
places-first n m [] le h = refl
places-first n m (p ∷ ps) le h =
    let both = and_parts (is_place n p) (list_all (is_place n) ps) h in
    and_from (is_place m p) (list_all (is_place m) ps) (place-first n m p le both.0)
    (places-first n m ps le both.1)

-- WHAT EACH LIST KEEPS

record Kept (ops : List WordOp) (ws : List ℕ) (ps : List PlaceWords) : Type 0 where
  words : are_words ops ≡ true
  require : are_names (length ops) ws ≡ true
  places : list_all (is_place (length ops)) ps ≡ true
  typed : are_typed ops ps ≡ true

kept : (list : WordList) → Kept list.words list.require list.places
unfolding is_word_list
kept list =
    let all = and_parts (are_words list.words && are_names (length list.words) list.require
    && list_all (is_place (length list.words)) list.places) (are_typed list.words list.places) list.fit in
    let three = and_parts (are_words list.words && are_names (length list.words) list.require)
    (list_all (is_place (length list.words)) list.places) all.0 in
    let two = and_parts (are_words list.words) (are_names (length list.words) list.require) three.0 in
    record { words = two.0; require = two.1; places = three.1; typed = all.1 }

of-kept : (ops : List WordOp) (require : List ℕ) (places : List PlaceWords) → Kept ops require places
    → is_word_list ops require places ≡ true
unfolding is_word_list
of-kept ops require places k =
    and_from (are_words ops && are_names (length ops) require && list_all (is_place (length ops)) places)
    (are_typed ops places)
    (and_from (are_words ops && are_names (length ops) require) (list_all (is_place (length ops)) places)
    (and_from (are_words ops) (are_names (length ops) require) k.words k.require) k.places) k.typed

-- the list without words keeps it
pub list-empty : (ops : List WordOp) (require : List ℕ) (places : List PlaceWords) → ops ≡ [] → require ≡ []
    → places ≡ [] → is_word_list ops require places ≡ true
unfolding is_word_list are_words
list-empty ops require places no-ops no-require no-places =
    λ i. is_word_list (no-ops i) (no-require i) (no-places i)

-- and so does the joined list
pub list-joined : (first second : WordList) (ops : List WordOp) (require : List ℕ) (places : List PlaceWords)
    → ops ≡ first.words ++ map (shifted_op (length first.words)) second.words
    → require ≡ first.require ++ shifted (length first.words) second.require
    → places ≡ first.places ++ map (shifted_place (length first.words)) second.places
    → is_word_list ops require places ≡ true
list-joined first second ops require places same-ops same-require same-places =
    let n = length first.words in
    let k = length second.words in
    let a = kept first in
    let b = kept second in
    let whole : length ops ≡ n + k = ap length same-ops
    ∙ length-append first.words (map (shifted_op n) second.words)
    ∙ ap (λ l. n + l) (length-map second.words (shifted_op n)) in
    let more : n ≤ length ops = omega (arith, whole) in
    of-kept ops require places (record {
      words = ap are_words same-ops ∙ words-joined first.words second.words a.words b.words;
      require = ap (are_names (length ops)) same-require
          ∙ list_all-append (is_name (length ops)) first.require (shifted n second.require)
          ∙ and_from (are_names (length ops) first.require) (are_names (length ops) (shifted n
          second.require))
          (names-more n (length ops) first.require more a.require)
          (names-behind n k (length ops) whole second.require b.require);
      places = ap (list_all (is_place (length ops))) same-places
          ∙ list_all-append (is_place (length ops)) first.places (map (shifted_place n) second.places)
          ∙ and_from (list_all (is_place (length ops)) first.places)
          (list_all (is_place (length ops)) (map (shifted_place n) second.places))
          (places-first n (length ops) first.places more a.places)
          (places-behind n k (length ops) whole second.places b.places);
      typed = ap₂ are_typed same-ops same-places
          ∙ list_all-append (is_typed (joined-ops first.words second.words)) first.places
          (map (shifted_place n) second.places)
          ∙ and_from (are_typed (joined-ops first.words second.words) first.places)
          (are_typed (joined-ops first.words second.words) (map (shifted_place n) second.places))
          (typed-first first.words second.words first.places a.typed)
          (typed-behind first.words second.words second.places b.typed);
    })

-- THE LAWS

pub law-holds : (first second joined : WordList) (f : Assignment) → IsJoined first second joined
    → holds f joined ≡ (holds f first && holds (behind (length first.words) f) second)
law-holds first second joined f j = holds-both first second joined j f (kept first).require

pub law-visits : (first second joined : WordList) (f : Assignment) → IsJoined first second joined
    → visits_of f joined ≡ visits_of f first ++ visits_of (behind (length first.words) f) second
law-visits first second joined f j = visits-both first second joined j f (kept first).places

pub pair-holds : (first second joined : WordList) (f g : Assignment) → IsJoined first second joined
    → holds (joined_at (length first.words) f g) joined ≡ (holds f first && holds g second)
pair-holds first second joined f g j =
    let n = length first.words in
    law-holds first second joined (joined_at n f g) j
    ∙ ap₂ (λ a b. a && b)
    (ap (λ vs. are_met vs first.require)
    (values-agree (joined_at n f g) f first.words (joined-first n f g)))
    (ap (λ h. holds h second) (joined-behind n f g))

pub pair-visits : (first second joined : WordList) (f g : Assignment) → IsJoined first second joined
    → visits_of (joined_at (length first.words) f g) joined ≡ visits_of f first ++ visits_of g second
pair-visits first second joined f g j =
    let n = length first.words in
    law-visits first second joined (joined_at n f g) j
    ∙ ap₂ (λ a b. a ++ b)
    (ap (λ vs. visits_in vs first.places)
    (values-agree (joined_at n f g) f first.words (joined-first n f g)))
    (ap (λ h. visits_of h second) (joined-behind n f g))
