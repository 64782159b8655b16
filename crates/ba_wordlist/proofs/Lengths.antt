-- How long entries are, and the ranges of what they have.
use Rattle.std.proofs.Common.{◌⊎◌, inl, inr, ◌%◌, ◌==◌, ◌≤ℤ◌, negsuc, ◌≡◌, ℕ, zero, suc, ◌+◌, ◌<◌, ℤ, pos, Bool, true, false, ◌&&◌, cond, List, [], ◌∷◌, ◌++◌, map, length, get_or, replicate, Some, None, Option, refl, sym, ◌∙◌, ap, arith, slice_get, take, subst}
use Rattle.std.proofs.lemmas.Bool.{and_from, and_parts, cases_eq, eqb-true, or_left, or_right}
use Rattle.std.proofs.lemmas.Int.{ints}
use Rattle.std.proofs.lemmas.Grind.{fold-append}
use Rattle.std.proofs.lemmas.List.{get_or_append_left, get_or_at, length_push, length-set, length-map, length-replicate}
use Rattle.std.specs.List.{fold, list_all}
use Rattle.std.specs.Prelude.{IfSome, int_lt, slice_set}
use Rattle.std.proofs.Math.Bool.{and-true}
use Rattle.ba_cells.specs.Cells.{index_read}
use Rattle.ba_code.specs.Operators.{converting}
use Rattle.ba_code.proofs.Ranges.{test-in}
use Rattle.ba_numbers.proofs.Conversions.{converted_in_range, value_in_range, value_of_one_in_range}
use Rattle.ba_numbers.specs.Numbers.{IsIn, converted, greatest_of, is_in, least_of, low_word, truth}
use Rattle.ba_numbers.specs.declared.numbers.BinOp.{BinOp}
use Rattle.ba_numbers.specs.declared.numbers.BinOp.TheVariants.{Rem}
use Rattle.ba_numbers.specs.declared.numbers.CType.{CType}
use Rattle.ba_numbers.specs.declared.numbers.CType.TheVariants.{I8, U8, I16, U16, I32, U32}
use Rattle.ba_numbers.specs.Types.{shifts}
use Rattle.ba_wordlist.specs.Facts.{are_names, are_words, fit_behind, fits_behind, is_name, is_word_value, length_of, lengths_of, more_lengths}
use Rattle.ba_wordlist.specs.Meaning.{Assignment, binary_value, element_read, value_at_zero, value_or, elements_at, entry_of, is_nonzero, more_values, value_at, values_of}
use Rattle.ba_wordlist.specs.declared.words.WordOp.{WordOp}
use Rattle.ba_wordlist.specs.declared.words.WordOp.TheVariants.{Const, Free, Flag, Unary, Binary, Convert, Select, Read, Zeros, Fill, Write}
use Rattle.ba_wordlist.proofs.Values.{of_name}

lengths-grown : (ops : List WordOp) (ls : List ℕ) → length (fold more_lengths ls ops) ≡ length ls + length ops
lengths-grown [] ls = omega arith
lengths-grown (op ∷ ops) ls = omega (
  arith,
  lengths-grown ops (more_lengths ls op),
  length_push ls
      (length_of ls op),
)

pub length-lengths : (ops : List WordOp) → length (lengths_of ops) ≡ length ops
unfolding lengths_of
length-lengths ops = omega (arith, lengths-grown ops [])

pub lengths-push : (ops : List WordOp) (op : WordOp)
    → lengths_of (ops ++ op ∷ []) ≡ lengths_of ops ++ length_of (lengths_of ops) op ∷ []
unfolding lengths_of
lengths-push ops op = fold-append more_lengths [] ops (op ∷ [])

same-grown : (ops : List WordOp) (ls : List ℕ) (w : ℕ) → w < length ls →
    get_or (fold more_lengths ls ops) w 1 ≡ get_or ls w 1
same-grown [] ls w within = refl
same-grown (op ∷ ops) ls w within =
    same-grown ops (more_lengths ls op) w (omega (arith, length_push ls (length_of ls op)))
    ∙ get_or_append_left ls (length_of ls op ∷ []) 1 w within

pub lengths-kept : (ops more : List WordOp) (w : ℕ) → w < length ops
    → get_or (lengths_of (ops ++ more)) w 1 ≡ get_or (lengths_of ops) w 1
unfolding lengths_of
lengths-kept ops more w within =
    ap (λ ls. get_or ls w 1) (fold-append more_lengths [] ops more)
    ∙ same-grown more (fold more_lengths [] ops) w (omega (arith, lengths-grown ops []))

pub length-last : (ops : List WordOp) (op : WordOp)
    → get_or (lengths_of (ops ++ op ∷ [])) (length ops) 1 ≡ length_of (lengths_of ops) op
length-last ops op = ap (λ ls. get_or ls (length ops) 1) (lengths-push ops op)
    ∙ get_or_at (lengths_of ops) (length_of (lengths_of ops) op) [] 1 (length ops) (length-lengths ops)

-- WORDS THAT FIT

fit-append : (ops : List WordOp) (ls : List ℕ) (op : WordOp)
    → fit_behind ls (ops ++ op ∷ []) ≡ (fit_behind ls ops && fits_behind (fold more_lengths ls ops) op)
fit-append [] ls op = and-true (fits_behind ls op)
fit-append (other ∷ ops) ls op =
    ap (λ b. fits_behind ls other && b) (fit-append ops (more_lengths ls other) op)
    ∙ regroup (fits_behind ls other) (fit_behind (more_lengths ls other) ops)
    (fits_behind (fold more_lengths (more_lengths ls other) ops) op) where
      regroup : (a b c : Bool) → (a && (b && c)) ≡ ((a && b) && c)
      regroup true b c = refl
      regroup false b c = refl

-- a word of a list fits after those before it
fit-at : (ls : List ℕ) (ops : List WordOp) (w : ℕ) (op : WordOp) → fit_behind ls ops ≡ true
    → slice_get ops w ≡ Some op → fits_behind (fold more_lengths ls (take w ops)) op ≡ true
fit-at ls [] w op h found = absurd (cc)
fit-at ls (first ∷ ops) zero op h found =
    let same : first ≡ op = cc in
    subst (λ o. fits_behind ls o ≡ true) same
    (and_parts (fits_behind ls first) (fit_behind (more_lengths ls first) ops) h).0
fit-at ls (first ∷ ops) (suc w) op h found = fit-at (more_lengths ls first) ops w op
    (and_parts (fits_behind ls first) (fit_behind (more_lengths ls first) ops) h).1 found

pub words-at : (ops : List WordOp) (w : ℕ) (op : WordOp) → are_words ops ≡ true → slice_get ops w ≡ Some op
    → fits_behind (lengths_of (take w ops)) op ≡ true
unfolding are_words lengths_of
words-at ops w op fit found = fit-at [] ops w op fit found

pub words-push : (ops : List WordOp) (op : WordOp) → are_words ops ≡ true →
    fits_behind (lengths_of ops) op ≡ true
    → are_words (ops ++ op ∷ []) ≡ true
unfolding are_words lengths_of
words-push ops op fit fits = fit-append ops [] op
    ∙ and_from (fit_behind [] ops) (fits_behind (fold more_lengths [] ops) op) fit fits

-- HOW LONG ENTRIES ARE

-- entries have as many elements as these lengths say
pub record LongAs (vs : List (List ℤ)) (ls : List ℕ) : Type 0 where
  pub many : length vs ≡ length ls
  pub long : (w : ℕ) → w < length ls → length (elements_at vs w) ≡ get_or ls w 1

either-long : (b : Bool) (xs ys : List ℤ) (n : ℕ) → length xs ≡ n → length ys ≡ n → length (cond b xs ys) ≡ n
either-long true xs ys n k l = k
either-long false xs ys n k l = l

entry-long : (z : ℤ) (vs : List (List ℤ)) (ls : List ℕ) (op : WordOp) → LongAs vs ls →
    fits_behind ls op ≡ true
    → length (entry_of z vs op) ≡ length_of ls op
entry-long z vs ls (Const y) k h = refl
entry-long z vs ls Free k h = refl
entry-long z vs ls Flag k h = refl
entry-long z vs ls (Unary op t a) k h = refl
entry-long z vs ls (Binary op t a b) k h = refl
entry-long z vs ls (Convert t a) k h = refl
entry-long z vs ls (Select which a b) k h = refl
entry-long z vs ls (Read array index) k h = refl
entry-long z vs ls (Zeros count) k h = length-replicate count (pos 0)
entry-long z vs ls (Fill array words when) k h =
    let all = and_parts (is_name (length ls) array && are_names (length ls) words
    && (length words == get_or ls array 1)) (is_name (length ls) when) h in
    let three = and_parts (is_name (length ls) array && are_names (length ls) words)
    (length words == get_or ls array 1) all.0 in
    let two = and_parts (is_name (length ls) array) (are_names (length ls) words) three.0 in
    either-long (is_nonzero (value_at vs when)) (map (value_at vs) words) (elements_at vs array)
    (get_or ls array 1)
    (length-map words (value_at vs) ∙ eqb-true (length words) (get_or ls array 1) three.1)
    (k.long array (of_name (length ls) array two.0))
entry-long z vs ls (Write array index value when) k h =
    let all = and_parts (is_name (length ls) array && is_name (length ls) index && is_name (length ls) value)
    (is_name (length ls) when) h in
    let three = and_parts (is_name (length ls) array && is_name (length ls) index)
    (is_name (length ls) value) all.0 in
    let two = and_parts (is_name (length ls) array) (is_name (length ls) index) three.0 in
    let own = k.long array (of_name (length ls) array two.0) in
    either-long (is_nonzero (value_at vs when))
    (slice_set (elements_at vs array) (low_word (value_at vs index)) (value_at vs value))
    (elements_at vs array)
    (get_or ls array 1)
    (length-set (elements_at vs array) (low_word (value_at vs index)) (value_at vs value) ∙ own) own

long-push : (vs : List (List ℤ)) (ls : List ℕ) (zs : List ℤ) (l : ℕ) → LongAs vs ls → length zs ≡ l
    → LongAs (vs ++ zs ∷ []) (ls ++ l ∷ [])
long-push vs ls zs l k same = record {
  many = omega (arith, length_push vs zs, length_push ls l, k.many);
  long = λ w below. at w below (cases_eq w (length ls));
} where
  at : (w : ℕ) → w < length (ls ++ l ∷ []) → (w ≡ length ls) ⊎ (w ≡ length ls → ⊥)
      → length (elements_at (vs ++ zs ∷ []) w) ≡ get_or (ls ++ l ∷ []) w 1
  at w below (inl e) = ap length (get_or_at vs zs [] [] w (k.many ∙ sym e)) ∙ same
      ∙ sym (get_or_at ls l [] 1 w (sym e))
  at w below (inr other) =
      let old : w < length ls = omega (arith, length_push ls l, other) in
      ap length (get_or_append_left vs (zs ∷ []) [] w (omega (arith, k.many))) ∙ k.long w old
      ∙ sym (get_or_append_left ls (l ∷ []) 1 w old)

long-grown : (f : Assignment) (ops : List WordOp) (vs : List (List ℤ)) (ls : List ℕ) → LongAs vs ls
    → fit_behind ls ops ≡ true → LongAs (fold (more_values f) vs ops) (fold more_lengths ls ops)
long-grown f [] vs ls k h = k
long-grown f (op ∷ ops) vs ls k h =
    let both = and_parts (fits_behind ls op) (fit_behind (more_lengths ls op) ops) h in
    long-grown f ops (more_values f vs op) (more_lengths ls op)
    (long-push vs ls (entry_of (f (length vs)) vs op) (length_of ls op) k
    (entry-long (f (length vs)) vs ls op k both.0)) both.1

-- an array has as many elements under each assignment
pub length-elements : (f : Assignment) (ops : List WordOp) (w : ℕ) → are_words ops ≡ true → w < length ops
    → length (elements_at (values_of f ops) w) ≡ get_or (lengths_of ops) w 1
unfolding are_words values_of lengths_of
length-elements f ops w fit below =
    let grown = long-grown f ops [] [] (record {
      many = refl;
      long =
          λ w none. absurd (omega (arith, none));
    }) fit in
    grown.long w (omega (arith, lengths-grown ops []))

-- THE RANGES OF VALUES

within-word : (t : CType) (z : ℤ) → least_of I32 ≤ℤ least_of t → greatest_of t ≤ℤ greatest_of I32 → IsIn t z
    → is_word_value z ≡ true
within-word t z low high h =
    let from : least_of t ≤ℤ z = h.low in
    let upto : z ≤ℤ greatest_of t = h.high in
    or_left (is_in I32 z) (is_in U32 z)
    (test-in I32 z (record { low = omega (arith, ints); high = omega (arith, ints) }))

pub in-word : (t : CType) (z : ℤ) → IsIn t z → is_word_value z ≡ true
in-word I8 z h = within-word I8 z (omega (arith, ints)) (omega (arith, ints)) h
in-word U8 z h = within-word U8 z (omega (arith, ints)) (omega (arith, ints)) h
in-word I16 z h = within-word I16 z (omega (arith, ints)) (omega (arith, ints)) h
in-word U16 z h = within-word U16 z (omega (arith, ints)) (omega (arith, ints)) h
in-word I32 z h = within-word I32 z (omega (arith, ints)) (omega (arith, ints)) h
in-word U32 z h = or_right (is_in I32 z) (is_in U32 z) (test-in U32 z h)

abbrev are_values : List ℤ → Bool
are_values zs = list_all is_word_value zs

-- each element of each entry
AreInRange : List (List ℤ) → Type 0
AreInRange vs = (w : ℕ) → are_values (elements_at vs w) ≡ true

at-values : (zs : List ℤ) (k : ℕ) → are_values zs ≡ true → is_word_value (get_or zs k (pos 0)) ≡ true
at-values [] k h = refl
at-values (z ∷ zs) zero h = (and_parts (is_word_value z) (are_values zs) h).0
at-values (z ∷ zs) (suc k) h = at-values zs k (and_parts (is_word_value z) (are_values zs) h).1

set-values : (zs : List ℤ) (k : ℕ) (y : ℤ) → is_word_value y ≡ true → are_values zs ≡ true
    → are_values (slice_set zs k y) ≡ true
set-values [] k y i h = refl
set-values (z ∷ zs) zero y i h =
    and_from (is_word_value y) (are_values zs) i (and_parts (is_word_value z) (are_values zs) h).1
set-values (z ∷ zs) (suc k) y i h =
    let both = and_parts (is_word_value z) (are_values zs) h in
    and_from (is_word_value z) (are_values (slice_set zs k y)) both.0 (set-values zs k y i both.1)

zero-values : (n : ℕ) → are_values (replicate n (pos 0)) ≡ true
zero-values zero = refl
zero-values (suc n) = zero-values n

read-values : (vs : List (List ℤ)) (ws : List ℕ) → AreInRange vs → are_values (map (value_at vs) ws) ≡ true
unfolding AreInRange
read-values vs [] k = refl
read-values vs (w ∷ ws) k = and_from (is_word_value (value_at vs w)) (are_values (map (value_at vs) ws))
    (at-values (elements_at vs w) 0 (k w)) (read-values vs ws k)

one-value : (z : ℤ) → is_word_value z ≡ true → are_values (z ∷ []) ≡ true
one-value z h = and_from (is_word_value z) true h refl

either-value : (b : Bool) (y z : ℤ) → is_word_value y ≡ true → is_word_value z ≡ true →
    is_word_value (cond b y z) ≡ true
either-value true y z h k = h
either-value false y z h k = k

either-values : (b : Bool) (ys zs : List ℤ) → are_values ys ≡ true → are_values zs ≡ true
    → are_values (cond b ys zs) ≡ true
either-values true ys zs h k = h
either-values false ys zs h k = k

truth-value : (b : Bool) → is_word_value (truth b) ≡ true
truth-value true = refl
truth-value false = refl

signed-value : (b : Bool) → is_word_value (cond b (pos 1) (negsuc 0)) ≡ true
signed-value true = refl
signed-value false = refl

zero-value : (op : BinOp) (t : CType) (a : ℤ) → is_word_value (value_at_zero op t a) ≡ true
zero-value Rem t a = in-word t (converted t a) (converted_in_range t a)
zero-value _ U32 a = refl
zero-value _ I8 a = signed-value (int_lt (converted I8 a) (pos 0))
zero-value _ U8 a = signed-value (int_lt (converted U8 a) (pos 0))
zero-value _ I16 a = signed-value (int_lt (converted I16 a) (pos 0))
zero-value _ U16 a = signed-value (int_lt (converted U16 a) (pos 0))
zero-value _ I32 a = signed-value (int_lt (converted I32 a) (pos 0))

value-or-in : (o : Option ℤ) (t : CType) (z : ℤ) → IfSome o (IsIn t) → is_word_value z ≡ true
    → is_word_value (value_or o z) ≡ true
value-or-in None t z h k = k
value-or-in (Some y) t z h k = in-word t y h

entry-in : (z : ℤ) (vs : List (List ℤ)) (ls : List ℕ) (op : WordOp) → AreInRange vs → fits_behind ls op ≡ true
    → are_values (entry_of z vs op) ≡ true
unfolding AreInRange
entry-in z vs ls (Const y) k h = one-value y h
entry-in z vs ls Free k h = one-value (converted I32 z)
    (in-word I32 (converted I32 z) (converted_in_range I32 z))
entry-in z vs ls Flag k h = one-value (truth (is_nonzero z)) (truth-value (is_nonzero z))
entry-in z vs ls (Unary op t a) k h = one-value (converting.unary op t (value_at vs a))
    (in-word t (converting.unary op t (value_at vs a))
    (value_of_one_in_range op t (converted t (value_at vs a))))
entry-in z vs ls (Binary op t a b) k h = one-value (binary_value op t (value_at vs a) (value_at vs b))
    (value-or-in (converting.binary op t (value_at vs a) (value_at vs b)) t
    (value_at_zero op t (value_at vs a))
    (value_in_range op t (converted t (value_at vs a))
    (cond (shifts op) (value_at vs b) (converted t (value_at vs b))))
    (zero-value op t (value_at vs a)))
entry-in z vs ls (Convert t a) k h = one-value (converted t (value_at vs a))
    (in-word t (converted t (value_at vs a)) (converted_in_range t (value_at vs a)))
entry-in z vs ls (Select which a b) k h =
    one-value (cond (is_nonzero (value_at vs which)) (value_at vs a) (value_at vs b))
    (either-value (is_nonzero (value_at vs which)) (value_at vs a) (value_at vs b)
    (at-values (elements_at vs a) 0 (k a)) (at-values (elements_at vs b) 0 (k b)))
entry-in z vs ls (Read array index) k h =
    one-value (element_read (elements_at vs array) (value_at vs index))
    (at-values (elements_at vs array) (index_read (length (elements_at vs array))
    (low_word (value_at vs index) % 256))
    (k array))
entry-in z vs ls (Zeros count) k h = zero-values count
entry-in z vs ls (Fill array words when) k h =
    either-values (is_nonzero (value_at vs when)) (map (value_at vs) words)
    (elements_at vs array) (read-values vs words k) (k array)
entry-in z vs ls (Write array index value when) k h = either-values (is_nonzero (value_at vs when))
    (slice_set (elements_at vs array) (low_word (value_at vs index)) (value_at vs value))
    (elements_at vs array)
    (set-values (elements_at vs array) (low_word (value_at vs index)) (value_at vs value)
    (at-values (elements_at vs value) 0 (k value)) (k array)) (k array)

push-in : (vs : List (List ℤ)) (zs : List ℤ) → AreInRange vs → are_values zs ≡ true →
    AreInRange (vs ++ zs ∷ [])
unfolding AreInRange
push-in [] zs k h zero = h
push-in [] zs k h (suc w) = refl
push-in (ys ∷ vs) zs k h zero = k zero
push-in (ys ∷ vs) zs k h (suc w) = push-in vs zs (λ w. k (suc w)) h w

in-grown : (f : Assignment) (ops : List WordOp) (vs : List (List ℤ)) (ls : List ℕ) → AreInRange vs
    → fit_behind ls ops ≡ true → AreInRange (fold (more_values f) vs ops)
in-grown f [] vs ls k h = k
in-grown f (op ∷ ops) vs ls k h =
    let both = and_parts (fits_behind ls op) (fit_behind (more_lengths ls op) ops) h in
    in-grown f ops (more_values f vs op) (more_lengths ls op)
    (push-in vs (entry_of (f (length vs)) vs op) k (entry-in (f (length vs)) vs ls op k both.0)) both.1

-- each value is in the range of I32 or of U32
pub values-in : (f : Assignment) (ops : List WordOp) (w k : ℕ) → are_words ops ≡ true
    → is_word_value (get_or (elements_at (values_of f ops) w) k (pos 0)) ≡ true
unfolding are_words values_of AreInRange
values-in f ops w k fit = at-values (elements_at (fold (more_values f) [] ops) w) k
    (in-grown f ops [] [] (λ w. refl) fit w)
