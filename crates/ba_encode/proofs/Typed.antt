-- The values of a word whose type is shown are those of this type.
use Rattle.std.proofs.Common.{◌≡◌, ℕ, zero, suc, ◌<◌, ◌≤ℤ◌, ℤ, pos, negsuc, neg_ℤ, Bool, true, false, ◌&&◌, cond, Option, Some, None, List, [], ◌∷◌, length, get_or, take, slice_get, sym, ◌∙◌, ap, subst, arith}
use Rattle.std.proofs.lemmas.Bool.{and_parts, le-ltb}
use Rattle.std.proofs.lemmas.Int.{ints}
use Rattle.std.proofs.lemmas.Option.{slice_get-get_or}
use Rattle.std.specs.Prelude.{IfSome, int_lt}
use Rattle.ba_bits.proofs.Low.{converted-word}
use Rattle.ba_bits.proofs.Spelled.{IsWordValue, word-value}
use Rattle.ba_code.specs.Operators.{converting}
use Rattle.ba_encode.specs.Parts.{is_signed, is_signed_type}
use Rattle.ba_numbers.proofs.Conversions.{converted_in_range, converted_own, value_in_range, value_of_one_in_range}
use Rattle.ba_numbers.specs.Numbers.{IsIn, converted, low_word, truth}
use Rattle.ba_numbers.specs.declared.numbers.BinOp.{BinOp}
use Rattle.ba_numbers.specs.declared.numbers.BinOp.TheVariants.{Rem}
use Rattle.ba_numbers.specs.declared.numbers.CType.{CType}
use Rattle.ba_numbers.specs.declared.numbers.CType.TheVariants.{I8, U8, I16, U16, I32, U32}
use Rattle.ba_numbers.specs.Types.{is_promoted, shifts}
use Rattle.ba_words.specs.Words.{word_type}
use Rattle.ba_wordlist.proofs.Values.{elements-entry}
use Rattle.ba_wordlist.specs.Facts.{are_words, fit_behind, fits_behind, is_name, more_lengths, shows_type}
use Rattle.ba_wordlist.specs.Meaning.{Assignment, binary_value, entry_of, is_nonzero, value_at, value_at_zero, value_or, values_of}
use Rattle.ba_wordlist.specs.declared.words.WordOp.{WordOp}
use Rattle.ba_wordlist.specs.declared.words.WordOp.TheVariants.{Const, Free, Flag, Unary, Binary, Convert, Select, Read, Zeros, Fill, Write}

-- the type of the numbers of an entry
abbrev type_of : WordOp → CType
type_of op = word_type (is_signed op)

positive-typed : (n : ℕ) → pos n ≤ℤ pos 0xffffffff → IsIn U32 (pos n)
positive-typed n high = record { low = omega (arith, ints); high = high }

negative-typed : (n : ℕ) → neg_ℤ (pos 0x80000000) ≤ℤ negsuc n → IsIn I32 (negsuc n)
negative-typed n low = record { low = low; high = omega (arith, ints) }

constant-typed : (z : ℤ) → IsWordValue z → IsIn (word_type (int_lt z (pos 0))) z
constant-typed (pos n) value =
    subst (λ b. IsIn (word_type b) (pos n)) (sym (le-ltb n 0 (omega arith))) (positive-typed n value.high)
constant-typed (negsuc n) value = negative-typed n value.low

truth-typed : (b : Bool) → IsIn I32 (truth b)
truth-typed true = record { low = omega (arith, ints); high = omega (arith, ints) }
truth-typed false = record { low = omega (arith, ints); high = omega (arith, ints) }

promoted-typed : (t : CType) (z : ℤ) → is_promoted t ≡ true → IsIn t z → IsIn (word_type (is_signed_type t)) z
promoted-typed I8 z h i = absurd (cc)
promoted-typed U8 z h i = absurd (cc)
promoted-typed I16 z h i = absurd (cc)
promoted-typed U16 z h i = absurd (cc)
promoted-typed I32 z h i = i
promoted-typed U32 z h i = i

narrow-typed : (z : ℤ) → neg_ℤ (pos 0x8000) ≤ℤ z → z ≤ℤ pos 0xffff → IsIn I32 z
narrow-typed z low high = record { low = omega (arith, ints); high = omega (arith, ints) }

conversion-typed : (t : CType) (z : ℤ) → IsIn t z → IsIn (word_type (is_signed_type t)) z
conversion-typed I8 z i = let low = i.low in let high = i.high in narrow-typed z (omega (arith, ints))
    (omega (arith, ints))
conversion-typed U8 z i = let low = i.low in let high = i.high in narrow-typed z (omega (arith, ints))
    (omega (arith, ints))
conversion-typed I16 z i = let low = i.low in let high = i.high in narrow-typed z (omega (arith, ints))
    (omega (arith, ints))
conversion-typed U16 z i = let low = i.low in let high = i.high in narrow-typed z (omega (arith, ints))
    (omega (arith, ints))
conversion-typed I32 z i = i
conversion-typed U32 z i = i

sign-typed : (b : Bool) → IsIn I32 (cond b (pos 1) (negsuc 0))
sign-typed true = record { low = omega (arith, ints); high = omega (arith, ints) }
sign-typed false = record { low = omega (arith, ints); high = omega (arith, ints) }

greatest-typed : IsIn U32 (pos 0xffffffff)
greatest-typed = record { low = omega (arith, ints); high = omega (arith, ints) }

at-zero-typed : (op : BinOp) (t : CType) (a : ℤ) → is_promoted t ≡ true → IsIn t (value_at_zero op t a)
at-zero-typed Rem t a h = converted_in_range t a
at-zero-typed _ U32 a h = greatest-typed
at-zero-typed _ I32 a h = sign-typed (int_lt (converted I32 a) (pos 0))
at-zero-typed _ _ a h = absurd (cc)

either-typed : (o : Option ℤ) (t : CType) (z : ℤ) → IfSome o (IsIn t) → IsIn t z → IsIn t (value_or o z)
either-typed None t z h i = i
either-typed (Some y) t z h i = h

-- an entry whose type is shown has a value of this type
entry-typed : (x : ℤ) (vs : List (List ℤ)) (ls : List ℕ) (op : WordOp) → fits_behind ls op ≡ true
    → shows_type (Some op) ≡ true → IsIn (type_of op) (get_or (entry_of x vs op) 0 (pos 0))
entry-typed x vs ls (Const z) fits shown = constant-typed z (word-value z fits)
entry-typed x vs ls Free fits shown = converted_in_range I32 x
entry-typed x vs ls Flag fits shown = truth-typed (is_nonzero x)
entry-typed x vs ls (Unary op t a) fits shown =
    let both = and_parts (is_promoted t) (is_name (length ls) a) fits in
    promoted-typed t (converting.unary op t (value_at vs a)) both.0
    (value_of_one_in_range op t (converted t (value_at vs a)))
entry-typed x vs ls (Binary op t a b) fits shown =
    let two = and_parts (is_promoted t && is_name (length ls) a) (is_name (length ls) b) fits in
    let one = and_parts (is_promoted t) (is_name (length ls) a) two.0 in
    promoted-typed t (binary_value op t (value_at vs a) (value_at vs b)) one.0
    (either-typed (converting.binary op t (value_at vs a) (value_at vs b)) t (value_at_zero op t (value_at
    vs a))
    (value_in_range op t (converted t (value_at vs a)) (cond (shifts op) (value_at vs b) (converted t
    (value_at vs b))))
    (at-zero-typed op t (value_at vs a) one.0))
entry-typed x vs ls (Convert t a) fits shown =
    conversion-typed t (converted t (value_at vs a)) (converted_in_range t (value_at vs a))
entry-typed x vs ls (Select which a b) fits shown = absurd (cc)
entry-typed x vs ls (Read array index) fits shown = absurd (cc)
entry-typed x vs ls (Zeros count) fits shown = absurd (cc)
entry-typed x vs ls (Fill array words when) fits shown = absurd (cc)
entry-typed x vs ls (Write array index value when) fits shown = absurd (cc)

-- the entry at a place fits after those before it
FitsThere : List WordOp → ℕ → Type 0
FitsThere ops w = (ls : List ℕ) × (fits_behind ls (get_or ops w Free) ≡ true)

fits-there : (ls : List ℕ) (ops : List WordOp) (w : ℕ) → fit_behind ls ops ≡ true → w < length ops →
    FitsThere ops w
unfolding FitsThere
fits-there ls [] w h below = absurd (omega (arith, below))
fits-there ls (op ∷ ops) zero h below = (
  ls,
  (and_parts (fits_behind ls op) (fit_behind (more_lengths ls
      op) ops) h).0,
)
fits-there ls (op ∷ ops) (suc w) h below =
    fits-there (more_lengths ls op) ops w
    (and_parts (fits_behind ls op) (fit_behind (more_lengths ls op) ops) h).1 (omega (arith, below))

-- the low bits of a value, read in its type, are the value
pub read-typed : (f : Assignment) (ops : List WordOp) (w : ℕ) → are_words ops ≡ true → w < length ops
    → shows_type (slice_get ops w) ≡ true
    → converted (word_type (is_signed (get_or ops w Free))) (pos (low_word (value_at (values_of f ops) w)))
    ≡ value_at (values_of f ops) w
unfolding are_words FitsThere
read-typed f ops w fit below shown =
    let op : WordOp = get_or ops w Free in
    let z : ℤ = value_at (values_of f ops) w in
    let found : slice_get ops w ≡ Some op = slice_get-get_or ops w Free below in
    let fits = fits-there [] ops w fit below in
    let same : get_or (entry_of (f w) (values_of f (take w ops)) op) 0 (pos 0) ≡ z =
    ap (λ zs. get_or zs 0 (pos 0)) (sym (elements-entry f ops w op found)) in
    let own : IsIn (type_of op) z = subst (IsIn (type_of op)) same
    (entry-typed (f w) (values_of f (take w ops)) fits.0 op fits.1 (ap shows_type (sym found) ∙ shown)) in
    converted-word (type_of op) z ∙ converted_own (type_of op) z own
