-- Words converted to the types of C.

use Rattle.std.proofs.Common.{◌≡◌, ℕ, ◌+◌, ◌-◌, ◌*◌, ◌%◌, ◌^◌, ◌<◌, ◌≤◌, Bool, true, false, nat_lt, List, length, map, drop, refl, sym, ap, ◌∙◌, arith, if◌then◌else◌, ℤ, pos, negsuc, neg_ℤ, ◌+ℤ◌, ◌-ℤ◌, ◌*ℤ◌}
use Rattle.std.specs.Int.{int_rem_euclid}
use Rattle.std.proofs.lemmas.Int.{ints}
use Rattle.std.proofs.lemmas.Bool.Decides.{nat_tests}
use Rattle.ba_numbers.specs.declared.numbers.CType.{CType}
use Rattle.ba_numbers.specs.declared.numbers.CType.TheVariants.{I8, U8, I16, U16, I32, U32}
use Rattle.ba_numbers.specs.Numbers.{IsIn, IsCongruent, converted, width_of, low_word}
use Rattle.ba_numbers.proofs.Conversions.{converted_in_range, converted_congruent, converted_only, rem_congruent}
use Rattle.ba_nodes.specs.declared.Bit.{Bit}
use Rattle.ba_nodes.specs.declared.Node.{Node}
use Rattle.ba_nodes.specs.Gates.{truth}
use Rattle.ba_words.specs.Words.{digit, spelled, number_of, low_number, bit_at, word_type}
use Rattle.ba_words.proofs.Places.{low_number-more}
use Rattle.ba_words.proofs.Circuits.{low_number_below}
use Rattle.ba_words.proofs.Shapes.{filled-number, low_number-same, number-split}
use Rattle.ba_words.proofs.Values.{read, read_congruent, read-same, back}

-- ---- the 32 low bits of a conversion

pub narrow_I8 : (r m l h : ℕ) (v : Bool) → l < 2 ^ 7 → m ≡ l + 2 ^ 7 * digit v + 2 ^ 8 * h → r + digit v * 2 ^ 8 ≡ l + 2 ^ 7 * digit v + digit v * 2 ^ 32 → r ≡ low_word (converted I8 (pos m))
narrow_I8 r m l h false small m_is r_is =
    let own : IsIn I8 (pos l) = record { low = omega (arith, ints); high = omega (arith, ints) } in
    let value : converted I8 (pos m) ≡ pos l = sym (converted_only I8 (pos l) (pos m) own record { turns = neg_ℤ (pos h); apart = omega (arith, ints) }) in
    let word : r ≡ l % 0x100000000 = omega arith in
    word ∙ sym (ap low_word value)
narrow_I8 r m l h true small m_is r_is =
    let own : IsIn I8 (negsuc (127 - l)) = record { low = omega (arith, ints); high = omega (arith, ints) } in
    let value : converted I8 (pos m) ≡ negsuc (127 - l) = sym (converted_only I8 (negsuc (127 - l)) (pos m) own record { turns = neg_ℤ (pos h) -ℤ pos 1; apart = omega (arith, ints) }) in
    let word : r ≡ 0x100000000 - 1 - (127 - l) % 0x100000000 = omega arith in
    word ∙ sym (ap low_word value)

pub narrow_U8 : (r m l h : ℕ) → l < 2 ^ 8 → m ≡ l + 2 ^ 8 * h → r ≡ l → r ≡ low_word (converted U8 (pos m))
narrow_U8 r m l h small m_is r_is =
    let own : IsIn U8 (pos l) = record { low = omega (arith, ints); high = omega (arith, ints) } in
    let value : converted U8 (pos m) ≡ pos l = sym (converted_only U8 (pos l) (pos m) own record { turns = neg_ℤ (pos h); apart = omega (arith, ints) }) in
    let word : r ≡ l % 0x100000000 = omega arith in
    word ∙ sym (ap low_word value)

pub narrow_I16 : (r m l h : ℕ) (v : Bool) → l < 2 ^ 15 → m ≡ l + 2 ^ 15 * digit v + 2 ^ 16 * h → r + digit v * 2 ^ 16 ≡ l + 2 ^ 15 * digit v + digit v * 2 ^ 32 → r ≡ low_word (converted I16 (pos m))
narrow_I16 r m l h false small m_is r_is =
    let own : IsIn I16 (pos l) = record { low = omega (arith, ints); high = omega (arith, ints) } in
    let value : converted I16 (pos m) ≡ pos l = sym (converted_only I16 (pos l) (pos m) own record { turns = neg_ℤ (pos h); apart = omega (arith, ints) }) in
    let word : r ≡ l % 0x100000000 = omega arith in
    word ∙ sym (ap low_word value)
narrow_I16 r m l h true small m_is r_is =
    let own : IsIn I16 (negsuc (32767 - l)) = record { low = omega (arith, ints); high = omega (arith, ints) } in
    let value : converted I16 (pos m) ≡ negsuc (32767 - l) = sym (converted_only I16 (negsuc (32767 - l)) (pos m) own record { turns = neg_ℤ (pos h) -ℤ pos 1; apart = omega (arith, ints) }) in
    let word : r ≡ 0x100000000 - 1 - (32767 - l) % 0x100000000 = omega arith in
    word ∙ sym (ap low_word value)

pub narrow_U16 : (r m l h : ℕ) → l < 2 ^ 16 → m ≡ l + 2 ^ 16 * h → r ≡ l → r ≡ low_word (converted U16 (pos m))
narrow_U16 r m l h small m_is r_is =
    let own : IsIn U16 (pos l) = record { low = omega (arith, ints); high = omega (arith, ints) } in
    let value : converted U16 (pos m) ≡ pos l = sym (converted_only U16 (pos l) (pos m) own record { turns = neg_ℤ (pos h); apart = omega (arith, ints) }) in
    let word : r ≡ l % 0x100000000 = omega arith in
    word ∙ sym (ap low_word value)

-- ---- words whose places are filled up

pub extended_number : (free : ℕ → Bool) (nodes : List Node) (wide word : List Bit) (n : ℕ) (fill : Bit) (v : Bool) → n ≤ 32 → length wide ≡ 32 → length word ≡ 32 → truth free nodes fill ≡ v
    → ((place : ℕ) → place < 32 → bit_at wide place ≡ (if nat_lt place n then bit_at word place else fill))
    → number_of free nodes wide + digit v * 2 ^ n ≡ low_number free nodes word n + digit v * 2 ^ 32
extended_number free nodes wide word n fill v few long word_long is places =
    let below : (place : ℕ) → place < n → truth free nodes (bit_at wide place) ≡ truth free nodes (bit_at word place) =
    λ place within.
    let tests : nat_lt place n ≡ true = grind (arith, nat_tests) in
    ap (truth free nodes) (places place (omega arith) ∙ ap (λ t. if t then bit_at word place else fill) tests) in
    let above : (place : ℕ) → n ≤ place → place < 32 → truth free nodes (bit_at wide place) ≡ v =
    λ place from within.
    let tests : nat_lt place n ≡ false = grind (arith, nat_tests) in
    ap (truth free nodes) (places place within ∙ ap (λ t. if t then bit_at word place else fill) tests) ∙ is in
    filled-number free nodes wide n v long few above
    ∙ ap (λ x. x + digit v * 2 ^ 32) (low_number-same free nodes nodes wide word n (omega (arith, long)) (omega (arith, word_long)) below)

pub signed_8 : (free : ℕ → Bool) (nodes : List Node) (wide word : List Bit) → length wide ≡ 32 → length word ≡ 32
    → ((place : ℕ) → place < 32 → bit_at wide place ≡ (if nat_lt place 8 then bit_at word place else bit_at word 7))
    → number_of free nodes wide ≡ low_word (converted I8 (pos (number_of free nodes word)))
signed_8 free nodes wide word long word_long places =
    let v = truth free nodes (bit_at word 7) in
    let low : low_number free nodes word 8 ≡ low_number free nodes word 7 + 2 ^ 7 * digit v = low_number-more free nodes word 7 (omega (arith, word_long)) in
    narrow_I8 (number_of free nodes wide) (number_of free nodes word) (low_number free nodes word 7) (spelled (drop 8 (map (truth free nodes) word))) v
    (low_number_below free nodes word 7 (omega (arith, word_long)))
    (number-split free nodes word 8 (omega (arith, word_long)) ∙ ap (λ n. n + 2 ^ 8 * spelled (drop 8 (map (truth free nodes) word))) low)
    (extended_number free nodes wide word 8 (bit_at word 7) v (omega arith) long word_long refl places ∙ ap (λ n. n + digit v * 2 ^ 32) low)

pub signed_16 : (free : ℕ → Bool) (nodes : List Node) (wide word : List Bit) → length wide ≡ 32 → length word ≡ 32
    → ((place : ℕ) → place < 32 → bit_at wide place ≡ (if nat_lt place 16 then bit_at word place else bit_at word 15))
    → number_of free nodes wide ≡ low_word (converted I16 (pos (number_of free nodes word)))
signed_16 free nodes wide word long word_long places =
    let v = truth free nodes (bit_at word 15) in
    let low : low_number free nodes word 16 ≡ low_number free nodes word 15 + 2 ^ 15 * digit v = low_number-more free nodes word 15 (omega (arith, word_long)) in
    narrow_I16 (number_of free nodes wide) (number_of free nodes word) (low_number free nodes word 15) (spelled (drop 16 (map (truth free nodes) word))) v
    (low_number_below free nodes word 15 (omega (arith, word_long)))
    (number-split free nodes word 16 (omega (arith, word_long)) ∙ ap (λ n. n + 2 ^ 16 * spelled (drop 16 (map (truth free nodes) word))) low)
    (extended_number free nodes wide word 16 (bit_at word 15) v (omega arith) long word_long refl places ∙ ap (λ n. n + digit v * 2 ^ 32) low)

unfilled : (r l p : ℕ) → r + 0 * p ≡ l + 0 * 2 ^ 32 → r ≡ l
unfilled r l p e = omega arith

pub unsigned_8 : (free : ℕ → Bool) (nodes : List Node) (wide word : List Bit) (fill : Bit) → truth free nodes fill ≡ false → length wide ≡ 32 → length word ≡ 32
    → ((place : ℕ) → place < 32 → bit_at wide place ≡ (if nat_lt place 8 then bit_at word place else fill))
    → number_of free nodes wide ≡ low_word (converted U8 (pos (number_of free nodes word)))
unsigned_8 free nodes wide word fill none long word_long places =
    narrow_U8 (number_of free nodes wide) (number_of free nodes word) (low_number free nodes word 8) (spelled (drop 8 (map (truth free nodes) word)))
    (low_number_below free nodes word 8 (omega (arith, word_long))) (number-split free nodes word 8 (omega (arith, word_long)))
    (unfilled (number_of free nodes wide) (low_number free nodes word 8) (2 ^ 8) (extended_number free nodes wide word 8 fill false (omega arith) long word_long none places))

pub unsigned_16 : (free : ℕ → Bool) (nodes : List Node) (wide word : List Bit) (fill : Bit) → truth free nodes fill ≡ false → length wide ≡ 32 → length word ≡ 32
    → ((place : ℕ) → place < 32 → bit_at wide place ≡ (if nat_lt place 16 then bit_at word place else fill))
    → number_of free nodes wide ≡ low_word (converted U16 (pos (number_of free nodes word)))
unsigned_16 free nodes wide word fill none long word_long places =
    narrow_U16 (number_of free nodes wide) (number_of free nodes word) (low_number free nodes word 16) (spelled (drop 16 (map (truth free nodes) word)))
    (low_number_below free nodes word 16 (omega (arith, word_long))) (number-split free nodes word 16 (omega (arith, word_long)))
    (unfilled (number_of free nodes wide) (low_number free nodes word 16) (2 ^ 16) (extended_number free nodes wide word 16 fill false (omega arith) long word_long none places))

-- ---- the value of a converted word

narrower_8 : (x y : ℤ) (m : ℕ) (j k : ℤ) → y ≡ x +ℤ j *ℤ pos 0x100 → x ≡ pos m +ℤ k *ℤ pos 0x100000000 → y ≡ pos m +ℤ (j +ℤ k *ℤ pos 0x1000000) *ℤ pos 0x100
narrower_8 x y m j k e f = omega (arith, ints)

narrower_16 : (x y : ℤ) (m : ℕ) (j k : ℤ) → y ≡ x +ℤ j *ℤ pos 0x10000 → x ≡ pos m +ℤ k *ℤ pos 0x100000000 → y ≡ pos m +ℤ (j +ℤ k *ℤ pos 0x10000) *ℤ pos 0x10000
narrower_16 x y m j k e f = omega (arith, ints)

narrower_32 : (x y : ℤ) (m : ℕ) (j k : ℤ) → y ≡ x +ℤ j *ℤ pos 0x100000000 → x ≡ pos m +ℤ k *ℤ pos 0x100000000 → y ≡ pos m +ℤ (j +ℤ k) *ℤ pos 0x100000000
narrower_32 x y m j k e f = omega (arith, ints)

-- a conversion does not depend on how the word was read
read_away : (t : CType) (source : Bool) (m : ℕ) → converted t (read source m) ≡ converted t (pos m)
read_away t source m = converted_only t (converted t (read source m)) (pos m) (converted_in_range t (read source m)) (congruent t (converted_congruent t (read source m)) (read_congruent source m))
  where
    congruent : (t : CType) → IsCongruent (2 ^ width_of t) (converted t (read source m)) (read source m) → IsCongruent 0x100000000 (read source m) (pos m) → IsCongruent (2 ^ width_of t) (converted t (read source m)) (pos m)
    congruent I8 first second = record { turns = first.turns +ℤ second.turns *ℤ pos 0x1000000; apart = narrower_8 (read source m) (converted I8 (read source m)) m first.turns second.turns first.apart second.apart }
    congruent U8 first second = record { turns = first.turns +ℤ second.turns *ℤ pos 0x1000000; apart = narrower_8 (read source m) (converted U8 (read source m)) m first.turns second.turns first.apart second.apart }
    congruent I16 first second = record { turns = first.turns +ℤ second.turns *ℤ pos 0x10000; apart = narrower_16 (read source m) (converted I16 (read source m)) m first.turns second.turns first.apart second.apart }
    congruent U16 first second = record { turns = first.turns +ℤ second.turns *ℤ pos 0x10000; apart = narrower_16 (read source m) (converted U16 (read source m)) m first.turns second.turns first.apart second.apart }
    congruent I32 first second = record { turns = first.turns +ℤ second.turns; apart = narrower_32 (read source m) (converted I32 (read source m)) m first.turns second.turns first.apart second.apart }
    congruent U32 first second = record { turns = first.turns +ℤ second.turns; apart = narrower_32 (read source m) (converted U32 (read source m)) m first.turns second.turns first.apart second.apart }

low_word-rem : (z : ℤ) → pos (low_word z) ≡ int_rem_euclid z (pos 0x100000000)
low_word-rem (pos n) = refl
low_word-rem (negsuc n) = refl

-- a number has the value of its 32 low bits
low_word-converted : (target : Bool) (z : ℤ) → converted (word_type target) z ≡ read target (low_word z)
low_word-converted target z =
    let near = rem_congruent 0x100000000 z (omega arith) in
    read-same target z (pos (low_word z)) record {
      turns = neg_ℤ near.turns;
      apart = back (pos (low_word z)) z near.turns (low_word-rem z ∙ near.apart);
    }

pub converted_value : (t : CType) (source target : Bool) (m r : ℕ) → r ≡ low_word (converted t (pos m)) → converted (word_type target) (converted t (read source m)) ≡ read target r
converted_value t source target m r is =
    ap (converted (word_type target)) (read_away t source m) ∙ low_word-converted target (converted t (pos m)) ∙ ap (read target) (sym is)
