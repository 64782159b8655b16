-- Whether a word is less than another.

use Rattle.std.proofs.Common.{◌≡◌, ◌+◌, ◌*◌, ◌^◌, true, false, not, ◌&&◌, ◌||◌, nat_lt, List, length, sym, ap, ◌∙◌, arith}
use Rattle.ba_nodes.specs.declared.Bit.{Bit}
use Rattle.ba_nodes.specs.declared.Node.{Node}
use Rattle.ba_nodes.specs.Gates.{truth, Extends, HasValue}
use Rattle.ba_numbers.specs.declared.numbers.BinOp.TheVariants.{Lt}
use Rattle.ba_words.specs.Words.{digit, number_of, low_number, bit_at, AreBitsOf, IsComparison}
use Rattle.ba_words.proofs.Places.{low_number-all}
use Rattle.ba_words.proofs.Circuits.{compared-more, compared-all, less_step, argument-more, number_small, low_number_below}
use Rattle.ba_words.proofs.Values.{less_value, less_unsigned, less_signed}

pub unsigned_below : (initial nodes new : List Node) (a b : List Bit) (low bit : Bit)
    → length a ≡ 32 → length b ≡ 32 → AreBitsOf initial a → AreBitsOf initial b → Extends initial nodes
    → HasValue nodes low (λ free. nat_lt (low_number free initial a 31) (low_number free initial b 31))
    → HasValue new bit (λ free. (not (truth free nodes (bit_at a 31)) && truth free nodes (bit_at b 31)) || (not (truth free nodes (bit_at a 31) && not (truth free nodes (bit_at b 31))) && truth free nodes low))
    → HasValue new bit (λ free. nat_lt (number_of free initial a) (number_of free initial b))
unsigned_below initial nodes new a b low bit a_long b_long a_bits b_bits first before has =
    let more = compared-more (λ t x y. (not x && y) || (not (x && not y) && t)) (λ m n. nat_lt m n) less_step initial nodes new a b 31 low bit
    (omega arith) a_long b_long a_bits b_bits first before has in
    compared-all (λ t x y. (not x && y) || (not (x && not y) && t)) (λ m n. nat_lt m n) less_step initial new a b 32 bit (omega arith) a_long b_long more

pub unsigned_less : (initial new : List Node) (a b : List Bit) (bit : Bit)
    → length a ≡ 32 → length b ≡ 32
    → HasValue new bit (λ free. nat_lt (number_of free initial a) (number_of free initial b))
    → IsComparison Lt false initial a b new bit
unsigned_less initial new a b bit a_long b_long has free =
    less_value false (number_of free initial a) (number_of free initial b) (truth free new bit)
    (has.holds free ∙ sym (less_unsigned (number_of free initial a) (number_of free initial b) (number_small free initial a a_long) (number_small free initial b b_long)))

pub signed_less : (initial nodes new : List Node) (a b : List Bit) (low bit : Bit)
    → length a ≡ 32 → length b ≡ 32 → AreBitsOf initial a → AreBitsOf initial b → Extends initial nodes
    → HasValue nodes low (λ free. nat_lt (low_number free initial a 31) (low_number free initial b 31))
    → HasValue new bit (λ free. (not (truth free nodes (bit_at b 31)) && truth free nodes (bit_at a 31)) || (not (truth free nodes (bit_at b 31) && not (truth free nodes (bit_at a 31))) && truth free nodes low))
    → IsComparison Lt true initial a b new bit
signed_less initial nodes new a b low bit a_long b_long a_bits b_bits first before has free =
    let a_now : number_of free initial a ≡ low_number free initial a 31 + 2 ^ 31 * digit (truth free nodes (bit_at a 31)) =
    sym (low_number-all free initial a 32 (omega (arith, a_long))) ∙ argument-more free initial nodes a 31 (omega (arith, a_long)) a_bits first in
    let b_now : number_of free initial b ≡ low_number free initial b 31 + 2 ^ 31 * digit (truth free nodes (bit_at b 31)) =
    sym (low_number-all free initial b 32 (omega (arith, b_long))) ∙ argument-more free initial nodes b 31 (omega (arith, b_long)) b_bits first in
    less_value true (number_of free initial a) (number_of free initial b) (truth free new bit)
    (has.holds free
    ∙ ap (λ t. (not (truth free nodes (bit_at b 31)) && truth free nodes (bit_at a 31)) || (not (truth free nodes (bit_at b 31) && not (truth free nodes (bit_at a 31))) && t)) (before.holds free)
    ∙ sym (less_signed (number_of free initial a) (number_of free initial b) (low_number free initial a 31) (low_number free initial b 31) (truth free nodes (bit_at a 31)) (truth free nodes (bit_at b 31))
    (low_number_below free initial a 31 (omega (arith, a_long))) (low_number_below free initial b 31 (omega (arith, b_long))) a_now b_now))
