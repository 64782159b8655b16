-- The value of an operator that has one at some words alone, by the number of a circuit.

use Rattle.std.proofs.Common.{◌≡◌, ℕ, ◌^◌, ◌<◌, Bool, ℤ, List, length, Result, Some, IfOk, ap, ◌∙◌}
use Rattle.std.specs.declared.alloc.AllocError.{AllocError}
use Rattle.ba_nodes.specs.declared.Bit.{Bit}
use Rattle.ba_nodes.specs.declared.Node.{Node}
use Rattle.ba_numbers.specs.declared.numbers.BinOp.{BinOp}
use Rattle.ba_numbers.specs.Numbers.{value_of}
use Rattle.ba_words.specs.Words.{number_of, word_type, Computes}
use Rattle.ba_words.proofs.Outcomes.{on_ok}
use Rattle.ba_words.proofs.Circuits.{number_small}
use Rattle.ba_words.proofs.Values.{read}
use Rattle.ba_muldiv.specs.Division.{IsValueWhereDefined}

pub where_defined : {gates : ℕ} (op : BinOp) (meaning : ℕ → ℕ → ℕ) (signed : Bool) (old new : List Node)
    (a b : List Bit) (result : Result (List Bit) AllocError) → ((m n : ℕ) → m < 2 ^ 32 → n < 2 ^ 32 →
    (value : ℤ) → value_of op (word_type signed) (read signed m) (read signed n) ≡ Some value →
    read signed (meaning m n) ≡ value) → length a ≡ 32 → length b ≡ 32 →
    Computes old a b new result gates meaning → IfOk result (IsValueWhereDefined op signed old a b new)
where_defined op meaning signed old new a b result law a_long b_long computes =
    on_ok result _ _ (λ word has free value found.
    ap (read signed) (has.holds free)
    ∙ law (number_of free old a) (number_of free old b) (number_small free old a a_long)
    (number_small free old b b_long) value found) computes.number
