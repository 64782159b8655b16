-- What holds of a result that is Ok, and what a circuit makes.

use Rattle.std.proofs.Common.{◌≡◌, ℕ, ◌<◌, ◌^◌, Bool, List, length, Some, Result, Ok, Err, IfOk, sym, ap, ◌∙◌}
use Rattle.std.specs.declared.alloc.AllocError.{AllocError}
use Rattle.ba_nodes.specs.declared.Bit.{Bit}
use Rattle.ba_nodes.specs.declared.Node.{Node}
use Rattle.ba_nodes.specs.Gates.{HasValue, Grows, MakesBit}
use Rattle.ba_words.specs.Words.{number_of, HasNumber, word_type, MakesWord, Computes, IsCircuit}
use Rattle.ba_numbers.specs.declared.numbers.BinOp.{BinOp}
use Rattle.ba_numbers.specs.Numbers.{value_of}
use Rattle.ba_words.proofs.Circuits.{number_small}
use Rattle.ba_words.proofs.Values.{read}

pub on_ok : {A : Type 0} (result : Result A AllocError) (P Q : A → Type 0) → ((x : A) → P x → Q x) → IfOk result P → IfOk result Q
on_ok (Ok x) P Q step holds = step x holds
on_ok (Err error) P Q step holds = tt

-- a word is made: how the nodes grow, and its number
pub makes_word : {old new : List Node} {result : Result (List Bit) AllocError} {gates : ℕ} {meaning : (ℕ → Bool) → ℕ} → Grows old new gates → IfOk result (λ word. HasNumber new word meaning) → MakesWord old new result gates meaning
makes_word grows number = record { number = number; grows = grows }

-- a circuit of an operator: its number, if that is the operator's value however the words are read
pub circuit : {gates : ℕ} {meaning : ℕ → ℕ → ℕ} (op : BinOp) (old new : List Node) (a b : List Bit) (result : Result (List Bit) AllocError) → ((signed : Bool) (m n : ℕ) → m < 2 ^ 32 → n < 2 ^ 32 → value_of op (word_type signed) (read signed m) (read signed n) ≡ Some (read signed (meaning m n)))
    → length a ≡ 32 → length b ≡ 32 → Computes old a b new result gates meaning → IsCircuit op old a b new result gates meaning
circuit op old new a b result law a_long b_long computes = record {
  computes = computes;
  value = on_ok result _ _
      (λ word has signed free. law signed (number_of free old a) (number_of free old b) (number_small free old a a_long) (number_small free old b b_long) ∙ ap (λ n. Some (read signed n)) (sym (has.holds free)))
      computes.number;
}

-- a bit is made
pub makes_bit : {old new : List Node} {result : Result Bit AllocError} {gates : ℕ} {meaning : (ℕ → Bool) → Bool} → Grows old new gates → IfOk result (λ bit. HasValue new bit meaning) → MakesBit old new result gates meaning
makes_bit grows value = record { value = value; grows = grows }
