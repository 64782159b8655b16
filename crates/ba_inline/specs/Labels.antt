-- The entry of a `switch`.

use Rattle.std.specs.Prelude.{◌≡◌, ℕ, zero, suc, ℤ, pos, Bool, false, not, ◌&&◌, ◌||◌, ◌==◌, nat_le, nat_lt, Option, None, Some, List, [], ◌∷◌, map, length}
use Rattle.std.specs.List.{list_any}
use Rattle.std.specs.Ordering.{int_eq}
use Rattle.ba_code.specs.State.{operand_value}
use Rattle.ba_code.specs.Types.{Types}
use Rattle.ba_code.specs.declared.nodes.Node.{Node}
use Rattle.ba_code.specs.declared.nodes.Operand.{Operand}
use Rattle.ba_inline.specs.Flags.{AreBetween, AreFlags, Computes, IsNone, is_set}
use Rattle.ba_numbers.specs.Numbers.{truth}
use Rattle.ba_tree.specs.Meaning.{label_at}
use Rattle.ba_tree.specs.declared.tree.Start.{Start}

-- for each label, whether it has this value
abbrev pub tests_of : List Start → ℤ → List Bool
tests_of starts z = map (λ (start : Start). int_eq start.value z) starts

-- the label is before the statement of this number, counted from 0, or before an earlier one
abbrev pub is_entered : Option ℕ → ℕ → Bool
is_entered None place = false
is_entered (Some at) place = nat_le at place

-- the same for several statements from an index on
abbrev pub entry_flags : Option ℕ → ℕ → ℕ → List Bool
entry_flags label place zero = []
entry_flags label place (suc count) = is_entered label place ∷ entry_flags label (suc place) count

-- LABELS BEFORE ONE STATEMENT

-- one of the labels there passes its test
abbrev pub some_start : List Start → List Bool → ℕ → Bool
some_start [] bs place = false
some_start (start ∷ starts) [] place = false
some_start (start ∷ starts) (b ∷ bs) place = ((start.at == place) && b) || some_start starts bs place

-- the label, if there is one, is before this statement of the body
abbrev pub stands_at : Option ℕ → ℕ → Bool
stands_at None place = false
stands_at (Some at) place = at == place

-- the flag is set if the first one is, or if a label there passes its test, or if `default` is there and none
-- passes
abbrev pub IsJoined : List Start → Option ℕ → ℕ → List ℤ → ℤ → ℤ → ℤ → Type 0
IsJoined starts other place tests none before flag = AreFlags (before ∷ none ∷ tests) → flag
    ≡ truth ((is_set before || some_start starts (map is_set tests) place) || (stands_at other place &&
    is_set none))

-- WHAT IS KNOWN once the flags of the first statements are made

-- the label is before the statement of this number
abbrev pub is_before : Option ℕ → ℕ → Bool
is_before None place = false
is_before (Some at) place = nat_lt at place

-- none of the tests passes, if there is a `default`
abbrev pub is_default : Option ℕ → List Bool → Bool
is_default None bs = false
is_default (Some at) bs = not (list_any (λ b. b) bs)

-- the flag for it
abbrev pub IsDefault : Option ℕ → List ℤ → ℤ → Type 0
IsDefault None tests flag = flag ≡ pos 0
IsDefault (Some at) tests flag = IsNone tests flag

-- for a value: the tests, whether none passes, the flags of the first statements, and the last of these
pub record AreEntered (starts : List Start) (other : Option ℕ) (z : ℤ) (count : ℕ) (tests : List ℤ) (none : ℤ)
    (flags : List ℤ) (flag : ℤ) : Type 0 where
  pub are_tests : tests ≡ map truth (tests_of starts z)
  pub is_none : none ≡ truth (is_default other (tests_of starts z))
  pub are_flags : flags ≡ map truth (entry_flags (label_at starts z other) 0 count)
  pub is_flag : flag ≡ truth (is_before (label_at starts z other) count)

-- nodes were made that set a flag before each statement: whether the body has been entered there
pub record MakesEntered (starts : List Start) (other : Option ℕ) (a : Operand) (count base : ℕ)
    (tests : List Operand) (none : Operand) (flags : List Operand) (flag : Operand) (low high : Types)
    (old new : List Node) : Type 0 where
  pub between : AreBetween base (length high.vars) (flag ∷ none ∷ tests)
  pub flags_between : AreBetween base (length high.vars) flags
  pub computes : Computes (λ s u. AreEntered starts other (operand_value s a) count
      (map (operand_value u) tests) (operand_value u none) (map (operand_value u) flags) (operand_value u
      flag))
      low high old new
