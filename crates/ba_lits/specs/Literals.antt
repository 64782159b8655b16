-- Literals and clauses of propositional logic.

use Rattle.std.specs.Prelude.{◌≡◌, ℕ, ◌+◌, ◌*◌, ◌/◌, ◌%◌, ◌<◌, ◌≤◌, Bool, true, false, not, eqb, List, length, get_or, if◌then◌else◌}
use Prim.Native.Nat.{suc, zero}
use native.Mathlib.Nat.{not-suc-le-zero, le_of_suc-le-suc, mod-lt, zero-lt-suc, div-add-mod}

-- a variable or its negation
pub record Literal : Type 0 where
  pub variable : ℕ
  pub negated : Bool

-- the two literals of a variable
abbrev pub positive : ℕ → Literal
positive variable = record { variable = variable; negated = false }

-- the negated literal of a variable
abbrev pub negative : ℕ → Literal
negative variable = record { variable = variable; negated = true }

-- the literal of the other sign
abbrev pub negate : Literal → Literal
negate l = record { variable = l.variable; negated = not l.negated }

-- the index of a literal in a vector with two entries a variable, the positive literal first
abbrev pub index_of : Literal → ℕ
index_of l = 2 * l.variable + (if l.negated then 1 else 0)

-- the literal of an index
abbrev pub literal_at : ℕ → Literal
literal_at n = record { variable = n / 2; negated = eqb (n % 2) 1 }

-- the value read past the end of a clause; no clause holds it, since variables are counted from 1
abbrev pub no_literal : Literal
no_literal = record { variable = 0; negated = false }

-- the literal at an index of a clause
abbrev pub lit_at : List Literal → ℕ → Literal
lit_at lits k = get_or lits k no_literal

-- a clause over this many variables: its literals have strictly ascending variables from 1 on
pub record IsClause (variables : ℕ) (lits : List Literal) : Type 0 where
  pub ascends : (j k : ℕ) → j < k → k < length lits → (lit_at lits j).variable < (lit_at lits k).variable
  pub counted : (k : ℕ) → k < length lits → 1 ≤ (lit_at lits k).variable
  pub within : (k : ℕ) → k < length lits → (lit_at lits k).variable ≤ variables

-- a remainder by 2 is 0 or 1
parity : (r q n : ℕ) → r < 2 → 2 * q + r ≡ n → 2 * q + (if eqb r 1 then 1 else 0) ≡ n
parity zero q n h e = e
parity (suc zero) q n h e = e
parity (suc (suc r)) q n h e = absurd (not-suc-le-zero (le_of_suc-le-suc (le_of_suc-le-suc h)))

-- each number is the index of its literal
pub index_of-literal_at : (n : ℕ) → index_of (literal_at n) ≡ n
index_of-literal_at n = parity (n % 2) (n / 2) n (mod-lt n (zero-lt-suc 1)) (div-add-mod n 2)
