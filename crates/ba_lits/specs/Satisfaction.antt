-- Satisfaction of clauses by an assignment, and its cost.

use Rattle.std.specs.Prelude.{◌≡◌, ℕ, ◌+◌, ◌-◌, ◌<◌, eqb, Bool, true, false, not, ◌&&◌, ◌||◌, List, [], ◌∷◌, get_or, if◌then◌else◌}
use Rattle.ba_lits.specs.Literals.{Literal}

-- an assignment gives each variable a value
abbrev pub Assignment : Type 0
Assignment = ℕ → Bool

-- the value of a literal whose variable has this value
abbrev pub signed : Bool → Bool → Bool
signed true b = not b
signed false b = b

-- the literal is true
abbrev pub lit_true : Assignment → Literal → Bool
lit_true v l = signed l.negated (v l.variable)

-- the clause is satisfied: one of its literals is true
abbrev pub any_true : Assignment → List Literal → Bool
any_true v [] = false
any_true v (l ∷ ls) = lit_true v l || any_true v ls

-- each of the clauses is satisfied
abbrev pub all_true : Assignment → List (List Literal) → Bool
all_true v [] = true
all_true v (c ∷ cs) = any_true v c && all_true v cs

-- a soft literal with its weight
abbrev pub Soft : Type 0
Soft = Literal × ℕ

-- the sum of the weights of the false soft literals
abbrev pub cost : Assignment → List Soft → ℕ
cost v [] = 0
cost v (s ∷ ss) = (if lit_true v s.0 then 0 else s.1) + cost v ss

-- two assignments give the variables below n the same values
abbrev pub Agree : ℕ → Assignment → Assignment → Type 0
Agree n v w = (u : ℕ) → u < n → v u ≡ w u

-- the assignment with another value at one variable
abbrev pub put : Assignment → ℕ → Bool → Assignment
put v x b u = if eqb u x then b else v u

-- the assignment of a list that has variable x at index x - 1
abbrev pub assignment_of : List Bool → Assignment
assignment_of values x = get_or values (x - 1) false

-- 1 if a test holds, and 0 elsewhere
abbrev pub one_if : Bool → ℕ
one_if b = if b then 1 else 0
