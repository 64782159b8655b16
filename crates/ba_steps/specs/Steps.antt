-- Steps that have the form of their text.

use Rattle.std.specs.Prelude.{ℕ, ◌-◌, ◌^◌, ◌<◌, ◌≤◌, ℤ, pos, neg_ℤ, ◌≤ℤ◌, List, [], ◌∷◌, length, All}
use Rattle.ba_choices.specs.declared.Choice.{Choice}
use Rattle.ba_choices.specs.declared.Choice.TheVariants.{Keep, Take}
use Rattle.ba_lits.specs.Literals.{Literal, IsClause}
use Rattle.ba_steps.specs.declared.step.CertStep.{CertStep}
use Rattle.ba_steps.specs.declared.step.CertStep.TheVariants.{Learn, Core, Delete, Block, EndLocated, EndNoRepair, EndTooMany, EndSpent}

-- numbers of clauses
abbrev pub AreNumbers : List ℕ → Type 0
AreNumbers numbers = All (λ n. (1 ≤ n) × (n < 2 ^ 62)) numbers

-- strictly ascending numbers above another
abbrev pub AreAbove : ℕ → List ℕ → Type 0
AreAbove last [] = Unit {0}
AreAbove last (n ∷ ns) = (last < n) × AreAbove n ns

-- at least one literal, with strictly ascending variables from 1 to 2^62 - 1
abbrev pub AreFormedLits : List Literal → Type 0
AreFormedLits lits = IsClause (2 ^ 62 - 1) lits × (0 < length lits)

-- a value with at most 62 bits and a sign
abbrev pub IsValue : ℤ → Type 0
IsValue z = (neg_ℤ (pos (2 ^ 62 - 1)) ≤ℤ z) × (z ≤ℤ pos (2 ^ 62 - 1))

-- each value of a choice is at most 2^62 - 1 in magnitude
abbrev pub IsFormedChoice : Choice → Type 0
IsFormedChoice Keep = Unit {0}
IsFormedChoice (Take values) = All IsValue values

-- a step has the form that its type keeps: numbers from 1 on, lists that ascend
abbrev pub IsFormed : CertStep → Type 0
IsFormed (Learn lits hints) = AreFormedLits lits × AreNumbers hints
IsFormed (Core lits hints) = AreFormedLits lits × AreNumbers hints
IsFormed (Delete clauses) = AreNumbers clauses × AreAbove 0 clauses × (0 < length clauses)
IsFormed (Block groups run) = AreAbove 0 groups × (0 < length groups) × All IsFormedChoice run
IsFormed (EndLocated lits hints) = IsClause (2 ^ 62 - 1) lits × AreNumbers hints
IsFormed (EndNoRepair hints) = AreNumbers hints
IsFormed EndTooMany = Unit {0}
IsFormed EndSpent = Unit {0}
