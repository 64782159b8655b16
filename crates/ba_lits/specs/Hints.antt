-- Consequence by unit propagation along a list of clause numbers (hints).

use Rattle.std.specs.Prelude.{◌≡◌, ℕ, Bool, true, false, ◌||◌, eqb, Option, None, Some, List, [], ◌∷◌, ◌++◌, if◌then◌else◌}
use Rattle.ba_lits.specs.Literals.{Literal, negate, index_of}

-- the literal is in the list
abbrev pub has_literal : Literal → List Literal → Bool
has_literal l [] = false
has_literal l (x ∷ xs) = eqb (index_of x) (index_of l) || has_literal l xs

-- the value of a literal if the literals of a list are false; None if it has none
abbrev pub value_where : List Literal → Literal → Option Bool
value_where falses l =
    if has_literal l falses then Some false else if has_literal (negate l) falses then Some true else None

-- the status of a clause if some literals are false: false; unit, with the literal that has no value; or
-- neither
pub data Standing : Type 0 where
  IsFalse : Standing
  IsUnit : Literal → Standing
  IsOpen : Standing

-- the status of a clause with one more literal, by that literal's value
abbrev pub with_literal : Literal → Option Bool → Standing → Standing
with_literal l (Some false) rest = rest
with_literal l (Some true) rest = IsOpen
with_literal l None IsFalse = IsUnit l
with_literal l None (IsUnit m) = IsOpen
with_literal l None IsOpen = IsOpen

-- the status of a clause, where these literals are false
abbrev pub standing : List Literal → List Literal → Standing
standing falses [] = IsFalse
standing falses (l ∷ ls) = with_literal l (value_where falses l) (standing falses ls)

-- How propagation along hints ends. The last clause named is false, so the literals cannot all be false. Or
-- no clause was false. Or a hint is bad: no clause has its number, or its clause is neither unit nor, as the
-- last, false.
pub data Replay : Type 0 where
  Refutes : Replay
  StaysOpen : Replay
  NamesNone : Replay
  NamesIdle : Replay

-- no further hint follows
abbrev pub is_last : List ℕ → Bool
is_last [] = true
is_last (hint ∷ hints) = false

-- what follows a clause of this status
abbrev pub after_clause : Standing → Bool → (Literal → Replay) → Replay
after_clause IsFalse true next = Refutes
after_clause IsFalse false next = NamesIdle
after_clause (IsUnit l) last next = next l
after_clause IsOpen last next = NamesIdle

-- what follows a hint: the clause that it names, or none
abbrev pub after_hint : Option (List Literal) → List Literal → Bool → (Literal → Replay) → Replay
after_hint None falses last next = NamesNone
after_hint (Some c) falses last next = after_clause (standing falses c) last next

-- the clauses named are taken one after the other, and the free literal of each unit clause becomes true
abbrev pub replay : (ℕ → Option (List Literal)) → List Literal → List ℕ → Replay
replay live falses [] = StaysOpen
replay live falses (hint ∷ hints) =
    after_hint (live hint) falses (is_last hints) (λ l. replay live (falses ++ negate l ∷ []) hints)

-- A clause follows by hints from the live clauses, which are a function from numbers to clauses. All its
-- literals are assumed false. Then each clause named is unit, but the last, which is false. Sources: E.
-- Goldberg, Y. Novikov, Verification of Proofs of Unsatisfiability for CNF Formulas. On hints: L.
-- Cruz-Filipe, M. Heule, W. Hunt, M. Kaufmann, P. Schneider-Kamp, Efficient Certified RAT Verification.
abbrev pub FollowsByHints : (ℕ → Option (List Literal)) → List Literal → List ℕ → Type 0
FollowsByHints live clause hints = replay live clause hints ≡ Refutes
