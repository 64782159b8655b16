-- WHAT A CALL HANDS TO THE SINK of steps in its searches, and the answers of searches.

use Rattle.std.specs.Prelude.{◌≡◌, ℕ, ◌+◌, Bool, true, Option, None, Some, Result, Err, IfOk, List, [], ◌∷◌}
use Rattle.ba_answers.specs.declared.answers.Answer.{Answer}
use Rattle.ba_answers.specs.declared.answers.Answer.TheVariants as answer
use Rattle.ba_commands.specs.Modes.{Word}
use Rattle.ba_derivations.specs.Handing.{Derivation, Hands}
use Rattle.ba_search.specs.declared.search.SearchError.{SearchError}
use Rattle.ba_search.specs.declared.search.SearchError.TheVariants.{SinkFailed}
use Rattle.ba_steps.specs.Sinks.{Outlasts, Told}
use Rattle.ba_tree.specs.declared.tree.Program.{Program}
use Rattle.ba_tree_laws.specs.Spelling.{Spells}
use Rattle.ba_world.specs.World.{Outside, Rose}
use Rattle.ba_cases.specs.AtOnce.{IsAtOnce}

-- THE DERIVATIONS that were handed on, one after the other; the sink tells nothing else new
abbrev pub HandsAll : List Derivation → Told → Told → Type 0
HandsAll [] old new = (new.over ≡ old.over) × (new.logs ≡ old.logs)
HandsAll (d ∷ others) old new = (next : Told) × Hands d old next × HandsAll others next new

-- THE ANSWERS OF A TEXT: one at once, and no derivation was handed on. Or its program has none, and the row
-- of the searches holds.
pub data IsAnswerOf (source : List ℕ) (first : Program → Option Answer)
    (row : Program → List Derivation → Answer → Type 0) (handed : List Derivation) (a : Answer) : Type 0
  where
    at_once : IsAtOnce source first a → handed ≡ [] → IsAnswerOf source first row handed a
    by_search : (p : Program) → Spells source p → first p ≡ None → row p handed a →
        IsAnswerOf source first row handed a

-- the answers of a search
abbrev pub IsOfSearch : Answer → Type 0
IsOfSearch (answer.Located bytes) = Unit {0}
IsOfSearch (answer.Sampled additions weight sets) = Unit {0}
IsOfSearch (answer.Ranked bytes) = Unit {0}
IsOfSearch (answer.Edits bytes) = Unit {0}
IsOfSearch answer.NoRepair = Unit {0}
IsOfSearch (answer.TooManySets weight most line) = Unit {0}
IsOfSearch (answer.BudgetSpent conflicts line) = Unit {0}
IsOfSearch _ = ⊥

-- TWO ANSWERS AGREE if they are one. Or both are of a search, and one says that its conflicts are spent. Or
-- runs are shown, and both report the least sets, maybe with other runs.
pub data Agree (runs : Bool) (a b : Answer) : Type 0 where
  are_one : a ≡ b → Agree runs a b
  first_spent : (conflicts : ℕ) (line : Option ℕ) → a ≡ answer.BudgetSpent conflicts line → IsOfSearch b →
      Agree runs a b
  second_spent : (conflicts : ℕ) (line : Option ℕ) → b ≡ answer.BudgetSpent conflicts line → IsOfSearch a →
      Agree runs a b
  runs_differ : (bytes others : List ℕ) → a ≡ answer.Located bytes → b ≡ answer.Located others →
      runs ≡ true → Agree runs a b

-- A FAULT of what derivations are handed to: of the sink. If a certificate of this name is written, the
-- faults of the sink and of the world count together.
abbrev pub HasHandFault : Option Word → Outside → Outside → Told → Told → Type 0
HasHandFault None before after t u = Rose t.faults u.faults
HasHandFault (Some name) before after t u =
    Rose (before.write_faults + t.faults) (after.write_faults + u.faults)

-- THE END OF A PART of a call, by an answer or by an error. `answers` holds of the answer, and `leaves` in
-- any case. If the sink failed, there was this fault. The sink writes through the same references, and its
-- count of faults does not fall.
pub record Ends {A : Type 0} (answers : A → Type 0) (leaves fault : Type 0) (t u : Told)
    (result : Result A SearchError) : Type 0
  where
    pub answer : IfOk result answers
    pub left : leaves
    pub cause : result ≡ Err SinkFailed → fault
    pub outlasts : Outlasts t u
