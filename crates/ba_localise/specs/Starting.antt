-- Where the search for all least sets of a program starts.

use Rattle.std.specs.Prelude.{◌≡◌, ℕ, None}
use Rattle.ba_checker.specs.States.{State, clause_at, first_state}
use Rattle.ba_choices.specs.Judges.{Judge}
use Rattle.ba_derivations.specs.Encodings.{IsFaithful}
use Rattle.ba_encode.specs.Softs.{softs_of}
use Rattle.ba_encode.specs.declared.encoded.Encoded.{Encoded}
use Rattle.ba_learn.specs.Live.{AreLive}
use Rattle.ba_search.specs.Searching.{Searching}
use Rattle.ba_tree.specs.Least.{WeightList}

-- the search answers no error, and has the live clauses of the checker, which is in the first state, over the
-- formula with the soft literals of its groups, and lists at most so many sets
pub record IsStarted {R : Type 0} (encoded : Encoded) (sets : ℕ) (search : Searching R) (checker : State) :
    Type 0 where
  pub working : search.failure ≡ None
  pub same : AreLive search.clauses (clause_at checker.clauses)
  pub starts : checker ≡ first_state encoded.formula (softs_of encoded.groups) checker.budget sets

-- a formula with groups encodes faithfully, by the soft literals of its groups, which runs are good
abbrev pub IsEncodedBy : WeightList → Judge → Encoded → Type 0
IsEncodedBy weights good encoded = IsFaithful encoded.formula (softs_of encoded.groups) weights good
