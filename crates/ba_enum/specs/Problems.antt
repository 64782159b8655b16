-- The problem that a formula with groups poses to the search, and what its models have to give.

use Rattle.std.specs.Prelude.{◌≡◌, ◌≢◌, ℕ, true, None, []}
use Rattle.ba_derivations.specs.Derivations.{Problem}
use Rattle.ba_derivations.specs.Encodings.{false_groups}
use Rattle.ba_encode.specs.Readings.{choices_read}
use Rattle.ba_encode.specs.declared.encoded.Encoded.{Encoded}
use Rattle.ba_encode.specs.Softs.{softs_of}
use Rattle.ba_learn.specs.Live.{AreLive}
use Rattle.ba_lits.specs.Satisfaction.{Assignment, all_true}
use Rattle.ba_search.specs.Searching.{Searching}
use Rattle.ba_choices.specs.Judges.{Judge}
use Rattle.ba_checker.specs.Puts.{Checking}
use Rattle.ba_checker.specs.States.{State, clause_at, first_state}

-- the problem, with the checker's limits on conflicts and on sets
abbrev pub problem_in : Encoded → Judge → State → Problem
problem_in encoded good s = record {
  formula = encoded.formula;
  softs = softs_of encoded.groups;
  good = good;
  conflicts = s.budget;
  most_sets = s.most_sets;
}

-- A SEARCH AND A LOG AT THE START. The search has the live clauses of the checker. The checker is in the
-- first state, over the formula with the soft literals of its groups, with this limit on sets. No step was
-- refused.
pub record IsFresh {R : Type 0} (encoded : Encoded) (sets : ℕ) (search : Searching R) (log : Checking) :
    Type 0 where
  pub same : AreLive search.clauses (clause_at log.checker.clauses)
  pub starts : log.checker ≡ first_state encoded.formula (softs_of encoded.groups)
      log.checker.budget sets
  pub accepted : log.refusal ≡ None

-- Each model of the formula makes some selector false. The choices that are read from it are good for the
-- groups whose selectors are false.
pub record IsReadable (encoded : Encoded) (good : Judge) : Type 0 where
  pub some : (v : Assignment) → all_true v encoded.formula.clauses ≡ true →
      false_groups v (softs_of encoded.groups) ≢ []
  pub good_run : (v : Assignment) → all_true v encoded.formula.clauses ≡ true →
      good (false_groups v (softs_of encoded.groups)) (choices_read v encoded.places) ≡ true
