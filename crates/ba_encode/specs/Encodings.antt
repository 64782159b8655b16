-- Formulas whose models are the good runs of a word list in which groups of executions may be relaxed.

use Rattle.std.specs.Prelude.{◌≡◌, ℕ, ◌≤◌, Bool, true, false, not, List, map, Contains}
use Rattle.ba_code_laws.specs.Tracing.{Relaxes}
use Rattle.ba_code_laws.specs.Visits.{are_kept, chosen}
use Rattle.ba_encode.specs.Groups.{groups_of, numbered, relaxes_in}
use Rattle.ba_encode.specs.Readings.{choices_read}
use Rattle.ba_encode.specs.declared.encoded.Encoded.{Encoded}
use Rattle.ba_encode.specs.declared.encoded.Group.{Group}
use Rattle.ba_encode.specs.declared.grouping.Grouping.{Grouping}
use Rattle.ba_encode.specs.declared.grouping.Numbered.{Numbered}
use Rattle.ba_lits.specs.Formulas.{Cnf}
use Rattle.ba_lits.specs.Satisfaction.{Assignment, all_true, lit_true}
use Rattle.ba_wordlist.specs.Meaning as words
use Rattle.ba_wordlist.specs.Meaning.{holds, visits_of}
use Rattle.ba_wordlist.specs.declared.words.WordList.{WordList}

-- A good run in which these executions may be relaxed. It is an assignment of the list's words that meets all
-- requirements and keeps each other execution as written.
pub record GoodRun (relaxes : Relaxes) (list : WordList) : Type 0 where
  pub by : words.Assignment
  pub met : holds by list ≡ true
  pub kept : are_kept relaxes (visits_of by list) ≡ true

-- the groups whose selectors are false are those of a set
abbrev pub AreGivenUp : Assignment → List Group → (ℕ → Bool) → Type 0
AreGivenUp v groups set = (group : Group) → Contains groups group
    → lit_true v group.selector ≡ not (set group.number)

-- a model under which exactly the groups of a set are given up
pub record HasModelFor (formula : Cnf) (groups : List Group) (set : ℕ → Bool) : Type 0 where
  pub assignment : Assignment
  pub satisfies : all_true assignment formula.clauses ≡ true
  pub given_up : AreGivenUp assignment groups set

-- a good run, whose choices are these
pub record HasChoices (relaxes : Relaxes) (list : WordList) (encoded : Encoded) (v : Assignment)
    : Type 0 where
  pub run : GoodRun relaxes list
  pub choices : choices_read v encoded.places ≡ chosen relaxes (visits_of run.by list)

-- a group without its selector
abbrev pub without_selector : Group → Numbered
without_selector group = numbered group.number group.statement group.weight

-- the selectors are positive literals of different variables of the formula
pub record AreSelectors (formula : Cnf) (groups : List Group) : Type 0 where
  pub positive : (group : Group) → Contains groups group → group.selector.negated ≡ false
  pub counted : (group : Group) → Contains groups group → 1 ≤ group.selector.variable
  pub within : (group : Group) → Contains groups group → group.selector.variable ≤ formula.variables
  pub apart : (a b : Group) → Contains groups a → Contains groups b
      → a.selector.variable ≡ b.selector.variable → a.number ≡ b.number

-- For each set, the formula has a model that gives up exactly its groups if, and only if, some good run
-- relaxes these alone. The choices of such a run are read from each such model.
pub record IsEncodingOf (list : WordList) (grouping : Grouping) (encoded : Encoded) : Type 0 where
  pub groups_are : map without_selector encoded.groups ≡ groups_of grouping
  pub selectors : AreSelectors encoded.formula encoded.groups
  pub has_model : (set : ℕ → Bool) → GoodRun (relaxes_in grouping set) list
      → HasModelFor encoded.formula encoded.groups set
  pub has_run : (set : ℕ → Bool) (v : Assignment) → all_true v encoded.formula.clauses ≡ true
      → AreGivenUp v encoded.groups set → HasChoices (relaxes_in grouping set) list encoded v
