-- Runs without choices, and formulas that give up some group.

use Rattle.std.specs.Prelude.{ℕ, ltb, not, ◌==◌, Bool, ◌&&◌, List, length}
use Rattle.std.specs.List.{list_any, list_all}
use Rattle.ba_choices.specs.declared.Choice.{Choice}
use Rattle.ba_lits.specs.Literals.{Literal}
use Rattle.ba_lits.specs.Satisfaction.{Soft}

-- the run makes no choice
abbrev pub is_empty_run : List ℕ → List Choice → Bool
is_empty_run groups run = length run == 0

-- a variable is the selector of a group
abbrev pub has_selector : List Soft → ℕ → Bool
has_selector softs x = list_any (λ (s : Soft). ltb 0 s.1 && ((s.0.variable == x) && not s.0.negated)) softs

-- each literal of a clause negates the selector of a group
abbrev pub negates_selectors : List Soft → List Literal → Bool
negates_selectors softs lits = list_all (λ (l : Literal). l.negated && has_selector softs l.variable) lits
