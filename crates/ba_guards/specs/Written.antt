-- Variables that were written, and lists of words that agree at all others.

use Rattle.std.specs.Prelude.{◌≡◌, ◌==◌, ◌≤◌, ℕ, Bool, false, List, Some, drop, length, map, slice_get, slice_index_or}
use Rattle.std.specs.List.{list_any}
use Rattle.ba_guards.specs.declared.exits.Exit.{Exit}

-- the number is in the list
abbrev pub is_among : ℕ → List ℕ → Bool
is_among k numbers = list_any (λ n. n == k) numbers

-- all variables but these have the same word in both lists
abbrev pub AgreeBut : List ℕ → List ℕ → List ℕ → Type 0
AgreeBut numbers xs ys = (k : ℕ) → is_among k numbers ≡ false
    → slice_index_or xs k 0 ≡ slice_index_or ys k 0

-- for each block, how many variables had been written when it began, and the words of the variables then
abbrev pub frames_of : List Exit → List (ℕ × List ℕ)
frames_of exits = map (λ (e : Exit). (e.since, e.base)) exits

-- the variables have the words of that moment, except for those written since
pub record IsSince (written vars : List ℕ) (frame : ℕ × List ℕ) : Type 0 where
  pub since : frame.0 ≤ length written
  pub agrees : AgreeBut (drop frame.0 written) frame.1 vars

-- each frame's list has the variables that were written since it began
abbrev pub AreSince : List ℕ → List ℕ → List (ℕ × List ℕ) → Type 0
AreSince written vars frames = (i : ℕ) (frame : ℕ × List ℕ) → slice_get frames i ≡ Some frame
    → IsSince written vars frame

-- at each exit the variables have the words from the start of its block, except for those written at it
abbrev pub AreWritten : List Exit → Type 0
AreWritten exits = (i : ℕ) (e : Exit) → slice_get exits i ≡ Some e
    → AgreeBut e.written e.base e.vars
