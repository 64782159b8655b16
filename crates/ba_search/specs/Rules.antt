-- The rules that the caller of a search chooses.

use Rattle.std.specs.Prelude.{◌≡◌, ℕ, ◌<◌, ◌≤◌, ◌^◌, Bool, true}

-- a restart rule may be asked for every number of restarts, and answers at least 1 conflict
pub record IsRestartRule (may_ask : ℕ → Type 0) (gives : ℕ → ℕ → Type 0) : Type 0 where
  pub callable : (restarts : ℕ) → restarts < 2 ^ 64 → may_ask restarts
  pub positive : (restarts conflicts : ℕ) → restarts < 2 ^ 64 → gives restarts conflicts → 1 ≤ conflicts

-- a keep rule may be asked for every width and age, and keeps clauses of at most two literals
pub record IsKeepRule (may_ask : ℕ → ℕ → Type 0) (gives : ℕ → ℕ → Bool → Type 0) : Type 0 where
  pub callable : (width age : ℕ) → width < 2 ^ 64 → age < 2 ^ 64 → may_ask width age
  pub narrow : (width age : ℕ) (kept : Bool) → width ≤ 2 → age < 2 ^ 64 → gives width age kept → kept ≡ true
