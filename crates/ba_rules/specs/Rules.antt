-- The rules of a search that a caller gives.

use Rattle.std.specs.Prelude.{◌≡◌, ℕ, Bool, true, false}
use Rattle.ba_search.specs.Rules.{IsKeepRule, IsRestartRule}

-- What is asked of the rules of a call. The wanted restart rule, steady or by Luby's sequence, and the keep
-- rule may be asked and answer as they should. Nothing is asked of the other restart rule.
pub record AreJobRules (is_steady : Bool) (may_ask_luby : ℕ → Type 0) (luby : ℕ → ℕ → Type 0)
    (may_ask_steady : ℕ → Type 0) (steady : ℕ → ℕ → Type 0)
    (may_ask_keep : ℕ → ℕ → Type 0) (keep : ℕ → ℕ → Bool → Type 0) : Type 0 where
  pub by_luby : is_steady ≡ false → IsRestartRule may_ask_luby luby
  pub by_steady : is_steady ≡ true → IsRestartRule may_ask_steady steady
  pub by_keep : IsKeepRule may_ask_keep keep
