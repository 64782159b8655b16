use Rattle.std.proofs.Common.{◌≡◌, ◌⊎◌, ℕ, false, get_or, take}
use Rattle.ba_guards.specs.Written.{is_among}
use Rattle.ba_guards.proofs.variables.Variables.changed.Given as goal

abbrev pub invariant-loop-number : goal.invariant-loop-number
invariant-loop-number l = (k : ℕ) → is_among k l.changed ≡ false
    → (is_among k (take l.number-index l.numbers) ≡ false) ⊎ (get_or l.before k 0 ≡ get_or l.self k 0)
