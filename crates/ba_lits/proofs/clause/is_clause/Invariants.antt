use Rattle.std.proofs.Common.{◌≡◌, ℕ, ◌+◌, ◌<◌, ◌≤◌}
use Rattle.ba_lits.specs.Literals.{lit_at}
use Rattle.ba_lits.proofs.clause.is_clause.Given as goal

-- the literals so far form a clause, whose last variable is known
abbrev pub invariant-loop-lit : goal.invariant-loop-lit
invariant-loop-lit l = record {
  counted : (k : ℕ) → k < l.lit-index → 1 ≤ (lit_at l.lits k).variable;
  below : (k : ℕ) → k < l.lit-index → (lit_at l.lits k).variable ≤ l.last;
  within : (k : ℕ) → k < l.lit-index → (lit_at l.lits k).variable ≤ l.variables;
  ascends : (j k : ℕ) → j < k → k < l.lit-index → (lit_at l.lits j).variable < (lit_at l.lits k).variable;
  none : l.lit-index ≡ 0 → l.last ≡ 0;
  last : (k : ℕ) → k + 1 ≡ l.lit-index → l.last ≡ (lit_at l.lits k).variable;
}
