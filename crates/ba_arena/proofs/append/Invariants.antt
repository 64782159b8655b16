use Rattle.std.proofs.Common.{◌≡◌, ℕ, ◌^◌, ◌<◌, ◌≤◌, ◌++◌, take, map}
use Rattle.ba_lits.specs.Literals.{index_of, lit_at}
use Rattle.ba_arena.proofs.append.Given as goal

abbrev pub invariant-loop-lit : goal.invariant-loop-lit
invariant-loop-lit l = record {
  words : l.words.items ≡ l.initial.words.items ++ map index_of (take l.lit-index l.lits);
  indexed : (k : ℕ) → k < l.lit-index
      → (2 ≤ index_of (lit_at l.lits k)) × (index_of (lit_at l.lits k) < 2 ^ 63);
}
