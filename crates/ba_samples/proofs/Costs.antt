-- The units of a sample.
use Rattle.std.proofs.Common.{◌≡◌, zero, suc, ℕ, ◌+◌, ◌-◌, ◌*◌, List, [], ◌∷◌, ◌++◌, map, refl, ◌∙◌, arith}
use Rattle.std.specs.Prelude.{sum_by}
use Rattle.std.specs.List.{range_with_len, sum}
use Rattle.std.proofs.lemmas.List.Sums.{sum_by-cons}
use Rattle.ba_numbers.specs.declared.ids.VarId.{VarId}
use Rattle.ba_tree.specs.Run.{main_of}
use Rattle.ba_tree.specs.Least.{stmt_of}
use Rattle.ba_tree.specs.Trees.{StmtTree, tree_of}
use Rattle.ba_tree.specs.Trees as tree
use Rattle.ba_tree.specs.Units.{Bodies, Lengths, bodies_at, declaration_units, declared_lengths, units_of}
use Rattle.ba_tree.specs.declared.run.Bounds.{Bounds}
use Rattle.ba_tree.specs.declared.tree.Program.{Program}
use Rattle.ba_tree.specs.declared.tree.Variable.{Variable}
use Rattle.ba_tree_laws.proofs.TreeRuns.{variable_in}
use Rattle.ba_tree_laws.proofs.TreeUnits.{stmt_units}
use Rattle.ba_tree_laws.proofs.Units.{body_is}
use Rattle.ba_samples.specs.Sample.{addition, constant, counter, int_variable, sample_body, sample_end, sample_tree}
use Rattle.ba_samples.proofs.Runs.{main_is}

module _ (turns : ℕ) (bodies : Bodies) (lengths : Lengths) where
  abbrev cost_in : List Variable → StmtTree → ℕ
  cost_in variables a = stmt_units variables turns bodies a lengths

  abbrev costs : List StmtTree → ℕ
  costs body = sum (map (cost_in (int_variable ∷ [])) body)

  first_cost : (a : StmtTree) (body : List StmtTree) → costs (a ∷ body)
      ≡ cost_in (int_variable ∷ []) a + costs body
  first_cost a body = sum_by-cons (λ x. x) (cost_in (int_variable ∷ []) a)
      (map (cost_in (int_variable ∷ [])) body)

  additions_cost : (count stmt : ℕ) (rest : List StmtTree)
      → costs (map addition (range_with_len stmt count) ++ rest) ≡ 2 * count + costs rest
  additions_cost zero stmt rest = omega arith
  additions_cost (suc count) stmt rest =
      let one = first_cost (addition stmt) (map addition (range_with_len (stmt + 1) count) ++ rest) in
      let others = additions_cost count (stmt + 1) rest in
      omega arith

  end_cost : (n : ℕ) → costs (sample_end n) ≡ 3
  end_cost n = refl

  body_cost : (n : ℕ) → costs (sample_body n) ≡ 2 * n + 4
  body_cost n =
      let rest : List StmtTree = map addition (range_with_len 2 n) ++ sample_end n in
      let start : StmtTree = tree.init (stmt_of 1) counter (constant 0) in
      let declared = first_cost (tree.declare counter) (start ∷ rest) in
      let initialised = first_cost start rest in
      let additions = additions_cost n 2 (sample_end n) in
      let last = end_cost n in
      omega arith

module _ (n : ℕ) (p : Program) (same : tree_of p ≡ sample_tree n) (b : Bounds) where
  abbrev bodies : Bodies
  bodies = bodies_at p b.turns (b.frames - 1)

  pub units_are : units_of p b ≡ 2 * n + 4
  units_are = (λ i.
      sum_by (λ (v : VarId). declaration_units (variable_in (same i).variables v).shape) (same i).globals
      + (body_is p b.turns bodies p.inits (declared_lengths p)
      ∙ (λ j. sum (map (cost_in b.turns bodies (declared_lengths p) (same j).variables) (same j).inits))) i
      + (body_is p b.turns bodies (main_of p).body (declared_lengths p)
      ∙ (λ j. sum (map (cost_in b.turns bodies (declared_lengths p) (same j).variables)
      (main_is n p same j).body))) i)
      ∙ (let whole = body_cost b.turns bodies (declared_lengths p) n in omega arith)
