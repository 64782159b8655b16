-- Programs with the same tree are equivalent.
use Rattle.std.proofs.Common.{◌≡◌, map, sym, ◌∙◌}
use Rattle.std.specs.Prelude.{length}
use Rattle.ba_tree.specs.Least.{AreWeightsOf, WeightList, judge_of, stmt_of, unit_weight}
use Rattle.ba_tree.specs.Run.{is_done}
use Rattle.ba_tree.specs.declared.run.Allowed.TheVariants.{Statements}
use Rattle.ba_tree.specs.declared.run.Bounds.{Bounds}
use Rattle.ba_tree.specs.declared.run.Input.{Input}
use Rattle.ba_tree.specs.declared.tree.Program.{Program}
use Rattle.ba_tree.specs.declared.tree.StmtInfo.{StmtInfo}
use Rattle.ba_tree.specs.Trees.{tree_of}
use Rattle.ba_tree_laws.specs.Equivalent.{AreEquivalent}
use Rattle.ba_tree_laws.proofs.TreeRuns.{is_assert_in}
use Rattle.ba_tree_laws.proofs.Programs.{run_same, fits_same, fault_same, values_same}
use Rattle.ba_tree_laws.proofs.Units.{units_same}

weights_same : (p q : Program) → tree_of p ≡ tree_of q → (weights : WeightList)
    → AreWeightsOf p weights → AreWeightsOf q weights
weights_same p q same weights are = record {
  each = are.each ∙ (λ i. length (same i).statements);
  in_range = are.in_range;
  no_assert = λ n is. are.no_assert n ((λ i. is_assert_in (same i).statements (stmt_of n)) ∙ is);
}

module _ (p q : Program) (same : tree_of p ≡ tree_of q) where
  judge_same : (input : Input) (b : Bounds) → judge_of p input b ≡ judge_of q input b
  judge_same input b = λ i set choices.
      is_done (run_same p q same input b (Statements (map stmt_of set)) choices i)

  pub equivalent : AreEquivalent p q
  equivalent = record {
    statements = λ i. (same i).statements;
    units = units_same p q same;
    runs = run_same p q same;
    judges = judge_same;
    inputs = fits_same p q same;
    input_faults = fault_same p q same;
    input_numbers = values_same p q same;
    usual_weights = λ i. map (λ (info : StmtInfo). unit_weight info.kind) (same i).statements;
    weights = λ weights. (weights_same p q same weights, weights_same q p (sym same) weights);
  }
