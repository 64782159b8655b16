use Rattle.std.proofs.Common.{◌≡◌, ℕ, Option, None, List, IsTrue, get_or, map, take}
use Rattle.std.specs.List.{list_all}
use Rattle.ba_tree.specs.Weights.{is_weight}
use Rattle.ba_tree.specs.declared.tree.StmtInfo.{StmtInfo}
use Rattle.ba_inputs.specs.Weights.{statement_weight}
use Rattle.ba_inputs.specs.Tables.{Table}
use Rattle.ba_inputs.proofs.weights.weights_of.Given as goal

-- the weights so far are those of the statements so far
pub record AreSoFar (table : Table) (infos : List StmtInfo) (weights : List (Option ℕ)) : Type 0 where
  pub same : weights
      ≡ map (λ (info : StmtInfo). statement_weight info.kind (get_or table info.at.line None)) infos
  pub in_range : IsTrue (list_all is_weight weights)

abbrev pub invariant-loop-info : goal.invariant-loop-info
invariant-loop-info l = AreSoFar l.table (take l.info-index l.statements) l.of
