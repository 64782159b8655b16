use Rattle.std.proofs.Common.{zero, suc, List, [], ◌∷◌, arith}
use Rattle.ba_nodes.specs.declared.Bit.{Bit}
use Rattle.ba_nodes.specs.declared.Node.{Node}
use Rattle.ba_words.specs.Words.{AreBitsOf}
use Rattle.ba_cells.specs.Cells.{AreCellsOf}
use Rattle.solver_tests.proofs.cells.three.Goals as goal

three_cells : (nodes : List Node) (x y z : List Bit) → AreBitsOf nodes x → AreBitsOf nodes y → AreBitsOf nodes z → AreCellsOf nodes (x ∷ y ∷ z ∷ [])
three_cells nodes x y z first second third zero = first
three_cells nodes x y z first second third (suc zero) = second
three_cells nodes x y z first second third (suc (suc zero)) = third
three_cells nodes x y z first second third (suc (suc (suc place))) = λ bit. omega arith

pub returns-clause-cells : goal.returns-clause-cells
returns-clause-cells c nodes = three_cells nodes c.word.result c.word-2.result c.word-3.result (c.word.ensures nodes) (c.word-2.ensures nodes) (c.word-3.ensures nodes)
