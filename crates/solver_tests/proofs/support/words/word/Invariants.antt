use Rattle.std.proofs.Common.{List}
use Rattle.ba_nodes.specs.declared.Node.{Node}
use Rattle.ba_words.specs.Words.{AreBitsOf}
use Rattle.solver_tests.proofs.support.words.word.Given as goal

abbrev pub invariant-loop-i : goal.invariant-loop-i
invariant-loop-i l = (nodes : List Node) → AreBitsOf nodes l.bits
