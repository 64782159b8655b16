-- THE JUDGE OF SEVERAL INPUTS of a program: which choices make good runs on all of them where a set of
-- statements is relaxed.

use Rattle.std.specs.Prelude.{ℕ, List, map}
use Rattle.ba_all.specs.Cuts.{RunTest, all_good}
use Rattle.ba_choices.specs.Judges.{Judge}
use Rattle.ba_tree.specs.Least.{judge_of}
use Rattle.ba_tree.specs.declared.run.Bounds.{Bounds}
use Rattle.ba_tree.specs.declared.run.Input.{Input}
use Rattle.ba_tree.specs.declared.tree.Program.{Program}

-- a test for the run on each input, by the judge of this one
abbrev pub tests_of : Program → List Input → Bounds → List ℕ → List RunTest
tests_of p inputs b set = map (λ (input : Input). judge_of p input b set) inputs

-- the choices can be cut into those of a good run for each input, in the order of the inputs
abbrev pub judge_of_all : Program → List Input → Bounds → Judge
judge_of_all p inputs b set = all_good (tests_of p inputs b set)
