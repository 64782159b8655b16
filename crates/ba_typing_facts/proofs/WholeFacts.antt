-- THE TYPED TREE of a file without faults, whose statements nest at most 100 deep, is that of a program.
use Rattle.std.proofs.Common.{◌≡◌, ◌≤◌, ℕ, zero, suc, true, Some, List, [], ◌∷◌, get_or, refl, arith, nat_le, IsTrue}
use Rattle.std.specs.List.{list_all}
use Rattle.std.proofs.lemmas.Bool.{and_parts, leb-true}
use Rattle.ba_trees.specs.FileMarks.{file_marks}
use Rattle.ba_trees.specs.Marks.{levels}
use Rattle.ba_trees.specs.declared.tree.statements.External.{External}
use Rattle.ba_trees.specs.declared.tree.statements.RawProgram.{RawProgram}
use Rattle.ba_tree.specs.Facts.{is_program}
use Rattle.ba_tree.specs.declared.tree.Parts.{Parts}
use Rattle.ba_typing.specs.Files.{faults_of, typed_of}
use Rattle.ba_tree.specs.Trees.{tree_of_parts}
use Rattle.ba_tree.specs.Trees.{ProgramTree}
use Rattle.ba_typing_facts.proofs.FileNesting.{nests_within, typed_shallow}
use Rattle.ba_typing_facts.proofs.LevelNesting.{parsed_nests}
use Rattle.ba_typing_facts.proofs.ProgramFacts.{typed_is_program}

pub typed_parts_fit : (xs : List External) (tree : ProgramTree) (p : Parts) → faults_of xs ≡ []
    → typed_of xs ≡ Some tree → tree_of_parts p ≡ tree → nests_within xs ≡ true → is_program p ≡ true
typed_parts_fit xs tree p none typed same nests =
    typed_is_program xs tree p none typed same (typed_shallow p xs tree typed nests)

all-within : (ms : List ℕ) → list_all (λ level. nat_le level 100) ms ≡ true → (k : ℕ) → get_or ms k 0 ≤ 100
all-within [] all k = omega arith
all-within (m ∷ ms) all zero =
    leb-true m 100 (and_parts (nat_le m 100) (list_all (λ level. nat_le level 100) ms) all).0
all-within (m ∷ ms) all (suc k) =
    all-within ms (and_parts (nat_le m 100) (list_all (λ level. nat_le level 100) ms) all).1 k

-- the parts of a parser's tree
pub parts_fit : (t : RawProgram) (p : Parts) → faults_of t.externals.items ≡ []
    → typed_of t.externals.items ≡ Some (tree_of_parts p) → IsTrue (is_program p)
parts_fit t p none typed = typed_parts_fit t.externals.items (tree_of_parts p) p none typed refl
    (parsed_nests t (all-within (levels 0 (file_marks t)) t.accepted))
