-- The answers of texts to a job agree.

use Rattle.std.proofs.Common.{◌≡◌, false, None, List}
use Rattle.ba_answers.specs.declared.answers.Answer.{Answer}
use Rattle.ba_cases.specs.Searching.{Agree, IsOfSearch}
use Rattle.ba_cases.proofs.OneAnswer.{IsOfMeaning, answers_agree, is_of_search}
use Rattle.ba_derivations.specs.Handing.{Derivation}
use Rattle.ba_tree.specs.declared.tree.Program.{Program}
use Rattle.ba_tree_laws.proofs.OneProgram.{one_of_text}
use Rattle.ba_tree_laws.specs.Spelling.{Spells}
use Rattle.mode_repair.specs.Answers.{IsAnswer, IsFound}
use Rattle.mode_repair.specs.Cases.{repair_answer}
use Rattle.mode_repair.specs.declared.jobs.RepairJob.{RepairJob}
use Rattle.mode_repair.specs.declared.texts.RepairTexts.{RepairTexts}
use Rattle.mode_repair.proofs.Agreement.{found_agree, found_of_search}
use Rattle.mode_repair.proofs.Alike.{answer_alike, found_too}

repair_of_meaning : (j : RepairJob) (x : RepairTexts) → IsOfMeaning (repair_answer j.bounds x)
repair_of_meaning j x p q equal = answer_alike p q equal j.bounds x

pub one_repair_answer : (j : RepairJob) (x : RepairTexts) (h k : List Derivation) (a b : Answer)
    → IsAnswer j x h a → IsAnswer j x k b → Agree false a b
one_repair_answer j x h k a b = answers_agree x.program (repair_answer j.bounds x) (repair_of_meaning j x)
    (IsFound j x) false h k a b
    (λ p q spells spelled equal found holds. found_agree j x q h k a b
    (found_too p q equal (one_of_text x.program p q spells spelled) j x h a found) holds)

-- where the program of a text has no answer at once, its answer is of a search
pub answer_of_search : (j : RepairJob) (x : RepairTexts) (p : Program) → Spells x.program p
    → repair_answer j.bounds x p ≡ None → (h : List Derivation) (a : Answer) → IsAnswer j x h a → IsOfSearch a
answer_of_search j x p spells none h a = is_of_search x.program (repair_answer j.bounds x)
    (repair_of_meaning j x) (IsFound j x) p h a spells none
    (λ q spelled found. found_of_search j x q h a found)
