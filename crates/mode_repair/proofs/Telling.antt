-- The edits of a case are those of its texts.

use Rattle.std.proofs.Common.{◌≡◌, ℕ, List, ◌∷◌, map, refl, ap, ap₂, subst, ◌∙◌}
use Rattle.ba_answers.specs.declared.answers.Answer.{Answer}
use Rattle.ba_answers.specs.declared.answers.Answer.TheVariants as answer
use Rattle.ba_inputs.specs.declared.inputs.InputLine.{InputLine}
use Rattle.ba_repair.specs.Edits.{edits_of}
use Rattle.ba_repair.specs.Good.{AreGood}
use Rattle.ba_repair.specs.declared.listing.Edit.{Edit}
use Rattle.ba_tree.specs.Trees.{tree_of}
use Rattle.ba_tree.specs.declared.run.Bounds.{Bounds}
use Rattle.ba_tree.specs.declared.run.Input.{Input}
use Rattle.ba_tree.specs.declared.tree.Program.{Program}
use Rattle.mode_repair.specs.Answers.{IsRepaired, statements_in}
use Rattle.mode_repair.specs.Cases.{IsCaseOf, inputs_in}
use Rattle.mode_repair.specs.Report.{repair_text}
use Rattle.mode_repair.specs.declared.cases.RepairCase.{RepairCase}
use Rattle.mode_repair.specs.declared.jobs.RepairJob.{RepairJob}
use Rattle.mode_repair.specs.declared.texts.RepairTexts.{RepairTexts}

-- the same edits are good for the same inputs
pub good_same : (p : Program) (bounds : Bounds) (inputs others : List Input) (edits more found : List Edit)
    → inputs ≡ others → edits ≡ more → AreGood p bounds inputs edits found → AreGood p bounds others more
    found
good_same p bounds inputs others edits more found same also good =
    subst (λ (inputs : List Input). AreGood p bounds inputs more found) same
    (subst (λ (edits : List Edit). AreGood p bounds inputs edits found) also good)

-- the answer reports the edits that pass
pub repaired : (j : RepairJob) (x : RepairTexts) (c : RepairCase) (sets : List (List ℕ)) (source : List ℕ)
    (found : List Edit) (text : List ℕ) (a : Answer) → IsCaseOf j.bounds x c → source ≡ x.program
    → AreGood c.program j.bounds (c.failing ∷ map (λ (entry : InputLine). entry.input) c.passing)
    (edits_of (tree_of c.program) (statements_in c.program sets)) found
    → text ≡ repair_text source c.program found → a ≡ answer.Edits text → IsRepaired j x c.program sets a
repaired j x c sets source found text a is same good written tells = record {
  found = found;
  good = good_same c.program j.bounds (c.failing ∷ map (λ (entry : InputLine). entry.input) c.passing)
      (inputs_in x c.program) (edits_of (tree_of c.program) (statements_in c.program sets))
      (edits_of (tree_of c.program) (statements_in c.program sets)) found
      (ap₂ (λ (i : Input) (entries : List InputLine). i ∷ map (λ (entry : InputLine). entry.input) entries)
      is.failing is.passing) refl good;
  tells = tells ∙ ap answer.Edits (written ∙ ap (λ source. repair_text source c.program found) same);
}
