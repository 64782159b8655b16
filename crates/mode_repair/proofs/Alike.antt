-- What is said of a program that is to be repaired is said of each program with the same tree.

use Rattle.std.proofs.Common.{◌≡◌, ℕ, Option, None, List, [], ◌∷◌, ◌++◌, map, filter, flat_map, length, codes, decimal, ap, ap₂, ◌∙◌, subst, refl}
use Rattle.std.specs.List.{enumerate_from}
use Rattle.ba_answers.specs.declared.answers.Answer.{Answer}
use Rattle.ba_answers.specs.declared.answers.Answer.TheVariants as answer
use Rattle.ba_answers.specs.declared.file.File.TheVariants as file
use Rattle.ba_bytes.specs.Lines.{lines_of}
use Rattle.ba_cases.specs.AtOnce.{first_answer, unfailing}
use Rattle.ba_cases.proofs.Alike.{at_once_alike, ends_alike, infos_alike, inputs_alike, judges_alike, refusals_alike, runs_alike, weights_alike}
use Rattle.ba_cases.proofs.InputsAlike.{all_alike, all_refusals_alike}
use Rattle.ba_choices.specs.Judges.{Judge}
use Rattle.ba_derivations.specs.Derivations.{sets_of}
use Rattle.ba_derivations.specs.Handing.{Derivation}
use Rattle.ba_derivations.specs.declared.verdict.Verdict.{Verdict}
use Rattle.ba_derivations.specs.declared.verdict.Verdict.TheVariants.{Located, NoRepair, TooMany, Spent}
use Rattle.ba_inputs.specs.declared.inputs.InputLine.{InputLine}
use Rattle.ba_localise.specs.Verdicts.{Shows}
use Rattle.ba_rank.specs.Ranking.{stands_in}
use Rattle.ba_repair.proofs.GoodEdits.{all-good-alike}
use Rattle.ba_repair.specs.Edits.{edits_of}
use Rattle.ba_repair.specs.Good.{AreGood}
use Rattle.ba_repair.specs.declared.listing.Edit.{Edit}
use Rattle.ba_tree.specs.Least.{WeightList}
use Rattle.ba_tree.specs.Run.{plain_run}
use Rattle.ba_tree.specs.Trees.{ProgramTree, tree_of}
use Rattle.ba_tree.specs.declared.run.Allowed.TheVariants.{Statements}
use Rattle.ba_tree.specs.declared.run.Bounds.{Bounds}
use Rattle.ba_tree.specs.declared.run.Input.{Input}
use Rattle.ba_tree.specs.declared.tree.Program.{Program}
use Rattle.ba_tree.specs.declared.tree.StmtInfo.{StmtInfo}
use Rattle.ba_tree_laws.specs.Equivalent.{AreEquivalent}
use Rattle.mode_repair.specs.Answers.{IsFound, IsRepaired, TellsVerdict, judge_in, statements_in}
use Rattle.mode_repair.specs.Cases.{failing_input, inputs_answer, inputs_in, not_passing, passing_end, passing_ends, passing_inputs, repair_answer, runs_answer, weights_of}
use Rattle.mode_repair.specs.Report.{edit_line, line_of, repair_text}
use Rattle.mode_repair.specs.declared.jobs.RepairJob.{RepairJob}
use Rattle.mode_repair.specs.declared.texts.RepairTexts.{RepairTexts}

module _ (p q : Program) (equal : AreEquivalent p q) where
  -- THE ANSWER BEFORE ANY SEARCH

  refused_alike : (x : RepairTexts) → inputs_answer x p ≡ inputs_answer x q
  refused_alike x = ap₂ (λ (a b : Option Answer). first_answer (a ∷ b ∷ []))
      (refusals_alike p q equal file.Failing x.failing) (all_refusals_alike p q equal file.Passing 0
      x.passing)

  passing_alike : (bounds : Bounds) (entries : List InputLine)
      → map (passing_end bounds p) entries ≡ map (passing_end bounds q) entries
  passing_alike bounds [] = refl
  passing_alike bounds (entry ∷ entries) = ap₂ (λ (a : Option Answer) (ends : List (Option Answer)). a ∷ ends)
      (ap (not_passing entry.line) (equal.runs entry.input bounds (Statements []) []))
      (passing_alike bounds entries)

  tried_alike : (bounds : Bounds) (x : RepairTexts) → runs_answer bounds x p ≡ runs_answer bounds x q
  tried_alike bounds x = ap₂ (λ (a b : Option Answer). first_answer (a ∷ b ∷ []))
      (ap (unfailing p None) (runs_alike p q equal x.failing bounds)
      ∙ ends_alike p q equal None (plain_run q (failing_input x q) bounds))
      (ap first_answer (passing_alike bounds (passing_inputs x p))
      ∙ ap (passing_ends bounds q) (all_alike p q equal x.passing))

  pub answer_alike : (bounds : Bounds) (x : RepairTexts) → repair_answer bounds x p ≡ repair_answer bounds x q
  answer_alike bounds x = at_once_alike p q equal (inputs_answer x p) (inputs_answer x q) x.weights bounds
      (runs_answer bounds x p) (runs_answer bounds x q) (refused_alike x) (tried_alike bounds x)

  -- THE ROW OF A SEARCH

  inputs_too : (x : RepairTexts) → inputs_in x p ≡ inputs_in x q
  inputs_too x = ap₂ (λ (i : Input) (entries : List InputLine).
      i ∷ map (λ (entry : InputLine). entry.input) entries)
      (inputs_alike p q equal x.failing) (all_alike p q equal x.passing)

  stmts_alike : (sets : List (List ℕ)) → statements_in p sets ≡ statements_in q sets
  stmts_alike sets = ap (λ (infos : List StmtInfo). filter (λ n. stands_in n sets)
      (map (λ (numbered : ℕ × StmtInfo). numbered.0) (enumerate_from 1 infos))) equal.statements

  line_alike : (lines : List (List ℕ)) → edit_line lines p ≡ edit_line lines q
  line_alike lines = λ i edit. line_of lines edit (infos_alike p q equal edit.stmt i)

  text_alike : (source : List ℕ) (edits : List Edit) → repair_text source p edits ≡ repair_text source q edits
  text_alike source edits = ap (λ (line : Edit → List ℕ).
      codes "edits: " ++ decimal (length edits) ++ codes "\n" ++ flat_map line edits)
      (line_alike (lines_of source))

  module _ (same : tree_of p ≡ tree_of q) (j : RepairJob) (x : RepairTexts) where
    judged_too : (Holds : WeightList → Judge → Type 0) → Holds (weights_of p x) (judge_in j x p)
        → Holds (weights_of q x) (judge_in j x q)
    judged_too Holds holds = subst (λ (weights : WeightList). Holds weights (judge_in j x q))
        (weights_alike p q equal x.weights)
        (subst (λ (good : Judge). Holds (weights_of p x) good) (judges_alike p q equal x.failing j.bounds)
        holds)

    repaired_too : (sets : List (List ℕ)) (a : Answer) → IsRepaired j x p sets a → IsRepaired j x q sets a
    repaired_too sets a by = record {
      found = by.found;
      good = all-good-alike p q same j.bounds (inputs_in x q)
          (edits_of (tree_of q) (statements_in q sets)) by.found
          (subst (λ (t : ProgramTree). AreGood p j.bounds (inputs_in x q)
          (edits_of t (statements_in q sets)) by.found) same
          (subst (λ stmts. AreGood p j.bounds (inputs_in x q) (edits_of (tree_of p) stmts) by.found)
          (stmts_alike sets)
          (subst (λ inputs. AreGood p j.bounds inputs (edits_of (tree_of p) (statements_in p sets)) by.found)
          (inputs_too x) by.good)));
      tells = by.tells ∙ ap answer.Edits (text_alike x.program by.found);
    }

    told_too : (v : Verdict) (a : Answer) → TellsVerdict j x p v a → TellsVerdict j x q v a
    told_too (Located weight sets) a by = repaired_too (sets_of sets) a by
    told_too NoRepair a is = is
    told_too (TooMany weight sets) a is = is
    told_too Spent a is = is

    pub found_too : (handed : List Derivation) (a : Answer) → IsFound j x p handed a → IsFound j x q handed a
    found_too handed a by = record {
      derivation = by.derivation;
      handed_is = by.handed_is;
      verdict = by.verdict;
      shows = judged_too
          (λ weights good. Shows weights good j.conflicts j.sets by.derivation by.verdict) by.shows;
      tells = told_too by.verdict a by.tells;
    }
