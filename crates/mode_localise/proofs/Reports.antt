-- A report without runs is of its sets alone, and of the statements of its program.

use Rattle.std.proofs.Common.{◌≡◌, ℕ, ◌+◌, Bool, false, List, [], ◌∷◌, ◌++◌, length, flat_map, codes, decimal, refl, sym, ap, ◌∙◌}
use Rattle.std.proofs.lemmas.List.{length-map}
use Rattle.ba_derivations.specs.Derivations.{sets_of}
use Rattle.ba_derivations.specs.declared.verdict.FoundSet.{FoundSet}
use Rattle.ba_bytes.specs.Lines.{lines_of}
use Rattle.ba_report.specs.Report.{line_of, report_text, run_line, set_lines, sets_lines, statement_line}
use Rattle.ba_tree.specs.Least.{stmt_of}
use Rattle.ba_tree.specs.declared.tree.Program.{Program}
use Rattle.ba_tree_laws.specs.Equivalent.{AreEquivalent}
use Rattle.ba_cases.proofs.Alike.{infos_alike}

-- WITHOUT RUNS

plain_lines : List (List ℕ) → Program → ℕ → List (List ℕ) → List ℕ
plain_lines lines p number [] = []
plain_lines lines p number (set ∷ sets) =
    set_lines lines p number set ++ run_line false [] ++ plain_lines lines p (number + 1) sets

lines_plain : (lines : List (List ℕ)) (p : Program) (number : ℕ) (found : List FoundSet) →
    sets_lines lines p false number found ≡ plain_lines lines p number (sets_of found)
unfolding plain_lines
lines_plain lines p number [] = refl
lines_plain lines p number (set ∷ found) =
    ap (λ rest. set_lines lines p number set.groups ++ run_line false set.run ++ rest)
    (lines_plain lines p (number + 1) found)

plain_report : List ℕ → Program → ℕ → List (List ℕ) → List ℕ
plain_report source p weight sets =
    codes "located: weight " ++ decimal weight ++ codes ", sets " ++ decimal (length sets) ++ codes "\n"
    ++ plain_lines (lines_of source) p 1 sets

report_plain : (source : List ℕ) (p : Program) (weight : ℕ) (found : List FoundSet) →
    report_text source p false weight found ≡ plain_report source p weight (sets_of found)
unfolding plain_report
report_plain source p weight found =
    ap (λ lines. codes "located: weight " ++ decimal weight ++ codes ", sets " ++ decimal (length found)
    ++ codes "\n" ++ lines) (lines_plain (lines_of source) p 1 found)
    ∙ ap (λ n. codes "located: weight " ++ decimal weight ++ codes ", sets " ++ decimal n ++ codes "\n"
    ++ plain_lines (lines_of source) p 1 (sets_of found)) (sym (length-map found (λ (b : FoundSet).
    b.groups)))

pub report_same : (source : List ℕ) (p : Program) (weight : ℕ) (found others : List FoundSet) →
    sets_of found ≡ sets_of others →
    report_text source p false weight found ≡ report_text source p false weight others
report_same source p weight found others same = report_plain source p weight found
    ∙ ap (plain_report source p weight) same ∙ sym (report_plain source p weight others)

-- OF PROGRAMS OF ONE MEANING

module _ (p q : Program) (equal : AreEquivalent p q) where
  line_same : (lines : List (List ℕ)) → statement_line lines p ≡ statement_line lines q
  line_same lines = λ i n. line_of lines (infos_alike p q equal (stmt_of n) i)

  lines_same : (lines : List (List ℕ)) (runs : Bool) (number : ℕ) (found : List FoundSet) →
      sets_lines lines p runs number found ≡ sets_lines lines q runs number found
  lines_same lines runs number [] = refl
  lines_same lines runs number (set ∷ found) =
      ap (λ line. (codes "set " ++ decimal number ++ codes ":\n" ++ flat_map line set.groups)
      ++ run_line runs set.run ++ sets_lines lines p runs (number + 1) found) (line_same lines)
      ∙ ap (λ rest. set_lines lines q number set.groups ++ run_line runs set.run ++ rest)
      (lines_same lines runs (number + 1) found)

  pub report_of_same : (source : List ℕ) (runs : Bool) (weight : ℕ) (found : List FoundSet) →
      report_text source p runs weight found ≡ report_text source q runs weight found
  report_of_same source runs weight found =
      ap (λ lines. codes "located: weight " ++ decimal weight ++ codes ", sets " ++ decimal (length found)
      ++ codes "\n" ++ lines) (lines_same (lines_of source) runs 1 found)
