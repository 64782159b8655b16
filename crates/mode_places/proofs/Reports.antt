-- A report without runs is of its sets alone, and of the statements of its program.

use Rattle.std.proofs.Common.{◌≡◌, ℕ, ◌+◌, Bool, false, Option, None, Some, List, [], ◌∷◌, ◌++◌, length, flat_map, codes, decimal, refl, sym, ap, ◌∙◌}
use Rattle.std.proofs.lemmas.List.{length-map}
use Rattle.ba_bytes.specs.Lines.{lines_of}
use Rattle.ba_cases.proofs.Alike.{infos_alike}
use Rattle.ba_localise.specs.Places.{FoundPlaces, place_sets_of}
use Rattle.ba_report.specs.Lines.{line_at}
use Rattle.ba_report.specs.Report.{statement_head, run_line, source_text}
use Rattle.ba_tree.specs.Choices.{info_of}
use Rattle.ba_tree.specs.declared.run.Place.{Place}
use Rattle.ba_tree.specs.declared.run.Step.{Step}
use Rattle.ba_tree.specs.declared.run.Step.TheVariants.{Call, Turn}
use Rattle.ba_tree.specs.declared.tree.Program.{Program}
use Rattle.ba_tree.specs.declared.tree.StmtInfo.{StmtInfo}
use Rattle.ba_tree_laws.specs.Equivalent.{AreEquivalent}
use Rattle.mode_places.specs.Report.{line_of, path_text, place_line, place_report_text, position_text, set_lines, sets_lines, step_text}

-- WITHOUT RUNS

plain_lines : List (List ℕ) → Program → ℕ → List (List Place) → List ℕ
plain_lines lines p number [] = []
plain_lines lines p number (set ∷ sets) =
    set_lines lines p number set ++ run_line false [] ++ plain_lines lines p (number + 1) sets

lines_plain : (lines : List (List ℕ)) (p : Program) (number : ℕ) (found : List FoundPlaces) →
    sets_lines lines p false number found ≡ plain_lines lines p number (place_sets_of found)
unfolding plain_lines
lines_plain lines p number [] = refl
lines_plain lines p number (set ∷ found) =
    ap (λ rest. set_lines lines p number set.places ++ run_line false set.run ++ rest)
    (lines_plain lines p (number + 1) found)

plain_report : List ℕ → Program → ℕ → List (List Place) → List ℕ
plain_report source p members sets =
    codes "located: places " ++ decimal members ++ codes ", sets " ++ decimal (length sets) ++ codes "\n"
    ++ plain_lines (lines_of source) p 1 sets

report_plain : (source : List ℕ) (p : Program) (members : ℕ) (found : List FoundPlaces) →
    place_report_text source p false members found ≡ plain_report source p members (place_sets_of found)
unfolding plain_report
report_plain source p members found =
    ap (λ lines. codes "located: places " ++ decimal members ++ codes ", sets " ++ decimal (length found)
    ++ codes "\n" ++ lines) (lines_plain (lines_of source) p 1 found)
    ∙ ap (λ n. codes "located: places " ++ decimal members ++ codes ", sets " ++ decimal n ++ codes "\n"
    ++ plain_lines (lines_of source) p 1 (place_sets_of found))
    (sym (length-map found (λ (f : FoundPlaces). f.places)))

pub report_same : (source : List ℕ) (p : Program) (members : ℕ) (found others : List FoundPlaces) →
    place_sets_of found ≡ place_sets_of others →
    place_report_text source p false members found ≡ place_report_text source p false members others
report_same source p members found others same = report_plain source p members found
    ∙ ap (plain_report source p members) same ∙ sym (report_plain source p members others)

-- OF PROGRAMS OF ONE MEANING

module _ (p q : Program) (equal : AreEquivalent p q) where
  step_same : (step : Step) → step_text p step ≡ step_text q step
  step_same (Call call) = refl
  step_same (Turn stmt turn) =
      ap (λ info. codes "/" ++ position_text info ++ codes "#" ++ decimal turn) (infos_alike p q equal stmt)

  path_same : (path : List Step) → path_text p path ≡ path_text q path
  path_same path = ap (λ (text : Step → List ℕ). codes "main" ++ flat_map text path)
      (λ i step. step_same step i)

  line_same : (lines : List (List ℕ)) (place : Place) → place_line lines p place ≡ place_line lines q place
  line_same lines place =
      ap (line_of lines p place.path) (infos_alike p q equal place.stmt) ∙ by (info_of q place.stmt)
    where
      by : (info : Option StmtInfo) → line_of lines p place.path info ≡ line_of lines q place.path info
      by None = refl
      by (Some info) = ap (λ path. codes "  " ++ statement_head info ++ codes " at " ++ path
          ++ source_text (line_at lines info.at.line)) (path_same place.path)

  lines_same : (lines : List (List ℕ)) (runs : Bool) (number : ℕ) (found : List FoundPlaces) →
      sets_lines lines p runs number found ≡ sets_lines lines q runs number found
  lines_same lines runs number [] = refl
  lines_same lines runs number (set ∷ found) =
      ap (λ (line : Place → List ℕ).
      (codes "set " ++ decimal number ++ codes ":\n" ++ flat_map line set.places)
      ++ run_line runs set.run ++ sets_lines lines p runs (number + 1) found)
      (λ i place. line_same lines place i)
      ∙ ap (λ rest. set_lines lines q number set.places ++ run_line runs set.run ++ rest)
      (lines_same lines runs (number + 1) found)

  pub report_of_same : (source : List ℕ) (runs : Bool) (members : ℕ) (found : List FoundPlaces) →
      place_report_text source p runs members found ≡ place_report_text source q runs members found
  report_of_same source runs members found =
      ap (λ lines. codes "located: places " ++ decimal members ++ codes ", sets " ++ decimal (length found)
      ++ codes "\n" ++ lines) (lines_same (lines_of source) runs 1 found)
