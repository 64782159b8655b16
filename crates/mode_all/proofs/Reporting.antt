-- A report without runs is of its sets alone, and of the statements of its program.

use Rattle.std.proofs.Common.{◌≡◌, ℕ, ◌+◌, Bool, false, List, [], ◌∷◌, ◌++◌, length, map, flat_map, append-nil, codes, decimal, refl, sym, ap, ap₂, subst, ◌∙◌}
use Rattle.std.proofs.lemmas.List.{length-map}
use Rattle.std.specs.List.{AllZip}
use Rattle.ba_all.specs.AllRuns.{tests_of}
use Rattle.ba_all.specs.Cuts.{IsCut, RunTest}
use Rattle.ba_bytes.specs.Lines.{lines_of}
use Rattle.ba_cases.proofs.Alike.{infos_alike}
use Rattle.ba_choices.specs.declared.Choice.{Choice}
use Rattle.ba_derivations.specs.Derivations.{sets_of}
use Rattle.ba_derivations.specs.declared.verdict.FoundSet.{FoundSet}
use Rattle.ba_report.specs.Report.{line_of, set_lines, statement_line}
use Rattle.ba_tree.specs.Least.{stmt_of}
use Rattle.ba_tree.specs.declared.run.Bounds.{Bounds}
use Rattle.ba_tree.specs.declared.run.Input.{Input}
use Rattle.ba_tree.specs.declared.tree.Program.{Program}
use Rattle.ba_tree_laws.specs.Equivalent.{AreEquivalent}
use Rattle.mode_all.specs.Answers.{IsShownAs, Reports}
use Rattle.mode_all.specs.Report.{ShownSet, all_report_text, runs_lines, shown_lines}

-- WITHOUT RUNS

runs_none : (runs : List (List Choice)) → runs_lines false runs ≡ []
runs_none [] = refl
runs_none (run ∷ runs) = runs_none runs

plain_lines : List (List ℕ) → Program → ℕ → List (List ℕ) → List ℕ
plain_lines lines p number [] = []
plain_lines lines p number (set ∷ sets) = set_lines lines p number set ++ plain_lines lines p (number + 1)
    sets

abbrev groups_of : List ShownSet → List (List ℕ)
groups_of shown = map (λ (s : ShownSet). s.groups) shown

lines_plain : (lines : List (List ℕ)) (p : Program) (number : ℕ) (shown : List ShownSet)
    → shown_lines lines p false number shown ≡ plain_lines lines p number (groups_of shown)
unfolding plain_lines
lines_plain lines p number [] = refl
lines_plain lines p number (set ∷ shown) =
    ap (λ runs. set_lines lines p number set.groups ++ runs ++ shown_lines lines p false (number + 1) shown)
    (runs_none set.runs)
    ∙ ap (λ text. text ++ shown_lines lines p false (number + 1) shown)
    (append-nil (set_lines lines p number set.groups))
    ∙ ap (λ rest. set_lines lines p number set.groups ++ rest) (lines_plain lines p (number + 1) shown)

plain_report : List ℕ → Program → ℕ → ℕ → List (List ℕ) → List ℕ
plain_report source p inputs weight sets =
    codes "located: inputs " ++ decimal inputs ++ codes ", weight " ++ decimal weight ++ codes ", sets "
    ++ decimal (length sets) ++ codes "\n" ++ plain_lines (lines_of source) p 1 sets

report_plain : (source : List ℕ) (p : Program) (inputs weight : ℕ) (shown : List ShownSet)
    → all_report_text source p false inputs weight shown ≡ plain_report source p inputs weight (groups_of
    shown)
unfolding plain_report
report_plain source p inputs weight shown =
    ap (λ lines. codes "located: inputs " ++ decimal inputs ++ codes ", weight " ++ decimal weight
    ++ codes ", sets " ++ decimal (length shown) ++ codes "\n" ++ lines)
    (lines_plain (lines_of source) p 1 shown)
    ∙ ap (λ n. codes "located: inputs " ++ decimal inputs ++ codes ", weight " ++ decimal weight
    ++ codes ", sets " ++ decimal n ++ codes "\n" ++ plain_lines (lines_of source) p 1 (groups_of shown))
    (sym (length-map shown (λ (s : ShownSet). s.groups)))

-- the sets that are shown are those that were found
groups_same : (shows : Bool) (p : Program) (inputs : List Input) (b : Bounds) (found : List FoundSet)
    (shown : List ShownSet) → AllZip (IsShownAs shows p inputs b) found shown → groups_of shown ≡ sets_of
    found
groups_same shows p inputs b [] [] each = refl
groups_same shows p inputs b [] (s ∷ shown) each = absurd each
groups_same shows p inputs b (f ∷ found) [] each = absurd each
groups_same shows p inputs b (f ∷ found) (s ∷ shown) each =
    ap₂ (λ (set : List ℕ) (sets : List (List ℕ)). set ∷ sets) each.0.groups
    (groups_same shows p inputs b found shown each.1)

reported_plain : (source : List ℕ) (p : Program) (inputs : List Input) (b : Bounds) (weight : ℕ)
    (sets : List FoundSet) (bytes : List ℕ) → Reports false source p inputs b weight sets bytes
    → bytes ≡ plain_report source p (length inputs) weight (sets_of sets)
reported_plain source p inputs b weight sets bytes reports = reports.bytes_are
    ∙ report_plain source p (length inputs) weight reports.shown
    ∙ ap (plain_report source p (length inputs) weight)
    (groups_same false p inputs b sets reports.shown reports.are_shown)

pub report_same : (source : List ℕ) (p : Program) (inputs : List Input) (b : Bounds) (weight more : ℕ)
    (sets others : List FoundSet) (bytes other : List ℕ)
    → Reports false source p inputs b weight sets bytes → Reports false source p inputs b more others other
    → weight ≡ more → sets_of sets ≡ sets_of others → bytes ≡ other
report_same source p inputs b weight more sets others bytes other reports says weighs same =
    reported_plain source p inputs b weight sets bytes reports
    ∙ ap (λ weight. plain_report source p (length inputs) weight (sets_of sets)) weighs
    ∙ ap (plain_report source p (length inputs) more) same
    ∙ sym (reported_plain source p inputs b more others other says)

-- OF PROGRAMS OF ONE MEANING

module _ (p q : Program) (equal : AreEquivalent p q) where
  line_same : (lines : List (List ℕ)) → statement_line lines p ≡ statement_line lines q
  line_same lines = λ i n. line_of lines (infos_alike p q equal (stmt_of n) i)

  lines_same : (lines : List (List ℕ)) (shows : Bool) (number : ℕ) (shown : List ShownSet)
      → shown_lines lines p shows number shown ≡ shown_lines lines q shows number shown
  lines_same lines shows number [] = refl
  lines_same lines shows number (set ∷ shown) =
      ap (λ line. (codes "set " ++ decimal number ++ codes ":\n" ++ flat_map line set.groups)
      ++ runs_lines shows set.runs ++ shown_lines lines p shows (number + 1) shown) (line_same lines)
      ∙ ap (λ rest. set_lines lines q number set.groups ++ runs_lines shows set.runs ++ rest)
      (lines_same lines shows (number + 1) shown)

  report_of_same : (source : List ℕ) (shows : Bool) (inputs weight : ℕ) (shown : List ShownSet)
      → all_report_text source p shows inputs weight shown ≡ all_report_text source q shows inputs weight
      shown
  report_of_same source shows inputs weight shown =
      ap (λ lines. codes "located: inputs " ++ decimal inputs ++ codes ", weight " ++ decimal weight
      ++ codes ", sets " ++ decimal (length shown) ++ codes "\n" ++ lines)
      (lines_same (lines_of source) shows 1 shown)

  pub tests_same : (inputs : List Input) (b : Bounds) (set : List ℕ)
      → tests_of p inputs b set ≡ tests_of q inputs b set
  tests_same inputs b set = ap (λ (test : Input → RunTest). map test inputs)
      (λ k input. equal.judges input b k set)

  shown_too : (shows : Bool) (inputs : List Input) (b : Bounds) (found : FoundSet) (shown : ShownSet)
      → IsShownAs shows p inputs b found shown → IsShownAs shows q inputs b found shown
  shown_too shows inputs b found shown is = record {
    groups = is.groups;
    runs = λ yes. subst (λ (tests : List RunTest). IsCut tests found.run shown.runs)
        (tests_same inputs b found.groups) (is.runs yes);
  }

  all_shown_too : (shows : Bool) (inputs : List Input) (b : Bounds) (found : List FoundSet)
      (shown : List ShownSet) → AllZip (IsShownAs shows p inputs b) found shown
      → AllZip (IsShownAs shows q inputs b) found shown
  all_shown_too shows inputs b [] [] each = tt
  all_shown_too shows inputs b [] (s ∷ shown) each = absurd each
  all_shown_too shows inputs b (f ∷ found) [] each = absurd each
  all_shown_too shows inputs b (f ∷ found) (s ∷ shown) each =
      (shown_too shows inputs b f s each.0, all_shown_too shows inputs b found shown each.1)

  pub reports_too : (shows : Bool) (source : List ℕ) (inputs : List Input) (b : Bounds) (weight : ℕ)
      (sets : List FoundSet) (bytes : List ℕ) → Reports shows source p inputs b weight sets bytes
      → Reports shows source q inputs b weight sets bytes
  reports_too shows source inputs b weight sets bytes reports = record {
    shown = reports.shown;
    are_shown = all_shown_too shows inputs b sets reports.shown reports.are_shown;
    bytes_are = reports.bytes_are ∙ report_of_same source shows (length inputs) weight reports.shown;
  }
