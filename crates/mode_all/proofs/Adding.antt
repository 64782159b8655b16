-- Sets that are added to a report, one after the other.

use Rattle.std.proofs.Common.{◌≡◌, ℕ, suc, ◌+◌, ◌<◌, Bool, true, Result, Ok, Err, OnOk, List, [], ◌∷◌, ◌++◌, length, get_or, drop, append-nil, codes, decimal, refl, sym, ap, subst, ◌∙◌, arith}
use Rattle.std.proofs.Math.Seq.{drop-cons}
use Rattle.std.proofs.lemmas.List.{append_assoc}
use Rattle.std.proofs.lemmas.Slice.Zip.{AllZip-long}
use Rattle.ba_all.specs.AllRuns.{tests_of}
use Rattle.ba_all.specs.Cuts.{IsCut}
use Rattle.ba_bytes.specs.Lines.{lines_of}
use Rattle.ba_choices.specs.declared.Choice.{Choice}
use Rattle.ba_derivations.specs.declared.verdict.FoundSet.{FoundSet}
use Rattle.ba_report.specs.Report.{set_lines}
use Rattle.ba_tree.specs.declared.run.Bounds.{Bounds}
use Rattle.ba_tree.specs.declared.run.Input.{Input}
use Rattle.ba_tree.specs.declared.tree.Program.{Program}
use Rattle.mode_all.specs.Answers.{IsShownAs, Reports}
use Rattle.mode_all.specs.Listing.{AreAdded, IsAdded}
use Rattle.mode_all.specs.Report.{runs_lines, shown_lines}

module _ (lines : List (List ℕ)) (p : Program) (shows : Bool) (inputs : List Input) (b : Bounds) where
  pub added_none : (number : ℕ) (text : List ℕ) → AreAdded lines p shows inputs b number [] text text
  added_none number text = record { shown = []; are_shown = tt; new_is = sym (append-nil text) }

  pub added_cons : (number : ℕ) (found : FoundSet) (sets : List FoundSet) (old text new : List ℕ)
      → IsAdded lines p shows inputs b number found old text
      → AreAdded lines p shows inputs b (number + 1) sets text new
      → AreAdded lines p shows inputs b number (found ∷ sets) old new
  added_cons number found sets old text new is are =
      let set = set_lines lines p number is.shown.groups in
      let runs = runs_lines shows is.shown.runs in
      let rest = shown_lines lines p shows (number + 1) are.shown in
      record {
        shown = is.shown ∷ are.shown;
        are_shown = (is.is_shown, are.are_shown);
        new_is = are.new_is ∙ ap (λ (text : List ℕ). text ++ rest) (is.new_is ∙ append_assoc old set runs)
            ∙ append_assoc old (set ++ runs) rest;
      }

  -- the sets from here on, where this one is added first
  pub added_from : (number k : ℕ) (found : FoundSet) (sets : List FoundSet) (old text new : List ℕ)
      → k < length sets → found ≡ get_or sets k found → IsAdded lines p shows inputs b number found old text
      → AreAdded lines p shows inputs b (number + 1) (drop (k + 1) sets) text new
      → AreAdded lines p shows inputs b number (drop k sets) old new
  added_from number k found sets old text new few at is are =
      let next : k + 1 ≡ suc k = omega arith in
      let cut : drop k sets ≡ found ∷ drop (suc k) sets = drop-cons sets k found few
      ∙ ap (λ (first : FoundSet). first ∷ drop (suc k) sets) (sym at) in
      subst (λ (left : List FoundSet). AreAdded lines p shows inputs b number left old new) (sym cut)
      (added_cons number found (drop (suc k) sets) old text new is
      (subst (λ (n : ℕ). AreAdded lines p shows inputs b (number + 1) (drop n sets) text new) next are))

  -- the lines of a set and those of its runs
  pub added_by : (number : ℕ) (found : FoundSet) (runs : List (List Choice)) (old text new : List ℕ)
      → (shows ≡ true → IsCut (tests_of p inputs b found.groups) found.run runs)
      → text ≡ old ++ set_lines lines p number found.groups → new ≡ text ++ runs_lines shows runs
      → IsAdded lines p shows inputs b number found old new
  added_by number found runs old text new cut set is = record {
    shown = record { groups = found.groups; runs = runs };
    is_shown = record { groups = refl; runs = cut };
    new_is = is ∙ ap (λ (text : List ℕ). text ++ runs_lines shows runs) set;
  }

  -- if the lines of its runs were written
  pub added_if_ok : {T E : Type 0} (number : ℕ) (found : FoundSet) (set : List ℕ) (run : List Choice)
      (old text new : List ℕ) (result : Result T E) → set ≡ found.groups → run ≡ found.run
      → text ≡ old ++ set_lines lines p number set
      → OnOk result ((runs : List (List Choice)) × (shows ≡ true → IsCut (tests_of p inputs b set) run runs)
      × (new ≡ text ++ runs_lines shows runs))
      → OnOk result (IsAdded lines p shows inputs b number found old new)
  added_if_ok number found set run old text new (Err e) set_is run_is text_is made = tt
  added_if_ok number found set run old text new (Ok done) set_is run_is text_is made =
      added_by number found made.0 old text new
      (λ yes. subst (λ (run : List Choice). IsCut (tests_of p inputs b found.groups) run made.0) run_is
      (subst (λ (set : List ℕ). IsCut (tests_of p inputs b set) run made.0) set_is (made.1 yes)))
      (text_is ∙ ap (λ (set : List ℕ). old ++ set_lines lines p number set) set_is) made.2

-- the head of a report and the lines of its sets
pub reported : (source : List ℕ) (lines : List (List ℕ)) (p : Program) (shows : Bool) (inputs : List Input)
    (b : Bounds) (weight : ℕ) (sets : List FoundSet) (head text : List ℕ) → lines ≡ lines_of source
    → head ≡ codes "located: inputs " ++ decimal (length inputs) ++ codes ", weight " ++ decimal weight
    ++ codes ", sets " ++ decimal (length sets) ++ codes "\n"
    → AreAdded lines p shows inputs b 1 sets head text → Reports shows source p inputs b weight sets text
reported source lines p shows inputs b weight sets head text of is all =
    let added = subst (λ (lines : List (List ℕ)). AreAdded lines p shows inputs b 1 sets head text) of all in
    let rest = shown_lines (lines_of source) p shows 1 added.shown in
    let same = AllZip-long (IsShownAs shows p inputs b) sets added.shown added.are_shown in
    record {
      shown = added.shown;
      are_shown = added.are_shown;
      bytes_are = added.new_is ∙ ap (λ (head : List ℕ). head ++ rest) is
          ∙ ap (λ (n : ℕ). (codes "located: inputs " ++ decimal (length inputs) ++ codes ", weight "
          ++ decimal weight ++ codes ", sets " ++ decimal n ++ codes "\n") ++ rest) (sym same);
    }
