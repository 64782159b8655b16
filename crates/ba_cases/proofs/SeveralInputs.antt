-- Several inputs that a text writes, and that their runs fail.

use Rattle.std.proofs.Common.{◌≡◌, ◌≢◌, ℕ, Option, None, Some, option_map, List, [], ◌∷◌, map, refl, sym, ap, ap₂, ◌∙◌}
use Rattle.std.specs.List.{AllByRecursion, AllZip}
use Rattle.std.specs.Option.{option_or}
use Rattle.ba_answers.specs.declared.answers.Answer.{Answer}
use Rattle.ba_answers.specs.declared.file.File.{File}
use Rattle.ba_cases.specs.AllCases.{inputs_in}
use Rattle.ba_cases.specs.AtOnce.{first_answer, unfailing}
use Rattle.ba_cases.specs.Inputs.{end_of, ends_answer, input_at, inputs_of, inputs_refusal, refusal_of}
use Rattle.ba_inputs.specs.InputLines.{AreInputsIn, InputsFault, IsInputIn, NoInput, Numbered, first_refused, input_lines, too_few}
use Rattle.ba_inputs.specs.declared.inputs.InputLine.{InputLine}
use Rattle.ba_tree.specs.Run.{plain_run}
use Rattle.ba_tree.specs.declared.run.Bounds.{Bounds}
use Rattle.ba_tree.specs.declared.run.Outcome.TheVariants as outcome
use Rattle.ba_tree.specs.declared.tree.Program.{Program}

-- THE INPUTS THAT ARE READ are those that the text writes

entry_is : (p : Program) (line : Numbered) (entry : InputLine) → IsInputIn p line entry →
    entry ≡ input_at p line
entry_is p (number, line) entry (same, is) =
    λ i. record { line = same i; input = record { values = is.values i } }

entries_are : (p : Program) (lines : List Numbered) (entries : List InputLine) →
    AllZip (IsInputIn p) lines entries → entries ≡ map (input_at p) lines
entries_are p [] [] each = refl
entries_are p [] (entry ∷ entries) each = absurd each
entries_are p (line ∷ lines) [] each = absurd each
entries_are p (line ∷ lines) (entry ∷ entries) each =
    ap₂ (λ (e : InputLine) (es : List InputLine). e ∷ es) (entry_is p line entry each.0)
    (entries_are p lines entries each.1)

pub inputs_are : (p : Program) (text : List ℕ) (entries : List InputLine) → AreInputsIn p text entries →
    entries ≡ inputs_of p text
inputs_are p text entries each = entries_are p (input_lines text) entries each

-- where one input is wanted at least, there is one
some_fault : (which : File) (first : Option InputsFault) (f : InputsFault) →
    option_map (refusal_of which) (option_or first (Some f)) ≡ None → ⊥
some_fault which None f none = cc
some_fault which (Some g) f none = cc

pub some_input : (which : File) (p : Program) (text : List ℕ) → inputs_refusal which 1 p text ≡ None →
    inputs_in p text ≢ []
some_input which p text none = by (input_lines text) refl
  where
    by : (lines : List Numbered) → input_lines text ≡ lines →
        map (λ (entry : InputLine). entry.input) (map (input_at p) lines) ≢ []
    by [] is empty = some_fault which (first_refused p 64 []) NoInput
        (sym (ap (λ (lines : List Numbered). option_map (refusal_of which)
        (option_or (first_refused p 64 lines) (too_few 1 lines))) is) ∙ none)
    by (line ∷ lines) is empty = cc

-- RUNS THAT HAVE NO ANSWER AT ONCE fail

pub last_none : (a b c d : Option Answer) → first_answer (a ∷ b ∷ c ∷ d ∷ []) ≡ None → d ≡ None
last_none (Some a) b c d none = absurd (let no : ⊥ = cc in no)
last_none None (Some b) c d none = absurd (let no : ⊥ = cc in no)
last_none None None (Some c) d none = absurd (let no : ⊥ = cc in no)
last_none None None None (Some d) none = absurd (let no : ⊥ = cc in no)
last_none None None None None none = refl

not_done : (bounds : Bounds) (p : Program) (entry : InputLine) → end_of bounds p entry ≡ None →
    plain_run p entry.input bounds ≢ outcome.Done
not_done bounds p entry none done =
    let both = sym (ap (unfailing p (Some entry.line)) done) ∙ none in cc

pub none_done : (bounds : Bounds) (p : Program) (entries : List InputLine) → ends_answer bounds p entries ≡
    None →
    AllByRecursion (λ (entry : InputLine). plain_run p entry.input bounds ≢ outcome.Done) entries
none_done bounds p [] none = tt
none_done bounds p (entry ∷ entries) none = by (none_done bounds p entries) (end_of bounds p entry) refl none
  where
    by : (ends_answer bounds p entries ≡ None →
        AllByRecursion (λ (e : InputLine). plain_run p e.input bounds ≢ outcome.Done) entries) →
        (end : Option Answer) → end_of bounds p entry ≡ end →
        first_answer (end ∷ map (end_of bounds p) entries) ≡ None →
        AllByRecursion (λ (e : InputLine). plain_run p e.input bounds ≢ outcome.Done) (entry ∷ entries)
    by later None ends rest = (not_done bounds p entry ends, later rest)
    by later (Some a) ends rest = absurd (let none : ⊥ = cc in none)
