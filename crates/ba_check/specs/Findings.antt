-- What is found of a text on a problem: that it is a certificate of a verdict, or the first refused line.

use Rattle.std.specs.Prelude.{◌≡◌, ℕ, ◌+◌, ◌==◌, Bool, cond, ◌&&◌, ◌⊎◌, unwrap_or, Option, None, Some, List, [], ◌∷◌, All, bytes_eq}
use Rattle.ba_cert.specs.declared.head.CertHead.{CertHead}
use Rattle.ba_cert.specs.Reading.{settings_in, step_in}
use Rattle.ba_cert.specs.Text.{HasLine, IsHead, head_line, old_head_line, old_text_of, text_of}
use Rattle.ba_derivations.specs.Derivations.{Derives, Problem, Verdict, start_of, verdict_of}
use Rattle.ba_steps.specs.Numbers.{number_of}
use Rattle.ba_steps.specs.declared.step.CertStep.{CertStep}
use Rattle.ba_steps.specs.declared.step.StepError.{StepError}
use Rattle.ba_choices.specs.Judges.{Judge}
use Rattle.ba_checker.specs.StepRules.{after, error_of}
use Rattle.ba_checker.specs.States.{State}
use Rattle.ba_check.specs.Lines.{lines_in, rest_in}

-- CODES:
-- - of a line that should be a head line, settings or a step, and isn't
-- - of a text that ends too early
-- - of settings other than those of the call
-- - of a step that isn't allowed
abbrev pub bad_line : ℕ
bad_line = 20

-- the code of a text that ends too early
abbrev pub too_early : ℕ
too_early = 21

-- the code of settings that are not those of the call
abbrev pub other_settings : ℕ
other_settings = 22

-- out of memory has no number; no state after lines refuses a step for it
abbrev pub code_of : StepError → ℕ
code_of error = unwrap_or (number_of error) 0

-- THE COURSE OF WHOLE LINES. There is none yet; or only the head line of version 2, and the settings have to
-- follow. Or none of them is refused: how many there are, the state after them, and the verdict if the last
-- one is an End step. Or the first refused line, counted from 1, and its code.
pub data Course : Type 0 where
  Begins : State → Course
  Awaits : State → Course
  Goes : ℕ → State → Option Verdict → Course
  Stops : ℕ → ℕ → Course

-- the first line is the head line of a version
abbrev pub after_head : State → List ℕ → Course
after_head s line =
    cond (bytes_eq line old_head_line) (Goes 1 s None)
    (cond (bytes_eq line head_line) (Awaits s) (Stops 1 bad_line))

-- the settings follow the head line of version 2, and are those of the call
abbrev pub same_settings : CertHead → CertHead → Bool
same_settings h other =
    (h.bounds.turns == other.bounds.turns) && ((h.bounds.frames == other.bounds.frames)
    && ((h.conflicts == other.conflicts) && (h.sets == other.sets)))

-- the course after the line of settings
abbrev pub after_settings : CertHead → State → Option CertHead → Course
after_settings h s None = Stops 2 bad_line
after_settings h s (Some found) = cond (same_settings found h) (Goes 2 s None) (Stops 2 other_settings)

-- each later line is that of a step which is allowed in the state after the lines before
abbrev pub after_step : ℕ → State → CertStep → Option StepError → Course
after_step lines s step None = Goes (lines + 1) (after s step) (verdict_of s step)
after_step lines s step (Some error) = Stops (lines + 1) (code_of error)

-- the course after a line, by the step that it writes
abbrev pub after_read : Judge → ℕ → State → Option CertStep → Course
after_read good lines s None = Stops (lines + 1) bad_line
after_read good lines s (Some step) = after_step lines s step (error_of good s step)

-- the course after one more line
unfoldable pub after_line : CertHead → Judge → Course → List ℕ → Course
after_line h good (Begins s) line = after_head s line
after_line h good (Awaits s) line = after_settings h s (settings_in line)
after_line h good (Goes lines s said) line = after_read good lines s (step_in line)
after_line h good (Stops number code) line = Stops number code

-- the course after these lines
abbrev pub after_lines : CertHead → Judge → Course → List (List ℕ) → Course
after_lines h good course [] = course
after_lines h good course (line ∷ lines) = after_lines h good (after_line h good course line) lines

-- by the settings of the call
abbrev pub course_of : CertHead → Problem → List ℕ → Course
course_of h p text = after_lines h p.good (Begins (start_of p)) (lines_in text)

-- the first refused whole line of the text, and its code
abbrev pub refusal_in : Course → Option (ℕ × ℕ)
refusal_in (Begins s) = None
refusal_in (Awaits s) = None
refusal_in (Goes lines s said) = None
refusal_in (Stops number code) = Some (number, code)

-- the first refused line and its code
abbrev pub first_refused : CertHead → Problem → List ℕ → Option (ℕ × ℕ)
first_refused h p text = refusal_in (course_of h p text)

-- WHAT IS FOUND
pub data Finding : Type 0 where
  Accepted : Verdict → Finding
  Refused : ℕ → ℕ → Finding

-- a text ends after the line of an End step, and not inside a line
abbrev pub finding_after : ℕ → Option Verdict → List ℕ → Finding
finding_after lines None rest = Refused (lines + 1) too_early
finding_after lines (Some verdict) [] = Accepted verdict
finding_after lines (Some verdict) (b ∷ bs) = Refused (lines + 1) too_early

-- the finding at the end of a text, by its course and its bytes after the last line feed
abbrev pub finding_by : Course → List ℕ → Finding
finding_by (Begins s) rest = Refused 1 too_early
finding_by (Awaits s) rest = Refused 2 too_early
finding_by (Goes lines s said) rest = finding_after lines said rest
finding_by (Stops number code) rest = Refused number code

-- what a text says as a certificate, or its first refused line
abbrev pub finding_of : CertHead → Problem → List ℕ → Finding
finding_of h p text = finding_by (course_of h p text) (rest_in text)

-- CERTIFICATES: the text of steps that derive a verdict, with the settings of the call or of version 1
abbrev pub IsTextOf : CertHead → List ℕ → List CertStep → Type 0
IsTextOf h text steps = (IsHead h × (text ≡ text_of h steps)) ⊎ (text ≡ old_text_of steps)

-- the text is that of steps that derive this verdict
pub record IsCertificateOf (h : CertHead) (p : Problem) (text : List ℕ) (verdict : Verdict) : Type 0 where
  pub steps : List CertStep
  pub have_lines : All HasLine steps
  pub text_is : IsTextOf h text steps
  pub derives : Derives p steps verdict
