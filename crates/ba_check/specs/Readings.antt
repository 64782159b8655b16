-- What holds of a reader of a certificate.

use Rattle.std.specs.Prelude.{◌≡◌, ℕ, Option, None, Some, option_map, Result, Ok, Err, List}
use Rattle.ba_cert.specs.declared.error.CertError.{CertError}
use Rattle.ba_cert.specs.declared.head.CertHead.{CertHead}
use Rattle.ba_cert.specs.declared.error.CertError.TheVariants as unread
use Rattle.ba_check.specs.Findings.{Awaits, Begins, Course, Goes, Stops, bad_line, course_of, first_refused}
use Rattle.ba_check.specs.Lines.{lines_in, rest_in}
use Rattle.ba_check.specs.declared.confirmed.Ending.{Ending}
use Rattle.ba_check.specs.declared.confirmed.Ending.TheVariants as ending
use Rattle.ba_check.specs.declared.error.CheckError.{CheckError}
use Rattle.ba_check.specs.declared.error.CheckError.TheVariants.{Line, Memory}
use Rattle.ba_check.specs.declared.checked_lines.CheckedLines.{CheckedLines}
use Rattle.ba_check.specs.declared.checked_lines.Stage.{Stage}
use Rattle.ba_check.specs.declared.checked_lines.Stage.TheVariants as stage
use Rattle.ba_derivations.specs.Derivations.{Problem, Verdict, Located, NoRepair, TooMany, Spent}
use Rattle.ba_steps.specs.Numbers.{number_of}
use Rattle.ba_steps.specs.declared.step.StepError.{StepError}
use Rattle.ba_choices.specs.Judges.{Judge}
use Rattle.ba_checker.specs.States.{State}

-- the verdict of an End step, in the state before it or after it
abbrev pub verdict_at : State → Ending → Verdict
verdict_at s ending.Located = Located s.bound s.sets
verdict_at s ending.NoRepair = NoRepair
verdict_at s ending.TooMany = TooMany s.bound s.sets
verdict_at s ending.Spent = Spent

-- the course of the lines so far, if none was refused
abbrev pub course_at : Stage → CheckedLines → Course
course_at stage.Head checked = Begins checked.checker
course_at stage.Settings checked = Awaits checked.checker
course_at stage.Steps checked =
    Goes checked.lines checked.checker (option_map (verdict_at checked.checker) checked.ending)

-- the course of the lines checked so far
abbrev pub course_kept : CheckedLines → Course
course_kept checked = course_at checked.stage checked

-- the error of a line whose step has this error
abbrev pub error_with : ℕ → Option ℕ → CheckError
error_with line None = Memory
error_with line (Some code) = Line line code

-- the refusal of a line whose step has this error
abbrev pub error_at : ℕ → StepError → CheckError
error_at line error = error_with line (number_of error)

-- the error of a line that isn't read
abbrev pub unread_at : ℕ → CertError → CheckError
unread_at line unread.BadLine = Line line bad_line
unread_at line unread.Memory = Memory

-- the state after a line follows its course, or the line is refused
abbrev pub Keeps : Result Unit CheckError → CheckedLines → Course → Type 0
Keeps (Ok _) new course = course ≡ course_kept new
Keeps (Err (Line line code)) new course = course ≡ Stops line code
Keeps (Err Memory) new course = Unit {0}

-- the state after these bytes follows the course of their lines, or one of the lines is refused
abbrev pub KeepsWith : Result Unit CheckError → CheckedLines → List ℕ → (List (List ℕ) → Course) → List ℕ →
    Type 0
KeepsWith (Ok _) new rest course bytes = (course (lines_in bytes) ≡ course_kept new) × (rest ≡ rest_in bytes)
KeepsWith (Err (Line line code)) new rest course bytes = course (lines_in bytes) ≡ Stops line code
KeepsWith (Err Memory) new rest course bytes = Unit {0}

-- THE STATE OF A READER:
-- - the settings of the call, and which runs are good
-- - the course of the whole lines so far, and what follows the last of them
-- - the error that it answers from now on
pub record Confirming : Type 0 where
  pub head : CertHead
  pub good : Judge
  pub course : Course
  pub rest : List ℕ
  pub refusal : Option CheckError

-- A reader has read a text, on a problem. While no line is refused, it keeps the course of the lines and the
-- last unfinished line. Else it keeps the first refused line.
abbrev pub Follows : CertHead → Problem → List ℕ → Course → List ℕ → Option CheckError → Type 0
Follows h p text course rest None =
    (course ≡ course_of h p text) × (rest ≡ rest_in text) × (first_refused h p text ≡ None)
Follows h p text course rest (Some (Line line code)) = first_refused h p text ≡ Some (line, code)
Follows h p text course rest (Some Memory) = Unit {0}

-- a reader has read this text: its course, the bytes after the last line feed, and its refusal
pub record HasRead (h : CertHead) (p : Problem) (text : List ℕ) (reader : Confirming) : Type 0 where
  pub same_head : reader.head ≡ h
  pub same_judge : reader.good ≡ p.good
  pub follows : Follows h p text reader.course reader.rest reader.refusal

-- the answer of a reader that has this error, or none
abbrev pub answer_by : Option CheckError → Result Unit CheckError
answer_by None = Ok tt
answer_by (Some error) = Err error
