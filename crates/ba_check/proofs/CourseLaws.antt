-- What comes of lines, one after the other.

use Rattle.std.proofs.Common.{◌≡◌, ℕ, Option, None, Some, Result, Ok, Err, List, [], ◌∷◌, ◌++◌, refl, ap, ◌∙◌}
use Rattle.std.proofs.lemmas.Option.{same_Some}
use Rattle.ba_cert.specs.declared.head.CertHead.{CertHead}
use Rattle.ba_choices.specs.Judges.{Judge}
use Rattle.ba_derivations.specs.Derivations.{Problem, start_of}
use Rattle.ba_check.specs.Findings.{Course, Awaits, Begins, Goes, Stops, Refused, after_line, after_lines, course_of, finding_by, finding_of, first_refused, refusal_in}
use Rattle.ba_check.specs.Lines.{lines_in, rest_in}
use Rattle.ba_check.specs.declared.error.CheckError.{CheckError}
use Rattle.ba_check.specs.declared.error.CheckError.TheVariants.{Line, Memory}
use Rattle.ba_check.proofs.LineLaws.{lines-append}

-- a refusal stays
pub stopped : (head : CertHead) (good : Judge) (number code : ℕ) (lines : List (List ℕ)) →
    after_lines head good (Stops number code) lines ≡ Stops number code
unfolding after_line
stopped head good number code [] = refl
stopped head good number code (line ∷ lines) = stopped head good number code lines

pub stopped-by : (head : CertHead) (good : Judge) (course : Course) (number code : ℕ)
    (lines : List (List ℕ)) →
    course ≡ Stops number code → after_lines head good course lines ≡ Stops number code
stopped-by head good course number code lines is =
    ap (λ c. after_lines head good c lines) is ∙ stopped head good number code lines

-- lines after others
pub lines-then : (head : CertHead) (good : Judge) (course : Course) (lines others : List (List ℕ)) →
    after_lines head good course (lines ++ others)
    ≡ after_lines head good (after_lines head good course lines) others
lines-then head good course [] others = refl
lines-then head good course (line ∷ lines) others =
    lines-then head good (after_line head good course line) lines others

-- a text that goes on
pub course-append : (head : CertHead) (p : Problem) (text more : List ℕ) →
    course_of head p (text ++ more)
    ≡ after_lines head p.good (course_of head p text) (lines_in (rest_in text ++ more))
course-append head p text more =
    ap (after_lines head p.good (Begins (start_of p))) (lines-append text more)
    ∙ lines-then head p.good (Begins (start_of p)) (lines_in text) (lines_in (rest_in text ++ more))

-- an answer on whole lines is the first that is refused
abbrev pub TellsRefusal : Result Unit CheckError → Option (ℕ × ℕ) → Type 0
TellsRefusal (Ok _) refusal = refusal ≡ None
TellsRefusal (Err (Line line code)) refusal = refusal ≡ Some (line, code)
TellsRefusal (Err Memory) refusal = Unit {0}

-- which refusal it is
pub refused-is : (course : Course) (number code : ℕ) → refusal_in course ≡ Some (number, code) →
    course ≡ Stops number code
refused-is (Begins s) number code e = cc
refused-is (Awaits s) number code e = cc
refused-is (Goes lines s said) number code e = cc
refused-is (Stops line other) number code e =
    let parts : (line, other) ≡ (number, code) = same_Some (line, other) (number, code) e in
    ap (λ (r : ℕ × ℕ). Stops r.0 r.1) parts

pub refused-stays : (head : CertHead) (p : Problem) (text more : List ℕ) (number code : ℕ) →
    first_refused head p text ≡ Some (number, code) → first_refused head p (text ++ more)
    ≡ Some (number, code)
refused-stays head p text more number code e =
    ap refusal_in (course-append head p text more
    ∙ stopped-by head p.good (course_of head p text) number code (lines_in (rest_in text ++ more))
    (refused-is (course_of head p text) number code e))

-- it is what is found
pub refused-found : (head : CertHead) (p : Problem) (text : List ℕ) (number code : ℕ) →
    first_refused head p text ≡ Some (number, code) → finding_of head p text ≡ Refused number code
refused-found head p text number code e =
    ap (λ c. finding_by c (rest_in text)) (refused-is (course_of head p text) number code e)
