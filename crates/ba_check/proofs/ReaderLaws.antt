-- How a reader begins, and what it answers.

use Rattle.std.proofs.Common.{◌≡◌, ℕ, false, None, Err, List, [], sym, ap, ◌∙◌, subst}
use Rattle.std.proofs.lemmas.List.Elements.{All-nil}
use Rattle.ba_bytes.specs.Classes.{is_line_end}
use Rattle.ba_cert.specs.declared.head.CertHead.{CertHead}
use Rattle.ba_derivations.specs.Derivations.{Problem, start_of}
use Rattle.ba_check.specs.Answers.{Tells, problem_by}
use Rattle.ba_check.specs.Findings.{Begins, after_lines, course_of, finding_of, first_refused, refusal_in}
use Rattle.ba_check.specs.Readings.{Confirming, Follows, HasRead}
use Rattle.ba_check.specs.declared.error.CheckError.{CheckError}
use Rattle.ba_check.specs.declared.error.CheckError.TheVariants.{Line, Memory}
use Rattle.ba_check.specs.declared.settings.Settings.{Settings}
use Rattle.ba_choices.specs.Judges.{Judge}
use Rattle.ba_encode.specs.declared.encoded.Encoded.{Encoded}
use Rattle.ba_check.proofs.CourseLaws.{TellsRefusal, refused-found}
use Rattle.ba_check.proofs.LineLaws.{all-rest, no-line}

-- nothing is read
nothing : (head : CertHead) (p : Problem) → course_of head p [] ≡ Begins (start_of p)
nothing head p = ap (after_lines head p.good (Begins (start_of p))) (no-line [] (All-nil (λ b. is_line_end b ≡
    false)))

pub started : (head : CertHead) (p : Problem) (reader : Confirming) → reader.head ≡ head → reader.good
    ≡ p.good →
    reader.course ≡ Begins (start_of p) → reader.rest ≡ [] → reader.refusal ≡ None → HasRead head p [] reader
started head p reader same good course rest none = record {
  same_head = same;
  same_judge = good;
  follows = subst (Follows head p [] reader.course reader.rest) (sym none) (
    course ∙ sym (nothing head p),
    rest ∙ sym (all-rest [] (All-nil (λ b. is_line_end b ≡ false))),
    ap refusal_in (nothing head p),
  );
}

-- a reader by one judge is one by each that calls the same runs good
pub read-by : (head : CertHead) (good other : Judge) (settings : Settings) (encoded : Encoded) (text : List ℕ)
    (reader : Confirming) → good ≡ other → HasRead head (problem_by good settings encoded) text reader →
    HasRead head (problem_by other settings encoded) text reader
read-by head good other settings encoded text reader same =
    subst (λ (judge : Judge). HasRead head (problem_by judge settings encoded) text reader) same

-- a refusal is what is found
pub refusal-found : (head : CertHead) (p : Problem) (text : List ℕ) (error : CheckError) →
    TellsRefusal (Err error) (first_refused head p text) → Tells (Err error) (finding_of head p text)
refusal-found head p text (Line number code) is = refused-found head p text number code is
refusal-found head p text Memory is = tt
