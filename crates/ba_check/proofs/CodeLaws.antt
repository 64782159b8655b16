-- What the code keeps, line by line and piece by piece.

use Rattle.std.proofs.Common.{◌≡◌, ℕ, ◌+◌, ◌<◌, ◌≤◌, ltb, Bool, true, false, cond, Option, None, Some, Result, Ok, Err, List, [], ◌∷◌, ◌++◌, length, take, drop, get_or, refl, sym, ap, ◌∙◌, subst, arith, position}
use Rattle.std.specs.List.{after_first, before_first, position_or_len}
use Rattle.std.proofs.lemmas.Bool.{eqb-true, ltb-false, ltb-true}
use Rattle.std.proofs.lemmas.List.{get_or-take, length-take}
use Rattle.std.proofs.lemmas.List.Elements.{All-append, All-from_get_or, All-nil}
use Rattle.std.proofs.lemmas.List.Sums.{fails_before_first, passes_at_first, split_at_first}
use Rattle.ba_bytes.specs.Classes.{is_line_end}
use Rattle.ba_cert.specs.Reading.{settings_in, step_in}
use Rattle.ba_cert.specs.declared.head.CertHead.{CertHead}
use Rattle.ba_derivations.specs.Derivations.{Problem}
use Rattle.ba_choices.specs.Judges.{Judge}
use Rattle.ba_check.specs.Answers.{Tells}
use Rattle.ba_check.specs.Findings.{Course, after_head, after_line, after_lines, after_read, after_settings, course_of, finding_by, finding_of, first_refused, refusal_in}
use Rattle.ba_check.specs.Lines.{HasNoFeed, IsCut, lines_in, rest_in}
use Rattle.ba_check.specs.Readings.{Confirming, Follows, HasRead, Keeps, KeepsWith, answer_by, course_at, course_kept}
use Rattle.ba_check.specs.declared.confirmed.Confirmed.{Confirmed}
use Rattle.ba_check.specs.declared.error.CheckError.{CheckError}
use Rattle.ba_check.specs.declared.error.CheckError.TheVariants.{Line, Memory}
use Rattle.ba_check.specs.declared.checked_lines.CheckedLines.{CheckedLines}
use Rattle.ba_check.specs.declared.checked_lines.Stage.{Stage}
use Rattle.ba_check.specs.declared.checked_lines.Stage.TheVariants as stage
use Rattle.ba_check.proofs.CourseLaws.{TellsRefusal, course-append, refused-found, refused-stays, stopped-by}
use Rattle.ba_check.proofs.LineLaws.{all-rest, cut-lines, cut-rest, no-line, rest-append, rest-plain}

-- CUTS at the first line feed

plain-before : (bytes : List ℕ) (n : ℕ) → n ≤ position_or_len is_line_end bytes → HasNoFeed (take n bytes)
plain-before bytes n low = All-from_get_or (λ b. is_line_end b ≡ false) (take n bytes) 0 each
  where
    each : (i : ℕ) → i < length (take n bytes) → is_line_end (get_or (take n bytes) i 0) ≡ false
    each i few =
        let below : i < n = omega (arith, few, length-take n bytes) in
        let first : i < position_or_len is_line_end bytes = omega (arith, below, low) in
        ap is_line_end (get_or-take n bytes i 0 below) ∙ fails_before_first is_line_end bytes i 0 first

cut-first : (bytes : List ℕ) → position_or_len is_line_end bytes < length bytes →
    IsCut bytes (before_first is_line_end bytes) (after_first is_line_end bytes)
cut-first bytes near =
    let at = position_or_len is_line_end bytes in
    let low : at ≤ at = omega arith in
    record {
      bytes_are =
          split_at_first is_line_end bytes 0 near
          ∙ ap (λ b. before_first is_line_end bytes ++ b ∷ after_first is_line_end bytes)
          (eqb-true (get_or bytes at 0) 10 (passes_at_first is_line_end bytes 0 near));
      plain = plain-before bytes at low;
    }

pub cut-some : (bytes : List ℕ) (place : ℕ) → position is_line_end bytes ≡ Some place →
    IsCut bytes (take place bytes) (drop (place + 1) bytes)
cut-some bytes place e = by (ltb (position_or_len is_line_end bytes) (length bytes)) refl e
  where
    by : (t : Bool) → ltb (position_or_len is_line_end bytes) (length bytes) ≡ t →
        cond t (Some (position_or_len is_line_end bytes)) None ≡ Some place →
        IsCut bytes (take place bytes) (drop (place + 1) bytes)
    by true is found =
        let at : position_or_len is_line_end bytes ≡ place = cc in
        subst (λ n. IsCut bytes (take n bytes) (drop (n + 1) bytes)) at
        (cut-first bytes (ltb-true (position_or_len is_line_end bytes) (length bytes) is))
    by false is found = cc

pub cut-none : (bytes : List ℕ) → position is_line_end bytes ≡ None → HasNoFeed bytes
cut-none bytes e = by (ltb (position_or_len is_line_end bytes) (length bytes)) refl e
  where
    by : (t : Bool) → ltb (position_or_len is_line_end bytes) (length bytes) ≡ t →
        cond t (Some (position_or_len is_line_end bytes)) None ≡ None → HasNoFeed bytes
    by true is found = cc
    by false is found =
        let far = ltb-false (position_or_len is_line_end bytes) (length bytes) is in
        λ k d few. fails_before_first is_line_end bytes k d (omega (arith, far, few))

-- THE HEAD LINE, SETTINGS, AND STEPS

pub head-line : (head : CertHead) (good : Judge) (old : CheckedLines) (line : List ℕ) →
    old.stage ≡ stage.Head →
    after_line head good (course_kept old) line ≡ after_head old.checker line
unfolding after_line
head-line head good old line is = ap (λ s. after_line head good (course_at s old) line) is

pub settings-line : (head : CertHead) (good : Judge) (old : CheckedLines) (line : List ℕ) →
    old.stage ≡ stage.Settings →
    after_line head good (course_kept old) line ≡ after_settings head old.checker (settings_in line)
unfolding after_line
settings-line head good old line is = ap (λ s. after_line head good (course_at s old) line) is

pub step-line : (head : CertHead) (good : Judge) (old : CheckedLines) (line : List ℕ) →
    old.stage ≡ stage.Steps →
    after_line head good (course_kept old) line ≡ after_read good old.lines old.checker (step_in line)
unfolding after_line
step-line head good old line is = ap (λ s. after_line head good (course_at s old) line) is

-- PIECES: what came of a piece so far, and what is left of it

pub record IsUnderWay (head : CertHead) (good : Judge) (old : Course) (rest piece : List ℕ) (now : Course)
    (kept left : List
    ℕ) : Type 0
  where
    pub plain : HasNoFeed kept
    pub lines : after_lines head good old (lines_in (rest ++ piece))
        ≡ after_lines head good now (lines_in (kept ++
        left))
    pub same_rest : rest_in (rest ++ piece) ≡ rest_in (kept ++ left)

module _ (head : CertHead) (good : Judge) (old : Course) (rest piece : List ℕ) (now : Course)
    (kept left : List ℕ)
    (way : IsUnderWay head good old rest piece now kept left) where
  pub line-more : (new : Course) (empty end behind : List ℕ) → IsCut left end behind → empty ≡ [] →
      after_line head good now (kept ++ end) ≡ new → IsUnderWay head good old rest piece new empty behind
  line-more new empty end behind cut none is =
      subst (λ e. IsUnderWay head good old rest piece new e behind) (sym none) (record {
        plain = All-nil (λ b. is_line_end b ≡ false);
        lines =
            way.lines
            ∙ ap (after_lines head good now) (cut-lines kept left end behind way.plain cut)
            ∙ ap (λ c. after_lines head good c (lines_in behind)) is;
        same_rest = way.same_rest ∙ cut-rest kept left end behind way.plain cut;
      })

  pub line-refused : (new later : CheckedLines) (bytes end behind : List ℕ) (error : CheckError) →
      IsCut left end behind → Keeps (Err error) new (after_line head good now (kept ++ end)) →
      KeepsWith (Err error) later bytes (after_lines head good old) (rest ++ piece)
  line-refused new later bytes end behind (Line number code) cut keeps =
      way.lines
      ∙ ap (after_lines head good now) (cut-lines kept left end behind way.plain cut)
      ∙ stopped-by head good (after_line head good now (kept ++ end)) number code (lines_in behind) keeps
  line-refused new later bytes end behind Memory cut keeps = tt

  pub piece-ends : (new : CheckedLines) (bytes : List ℕ) → now ≡ course_kept new → bytes ≡ kept ++ left →
      HasNoFeed left → KeepsWith (Ok tt) new bytes (after_lines head good old) (rest ++ piece)
  piece-ends new bytes is all plain =
      let both : HasNoFeed (kept ++ left) = All-append (λ b. is_line_end b ≡ false) kept left way.plain
      plain in (
        way.lines ∙ ap (after_lines head good now) (no-line (kept ++ left) both) ∙ is,
        all ∙ sym (all-rest (kept ++ left) both) ∙ sym way.same_rest,
      )

-- READERS

-- a reader that has come so far
record IsFollowed (head : CertHead) (p : Problem) (text : List ℕ) (course : Course) (rest : List ℕ) : Type 0
  where
    course_is : course ≡ course_of head p text
    rest_is : rest ≡ rest_in text

followed : (head : CertHead) (p : Problem) (text : List ℕ) (reader : Confirming) →
    HasRead head p text reader →
    reader.refusal ≡ None →
    IsFollowed head p text reader.course reader.rest
followed head p text reader has none =
    let f = subst (Follows head p text reader.course reader.rest) none has.follows in
    record { course_is = f.0; rest_is = f.1 }

pub rest-read : (head : CertHead) (p : Problem) (text : List ℕ) (reader : Confirming) →
    HasRead head p text reader →
    reader.refusal ≡ None → HasNoFeed reader.rest
rest-read head p text reader has none =
    subst HasNoFeed (sym (followed head p text reader has none).rest_is) (rest-plain text)

-- it takes a piece
record IsFed (head : CertHead) (p : Problem) (text piece : List ℕ) (own : CertHead) (good : Judge)
    (course : Course) (rest : List ℕ) : Type 0
  where
    course_is : after_lines own good course (lines_in (rest ++ piece)) ≡ course_of head p (text ++ piece)
    rest_is : rest_in (rest ++ piece) ≡ rest_in (text ++ piece)

fed : (head : CertHead) (p : Problem) (text piece : List ℕ) (reader : Confirming) →
    HasRead head p text reader →
    reader.refusal ≡ None →
    IsFed head p text piece reader.head reader.good reader.course reader.rest
fed head p text piece reader has none =
    let f = followed head p text reader has none in
    record {
      course_is =
          ap (λ h. after_lines h reader.good reader.course (lines_in (reader.rest ++ piece))) has.same_head
          ∙ ap (λ good. after_lines head good reader.course (lines_in (reader.rest ++ piece))) has.same_judge
          ∙ ap (λ c. after_lines head p.good c (lines_in (reader.rest ++ piece))) f.course_is
          ∙ ap (λ r. after_lines head p.good (course_of head p text) (lines_in (r ++ piece))) f.rest_is
          ∙ sym (course-append head p text piece);
      rest_is = ap (λ r. rest_in (r ++ piece)) f.rest_is ∙ sym (rest-append text piece);
    }

-- what is kept is no refusal
unrefused : (s : Stage) (checked : CheckedLines) → refusal_in (course_at s checked) ≡ None
unrefused stage.Head checked = refl
unrefused stage.Settings checked = refl
unrefused stage.Steps checked = refl

follows-by : (head : CertHead) (p : Problem) (text : List ℕ) (refusal : Option CheckError)
    (new : CheckedLines)
    (rest : List ℕ) (course : List (List ℕ) → Course) (bytes : List ℕ) →
    course (lines_in bytes) ≡ course_of head p text → rest_in bytes ≡ rest_in text →
    KeepsWith (answer_by refusal) new rest course bytes → Follows head p text (course_kept new) rest refusal
follows-by head p text None new rest course bytes is all keeps =
    let same : course_kept new ≡ course_of head p text = sym keeps.0 ∙ is in
    (same, keeps.1 ∙ all, ap refusal_in (sym same) ∙ unrefused new.stage new)
follows-by head p text (Some (Line number code)) new rest course bytes is all keeps =
    ap refusal_in (sym is ∙ keeps)
follows-by head p text (Some Memory) new rest course bytes is all keeps = tt

pub piece-read : (head : CertHead) (p : Problem) (text piece : List ℕ) (reader : Confirming)
    (own : CertHead) (good : Judge) (new : CheckedLines)
    (rest : List ℕ) (refusal : Option CheckError) → HasRead head p text reader → reader.refusal ≡ None →
    own ≡ reader.head → good ≡ reader.good →
    KeepsWith (answer_by refusal) new rest (after_lines reader.head reader.good reader.course)
    (reader.rest ++ piece) →
    HasRead head p (text ++ piece)
    (record { head = own; good = good; course = course_kept new; rest = rest; refusal = refusal })
piece-read head p text piece reader own good new rest refusal has none own_is same keeps =
    let f = fed head p text piece reader has none in
    record {
      same_head = own_is ∙ has.same_head;
      same_judge = same ∙ has.same_judge;
      follows = follows-by head p (text ++ piece) refusal new rest
          (after_lines reader.head reader.good reader.course) (reader.rest ++ piece) f.course_is f.rest_is
          keeps;
    }

-- after a refusal it stays as it is
refusal-follows : (head : CertHead) (p : Problem) (text piece : List ℕ) (course : Course) (rest : List ℕ)
    (error : CheckError) →
    Follows head p text course rest (Some error) → Follows head p (text ++ piece) course rest (Some error)
refusal-follows head p text piece course rest (Line number code) f =
    refused-stays head p text piece number code f
refusal-follows head p text piece course rest Memory f = tt

pub refusal-stays : (head : CertHead) (p : Problem) (text piece : List ℕ) (reader : Confirming)
    (error : CheckError) →
    HasRead head p text reader → reader.refusal ≡ Some error → HasRead head p (text ++ piece) reader
refusal-stays head p text piece reader error has is = record {
  same_head = has.same_head;
  same_judge = has.same_judge;
  follows = subst (Follows head p (text ++ piece) reader.course reader.rest) (sym is)
      (refusal-follows head p text piece reader.course reader.rest error
      (subst (Follows head p text reader.course reader.rest) is has.follows));
}

-- what it answers is the first refused line
tells-refusal : (head : CertHead) (p : Problem) (text : List ℕ) (course : Course) (rest : List ℕ)
    (refusal : Option
    CheckError) →
    Follows head p text course rest refusal → TellsRefusal (answer_by refusal) (first_refused head p text)
tells-refusal head p text course rest None f = f.2
tells-refusal head p text course rest (Some (Line number code)) f = f
tells-refusal head p text course rest (Some Memory) f = tt

pub tells-first : (head : CertHead) (p : Problem) (text : List ℕ) (reader : Confirming)
    (result : Result Unit CheckError) →
    HasRead head p text reader → result ≡ answer_by reader.refusal →
    TellsRefusal result (first_refused head p text)
tells-first head p text reader result has is =
    subst (λ r. TellsRefusal r (first_refused head p text)) (sym is)
    (tells-refusal head p text reader.course reader.rest reader.refusal has.follows)

-- and in the end what is found
tells-error : (head : CertHead) (p : Problem) (text : List ℕ) (course : Course) (rest : List ℕ)
    (error : CheckError) →
    Follows head p text course rest (Some error) → Tells (Err error) (finding_of head p text)
tells-error head p text course rest (Line number code) f = refused-found head p text number code f
tells-error head p text course rest Memory f = tt

pub refusal-tells : (head : CertHead) (p : Problem) (text : List ℕ) (reader : Confirming)
    (error : CheckError) →
    HasRead head p text reader → reader.refusal ≡ Some error → Tells (Err error) (finding_of head p text)
refusal-tells head p text reader error has is =
    tells-error head p text reader.course reader.rest error
    (subst (Follows head p text reader.course reader.rest) is has.follows)

pub end-tells : (head : CertHead) (p : Problem) (text : List ℕ) (reader : Confirming)
    (result : Result Confirmed CheckError) →
    HasRead head p text reader → reader.refusal ≡ None → Tells result (finding_by reader.course reader.rest) →
    Tells result (finding_of head p text)
end-tells head p text reader result has none tells =
    let f = followed head p text reader has none in
    subst (λ c. Tells result (finding_by c (rest_in text))) f.course_is
    (subst (λ r. Tells result (finding_by reader.course r)) f.rest_is tells)
