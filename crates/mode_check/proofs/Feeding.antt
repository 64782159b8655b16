-- A reader of certificates that is fed a file.

use Rattle.std.proofs.Common.{◌≡◌, ◌∙◌, inl, inr, ℕ, ◌+◌, ◌-◌, ◌^◌, ◌<◌, ◌≤◌, min, true, Option, None, Some, option_map, IfSome, List, [], ◌++◌, length, take, Result, Ok, Err, IfErr, refl, sym, ap, subst, length-append, length-take-le, append-nil, arith}
use Rattle.std.specs.Result.{IsErrAnd}
use Rattle.ba_cert.specs.declared.head.CertHead.{CertHead}
use Rattle.ba_check.specs.Answers.{IsTrueOf, Tells, confirmed_of}
use Rattle.ba_check.specs.Findings.{Accepted, Finding, Refused, finding_of, first_refused}
use Rattle.ba_check.specs.Lines.{lines_in}
use Rattle.ba_check.specs.Readings.{Confirming, HasRead}
use Rattle.ba_check.specs.declared.confirmed.Confirmed.{Confirmed}
use Rattle.ba_check.specs.declared.error.CheckError.{CheckError}
use Rattle.ba_check.specs.declared.error.CheckError.TheVariants.{Line, Memory}
use Rattle.ba_check.proofs.CourseLaws.{TellsRefusal}
use Rattle.ba_commands.specs.Modes.{Word}
use Rattle.ba_derivations.specs.Derivations.{Problem, Verdict}
use Rattle.ba_world.specs.Read.{IsReadTo, IsReadWhole, RoseBy, piece_size, read_error}
use Rattle.ba_world.specs.World.{Consumes, GivesNone, GivesPiece, HasReadFault, IsOpened, Outside}
use Rattle.ba_world.specs.declared.read.ReadFileError.TheVariants as read
use Rattle.ba_world.specs.declared.world.WorldError.{WorldError}
use Rattle.ba_world.specs.declared.world.WorldError.TheVariants as world
use Rattle.ba_world.proofs.WholeReads.{read_on, rose_since}
use Rattle.mode_check.specs.Certificates.{CertificateComesTo, EndsRefused, IsAccepted, IsFed, IsUnfed, Checking, StopsRefused, StopsTooLong, StopsUnread, claim_of, unfed_answer}
use Rattle.ba_answers.specs.Limits.{certificate_limit}
use Rattle.ba_answers.specs.declared.answers.Answer.{Answer}
use Rattle.ba_answers.specs.declared.answers.Answer.TheVariants as answer
use Rattle.ba_answers.specs.declared.answers.Claim.{Claim}
use Rattle.mode_check.specs.declared.certificates.Unfed.{Unfed}
use Rattle.mode_check.specs.declared.certificates.Unfed.TheVariants as unfed
use Rattle.ba_answers.specs.declared.file.File.TheVariants as file

-- it has read all bytes that were given of the file, and none of their lines is refused
pub record IsFeeding (name : Word) (first reader : Confirming) (old new : Outside) (given : ℕ) : Type 0 where
  pub text : List ℕ
  pub read : IsReadTo name text old new
  pub count : length text ≡ given
  pub reads : (h : CertHead) (p : Problem) → HasRead h p [] first →
      HasRead h p text reader × (first_refused h p text ≡ None)

none_refused : (h : CertHead) (p : Problem) → first_refused h p [] ≡ None
unfolding lines_in
none_refused h p = refl

opened_parts : (held : Option (Option (List ℕ))) (left : Option (List ℕ)) → held ≡ option_map Some left →
    held ≡ option_map (λ rest. Some ([] ++ rest)) left
opened_parts held None is = is
opened_parts held (Some rest) is = is

-- at first
pub feeding_starts : (name : Word) (reader : Confirming) (old new : Outside) → IsOpened name old new →
    new.given ≡ old.given → IsFeeding name reader reader old new 0
feeding_starts name reader old new opened same = record {
  text = [];
  read = record {
    reading = opened.reading;
    parts = opened_parts (old.held name) new.left opened.whole;
    counted = (omega arith, omega arith);
  };
  count = refl;
  reads = λ h p has. (has, none_refused h p);
}

-- and after one more piece, of which no line is refused
pub feeding_goes_on : (name : Word) (first reader later : Confirming) (buffer : List ℕ) (count given : ℕ)
    (old mid new : Outside) → IsFeeding name first reader old mid given → GivesPiece count buffer mid new →
    new.is_reading ≡ true →
    ((h : CertHead) (p : Problem) (text : List ℕ) → HasRead h p text reader →
    HasRead h p (text ++ take count buffer) later) →
    ((h : CertHead) (p : Problem) (text : List ℕ) → HasRead h p text reader →
    first_refused h p (text ++ take count buffer) ≡ None) →
    IsFeeding name first later old new (given + count)
feeding_goes_on name first reader later buffer count given old mid new f piece reading reads refuses =
    record {
      text = f.text ++ take count buffer;
      read = read_on name f.text buffer count old mid new f.read piece reading;
      count = length-append f.text (take count buffer)
          ∙ ap (λ n. length f.text + n) (length-take-le count buffer piece.within)
          ∙ ap (λ n. n + count) f.count;
      reads = λ h p has. let r = f.reads h p has in (reads h p f.text r.0, refuses h p f.text r.0);
    }

-- THE END of the file: nothing is left of it

raised_on : (top old mid new by : ℕ) → min (old + by) top ≤ mid → mid ≤ old + by → new ≡ min (mid + 0) top →
    new ≡ min (old + by) top
raised_on top old mid new by least most is = omega arith

nothing_left : (buffer : List ℕ) (left after : Option (List ℕ)) → Consumes 0 buffer left after →
    IfSome after (λ rest. rest ≡ [])
nothing_left buffer None after is = subst (λ (after : Option (List ℕ)). IfSome after (λ rest. rest ≡ []))
    (sym is) tt
nothing_left buffer (Some bytes) after (split, rest, empty) =
    subst (λ (after : Option (List ℕ)). IfSome after (λ rest. rest ≡ [])) (sym rest) (empty.0 refl)

all_given : (bytes buffer : List ℕ) (held : Option (Option (List ℕ))) (left after : Option (List ℕ)) →
    held ≡ option_map (λ rest. Some (bytes ++ rest)) left → Consumes 0 buffer left after →
    IfSome held (λ file. file ≡ Some bytes)
all_given bytes buffer held None after is gives =
    subst (λ (held : Option (Option (List ℕ))). IfSome held (λ file. file ≡ Some bytes)) (sym is) tt
all_given bytes buffer held (Some rest) after is (split, left, empty) =
    subst (λ (held : Option (Option (List ℕ))). IfSome held (λ file. file ≡ Some bytes)) (sym is)
    (ap (λ (rest : List ℕ). Some (bytes ++ rest)) (empty.0 refl) ∙ ap (λ (bytes : List ℕ). Some bytes)
    (append-nil bytes))

whole_by : (name bytes buffer : List ℕ) (old mid new : Outside) → IsReadTo name bytes old mid →
    GivesPiece 0 buffer mid new → new.is_reading ≡ true → IsReadWhole name bytes old new
whole_by name bytes buffer old mid new read piece reading = record {
  reading = reading;
  bytes_are = all_given bytes buffer (old.held name) mid.left new.left read.parts piece.bytes;
  at_end = nothing_left buffer mid.left new.left piece.bytes;
  counted = raised_on (2 ^ 64 - 1) old.given mid.given new.given (length bytes) read.counted.0 read.counted.1
      piece.counted;
}

pub feeding_ends : (j : Checking) (name : Word) (first reader : Confirming) (buffer : List ℕ)
    (count given : ℕ)
    (old mid new : Outside) → j.name ≡ name → HasRead j.head j.problem [] first →
    IsFeeding name first reader old mid given → given ≤ certificate_limit → count ≡ 0 →
    GivesPiece count buffer mid new → new.is_reading ≡ true → IsFed j old new reader
feeding_ends j name first reader buffer count given old mid new named has f few none piece reading = record {
  text = f.text;
  whole = subst (λ n. IsReadWhole n f.text old new) (sym named)
      (whole_by name f.text buffer old mid new f.read
      (subst (λ n. GivesPiece n buffer mid new) none piece) reading);
  short = let e = f.count in omega (arith, e, few);
  unrefused = (f.reads j.head j.problem has).1;
  read = (f.reads j.head j.problem has).0;
}

-- or it stops: a fault rose; more bytes than the limit came; or a line of the piece is refused

pub feeding_faults : (j : Checking) (name : Word) (first reader : Confirming) (given : ℕ) (old mid new :
    Outside) →
    j.name ≡ name → HasRead j.head j.problem [] first → IsFeeding name first reader old mid given →
    given ≤ certificate_limit → GivesNone mid new → new.is_reading ≡ true → HasReadFault mid new →
    old.read_faults ≤ mid.read_faults → StopsUnread j old new
feeding_faults j name first reader given old mid new named has f few none reading rose later = record {
  text = f.text;
  read = record {
    reading = reading;
    parts = subst (λ n. old.held n ≡ option_map (λ rest. Some (f.text ++ rest)) new.left) (sym named)
        (f.read.parts ∙ ap (option_map (λ rest. Some (f.text ++ rest))) (sym none.left));
    counted = subst (λ n. RoseBy (length f.text) old.given n) (sym none.given) f.read.counted;
  };
  short = let e = f.count in omega (arith, e, few);
  unrefused = (f.reads j.head j.problem has).1;
  cause = rose_since old.read_faults mid.read_faults new.read_faults later rose;
}

pub feeding_passes : (j : Checking) (name : Word) (first reader : Confirming) (buffer : List ℕ)
    (count given : ℕ)
    (old mid new : Outside) → j.name ≡ name → HasRead j.head j.problem [] first →
    IsFeeding name first reader old mid given → given ≤ certificate_limit →
    certificate_limit < given + count →
    length buffer ≡ piece_size → GivesPiece count buffer mid new → new.is_reading ≡ true →
    StopsTooLong j old new
feeding_passes j name first reader buffer count given old mid new named has f few more room piece reading =
    record {
      text = f.text;
      piece = take count buffer;
      read = subst (λ n. IsReadTo n (f.text ++ take count buffer) old new) (sym named)
          (read_on name f.text buffer count old mid new f.read piece reading);
      unrefused = (f.reads j.head j.problem has).1;
      last = let e = length-take-le count buffer piece.within in let w = piece.within in
          omega (arith, e, w, room);
      short = let e = f.count in omega (arith, e, few);
      long = let e = length-append f.text (take count buffer) in let n = f.count in
          let t = length-take-le count buffer piece.within in omega (arith, e, n, t, more);
    }

pub feeding_refuses : (j : Checking) (name : Word) (first reader : Confirming) (buffer : List ℕ)
    (count given line code : ℕ) (old mid new : Outside) → j.name ≡ name → HasRead j.head j.problem [] first →
    IsFeeding name first reader old mid given → given + count ≤ certificate_limit →
    length buffer ≡ piece_size → GivesPiece count buffer mid new → new.is_reading ≡ true →
    ((h : CertHead) (p : Problem) (text : List ℕ) → HasRead h p text reader →
    first_refused h p (text ++ take count buffer) ≡ Some (line, code)) → StopsRefused j line code old new
feeding_refuses j name first reader buffer count given line code old mid new named has f few room piece
    reading
    refuses = record {
      text = f.text;
      piece = take count buffer;
      read = subst (λ n. IsReadTo n (f.text ++ take count buffer) old new) (sym named)
          (read_on name f.text buffer count old mid new f.read piece reading);
      short = let e = length-append f.text (take count buffer) in let n = f.count in
          let t = length-take-le count buffer piece.within in omega (arith, e, n, t, few);
      unrefused = (f.reads j.head j.problem has).1;
      last = let e = length-take-le count buffer piece.within in let w = piece.within in
          omega (arith, e, w, room);
      refused = refuses j.head j.problem f.text (f.reads j.head j.problem has).0;
    }

-- what an error of reading comes to, and one of the reader
pub feeding_errs : (j : Checking) (name : Word) (first reader : Confirming) (given : ℕ) (old mid new :
    Outside)
    (cause : WorldError) (result : Result ℕ WorldError) → j.name ≡ name → HasRead j.head j.problem [] first →
    IsFeeding name first reader old mid given → given ≤ certificate_limit → GivesNone mid new →
    new.is_reading ≡ true → result ≡ Err cause → (result ≡ Err world.Failed → HasReadFault mid new) →
    old.read_faults ≤ mid.read_faults → IsUnfed j (unfed.Unread (read_error cause)) old new
feeding_errs j name first reader given old mid new world.Failed result named has f few none reading is rose
    later =
    inr (feeding_faults j name first reader given old mid new named has f few none reading (rose is) later)
feeding_errs j name first reader given old mid new world.Memory result named has f few none reading is rose
    later = tt

pub feeding_stops : (j : Checking) (name : Word) (first reader : Confirming) (buffer : List ℕ)
    (count given : ℕ)
    (old mid new : Outside) (error : CheckError) → j.name ≡ name → HasRead j.head j.problem [] first →
    IsFeeding name first reader old mid given → given + count ≤ certificate_limit →
    length buffer ≡ piece_size → GivesPiece count buffer mid new → new.is_reading ≡ true →
    ((h : CertHead) (p : Problem) (text : List ℕ) → HasRead h p text reader →
    TellsRefusal (Err error) (first_refused h p (text ++ take count buffer))) →
    IsUnfed j (unfed.Refused error) old new
feeding_stops j name first reader buffer count given old mid new (Line line code) named has f few room
    piece reading
    refuses = feeding_refuses j name first reader buffer count given line code old mid new named has f few
    room
    piece reading refuses
feeding_stops j name first reader buffer count given old mid new Memory named has f few room piece reading
    refuses =
    tt

-- the error that a call ends with
pub unfed_by : (j : Checking) (result : Result Unit Unfed) (why : Unfed) (old new : Outside) →
    IsErrAnd result (λ error. error ≡ why) → IsUnfed j why old new →
    IfErr result (λ error. IsUnfed j error old new)
unfed_by j (Ok value) why old new is unfed = tt
unfed_by j (Err error) why old new is unfed = subst (λ error. IsUnfed j error old new) (sym is) unfed

-- THE ANSWER of a certificate

pub accepted_by : (j : Checking) (old new : Outside) (reader : Confirming) (confirmed : Confirmed)
    (claimed : Claim) (fed : IsFed j old new reader) →
    Tells (Ok confirmed) (finding_of j.head j.problem fed.text) →
    IsTrueOf j.weights j.head j.problem fed.text confirmed →
    ((v : Verdict) → confirmed ≡ confirmed_of v → claimed ≡ claim_of v) → IsAccepted j claimed old new
accepted_by j old new reader confirmed claimed fed tells holds claims =
    by (finding_of j.head j.problem fed.text) refl tells where
      by : (found : Finding) → finding_of j.head j.problem fed.text ≡ found → Tells (Ok confirmed) found →
          IsAccepted j claimed old new
      by (Accepted verdict) found is = record {
        text = fed.text;
        whole = fed.whole;
        short = fed.short;
        verdict = verdict;
        found = found;
        holds = subst (IsTrueOf j.weights j.head j.problem fed.text) is holds;
        claims = claims verdict is;
      }
      by (Refused line code) found is = absurd is

pub refused_by : (j : Checking) (line code : ℕ) (old new : Outside) (reader : Confirming)
    (fed : IsFed j old new reader) → Tells (Err (Line line code)) (finding_of j.head j.problem fed.text) →
    EndsRefused j line code old new
refused_by j line code old new reader fed tells =
    record {
      text = fed.text;
      whole = fed.whole;
      short = fed.short;
      unrefused = fed.unrefused;
      found = tells;
    }

pub unfed_comes : (j : Checking) (why : Unfed) (a : Answer) (old new : Outside) → IsUnfed j why old new →
    unfed_answer why ≡ Some a → CertificateComesTo j a old new
unfed_comes j (unfed.Unread read.Failed) a old new is told =
    let same : answer.Unreadable file.Certificate ≡ a = cc in
    subst (λ a. CertificateComesTo j a old new) same is
unfed_comes j (unfed.Unread read.TooLong) a old new is told =
    let same : answer.TooLong file.Certificate ≡ a = cc in subst (λ a. CertificateComesTo j a old new) same is
unfed_comes j (unfed.Unread read.Memory) a old new is told = let no : ⊥ = cc in absurd no
unfed_comes j (unfed.Refused (Line line code)) a old new is told =
    let same : answer.BadCertificate code line ≡ a = cc in
    subst (λ a. CertificateComesTo j a old new) same (inl is)
unfed_comes j (unfed.Refused Memory) a old new is told = let no : ⊥ = cc in absurd no
