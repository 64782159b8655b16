-- THE ANSWERS OF A CERTIFICATE that is checked as it is read, in pieces.

use Rattle.std.specs.Prelude.{◌≡◌, ◌⊎◌, ℕ, ◌<◌, ◌≤◌, Option, None, Some, List, ◌++◌, length}
use Rattle.ba_cert.specs.declared.head.CertHead.{CertHead}
use Rattle.ba_check.specs.Answers.{IsTrueOf, confirmed_of}
use Rattle.ba_check.specs.Findings.{Accepted, Refused, finding_of, first_refused}
use Rattle.ba_check.specs.Readings.{Confirming, HasRead}
use Rattle.ba_check.specs.declared.error.CheckError.TheVariants as refusal
use Rattle.ba_commands.specs.Modes.{Word}
use Rattle.ba_derivations.specs.Derivations.{Problem, Verdict, Located, NoRepair, TooMany, Spent}
use Rattle.ba_tree.specs.Least.{WeightList}
use Rattle.ba_world.specs.Read.{IsReadTo, IsReadWhole, StoppedInOpening, piece_size}
use Rattle.ba_world.specs.World.{HasReadFault, Outside}
use Rattle.ba_world.specs.declared.read.ReadFileError.TheVariants as read
use Rattle.ba_answers.specs.Limits.{certificate_limit}
use Rattle.ba_answers.specs.declared.answers.Answer.{Answer}
use Rattle.ba_answers.specs.declared.answers.Answer.TheVariants as answer
use Rattle.ba_answers.specs.declared.answers.Claim.{Claim}
use Rattle.ba_answers.specs.declared.answers.Claim.TheVariants as claim
use Rattle.mode_check.specs.declared.certificates.Unfed.{Unfed}
use Rattle.mode_check.specs.declared.certificates.Unfed.TheVariants as unfed
use Rattle.ba_answers.specs.declared.file.File.TheVariants as file

-- the certificate to be checked: the file of this name, by these settings, on this problem, with these
-- weights
pub record Checking : Type 0 where
  pub name : Word
  pub head : CertHead
  pub problem : Problem
  pub weights : WeightList

-- the claim of a certificate of this verdict
abbrev pub claim_of : Verdict → Claim
claim_of (Located weight sets) = claim.Located
claim_of NoRepair = claim.NoRepair
claim_of (TooMany weight sets) = claim.TooManySets
claim_of Spent = claim.BudgetSpent

-- IT IS ACCEPTED: the file was read to its end. Its bytes are the text of steps that derive a verdict, which
-- is true.
pub record IsAccepted (j : Checking) (claimed : Claim) (old new : Outside) : Type 0 where
  pub text : List ℕ
  pub whole : IsReadWhole j.name text old new
  pub short : length text ≤ certificate_limit
  pub verdict : Verdict
  pub found : finding_of j.head j.problem text ≡ Accepted verdict
  pub holds : IsTrueOf j.weights j.head j.problem text (confirmed_of verdict)
  pub claims : claimed ≡ claim_of verdict

-- IT IS REFUSED: nothing was read after the piece in which its first refused line ends
pub record StopsRefused (j : Checking) (line code : ℕ) (old new : Outside) : Type 0 where
  pub text : List ℕ
  pub piece : List ℕ
  pub read : IsReadTo j.name (text ++ piece) old new
  pub short : length (text ++ piece) ≤ certificate_limit
  pub unrefused : first_refused j.head j.problem text ≡ None
  pub last : length piece ≤ piece_size
  pub refused : first_refused j.head j.problem (text ++ piece) ≡ Some (line, code)

-- or the file was read to its end, which comes too early, and none of its whole lines is refused
pub record EndsRefused (j : Checking) (line code : ℕ) (old new : Outside) : Type 0 where
  pub text : List ℕ
  pub whole : IsReadWhole j.name text old new
  pub short : length text ≤ certificate_limit
  pub unrefused : first_refused j.head j.problem text ≡ None
  pub found : finding_of j.head j.problem text ≡ Refused line code

-- IT CAN'T BE READ to its end or a refused line: a fault rose, and no line that had come was refused
pub record StopsUnread (j : Checking) (old new : Outside) : Type 0 where
  pub text : List ℕ
  pub read : IsReadTo j.name text old new
  pub short : length text ≤ certificate_limit
  pub unrefused : first_refused j.head j.problem text ≡ None
  pub cause : HasReadFault old new

-- IT IS TOO LONG: no line is refused of the bytes before the piece that passed the limit
pub record StopsTooLong (j : Checking) (old new : Outside) : Type 0 where
  pub text : List ℕ
  pub piece : List ℕ
  pub read : IsReadTo j.name (text ++ piece) old new
  pub unrefused : first_refused j.head j.problem text ≡ None
  pub last : length piece ≤ piece_size
  pub short : length text ≤ certificate_limit
  pub long : certificate_limit < length (text ++ piece)

-- THE ANSWERS of a certificate
abbrev pub CertificateComesTo : Checking → Answer → Outside → Outside → Type 0
CertificateComesTo j (answer.Accepted claimed) old new = IsAccepted j claimed old new
CertificateComesTo j (answer.BadCertificate code line) old new =
    StopsRefused j line code old new ⊎ EndsRefused j line code old new
CertificateComesTo j (answer.Unreadable file.Certificate) old new =
    StoppedInOpening j.name old new ⊎ StopsUnread j old new
CertificateComesTo j (answer.TooLong file.Certificate) old new = StopsTooLong j old new
CertificateComesTo j _ old new = ⊥

-- A READER of certificates that had read nothing was given the file to its end, and refused no line
pub record IsFed (j : Checking) (old new : Outside) (reader : Confirming) : Type 0 where
  pub text : List ℕ
  pub whole : IsReadWhole j.name text old new
  pub short : length text ≤ certificate_limit
  pub unrefused : first_refused j.head j.problem text ≡ None
  pub read : HasRead j.head j.problem text reader

-- or it wasn't, for this reason; out of memory says nothing
abbrev pub IsUnfed : Checking → Unfed → Outside → Outside → Type 0
IsUnfed j (unfed.Unread read.Failed) old new = StoppedInOpening j.name old new ⊎ StopsUnread j old new
IsUnfed j (unfed.Unread read.TooLong) old new = StopsTooLong j old new
IsUnfed j (unfed.Unread read.Memory) old new = Unit {0}
IsUnfed j (unfed.Refused (refusal.Line line code)) old new = StopsRefused j line code old new
IsUnfed j (unfed.Refused refusal.Memory) old new = Unit {0}

-- the answer for this reason; none if memory ran out
abbrev pub unfed_answer : Unfed → Option Answer
unfed_answer (unfed.Unread read.Failed) = Some (answer.Unreadable file.Certificate)
unfed_answer (unfed.Unread read.TooLong) = Some (answer.TooLong file.Certificate)
unfed_answer (unfed.Unread read.Memory) = None
unfed_answer (unfed.Refused (refusal.Line line code)) = Some (answer.BadCertificate code line)
unfed_answer (unfed.Refused refusal.Memory) = None
