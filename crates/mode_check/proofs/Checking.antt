-- How a check ends, by what the world tells of its certificate.

use Rattle.std.proofs.Common.{◌≡◌, ◌⊎◌, inl, inr, ℕ, List, ◌++◌, Option, None, Some, IfSome, option_map, refl, sym, subst, ◌∙◌, length-append, arith}
use Rattle.ba_answers.specs.Printed.{status_of}
use Rattle.ba_answers.specs.declared.answers.Answer.{Answer}
use Rattle.ba_answers.specs.declared.answers.Answer.TheVariants as answer
use Rattle.ba_answers.specs.declared.file.File.TheVariants as file
use Rattle.ba_answers.specs.declared.status.Status.{Status}
use Rattle.ba_answers.specs.declared.status.Status.TheVariants as status
use Rattle.ba_cases.specs.AtOnce.{weights_of}
use Rattle.ba_cases.specs.declared.texts.Texts.{Texts}
use Rattle.ba_cases.proofs.OneAnswer.{IsOfMeaning, none_or_one}
use Rattle.ba_derivations.specs.Handing.{Derivation}
use Rattle.ba_tree.specs.declared.tree.Program.{Program}
use Rattle.ba_tree_laws.specs.Spelling.{Spells}
use Rattle.ba_world.specs.World.{HasReadFault, Outside}
use Rattle.mode_check.specs.Certificates.{CertificateComesTo, Checking}
use Rattle.mode_check.specs.Checks.{IsAnswer, IsEndOfCheck, Subject, accepted, by_certificate, checking, not_there, refused, too_long}
use Rattle.mode_check.specs.Checks as checks
use Rattle.mode_check.specs.declared.jobs.CheckJob.{CheckJob}

-- WHAT IS TOLD OF A FILE that was read

-- to its end
whole_told : (held : Option (Option (List ℕ))) (told : Option (List ℕ)) (text : List ℕ) → held ≡ Some told →
    IfSome held (λ file. file ≡ Some text) → told ≡ Some text
whole_told held told text is h =
    subst (λ (held : Option (Option (List ℕ))). IfSome held (λ file. file ≡ Some text)) is h

-- or up to some place: there is a file, which begins with the bytes that were given
record BeginsWith (told : Option (List ℕ)) (text : List ℕ) : Type 0 where
  pub rest : List ℕ
  pub is : told ≡ Some (text ++ rest)

part_told : (held : Option (Option (List ℕ))) (told left : Option (List ℕ)) (text : List ℕ) →
    held ≡ Some told → held ≡ option_map (λ rest. Some (text ++ rest)) left → BeginsWith told text
part_told held told None text is parts = let e : Some told ≡ None = sym is ∙ parts in
    let no : ⊥ = cc in absurd no
part_told held told (Some rest) text is parts =
    let e : Some told ≡ Some (Some (text ++ rest)) = sym is ∙ parts in record { rest = rest; is = cc }

-- THE END of a check whose certificate is told: it is one of this status; or a fault of reading rose
abbrev pub EndsCheck : Option (List ℕ) → Outside → Outside → Status → Type 0
EndsCheck told before after end =
    IsEndOfCheck told end ⊎ ((end ≡ status.ReadFault) × HasReadFault before after)

module _ (told : Option (List ℕ)) (j : Checking) (before after : Outside)
    (held : before.held j.name ≡ Some told) where
  ends_told : (text : List ℕ) (end : Status) → told ≡ Some text → IsEndOfCheck (Some text) end →
      EndsCheck told before after end
  ends_told text end is ends =
      inl (subst (λ (told : Option (List ℕ)). IsEndOfCheck told end) (sym is) ends)

  unopened : HasReadFault before after ⊎ (before.held j.name ≡ Some None) →
      EndsCheck told before after status.ReadFault
  unopened (inl rose) = inr (refl, rose)
  unopened (inr gone) =
      let both : Some told ≡ Some None = sym held ∙ gone in let none : told ≡ None = cc in
      inl (subst (λ (told : Option (List ℕ)). IsEndOfCheck told status.ReadFault) (sym none) not_there)

  certificate_ends : (a : Answer) → CertificateComesTo j a before after →
      EndsCheck told before after (status_of a)
  certificate_ends (answer.Accepted claimed) is =
      ends_told is.text status.Ok (whole_told (before.held j.name) told is.text held is.whole.bytes_are)
      (accepted is.text is.short)
  certificate_ends (answer.BadCertificate code line) (inl is) =
      let begins = part_told (before.held j.name) told after.left (is.text ++ is.piece) held is.read.parts in
      ends_told ((is.text ++ is.piece) ++ begins.rest) status.BadCertificate begins.is
      (refused ((is.text ++ is.piece) ++ begins.rest))
  certificate_ends (answer.BadCertificate code line) (inr is) =
      ends_told is.text status.BadCertificate
      (whole_told (before.held j.name) told is.text held is.whole.bytes_are) (refused is.text)
  certificate_ends (answer.Unreadable file.Certificate) (inl is) = unopened is.cause
  certificate_ends (answer.Unreadable file.Certificate) (inr is) = inr (refl, is.cause)
  certificate_ends (answer.TooLong file.Certificate) is =
      let begins = part_told (before.held j.name) told after.left (is.text ++ is.piece) held is.read.parts in
      let over = is.long in
      ends_told ((is.text ++ is.piece) ++ begins.rest) status.TooLong begins.is
      (too_long ((is.text ++ is.piece) ++ begins.rest)
      (omega (arith, over, length-append (is.text ++ is.piece) begins.rest)))
  certificate_ends (answer.Unreadable file.Program) is = absurd is
  certificate_ends (answer.Unreadable file.Input) is = absurd is
  certificate_ends (answer.Unreadable file.Inputs) is = absurd is
  certificate_ends (answer.Unreadable file.Failing) is = absurd is
  certificate_ends (answer.Unreadable file.Passing) is = absurd is
  certificate_ends (answer.Unreadable file.Weights) is = absurd is
  certificate_ends (answer.TooLong file.Program) is = absurd is
  certificate_ends (answer.TooLong file.Input) is = absurd is
  certificate_ends (answer.TooLong file.Inputs) is = absurd is
  certificate_ends (answer.TooLong file.Failing) is = absurd is
  certificate_ends (answer.TooLong file.Passing) is = absurd is
  certificate_ends (answer.TooLong file.Weights) is = absurd is
  certificate_ends (answer.Located bytes) is = absurd is
  certificate_ends (answer.Ranked bytes) is = absurd is
  certificate_ends (answer.Edits bytes) is = absurd is
  certificate_ends (answer.Sampled additions weight sets) is = absurd is
  certificate_ends (answer.AssertFails at) is = absurd is
  certificate_ends (answer.Trap at) is = absurd is
  certificate_ends (answer.NotFailing line) is = absurd is
  certificate_ends answer.BadWords is = absurd is
  certificate_ends (answer.BadProgram fault) is = absurd is
  certificate_ends (answer.BadInput which fault line) is = absurd is
  certificate_ends answer.TooLarge is = absurd is
  certificate_ends (answer.BeyondBound at line) is = absurd is
  certificate_ends (answer.PassingFails line) is = absurd is
  certificate_ends answer.NoRepair is = absurd is
  certificate_ends (answer.TooManySets weight most line) is = absurd is
  certificate_ends (answer.BudgetSpent conflicts line) is = absurd is
  certificate_ends (answer.BadWeights line) is = absurd is

-- if the program of the texts has no answer at once, its check ends so
module _ (s : Subject) (j : CheckJob) (x : Texts) (one : IsOfMeaning (s.answer_at_once x)) (p : Program)
    (spells : Spells x.program p) (undecided : s.answer_at_once x p ≡ None) where
  pub check_told : (told : Option (List ℕ)) (before after : Outside) (handed : List Derivation) (a : Answer) →
      before.held j.cert ≡ Some told → IsAnswer s j x before after handed a →
      EndsCheck told before after (status_of a)
  check_told told before after handed a held (checks.IsAnswer.at_once is none same) =
      absurd (none_or_one x.program (s.answer_at_once x) one p a spells undecided is)
  check_told told before after handed a held (by_certificate q spelled none checked) =
      certificate_ends told (checking j (weights_of q x) (s.judge x q) checked.over) before after held a
      checked.comes
