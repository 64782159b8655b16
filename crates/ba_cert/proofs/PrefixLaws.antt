-- A file that holds the first bytes of a certificate.

use Rattle.std.proofs.Common.{◌≡◌, ℕ, zero, suc, Option, None, Some, List, [], ◌∷◌, ◌++◌, length, take, All, true, IfSome, refl, sym, ap, ◌∙◌, subst, append-nil, arith}
use Rattle.std.proofs.lemmas.List.Elements.{All-push, All-weaker}
use Rattle.std.proofs.lemmas.List.{take_all}
use Rattle.ba_steps.specs.declared.step.CertStep.{CertStep}
use Rattle.ba_steps.specs.Steps.{IsFormed}
use Rattle.ba_world.specs.World.{AppendsPrefix, Outside}
use Rattle.ba_cert.specs.declared.head.CertHead.{CertHead}
use Rattle.ba_cert.specs.Text.{HasLine, IsHead, line_of, with_feed, head_text, text_of}
use Rattle.ba_cert.specs.Writing.{BeginsText, HoldsBeginning, IsPrefix, is_sound, is_written}
use Rattle.ba_cert.proofs.CertificateLaws.{text-push}
use Rattle.ba_cert.proofs.SinkLaws.{sound-written, text-sound}

-- the first bytes of a text are the first of a longer one
pub front-of : (count : ℕ) (a b : List ℕ) → IsPrefix (take count a) (a ++ b)
front-of zero a b = (0, refl)
front-of (suc n) [] b = (0, refl)
front-of (suc n) (x ∷ a) b = let r = front-of n a b in (suc r.0, ap (λ r. x ∷ r) r.1)

-- and so are a text and the first bytes of what follows it
pub front-behind : (a b c : List ℕ) (count : ℕ) → IsPrefix (a ++ take count b) (a ++ (b ++ c))
front-behind [] b c count = front-of count b c
front-behind (x ∷ a) b c count = let r = front-behind a b c count in (suc r.0, ap (λ r. x ∷ r) r.1)

module _ (head : CertHead) where
  -- after the first bytes of the first lines
  pub begun-prefix : (old new : Option (List ℕ)) → IfSome old (λ bytes. bytes ≡ [])
      → AppendsPrefix old new (head_text head) → IfSome new (λ bytes. IsPrefix bytes (text_of head []))
  begun-prefix None new empty prefix =
      subst (λ kept. IfSome kept (λ bytes. IsPrefix bytes (text_of head []))) (sym prefix.1) tt
  begun-prefix (Some bytes) new empty prefix =
      let front = front-of prefix.0 (head_text head) [] in
      subst (λ kept. IfSome kept (λ bytes. IsPrefix bytes (text_of head []))) (sym prefix.1)
      (front.0, ap (λ b. b ++ take prefix.0 (head_text head)) empty ∙ front.1)

  -- and after none of them
  pub empty-prefix : (kept : Option (List ℕ)) → IfSome kept (λ bytes. bytes ≡ []) →
      IfSome kept (λ bytes. IsPrefix bytes (text_of head []))
  empty-prefix None empty = tt
  empty-prefix (Some bytes) empty = (0, empty)

-- A FILE HOLDS THE FIRST BYTES OF A CERTIFICATE

module _ (head : CertHead) (is : IsHead head) where
  are-formed : (steps : List CertStep) → All HasLine steps → All IsFormed steps
  are-formed steps all = All-weaker HasLine IsFormed (λ step h. h.0) steps all

  pub text-begins : (steps : List CertStep) → All HasLine steps → BeginsText head (text_of head steps)
  text-begins steps all = (
    steps,
    are-formed steps all,
    (
      length (text_of head steps),
      sym
          (take_all (length (text_of head steps)) (text_of head steps) (omega arith)),
    ),
  )

  -- a whole file does
  pub sound-begins : (name : List ℕ) (o : Outside) → is_sound head true name o ≡ true →
      HoldsBeginning head name o
  sound-begins name o sound = ∣ by (o.kept name) (sound-written head true name o sound) ∣₁ where
    by : (kept : Option (List ℕ)) → is_written head true name o.is_writing o.writing kept ≡ true →
        IfSome kept (BeginsText head)
    by None e = tt
    by (Some bytes) e =
        let t = text-sound head is name o.is_writing o.writing bytes e in
        subst (BeginsText head) (sym t.text) (text-begins t.steps t.formed)

  -- and so does one with some bytes of a line more
  pub line-begins : (step : CertStep) → HasLine step → (name : List ℕ) (o new : Outside) →
      is_sound head true name o ≡ true →
      AppendsPrefix (o.kept name) (new.kept name) (with_feed (line_of step)) → HoldsBeginning head name new
  line-begins step h name o new sound prefix = ∣ by (o.kept name) (sound-written head true name o sound)
      prefix ∣₁ where
        by : (kept : Option (List ℕ)) → is_written head true name o.is_writing o.writing kept ≡ true →
            AppendsPrefix kept (new.kept name) (with_feed (line_of step)) →
            IfSome (new.kept name) (BeginsText head)
        by None e added = subst (λ k. IfSome k (BeginsText head)) (sym added.1) tt
        by (Some bytes) e added =
            let t = text-sound head is name o.is_writing o.writing bytes e in
            let front = front-behind (text_of head t.steps) (with_feed (line_of step)) [] added.0 in
            let whole : text_of head t.steps ++ (with_feed (line_of step) ++ [])
            ≡ text_of head (t.steps ++ step ∷ []) =
            ap (λ line. text_of head t.steps ++ line) (append-nil (with_feed (line_of step)))
            ∙ sym (text-push head t.steps step) in
            subst (λ k. IfSome k (BeginsText head)) (sym added.1) (
              t.steps ++ step ∷ [],
              are-formed (t.steps ++ step ∷ []) (All-push HasLine t.steps step t.formed h),
              (
                front.0,
                ap (λ b. b ++ take added.0 (with_feed (line_of step))) t.text ∙ front.1
                    ∙ ap (take front.0) whole,
              ),
            )
