-- A certificate in a file of a world, before and after a line is added.

use Rattle.std.proofs.Common.{◌≡◌, ◌≢◌, ℕ, ◌^◌, ◌<◌, nat_lt, Bool, true, false, ◌&&◌, is_some, Option, None, Some, option_map, List, [], ◌∷◌, ◌++◌, take, All, IfSome, IsSome, refl, sym, ap, ◌∙◌, subst, append-nil, arith, inl, inr, ◌⊎◌}
use Rattle.std.proofs.lemmas.Bool.{and_parts, and_from, lt-ltb, ltb-true}
use Rattle.std.proofs.lemmas.List.Elements.{All-nil, All-push}
use Rattle.std.proofs.lemmas.Option.{none-some, same_Some}
use Rattle.std.proofs.lemmas.Slice.Eq.{bytes_eq-Decides}
use Rattle.ba_steps.specs.Sinks.{MayAdd, with_told}
use Rattle.ba_steps.specs.declared.sink.SinkError.TheVariants as sink
use Rattle.ba_steps.specs.declared.step.CertStep.{CertStep}
use Rattle.ba_world.specs.World.{Appends, AppendsPrefix, OnlyWrites, Outside, StillWrites}
use Rattle.ba_world.specs.declared.world.WorldError.{WorldError}
use Rattle.ba_world.specs.declared.world.WorldError.TheVariants as world
use Rattle.ba_cert.specs.declared.head.CertHead.{CertHead}
use Rattle.ba_cert.specs.Text.{HasLine, IsHead, line_of, with_feed, head_text, text_of}
use Rattle.ba_cert.specs.Certificates.{steps_from}
use Rattle.ba_cert.specs.Writing.{sink_error, steps_kept, is_named, may_be_named, is_written, is_sound, OnlyWritesTo}
use Rattle.ba_cert.proofs.CertificateLaws.{whole-again, begun-again, whole-back, text-push, partly-added}

-- FAULTS

pub failed-is : (error : WorldError) → sink_error error ≡ sink.Failed → error ≡ world.Failed
failed-is world.Failed e = refl
failed-is world.Memory e = cc

-- THE FILE THAT IS WRITTEN

-- if its name is told it is this one, and it is told if what is kept under this name is
pub record IsFollowed (name : List ℕ) (writing kept : Option (List ℕ)) : Type 0 where
  pub named : (other : List ℕ) → writing ≡ Some other → other ≡ name
  pub told : (bytes : List ℕ) → kept ≡ Some bytes → writing ≡ Some name

is_named-from : (name : List ℕ) (writing : Option (List ℕ)) → is_named name writing ≡ true →
    writing ≡ Some name
is_named-from name None e = cc
is_named-from name (Some other) e = ap (λ w. Some w) ((bytes_eq-Decides other name).0 e)

may_be_named-from : (name : List ℕ) (writing : Option (List ℕ)) (other : List ℕ) →
    may_be_named name writing ≡ true → writing ≡ Some other → other ≡ name
may_be_named-from name None other e is = absurd (none-some other is)
may_be_named-from name (Some w) other e is = sym (same_Some w other is) ∙ (bytes_eq-Decides w name).0 e

pub followed-sound : (head : CertHead) (whole : Bool) (name : List ℕ) (is_writing : Bool)
    (writing kept : Option (List ℕ)) →
    is_written head whole name is_writing writing kept ≡ true → IsFollowed name writing kept
followed-sound head whole name is_writing writing None e = record {
  named = λ other is. may_be_named-from name writing other
      ((and_parts is_writing (may_be_named name writing) e).1) is;
  told = λ bytes is. absurd (none-some bytes is);
}
followed-sound head whole name is_writing writing (Some b) e =
    let parts = and_parts is_writing (is_named name writing && is_some (steps_from head whole b)) e in
    let is_name = is_named-from name writing
    ((and_parts (is_named name writing) (is_some (steps_from head whole b)) parts.1).0) in record {
      named = λ other is. same_Some other name (sym is ∙ is_name);
      told = λ bytes is. is_name;
    }

pub followed-begun : (name : List ℕ) (writing kept : Option (List ℕ)) → IfSome writing (λ w. w ≡ name) →
    (IsSome kept → writing ≡ Some name) → IsFollowed name writing kept
followed-begun name writing kept agrees told = record { named = named writing agrees; told = tells kept told }
  where
    named : (w : Option (List ℕ)) → IfSome w (λ v. v ≡ name) → (other : List ℕ) → w ≡ Some other →
        other ≡ name
    named None h other is = absurd (none-some other is)
    named (Some v) h other is = sym (same_Some v other is) ∙ h

    tells : (k : Option (List ℕ)) → (IsSome k → writing ≡ Some name) → (bytes : List ℕ) → k ≡ Some bytes →
        writing ≡ Some name
    tells None h bytes is = absurd (none-some bytes is)
    tells (Some b) h bytes is = h refl

pub writes-sound : (head : CertHead) (whole : Bool) (name : List ℕ) (is_writing : Bool)
    (writing kept : Option (List ℕ)) →
    is_written head whole name is_writing writing kept ≡ true → is_writing ≡ true
writes-sound head whole name is_writing writing None e =
    (and_parts is_writing (may_be_named name writing) e).0
writes-sound head whole name is_writing writing (Some b) e =
    (and_parts is_writing (is_named name writing && is_some (steps_from head whole b)) e).0

-- what holds of the file that is written holds of what is kept under this name
pub of-named : (R : Option (List ℕ) → Option (List ℕ) → Type 0) → R None None →
    (name : List ℕ) (writing : Option (List ℕ)) (old new : List ℕ → Option (List ℕ)) →
    IsFollowed name writing (old name) →
    IfSome writing (λ w. R (old w) (new w)) →
    ((other : List ℕ) → writing ≢ Some other → new other ≡ old other) → R (old name) (new name)
of-named R none name None old new follows holds stays = by (old name) refl
  where
    by : (kept : Option (List ℕ)) → old name ≡ kept → R (old name) (new name)
    by None is =
        let after : new name ≡ None = stays name (λ e. none-some name e) ∙ is in
        subst (λ k. R k (new name)) (sym is) (subst (λ k. R None k) (sym after) none)
    by (Some bytes) is = absurd (none-some name (follows.told bytes is))
of-named R none name (Some w) old new follows holds stays =
    subst (λ v. R (old v) (new v)) (follows.named w refl) holds

-- bytes that were added to the file that is written were added to what is kept under this name
pub appended : (name : List ℕ) (writing : Option (List ℕ)) (old new : List ℕ → Option (List ℕ))
    (bytes text : List ℕ) → IsFollowed name writing (old name) →
    bytes ≡ text → IfSome writing (λ w. Appends (old w) (new w) bytes) →
    ((other : List ℕ) → writing ≢ Some other → new other ≡ old other) →
    Appends (old name) (new name) text
appended name writing old new bytes text follows is added stays =
    subst (Appends (old name) (new name)) is
    (of-named (λ a b. Appends a b bytes) refl name writing old new follows added stays)

pub prefixed : (name : List ℕ) (writing : Option (List ℕ)) (old new : List ℕ → Option (List ℕ))
    (bytes text : List ℕ) → IsFollowed name writing (old name) →
    bytes ≡ text → IfSome writing (λ w. AppendsPrefix (old w) (new w) bytes) →
    ((other : List ℕ) → writing ≢ Some other → new other ≡ old other) →
    AppendsPrefix (old name) (new name) text
prefixed name writing old new bytes text follows is added stays =
    subst (AppendsPrefix (old name) (new name)) is
    (of-named (λ a b. AppendsPrefix a b bytes) (0, refl) name writing old new follows added stays)

-- only this file is written
pub others-stay : (name : List ℕ) (old new : Outside) → IsFollowed name old.writing (old.kept name) →
    StillWrites old new → OnlyWrites old new → OnlyWritesTo name old new
others-stay name old new follows still stays = record {
  held = λ other apart. still.held other (λ is. apart (follows.named other is));
  kept = λ other apart. still.kept other (λ is. apart (follows.named other is));
  stays = stays;
}

pub stays-self : (name : List ℕ) (old : Outside) → OnlyWritesTo name old old
stays-self name old = record {
  held = λ other apart. refl;
  kept = λ other apart. refl;
  stays = record {
    no_fall = omega arith;
    printed = refl;
    is_reading = refl;
    read_faults = refl;
    print_shortages =
        refl;
    given = refl;
  };
}

pub stays_then : (name : List ℕ) (a b c : Outside) → OnlyWritesTo name a b → OnlyWritesTo name b c →
    OnlyWritesTo name a c
stays_then name a b c first second = record {
  held = λ other apart. second.held other apart ∙ first.held other apart;
  kept = λ other apart. second.kept other apart ∙ first.kept other apart;
  stays = record {
    no_fall = let x = first.stays.no_fall in let y = second.stays.no_fall in omega (arith, x, y);
    printed = second.stays.printed ∙ first.stays.printed;
    is_reading = second.stays.is_reading ∙ first.stays.is_reading;
    read_faults = second.stays.read_faults ∙ first.stays.read_faults;
    print_shortages = second.stays.print_shortages ∙ first.stays.print_shortages;
    given = second.stays.given ∙ first.stays.given;
  };
}

-- what a call leaves as it was
pub as-before : (head : CertHead) (whole : Bool) (name : List ℕ) (is_writing is_writing' : Bool)
    (writing writing' kept : Option (List ℕ)) → is_writing' ≡ is_writing → writing' ≡ writing →
    is_written head whole name is_writing writing kept ≡ true →
    is_written head whole name is_writing' writing' kept ≡ true
as-before head whole name is_writing is_writing' writing writing' kept p q e =
    ap (λ b. is_written head whole name b writing' kept) p
    ∙ ap (λ w. is_written head whole name is_writing w kept) q
    ∙ e

-- THE TEXT THAT IS KEPT

some_is : {A : Type 0} (o : Option A) → is_some o ≡ true → (x : A) × (o ≡ Some x)
some_is None e = cc
some_is (Some x) e = (x, refl)

-- what is kept is the text of steps, if it is told
pub record IsText (head : CertHead) (bytes : List ℕ) : Type 0 where
  pub steps : List CertStep
  pub text : bytes ≡ text_of head steps
  pub formed : All HasLine steps

module _ (head : CertHead) (is : IsHead head) where
  pub text-sound : (name : List ℕ) (is_writing : Bool) (writing : Option (List ℕ)) (bytes : List ℕ) →
      is_written head true name is_writing writing (Some bytes) ≡ true → IsText head bytes
  text-sound name is_writing writing bytes e =
      let parts = and_parts is_writing (is_named name writing && is_some (steps_from head true bytes)) e in
      let found = some_is (steps_from head true bytes)
      ((and_parts (is_named name writing) (is_some (steps_from head true bytes)) parts.1).1) in
      let back = whole-back head bytes found.0 found.1 in
      record { steps = found.0; text = back.0; formed = back.1 }

  -- the same file with other bytes
  resound : (whole after : Bool) (name : List ℕ) (is_writing : Bool) (writing : Option (List ℕ))
      (old new : List ℕ) (steps : List CertStep) →
      is_written head whole name is_writing writing (Some old) ≡ true → steps_from head after new
      ≡ Some steps →
      is_written head after name is_writing writing (Some new) ≡ true
  resound whole after name is_writing writing old new steps e found =
      let parts = and_parts is_writing (is_named name writing && is_some (steps_from head whole old)) e in
      and_from is_writing (is_named name writing && is_some (steps_from head after new)) parts.0
      (and_from (is_named name writing) (is_some (steps_from head after new))
      ((and_parts (is_named name writing) (is_some (steps_from head whole old)) parts.1).0)
      (ap is_some found))

  pub sound-still : (name : List ℕ) (is_writing : Bool) (writing kept : Option (List ℕ)) →
      is_written head true name is_writing writing kept ≡ true →
      is_written head false name is_writing writing kept ≡ true
  sound-still name is_writing writing None e = e
  sound-still name is_writing writing (Some bytes) e =
      let t = text-sound name is_writing writing bytes e in
      resound true false name is_writing writing bytes bytes t.steps e
      (ap (steps_from head false) t.text ∙ begun-again head is t.steps t.formed)

  -- a whole file holds the text of its steps
  pub whole-kept : (name : List ℕ) (is_writing : Bool) (writing kept : Option (List ℕ)) →
      is_written head true name is_writing writing kept ≡ true → kept
      ≡ option_map (text_of head) (steps_kept head kept)
  whole-kept name is_writing writing None e = refl
  whole-kept name is_writing writing (Some bytes) e =
      let t = text-sound name is_writing writing bytes e in
      ap (λ b. Some b) t.text
      ∙ sym (ap (option_map (text_of head))
      (ap (steps_from head false) t.text ∙ begun-again head is t.steps t.formed))

  pub whole-named : (whole : Bool) (name other : List ℕ) (is_writing : Bool) (writing : Option (List ℕ))
      (kept : List ℕ → Option (List ℕ)) → whole ≡ true → name ≡ other →
      is_written head whole name is_writing writing (kept name) ≡ true →
      kept other ≡ option_map (text_of head) (steps_kept head (kept other))
  whole-named whole name other is_writing writing kept whole_is same e =
      subst (λ n. kept n ≡ option_map (text_of head) (steps_kept head (kept n))) same
      (whole-kept name is_writing writing (kept name)
      (ap (λ b. is_written head b name is_writing writing (kept name)) (sym whole_is) ∙ e))

  -- THE FIRST LINES

  lines_are : text_of head [] ≡ head_text head
  lines_are = append-nil (head_text head)

  pub begun-sound : (name : List ℕ) (writing old new : Option (List ℕ)) → IsFollowed name writing old →
      IfSome old (λ bytes. bytes ≡ []) →
      Appends old new (head_text head) → is_written head true name true writing new ≡ true
  begun-sound name writing None new follows empty added = ap (is_written head true name true writing) added
      ∙ may writing (λ other is. follows.named other is)
    where
      may : (w : Option (List ℕ)) → ((other : List ℕ) → w ≡ Some other → other ≡ name) →
          may_be_named name w ≡ true
      may None h = refl
      may (Some v) h = (bytes_eq-Decides v name).1 (h v refl)
  begun-sound name writing (Some bytes) new follows empty added =
      let begins : bytes ++ head_text head ≡ text_of head [] = ap (λ b. b ++ head_text head) empty
      ∙ sym lines_are in
      let found : steps_from head true (bytes ++ head_text head) ≡ Some [] = ap (steps_from head true) begins
      ∙ whole-again head is [] (All-nil HasLine) in
      let is_name : is_named name writing ≡ true = ap (is_named name) (follows.told bytes refl)
      ∙ (bytes_eq-Decides name name).1 refl in
      ap (is_written head true name true writing) added
      ∙ and_from (is_named name writing) (is_some (steps_from head true (bytes ++ head_text head))) is_name
      (ap is_some found)

  pub begun-head : (old new : Option (List ℕ)) → IfSome old (λ bytes. bytes ≡ []) →
      Appends old new (head_text head) → IfSome new (λ bytes. bytes ≡ text_of head [])
  begun-head None new empty added = subst (λ k. IfSome k (λ bytes. bytes ≡ text_of head [])) (sym added) tt
  begun-head (Some bytes) new empty added =
      subst (λ k. IfSome k (λ b. b ≡ text_of head [])) (sym added)
      (ap (λ b. b ++ head_text head) empty ∙ sym lines_are)

  pub begun-steps : (kept : Option (List ℕ)) → IfSome kept (λ bytes. bytes ≡ text_of head []) →
      steps_kept head kept ≡ option_map (λ (bytes : List ℕ). []) kept
  begun-steps None begins = refl
  begun-steps (Some bytes) begins = ap (steps_from head false) begins
      ∙ begun-again head is [] (All-nil HasLine)

  -- A LINE MORE

  pub added-sound : (step : CertStep) → HasLine step →
      (name : List ℕ) (is_writing : Bool) (writing old new : Option (List ℕ)) →
      is_written head true name is_writing writing old ≡ true → Appends old new (with_feed (line_of step)) →
      is_written head true name is_writing writing new ≡ true
  added-sound step h name is_writing writing None new e added = ap
      (is_written head true name is_writing writing) added ∙ e
  added-sound step h name is_writing writing (Some bytes) new e added =
      let t = text-sound name is_writing writing bytes e in
      let found : steps_from head true (bytes ++ with_feed (line_of step)) ≡ Some (t.steps ++ step ∷ []) =
      ap (λ b. steps_from head true (b ++ with_feed (line_of step))) t.text
      ∙ ap (steps_from head true) (sym (text-push head t.steps step))
      ∙ whole-again head is (t.steps ++ step ∷ []) (All-push HasLine t.steps step t.formed h) in
      ap (is_written head true name is_writing writing) added
      ∙ resound true true name is_writing writing bytes (bytes ++ with_feed (line_of step))
      (t.steps ++ step ∷ []) e found

  pub added-told : (step : CertStep) → HasLine step →
      (name : List ℕ) (is_writing : Bool) (writing old new : Option (List ℕ)) →
      is_written head true name is_writing writing old ≡ true → Appends old new (with_feed (line_of step)) →
      steps_kept head new ≡ with_told step (steps_kept head old)
  added-told step h name is_writing writing None new e added = ap (steps_kept head) added
  added-told step h name is_writing writing (Some bytes) new e added =
      let t = text-sound name is_writing writing bytes e in
      ap (steps_kept head) added
      ∙ ap (λ b. steps_from head false (b ++ with_feed (line_of step))) t.text
      ∙ ap (steps_from head false) (sym (text-push head t.steps step))
      ∙ begun-again head is (t.steps ++ step ∷ []) (All-push HasLine t.steps step t.formed h)
      ∙ sym (ap (with_told step) (ap (steps_from head false) t.text ∙ begun-again head is t.steps t.formed))

  -- some bytes of the line: it is there whole, or not at all
  partly : (step : CertStep) → HasLine step → (bytes : List ℕ) (count : ℕ) (t : IsText head bytes) →
      (steps_from head false (bytes ++ take count (with_feed (line_of step))) ≡ Some t.steps)
      ⊎ (steps_from head false (bytes ++ take count (with_feed (line_of step))) ≡ Some (t.steps ++ step ∷ []))
  partly step h bytes count t =
      subst (λ b. (steps_from head false (b ++ take count (with_feed (line_of step))) ≡ Some t.steps)
      ⊎ (steps_from head false (b ++ take count (with_feed (line_of step))) ≡ Some (t.steps ++ step ∷ [])))
      (sym t.text) (partly-added head is t.steps step count t.formed h)

  pub partly-sound : (step : CertStep) → HasLine step →
      (name : List ℕ) (is_writing : Bool) (writing old new : Option (List ℕ)) →
      is_written head true name is_writing writing old ≡ true →
      AppendsPrefix old new (with_feed (line_of step)) →
      is_written head false name is_writing writing new ≡ true
  partly-sound step h name is_writing writing None new e prefix = ap
      (is_written head false name is_writing writing) prefix.1 ∙ e
  partly-sound step h name is_writing writing (Some bytes) new e prefix =
      ap (is_written head false name is_writing writing) prefix.1 ∙ by (partly step h bytes prefix.0 t)
    where
      t : IsText head bytes
      t = text-sound name is_writing writing bytes e

      by : (steps_from head false (bytes ++ take prefix.0 (with_feed (line_of step))) ≡ Some t.steps)
          ⊎ (steps_from head false (bytes ++ take prefix.0 (with_feed (line_of step)))
          ≡ Some (t.steps ++ step ∷ []))
          → is_written head false name is_writing writing
          (Some (bytes ++ take prefix.0 (with_feed (line_of step))))
          ≡ true
      by (inl found) = resound true false name is_writing writing bytes
          (bytes ++ take prefix.0 (with_feed (line_of step))) t.steps e found
      by (inr found) = resound true false name is_writing writing bytes
          (bytes ++ take prefix.0 (with_feed (line_of step))) (t.steps ++ step ∷ []) e found

  pub partly-may : (step : CertStep) → HasLine step →
      (name : List ℕ) (is_writing : Bool) (writing old new : Option (List ℕ)) →
      is_written head true name is_writing writing old ≡ true →
      AppendsPrefix old new (with_feed (line_of step)) →
      MayAdd step (steps_kept head old) (steps_kept head new)
  partly-may step h name is_writing writing None new e prefix = inl (ap (steps_kept head) prefix.1)
  partly-may step h name is_writing writing (Some bytes) new e prefix = by (partly step h bytes prefix.0 t)
    where
      t : IsText head bytes
      t = text-sound name is_writing writing bytes e

      before : (u : IsText head bytes) → steps_kept head (Some bytes) ≡ Some u.steps
      before u = ap (steps_from head false) u.text ∙ begun-again head is u.steps u.formed

      by : (steps_from head false (bytes ++ take prefix.0 (with_feed (line_of step))) ≡ Some t.steps)
          ⊎ (steps_from head false (bytes ++ take prefix.0 (with_feed (line_of step)))
          ≡ Some (t.steps ++ step ∷ []))
          → MayAdd step (steps_kept head (Some bytes)) (steps_kept head new)
      by (inl found) = inl (ap (steps_kept head) prefix.1 ∙ found ∙ sym (before t))
      by (inr found) = inr (ap (steps_kept head) prefix.1 ∙ found ∙ sym (ap (with_told step) (before t)))

-- OF THE OUTSIDE

pub sound-countable : (head : CertHead) (whole : Bool) (name : List ℕ) (o : Outside) →
    is_sound head whole name o ≡ true → head.conflicts < 2 ^ 62
unfolding is_sound
sound-countable head whole name o sound =
    ltb-true head.conflicts (2 ^ 62) ((and_parts (nat_lt head.conflicts (2 ^ 62))
    (is_written head whole name o.is_writing o.writing (o.kept name)) sound).0)

pub sound-written : (head : CertHead) (whole : Bool) (name : List ℕ) (o : Outside) →
    is_sound head whole name o ≡ true →
    is_written head whole name o.is_writing o.writing (o.kept name) ≡ true
unfolding is_sound
sound-written head whole name o sound =
    (and_parts (nat_lt head.conflicts (2 ^ 62))
    (is_written head whole name o.is_writing o.writing (o.kept name)) sound).1

pub written-sound : (head : CertHead) (whole : Bool) (name : List ℕ) (o : Outside) →
    head.conflicts < 2 ^ 62 → is_written head whole name o.is_writing o.writing (o.kept name) ≡ true →
    is_sound head whole name o ≡ true
unfolding is_sound
written-sound head whole name o below written =
    and_from (nat_lt head.conflicts (2 ^ 62))
    (is_written head whole name o.is_writing o.writing (o.kept name))
    (lt-ltb head.conflicts (2 ^ 62) below) written
