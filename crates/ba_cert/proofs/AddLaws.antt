-- The first lines that a file begins with, and a line that is added to it.

use base.Fml.{GName}
use Rattle.std.proofs.Common.{◌≡◌, ◌⊎◌, ℕ, true, false, Ok, Err, IfSome, List, [], ◌∷◌, inl, inr, refl, sym, ap, ◌∙◌, arith}
use Rattle.ba_steps.specs.Sinks.{Takes}
use Rattle.ba_steps.specs.declared.sink.SinkError.{SinkError}
use Rattle.ba_steps.specs.declared.sink.SinkError.TheVariants as sink
use Rattle.ba_steps.specs.declared.step.CertStep.{CertStep}
use Rattle.ba_world.specs.World.{Adds, AddsPrefix, Appends, AppendsPrefix, HasWriteFault, IsBegun, OnlyWrites, OthersStay, Outside, StillWrites, WritesNone}
use Rattle.ba_world.specs.declared.world.WorldError.{WorldError}
use Rattle.ba_world.specs.declared.world.WorldError.TheVariants as world
use Rattle.ba_cert.specs.declared.head.CertHead.{CertHead}
use Rattle.ba_cert.specs.Text.{HasLine, IsHead, head_text, line_of, text_of, with_feed}
use Rattle.ba_cert.specs.Writing.{HasNoStep, Holds, HoldsBeginning, HoldsPrefix, IsUnbegun, OnlyWritesTo, Writes, is_sound, is_written, sink_error, told_at}
use Rattle.ba_cert.proofs.PrefixLaws.{begun-prefix, empty-prefix, line-begins}
use Rattle.ba_cert.proofs.SinkLaws.{IsFollowed, added-sound, added-told, appended, as-before, begun-head, begun-sound, begun-steps, failed-is, followed-begun, followed-sound, others-stay, partly-may, partly-sound, prefixed, sound-still, sound-written, stays_then, written-sound}

-- THE FIRST LINES
module _ (head : CertHead) (is : IsHead head) (name : List ℕ) (mid new : Outside) (begun : IsBegun name mid)
    (bytes : List ℕ) (same : bytes ≡ head_text head) (others : StillWrites mid new) where
  follows : IsFollowed name mid.writing (mid.kept name)
  follows = followed-begun name mid.writing (mid.kept name) begun.named (begun.told name)

  added : Adds mid new bytes → Appends (mid.kept name) (new.kept name) (head_text head)
  added add = appended name mid.writing mid.kept new.kept bytes (head_text head) follows same add others.kept

  pub first-sound : Adds mid new bytes → is_sound head true name new ≡ true
  first-sound add =
      written-sound head true name new is.conflicts
      (as-before head true name true new.is_writing mid.writing new.writing (new.kept name)
      (others.begun ∙ begun.begun) others.named
      (begun-sound head is name mid.writing (mid.kept name) (new.kept name) follows begun.empty (added add)))

  held : Adds mid new bytes → Holds name (text_of head []) new
  held add = begun-head head is (mid.kept name) (new.kept name) begun.empty (added add)

  pub first-log : Adds mid new bytes → HasNoStep head name new
  first-log add = begun-steps head is (new.kept name) (held add)

  prefix : AddsPrefix mid new bytes → HoldsPrefix name (text_of head []) new
  prefix add =
      begun-prefix head (mid.kept name) (new.kept name) begun.empty
      (prefixed name mid.writing mid.kept new.kept bytes (head_text head) follows same add others.kept)

  module _ (old : Outside) (stay : OthersStay name old mid) (only : OnlyWrites old mid)
      (later : OnlyWrites mid new) (add : AddsPrefix mid new bytes) where
    stays : OnlyWritesTo name old new
    stays = stays_then name old mid new (record { held = stay.held; kept = stay.kept; stays = only })
        (others-stay name mid new follows others later)

    rose : HasWriteFault mid new → HasWriteFault old new
    rose (inl more) = let before = only.no_fall in inl (omega (arith, before, more))
    rose (inr top) = inr top

    pub first-whole : Adds mid new bytes → Writes name (text_of head []) (Ok tt) old new
    first-whole all = record { whole = held all; prefix = inr (prefix add); cause = λ e. cc; stays = stays }

    pub first-partly : (error : SinkError) (of : WorldError) → error ≡ sink_error of →
        (of ≡ world.Failed → HasWriteFault mid new) → Writes name (text_of head []) (Err error) old new
    first-partly error of is_of cause = record {
      whole = tt;
      prefix = inr (prefix add);
      cause = λ e. let failed : error ≡ sink.Failed = cc in rose (cause (failed-is of (sym is_of ∙ failed)));
      stays = stays;
    }

-- none of them is added, or no file is begun
module _ (head : CertHead) (name : List ℕ) (old new : Outside) (stay : OthersStay name old new)
    (only : OnlyWrites old new) where
  pub first-none : IsBegun name new → Writes name (text_of head []) (Err sink.Memory) old new
  first-none begun = record {
    whole = tt;
    prefix = inr (empty-prefix head (new.kept name) begun.empty);
    cause = λ e. cc;
    stays = record { held = stay.held; kept = stay.kept; stays = only };
  }

  unbegun : WritesNone name old new → IsUnbegun name old new ⊎ HoldsPrefix name (text_of head []) new
  unbegun none = by none.kept where
    by : (new.kept name ≡ old.kept name) ⊎ IfSome (new.kept name) (λ bytes. bytes ≡ []) →
        IsUnbegun name old new ⊎ HoldsPrefix name (text_of head []) new
    by (inl same) = inl (none.closed, same)
    by (inr empty) = inr (empty-prefix head (new.kept name) empty)

  pub first-refused : (error : SinkError) (of : WorldError) → error ≡ sink_error of →
      WritesNone name old new → (of ≡ world.Failed → HasWriteFault old new) → Writes name (text_of head []) (Err error) old new
  first-refused error of is_of none cause = record {
    whole = tt;
    prefix = unbegun none;
    cause = λ e. let failed : error ≡ sink.Failed = cc in cause (failed-is of (sym is_of ∙ failed));
    stays = record { held = stay.held; kept = stay.kept; stays = only };
  }

-- A LINE
module _ (head : CertHead) (is : IsHead head) (name : List ℕ) (old : Outside)
    (sound : is_sound head true name old ≡ true) (step : CertStep) (h : HasLine step) where
  written : is_written head true name old.is_writing old.writing (old.kept name) ≡ true
  written = sound-written head true name old sound

  -- none is added
  pub line-none : is_sound head false name old ≡ true
  line-none = written-sound head false name old is.conflicts
      (sound-still head is name old.is_writing old.writing (old.kept name) written)

  pub line-untaken : (reference : GName) →
      Takes step (Err sink.Memory) (told_at head name old reference) (told_at head name old reference)
  line-untaken reference = record {
    told = tt;
    refused = (inl refl, tt);
    over_stays = refl;
    cause = λ e. cc;
    outlasts = record { no_fall = omega arith; same_references = refl };
  }

  module _ (new : Outside) (bytes : List ℕ) (same : bytes ≡ with_feed (line_of step))
      (others : StillWrites old new) (only : OnlyWrites old new) where
    line-follows : IsFollowed name old.writing (old.kept name)
    line-follows = followed-sound head true name old.is_writing old.writing (old.kept name) written

    line-added : Adds old new bytes → Appends (old.kept name) (new.kept name) (with_feed (line_of step))
    line-added add = appended name old.writing old.kept new.kept bytes (with_feed (line_of step)) line-follows same
        add others.kept

    line-prefix : AddsPrefix old new bytes →
        AppendsPrefix (old.kept name) (new.kept name) (with_feed (line_of step))
    line-prefix add = prefixed name old.writing old.kept new.kept bytes (with_feed (line_of step)) line-follows same
        add others.kept

    pub line-stays : OnlyWritesTo name old new
    line-stays = others-stay name old new line-follows others only

    pub line-begun : AddsPrefix old new bytes → HoldsBeginning head name new
    line-begun add = line-begins head is step h name old new sound (line-prefix add)

    pub line-sound : Adds old new bytes → is_sound head true name new ≡ true
    line-sound add =
        written-sound head true name new is.conflicts
        (as-before head true name old.is_writing new.is_writing old.writing new.writing (new.kept name)
        others.begun others.named
        (added-sound head is step h name old.is_writing old.writing (old.kept name) (new.kept name) written
        (line-added add)))

    pub line-partly : AddsPrefix old new bytes → is_sound head false name new ≡ true
    line-partly add =
        written-sound head false name new is.conflicts
        (as-before head false name old.is_writing new.is_writing old.writing new.writing (new.kept name)
        others.begun others.named
        (partly-sound head is step h name old.is_writing old.writing (old.kept name) (new.kept name) written
        (line-prefix add)))

    pub line-taken : (reference : GName) → Adds old new bytes →
        Takes step (Ok tt) (told_at head name old reference) (told_at head name new reference)
    line-taken reference add = record {
      told = ap (λ log. log ∷ []) (added-told head is step h name old.is_writing old.writing (old.kept name)
          (new.kept name) written (line-added add));
      refused = tt;
      over_stays = refl;
      cause = λ e. cc;
      outlasts = record { no_fall = only.no_fall; same_references = refl };
    }

    pub line-refused : (reference : GName) (error : SinkError) (of : WorldError) → error ≡ sink_error of →
        AddsPrefix old new bytes → (of ≡ world.Failed → HasWriteFault old new) →
        Takes step (Err error) (told_at head name old reference) (told_at head name new reference)
    line-refused reference error of is_of add cause = record {
      told = tt;
      refused = (
        partly-may head is step h name old.is_writing old.writing (old.kept name) (new.kept name) written
            (line-prefix add),
        tt,
      );
      over_stays = refl;
      cause = λ e. let failed : error ≡ sink.Failed = cc in cause (failed-is of (sym is_of ∙ failed));
      outlasts = record { no_fall = only.no_fall; same_references = refl };
    }
