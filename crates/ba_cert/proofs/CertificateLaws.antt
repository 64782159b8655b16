-- The bytes of a certificate are read as its steps, and what is read as steps is their text.

use Rattle.std.proofs.Common.{◌≡◌, ◌≢◌, ℕ, ◌<◌, ◌≤◌, eqb, Bool, true, false, cond, Option, None, Some, option_map, List, [], ◌∷◌, ◌++◌, map, length, take, drop, get_or, bytes_eq, All, refl, sym, ap, ◌∙◌, subst, append_assoc, append-nil, arith, inl, inr, ◌⊎◌, true≢false}
use Rattle.std.specs.List.{slice_split, join_with_byte}
use Rattle.std.proofs.lemmas.Bool.{eqb-true, cases_lt}
use Rattle.std.proofs.lemmas.List.{nil_from_length, take-append-le, take_all, length_push}
use Rattle.std.proofs.lemmas.List.Concat.{flat_map-append}
use Rattle.std.proofs.lemmas.List.Elements.{All-nil, All-cons, All-head, All-tail, All-push}
use Rattle.std.proofs.lemmas.List.Splits.{slice_split_none, slice_split_at, join_with_byte-slice_split}
use Rattle.std.proofs.lemmas.Option.{none-some, same_Some}
use Rattle.std.proofs.lemmas.Slice.Eq.{bytes_eq-Decides}
use Rattle.ba_bytes.specs.Classes.{is_line_end}
use Rattle.ba_steps.specs.declared.step.CertStep.{CertStep}
use Rattle.ba_cert.specs.declared.head.CertHead.{CertHead}
use Rattle.ba_cert.specs.Text.{line_of, with_feed, head_line, settings_line, head_text, step_lines, text_of, old_text_of, HasLine, IsHead}
use Rattle.ba_cert.specs.Reading.{◌>>=◌, step_in}
use Rattle.ba_cert.specs.Certificates.{last_by, steps_by, after_first, after_head, steps_from}
use Rattle.ba_cert.proofs.Binding.{bound, mapped, passed}
use Rattle.ba_cert.proofs.PlainLaws.{has_no_feed, no_feed, front-feedless}
use Rattle.ba_cert.proofs.LineLaws.{line-feedless, line-again, line-back}
use Rattle.ba_cert.proofs.SettingsLaws.{settings-feedless, settings-once}

-- CUT INTO LINES

feed_first : (line lines rest : List ℕ) → (with_feed line ++ lines) ++ rest ≡ line ++ 10 ∷ (lines ++ rest)
feed_first line lines rest =
    append_assoc (line ++ 10 ∷ []) lines rest ∙ append_assoc line (10 ∷ []) (lines ++ rest)

cut_line : (line lines rest : List ℕ) → has_no_feed line ≡ true →
    slice_split is_line_end ((with_feed line ++ lines) ++ rest)
    ≡ line ∷ slice_split is_line_end (lines ++ rest)
cut_line line lines rest plain =
    ap (slice_split is_line_end) (feed_first line lines rest)
    ∙ slice_split_at is_line_end line 10 (lines ++ rest) (no_feed line plain) refl

cut_lines : (steps : List CertStep) (rest : List ℕ) → All HasLine steps → has_no_feed rest ≡ true →
    slice_split is_line_end (step_lines steps ++ rest) ≡ map line_of steps ++ rest ∷ []
cut_lines [] rest all plain = slice_split_none is_line_end rest (no_feed rest plain)
cut_lines (s ∷ ss) rest all plain =
    cut_line (line_of s) (step_lines ss) rest (line-feedless s (All-head HasLine s ss all))
    ∙ ap (λ r. line_of s ∷ r) (cut_lines ss rest (All-tail HasLine s ss all) plain)

cut_text : (h : CertHead) → IsHead h → (steps : List CertStep) (rest : List ℕ) → All HasLine steps →
    has_no_feed rest ≡ true →
    slice_split is_line_end (text_of h steps ++ rest)
    ≡ head_line ∷ settings_line h ∷ (map line_of steps ++ rest ∷ [])
cut_text h is steps rest all plain =
    let behind = with_feed (settings_line h) ++ step_lines steps in
    ap (λ t. slice_split is_line_end (t ++ rest))
    (append_assoc (with_feed head_line) (with_feed (settings_line h)) (step_lines steps))
    ∙ cut_line head_line behind rest refl
    ∙ ap (λ r. head_line ∷ r) (cut_line (settings_line h) (step_lines steps) rest (settings-feedless h is)
    ∙ ap (λ r. settings_line h ∷ r) (cut_lines steps rest all plain))

-- READ AGAIN

-- one line more, if others follow
steps_by-line : (whole : Bool) (line : List ℕ) (lines : List (List ℕ)) → 0 < length lines →
    steps_by whole (line ∷ lines)
    ≡ step_in line >>= (λ step. option_map (λ steps. step ∷ steps) (steps_by whole lines))
steps_by-line whole line [] some = absurd (omega (arith, some))
steps_by-line whole line (other ∷ lines) some = refl

lines_again : (whole : Bool) (steps : List CertStep) (rest : List ℕ) → All HasLine steps →
    last_by whole rest ≡ Some [] →
    steps_by whole (map line_of steps ++ rest ∷ []) ≡ Some steps
lines_again whole [] rest all last = last
lines_again whole (s ∷ ss) rest all last =
    let others = map line_of ss ++ rest ∷ [] in
    let some : 0 < length others = omega (arith, length_push (map line_of ss) rest) in
    steps_by-line whole (line_of s) others some
    ∙ ap (λ o. o >>= (λ step. option_map (λ steps. step ∷ steps) (steps_by whole others)))
    (line-again s (All-head HasLine s ss all))
    ∙ ap (option_map (λ steps. s ∷ steps)) (lines_again whole ss rest (All-tail HasLine s ss all) last)

first_again : (wanted : List ℕ) (reading : List (List ℕ) → Option (List CertStep)) (lines : List (List ℕ)) →
    0 < length lines → after_first wanted reading (wanted ∷ lines) ≡ reading lines
first_again wanted reading [] some = absurd (omega (arith, some))
first_again wanted reading (other ∷ lines) some =
    ap (λ t. cond t (reading (other ∷ lines)) None) ((bytes_eq-Decides wanted wanted).1 refl)

head_again : (h : CertHead) (whole : Bool) (lines : List (List ℕ)) → 0 < length lines →
    after_head h whole (head_line ∷ settings_line h ∷ lines) ≡ steps_by whole lines
head_again h whole lines some =
    first_again head_line (after_first (settings_line h) (steps_by whole)) (settings_line h ∷ lines)
    (omega arith)
    ∙ first_again (settings_line h) (steps_by whole) lines some

module _ (h : CertHead) (is : IsHead h) where
  text_again : (whole : Bool) (steps : List CertStep) (rest : List ℕ) → All HasLine steps →
      has_no_feed rest ≡ true → last_by whole rest ≡ Some [] →
      steps_from h whole (text_of h steps ++ rest) ≡ Some steps
  unfolding steps_from
  text_again whole steps rest all plain last =
      let others = map line_of steps ++ rest ∷ [] in
      let some : 0 < length others = omega (arith, length_push (map line_of steps) rest) in
      ap (after_head h whole) (cut_text h is steps rest all plain) ∙ head_again h whole others some
      ∙ lines_again whole steps rest all last

  -- the whole text
  pub whole-again : (steps : List CertStep) → All HasLine steps →
      steps_from h true (text_of h steps) ≡ Some steps
  whole-again steps all = ap (steps_from h true) (sym (append-nil (text_of h steps)))
      ∙ text_again true steps [] all refl refl

  -- and a rest that is no line
  pub lines-again : (steps : List CertStep) (rest : List ℕ) → All HasLine steps → has_no_feed rest ≡ true →
      steps_from h false (text_of h steps ++ rest) ≡ Some steps
  lines-again steps rest all plain = text_again false steps rest all plain refl

  pub begun-again : (steps : List CertStep) → All HasLine steps →
      steps_from h false (text_of h steps) ≡ Some steps
  begun-again steps all = ap (steps_from h false) (sym (append-nil (text_of h steps)))
      ∙ lines-again steps [] all refl

-- READ BACK

last-back : (rest : List ℕ) (steps : List CertStep) → last_by true rest ≡ Some steps →
    (rest ≡ []) × (steps ≡ [])
last-back rest steps e =
    let p = passed (eqb (length rest) 0) (Some []) steps e in
    (nil_from_length rest (eqb-true (length rest) 0 p.0), sym (same_Some [] steps p.1))

record AreLines (lines : List (List ℕ)) (steps : List CertStep) : Type 0 where
  joined : join_with_byte 10 lines ≡ step_lines steps
  formed : All HasLine steps

lines_back : (lines : List (List ℕ)) (steps : List CertStep) → steps_by true lines ≡ Some steps →
    AreLines lines steps
lines_back [] steps e = absurd (none-some steps e)
lines_back (rest ∷ []) steps e =
    let l = last-back rest steps e in record {
      joined = l.0 ∙ ap step_lines (sym l.1);
      formed = subst (All HasLine) (sym l.1) (All-nil HasLine);
    }
lines_back (line ∷ other ∷ lines) steps e =
    let b = bound (step_in line)
    (λ step. option_map (λ steps. step ∷ steps) (steps_by true (other ∷ lines))) steps e in
    let m = mapped (λ (steps : List CertStep). b.value ∷ steps)
    (steps_by true (other ∷ lines)) steps b.second in
    let r = lines_back (other ∷ lines) m.value m.first in
    let one = line-back line b.value b.first in
    let read : AreLines (line ∷ other ∷ lines) (b.value ∷ m.value) = record {
      joined =
          ap (λ x. x ++ 10 ∷ join_with_byte 10 (other ∷ lines)) one.0
          ∙ ap (λ x. line_of b.value ++ 10 ∷ x) r.joined
          ∙ sym (append_assoc (line_of b.value) (10 ∷ []) (step_lines m.value));
      formed = All-cons HasLine b.value m.value one.1 r.formed;
    } in
    subst (AreLines (line ∷ other ∷ lines)) m.same read

-- a first line, and what is read of the lines after it
record IsBehind (wanted : List ℕ) (reading : List (List ℕ) → Option (List CertStep)) (lines : List (List ℕ))
    (steps : List CertStep) : Type 0
  where
    other : List ℕ
    others : List (List ℕ)
    lines_are : lines ≡ wanted ∷ other ∷ others
    read : reading (other ∷ others) ≡ Some steps

first_back : (wanted : List ℕ) (reading : List (List ℕ) → Option (List CertStep)) (lines : List (List ℕ))
    (steps : List CertStep) →
    after_first wanted reading lines ≡ Some steps → IsBehind wanted reading lines steps
first_back wanted reading [] steps e = absurd (none-some steps e)
first_back wanted reading (line ∷ []) steps e = absurd (none-some steps e)
first_back wanted reading (line ∷ other ∷ lines) steps e =
    let p = passed (bytes_eq line wanted) (reading (other ∷ lines)) steps e in record {
      other = other;
      others = lines;
      lines_are = ap (λ l. l ∷ other ∷ lines) ((bytes_eq-Decides line wanted).0 p.0);
      read = p.1;
    }

feed_behind : (line rest : List ℕ) → line ++ 10 ∷ rest ≡ with_feed line ++ rest
feed_behind line rest = sym (append_assoc line (10 ∷ []) rest)

head_back : (h : CertHead) (lines : List (List ℕ)) (steps : List CertStep) →
    after_head h true lines ≡ Some steps →
    (join_with_byte 10 lines ≡ text_of h steps) × All HasLine steps
head_back h lines steps e =
    let settings = settings_line h in
    let first = first_back head_line (after_first settings (steps_by true)) lines steps e in
    let second = first_back settings (steps_by true) (first.other ∷ first.others) steps first.read in
    let r = lines_back (second.other ∷ second.others) steps second.read in (
      ap (join_with_byte 10) (first.lines_are ∙ ap (λ ls. head_line ∷ ls) second.lines_are)
          ∙ ap (λ x. head_line ++ 10 ∷ (settings ++ 10 ∷ x)) r.joined
          ∙ feed_behind head_line (settings ++ 10 ∷ step_lines steps)
          ∙ ap (λ x. with_feed head_line ++ x) (feed_behind settings (step_lines steps))
          ∙ sym (append_assoc (with_feed head_line) (with_feed settings) (step_lines steps)),
      r.formed,
    )

pub whole-back : (h : CertHead) (bytes : List ℕ) (steps : List CertStep) →
    steps_from h true bytes ≡ Some steps →
    (bytes ≡ text_of h steps) × All HasLine steps
unfolding steps_from
whole-back h bytes steps e =
    let r = head_back h (slice_split is_line_end bytes) steps e in
    (sym (join_with_byte-slice_split 10 bytes) ∙ r.0, r.1)

-- no text is that of two settings, or of two lists of steps
same_heads : (a b c d : List ℕ) (xs ys : List (List ℕ)) → a ∷ b ∷ xs ≡ c ∷ d ∷ ys → b ≡ d
same_heads a b c d xs ys same = cc

pub head-once : (h other : CertHead) → IsHead h → IsHead other → (steps others : List CertStep) →
    All HasLine steps → All HasLine others → text_of h steps ≡ text_of other others → h ≡ other
head-once h other is formed steps others all each same =
    settings-once h other is formed
    (same_heads head_line (settings_line h) head_line (settings_line other)
    (map line_of steps ++ [] ∷ []) (map line_of others ++ [] ∷ [])
    (sym (cut_text h is steps [] all refl)
    ∙ ap (λ t. slice_split is_line_end (t ++ [])) same
    ∙ cut_text other formed others [] each refl))

pub text-once : (h other : CertHead) (steps others : List CertStep) → IsHead h → IsHead other →
    All HasLine steps → All HasLine others →
    text_of h steps ≡ text_of other others → (h ≡ other) × (steps ≡ others)
text-once h other steps others is formed all each same =
    let heads = head-once h other is formed steps others all each same in (
      heads,
      same_Some steps others
          (sym (whole-again h is steps all) ∙ ap (steps_from h true) same
          ∙ ap (λ x. steps_from h true (text_of x others)) (sym heads)
          ∙ whole-again h is others each),
    )

-- nor is one of version 1
lines-once : (steps others : List CertStep) → All HasLine steps → All HasLine others →
    step_lines steps ≡ step_lines others → steps ≡ others
lines-once steps others all each same =
    same_Some steps others
    (sym (lines_again true steps [] all refl) ∙ ap (steps_by true) (sym (cut_lines steps [] all refl))
    ∙ ap (λ t. steps_by true (slice_split is_line_end (t ++ []))) same
    ∙ ap (steps_by true) (cut_lines others [] each refl) ∙ lines_again true others [] each refl)

pub old-once : (steps others : List CertStep) → All HasLine steps → All HasLine others →
    old_text_of steps ≡ old_text_of others → steps ≡ others
old-once steps others all each same = lines-once steps others all each (ap (drop 12) same)

pub versions-apart : (h : CertHead) (steps others : List CertStep) → text_of h steps ≢ old_text_of others
versions-apart h steps others same = true≢false (ap (λ (t : List ℕ). eqb (get_or t 10 0) 50) same)

-- ONE STEP MORE

pub text-push : (h : CertHead) (steps : List CertStep) (step : CertStep) →
    text_of h (steps ++ step ∷ []) ≡ text_of h steps ++ with_feed (line_of step)
text-push h steps step =
    ap (λ lines. head_text h ++ lines)
    (flat_map-append (λ (s : CertStep). with_feed (line_of s)) steps (step ∷ []))
    ∙ sym (append_assoc (head_text h) (step_lines steps) (with_feed (line_of step) ++ []))
    ∙ ap (λ line. text_of h steps ++ line) (append-nil (with_feed (line_of step)))

-- a text with some bytes of the line of a step: the line isn't there, or it is whole
module _ (h : CertHead) (is : IsHead h) where
  pub partly-added : (steps : List CertStep) (step : CertStep) (count : ℕ) → All HasLine steps →
      HasLine step →
      (steps_from h false (text_of h steps ++ take count (with_feed (line_of step))) ≡ Some steps)
      ⊎ (steps_from h false (text_of h steps ++ take count (with_feed (line_of step)))
      ≡ Some (steps ++ step ∷ []))
  partly-added steps step count all has = by (cases_lt (length (line_of step)) count)
    where
      by : (length (line_of step) < count) ⊎ (count ≤ length (line_of step)) →
          (steps_from h false (text_of h steps ++ take count (with_feed (line_of step))) ≡ Some steps)
          ⊎ (steps_from h false (text_of h steps ++ take count (with_feed (line_of step)))
          ≡ Some (steps ++ step ∷ []))
      by (inl far) =
          let all_of : take count (with_feed (line_of step)) ≡ with_feed (line_of step) =
          take_all count (with_feed (line_of step)) (omega (arith, far, length_push (line_of step) 10)) in
          inr (ap (λ r. steps_from h false (text_of h steps ++ r)) all_of
          ∙ ap (steps_from h false) (sym (text-push h steps step))
          ∙ begun-again h is (steps ++ step ∷ []) (All-push HasLine steps step all has))
      by (inr near) =
          inl (ap (λ r. steps_from h false (text_of h steps ++ r))
          (take-append-le count (line_of step) (10 ∷ []) near)
          ∙ lines-again h is steps (take count (line_of step)) all
          (front-feedless count (line_of step) (line-feedless step has)))
