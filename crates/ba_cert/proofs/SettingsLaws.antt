-- The settings line is read as its settings, and a line that is read is that of what was read.

use Rattle.std.proofs.Common.{◌≡◌, ℕ, ◌^◌, ◌<◌, ltb, true, cond, Option, None, Some, option_map, List, [], ◌∷◌, codes, decimal, bytes_eq, refl, sym, ap, ◌∙◌, subst, arith}
use Rattle.std.proofs.lemmas.Bool.{ltb-true, lt-ltb, and_from}
use Rattle.std.proofs.lemmas.Option.{none-some, same_Some, cond_some}
use Rattle.std.proofs.lemmas.Slice.Eq.{bytes_eq-Decides}
use Rattle.ba_cert.specs.declared.head.CertHead.{CertHead}
use Rattle.ba_cert.specs.Readers.{IsReading}
use Rattle.ba_cert.specs.Text.{IsHead, joined, settings_line}
use Rattle.ba_cert.specs.Reading.{◌>>=◌, if_below, has_more, number_of, small_of, next_by, head_with, head_by, head_at, settings_at, settings_in, parts_of}
use Rattle.ba_cert.proofs.Binding.{bound, mapped, refused, passed}
use Rattle.ba_cert.proofs.CutLaws.{parts_of-joined, joined-parts_of}
use Rattle.ba_cert.proofs.NumberLaws.{number-back, number-again}
use Rattle.ba_cert.proofs.PlainLaws.{is_plain, are_plain, decimal-plain, has_no_feed, joined-feedless}
use Rattle.ba_cert.proofs.StepLaws.{no_more}

-- the parts after the `b`
number_parts : CertHead → List (List ℕ)
number_parts h = decimal h.bounds.turns ∷ decimal h.bounds.frames ∷ decimal h.conflicts ∷ decimal h.sets ∷ []

small-back : (p : List ℕ) (n : ℕ) → small_of p ≡ Some n → (p ≡ decimal n) × (n < 2 ^ 32)
unfolding small_of
small-back p n e =
    let b = bound (number_of p) (if_below (2 ^ 32)) n e in
    let t = cond_some (ltb b.value (2 ^ 32)) b.value n b.second in
    let number = number-back p b.value b.first in
    (number.0 ∙ ap decimal t.1, subst (λ x. x < 2 ^ 32) t.1 (ltb-true b.value (2 ^ 32) t.0))

small-again : (n : ℕ) → n < 2 ^ 32 → small_of (decimal n) ≡ Some n
unfolding small_of
small-again n below =
    ap (λ o. o >>= if_below (2 ^ 32)) (number-again n (omega (arith, below)))
    ∙ ap (λ t. cond t (Some n) None) (lt-ltb n (2 ^ 32) below)

-- the next part
next-again : (reading : List ℕ → Option ℕ) (part : List ℕ) (parts : List (List ℕ)) (n : ℕ) →
    reading part ≡ Some n → next_by reading (part ∷ parts) ≡ Some (n, parts)
next-again reading part parts n is = ap (option_map (λ (n : ℕ). (n, parts))) is

record IsNext (reading : List ℕ → Option ℕ) (parts : List (List ℕ)) (next : ℕ × List (List ℕ)) : Type 0 where
  part : List ℕ
  parts_are : parts ≡ part ∷ next.1
  read : reading part ≡ Some next.0

next-back : (reading : List ℕ → Option ℕ) (parts : List (List ℕ)) (next : ℕ × List (List ℕ)) →
    next_by reading parts ≡ Some next → IsNext reading parts next
next-back reading [] next e = absurd (none-some next e)
next-back reading (part ∷ parts) next e =
    let m = mapped (λ (n : ℕ). (n, parts)) (reading part) next e in
    record {
      part = part;
      parts_are = ap (λ (x : ℕ × List (List ℕ)). part ∷ x.1) m.same;
      read = m.first ∙ ap (λ (x : ℕ × List (List ℕ)). Some x.0) m.same;
    }

-- READ AGAIN

head-again : (h : CertHead) → IsHead h → head_at (number_parts h) ≡ Some h
unfolding head_at number_parts
head-again h is =
    let turns = decimal h.bounds.turns in
    let frames = decimal h.bounds.frames in
    let conflicts = decimal h.conflicts in
    let sets = decimal h.sets in
    let last : next_by small_of (sets ∷ []) >>= head_by h.bounds.turns h.bounds.frames h.conflicts ≡ Some h =
    ap (λ o. o >>= head_by h.bounds.turns h.bounds.frames h.conflicts)
    (next-again small_of sets [] h.sets (small-again h.sets is.sets)) in
    let third = ap (λ o. o >>= (λ (c : ℕ × List (List ℕ)). next_by small_of c.1
    >>= head_by h.bounds.turns h.bounds.frames c.0))
    (next-again number_of conflicts (sets ∷ []) h.conflicts (number-again h.conflicts is.conflicts)) in
    let second = ap (λ o. o >>= (λ (f : ℕ × List (List ℕ)). next_by number_of f.1
    >>= (λ (c : ℕ × List (List ℕ)). next_by small_of c.1 >>= head_by h.bounds.turns f.0 c.0)))
    (next-again small_of frames (conflicts ∷ sets ∷ []) h.bounds.frames
    (small-again h.bounds.frames is.frames)) in
    let first = ap (λ o. o >>= (λ (t : ℕ × List (List ℕ)). next_by small_of t.1
    >>= (λ (f : ℕ × List (List ℕ)). next_by number_of f.1
    >>= (λ (c : ℕ × List (List ℕ)). next_by small_of c.1 >>= head_by t.0 f.0 c.0))))
    (next-again small_of turns (frames ∷ conflicts ∷ sets ∷ []) h.bounds.turns
    (small-again h.bounds.turns is.turns)) in
    first ∙ second ∙ third ∙ last

numbers-plain : (h : CertHead) → IsHead h → are_plain (number_parts h) ≡ true
unfolding number_parts
numbers-plain h is =
    let turns = is.turns in
    let frames = is.frames in
    let sets = is.sets in
    let last = and_from (is_plain (decimal h.sets)) true (decimal-plain h.sets (omega (arith, sets))) refl in
    let two = and_from (is_plain (decimal h.conflicts)) (are_plain (decimal h.sets ∷ []))
    (decimal-plain h.conflicts is.conflicts) last in
    let three = and_from (is_plain (decimal h.bounds.frames))
    (are_plain (decimal h.conflicts ∷ decimal h.sets ∷ []))
    (decimal-plain h.bounds.frames (omega (arith, frames))) two in
    and_from (is_plain (decimal h.bounds.turns))
    (are_plain (decimal h.bounds.frames ∷ decimal h.conflicts ∷ decimal h.sets ∷ []))
    (decimal-plain h.bounds.turns (omega (arith, turns))) three

pub settings-feedless : (h : CertHead) → IsHead h → has_no_feed (settings_line h) ≡ true
unfolding number_parts
settings-feedless h is = joined-feedless (codes "b") (number_parts h) refl (numbers-plain h is)

pub settings-again : (h : CertHead) → IsHead h → settings_in (settings_line h) ≡ Some h
unfolding number_parts
settings-again h is =
    ap settings_at (parts_of-joined (codes "b") (number_parts h) refl (numbers-plain h is))
    ∙ head-again h is

-- READ BACK

record IsRead (parts : List (List ℕ)) (h : CertHead) : Type 0 where
  parts_are : parts ≡ number_parts h
  formed : IsHead h

head-back : (parts : List (List ℕ)) (h : CertHead) → head_at parts ≡ Some h → IsRead parts h
unfolding head_at number_parts
head-back parts h e =
    let turns = bound (next_by small_of parts) _ h e in
    let frames = bound (next_by small_of turns.value.1) _ h turns.second in
    let conflicts = bound (next_by number_of frames.value.1) _ h frames.second in
    let sets = bound (next_by small_of conflicts.value.1) _ h conflicts.second in
    let g = refused (has_more sets.value.1)
    (Some (head_with turns.value.0 frames.value.0 conflicts.value.0 sets.value.0)) h sets.second in
    let t = next-back small_of parts turns.value turns.first in
    let f = next-back small_of turns.value.1 frames.value frames.first in
    let c = next-back number_of frames.value.1 conflicts.value conflicts.first in
    let s = next-back small_of conflicts.value.1 sets.value sets.first in
    let turns_back = small-back t.part turns.value.0 t.read in
    let frames_back = small-back f.part frames.value.0 f.read in
    let conflicts_back = number-back c.part conflicts.value.0 c.read in
    let sets_back = small-back s.part sets.value.0 s.read in
    let found : IsRead parts (head_with turns.value.0 frames.value.0 conflicts.value.0 sets.value.0) =
    record {
      parts_are =
          t.parts_are ∙ ap (λ p. p ∷ turns.value.1) turns_back.0
          ∙ ap (λ r. decimal turns.value.0 ∷ r)
          (f.parts_are ∙ ap (λ p. p ∷ frames.value.1) frames_back.0
          ∙ ap (λ r. decimal frames.value.0 ∷ r)
          (c.parts_are ∙ ap (λ p. p ∷ conflicts.value.1) conflicts_back.0
          ∙ ap (λ r. decimal conflicts.value.0 ∷ r)
          (s.parts_are ∙ ap (λ p. p ∷ sets.value.1) sets_back.0
          ∙ ap (λ r. decimal sets.value.0 ∷ r) (no_more sets.value.1 g.0))));
      formed = record {
        turns = turns_back.1;
        frames = frames_back.1;
        conflicts = conflicts_back.1;
        sets = sets_back.1;
      };
    } in
    subst (IsRead parts)
    (same_Some (head_with turns.value.0 frames.value.0 conflicts.value.0 sets.value.0) h g.1) found

at-back : (parts : List (List ℕ)) (h : CertHead) → settings_at parts ≡ Some h →
    (parts ≡ codes "b" ∷ number_parts h) × IsHead h
at-back [] h e = absurd (none-some h e)
at-back (part ∷ parts) h e =
    let p = passed (bytes_eq part (codes "b")) (head_at parts) h e in
    let r = head-back parts h p.1 in (
      ap (λ b. b ∷ parts) ((bytes_eq-Decides part (codes "b")).0 p.0)
          ∙ ap (λ ps. codes "b" ∷ ps) r.parts_are,
      r.formed,
    )

pub settings-back : (line : List ℕ) (h : CertHead) → settings_in line ≡ Some h →
    (line ≡ settings_line h) × IsHead h
unfolding number_parts
settings-back line h e =
    let r = at-back (parts_of line) h e in
    (sym (joined-parts_of line) ∙ ap joined r.0, r.1)

pub settings-once : (h other : CertHead) → IsHead h → IsHead other → settings_line h ≡ settings_line other →
    h ≡ other
settings-once h other is formed same = same_Some h other
    (sym (settings-again h is) ∙ ap settings_in same ∙ settings-again other formed)

-- what a line is read as
pub settings-read : (line : List ℕ) (read : Option CertHead) → read ≡ settings_in line →
    IsReading IsHead settings_line line read
settings-read line None gives = λ h is same.
    none-some h (gives ∙ ap settings_in same ∙ settings-again h is)
settings-read line (Some h) gives = let r = settings-back line h (sym gives) in (r.1, r.0)
