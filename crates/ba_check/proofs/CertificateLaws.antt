-- A text is accepted exactly if it is a certificate.

use Rattle.std.proofs.Common.{◌≡◌, ℕ, ◌+◌, ◌==◌, Bool, true, false, cond, Option, None, Some, List, [], ◌∷◌, ◌++◌, map, flat_map, bytes_eq, All, refl, sym, ap, ◌∙◌, subst, append_assoc, append-nil, arith, ◌↔◌, ◌&&◌, inl, inr, ◌⊎◌}
use Rattle.std.proofs.lemmas.Bool.{and_from, and_parts, eqb-true}
use Rattle.std.proofs.lemmas.Bool.Decides.{nat_tests}
use Rattle.std.proofs.lemmas.List.Concat.{flat_map-append}
use Rattle.std.proofs.lemmas.List.Elements.{All-cons, All-head, All-nil, All-tail, All-weaker}
use Rattle.std.proofs.lemmas.Option.{none-some, same_Some}
use Rattle.std.proofs.lemmas.Slice.Eq.{bytes_eq-Decides}
use Rattle.ba_cert.specs.declared.head.CertHead.{CertHead}
use Rattle.ba_cert.specs.Reading.{head_with, settings_in, step_in}
use Rattle.ba_cert.specs.Text.{HasLine, IsHead, head_line, line_of, old_head_line, old_text_of, settings_line, step_lines, text_of, with_feed}
use Rattle.ba_cert.proofs.LineLaws.{line-again, line-back, line-feedless}
use Rattle.ba_cert.proofs.PlainLaws.{no_feed}
use Rattle.ba_cert.proofs.SettingsLaws.{settings-again, settings-back, settings-feedless}
use Rattle.ba_derivations.specs.Derivations.{Problem, Verdict, start_of, verdict_of}
use Rattle.ba_steps.specs.Steps.{IsFormed}
use Rattle.ba_steps.specs.declared.step.CertStep.{CertStep}
use Rattle.ba_steps.specs.declared.step.StepError.{StepError}
use Rattle.ba_choices.specs.Judges.{Judge}
use Rattle.ba_checker.specs.StepRules.{after, after_all, error_of, next_if}
use Rattle.ba_checker.specs.States.{State}
use Rattle.ba_check.specs.Findings.{Accepted, Awaits, Begins, Course, Goes, IsCertificateOf, IsTextOf, Stops, after_line, after_lines, after_read, after_settings, after_step, bad_line, code_of, course_of, finding_by, finding_of, other_settings, same_settings}
use Rattle.ba_check.specs.Lines.{HasNoFeed, lines_in, rest_in}
use Rattle.ba_check.proofs.CourseLaws.{stopped}
use Rattle.ba_check.proofs.LineLaws.{first-line, rest-behind, text-again}

-- steps that lead from a state to a verdict, each with its line
record Leads (good : Judge) (s : State) (lines : List (List ℕ)) (verdict : Verdict) : Type 0 where
  front : List CertStep
  last : CertStep
  lines_are : lines ≡ map line_of (front ++ last ∷ [])
  have_lines : All HasLine (front ++ last ∷ [])
  state : State
  leads : after_all good s front ≡ Some state
  ends : error_of good state last ≡ None
  says : verdict_of state last ≡ Some verdict

-- WHAT IS ACCEPTED has steps

-- a line more that is not refused
record IsTaken (head : CertHead) (good : Judge) (n : ℕ) (s : State) (line : List ℕ) (lines : List (List ℕ))
    (end : Course) :
    Type 0 where
  step : CertStep
  is : step_in line ≡ Some step
  allowed : error_of good s step ≡ None
  others : after_lines head good (Goes (n + 1) (after s step) (verdict_of s step)) lines ≡ end

never : (head : CertHead) (good : Judge) (number code m : ℕ) (lines : List (List ℕ)) (t : State)
    (v : Verdict) →
    after_lines head good (Stops number code) lines ≡ Goes m t (Some v) → ⊥
never head good number code m lines t v e =
    let same : Stops number code ≡ Goes m t (Some v) = sym (stopped head good number code lines) ∙ e in cc

later : (head : CertHead) (good : Judge) (n : ℕ) (s : State) (said : Option Verdict) (line : List ℕ) →
    after_line head good (Goes n s said) line ≡ after_read good n s (step_in line)
unfolding after_line
later head good n s said line = refl

taken : (head : CertHead) (good : Judge) (n : ℕ) (s : State) (said : Option Verdict) (line : List ℕ)
    (lines : List (List ℕ))
    (m : ℕ) (t : State) (v : Verdict) →
    after_lines head good (Goes n s said) (line ∷ lines) ≡ Goes m t (Some v) →
    IsTaken head good n s line lines (Goes m t (Some v))
taken head good n s said line lines m t v e =
    by (step_in line) refl (sym (ap (λ c. after_lines head good c lines) (later head good n s said line)) ∙ e)
  where
    allowed : (step : CertStep) → step_in line ≡ Some step → (o : Option StepError) →
        error_of good s step ≡ o →
        after_lines head good (after_step n s step o) lines ≡ Goes m t (Some v) →
        IsTaken head good n s line lines (Goes m t (Some v))
    allowed step is None none rest = record { step = step; is = is; allowed = none; others = rest }
    allowed step is (Some error) none rest = absurd (never head good (n + 1) (code_of error) m lines t v rest)

    by : (o : Option CertStep) → step_in line ≡ o →
        after_lines head good (after_read good n s o) lines ≡ Goes m t (Some v) →
        IsTaken head good n s line lines (Goes m t (Some v))
    by None is rest = absurd (never head good (n + 1) bad_line m lines t v rest)
    by (Some step) is rest = allowed step is (error_of good s step) refl rest

said-by : (n m : ℕ) (s t : State) (said : Option Verdict) (v : Verdict) → Goes n s said ≡ Goes m t (Some v) →
    said ≡ Some v
said-by n m s t said v e = cc

last-leads : (good : Judge) (s : State) (line : List ℕ) (step : CertStep) (v : Verdict) →
    step_in line ≡ Some step → error_of good s step ≡ None → verdict_of s step ≡ Some v →
    Leads good s (line ∷ []) v
last-leads good s line step v is allowed says =
    let read = line-back line step is in
    record {
      front = [];
      last = step;
      lines_are = ap (λ l. l ∷ []) read.0;
      have_lines = All-cons HasLine step [] read.1 (All-nil HasLine);
      state = s;
      leads = refl;
      ends = allowed;
      says = says;
    }

more-leads : (good : Judge) (s : State) (line : List ℕ) (lines : List (List ℕ)) (step : CertStep) (v :
    Verdict) →
    step_in line ≡ Some step → error_of good s step ≡ None → Leads good (after s step) lines v →
    Leads good s (line ∷ lines) v
more-leads good s line lines step v is allowed others =
    let read = line-back line step is in
    record {
      front = step ∷ others.front;
      last = others.last;
      lines_are = ap (λ l. l ∷ lines) read.0 ∙ ap (λ ls. line_of step ∷ ls) others.lines_are;
      have_lines = All-cons HasLine step (others.front ++ others.last ∷ []) read.1 others.have_lines;
      state = others.state;
      leads = ap (λ o. next_if o (after_all good (after s step) others.front)) allowed ∙ others.leads;
      ends = others.ends;
      says = others.says;
    }

leads-back : (head : CertHead) (good : Judge) (n : ℕ) (s : State) (said : Option Verdict) (line : List ℕ)
    (lines : List (List
    ℕ))
    (m : ℕ) (t : State) (v : Verdict) →
    after_lines head good (Goes n s said) (line ∷ lines) ≡ Goes m t (Some v) → Leads good s (line ∷ lines) v
leads-back head good n s said line [] m t v e =
    let one = taken head good n s said line [] m t v e in
    last-leads good s line one.step v one.is one.allowed
    (said-by (n + 1) m (after s one.step) t (verdict_of s one.step) v one.others)
leads-back head good n s said line (other ∷ lines) m t v e =
    let one = taken head good n s said line (other ∷ lines) m t v e in
    more-leads good s line (other ∷ lines) one.step v one.is one.allowed
    (leads-back head good (n + 1) (after s one.step) (verdict_of s one.step) other lines m t v
    one.others)

-- what an accepted text is
record IsAccepted (course : Course) (rest : List ℕ) (v : Verdict) : Type 0 where
  lines : ℕ
  state : State
  course_is : course ≡ Goes lines state (Some v)
  rest_is : rest ≡ []

accepted_by : (course : Course) (rest : List ℕ) (v : Verdict) → finding_by course rest ≡ Accepted v →
    IsAccepted course rest v
accepted_by (Stops number code) rest v e = cc
accepted_by (Begins s) rest v e = cc
accepted_by (Awaits s) rest v e = cc
accepted_by (Goes lines s None) rest v e = cc
accepted_by (Goes lines s (Some said)) (b ∷ bs) v e = cc
accepted_by (Goes lines s (Some said)) [] v e =
    let same : said ≡ v = cc in
    record { lines = lines; state = s; course_is = ap (λ w. Goes lines s (Some w)) same; rest_is = refl }

-- SETTINGS that are those of the call

same-is : (h other : CertHead) → same_settings h other ≡ true → h ≡ other
same-is h other e =
    let one = and_parts (h.bounds.turns == other.bounds.turns) ((h.bounds.frames == other.bounds.frames)
    && ((h.conflicts == other.conflicts) && (h.sets == other.sets))) e in
    let two = and_parts (h.bounds.frames == other.bounds.frames)
    ((h.conflicts == other.conflicts) && (h.sets == other.sets)) one.1 in
    let three = and_parts (h.conflicts == other.conflicts) (h.sets == other.sets) two.1 in
    ap (λ t. head_with t h.bounds.frames h.conflicts h.sets)
    (eqb-true h.bounds.turns other.bounds.turns one.0)
    ∙ ap (λ f. head_with other.bounds.turns f h.conflicts h.sets)
    (eqb-true h.bounds.frames other.bounds.frames two.0)
    ∙ ap (λ c. head_with other.bounds.turns other.bounds.frames c h.sets)
    (eqb-true h.conflicts other.conflicts three.0)
    ∙ ap (λ s. head_with other.bounds.turns other.bounds.frames other.conflicts s)
    (eqb-true h.sets other.sets three.1)

same-self : (h : CertHead) → same_settings h h ≡ true
same-self h =
    and_from (h.bounds.turns == h.bounds.turns) ((h.bounds.frames == h.bounds.frames)
    && ((h.conflicts == h.conflicts) && (h.sets == h.sets))) (eqb-same h.bounds.turns)
    (and_from (h.bounds.frames == h.bounds.frames) ((h.conflicts == h.conflicts) && (h.sets == h.sets))
    (eqb-same h.bounds.frames)
    (and_from (h.conflicts == h.conflicts) (h.sets == h.sets) (eqb-same h.conflicts) (eqb-same h.sets)))
  where
    eqb-same : (n : ℕ) → (n == n) ≡ true
    eqb-same n = grind (arith, nat_tests)

-- the lines begin with the settings
record HasSettings (head : CertHead) (good : Judge) (s : State) (lines : List (List ℕ)) (v : Verdict) : Type 0
  where
    others : List (List ℕ)
    formed : IsHead head
    lines_are : lines ≡ settings_line head ∷ others
    leads : Leads good s others v

leads-from : (head : CertHead) (good : Judge) (n : ℕ) (s : State) (lines : List (List ℕ)) (m : ℕ) (t : State)
    (v : Verdict) →
    after_lines head good (Goes n s None) lines ≡ Goes m t (Some v) → Leads good s lines v
leads-from head good n s [] m t v e = cc
leads-from head good n s (line ∷ lines) m t v e = leads-back head good n s None line lines m t v e

awaits : (head : CertHead) (good : Judge) (s : State) (line : List ℕ) →
    after_line head good (Awaits s) line ≡ after_settings head s (settings_in line)
unfolding after_line
awaits head good s line = refl

has-settings : (head : CertHead) (good : Judge) (s : State) (lines : List (List ℕ)) (m : ℕ) (t : State)
    (v : Verdict) →
    after_lines head good (Awaits s) lines ≡ Goes m t (Some v) → HasSettings head good s lines v
has-settings head good s [] m t v e = cc
has-settings head good s (line ∷ others) m t v e =
    read (settings_in line) refl
    (sym (ap (λ c. after_lines head good c others) (awaits head good s line)) ∙ e)
  where
    tested : (found : CertHead) → settings_in line ≡ Some found → (b : Bool) →
        same_settings found head ≡ b →
        after_lines head good (cond b (Goes 2 s None) (Stops 2 other_settings)) others ≡ Goes m t (Some v) →
        HasSettings head good s (line ∷ others) v
    tested found is true same e =
        let back = settings-back line found is in
        let heads = same-is found head same in
        record {
          others = others;
          formed = subst IsHead heads back.1;
          lines_are = ap (λ l. l ∷ others) (back.0 ∙ ap settings_line heads);
          leads = leads-from head good 2 s others m t v e;
        }
    tested found is false same e = absurd (never head good 2 other_settings m others t v e)

    read : (o : Option CertHead) → settings_in line ≡ o →
        after_lines head good (after_settings head s o) others ≡ Goes m t (Some v) →
        HasSettings head good s (line ∷ others) v
    read None is e = absurd (never head good 2 bad_line m others t v e)
    read (Some found) is e = tested found is (same_settings found head) refl e

-- the lines begin with those of a head
abbrev IsFront : CertHead → List (List ℕ) → Type 0
IsFront head front =
    (IsHead head × (front ≡ head_line ∷ settings_line head ∷ [])) ⊎ (front ≡ old_head_line ∷ [])

record HasHead (head : CertHead) (good : Judge) (s : State) (lines : List (List ℕ)) (v : Verdict) : Type 0
  where
    front : List (List ℕ)
    others : List (List ℕ)
    front_is : IsFront head front
    lines_are : lines ≡ front ++ others
    leads : Leads good s others v

head-back : (head : CertHead) (good : Judge) (s : State) (lines : List (List ℕ)) (m : ℕ) (t : State)
    (v : Verdict) →
    after_lines head good (Begins s) lines ≡ Goes m t (Some v) → HasHead head good s lines v
unfolding after_line
head-back head good s [] m t v e = cc
head-back head good s (first ∷ others) m t v e =
    old (bytes_eq first old_head_line) refl e
  where
    new : (b : Bool) → bytes_eq first head_line ≡ b →
        after_lines head good (cond b (Awaits s) (Stops 1 bad_line)) others ≡ Goes m t (Some v) →
        HasHead head good s (first ∷ others) v
    new true is e =
        let h = has-settings head good s others m t v e in
        record {
          front = head_line ∷ settings_line head ∷ [];
          others = h.others;
          front_is = inl (h.formed, refl);
          lines_are = ap (λ l. l ∷ others) ((bytes_eq-Decides first head_line).0 is)
              ∙ ap (λ ls. head_line ∷ ls) h.lines_are;
          leads = h.leads;
        }
    new false is e = absurd (never head good 1 bad_line m others t v e)

    old : (b : Bool) → bytes_eq first old_head_line ≡ b →
        after_lines head good
        (cond b (Goes 1 s None) (cond (bytes_eq first head_line) (Awaits s) (Stops 1 bad_line))) others
        ≡ Goes m t (Some v) →
        HasHead head good s (first ∷ others) v
    old true is e = record {
      front = old_head_line ∷ [];
      others = others;
      front_is = inr refl;
      lines_are = ap (λ l. l ∷ others) ((bytes_eq-Decides first old_head_line).0 is);
      leads = leads-from head good 1 s others m t v e;
    }
    old false is e = new (bytes_eq first head_line) refl e

-- the text of lines
feeds : (steps : List CertStep) →
    flat_map with_feed (map line_of steps) ≡ flat_map (λ (step : CertStep). with_feed (line_of step)) steps
feeds [] = refl
feeds (step ∷ steps) = ap (λ r. with_feed (line_of step) ++ r) (feeds steps)

joined-from : (text : List ℕ) (front : List (List ℕ)) (steps : List CertStep) →
    lines_in text ≡ front ++ map line_of steps →
    rest_in text ≡ [] → text ≡ flat_map with_feed front ++ step_lines steps
joined-from text front steps lines rest =
    sym (text-again text)
    ∙ ap (λ r. flat_map with_feed (lines_in text) ++ r) rest
    ∙ append-nil (flat_map with_feed (lines_in text))
    ∙ ap (flat_map with_feed) lines
    ∙ flat_map-append with_feed front (map line_of steps)
    ∙ ap (λ r. flat_map with_feed front ++ r) (feeds steps)

text-from : (head : CertHead) (text : List ℕ) (front : List (List ℕ)) (steps : List CertStep) →
    IsFront head front → lines_in text ≡ front ++ map line_of steps →
    rest_in text ≡ [] → IsTextOf head text steps
text-from head text front steps (inl is) lines rest =
    inl (
      is.0,
      joined-from text front steps lines rest
          ∙ ap (λ f. flat_map with_feed f ++ step_lines steps) is.1
          ∙ ap (λ r. (with_feed head_line ++ r) ++ step_lines steps)
          (append-nil (with_feed (settings_line head))),
    )
text-from head text front steps (inr is) lines rest =
    inr (joined-from text front steps lines rest
    ∙ ap (λ f. flat_map with_feed f ++ step_lines steps) is
    ∙ ap (λ r. r ++ step_lines steps) (append-nil (with_feed old_head_line)))

-- those of a list in front of another
pub front-all : (P : CertStep → Type 0) (front back : List CertStep) → All P (front ++ back) → All P front
front-all P [] back all = All-nil P
front-all P (x ∷ xs) back all =
    All-cons P x xs (All-head P x (xs ++ back) all) (front-all P xs back (All-tail P x (xs ++ back) all))

pub accepted : (head : CertHead) (p : Problem) (text : List ℕ) (v : Verdict) → finding_of head p text
    ≡ Accepted v →
    IsCertificateOf head p text v
accepted head p text v e =
    let a = accepted_by (course_of head p text) (rest_in text) v e in
    let h = head-back head p.good (start_of p) (lines_in text) a.lines a.state v a.course_is in
    let l = h.leads in
    let steps : List CertStep = l.front ++ l.last ∷ [] in
    record {
      steps = steps;
      have_lines = l.have_lines;
      text_is = text-from head text h.front steps h.front_is
          (h.lines_are ∙ ap (λ ls. h.front ++ ls) l.lines_are) a.rest_is;
      derives = record {
        front = l.front;
        last = l.last;
        steps_are = refl;
        formed = All-weaker HasLine IsFormed (λ s h. h.0) steps l.have_lines;
        state = l.state;
        leads = l.leads;
        ends = l.ends;
        says = l.says;
      };
    }

-- A CERTIFICATE is accepted

feed_first : (line more : List ℕ) → with_feed line ++ more ≡ line ++ 10 ∷ more
feed_first line more = append_assoc line (10 ∷ []) more

step-plain : (step : CertStep) → HasLine step → HasNoFeed (line_of step)
step-plain step h = no_feed (line_of step) (line-feedless step h)

lines-again : (steps : List CertStep) → All HasLine steps → lines_in (step_lines steps) ≡ map line_of steps
unfolding lines_in
lines-again [] all = refl
lines-again (s ∷ ss) all =
    ap lines_in (feed_first (line_of s) (step_lines ss))
    ∙ first-line (line_of s) (step_lines ss) (step-plain s (All-head HasLine s ss all))
    ∙ ap (λ ls. line_of s ∷ ls) (lines-again ss (All-tail HasLine s ss all))

rest-again : (steps : List CertStep) → All HasLine steps → rest_in (step_lines steps) ≡ []
unfolding rest_in
rest-again [] all = refl
rest-again (s ∷ ss) all =
    ap rest_in (feed_first (line_of s) (step_lines ss))
    ∙ rest-behind (line_of s) (step_lines ss) (step-plain s (All-head HasLine s ss all))
    ∙ rest-again ss (All-tail HasLine s ss all)

-- those of version 2
module _ (head : CertHead) (is : IsHead head) where
  settings-plain : HasNoFeed (settings_line head)
  settings-plain = no_feed (settings_line head) (settings-feedless head is)

  text-is : (steps : List CertStep) →
      text_of head steps ≡ head_line ++ 10 ∷ (settings_line head ++ 10 ∷ step_lines steps)
  text-is steps =
      append_assoc (with_feed head_line) (with_feed (settings_line head)) (step_lines steps)
      ∙ feed_first head_line (with_feed (settings_line head) ++ step_lines steps)
      ∙ ap (λ r. head_line ++ 10 ∷ r) (feed_first (settings_line head) (step_lines steps))

  text-lines : (steps : List CertStep) → All HasLine steps →
      lines_in (text_of head steps) ≡ head_line ∷ settings_line head ∷ map line_of steps
  text-lines steps all =
      ap lines_in (text-is steps)
      ∙ first-line head_line (settings_line head ++ 10 ∷ step_lines steps) (no_feed head_line refl)
      ∙ ap (λ ls. head_line ∷ ls) (first-line (settings_line head) (step_lines steps) settings-plain
      ∙ ap (λ ls. settings_line head ∷ ls) (lines-again steps all))

  text-rest : (steps : List CertStep) → All HasLine steps → rest_in (text_of head steps) ≡ []
  text-rest steps all =
      ap rest_in (text-is steps)
      ∙ rest-behind head_line (settings_line head ++ 10 ∷ step_lines steps) (no_feed head_line refl)
      ∙ rest-behind (settings_line head) (step_lines steps) settings-plain
      ∙ rest-again steps all

-- and of version 1
old-lines : (steps : List CertStep) → All HasLine steps →
    lines_in (old_text_of steps) ≡ old_head_line ∷ map line_of steps
old-lines steps all =
    ap lines_in (feed_first old_head_line (step_lines steps))
    ∙ first-line old_head_line (step_lines steps) (no_feed old_head_line refl)
    ∙ ap (λ ls. old_head_line ∷ ls) (lines-again steps all)

old-rest : (steps : List CertStep) → All HasLine steps → rest_in (old_text_of steps) ≡ []
old-rest steps all =
    ap rest_in (feed_first old_head_line (step_lines steps))
    ∙ rest-behind old_head_line (step_lines steps) (no_feed old_head_line refl)
    ∙ rest-again steps all

record Arrives (course : Course) (v : Verdict) : Type 0 where
  lines : ℕ
  state : State
  course_is : course ≡ Goes lines state (Some v)

-- one line
taken-again : (head : CertHead) (good : Judge) (n : ℕ) (s : State) (said : Option Verdict) (step : CertStep) →
    HasLine step → error_of good s step ≡ None →
    after_line head good (Goes n s said) (line_of step) ≡ Goes (n + 1) (after s step) (verdict_of s step)
taken-again head good n s said step h allowed =
    later head good n s said (line_of step)
    ∙ ap (after_read good n s) (line-again step h)
    ∙ ap (after_step n s step) allowed

-- steps that are allowed in turn
record NextIs (good : Judge) (s : State) (step : CertStep) (rest : Option State) (end : State) : Type 0 where
  allowed : error_of good s step ≡ None
  others : rest ≡ Some end

next-is : (good : Judge) (s : State) (step : CertStep) (rest : Option State) (end : State) →
    next_if (error_of good s step) rest ≡ Some end → NextIs good s step rest end
next-is good s step rest end e = by (error_of good s step) refl e
  where
    by : (o : Option StepError) → error_of good s step ≡ o → next_if o rest ≡ Some end →
        NextIs good s step rest end
    by None is e = record { allowed = is; others = e }
    by (Some error) is e = absurd (none-some end e)

arrives : (head : CertHead) (good : Judge) (n : ℕ) (s : State) (said : Option Verdict)
    (front : List CertStep) (last : CertStep)
    (end : State) (v : Verdict) → All HasLine (front ++ last ∷ []) →
    after_all good s front ≡ Some end → error_of good end last ≡ None → verdict_of end last ≡ Some v →
    Arrives (after_lines head good (Goes n s said) (map line_of (front ++ last ∷ []))) v
arrives head good n s said [] last end v all leads ends says =
    let same : s ≡ end = same_Some s end leads in
    let allowed : error_of good s last ≡ None = ap (λ t. error_of good t last) same ∙ ends in
    let told : verdict_of s last ≡ Some v = ap (λ t. verdict_of t last) same ∙ says in
    record {
      lines = n + 1;
      state = after s last;
      course_is = taken-again head good n s said last (All-head HasLine last [] all) allowed
          ∙ ap (Goes (n + 1) (after s last)) told;
    }
arrives head good n s said (step ∷ front) last end v all leads ends says =
    let next = next-is good s step (after_all good (after s step) front) end leads in
    let rest = arrives head good (n + 1) (after s step) (verdict_of s step) front last end v
    (All-tail HasLine step (front ++ last ∷ []) all) next.others ends says in
    record {
      lines = rest.lines;
      state = rest.state;
      course_is = ap (λ c. after_lines head good c (map line_of (front ++ last ∷ [])))
          (taken-again head good n s said step (All-head HasLine step (front ++ last ∷ []) all) next.allowed)
          ∙ rest.course_is;
    }

-- the lines of a head are taken
begins-new : (head : CertHead) (good : Judge) (s : State) (lines : List (List ℕ)) → IsHead head →
    after_lines head good (Begins s) (head_line ∷ settings_line head ∷ lines)
    ≡ after_lines head good (Goes 2 s None) lines
unfolding after_line
begins-new head good s lines is =
    ap (λ o. after_lines head good (after_settings head s o) lines) (settings-again head is)
    ∙ ap (λ b. after_lines head good (cond b (Goes 2 s None) (Stops 2 other_settings)) lines)
    (same-self head)

begins-old : (head : CertHead) (good : Judge) (s : State) (lines : List (List ℕ)) →
    after_lines head good (Begins s) (old_head_line ∷ lines) ≡ after_lines head good (Goes 1 s None) lines
unfolding after_line
begins-old head good s lines = refl

-- if all lines are steps but those of the head, and they are so many
record Comes (head : CertHead) (p : Problem) (text : List ℕ) (steps : List CertStep) : Type 0 where
  count : ℕ
  course_is : course_of head p text
      ≡ after_lines head p.good (Goes count (start_of p) None) (map line_of steps)
  rest_is : rest_in text ≡ []

comes : (head : CertHead) (p : Problem) (text : List ℕ) (steps : List CertStep) → All HasLine steps →
    IsTextOf head text steps → Comes head p text steps
comes head p text steps all (inl is) = record {
  count = 2;
  course_is = ap (after_lines head p.good (Begins (start_of p)))
      (ap lines_in is.1 ∙ text-lines head is.0 steps all)
      ∙ begins-new head p.good (start_of p) (map line_of steps) is.0;
  rest_is = ap rest_in is.1 ∙ text-rest head is.0 steps all;
}
comes head p text steps all (inr is) = record {
  count = 1;
  course_is = ap (after_lines head p.good (Begins (start_of p))) (ap lines_in is ∙ old-lines steps all)
      ∙ begins-old head p.good (start_of p) (map line_of steps);
  rest_is = ap rest_in is ∙ old-rest steps all;
}

pub certified : (head : CertHead) (p : Problem) (text : List ℕ) (v : Verdict) →
    IsCertificateOf head p text v →
    finding_of head p text ≡ Accepted v
certified head p text v c =
    let d = c.derives in
    let all : All HasLine (d.front ++ d.last ∷ []) = subst (All HasLine) d.steps_are c.have_lines in
    let b = comes head p text c.steps c.have_lines c.text_is in
    let a = arrives head p.good b.count (start_of p) None d.front d.last d.state v all d.leads d.ends
    d.says in
    let course : course_of head p text ≡ Goes a.lines a.state (Some v) =
    b.course_is
    ∙ ap (λ (ss : List CertStep). after_lines head p.good (Goes b.count (start_of p) None) (map line_of ss))
    d.steps_are
    ∙ a.course_is in
    ap (λ c. finding_by c (rest_in text)) course
    ∙ ap (λ r. finding_by (Goes a.lines a.state (Some v)) r) b.rest_is

pub accepted-exactly : (head : CertHead) (p : Problem) (text : List ℕ) (v : Verdict) →
    (finding_of head p text ≡ Accepted v) ↔ IsCertificateOf head p text v
accepted-exactly head p text v = (accepted head p text v, certified head p text v)
