-- Parts of code whose ends depend on what may be relaxed by nothing but the choices that are made. Where code
-- has no loops, a traced run of them notes the same places.
use Rattle.std.proofs.Common.{◌≡◌, suc, zero, ℕ, ◌+◌, ℤ, pos, Bool, true, false, Result, Ok, Err, List, [], ◌∷◌, ◌++◌, append-nil, append_assoc, refl, sym, ◌∙◌, ap}
use Rattle.std.proofs.lemmas.Bool.{and_from, and_parts}
use Rattle.std.proofs.lemmas.List.{map-append}
use Rattle.std.specs.Prelude.{◌&&◌, cond}
use Rattle.std.specs.Ordering.{int_eq}
use Rattle.ba_choices.specs.declared.Choice.{Choice}
use Rattle.ba_choices.specs.declared.Choice.TheVariants.{Keep, Take}
use Rattle.ba_code.specs.Meaning.{as_picked, choice_where, first_choice, headed_rounds, if_taken, taken}
use Rattle.ba_code.specs.State.{CodeAct, CodeEnding, CodeExecution, CodeState}
use Rattle.ba_code.specs.declared.nodes.ArrayInfo.{ArrayInfo}
use Rattle.ba_code.specs.declared.nodes.Take as code
use Rattle.ba_code_laws.specs.Tracing.{Relaxes, Traced, TracedExecution, at_place, is_relaxed, traced_picked, untraced, with_trace}
use Rattle.ba_code_laws.specs.Visits.{Visit, are_kept, chosen}
use Rattle.ba_tree.specs.Acts.{ActOn, EndOn, give, halt_with, then_do, fork, after_part}
use Rattle.ba_tree.specs.declared.run.Flow.{Flow}
use Rattle.ba_tree.specs.declared.run.Flow.TheVariants.{Next, Leaves}
use Rattle.ba_tree.specs.declared.run.Halt.{Halt}
use Rattle.ba_tree.specs.declared.run.Halt.TheVariants.{AssertFails, Trap, Beyond, WrongChoices}
use Rattle.ba_tree.specs.declared.run.Place.{Place}
use Rattle.ba_code_visits.specs.Visits.{choices_in, places_in}
use Rattle.ba_code_visits.proofs.Steady.{with_choices, with_left, Steady, Reads, take_steady}

-- VISITS

chosen_append : (x : Relaxes) (before after : List Visit) (rest : List Choice)
    → chosen x (before ++ after) ++ rest ≡ chosen x before ++ (chosen x after ++ rest)
unfolding chosen
chosen_append x [] after rest = refl
chosen_append x (visit ∷ before) after rest = elim (is_relaxed x visit.place) as (λ b.
    cond b (visit.choice ∷ chosen x (before ++ after)) (chosen x (before ++ after)) ++ rest
    ≡ cond b (visit.choice ∷ chosen x before) (chosen x before) ++ (chosen x after ++ rest)) [
      | true ↦ ap (λ choices. visit.choice ∷ choices) (chosen_append x before after rest)
      | false ↦ chosen_append x before after rest
    ]

choices_append : (before after : List Visit) (rest : List Choice)
    → choices_in (before ++ after) ++ rest ≡ choices_in before ++ (choices_in after ++ rest)
choices_append before after rest =
    ap (λ choices. choices ++ rest) (map-append (λ (visit : Visit). visit.choice) before after)
    ∙ append_assoc (choices_in before) (choices_in after) rest

places_append : (noted : List Place) (before after : List Visit)
    → (noted ++ places_in before) ++ places_in after ≡ noted ++ places_in (before ++ after)
places_append noted before after = append_assoc noted (places_in before) (places_in after)
    ∙ ap (λ places. noted ++ places) (sym (map-append (λ (visit : Visit). visit.place) before after))

kept_append : (x : Relaxes) (before after : List Visit) → are_kept x before ≡ true
    → are_kept x after ≡ true → are_kept x (before ++ after) ≡ true
unfolding are_kept
kept_append x [] after h k = k
kept_append x (visit ∷ before) after h k =
    let parts = and_parts _ _ h in and_from _ _ parts.0 (kept_append x before after parts.1 k)

kept_before : (x : Relaxes) (before after : List Visit) → are_kept x (before ++ after) ≡ true
    → are_kept x before ≡ true
unfolding are_kept
kept_before x [] after h = refl
kept_before x (visit ∷ before) after h =
    let parts = and_parts _ _ h in and_from _ _ parts.0 (kept_before x before after parts.1)

kept_after : (x : Relaxes) (before after : List Visit) → are_kept x (before ++ after) ≡ true
    → are_kept x after ≡ true
unfolding are_kept
kept_after x [] after h = h
kept_after x (visit ∷ before) after h = kept_after x before after (and_parts _ _ h).1

-- PARTS: a function gives the part for each way to say what may be relaxed

abbrev pub is_wrong_halt : Halt → Bool
is_wrong_halt WrongChoices = true
is_wrong_halt (AssertFails stmt) = false
is_wrong_halt (Trap stmt) = false
is_wrong_halt (Beyond stmt) = false

abbrev pub is_wrong : {A : Type 0} → Result A Halt → Bool
is_wrong (Ok a) = false
is_wrong (Err h) = is_wrong_halt h

abbrev pub noting : List Place → CodeState → Traced
noting places s = record { code = s; places = places }

-- What a part comes to from the state s to its end with r in the state t. With the same choices at the same
-- places it ends so again, whatever else may be relaxed, and with any choices that are wanted left. And the
-- traced run g of it, which may relax everything, notes these places, if it is known to be one.
pub record Replay {A : Type 0} (known : Type 0) (f : Relaxes → CodeAct A) (g : ActOn Traced A) (x : Relaxes)
    (s : CodeState) (r : Result A Halt) (t : CodeState) : Type 0 where
  pub visits : List Visit
  pub kept : are_kept x visits ≡ true
  pub used : s.choices ≡ chosen x visits ++ t.choices
  pub runs : (y : Relaxes) → are_kept y visits ≡ true → (rest : List Choice)
      → f y (with_choices s (chosen y visits ++ rest)) ≡ (r, with_choices t rest)
  pub noted : known → (rest : List Choice) (places : List Place)
      → g (noting places (with_choices s (choices_in visits ++ rest)))
      ≡ with_trace (places ++ places_in visits) (r, with_choices t rest)

-- each end of a part but one by wrong choices can be had again
pub record Replays {A : Type 0} (known : Type 0) (f : Relaxes → CodeAct A) (g : ActOn Traced A) : Type 0 where
  pub by : (x : Relaxes) (s : CodeState) (r : Result A Halt) (t : CodeState) → f x s ≡ (r, t)
      → is_wrong r ≡ false → Replay known f g x s r t

pub replays_as : {A : Type 0} {known : Type 0} {f f' : Relaxes → CodeAct A} {g g' : ActOn Traced A}
    → ((x : Relaxes) → f x ≡ f' x) → g ≡ g' → Replays known f' g' → Replays known f g
replays_as {A = A} {known = known} {f = f} {f' = f'} {g = g} {g' = g'} same traced replays = record {
  by = λ x s r t is right.
      let e : Replay known f' g' x s r t =
      replays.by x s r t (ap (λ (f : CodeAct A). f s) (sym (same x)) ∙ is) right in
      record {
        visits = e.visits;
        kept = e.kept;
        used = e.used;
        runs = λ y kept rest. ap (λ (f : CodeAct A). f (with_choices s (chosen y e.visits ++ rest))) (same y)
            ∙ e.runs y kept rest;
        noted = λ is_known rest places.
            ap (λ (g : ActOn Traced A). g (noting places (with_choices s (choices_in e.visits ++ rest))))
            traced
            ∙ e.noted is_known rest places;
      };
}

-- more may be known; and nothing of the traced run, if it is no run of the part
pub replays_where : {A : Type 0} {known more : Type 0} {f : Relaxes → CodeAct A} {g : ActOn Traced A}
    → (more → known) → Replays known f g → Replays more f g
replays_where {known = known} {f = f} {g = g} from replays = record {
  by = λ x s r t is right.
      let e : Replay known f g x s r t = replays.by x s r t is right in record {
        visits = e.visits;
        kept = e.kept;
        used = e.used;
        runs = e.runs;
        noted = λ is_known. e.noted (from is_known);
      };
}

pub replays_but : {A : Type 0} {known more : Type 0} {f : Relaxes → CodeAct A} {g h : ActOn Traced A}
    → (more → ⊥) → Replays known f g → Replays more f h
replays_but {known = known} {f = f} {g = g} never replays = record {
  by = λ x s r t is right.
      let e : Replay known f g x s r t = replays.by x s r t is right in record {
        visits = e.visits;
        kept = e.kept;
        used = e.used;
        runs = e.runs;
        noted = λ is_known. absurd (never is_known);
      };
}

-- PARTS THAT NEITHER READ NOR CHANGE THE CHOICES

pub replays_steady : {A : Type 0} {known : Type 0} (f : CodeAct A) → Steady f
    → Replays known (λ x. f) (untraced f)
unfolding chosen are_kept
replays_steady {A = A} f steady = record {
  by = λ x s r t is right. record {
    visits = [];
    kept = refl;
    used = ap (λ (e : CodeEnding A). e.1.choices) (sym (steady s s.choices) ∙ is);
    runs = λ y kept rest. steady s rest ∙ ap (λ (e : CodeEnding A). with_left rest e) is;
    noted = λ is_known rest places.
        ap (with_trace places) (steady s rest ∙ ap (λ (e : CodeEnding A). with_left rest e) is)
        ∙ ap (λ noted. with_trace noted (r, with_choices t rest)) (sym (append-nil places));
  };
}

pub replays_give : {A : Type 0} {known : Type 0} (a : A) → Replays known (λ x. give a) (give a)
replays_give {A = A} a = replays_steady {A = A} (give a) (λ s choices. refl)

-- PARTS MADE OF PARTS

then_replay : {A B : Type 0} (known : Type 0) (f : Relaxes → CodeAct A) (h : Relaxes → A → CodeAct B)
    (g : ActOn Traced A) (k : A → ActOn Traced B)
    → Replays known f g → ((a : A) → Replays known (λ x. h x a) (k a))
    → (x : Relaxes) (s : CodeState) (r : Result B Halt) (t : CodeState) (e : CodeEnding A) → f x s ≡ e
    → then_do e (h x) ≡ (r, t) → is_wrong r ≡ false
    → Replay known (λ x s. then_do (f x s) (h x)) (λ s. then_do (g s) k) x s r t
then_replay {A = A} {B = B} known f h g k first others x s r t (Err halt, m) ends is right =
    let here : Replay known f g x s (Err halt) m =
    first.by x s (Err halt) m ends (ap (λ (e : CodeEnding B). is_wrong e.0) is ∙ right) in
    record {
      visits = here.visits;
      kept = here.kept;
      used = here.used ∙ ap (λ (e : CodeEnding B). chosen x here.visits ++ e.1.choices) is;
      runs = λ y kept rest. ap (λ (e : CodeEnding A). then_do e (h y)) (here.runs y kept rest)
          ∙ ap (λ (e : CodeEnding B). with_left rest e) is;
      noted = λ is_known rest places.
          ap (λ (e : EndOn Traced A). then_do e k) (here.noted is_known rest places)
          ∙ ap (λ (e : CodeEnding B). with_trace (places ++ places_in here.visits) (with_left rest e)) is;
    }
then_replay {A = A} {B = B} known f h g k first others x s r t (Ok a, m) ends is right =
    let here : Replay known f g x s (Ok a) m = first.by x s (Ok a) m ends refl in
    let there : Replay known (λ x. h x a) (k a) x m r t = (others a).by x m r t is right in
    record {
      visits = here.visits ++ there.visits;
      kept = kept_append x here.visits there.visits here.kept there.kept;
      used = here.used ∙ ap (λ choices. chosen x here.visits ++ choices) there.used
          ∙ sym (chosen_append x here.visits there.visits t.choices);
      runs = λ y kept rest.
          ap (λ choices. then_do (f y (with_choices s choices)) (h y))
          (chosen_append y here.visits there.visits rest)
          ∙ ap (λ (e : CodeEnding A). then_do e (h y))
          (here.runs y (kept_before y here.visits there.visits kept) (chosen y there.visits ++ rest))
          ∙ there.runs y (kept_after y here.visits there.visits kept) rest;
      noted = λ is_known rest places.
          ap (λ choices. then_do (g (noting places (with_choices s choices))) k)
          (choices_append here.visits there.visits rest)
          ∙ ap (λ (e : EndOn Traced A). then_do e k)
          (here.noted is_known (choices_in there.visits ++ rest) places)
          ∙ there.noted is_known rest (places ++ places_in here.visits)
          ∙ ap (λ noted. with_trace noted (r, with_choices t rest))
          (places_append places here.visits there.visits);
    }

pub replays_then : {A B : Type 0} {known : Type 0} {f : Relaxes → CodeAct A} {h : Relaxes → A → CodeAct B}
    {g : ActOn Traced A} {k : A → ActOn Traced B} → Replays known f g
    → ((a : A) → Replays known (λ x. h x a) (k a))
    → Replays known (λ x s. then_do (f x s) (h x)) (λ s. then_do (g s) k)
replays_then {known = known} {f = f} {h = h} {g = g} {k = k} first others = record {
  by = λ x s r t is right. then_replay known f h g k first others x s r t (f x s) refl is right;
}

replays_fork : {known : Type 0} {f h : Relaxes → CodeExecution} {g k : TracedExecution} → Replays known f g
    → Replays known h k → (z : ℤ) → Replays known (λ x. fork (f x) (h x) z) (fork g k z)
replays_fork {known = known} {f = f} {h = h} {g = g} {k = k} not_zero is_zero z =
    elim (int_eq z (pos 0)) as
    (λ b. Replays {A = Flow ℕ} known (λ x s. cond b (h x s) (f x s)) (λ s. cond b (k s) (g s)))
    [ true ↦ is_zero | false ↦ not_zero ]

-- one of two parts, by a value that is read
pub replays_choose : {known : Type 0} {f h : Relaxes → CodeExecution} {g k : TracedExecution}
    {when : CodeState → ℤ} → Reads when → Replays known f g → Replays known h k
    → Replays known (λ x s. fork (f x) (h x) (when s) s) (λ s. fork g k (when s.code) s)
replays_choose {known = known} {f = f} {h = h} {g = g} {k = k} {when = when} reads not_zero is_zero = record {
  by = λ x s r t is right.
      let e : Replay known (λ x. fork (f x) (h x) (when s)) (fork g k (when s)) x s r t =
      (replays_fork not_zero is_zero (when s)).by x s r t is right in
      record {
        visits = e.visits;
        kept = e.kept;
        used = e.used;
        runs = λ y kept rest.
            ap (λ z. fork (f y) (h y) z (with_choices s (chosen y e.visits ++ rest)))
            (reads s (chosen y e.visits ++ rest))
            ∙ e.runs y kept rest;
        noted = λ is_known rest places.
            ap (λ z. fork g k z (noting places (with_choices s (choices_in e.visits ++ rest))))
            (reads s (choices_in e.visits ++ rest))
            ∙ e.noted is_known rest places;
      };
}

pub replays_after : {known : Type 0} {f : Relaxes → CodeExecution} {g : TracedExecution} → Replays known f g
    → (flow : Flow ℕ) → Replays known (λ x. after_part (f x) flow) (after_part g flow)
replays_after replays Next = replays
replays_after replays (Leaves l) = replays_give (Leaves l)

-- ROUNDS, of which no traced run is known

abbrev pub nothing : {A : Type 0} → ActOn Traced A
nothing = halt_with WrongChoices

pub replays_rounds : {head : Relaxes → ℕ → CodeExecution} {when : ℕ → CodeState → ℤ}
    {turn : Relaxes → ℕ → CodeExecution} {past : Relaxes → CodeExecution}
    → ((k : ℕ) → Replays ⊥ (λ x. head x k) nothing) → ((k : ℕ) → Reads (when k))
    → ((k : ℕ) → Replays ⊥ (λ x. turn x k) nothing) → Replays ⊥ past nothing
    → (left k : ℕ) → Replays ⊥ (λ x. headed_rounds (head x) when (turn x) (past x) left k) nothing
replays_rounds {when = when} heads reads turns past zero k = replays_but (λ never. never)
    (replays_then (heads k)
    (replays_after (replays_choose {when = when k} (reads k) past (replays_give Next))))
replays_rounds {when = when} heads reads turns past (suc left) k = replays_but (λ never. never)
    (replays_then (heads k) (replays_after (replays_choose {when = when k} (reads k)
    (replays_then (turns k) (replays_after (replays_rounds heads reads turns past left (k + 1))))
    (replays_give Next))))

-- CHOICES

-- a visit in front where all is as written
kept_first : (arrays : List ArrayInfo) (take : code.Take) (b : Bool) (f : CodeExecution) (s : CodeState)
    (choices rest : List Choice) (e : CodeEnding (Flow ℕ))
    → f (with_choices s (choices ++ rest)) ≡ e
    → then_do (choice_where b (with_choices s (cond b (Keep ∷ choices) choices ++ rest)))
    (as_picked arrays take f) ≡ e
kept_first arrays take true f s choices rest e is = is
kept_first arrays take false f s choices rest e is = is

taken_first : (arrays : List ArrayInfo) (take : code.Take) (b : Bool) (f : CodeExecution) (s : CodeState)
    (values : List ℤ) (rest : List Choice)
    → cond b true false ≡ true
    → then_do (choice_where b (with_choices s (cond b (Take values ∷ []) [] ++ rest)))
    (as_picked arrays take f)
    ≡ with_left rest (if_taken (taken arrays take values s) s)
taken_first arrays take true f s values rest kept = take_steady arrays take values s rest
taken_first arrays take false f s values rest kept = absurd (differ kept) where
  differ : false ≡ true → ⊥
  differ h = cc

keep_first : (b : Bool) → cond b true true ≡ true
keep_first true = refl
keep_first false = refl

-- a place as it is in the code, and as it is come to
module _ (known : Type 0) (written at : Place) (same : known → written ≡ at) (arrays : List ArrayInfo)
    (take : code.Take) (f : Relaxes → CodeExecution) (g : TracedExecution) (replays : Replays known f g) where
  abbrev by_choice : Relaxes → CodeExecution
  by_choice x s = then_do (choice_where (is_relaxed x at) s) (as_picked arrays take (f x))

  abbrev traced : TracedExecution
  traced s = then_do (untraced (choice_where true) (at_place written s)) (traced_picked arrays take g)

  abbrev visit : Choice → Visit
  visit choice = record { place = at; choice = choice }

  kept_replay : (x : Relaxes) (s : CodeState) (choices : List Choice) (r : Result (Flow ℕ) Halt)
      (t : CodeState)
      → f x (with_choices s choices) ≡ (r, t)
      → is_wrong r ≡ false
      → ((used : List Choice) → choices ≡ used ++ t.choices
      → s.choices ≡ cond (is_relaxed x at) (Keep ∷ used) used ++ t.choices)
      → Replay known by_choice traced x s r t
  unfolding chosen are_kept
  kept_replay x s choices r t is right used =
      let e : Replay known f g x (with_choices s choices) r t =
      replays.by x (with_choices s choices) r t is right in
      record {
        visits = visit Keep ∷ e.visits;
        kept = and_from _ _ (keep_first (is_relaxed x at)) e.kept;
        used = used (chosen x e.visits) e.used;
        runs = λ y kept rest. kept_first arrays take (is_relaxed y at) (f y) s (chosen y e.visits) rest
            (r, with_choices t rest) (e.runs y (and_parts _ _ kept).1 rest);
        noted = λ is_known rest places. e.noted is_known rest (places ++ written ∷ [])
            ∙ ap (λ noted. with_trace noted (r, with_choices t rest))
            (append_assoc places (written ∷ []) (places_in e.visits)
            ∙ ap (λ place. places ++ place ∷ places_in e.visits) (same is_known));
      }

  relaxed_replay : (x : Relaxes) (s : CodeState) (r : Result (Flow ℕ) Halt) (t : CodeState)
      → is_relaxed x at ≡ true
      → (choices : List Choice) → s.choices ≡ choices
      → then_do (first_choice choices s) (as_picked arrays take (f x)) ≡ (r, t)
      → is_wrong r ≡ false → Replay known by_choice traced x s r t
  unfolding chosen are_kept
  relaxed_replay x s r t relaxed [] given is right =
      absurd (differ (ap (λ (e : CodeEnding (Flow ℕ)). is_wrong e.0) is ∙ right)) where
        differ : true ≡ false → ⊥
        differ h = cc
  relaxed_replay x s r t relaxed (Keep ∷ choices) given is right = kept_replay x s choices r t is right
      (λ used h. given ∙ ap (λ choices. Keep ∷ choices) h
      ∙ ap (λ b. cond b (Keep ∷ used) used ++ t.choices) (sym relaxed))
  relaxed_replay x s r t relaxed (Take values ∷ choices) given is right =
      let steady : Steady (λ s. if_taken (taken arrays take values s) s) = take_steady arrays take values in
      record {
        visits = visit (Take values) ∷ [];
        kept = ap (λ b. cond b true false && true) relaxed;
        used = given ∙ ap (λ choices. Take values ∷ choices)
            (ap (λ (e : CodeEnding (Flow ℕ)). e.1.choices)
            (sym (steady (with_choices s choices) choices) ∙ is))
            ∙ ap (λ b. cond b (Take values ∷ []) [] ++ t.choices) (sym relaxed);
        runs = λ y kept rest. taken_first arrays take (is_relaxed y at) (f y) (with_choices s choices)
            values rest (and_parts _ _ kept).0
            ∙ ap (λ (e : CodeEnding (Flow ℕ)). with_left rest e) is;
        noted = λ is_known rest places.
            ap (with_trace (places ++ written ∷ [])) (steady (with_choices s choices) rest
            ∙ ap (λ (e : CodeEnding (Flow ℕ)). with_left rest e) is)
            ∙ ap (λ place. with_trace (places ++ place ∷ []) (r, with_choices t rest)) (same is_known);
      }

  choice_replay : (x : Relaxes) (s : CodeState) (r : Result (Flow ℕ) Halt) (t : CodeState) (b : Bool)
      → is_relaxed x at ≡ b
      → then_do (choice_where b s) (as_picked arrays take (f x)) ≡ (r, t) → is_wrong r ≡ false
      → Replay known by_choice traced x s r t
  choice_replay x s r t false relaxed is right = kept_replay x s s.choices r t is right
      (λ used h. h ∙ ap (λ b. cond b (Keep ∷ used) used ++ t.choices) (sym relaxed))
  choice_replay x s r t true relaxed is right = relaxed_replay x s r t relaxed s.choices refl is right

  pub replays_pick : Replays known by_choice traced
  replays_pick = record { by = λ x s r t is right. choice_replay x s r t (is_relaxed x at) refl is right }
