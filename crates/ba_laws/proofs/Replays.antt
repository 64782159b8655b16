-- Parts of a program whose ends depend on what may be relaxed by nothing but the choices that are made.
use Rattle.std.proofs.Common.{◌≡◌, suc, zero, ℕ, ◌+◌, ℤ, pos, Bool, true, false, Option, None, Some, Result, Ok, Err, List, [], ◌∷◌, ◌++◌, map, refl, sym, ◌∙◌, ap}
use mathlib.Core.List.{map-map}
use Rattle.std.specs.Prelude.{cond}
use Rattle.std.specs.Ordering.{int_eq}
use Rattle.ba_numbers.specs.declared.ids.StmtId.{StmtId}
use Rattle.ba_choices.specs.declared.Choice.{Choice}
use Rattle.ba_choices.specs.declared.Choice.TheVariants.{Keep, Take}
use Rattle.ba_tree.specs.Acts.{give, halt_with, then_do, each, fork, after_part, rounds}
use Rattle.ba_tree.specs.State.{State, Ending, Act, Execution}
use Rattle.ba_tree.specs.Choices.{admits, next_choice, if_fitting, as_chosen, value_by_choice}
use Rattle.ba_tree.specs.Meaning.{stmts_in_order}
use Rattle.ba_tree.specs.declared.run.Allowed.{Allowed}
use Rattle.ba_tree.specs.declared.run.Exit.{Exit}
use Rattle.ba_tree.specs.declared.run.Flow.{Flow}
use Rattle.ba_tree.specs.declared.run.Flow.TheVariants.{Next, Leaves}
use Rattle.ba_tree.specs.declared.run.Halt.{Halt}
use Rattle.ba_tree.specs.declared.run.Halt.TheVariants.{AssertFails, Trap, Beyond, WrongChoices}
use Rattle.ba_tree.specs.declared.run.Step.{Step}
use Rattle.ba_tree.specs.declared.tree.Program.{Program}
use Rattle.ba_laws.proofs.Keeps.{with_choices, with_left, Steady, Keeps, keeps_choices}
use Rattle.ba_laws.specs.Visits.{Visit, is_relaxed_at, chosen, AreKept}

-- VISITS

chosen_append : (p : Program) (x : Allowed) (before after : List Visit) (rest : List Choice)
    → chosen p x (before ++ after) ++ rest ≡ chosen p x before ++ (chosen p x after ++ rest)
chosen_append p x [] after rest = refl
chosen_append p x (visit ∷ before) after rest = elim (is_relaxed_at p x visit) as (λ b.
    cond b (visit.choice ∷ chosen p x (before ++ after)) (chosen p x (before ++ after)) ++ rest
    ≡ cond b (visit.choice ∷ chosen p x before) (chosen p x before) ++ (chosen p x after ++ rest)) [
      | true ↦ ap (λ choices. visit.choice ∷ choices) (chosen_append p x before after rest)
      | false ↦ chosen_append p x before after rest
    ]

kept_append : (p : Program) (x : Allowed) (before after : List Visit)
    → AreKept p x before → AreKept p x after → AreKept p x (before ++ after)
kept_append p x [] after h k = k
kept_append p x (visit ∷ before) after h k = (h.0, kept_append p x before after h.1 k)

kept_before : (p : Program) (x : Allowed) (before after : List Visit) → AreKept p x (before ++ after)
    → AreKept p x before
kept_before p x [] after h = tt
kept_before p x (visit ∷ before) after h = (h.0, kept_before p x before after h.1)

kept_after : (p : Program) (x : Allowed) (before after : List Visit) → AreKept p x (before ++ after)
    → AreKept p x after
kept_after p x [] after h = h
kept_after p x (visit ∷ before) after h = kept_after p x before after h.1

-- PARTS: a function gives the part for each way to say what may be relaxed

abbrev pub is_wrong_halt : Halt → Bool
is_wrong_halt WrongChoices = true
is_wrong_halt (AssertFails stmt) = false
is_wrong_halt (Trap stmt) = false
is_wrong_halt (Beyond stmt) = false

abbrev pub is_wrong : {A : Type 0} → Result A Halt → Bool
is_wrong (Ok a) = false
is_wrong (Err h) = is_wrong_halt h

-- What a part comes to from the state s to its end with r in the state t. With the same choices at the same
-- executions it ends so again, whatever else may be relaxed, and with any choices that are wanted left.
pub record Replay {A : Type 0} (p : Program) (f : Allowed → Act A) (x : Allowed) (s : State)
    (r : Result A Halt) (t : State) : Type 0 where
  pub visits : List Visit
  pub kept : AreKept p x visits
  pub used : s.choices ≡ chosen p x visits ++ t.choices
  pub runs : (y : Allowed) → AreKept p y visits → (rest : List Choice)
      → f y (with_choices s (chosen p y visits ++ rest)) ≡ (r, with_choices t rest)

-- each end of a part but one by wrong choices can be had again
pub record Replays {A : Type 0} (p : Program) (f : Allowed → Act A) : Type 0 where
  pub by : (x : Allowed) (s : State) (r : Result A Halt) (t : State) → f x s ≡ (r, t) → is_wrong r ≡ false
      → Replay p f x s r t

pub replays_as : {A : Type 0} {p : Program} {f g : Allowed → Act A} → ((x : Allowed) → f x ≡ g x)
    → Replays p g → Replays p f
replays_as {A = A} {p = p} {f = f} {g = g} same replays = record {
  by = λ x s r t is right.
      let e : Replay p g x s r t = replays.by x s r t (ap (λ (f : Act A). f s) (sym (same x)) ∙ is) right in
      record {
        visits = e.visits;
        kept = e.kept;
        used = e.used;
        runs = λ y kept rest. ap (λ (f : Act A). f (with_choices s (chosen p y e.visits ++ rest))) (same y)
            ∙ e.runs y kept rest;
      };
}

-- PARTS THAT NEITHER READ NOR CHANGE THE CHOICES

pub replays_steady : {A : Type 0} {p : Program} (f : Act A) → Steady f → Replays p (λ x. f)
replays_steady {A = A} f steady = record {
  by = λ x s r t is right. record {
    visits = [];
    kept = tt;
    used = ap (λ (e : Ending A). e.1.choices) (sym (steady s s.choices) ∙ is);
    runs = λ y kept rest. steady s rest ∙ ap (λ (e : Ending A). with_left rest e) is;
  };
}

pub replays_give : {A : Type 0} {p : Program} (a : A) → Replays p (λ x. give a)
replays_give {A = A} a = replays_steady {A = A} (give a) (λ s choices. refl)

pub replays_halt : {A : Type 0} {p : Program} (h : Halt) → Replays {A = A} p (λ x. halt_with h)
replays_halt {A = A} h = replays_steady {A = A} (halt_with h) (λ s choices. refl)

pub replays_from : {A : Type 0} {p : Program} {f : Allowed → Act A} (h : State → State) → Keeps h
    → Replays p f → Replays p (λ x s. f x (h s))
replays_from {A = A} {p = p} {f = f} h keeps replays = record {
  by = λ x s r t is right.
      let e : Replay p f x (h s) r t = replays.by x (h s) r t is right in
      record {
        visits = e.visits;
        kept = e.kept;
        used = keeps_choices h keeps s ∙ e.used;
        runs = λ y kept rest. ap (f y) (keeps s (chosen p y e.visits ++ rest)) ∙ e.runs y kept rest;
      };
}

-- PARTS MADE OF PARTS

then_replay : {A B : Type 0} (p : Program) (f : Allowed → Act A) (h : Allowed → A → Act B)
    → Replays p f → ((a : A) → Replays p (λ x. h x a))
    → (x : Allowed) (s : State) (r : Result B Halt) (t : State) (e : Ending A) → f x s ≡ e
    → then_do e (h x) ≡ (r, t) → is_wrong r ≡ false
    → Replay p (λ x s. then_do (f x s) (h x)) x s r t
then_replay {A = A} {B = B} p f h first others x s r t (Err halt, m) ends is right =
    let here : Replay p f x s (Err halt) m =
    first.by x s (Err halt) m ends (ap (λ (e : Ending B). is_wrong e.0) is ∙ right) in
    record {
      visits = here.visits;
      kept = here.kept;
      used = here.used ∙ ap (λ (e : Ending B). chosen p x here.visits ++ e.1.choices) is;
      runs = λ y kept rest. ap (λ (e : Ending A). then_do e (h y)) (here.runs y kept rest)
          ∙ ap (λ (e : Ending B). with_left rest e) is;
    }
then_replay {A = A} {B = B} p f h first others x s r t (Ok a, m) ends is right =
    let here : Replay p f x s (Ok a) m = first.by x s (Ok a) m ends refl in
    let there : Replay p (λ x. h x a) x m r t = (others a).by x m r t is right in
    record {
      visits = here.visits ++ there.visits;
      kept = kept_append p x here.visits there.visits here.kept there.kept;
      used = here.used ∙ ap (λ choices. chosen p x here.visits ++ choices) there.used
          ∙ sym (chosen_append p x here.visits there.visits t.choices);
      runs = λ y kept rest.
          ap (λ choices. then_do (f y (with_choices s choices)) (h y))
          (chosen_append p y here.visits there.visits rest)
          ∙ ap (λ (e : Ending A). then_do e (h y))
          (here.runs y (kept_before p y here.visits there.visits kept) (chosen p y there.visits ++ rest))
          ∙ there.runs y (kept_after p y here.visits there.visits kept) rest;
    }

pub replays_then : {A B : Type 0} {p : Program} {f : Allowed → Act A} {h : Allowed → A → Act B}
    → Replays p f → ((a : A) → Replays p (λ x. h x a)) → Replays p (λ x s. then_do (f x s) (h x))
replays_then {p = p} {f = f} {h = h} first others = record {
  by = λ x s r t is right.
      then_replay p f h first others x s r t (f x s) refl is right;
}

pub replays_fork : {A : Type 0} {p : Program} {f h : Allowed → Act A} → Replays p f → Replays p h
    → (z : ℤ) → Replays p (λ x. fork (f x) (h x) z)
replays_fork {A = A} {p = p} {f = f} {h = h} not_zero is_zero z =
    elim (int_eq z (pos 0)) as (λ b. Replays {A = A} p (λ x s. cond b (h x s) (f x s)))
    [ true ↦ is_zero | false ↦ not_zero ]

pub replays_each : {X A : Type 0} {p : Program} {f : Allowed → X → Act A} → ((a : X) → Replays p (λ x. f x a))
    → (items : List X) → Replays p (λ x. each (map (f x) items))
replays_each parts [] = replays_give []
replays_each parts (a ∷ items) =
    replays_then (parts a) (λ z. replays_then (replays_each parts items) (λ rest. replays_give (z ∷ rest)))

pub replays_each_of : {X Y A : Type 0} {p : Program} (f : Allowed → Y → Act A) (base : X → Y)
    → ((a : X) → Replays p (λ x. f x (base a))) → (items : List X)
    → Replays p (λ x. each (map (f x) (map base items)))
replays_each_of f base parts items =
    replays_as (λ x. ap each (map-map (f x) base items)) (replays_each parts items)

pub replays_after : {p : Program} {f : Allowed → Execution} → Replays p f → (flow : Flow Exit)
    → Replays p (λ x. after_part (f x) flow)
replays_after replays Next = replays
replays_after replays (Leaves e) = replays_give (Leaves e)

pub replays_stmts : {X : Type 0} {p : Program} {f : Allowed → X → List Step → Execution}
    → ((a : X) (path : List Step) → Replays p (λ x. f x a path))
    → (path : List Step) (items : List X) → Replays p (λ x. stmts_in_order path (map (f x) items))
replays_stmts parts path [] = replays_give Next
replays_stmts parts path (a ∷ items) =
    replays_then (parts a path) (replays_after (replays_stmts parts path items))

pub replays_stmts_of : {X Y : Type 0} {p : Program} (f : Allowed → Y → List Step → Execution) (base : X → Y)
    → ((a : X) (path : List Step) → Replays p (λ x. f x (base a) path))
    → (path : List Step) (items : List X) → Replays p (λ x. stmts_in_order path (map (f x) (map base items)))
replays_stmts_of f base parts path items =
    replays_as (λ x. ap (stmts_in_order path) (map-map (f x) base items)) (replays_stmts parts path items)

pub replays_rounds : {p : Program} {test : Allowed → ℕ → Act ℤ} {turn : Allowed → ℕ → Execution}
    {past : Allowed → Execution}
    → ((k : ℕ) → Replays p (λ x. test x k)) → ((k : ℕ) → Replays p (λ x. turn x k)) → Replays p past
    → (left k : ℕ) → Replays p (λ x. rounds (test x) (turn x) (past x) left k)
replays_rounds tests turns past zero k = replays_then (tests k) (replays_fork past (replays_give Next))
replays_rounds tests turns past (suc left) k = replays_then (tests k)
    (replays_fork (replays_then (turns k) (replays_after (replays_rounds tests turns past left (k + 1))))
    (replays_give Next))

-- CHOICES

fitting_steady : {A : Type 0} (z : Option A) → Steady (if_fitting z)
fitting_steady None s choices = refl
fitting_steady (Some a) s choices = refl

-- a visit in front if all is as written
kept_first : {A : Type 0} (b : Bool) (fitting : List ℤ → Option A) (f : Act A) (s : State)
    (choices rest : List Choice) (e : Ending A)
    → f (with_choices s (choices ++ rest)) ≡ e
    → value_by_choice b fitting f (with_choices s (cond b (Keep ∷ choices) choices ++ rest)) ≡ e
kept_first true fitting f s choices rest e is = is
kept_first false fitting f s choices rest e is = is

taken_first : {A : Type 0} (b : Bool) (fitting : List ℤ → Option A) (f : Act A) (s : State) (values : List ℤ)
    (rest : List Choice)
    → (b ≡ false → Take values ≡ Keep)
    → value_by_choice b fitting f (with_choices s (cond b (Take values ∷ []) [] ++ rest))
    ≡ with_left rest (if_fitting (fitting values) s)
taken_first true fitting f s values rest kept = fitting_steady (fitting values) s rest
taken_first false fitting f s values rest kept = absurd (differ (kept refl)) where
  differ : Take values ≡ Keep → ⊥
  differ h = cc

module _ {A : Type 0} (p : Program) (path : List Step) (here : StmtId) (fitting : List ℤ → Option A)
    (f : Allowed → Act A) (replays : Replays p f) where
  abbrev by_choice : Allowed → Act A
  by_choice x s = value_by_choice (admits p x path here) fitting (f x) s

  abbrev visit : Choice → Visit
  visit choice = record { path = path; stmt = here; choice = choice }

  kept_replay : (x : Allowed) (s : State) (choices : List Choice) (r : Result A Halt) (t : State)
      → f x (with_choices s choices) ≡ (r, t)
      → is_wrong r ≡ false
      → ((used : List Choice) → choices ≡ used ++ t.choices
      → s.choices ≡ cond (admits p x path here) (Keep ∷ used) used ++ t.choices)
      → Replay p by_choice x s r t
  kept_replay x s choices r t is right used =
      let e : Replay p f x (with_choices s choices) r t =
      replays.by x (with_choices s choices) r t is right in
      record {
        visits = visit Keep ∷ e.visits;
        kept = (λ h. refl, e.kept);
        used = used (chosen p x e.visits) e.used;
        runs = λ y kept rest. kept_first (admits p y path here) fitting (f y) s (chosen p y e.visits) rest
            (r, with_choices t rest) (e.runs y kept.1 rest);
      }

  written_replay : (x : Allowed) (s : State) (r : Result A Halt) (t : State) → admits p x path here ≡ false
      → f x s ≡ (r, t)
      → is_wrong r ≡ false → Replay p by_choice x s r t
  written_replay x s r t not_relaxed is right = kept_replay x s s.choices r t is right
      (λ used h. h ∙ ap (λ b. cond b (Keep ∷ used) used ++ t.choices) (sym not_relaxed))

  relaxed_replay : (x : Allowed) (s : State) (r : Result A Halt) (t : State) → admits p x path here ≡ true
      → (choices : List Choice) → s.choices ≡ choices
      → then_do (next_choice choices s) (as_chosen fitting (f x)) ≡ (r, t)
      → is_wrong r ≡ false → Replay p by_choice x s r t
  relaxed_replay x s r t relaxed [] at is right =
      absurd (differ (ap (λ (e : Ending A). is_wrong e.0) is ∙ right)) where
        differ : true ≡ false → ⊥
        differ h = cc
  relaxed_replay x s r t relaxed (Keep ∷ choices) at is right = kept_replay x s choices r t is right
      (λ used h. at ∙ ap (λ choices. Keep ∷ choices) h
      ∙ ap (λ b. cond b (Keep ∷ used) used ++ t.choices) (sym relaxed))
  relaxed_replay x s r t relaxed (Take values ∷ choices) at is right =
      let steady : Steady (if_fitting (fitting values)) = fitting_steady (fitting values) in
      record {
        visits = visit (Take values) ∷ [];
        kept = (λ not_relaxed. absurd (differ (sym relaxed ∙ not_relaxed)), tt);
        used = at ∙ ap (λ choices. Take values ∷ choices)
            (ap (λ (e : Ending A). e.1.choices) (sym (steady (with_choices s choices) choices) ∙ is))
            ∙ ap (λ b. cond b (Take values ∷ []) [] ++ t.choices) (sym relaxed);
        runs = λ y kept rest. taken_first (admits p y path here) fitting (f y) (with_choices s choices)
            values rest kept.0
            ∙ ap (λ (e : Ending A). with_left rest e) is;
      } where
        differ : true ≡ false → ⊥
        differ h = cc

  choice_replay : (x : Allowed) (s : State) (r : Result A Halt) (t : State) (b : Bool)
      → admits p x path here ≡ b
      → value_by_choice b fitting (f x) s ≡ (r, t) → is_wrong r ≡ false → Replay p by_choice x s r t
  choice_replay x s r t false is_relaxed is right = written_replay x s r t is_relaxed is right
  choice_replay x s r t true is_relaxed is right = relaxed_replay x s r t is_relaxed s.choices refl is right

-- what fits may depend on the state, but not on its choices
pub replays_choice : {A : Type 0} {p : Program} {f : Allowed → Act A} (path : List Step) (here : StmtId)
    (fitting : State → List ℤ → Option A) → Replays p f
    → Replays p (λ x s. value_by_choice (admits p x path here) (fitting (with_choices s [])) (f x) s)
replays_choice {p = p} {f = f} path here fitting replays = record {
  by = λ x s r t is right.
      let e = choice_replay p path here (fitting (with_choices s [])) f replays x s r t
      (admits p x path here) refl is right in
      record { visits = e.visits; kept = e.kept; used = e.used; runs = e.runs };
}
