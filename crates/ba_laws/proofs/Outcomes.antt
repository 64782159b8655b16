-- A run has its outcome again by what it met, whatever else may be relaxed.
use Rattle.std.proofs.Common.{◌≡◌, ◌≢◌, ◌-◌, false, Result, Ok, Err, List, [], ◌∷◌, ◌++◌, append-nil, refl, sym, ◌∙◌, ap}
use Rattle.ba_choices.specs.declared.Choice.{Choice}
use Rattle.ba_tree.specs.State.{State, Ending, Execution}
use Rattle.ba_tree.specs.Run.{context_of, start_of, run_main, if_none_left, outcome_of_halt, outcome_of, run_of}
use Rattle.ba_tree.specs.declared.run.Allowed.{Allowed}
use Rattle.ba_tree.specs.declared.run.Bounds.{Bounds}
use Rattle.ba_tree.specs.declared.run.Exit.{Exit}
use Rattle.ba_tree.specs.declared.run.Flow.{Flow}
use Rattle.ba_tree.specs.declared.run.Halt.{Halt}
use Rattle.ba_tree.specs.declared.run.Halt.TheVariants as halt
use Rattle.ba_tree.specs.declared.run.Input.{Input}
use Rattle.ba_tree.specs.declared.run.Outcome.{Outcome}
use Rattle.ba_tree.specs.declared.run.Outcome.TheVariants.{Done, WrongChoices}
use Rattle.ba_tree.specs.declared.tree.Program.{Program}
use Rattle.ba_laws.specs.Visits.{chosen, HasVisits}
use Rattle.ba_laws.proofs.Keeps.{with_choices, start_keeps}
use Rattle.ba_laws.proofs.Replays.{is_wrong, Replay, Replays}
use Rattle.ba_laws.proofs.Runs.{replays_main}

-- ENDS of runs whose choices are not wrong

none_after : (choices : List Choice) (o : Outcome) → if_none_left choices o ≢ WrongChoices → choices ≡ []
none_after [] o right = refl
none_after (c ∷ cs) o right = absurd (right refl)

none_left : (r : Result (Flow Exit) Halt) (t : State) → outcome_of (r, t) ≢ WrongChoices → t.choices ≡ []
none_left (Ok flow) t right = none_after t.choices Done right
none_left (Err h) t right = none_after t.choices (outcome_of_halt h) right

wrong_anyway : (choices : List Choice) → if_none_left choices WrongChoices ≡ WrongChoices
wrong_anyway [] = refl
wrong_anyway (c ∷ cs) = refl

not_wrong : (r : Result (Flow Exit) Halt) (t : State) → outcome_of (r, t) ≢ WrongChoices → is_wrong r ≡ false
not_wrong (Ok flow) t right = refl
not_wrong (Err (halt.AssertFails here)) t right = refl
not_wrong (Err (halt.Trap here)) t right = refl
not_wrong (Err (halt.Beyond here)) t right = refl
not_wrong (Err halt.WrongChoices) t right = absurd (right (wrong_anyway t.choices))

-- RUNS

start_again : (p : Program) (old choices : List Choice)
    → start_of p choices ≡ with_choices (start_of p old) choices
start_again p old choices = start_keeps p choices
    ∙ ap (λ (s : State). with_choices s choices) (sym (start_keeps p old))

module _ (p : Program) (i : Input) (b : Bounds) (x : Allowed) (choices : List Choice) where
  abbrev run_by : Allowed → Execution
  run_by y = run_main (context_of p b y) i

  end_visits : (e : Ending (Flow Exit)) → run_by x (start_of p choices) ≡ e → outcome_of e ≢ WrongChoices
      → HasVisits p i b x choices
  unfolding run_of
  end_visits (r, t) ends right =
      let replays : Replays p run_by = replays_main p b.turns (b.frames - 1) i in
      let e : Replay p run_by x (start_of p choices) r t =
      replays.by x (start_of p choices) r t ends (not_wrong r t right) in
      record {
        visits = e.visits;
        kept = e.kept;
        given = sym (append-nil (chosen p x e.visits))
            ∙ ap (λ left. chosen p x e.visits ++ left) (sym (none_left r t right))
            ∙ sym e.used ∙ ap (λ (s : State). s.choices) (start_keeps p choices);
        same = λ y kept.
            ap (λ (s : State). outcome_of (run_by y s)) (start_again p choices (chosen p y e.visits))
            ∙ ap (λ (cs : List Choice). outcome_of (run_by y (with_choices (start_of p choices) cs)))
            (sym (append-nil (chosen p y e.visits)))
            ∙ ap outcome_of (e.runs y kept [])
            ∙ ap (λ (left : List Choice). outcome_of (r, with_choices t left)) (sym (none_left r t right))
            ∙ ap outcome_of (sym ends);
      }

  pub has_visits : run_of p i b x choices ≢ WrongChoices → HasVisits p i b x choices
  unfolding run_of
  has_visits = end_visits (run_by x (start_of p choices)) refl
