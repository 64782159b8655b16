-- A run uses up the first of its choices, and leaves what stands behind them.

use Rattle.std.proofs.Common.{◌≡◌, ◌≢◌, ◌-◌, false, Result, Ok, Err, List, [], ◌∷◌, ◌++◌, append-nil, refl, sym, ◌∙◌, ap}
use Rattle.ba_choices.specs.declared.Choice.{Choice}
use Rattle.ba_interp.specs.Prefixes.{choices_left, outcome_at, prefix_outcome}
use Rattle.ba_laws.proofs.Keeps.{start_keeps, with_choices}
use Rattle.ba_laws.proofs.Replays.{Replay, Replays, is_wrong}
use Rattle.ba_laws.proofs.Runs.{replays_main}
use Rattle.ba_laws.specs.Visits.{chosen}
use Rattle.ba_tree.specs.Run.{context_of, if_none_left, outcome_of, run_main, run_of, start_of}
use Rattle.ba_tree.specs.State.{Ending, Execution, State}
use Rattle.ba_tree.specs.declared.run.Allowed.{Allowed}
use Rattle.ba_tree.specs.declared.run.Bounds.{Bounds}
use Rattle.ba_tree.specs.declared.run.Exit.{Exit}
use Rattle.ba_tree.specs.declared.run.Flow.{Flow}
use Rattle.ba_tree.specs.declared.run.Halt.{Halt}
use Rattle.ba_tree.specs.declared.run.Halt.TheVariants as halt
use Rattle.ba_tree.specs.declared.run.Input.{Input}
use Rattle.ba_tree.specs.declared.run.Outcome.{Outcome}
use Rattle.ba_tree.specs.declared.run.Outcome.TheVariants.{WrongChoices}
use Rattle.ba_tree.specs.declared.tree.Program.{Program}

-- ENDS that are not by wrong choices

-- the outcome of a run by its end: choices that are left are wrong
pub outcome-by : (e : Ending (Flow Exit)) → outcome_of e ≡ if_none_left e.1.choices (outcome_at e)
outcome-by (Ok flow, s) = refl
outcome-by (Err h, s) = refl

right-end : (r : Result (Flow Exit) Halt) (t : State) → outcome_at (r, t) ≢ WrongChoices → is_wrong r ≡ false
right-end (Ok flow) t right = refl
right-end (Err (halt.AssertFails here)) t right = refl
right-end (Err (halt.Trap here)) t right = refl
right-end (Err (halt.Beyond here)) t right = refl
right-end (Err halt.WrongChoices) t right = absurd (right refl)

-- nothing is left, and the end is right
nothing-left : (cs : List Choice) (o : Outcome) → if_none_left cs o ≢ WrongChoices → cs ≡ []
nothing-left [] o right = refl
nothing-left (c ∷ cs) o right = absurd (right refl)

same-outcome : (cs : List Choice) (o : Outcome) → if_none_left cs o ≢ WrongChoices → if_none_left cs o ≡ o
same-outcome [] o right = refl
same-outcome (c ∷ cs) o right = absurd (right refl)

module _ (p : Program) (i : Input) (b : Bounds) (x : Allowed) (choices : List Choice) where
  abbrev run_by : Allowed → Execution
  run_by y = run_main (context_of p b y) i

  abbrev ending : Ending (Flow Exit)
  ending = run_by x (start_of p choices)

  -- the run again, with the choices that it used up and any others behind them
  again : outcome_at ending ≢ WrongChoices → Replay p run_by x (start_of p choices) ending.0 ending.1
  again right =
      let replays : Replays p run_by = replays_main p b.turns (b.frames - 1) i in
      replays.by x (start_of p choices) ending.0 ending.1 refl (right-end ending.0 ending.1 right)

  given : (start_of p choices).choices ≡ choices
  given = ap (λ (s : State). s.choices) (start_keeps p choices)

  started : (others : List Choice) → start_of p others ≡ with_choices (start_of p choices) others
  started others = start_keeps p others
      ∙ ap (λ (s : State). with_choices s others) (sym (start_keeps p choices))

  module _ (right : outcome_at ending ≢ WrongChoices) where
    abbrev used : List Choice
    used = chosen p x (again right).visits

    split : choices ≡ used ++ ending.1.choices
    split = sym given ∙ (again right).used

    -- with what it used up, and others behind
    with-others : (others : List Choice) → run_by x (start_of p (used ++ others))
        ≡ (ending.0, with_choices ending.1 others)
    with-others others = ap (run_by x) (started (used ++ others))
        ∙ (again right).runs x (again right).kept others

    outcome-same : (others : List Choice)
        → outcome_at (ending.0, with_choices ending.1 others) ≡ outcome_at ending
    outcome-same others = by ending.0 ending.1 where
      by : (r : Result (Flow Exit) Halt) (t : State)
          → outcome_at (r, with_choices t others) ≡ outcome_at (r, t)
      by (Ok flow) t = refl
      by (Err h) t = refl

    used-alone : outcome_of (run_by x (start_of p used)) ≡ outcome_at ending
    used-alone = ap (λ (cs : List Choice). outcome_of (run_by x (start_of p cs))) (sym (append-nil used))
        ∙ ap outcome_of (with-others [])
        ∙ outcome-by (ending.0, with_choices ending.1 [])
        ∙ outcome-same []

  pub alone : prefix_outcome p i b x choices ≢ WrongChoices
      → (front : List Choice) × (choices ≡ front ++ choices_left p i b x choices)
      × (run_of p i b x front ≡ prefix_outcome p i b x choices)
  unfolding prefix_outcome choices_left run_of
  alone right = (used right, split right, used-alone right)

  -- a run with all choices used up
  whole-right : run_of p i b x choices ≢ WrongChoices → outcome_at ending ≢ WrongChoices
  unfolding run_of
  whole-right right wrong = right (outcome-by ending
      ∙ same-outcome ending.1.choices (outcome_at ending) (λ e. right (outcome-by ending ∙ e)) ∙ wrong)

  whole-left : run_of p i b x choices ≢ WrongChoices → ending.1.choices ≡ []
  unfolding run_of
  whole-left right =
      nothing-left ending.1.choices (outcome_at ending) (λ e. right (outcome-by ending ∙ e))

  all-used : (right : run_of p i b x choices ≢ WrongChoices) → choices ≡ used (whole-right right)
  all-used right = split (whole-right right)
      ∙ ap (λ (cs : List Choice). used (whole-right right) ++ cs) (whole-left right)
      ∙ append-nil (used (whole-right right))

  pub outcome-behind : (others : List Choice) → run_of p i b x choices ≢ WrongChoices
      → prefix_outcome p i b x (choices ++ others) ≡ run_of p i b x choices
  unfolding prefix_outcome run_of
  outcome-behind others right =
      ap (λ (cs : List Choice). outcome_at (run_by x (start_of p (cs ++ others)))) (all-used right)
      ∙ ap outcome_at (with-others (whole-right right) others)
      ∙ outcome-same (whole-right right) others
      ∙ sym (outcome-by ending
      ∙ same-outcome ending.1.choices (outcome_at ending) (λ e. right (outcome-by ending ∙ e)))

  pub left-behind : (others : List Choice) → run_of p i b x choices ≢ WrongChoices
      → choices_left p i b x (choices ++ others) ≡ others
  unfolding choices_left
  left-behind others right =
      ap (λ (cs : List Choice). (run_by x (start_of p (cs ++ others))).1.choices) (all-used right)
      ∙ ap (λ (e : Ending (Flow Exit)). e.1.choices) (with-others (whole-right right) others)
