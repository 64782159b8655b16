-- What a whole run does, from what its parts do.
use Rattle.std.proofs.Common.{◌≡◌, ◌≢◌, ℕ, ◌-◌, ℤ, Option, Result, Ok, Err, List, [], ◌∷◌, length, refl, sym, ◌∙◌, ap, subst, arith}
use Rattle.ba_choices.specs.declared.Choice.{Choice}
use Rattle.ba_numbers.specs.declared.ids.VarId.{VarId}
use Rattle.ba_numbers.specs.declared.numbers.CType.{CType}
use Rattle.ba_tree.specs.Acts.{after_part, then_do}
use Rattle.ba_tree.specs.Meaning.{Context, exec_all}
use Rattle.ba_tree.specs.Run.{call_at, enter_main, if_none_left, main_of, outcome_of, outcome_of_halt, run_main, run_of, start_of, with_input}
use Rattle.ba_tree.specs.State.{State, Ending, Execution}
use Rattle.ba_tree.specs.declared.run.Allowed.{Allowed}
use Rattle.ba_tree.specs.declared.run.Bounds.{Bounds}
use Rattle.ba_tree.specs.declared.run.Exit.{Exit}
use Rattle.ba_tree.specs.declared.run.Flow.{Flow}
use Rattle.ba_tree.specs.declared.run.Flow.TheVariants.{Next}
use Rattle.ba_tree.specs.declared.run.Halt.TheVariants as halt
use Rattle.ba_tree.specs.declared.run.Input.{Input}
use Rattle.ba_tree.specs.declared.run.Outcome.{Outcome}
use Rattle.ba_tree.specs.declared.run.Outcome.TheVariants.{Done, WrongChoices}
use Rattle.ba_tree.specs.declared.run.Step.{Step}
use Rattle.ba_tree.specs.declared.tree.Program.{Program}
use Rattle.ba_tree.specs.declared.tree.Stmt.{Stmt}
use Rattle.ba_interp.specs.Doing.{Did}
use Rattle.ba_interp.specs.Prefixes.{choices_left, ending_of, outcome_at, prefix_outcome}
use Rattle.ba_interp.specs.Settings.{context_at}
use Rattle.ba_interp.specs.declared.setting.Frame.{Frame}
use Rattle.ba_interp.specs.declared.setting.Setting.{Setting}
use Rattle.ba_interp.specs.declared.stop.Stop.{Stop}
use Rattle.ba_interp.specs.declared.stop.Stop.TheVariants.{Halts, Memory}
use Rattle.ba_interp.proofs.Steps.{IsThen}

-- the input, of which the shorter list decides
pub no_more_params : (p : Program) (vs : List VarId) (given : List (List ℤ)) (s : State) → length vs ≡ 0
    → with_input p vs given s ≡ s
no_more_params p [] given s none = refl
no_more_params p (v ∷ vs) given s none = absurd (omega arith)

pub no_more_given : (p : Program) (vs : List VarId) (given : List (List ℤ)) (s : State) → length given ≡ 0
    → with_input p vs given s ≡ s
no_more_given p [] given s none = refl
no_more_given p (v ∷ vs) [] s none = refl
no_more_given p (v ∷ vs) (zs ∷ given) s none = absurd (omega arith)

-- the choices that are left at the end. If memory ran out there is no outcome.
left-is : (r : Result (Flow Exit) Stop) (t : State) (outcome : Outcome) (end : Ending (Flow Exit))
    → ((u : State) (end : Ending (Flow Exit)) → Did r u end → outcome ≡ outcome_at end) → Did r t end
    → end.1.choices ≡ t.choices
left-is (Ok flow) t outcome end told did = ap (λ (end : Ending (Flow Exit)). end.1.choices) did
left-is (Err (Halts h)) t outcome end told did = ap (λ (end : Ending (Flow Exit)). end.1.choices) did
left-is (Err Memory) t outcome end told did =
    let one : outcome ≡ Done = told t (Ok Next, t) tt in
    let other : outcome ≡ WrongChoices = told t (Err halt.WrongChoices, t) tt in
    let wrong : Done ≡ WrongChoices = sym one ∙ other in absurd (cc wrong)

none-left-of : (left : List Choice) (outcome : Outcome) → length left ≡ 0 → outcome ≡ if_none_left left outcome
none-left-of [] outcome none = refl
none-left-of (c ∷ cs) outcome none = absurd (omega (arith, none))

some-left-of : (left : List Choice) (outcome : Outcome) → length left ≢ 0
    → WrongChoices ≡ if_none_left left outcome
some-left-of [] outcome some = absurd (some refl)
some-left-of (c ∷ cs) outcome some = refl

-- a run that leaves none of its choices is as it ended, and one that leaves some is wrong
none-left-at : (end : Ending (Flow Exit)) → length end.1.choices ≡ 0 → outcome_at end ≡ outcome_of end
none-left-at (Ok flow, s) none = none-left-of s.choices Done none
none-left-at (Err h, s) none = none-left-of s.choices (outcome_of_halt h) none

some-left-at : (end : Ending (Flow Exit)) → length end.1.choices ≢ 0 → WrongChoices ≡ outcome_of end
some-left-at (Ok flow, s) some = some-left-of s.choices Done some
some-left-at (Err h, s) some = some-left-of s.choices (outcome_of_halt h) some

pub none-left : (p : Program) (input : Input) (b : Bounds) (allowed : Allowed) (choices : List Choice)
    → length (choices_left p input b allowed choices) ≡ 0
    → prefix_outcome p input b allowed choices ≡ run_of p input b allowed choices
unfolding choices_left prefix_outcome run_of
none-left p input b allowed choices none = none-left-at (ending_of p input b allowed choices) none

pub some-left : (p : Program) (input : Input) (b : Bounds) (allowed : Allowed) (choices : List Choice)
    → length (choices_left p input b allowed choices) ≢ 0
    → WrongChoices ≡ run_of p input b allowed choices
unfolding choices_left run_of
some-left p input b allowed choices some = some-left-at (ending_of p input b allowed choices) some

module _ (w : Setting) (f : Frame) (input : Input) (s : State) where
  abbrev then_main : Execution
  then_main s = exec_all (context_at w f) [] (main_of w.program.now).body (enter_main w.program.now input s)

  pub main-parts : (path : List Step) (inits : List Stmt) → path ≡ [] → inits ≡ w.program.now.inits
      → IsThen (run_main (context_at w f) input s) (exec_all (context_at w f) path inits s) (after_part
      then_main)
  unfolding run_main context_at
  main-parts path inits is_main is_inits = record {
    is =
        ap (λ inits. then_do (exec_all (context_at w f) [] inits s) (after_part then_main)) (sym is_inits)
        ∙ ap (λ path. then_do (exec_all (context_at w f) path inits s) (after_part then_main)) (sym is_main);
  }

  pub main-ran : (path : List Step) (body : List Stmt) (m t u : State) (r : Result (Flow Exit) Stop)
      → path ≡ []
      → body ≡ (main_of w.program.now).body → m ≡ enter_main w.program.now input t → Did r u (exec_all
      (context_at w f) path body m)
      → Did r u (then_main t)
  main-ran path body m t u r is_main is_body is_m did =
      subst (λ m. Did r u (exec_all (context_at w f) [] (main_of w.program.now).body m)) is_m
      (subst (λ body. Did r u (exec_all (context_at w f) [] body m)) is_body
      (subst (λ path. Did r u (exec_all (context_at w f) path body m)) is_main did))

  abbrev context_with : ℕ → Option CType → ℕ → Context
  context_with turns result frames = record {
    program = w.program.now;
    allowed = w.allowed.now;
    turns = turns;
    result = result;
    calls = call_at w.program.now w.allowed.now turns frames;
  }

  ending-is : (b : Bounds) (choices : List Choice) → w.turns ≡ b.turns
      → f.result ≡ (main_of w.program.now).result → f.frames ≡ b.frames - 1
      → s ≡ start_of w.program.now choices
      → run_main (context_at w f) input s ≡ ending_of w.program.now input b w.allowed.now choices
  unfolding context_at
  ending-is b choices is_turns is_result is_frames is_s =
      ap (λ turns. run_main (context_with turns f.result f.frames) input s) is_turns
      ∙ ap (λ result. run_main (context_with b.turns result f.frames) input s) is_result
      ∙ ap (λ frames. run_main (context_with b.turns (main_of w.program.now).result frames) input s) is_frames
      ∙ ap (λ s. run_main (context_with b.turns (main_of w.program.now).result (b.frames - 1)) input s) is_s

  pub outcome-ended : (r : Result (Flow Exit) Stop) (t : State) (outcome : Outcome) (b : Bounds)
      (choices : List Choice)
      → w.turns ≡ b.turns → f.result ≡ (main_of w.program.now).result → f.frames ≡ b.frames - 1
      → s ≡ start_of w.program.now choices
      → ((u : State) (end : Ending (Flow Exit)) → Did r u end → outcome ≡ outcome_at end)
      → Did r t (run_main (context_at w f) input s)
      → outcome ≡ prefix_outcome w.program.now input b w.allowed.now choices
  unfolding prefix_outcome
  outcome-ended r t outcome b choices is_turns is_result is_frames is_s told did =
      told t (run_main (context_at w f) input s) did
      ∙ ap outcome_at (ending-is b choices is_turns is_result is_frames is_s)

  pub left-ended : (r : Result (Flow Exit) Stop) (t : State) (outcome : Outcome) (b : Bounds)
      (choices : List Choice)
      → w.turns ≡ b.turns → f.result ≡ (main_of w.program.now).result → f.frames ≡ b.frames - 1
      → s ≡ start_of w.program.now choices
      → ((u : State) (end : Ending (Flow Exit)) → Did r u end → outcome ≡ outcome_at end)
      → Did r t (run_main (context_at w f) input s)
      → t.choices ≡ choices_left w.program.now input b w.allowed.now choices
  unfolding choices_left
  left-ended r t outcome b choices is_turns is_result is_frames is_s told did =
      sym (left-is r t outcome (run_main (context_at w f) input s) told did)
      ∙ ap (λ (end : Ending (Flow Exit)). end.1.choices) (ending-is b choices is_turns is_result is_frames is_s)
