-- Programs with the same tree run alike.
use Rattle.std.proofs.Common.{◌≡◌, suc, zero, ℕ, ◌-◌, ℤ, pos, ◌&&◌, Ok, List, [], ◌∷◌, ◌++◌, map, refl, sym, ◌∙◌}
use Rattle.std.specs.Prelude.{length, replicate, take, drop, slice_index_or}
use Rattle.std.specs.List.{flat_map}
use Rattle.std.proofs.Math.ListN.{get_or-map}
use Rattle.ba_bytes.specs.Pieces.{pieces_of}
use Rattle.ba_numbers.specs.declared.ids.FnId.{FnId}
use Rattle.ba_numbers.specs.declared.ids.VarId.{VarId}
use Rattle.ba_choices.specs.declared.Choice.{Choice}
use Rattle.ba_tree.specs.Acts.{then_do, after_part}
use Rattle.ba_tree.specs.State.{State}
use Rattle.ba_tree.specs.Meaning.{Calls, exec_all, stmts_in_order}
use Rattle.ba_tree.specs.Run.{begin_shape, begin_all, bind_all, with_restored, result_of, no_function, function_of, main_of, context_in, context_of, call_at, fits, fits_all, fits_variable, with_input_one, with_input, start_of, enter_main, run_main, outcome_of, run_of}
use Rattle.ba_tree.specs.Inputs.{numbers_for, number_types, values_for, fault_of, numbers_of, input_fault, input_values}
use Rattle.ba_tree.specs.declared.run.Allowed.{Allowed}
use Rattle.ba_tree.specs.declared.run.Bounds.{Bounds}
use Rattle.ba_tree.specs.declared.run.Input.{Input}
use Rattle.ba_tree.specs.declared.run.Step.{Step}
use Rattle.ba_tree.specs.declared.tree.Function.{Function}
use Rattle.ba_tree.specs.declared.tree.Program.{Program}
use Rattle.ba_tree.specs.declared.tree.Stmt.{Stmt}
use Rattle.ba_tree.specs.Trees.{FunctionTree, ProgramTree, tree_of, tree_of_function, tree_of_stmt}
use Rattle.ba_tree_laws.proofs.TreeRuns.{variable_in, exec_tree}
use Rattle.ba_tree_laws.proofs.Runs.{exec_all_is}

module _ (p q : Program) (same : tree_of p ≡ tree_of q) where
  -- THE SAME FUNCTIONS

  function_at : ProgramTree → FnId → FunctionTree
  function_at t f = slice_index_or t.functions f.0 (tree_of_function no_function)

  pub functions_same : (f g : FnId) → f ≡ g
      → tree_of_function (function_of p f) ≡ tree_of_function (function_of q g)
  unfolding function_at
  functions_same f g equal = sym (get_or-map tree_of_function p.functions f.0 no_function)
      ∙ (λ i. function_at (same i) (equal i))
      ∙ get_or-map tree_of_function q.functions g.0 no_function

  pub main_same : tree_of_function (main_of p) ≡ tree_of_function (main_of q)
  main_same = functions_same p.main q.main (λ i. (same i).main)

  -- FRAMES

  begin_same : (vs : List VarId) → begin_all p vs ≡ begin_all q vs
  begin_same [] = refl
  begin_same (v ∷ vs) =
      λ i s. begin_same vs i (begin_shape (variable_in (same i).variables v).shape v s)

  abbrev restored : FunctionTree → State → State → State
  restored f before s = record (with_restored (f.params ++ f.locals) before s) {
    arrays = take (length before.arrays) s.arrays;
  }

  -- CALLS

  module _ (allowed : Allowed) (turns : ℕ) where
    body_same : (f g : Function) → tree_of_function f ≡ tree_of_function g → (calls others : Calls)
        → calls ≡ others → (path : List Step)
        → exec_all (context_in p allowed turns f calls) path f.body
        ≡ exec_all (context_in q allowed turns g others) path g.body
    body_same f g equal calls others calls_same path =
        exec_all_is (context_in p allowed turns f calls) path f.body
        ∙ (λ i. stmts_in_order path (map (exec_tree (record {
          variables = (same i).variables;
          statements = (same i).statements;
          allowed = allowed;
          turns = turns;
          result = (equal i).result;
          calls = calls_same i;
        })) (equal i).body))
        ∙ sym (exec_all_is (context_in q allowed turns g others) path g.body)

    calls_same : (frames : ℕ) → call_at p allowed turns frames ≡ call_at q allowed turns frames
    unfolding call_at
    calls_same zero = refl
    calls_same (suc frames) = λ i path here f args s.
        then_do
        (body_same (function_of p f) (function_of q f) (functions_same f f refl)
        (call_at p allowed turns frames) (call_at q allowed turns frames) (calls_same frames) path i
        (begin_same (functions_same f f refl i).locals i
        (bind_all (functions_same f f refl i).params args s)))
        (λ flow t. (Ok (result_of flow), restored (functions_same f f refl i) s t))

  -- RUNS

  start_same : (choices : List Choice) → start_of p choices ≡ start_of q choices
  start_same choices = λ i. begin_same (same i).globals i (record {
    values = replicate (length (same i).variables) (pos 0);
    arrays = [];
    locations = replicate (length (same i).variables) 0;
    choices = choices;
  })

  input_same : (vs : List VarId) (given : List (List ℤ)) → with_input p vs given ≡ with_input q vs given
  input_same [] given = refl
  input_same (v ∷ vs) [] = refl
  input_same (v ∷ vs) (zs ∷ given) = λ i s.
      input_same vs given i (with_input_one (variable_in (same i).variables v).shape v zs s)

  enter_same : (input : Input) → enter_main p input ≡ enter_main q input
  enter_same input = λ i s. input_same (main_same i).params input.values i
      (begin_same (main_same i).locals i (begin_same (main_same i).params i s))

  module _ (input : Input) (b : Bounds) (allowed : Allowed) where
    all_same : (body other : List Stmt) → map tree_of_stmt body ≡ map tree_of_stmt other
        → exec_all (context_of p b allowed) [] body ≡ exec_all (context_of q b allowed) [] other
    all_same body other equal = exec_all_is (context_of p b allowed) [] body
        ∙ (λ i. stmts_in_order [] (map (exec_tree (record {
          variables = (same i).variables;
          statements = (same i).statements;
          allowed = allowed;
          turns = b.turns;
          result = (main_same i).result;
          calls = calls_same allowed b.turns (b.frames - 1) i;
        })) (equal i)))
        ∙ sym (exec_all_is (context_of q b allowed) [] other)

    main_run_same : run_main (context_of p b allowed) input ≡ run_main (context_of q b allowed) input
    unfolding run_main
    main_run_same = λ i s. then_do (all_same p.inits q.inits (λ j. (same j).inits) i s)
        (after_part (λ s. all_same (main_of p).body (main_of q).body (λ j. (main_same j).body) i
        (enter_same input i s)))

    pub run_same : (choices : List Choice)
        → run_of p input b allowed choices ≡ run_of q input b allowed choices
    unfolding run_of
    run_same choices = λ i. outcome_of (main_run_same i (start_same choices i))

  -- INPUTS

  all_fit_same : (vs : List VarId) (given : List (List ℤ)) → fits_all p vs given ≡ fits_all q vs given
  all_fit_same [] [] = refl
  all_fit_same [] (zs ∷ given) = refl
  all_fit_same (v ∷ vs) [] = refl
  all_fit_same (v ∷ vs) (zs ∷ given) =
      λ i. fits_variable (variable_in (same i).variables v) zs && all_fit_same vs given i

  pub fits_same : (input : Input) → fits p input ≡ fits q input
  fits_same input = λ i. all_fit_same (main_same i).params input.values i

  pub fault_same : (text : List ℕ) → input_fault p text ≡ input_fault q text
  fault_same text = λ i. fault_of
      (flat_map (λ v. number_types (variable_in (same i).variables v)) (main_same i).params) (pieces_of text)

  values_for_same : (vs : List VarId) (zs : List ℤ) → values_for p vs zs ≡ values_for q vs zs
  values_for_same [] zs = refl
  values_for_same (v ∷ vs) zs = λ i.
      let n : ℕ = numbers_for (variable_in (same i).variables v).shape in
      take n zs ∷ values_for_same vs (drop n zs) i

  pub values_same : (text : List ℕ) → input_values p text ≡ input_values q text
  values_same text = λ i. values_for_same (main_same i).params (numbers_of (pieces_of text)) i
