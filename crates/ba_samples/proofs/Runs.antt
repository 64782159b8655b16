-- The runs of a program that has a sample's tree are those of the tree.
use Rattle.std.proofs.Common.{◌≡◌, ℕ, ◌-◌, pos, List, [], ◌∷◌, map, length, sym, ◌∙◌, ap}
use Rattle.std.specs.Prelude.{replicate, slice_index_or}
use Rattle.std.proofs.Math.ListN.{get_or-map}
use Rattle.ba_numbers.specs.declared.ids.VarId.{VarId}
use Rattle.ba_choices.specs.declared.Choice.{Choice}
use Rattle.ba_tree.specs.Acts.{then_do, after_part}
use Rattle.ba_tree.specs.State.{State, Execution}
use Rattle.ba_tree.specs.Meaning.{exec_all, stmts_in_order}
use Rattle.ba_tree.specs.Run.{begin_shape, begin_all, call_at, context_of, enter_main, main_of, no_function, outcome_of, run_main, run_of, start_of, with_input}
use Rattle.ba_tree.specs.Trees.{FunctionTree, ProgramTree, tree_of, tree_of_function}
use Rattle.ba_tree.specs.declared.run.Allowed.{Allowed}
use Rattle.ba_tree.specs.declared.run.Bounds.{Bounds}
use Rattle.ba_tree.specs.declared.run.Input.{Input}
use Rattle.ba_tree.specs.declared.tree.Program.{Program}
use Rattle.ba_tree_laws.proofs.TreeRuns.{variable_in, exec_tree}
use Rattle.ba_tree_laws.proofs.Runs.{exec_all_is}
use Rattle.ba_samples.specs.Sample.{counter, sample_body, sample_main, sample_statements, sample_tree}
use Rattle.ba_samples.proofs.Statements.{runs, standing}

module _ (n : ℕ) (p : Program) (same : tree_of p ≡ sample_tree n) where
  abbrev main_in : ProgramTree → FunctionTree
  main_in t = slice_index_or t.functions t.main.0 (tree_of_function no_function)

  pub main_is : tree_of_function (main_of p) ≡ sample_main n
  main_is = sym (get_or-map tree_of_function p.functions p.main.0 no_function) ∙ ap main_in same

  -- no variable is given by the input
  no_input : (given : List VarId) → given ≡ [] → (i : Input) (s : State)
      → with_input p given i.values s ≡ s
  no_input given none i s = ap (λ vs. with_input p vs i.values s) none

  -- so many variables begin as 0
  begins : (vs : List VarId) → vs ≡ counter ∷ [] → (s : State)
      → begin_all p vs s ≡ begin_shape (variable_in (sample_tree n).variables counter).shape counter s
  begins vs are s = ap (λ vs. begin_all p vs s) are
      ∙ ap (λ (t : ProgramTree). begin_shape (variable_in t.variables counter).shape counter s) same

  begins_none : (vs : List VarId) → vs ≡ [] → (s : State) → begin_all p vs s ≡ s
  begins_none vs are s = ap (λ vs. begin_all p vs s) are

  started : (choices : List Choice) → start_of p choices ≡ standing 0 choices
  started choices = begins_none p.globals (ap (λ (t : ProgramTree). t.globals) same) (record {
    values = replicate (length p.variables) (pos 0);
    arrays = [];
    locations = replicate (length p.variables) 0;
    choices = choices;
  })
      ∙ ap (λ (t : ProgramTree). record {
        values = replicate (length t.variables) (pos 0);
        arrays = [];
        locations = replicate (length t.variables) 0;
        choices = choices;
      }) same

  entered : (i : Input) (choices : List Choice) → enter_main p i (standing 0 choices) ≡ standing 0 choices
  entered i choices =
      no_input (main_of p).params (ap (λ (f : FunctionTree). f.params) main_is) i
      (begin_all p (main_of p).locals (begin_all p (main_of p).params (standing 0 choices)))
      ∙ begins (main_of p).locals (ap (λ (f : FunctionTree). f.locals) main_is)
      (begin_all p (main_of p).params (standing 0 choices))
      ∙ ap (begin_shape (variable_in (sample_tree n).variables counter).shape counter)
      (begins_none (main_of p).params (ap (λ (f : FunctionTree). f.params) main_is) (standing 0 choices))

  module _ (i : Input) (b : Bounds) (allowed : Allowed) where
    abbrev pub body_runs : Execution
    body_runs = runs (sample_statements n) allowed b.turns (call_at p allowed b.turns (b.frames - 1))
        (sample_body n)

    main_runs : exec_all (context_of p b allowed) [] (main_of p).body ≡ body_runs
    main_runs = exec_all_is (context_of p b allowed) [] (main_of p).body
        ∙ (λ j. stmts_in_order [] (map (exec_tree (record {
          variables = (same j).variables;
          statements = (same j).statements;
          allowed = allowed;
          turns = b.turns;
          result = (main_is j).result;
          calls = call_at p allowed b.turns (b.frames - 1);
        })) (main_is j).body))

    no_globals : (s : State) → exec_all (context_of p b allowed) [] p.inits s ≡ stmts_in_order [] [] s
    no_globals s = (λ j. exec_all_is (context_of p b allowed) [] p.inits j s)
        ∙ (λ j. stmts_in_order [] (map (exec_tree (record {
          variables = p.variables;
          statements = p.statements;
          allowed = allowed;
          turns = b.turns;
          result = (main_of p).result;
          calls = call_at p allowed b.turns (b.frames - 1);
        })) (same j).inits) s)

    pub run_is : (choices : List Choice)
        → run_of p i b allowed choices ≡ outcome_of (body_runs (standing 0 choices))
    unfolding run_of run_main
    run_is choices = ap outcome_of
        (ap (λ s. then_do (exec_all (context_of p b allowed) [] p.inits s) (after_part
        (λ s. exec_all (context_of p b allowed) [] (main_of p).body (enter_main p i s)))) (started choices)
        ∙ ap (λ e. then_do e (after_part
        (λ s. exec_all (context_of p b allowed) [] (main_of p).body (enter_main p i s))))
        (no_globals (standing 0 choices))
        ∙ ap (λ s. exec_all (context_of p b allowed) [] (main_of p).body s) (entered i choices)
        ∙ (λ j. main_runs j (standing 0 choices)))
