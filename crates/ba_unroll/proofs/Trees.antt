-- Whole trees.
use Rattle.std.proofs.Common.{◌≡◌, ℕ, Bool, true, ◌&&◌, List, [], sym, ◌∙◌, ap, subst}
use Rattle.std.proofs.lemmas.Bool.{and_from, and_parts}
use Rattle.std.proofs.lemmas.List.Folds.{list_all-map}
use Rattle.std.specs.List.{list_all}
use Rattle.ba_choices.specs.declared.Choice.{Choice}
use Rattle.ba_code.specs.Facts.{Declared, Inside, declared_in, fits_inside, is_array_info, is_bound_tree, is_loop_tree, is_param, is_unrolled}
use Rattle.ba_code.specs.Meaning.{run_nodes}
use Rattle.ba_code.specs.Operators.{converting}
use Rattle.ba_code.specs.Run.{outcome_of_code, outcome_of_end, outcome_with, setting_of, start_of_code}
use Rattle.ba_code.specs.State.{CodeExecution}
use Rattle.ba_code.specs.declared.nodes.ArrayInfo.{ArrayInfo}
use Rattle.ba_code.specs.declared.nodes.Node.{Node}
use Rattle.ba_code.specs.declared.nodes.Param.{Param}
use Rattle.ba_code.specs.declared.trees.Code.{Code}
use Rattle.ba_unroll.proofs.Adding.{made-fits, made-runs, made-unrolled}
use Rattle.ba_unroll.proofs.Rows.{row-of}
use Rattle.ba_unroll.specs.Unrolling.{Adds, all_inside, nodes_act}
use Rattle.ba_numbers.specs.declared.ids.StmtId.{StmtId}
use Rattle.ba_tree.specs.declared.run.Input.{Input}
use Rattle.ba_tree.specs.declared.run.Step.{Step}

-- what is made of the body
pub body-made : (turns : ℕ) (ns body old new made : List Node) → ns ≡ body → old ≡ [] → made ≡ new
    → Adds (nodes_act turns [] ns) (all_inside ns) old new
    → Adds (nodes_act turns [] body) (all_inside body) [] made
body-made turns ns body old new made same empty put row =
    subst (λ (made : List Node). Adds (nodes_act turns [] body) (all_inside body) [] made) (sym put)
    (subst (λ (old : List Node). Adds (nodes_act turns [] body) (all_inside body) old new) empty
    (row-of turns [] ns body old new same row))

module _ (vars turns : ℕ) (arrays new_arrays : List ArrayInfo) (params new_params : List Param)
    (body new_body : List Node) where
  abbrev old_code : Code
  old_code = record { vars = vars; arrays = arrays; params = params; body = body }

  abbrev new_code : Code
  new_code = record { vars = vars; arrays = new_arrays; params = new_params; body = new_body }

  all-inside : (d : Declared) (ns : List Node)
      → all_inside ns d [] ≡ list_all (λ node. fits_inside d node []) ns
  all-inside d ns = list_all-map (λ (f : Inside). f []) (fits_inside d) ns

  -- what the new tree keeps
  pub bound-fits : new_arrays ≡ arrays → new_params ≡ params
      → Adds (nodes_act turns [] body) (all_inside body) [] new_body → is_loop_tree old_code ≡ true
      → is_bound_tree new_code ≡ true
  unfolding is_loop_tree is_bound_tree
  bound-fits same_arrays same_params made fit =
      let d : Declared = declared_in old_code in
      let both = and_parts (list_all is_array_info arrays && list_all (is_param d) params)
      (list_all (λ node. fits_inside d node []) body) fit in
      let inside : list_all (λ node. fits_inside d node []) new_body ≡ true =
      sym (all-inside d new_body)
      ∙ made-fits (nodes_act turns [] body) (all_inside body) new_body made d [] (all-inside d body ∙ both.1) in
      and_from (is_loop_tree new_code) (list_all is_unrolled new_body)
      (ap (λ (arrays : List ArrayInfo). is_loop_tree
      (record { vars = vars; arrays = arrays; params = new_params; body = new_body })) same_arrays
      ∙ ap (λ (params : List Param). is_loop_tree
      (record { vars = vars; arrays = arrays; params = params; body = new_body })) same_params
      ∙ and_from (list_all is_array_info arrays && list_all (is_param d) params)
      (list_all (λ node. fits_inside d node []) new_body) both.0 inside)
      (made-unrolled (nodes_act turns [] body) (all_inside body) new_body made)

  -- and its outcomes
  pub same-outcomes : new_arrays ≡ arrays → new_params ≡ params
      → Adds (nodes_act turns [] body) (all_inside body) [] new_body
      → (input : Input) (own : ℕ) (relaxes : List Step → StmtId → Bool) (choices : List Choice)
      → outcome_of_code new_code input own relaxes choices ≡ outcome_of_code old_code input turns relaxes
      choices
  unfolding outcome_with
  same-outcomes same_arrays same_params made input own relaxes choices =
      ap (λ (f : CodeExecution). outcome_of_end (f (start_of_code new_code input choices)))
      (made-runs (nodes_act turns [] body) (all_inside body) new_body made
      (setting_of converting new_code own relaxes))
      ∙ ap (λ (arrays : List ArrayInfo). outcome_of_end (run_nodes
      (record { relaxes = relaxes; turns = turns; arrays = arrays; operators = converting }) body []
      (start_of_code (record { vars = vars; arrays = arrays; params = new_params; body = body }) input
      choices))) same_arrays
      ∙ ap (λ (params : List Param). outcome_of_end (run_nodes
      (record { relaxes = relaxes; turns = turns; arrays = arrays; operators = converting }) body []
      (start_of_code (record { vars = vars; arrays = arrays; params = params; body = body }) input
      choices))) same_params
