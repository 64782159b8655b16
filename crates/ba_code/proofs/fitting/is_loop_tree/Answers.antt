use Rattle.std.proofs.Common.{◌≡◌, Bool, ◌&&◌, List, [], map, ap, ◌∙◌}
use Rattle.std.proofs.lemmas.List.Folds.{list_all-map}
use Rattle.std.specs.List.{list_all}
use Rattle.ba_code.specs.Facts.{Declared, Inside, are_inside, declared_in, fits_inside, is_array_info, is_loop_tree, is_param}
use Rattle.ba_code.specs.declared.nodes.ArrayInfo.{ArrayInfo}
use Rattle.ba_code.specs.declared.nodes.Node.{Node}
use Rattle.ba_code.specs.declared.nodes.Param.{Param}
use Rattle.ba_code.specs.declared.trees.Code.{Code}
use Rattle.ba_code.proofs.fitting.is_loop_tree.Goals as goal

module _ (code : Code) where
  abbrev with_arrays : List ArrayInfo → Declared
  with_arrays arrays = record { vars = code.vars; arrays = arrays }

  all-fit : (arrays : List ArrayInfo) (params : List Param) (nodes : List Node) (a b c : Bool)
      → arrays ≡ code.arrays → params ≡ code.params → nodes ≡ code.body
      → a ≡ list_all is_array_info arrays → b ≡ list_all (is_param (with_arrays arrays)) params
      → c ≡ are_inside [] (map (fits_inside (with_arrays arrays)) nodes)
      → (a && b && c) ≡ is_loop_tree code
  unfolding is_loop_tree
  all-fit arrays params nodes a b c is_arrays is_params is_nodes is_a is_b is_c =
      ap (λ a. a && b && c) (is_a ∙ ap (list_all is_array_info) is_arrays)
      ∙ ap (λ b. list_all is_array_info code.arrays && b && c)
      (is_b ∙ ap (λ arrays. list_all (is_param (with_arrays arrays)) params) is_arrays
      ∙ ap (list_all (is_param (declared_in code))) is_params)
      ∙ ap (λ c. list_all is_array_info code.arrays && list_all (is_param (declared_in code)) code.params
      && c)
      (is_c ∙ ap (λ arrays. are_inside [] (map (fits_inside (with_arrays arrays)) nodes)) is_arrays
      ∙ ap (λ nodes. are_inside [] (map (fits_inside (declared_in code)) nodes)) is_nodes
      ∙ list_all-map (λ (node : Inside). node []) (fits_inside (declared_in code)) code.body)

pub returns : goal.returns
returns c = all-fit c.args.code.now c.as_slice-arrays.result.now c.as_slice-2.result.now c.as_slice.result.now
    c.are_array_infos.result c.are_params.result c.in_ok-body.body c.as_slice-arrays.ensures
    c.as_slice-2.ensures
    c.as_slice.ensures c.are_array_infos.ensures c.are_params.ensures c.in_ok-body.ensures
