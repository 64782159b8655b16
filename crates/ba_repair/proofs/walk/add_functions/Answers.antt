use Rattle.std.proofs.Common.{◌++◌, sym, ◌∙◌, ap}
use Rattle.std.proofs.lemmas.List.Folds.{flat_map-map}
use Rattle.ba_tree.specs.Trees.{FunctionTree, tree_of_function}
use Rattle.ba_tree.specs.declared.tree.Function.{Function}
use Rattle.ba_repair.specs.Nodes.{body_nodes}
use Rattle.ba_repair.proofs.Appending.{row-end}
use Rattle.ba_repair.proofs.walk.add_functions.Goals as goal

pub returns : goal.returns
returns c = row-end (λ (f : Function). body_nodes (tree_of_function f).body) c.args.functions.now
    c.loop-function.function-index c.loop-function.found.items _ c.loop-function.invariant
    c.loop-function-test.false
    ∙ ap (λ xs. c.args.found.now.items ++ xs)
    (sym (flat_map-map (λ (f : FunctionTree). body_nodes f.body) tree_of_function c.args.functions.now))
