use Rattle.std.proofs.Common.{◌≡◌, ◌++◌, map, drop}
use Rattle.ba_trees.specs.declared.tree.declarations.NextParameter.{NextParameter}
use Rattle.ba_typing.specs.Files.{type_of_param}
use Rattle.ba_types.proofs.signatures.add_types.Given as goal

abbrev pub invariant-loop-next : goal.invariant-loop-next
invariant-loop-next l =
    l.types.items ++ map (λ (n : NextParameter). type_of_param n.parameter) (drop l.next-index l.rest)
    ≡ l.fn.types.items ++ map (λ (n : NextParameter). type_of_param n.parameter) l.rest
