use Rattle.std.proofs.Common.{pos}
use Rattle.ba_numbers.specs.declared.numbers.CType.TheVariants.{I32}
use Rattle.ba_typing.proofs.TreeForms.{tree-Const}
use Rattle.ba_expressions.proofs.inferred.placeholder.Goals as goal

pub returns : goal.returns
returns c = tree-Const I32 (pos 0)
