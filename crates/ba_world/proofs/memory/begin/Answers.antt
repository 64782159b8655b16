use Rattle.std.proofs.Common.{rules, arith}
use Rattle.std.proofs.lemmas.Grind.{common_steps}
use Rattle.ba_world.proofs.Files.{with_file-set, with_file-push, NamesDiffer-push}
use Rattle.ba_world.proofs.memory.begin.Goals as goal

pub returns-in-Some-clause-made : goal.returns-in-Some-clause-made
returns-in-Some-clause-made c = search (rules, with_file-set)

pub returns-clause-made : goal.returns-clause-made
returns-clause-made c = grind (arith, common_steps, with_file-push)

pub returns-clause-differ : goal.returns-clause-differ
returns-clause-differ c = search (rules, NamesDiffer-push)
