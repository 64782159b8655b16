use Rattle.std.proofs.Common.{false, subst}
use Rattle.std.proofs.lemmas.List.{get_or_default}
use Rattle.ba_nodes.specs.Gates.{IsBitOf, constant_bit}
use Rattle.solver_tests.proofs.clauses.word_read.Goals as goal

pub clauses_of-requires-clause-read : goal.clauses_of-requires-clause-read
clauses_of-requires-clause-read g c k d within =
    subst (IsBitOf c.args.nodes.now) (get_or_default c.args.word.now k (constant_bit false) d within) (c.requires k)
