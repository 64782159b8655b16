use Rattle.std.proofs.Common.{sym, ◌∙◌}
use Rattle.solver_tests.proofs.SomeLaws.{first_some, some_clause}
use Rattle.solver_tests.proofs.support.conditions.gives_up_some.Goals as goal

pub returns : goal.returns
returns c = λ negates v holds.
    first_some v c.args.softs.now c.args.formula.now.clauses c.clause.result.now (some_clause c.len.result _ c.if-len-eq0.false c.len.ensures) c.clause.ensures.clause
    (sym c.negates_selectors.ensures ∙ negates) holds
