use Rattle.std.proofs.Common.{sym, ap, ◌∙◌}
use Rattle.ba_lits.specs.Literals.{Literal, negate, positive}
use Rattle.ba_watch.proofs.Values.{value_of-none}
use Rattle.ba_search.proofs.deciding.literal.Goals as goal

pub returns-else-value-clause-free : goal.returns-else-value-clause-free
returns-else-value-clause-free c trail none =
    value_of-none trail (positive c.args.variable) c.negated.result
    (sym (ap (λ (l : Literal). l.variable) (c.negated.ensures ∙ ap negate c.positive-lit.ensures))) none
