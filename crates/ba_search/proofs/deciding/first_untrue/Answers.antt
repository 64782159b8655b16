use Rattle.std.proofs.Common.{◌≡◌, true, sym, subst}
use Rattle.std.proofs.lemmas.List.{get_or_read}
use Rattle.ba_lits.specs.Literals.{Literal, no_literal}
use Rattle.ba_lits.specs.Hints.{has_literal}
use Rattle.ba_lits.proofs.Members.{has_literal-at}
use Rattle.ba_search.proofs.deciding.first_untrue.Goals as goal

pub returns-then-not-is_true-clause-one : goal.returns-then-not-is_true-clause-one
returns-then-not-is_true-clause-one c =
    subst (λ (l : Literal). has_literal l c.args.assumptions.now ≡ true)
    (sym (get_or_read c.args.assumptions.now c.loop-lit.lit-index c.lit-item.result c.loop-lit-test.true
    c.lit-item.is no_literal))
    (has_literal-at c.args.assumptions.now c.loop-lit.lit-index c.loop-lit-test.true)
