use Rattle.std.proofs.Common.{◌≡◌, false, List, rules, sym, subst}
use Rattle.ba_lits.specs.Satisfaction.{Soft}
use Rattle.ba_checker.specs.Facts.{IsState}
use Rattle.ba_checker.proofs.StateLaws.{first_state_as}
use Rattle.ba_checker.proofs.checker.Checker.new.Goals as goal

pub invariant_of-result : goal.invariant_of-result
invariant_of-result c =
    let groups_is : c.in_ok-from_slice.field-0.items ≡ c.args.softs.now = search rules in
    let P : List Soft → Type 0 = λ groups. IsState c.variables-variables.result
    c.in_ok-given_clauses.field-0 groups c.in_ok-present_softs.field-0.items 0 c.args.conflicts 0 false in
    subst P (sym groups_is)
    (first_state_as c.args.formula.now.variables c.variables-variables.result c.args.formula.now.clauses
    c.in_ok-present_softs.field-0.items c.args.softs.now c.in_ok-given_clauses.field-0 c.args.conflicts
    c.variables-variables.ensures.variables c.variables-variables.ensures.below
    c.variables-variables.ensures.clauses c.requires.selectors c.in_ok-given_clauses.ensures
    c.in_ok-present_softs.ensures)
