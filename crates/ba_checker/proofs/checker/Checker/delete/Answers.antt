use Rattle.std.proofs.Common.{sym, ◌∙◌}
use Rattle.ba_checker.proofs.StateLaws.{deleted_state}
use Rattle.ba_checker.proofs.checker.Checker.delete.Goals as goal

pub invariant_of-self : goal.invariant_of-self
invariant_of-self c =
    let i = c.self.inside in
    deleted_state i.variables i.clauses c.delete.new.self i.groups.items i.softs.items i.conflicts i.budget
    i.learnt i.refused c.args.numbers.now c.self.invariant
    (sym c.may_all_go.ensures ∙ c.if-not-may_all_go.false) c.delete.ensures
