use Rattle.ba_checker.specs.States.{kept}
use Rattle.ba_checker.proofs.ListedLaws.{AreListed-added, after_ok}
use Rattle.ba_checker.proofs.clauses.Clauses.add.Goals as goal

pub invariant_of-self-else-is_err : goal.invariant_of-self-else-is_err
invariant_of-self-else-is_err c =
    AreListed-added c.self.inside.index c.push.new.self c.self.inside.store c.add.new.self
    c.choose_keys.result (kept c.args.origin c.args.lits.now) c.self.invariant c.in_ok-push.ensures.ok
    (after_ok c.add.result c.is_err.result c.is_err.ensures.value c.if-is_err.false c.add.ensures.ok)
    c.choose_keys.ensures
