use Rattle.ba_checker.proofs.ListedLaws.{AreListed-deleted}
use Rattle.ba_checker.proofs.clauses.Clauses.delete.Goals as goal

pub relist-requires : goal.relist-requires
relist-requires c =
    AreListed-deleted c.self.inside.index c.self.inside.store c.delete_all.new.self c.args.numbers.now
    c.self.invariant c.delete_all.ensures
