use Rattle.ba_checker.proofs.ListedLaws.{first_found, rest_found}
use Rattle.ba_checker.proofs.clauses.Clauses.holds_part.Goals as goal

pub returns-then-lists_part : goal.returns-then-lists_part
returns-then-lists_part c =
    first_found c.self.inside.index c.self.inside.store c.args.self.now c.args.lits.now c.args.set.now
    c.lists_part.result c.self.invariant c.self.view_is c.requires c.lists_part.ensures
    c.if-lists_part.true

pub returns-else-lists_part : goal.returns-else-lists_part
returns-else-lists_part c =
    rest_found c.self.inside.index c.self.inside.store c.args.self.now c.args.lits.now c.args.set.now
    c.lists_part.result c.lists_any.result c.self.invariant c.self.view_is c.requires
    c.lists_part.ensures c.if-lists_part.false c.lists_any.ensures
