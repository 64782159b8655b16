use Rattle.std.proofs.Common.{◌-◌, ap, arith, refl}
use Rattle.ba_watch.specs.Propagation.{State as Watching}
use Rattle.ba_search.proofs.UnderwayLaws.{underway_back, underway_moved}
use Rattle.ba_search.proofs.IterationLaws.{backtrack_less}
use Rattle.ba_search.proofs.engine.Engine.leave.Goals as goal

pub returns-clause-underway : goal.returns-clause-underway
returns-clause-underway c assumptions checker u =
    underway_moved assumptions c.backtrack.new.self.watch c.backtrack.new.self.watch c.args.self.now.numbers
    c.backtrack.new.self.numbers checker refl c.backtrack.ensures.numbers
    (underway_back assumptions c.args.self.now.watch c.backtrack.new.self.watch c.args.self.now.numbers
    checker c.args.level c.backtrack.ensures.watch u)

pub returns-clause-less : goal.returns-clause-less
returns-clause-less c checker =
    backtrack_less checker checker c.args.self.now.watch c.backtrack.new.self.watch
    c.args.self.now.backtracks_left (c.backtrack.new.self.backtracks_left - 1)
    (ap (λ (x : Watching). x.variables) c.backtrack.ensures.watch)
    (omega (arith, c.requires.left, c.backtrack.ensures.learns_nothing.backtracks)) refl refl
