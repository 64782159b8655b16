use Rattle.ba_search.proofs.UnderwayLaws.{underway_extends}
use Rattle.ba_search.proofs.IterationLaws.{extends_less}
use Rattle.ba_search.proofs.engine.Engine.propagate.Goals as goal

pub returns-clause-underway : goal.returns-clause-underway
returns-clause-underway c assumptions checker u =
    underway_extends assumptions c.args.self.now.watch c.propagate-conflict.new.self c.args.self.now.numbers
    checker c.keeps_facts.ensures c.keeps_facts-2.ensures c.propagate-conflict.ensures.extends u

pub returns-clause-less : goal.returns-clause-less
returns-clause-less c checker =
    extends_less checker c.args.self.now.watch c.propagate-conflict.new.self c.args.self.now.backtracks_left
    c.propagate-conflict.ensures.extends
