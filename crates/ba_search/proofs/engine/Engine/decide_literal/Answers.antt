use Rattle.ba_search.proofs.UnderwayLaws.{underway_decide}
use Rattle.ba_search.proofs.IterationLaws.{decide_less}
use Rattle.ba_search.proofs.engine.Engine.decide_literal.Goals as goal

pub returns-clause-underway : goal.returns-clause-underway
returns-clause-underway c assumptions checker choice u =
    underway_decide assumptions c.args.self.now.watch c.decide.new.self c.args.self.now.numbers checker
    c.args.lit c.keeps_facts.ensures c.decide.ensures choice u

pub returns-clause-less : goal.returns-clause-less
returns-clause-less c checker =
    decide_less checker c.args.self.now.watch c.decide.new.self c.args.self.now.backtracks_left c.args.lit
    c.keeps_facts-2.ensures c.decide.ensures
