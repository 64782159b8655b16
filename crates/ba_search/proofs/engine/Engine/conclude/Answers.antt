use Rattle.ba_search.proofs.AnswerLaws.{empty_core}
use Rattle.ba_search.proofs.engine.Engine.conclude.Goals as goal

pub returns-clause-answer : goal.returns-clause-answer
returns-clause-answer c =
    empty_core c.args.assumptions.now c.args.self.now.watch c.args.self.now.numbers c.args.checker.now
    c.new.result c.from_vec.result c.in_ok-hints.hints.items
    c.requires.underway c.new.ensures c.from_vec.ensures c.in_ok-hints.ensures
    (c.is_spent.ensures.left c.if-is_spent.false)
