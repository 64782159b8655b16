use Rattle.ba_search.proofs.AnswerLaws.{jump_level}
use Rattle.ba_search.proofs.engine.Engine.backjump.Goals as goal

pub add-requires-clause-level : goal.add-requires-clause-level
add-requires-clause-level c =
    jump_level c.args.self.now.watch c.backtrack.new.self.watch c.args.learnt.now.lits _
    c.args.learnt.now.back c.keeps_facts.ensures c.requires.backed c.backtrack.ensures.watch
    c.as_slice.ensures
