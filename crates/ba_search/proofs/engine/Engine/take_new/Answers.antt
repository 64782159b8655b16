use Rattle.ba_search.proofs.UnderwayLaws.{back_level_none}
use Rattle.ba_search.proofs.engine.Engine.take_new.Goals as goal

pub take_all-requires-clause-level : goal.take_all-requires-clause-level
take_all-requires-clause-level c = back_level_none c.grow.new.self.watch c.backtrack.new.self.watch
    c.backtrack.ensures.watch
