use Rattle.std.proofs.Common.{false, List, Bool, get_or, ap, ◌∙◌}
use Rattle.ba_lits.proofs.StampLaws.{stamped-longer}
use Rattle.ba_lits.proofs.marks.Marks.grow.Goals as goal

pub returns-clause-same : goal.returns-clause-same
returns-clause-same c = λ place.
    stamped-longer c.self.inside.stamps.items c.fill_up.new.items.items c.self.inside.stamp place c.self.invariant.0
    c.fill_up.ensures.same
    ∙ ap (λ (marks : List Bool). get_or marks place false) c.self.view_is
