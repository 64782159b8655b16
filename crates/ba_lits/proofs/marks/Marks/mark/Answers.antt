use Rattle.std.proofs.Common.{true, List, Bool, set, ap, ◌∙◌}
use Rattle.ba_lits.proofs.StampLaws.{stamped-set}
use Rattle.ba_lits.proofs.marks.Marks.mark.Goals as goal

pub returns : goal.returns
returns c =
    stamped-set c.self.inside.stamps.items c.self.inside.stamp c.args.place
    ∙ ap (λ (marks : List Bool). set marks c.args.place true) c.self.view_is
