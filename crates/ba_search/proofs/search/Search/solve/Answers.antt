use Rattle.std.proofs.Common.{subst}
use Rattle.ba_search.specs.Searching.{Leaves, Searching}
use Rattle.ba_search.proofs.StepLaws.{leaves_none}
use Rattle.ba_search.proofs.search.Search.solve.Goals as goal

pub returns-in-Some-clause-leaves : goal.returns-in-Some-clause-leaves
returns-in-Some-clause-leaves g c = leaves_none (g.R.SearchRules.keeping c.args.self.now.rules)
    (g.L.ProofLog.log c.args.log.now) c.args.self.now.learnt

pub returns-clause-leaves : goal.returns-clause-leaves
returns-clause-leaves g c =
    subst (λ (s : Searching g.row.R.Denot). Leaves (g.R.SearchRules.keeping s.rules) s.learnt
    (g.L.ProofLog.log c.args.log.now) (g.L.ProofLog.log c.search-result.new.log))
    c.self.view_is c.search-result.ensures.leaves
