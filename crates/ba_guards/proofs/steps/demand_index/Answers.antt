use Rattle.std.proofs.Common.{SFits, w64, to_z, of_z, to_z-of_z, rules, ◌∙◌}
use Rattle.ba_guards.proofs.Stores.{index-by}
use Rattle.ba_guards.proofs.steps.demand_index.Goals as goal

pub returns : goal.returns
returns c = λ d halt fits below few.
    let fits_count : SFits w64 c.from.result = search rules in
    index-by d c.args.b.now _ c.args.count c.args.index c.in_ok-limit.limit c.in_ok-below.below
    c.constant.new.self c.binary.new.self
    (to_z w64 (of_z w64 c.from.result)) halt fits below few (to_z-of_z fits_count ∙ c.from.ensures)
    c.in_ok-limit.ensures
    c.in_ok-below.ensures c.in_ok-demand.ensures
