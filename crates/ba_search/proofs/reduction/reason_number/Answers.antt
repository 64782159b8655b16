use Rattle.std.proofs.Common.{Some}
use Rattle.ba_search.proofs.ReasonLaws.{reason_is_live, read_any}
use Rattle.ba_search.proofs.reduction.reason_number.Goals as goal

pub number-requires : goal.number-requires
number-requires c =
    reason_is_live c.args.watch.now c.arena.result.now c.args.place c.in-Some.clause c.keeps_facts.ensures
    c.arena.ensures c.requires
    (read_any c.args.watch.now.reasons c.reasons.result.now c.args.place _ (Some c.in-Some.clause)
    c.reasons.ensures c.requires c.in-Some.is)
