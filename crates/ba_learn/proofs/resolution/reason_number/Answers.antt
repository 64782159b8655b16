use Rattle.std.proofs.Common.{◌<◌, length, arith}
use Rattle.ba_learn.proofs.ReasonLaws.{live_in, reason_live, some_within}
use Rattle.ba_learn.proofs.resolution.reason_number.Goals as goal

pub number-requires : goal.number-requires
number-requires c =
    let s = c.args.watch.now in
    let within : c.args.place < length s.trail = omega
    (arith, some_within s.reasons c.args.place c.requires, c.keeps_facts.ensures.trail.same_length) in
    live_in c.arena.result.now s.clauses c.reason_at-reason.result c.arena.ensures
    (reason_live s c.args.place c.reason_at-reason.result c.keeps_facts.ensures within
    c.reason_at-reason.ensures)
