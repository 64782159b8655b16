use Rattle.std.proofs.Common.{◌<◌, ◌^◌, length, arith}
use Rattle.std.proofs.lemmas.Result.{on_ok_weaker}
use Rattle.ba_learn.proofs.MeetLaws.{work_empty}
use Rattle.ba_learn.proofs.resolution.Resolution.start.Goals as goal

pub meet_all-requires-clause-may : goal.meet_all-requires-clause-may
meet_all-requires-clause-may c =
    let s = c.args.watch.now in
    let e = c.begin.ensures in
    let m = c.requires.may in
    let short : length s.trail < 2 ^ 62 = omega (
      arith,
      c.keeps_facts.ensures.trail.short,
      c.variables.ensures.variables,
      c.variables.ensures.below,
    ) in (
      m.0,
      work_empty s c.begin.new.self m.0 short m.1.within (omega (arith, e.floor, m.1.floor_le)) e.seen
          e.pending e.kept e.resolved e.waiting,
      m.1.below,
    )

pub returns-clause-work : goal.returns-clause-work
returns-clause-work c =
    let s = c.args.watch.now in
    let e = c.begin.ensures in
    let short : length s.trail < 2 ^ 62 = omega (
      arith,
      c.keeps_facts.ensures.trail.short,
      c.variables.ensures.variables,
      c.variables.ensures.below,
    ) in
    on_ok_weaker c.meet_all.result
    (λ met high m. met.work high (work_empty s c.begin.new.self high short m.within
    (omega (arith, e.floor, m.floor_le)) e.seen e.pending e.kept e.resolved e.waiting) m.below)
    c.meet_all.ensures
