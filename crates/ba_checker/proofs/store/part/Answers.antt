use Rattle.std.proofs.Common.{arith, length}
use Rattle.ba_checker.proofs.CutLaws.{start_of-le, end_within}
use Rattle.ba_checker.proofs.store.part.Goals as goal

pub between-requires-clause-ascends : goal.between-requires-clause-ascends
between-requires-clause-ascends c =
    let le = start_of-le (length c.args.lits.now) 0 c.args.ends.now c.args.place 0 c.requires.cut
    c.requires.within in
    omega (arith, le, c.start.ensures)

pub between-requires-clause-within : goal.between-requires-clause-within
between-requires-clause-within c = end_within (length c.args.lits.now) 0 c.args.ends.now c.args.place 0
    c.requires.cut c.requires.within
