use Rattle.std.proofs.Common.{refl}
use Rattle.ba_checker.proofs.CutLaws.{start_at}
use Rattle.ba_checker.proofs.store.start.Goals as goal

pub returns-else-place-eq0 : goal.returns-else-place-eq0
returns-else-place-eq0 c = start_at c.args.ends.now c.args.place _ c.if-place-eq0.false c.requires refl
