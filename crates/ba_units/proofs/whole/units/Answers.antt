use Rattle.std.proofs.Common.{refl}
use Rattle.ba_units.proofs.UnitSums.{units-is}
use Rattle.ba_units.proofs.whole.units.Goals as goal

pub returns : goal.returns
returns c = units-is _ _ c.main-frame.result (c.main-frame.ensures c.args.program.now) c.args.bounds
    c.as_slice.result.now c.as_slice-2.result.now c.main_body.result.now c.left_after_declarations-left.result
    c.left_after_stmts-left.result c.left_after_stmts-left-2.result c.saturating_sub.result refl refl
    c.as_slice.ensures c.as_slice-2.ensures c.main_body.ensures c.left_after_declarations-left.ensures
    c.left_after_stmts-left.ensures c.left_after_stmts-left-2.ensures c.saturating_sub.ensures
