use Rattle.std.proofs.Common.{rules, SFits, w64, to_z-of_z, arith}
use Rattle.ba_inputs.proofs.PieceCounts.{length-pieces_of}
use Rattle.ba_inputs.proofs.InputSteps.{reads-none, reads-next}
use Rattle.ba_inputs.proofs.input.numbers_of.Goals as goal

pub loop-piece-init : goal.loop-piece-init
loop-piece-init c = reads-none _ c.new-pieces.result c.new-numbers.result.items 65536 c.new-pieces.ensures
    c.new-numbers.ensures.items (omega (arith, length-pieces_of c.args.text.now))

pub loop-piece-preserved : goal.loop-piece-preserved
loop-piece-preserved c =
    let fits : SFits w64 c.in-Some-decimal.number = search rules in
    reads-next _ c.loop-piece.pieces c.next_piece.new.self c.loop-piece.numbers.items c.push.new.self.items
    65536
    c.in-Some.piece.now c.in-Some-decimal.number _ c.loop-piece.invariant c.in-Some.ensures
    c.in-Some-decimal.ensures
    (to_z-of_z fits) c.in_ok-push.ensures.items
