use Rattle.std.proofs.Common.{length}
use Rattle.ba_bytes.specs.Pieces.{pieces_of}
use Rattle.ba_inputs.proofs.InputSteps.{Reads}
use Rattle.ba_inputs.proofs.input.numbers_of.Given as goal

-- the whole is what was read and what is left
abbrev pub invariant-loop-piece : goal.invariant-loop-piece
invariant-loop-piece l = Reads (pieces_of l.text) l.pieces l.numbers.items 65536

abbrev pub decreases-loop-piece : goal.decreases-loop-piece
decreases-loop-piece l = length l.pieces
