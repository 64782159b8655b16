use Rattle.std.proofs.Common.{arith}
use Rattle.ba_words.specs.Words.{number_of}
use Rattle.ba_words.proofs.Shapes.{complement-number}
use Rattle.ba_words.proofs.Values.{flip_value}
use Rattle.ba_words.proofs.bitwise.flip.Goals as goal

pub returns-clause-number : goal.returns-clause-number
returns-clause-number c nodes free =
    complement-number free nodes c.loop-i.word c.args.a.now c.loop-i.invariant.long c.told-a (λ place within. c.loop-i.invariant.places place (omega arith))

pub returns-clause-value : goal.returns-clause-value
returns-clause-value c nodes signed free =
    flip_value signed (number_of free nodes c.args.a.now) (number_of free nodes c.loop-i.word)
    (complement-number free nodes c.loop-i.word c.args.a.now c.loop-i.invariant.long c.told-a (λ place within. c.loop-i.invariant.places place (omega arith)))
