use Rattle.std.proofs.Common.{◌-◌, ◌<◌, ◌∙◌, arith}
use Rattle.ba_nodes.proofs.Folding.{truth-zero}
use Rattle.ba_words.specs.Words.{bit_at}
use Rattle.ba_muldiv.proofs.Rows.{number_positive}
use Rattle.ba_muldiv.proofs.division.known_width.Goals as goal

pub returns-then-highest-clause-some : goal.returns-then-highest-clause-some
returns-then-highest-clause-some c below nodes free =
    let place : c.width_of-places.result - 1 < 32 = omega (arith, below) in
    number_positive free nodes c.args.word.now (c.width_of-places.result - 1) c.told-word place
    (truth-zero free nodes (bit_at c.args.word.now (c.width_of-places.result - 1)) c.if-highest-eq0.true
    ∙ c.if-highest.true)
