use Rattle.std.proofs.Common.{◌≡◌, ◌*◌, ◌%◌, ◌^◌, false, ap, ◌∙◌, arith}
use Rattle.ba_nodes.specs.Gates.{truth}
use Rattle.ba_nodes.proofs.Truths.{truth-constant}
use Rattle.ba_words.specs.Words.{digit, number_of, bit_at}
use Rattle.ba_words.proofs.Digits.{digit_small}
use Rattle.ba_words.proofs.Shapes.{moved_up-number}
use Rattle.ba_muldiv.proofs.Rows.{number-set_first}
use Rattle.ba_muldiv.proofs.Steps.{brought}
use Rattle.ba_muldiv.proofs.division.brought_down.Goals as goal

pub returns-clause-number : goal.returns-clause-number
returns-clause-number c nodes free =
    let moved : number_of free nodes c.moved_up-down.result
    ≡ (number_of free nodes c.args.word.now * 2 ^ 1) % 2 ^ 32 =
    moved_up-number free nodes c.moved_up-down.result c.args.word.now 1 (omega arith)
    c.moved_up-down.ensures.long c.told-word c.moved_up-down.ensures.places in
    let none : truth free nodes (bit_at c.moved_up-down.result 0) ≡ false =
    ap (truth free nodes) (c.moved_up-down.ensures.places 0 (omega arith))
    ∙ truth-constant free nodes false in
    number-set_first free nodes c.moved_up-down.result c.args.bit
    (omega (arith, c.moved_up-down.ensures.long)) none
    ∙ brought (number_of free nodes c.args.word.now) (number_of free nodes c.moved_up-down.result)
    (digit (truth free nodes c.args.bit)) moved (digit_small (truth free nodes c.args.bit))
