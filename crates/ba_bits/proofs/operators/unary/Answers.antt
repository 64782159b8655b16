use Rattle.std.proofs.Common.{not}
use Rattle.ba_bits.proofs.Computing.{both_ok, given-one, given-test}
use Rattle.ba_nodes.specs.Gates.{truth}
use Rattle.ba_numbers.specs.declared.numbers.UnOp.TheVariants.{Neg, Flip, IsZero}
use Rattle.ba_bits.proofs.operators.unary.Goals as goal

pub returns-in-Neg-clause-value : goal.returns-in-Neg-clause-value
returns-in-Neg-clause-value c =
    both_ok c.neg.result _ _ _
    (λ word has found. given-one c.args.nodes.now c.args.a.now c.args.op Neg c.args.t c.in-Neg.is
    c.requires.promoted
    c.neg.new.nodes word has.long has.are_bits found)
    c.neg.ensures.makes.number c.neg.ensures.value

pub returns-in-Flip-clause-value : goal.returns-in-Flip-clause-value
returns-in-Flip-clause-value c =
    given-one c.args.nodes.now c.args.a.now c.args.op Flip c.args.t c.in-Flip.is c.requires.promoted
    c.args.nodes.now c.flip.result c.flip.ensures.long
    (c.flip.ensures.bits c.args.nodes.now c.requires.operand)
    (λ signed. c.flip.ensures.value c.args.nodes.now signed)

pub returns-in_ok-some-in-IsZero-clause-value : goal.returns-in_ok-some-in-IsZero-clause-value
returns-in_ok-some-in-IsZero-clause-value c =
    given-test c.args.nodes.now c.args.a.now c.args.op IsZero c.args.t c.in-IsZero.is c.requires.promoted
    c.nonzero.new.nodes c.negated_word.result
    (λ free. not (truth free c.nonzero.new.nodes c.in_ok-some-in-IsZero.some))
    (c.negated_word.ensures c.nonzero.new.nodes c.in_ok-some-in-IsZero.ensures.makes.value.is_bit)
    c.in_ok-some-in-IsZero.ensures.value
