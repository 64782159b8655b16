use Rattle.std.proofs.Common.{false, not, refl}
use Rattle.ba_bits.proofs.Computing.{both_ok, ge-value, given-number, given-shift, given-truth, given-value, gt-value, le-value, ne-value}
use Rattle.ba_bits.proofs.Quotients.{quotient-low, remainder-low}
use Rattle.ba_nodes.specs.Gates.{truth}
use Rattle.ba_numbers.specs.declared.numbers.BinOp.TheVariants.{Mul, Div, Rem, Add, Sub, Shl, Shr, Lt, Le, Gt, Ge, Eq, Ne, And, Xor, Or}
use Rattle.ba_words.specs.Words.{number_of, word_type}
use Rattle.ba_words.proofs.Circuits.{number_small}
use Rattle.ba_words.proofs.Outcomes.{on_ok}
use Rattle.ba_words.proofs.Values.{read}
use Rattle.ba_bits.proofs.operators.binary.Goals as goal

pub returns-in-Mul-clause-value : goal.returns-in-Mul-clause-value
returns-in-Mul-clause-value c =
    both_ok c.mul.result _ _ _
    (λ word has found. given-value c.args.nodes.now c.args.a.now c.args.b.now c.args.op Mul c.args.t
    c.is_signed-signed.result c.in-Mul.is c.is_signed-signed.ensures
    c.mul.new.nodes word _ refl has (found c.is_signed-signed.result))
    c.mul.ensures.computes.number c.mul.ensures.value

pub returns-in-Add-clause-value : goal.returns-in-Add-clause-value
returns-in-Add-clause-value c =
    both_ok c.add.result _ _ _
    (λ word has found. given-value c.args.nodes.now c.args.a.now c.args.b.now c.args.op Add c.args.t
    c.is_signed-signed.result c.in-Add.is c.is_signed-signed.ensures
    c.add.new.nodes word _ refl has (found c.is_signed-signed.result))
    c.add.ensures.computes.number c.add.ensures.value

pub returns-in-Sub-clause-value : goal.returns-in-Sub-clause-value
returns-in-Sub-clause-value c =
    both_ok c.sub.result _ _ _
    (λ word has found. given-value c.args.nodes.now c.args.a.now c.args.b.now c.args.op Sub c.args.t
    c.is_signed-signed.result c.in-Sub.is c.is_signed-signed.ensures
    c.sub.new.nodes word _ refl has (found c.is_signed-signed.result))
    c.sub.ensures.computes.number c.sub.ensures.value

pub returns-in-And-clause-value : goal.returns-in-And-clause-value
returns-in-And-clause-value c =
    both_ok c.bit_and.result _ _ _
    (λ word has found. given-value c.args.nodes.now c.args.a.now c.args.b.now c.args.op And c.args.t
    c.is_signed-signed.result c.in-And.is c.is_signed-signed.ensures
    c.bit_and.new.nodes word _ refl has (found c.is_signed-signed.result))
    c.bit_and.ensures.computes.number c.bit_and.ensures.value

pub returns-in-Xor-clause-value : goal.returns-in-Xor-clause-value
returns-in-Xor-clause-value c =
    both_ok c.bit_xor.result _ _ _
    (λ word has found. given-value c.args.nodes.now c.args.a.now c.args.b.now c.args.op Xor c.args.t
    c.is_signed-signed.result c.in-Xor.is c.is_signed-signed.ensures
    c.bit_xor.new.nodes word _ refl has (found c.is_signed-signed.result))
    c.bit_xor.ensures.computes.number c.bit_xor.ensures.value

pub returns-in-Or-clause-value : goal.returns-in-Or-clause-value
returns-in-Or-clause-value c =
    both_ok c.bit_or.result _ _ _
    (λ word has found. given-value c.args.nodes.now c.args.a.now c.args.b.now c.args.op Or c.args.t
    c.is_signed-signed.result c.in-Or.is c.is_signed-signed.ensures
    c.bit_or.new.nodes word _ refl has (found c.is_signed-signed.result))
    c.bit_or.ensures.computes.number c.bit_or.ensures.value

pub returns-in-Div-clause-value : goal.returns-in-Div-clause-value
returns-in-Div-clause-value c =
    on_ok c.div.result _ _
    (λ word has. given-number c.args.nodes.now c.args.a.now c.args.b.now c.args.op Div c.args.t
    c.is_signed-signed.result c.in-Div.is c.is_signed-signed.ensures
    c.div.new.nodes word _
    (λ free. quotient-low c.is_signed-signed.result (number_of free c.args.nodes.now c.args.a.now)
    (number_of free c.args.nodes.now c.args.b.now)
    (number_small free c.args.nodes.now c.args.a.now c.told-a)
    (number_small free c.args.nodes.now c.args.b.now c.told-b))
    has)
    c.div.ensures.makes.number

pub returns-in-Rem-clause-value : goal.returns-in-Rem-clause-value
returns-in-Rem-clause-value c =
    on_ok c.rem.result _ _
    (λ word has. given-number c.args.nodes.now c.args.a.now c.args.b.now c.args.op Rem c.args.t
    c.is_signed-signed.result c.in-Rem.is c.is_signed-signed.ensures
    c.rem.new.nodes word _
    (λ free. remainder-low c.is_signed-signed.result (number_of free c.args.nodes.now c.args.a.now)
    (number_of free c.args.nodes.now c.args.b.now)
    (number_small free c.args.nodes.now c.args.a.now c.told-a)
    (number_small free c.args.nodes.now c.args.b.now c.told-b))
    has)
    c.rem.ensures.makes.number

pub returns-in-Shl-clause-value : goal.returns-in-Shl-clause-value
returns-in-Shl-clause-value c =
    both_ok c.shl.result _ _ _
    (λ word has found. given-shift c.args.nodes.now c.args.a.now c.args.b.now c.args.op Shl c.args.t
    c.is_signed-signed.result c.in-Shl.is c.is_signed-signed.ensures
    c.shl.new.nodes word _ refl c.told-b has (found c.is_signed-signed.result false))
    c.shl.ensures.makes.number c.shl.ensures.value

pub returns-in-Shr-clause-value : goal.returns-in-Shr-clause-value
returns-in-Shr-clause-value c =
    both_ok c.shr.result _ _ _
    (λ word has found. given-shift c.args.nodes.now c.args.a.now c.args.b.now c.args.op Shr c.args.t
    c.is_signed-signed.result c.in-Shr.is c.is_signed-signed.ensures
    c.shr.new.nodes word _ refl c.told-b has (found false))
    c.shr.ensures.makes.number c.shr.ensures.value

pub returns-in_ok-below-in-Lt-clause-value : goal.returns-in_ok-below-in-Lt-clause-value
returns-in_ok-below-in-Lt-clause-value c =
    given-truth c.args.nodes.now c.args.a.now c.args.b.now c.args.op Lt c.args.t c.is_signed-signed.result
    c.in-Lt.is c.is_signed-signed.ensures
    c.less.new.nodes c.truth_word.result (λ free. truth free c.less.new.nodes c.in_ok-below-in-Lt.below) refl
    (c.truth_word.ensures c.less.new.nodes c.in_ok-below-in-Lt.ensures.bit)
    (λ free. c.in_ok-below-in-Lt.ensures.value free)

pub returns-in_ok-above-in-Gt-clause-value : goal.returns-in_ok-above-in-Gt-clause-value
returns-in_ok-above-in-Gt-clause-value c =
    given-truth c.args.nodes.now c.args.a.now c.args.b.now c.args.op Gt c.args.t c.is_signed-signed.result
    c.in-Gt.is c.is_signed-signed.ensures
    c.less-in-Gt.new.nodes c.truth_word-in-Gt.result
    (λ free. truth free c.less-in-Gt.new.nodes c.in_ok-above-in-Gt.above) refl
    (c.truth_word-in-Gt.ensures c.less-in-Gt.new.nodes c.in_ok-above-in-Gt.ensures.bit)
    (λ free. gt-value (word_type c.is_signed-signed.result)
    (read c.is_signed-signed.result (number_of free c.args.nodes.now c.args.a.now))
    (read c.is_signed-signed.result (number_of free c.args.nodes.now c.args.b.now)) _
    (c.in_ok-above-in-Gt.ensures.value free))

pub returns-in_ok-lower-in-Ge-clause-value : goal.returns-in_ok-lower-in-Ge-clause-value
returns-in_ok-lower-in-Ge-clause-value c =
    given-truth c.args.nodes.now c.args.a.now c.args.b.now c.args.op Ge c.args.t c.is_signed-signed.result
    c.in-Ge.is c.is_signed-signed.ensures
    c.less-in-Ge.new.nodes c.negated_word.result
    (λ free. not (truth free c.less-in-Ge.new.nodes c.in_ok-lower-in-Ge.lower)) refl
    (c.negated_word.ensures c.less-in-Ge.new.nodes c.in_ok-lower-in-Ge.ensures.bit)
    (λ free. ge-value (word_type c.is_signed-signed.result)
    (read c.is_signed-signed.result (number_of free c.args.nodes.now c.args.a.now))
    (read c.is_signed-signed.result (number_of free c.args.nodes.now c.args.b.now)) _
    (c.in_ok-lower-in-Ge.ensures.value free))

pub returns-in_ok-higher-in-Le-clause-value : goal.returns-in_ok-higher-in-Le-clause-value
returns-in_ok-higher-in-Le-clause-value c =
    given-truth c.args.nodes.now c.args.a.now c.args.b.now c.args.op Le c.args.t c.is_signed-signed.result
    c.in-Le.is c.is_signed-signed.ensures
    c.less-in-Le.new.nodes c.negated_word-in-Le.result
    (λ free. not (truth free c.less-in-Le.new.nodes c.in_ok-higher-in-Le.higher)) refl
    (c.negated_word-in-Le.ensures c.less-in-Le.new.nodes c.in_ok-higher-in-Le.ensures.bit)
    (λ free. le-value (word_type c.is_signed-signed.result)
    (read c.is_signed-signed.result (number_of free c.args.nodes.now c.args.a.now))
    (read c.is_signed-signed.result (number_of free c.args.nodes.now c.args.b.now)) _
    (c.in_ok-higher-in-Le.ensures.value free))

pub returns-in_ok-same-in-Eq-clause-value : goal.returns-in_ok-same-in-Eq-clause-value
returns-in_ok-same-in-Eq-clause-value c =
    given-truth c.args.nodes.now c.args.a.now c.args.b.now c.args.op Eq c.args.t c.is_signed-signed.result
    c.in-Eq.is c.is_signed-signed.ensures
    c.equal.new.nodes c.truth_word-in-Eq.result
    (λ free. truth free c.equal.new.nodes c.in_ok-same-in-Eq.same) refl
    (c.truth_word-in-Eq.ensures c.equal.new.nodes c.in_ok-same-in-Eq.ensures.makes.value.is_bit)
    (λ free. c.in_ok-same-in-Eq.ensures.value c.is_signed-signed.result free)

pub returns-in_ok-alike-in-Ne-clause-value : goal.returns-in_ok-alike-in-Ne-clause-value
returns-in_ok-alike-in-Ne-clause-value c =
    given-truth c.args.nodes.now c.args.a.now c.args.b.now c.args.op Ne c.args.t c.is_signed-signed.result
    c.in-Ne.is c.is_signed-signed.ensures
    c.equal-in-Ne.new.nodes c.negated_word-in-Ne.result
    (λ free. not (truth free c.equal-in-Ne.new.nodes c.in_ok-alike-in-Ne.alike)) refl
    (c.negated_word-in-Ne.ensures c.equal-in-Ne.new.nodes c.in_ok-alike-in-Ne.ensures.makes.value.is_bit)
    (λ free. ne-value (word_type c.is_signed-signed.result)
    (read c.is_signed-signed.result (number_of free c.args.nodes.now c.args.a.now))
    (read c.is_signed-signed.result (number_of free c.args.nodes.now c.args.b.now)) _
    (c.in_ok-alike-in-Ne.ensures.value c.is_signed-signed.result free))
