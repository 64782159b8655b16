use Rattle.std.proofs.Common.{◌≡◌, ◌+◌, ◌-◌, ◌*◌, Bool, true, false, refl, ap, ◌∙◌, arith}
use mir.Val.{bool_byte}
use Rattle.ba_nodes.proofs.Folding.{truth-zero}
use Rattle.ba_words.specs.Words.{bit_at, digit}
use Rattle.ba_words.proofs.Digits.{digit_small}
use Rattle.ba_words.proofs.Places.{power_more}
use Rattle.ba_muldiv.specs.Division.{high_number}
use Rattle.ba_muldiv.proofs.Rows.{high_number_below, high_number-more}
use Rattle.ba_muldiv.proofs.constants.constant_of.Goals as goal

byte-digit : (bit : Bool) → bool_byte bit ≡ digit bit
byte-digit true = refl
byte-digit false = refl

pub loop-i-init : goal.loop-i-init
loop-i-init c = record {
  small = omega arith;
  number = λ nodes free. omega (arith, high_number_below free nodes c.args.word.now 32 0 c.told-word);
}

pub loop-i-preserved : goal.loop-i-preserved
loop-i-preserved c =
    let bit = bit_at c.args.word.now (31 - c.loop-i.i) in
    let from : c.from.result ≡ digit bit.negated = c.from.ensures ∙ byte-digit bit.negated in
    let place : 31 - c.loop-i.i + 1 ≡ 32 - c.loop-i.i = omega arith in
    let next : 32 - (c.loop-i.i + 1) ≡ 31 - c.loop-i.i = omega arith in
    record {
      small = omega (arith, digit_small bit.negated, power_more c.loop-i.i);
      number = λ nodes free.
          ap (high_number free nodes c.args.word.now) next
          ∙ high_number-more free nodes c.args.word.now (31 - c.loop-i.i) (omega (arith, c.told-word))
          ∙ ap (λ t. digit t + 2 * high_number free nodes c.args.word.now (31 - c.loop-i.i + 1))
          (truth-zero free nodes bit c.if-bit-ne0.false)
          ∙ ap (λ n. digit bit.negated + 2 * n) (ap (high_number free nodes c.args.word.now) place ∙
          c.loop-i.invariant.number nodes free)
          ∙ omega arith;
    }
