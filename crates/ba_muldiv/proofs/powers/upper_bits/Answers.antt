use Rattle.std.proofs.Common.{◌≡◌, ◌+◌, ◌-◌, nat_lt, false, refl, sym, ap, ◌∙◌, arith, if◌then◌else◌}
use Rattle.std.proofs.lemmas.Bool.Decides.{nat_tests}
use Rattle.ba_nodes.specs.Gates.{constant_bit}
use Rattle.ba_nodes.proofs.Truths.{truth-constant}
use Rattle.ba_words.specs.Words.{bit_at}
use Rattle.ba_words.proofs.Carries.{are_bits-replicate}
use Rattle.ba_words.proofs.Shapes.{moved_down-number}
use Rattle.ba_muldiv.proofs.Rows.{zeros-places}
use Rattle.ba_muldiv.proofs.powers.upper_bits.Goals as goal

pub loop-i-init : goal.loop-i-init
loop-i-init c = record {
  long = refl;
  bits = λ nodes bits. are_bits-replicate nodes 32 c.constant-upper.result (c.constant-upper.ensures.value
      nodes).is_bit;
  places = λ place within.
      let none : nat_lt place (c.args.from - c.args.from) ≡ false = grind (arith, nat_tests) in
      zeros-places 32 place c.constant-upper.result c.constant-upper.ensures.bit
      ∙ sym (ap (λ t. if t then bit_at c.args.word.now (place + c.args.from) else constant_bit false) none);
}

pub returns-clause-number : goal.returns-clause-number
returns-clause-number c nodes free =
    let all : c.loop-i.i ≡ 32 = omega arith in
    moved_down-number free nodes c.loop-i.upper c.args.word.now c.args.from false (omega arith)
    c.loop-i.invariant.long c.told-word (constant_bit false) (truth-constant free nodes false)
    (λ place within.
    c.loop-i.invariant.places place within
    ∙ ap (λ i. if nat_lt place (i - c.args.from) then bit_at c.args.word.now (place + c.args.from) else
    constant_bit false) all)
    ∙ omega arith
