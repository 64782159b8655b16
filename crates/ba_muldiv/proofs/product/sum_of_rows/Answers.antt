use Rattle.std.proofs.Common.{◌≡◌, ◌+◌, ◌-◌, ◌*◌, ◌%◌, ◌^◌, refl, sym, ap, ◌∙◌, arith, if◌then◌else◌}
use native.Mathlib.Nat.{mod-eq_of_lt}
use Rattle.ba_nodes.specs.Gates.{bool_xor}
use Rattle.ba_nodes.proofs.Truths.{Extends-through, Extends_refl}
use Rattle.ba_words.specs.Words.{number_of}
use Rattle.ba_words.proofs.Carries.{are_bits-replicate, number-zeros}
use Rattle.ba_words.proofs.Circuits.{number_small}
use Rattle.ba_words.proofs.Places.{number_of-extends}
use Rattle.ba_muldiv.proofs.Rows.{rows_first, rows_more, rows_last, digits_more, mod_first}
use Rattle.ba_muldiv.proofs.product.sum_of_rows.Goals as goal

pub loop-i-init : goal.loop-i-init
loop-i-init c =
    record {
      long = refl;
      bits = are_bits-replicate c.args.nodes.now 32 c.constant-sum.result
          (c.constant-sum.ensures.value c.args.nodes.now).is_bit;
      extends = Extends_refl c.args.nodes.now;
      left = λ free factor is.
          let plus : c.args.plus % 2 ^ 32 ≡ c.args.plus = mod-eq_of_lt (omega arith) in
          let minus : c.args.minus % 2 ^ 32 ≡ c.args.minus = mod-eq_of_lt (omega arith) in
          rows_first (number_of free c.args.nodes.now c.args.a.now) _ (c.args.plus % 2 ^ 32) factor
          (c.args.minus % 2 ^ 32)
          (number-zeros free c.args.nodes.now 32 c.constant-sum.result
          ((c.constant-sum.ensures.value c.args.nodes.now).holds free))
          (plus ∙ is ∙ ap (λ n. (factor + n) % 2 ^ 32) (sym minus));
      gates = omega arith;
    }

pub loop-i-preserved : goal.loop-i-preserved
loop-i-preserved c =
    let place : 32 - c.loop-i.i ≡ 31 - c.loop-i.i + 1 = omega arith in
    let next : 32 - (c.loop-i.i + 1) ≡ 31 - c.loop-i.i = omega arith in
    let square : (c.loop-i.i + 1) * (c.loop-i.i + 1) ≡ c.loop-i.i * c.loop-i.i + 2 * c.loop-i.i + 1 = grind
    arith in
    let l = c.loop-i.invariant in
    record {
      long = c.in_ok-sum.ensures.number.long;
      bits = c.in_ok-sum.ensures.number.are_bits;
      extends = Extends-through c.args.nodes.now c.loop-i.nodes c.row.new.nodes l.extends
          c.row.ensures.grows.extends;
      left = λ free factor is.
          let a = number_of free c.args.nodes.now c.args.a.now in
          (λ j. (number_of free c.row.new.nodes c.in_ok-sum.sum + a * (c.args.plus % 2 ^ next j)) % 2 ^ 32)
          ∙ rows_more c.has_one.result c.has_one-in-loop-i.result a
          (number_of free c.loop-i.nodes c.loop-i.sum) (number_of free c.row.new.nodes c.in_ok-sum.sum) _
          (c.args.plus % 2 ^ (32 - c.loop-i.i)) (c.args.plus % 2 ^ (31 - c.loop-i.i))
          (c.args.minus % 2 ^ (32 - c.loop-i.i)) (c.args.minus % 2 ^ (31 - c.loop-i.i)) (2 ^ (31 -
          c.loop-i.i)) factor
          (ap (λ n. if bool_xor c.has_one-in-loop-i.result c.has_one.result then (n * 2 ^ (31 - c.loop-i.i))
          % 2 ^ 32 else 0)
          (number_of-extends free c.args.nodes.now c.loop-i.nodes c.args.a.now l.extends c.requires))
          (c.in_ok-sum.ensures.number.holds free)
          (ap (λ e. c.args.plus % 2 ^ e) place ∙ digits_more c.args.plus (31 - c.loop-i.i) _
          c.has_one.ensures)
          (ap (λ e. c.args.minus % 2 ^ e) place ∙ digits_more c.args.minus (31 - c.loop-i.i) _
          c.has_one-in-loop-i.ensures)
          (l.left free factor is)
          ∙ sym (λ j. (a * factor + a * (c.args.minus % 2 ^ next j)) % 2 ^ 32);
      gates = omega (arith, square, l.gates, c.row.ensures.grows.count);
    }

pub returns-clause-number : goal.returns-clause-number
returns-clause-number c factor is =
    let none : 32 - c.loop-i.i ≡ 0 = omega arith in
    record {
      long = c.loop-i.invariant.long;
      are_bits = c.loop-i.invariant.bits;
      holds = λ free.
          let a = number_of free c.args.nodes.now c.args.a.now in
          rows_last a (number_of free c.loop-i.nodes c.loop-i.sum) factor
          (number_small free c.loop-i.nodes c.loop-i.sum c.loop-i.invariant.long)
          (sym (λ j. (number_of free c.loop-i.nodes c.loop-i.sum
          + a * mod_first c.args.plus (32 - c.loop-i.i) none j) % 2 ^ 32)
          ∙ c.loop-i.invariant.left free factor is
          ∙ (λ j. (a * factor + a * mod_first c.args.minus (32 - c.loop-i.i) none j) % 2 ^ 32));
    }
