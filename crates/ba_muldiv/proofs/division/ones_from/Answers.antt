use Rattle.std.proofs.Common.{◌≡◌, ◌+◌, ◌-◌, ◌^◌, nat_le, set, false, inl, inr, refl, sym, ap, subst, ◌∙◌, arith}
use Rattle.std.proofs.lemmas.Bool.{cases_eq}
use Rattle.std.proofs.lemmas.List.{get_or-set_same, get_or-set_other, length-set}
use Rattle.ba_nodes.specs.Gates.{truth, constant_bit, HasValue}
use Rattle.ba_nodes.proofs.Truths.{Grows-through, Grows_refl}
use Rattle.ba_words.specs.Words.{number_of, bit_at}
use Rattle.ba_words.proofs.Circuits.{HasValue-extends, HasValue-same, number_small}
use Rattle.ba_muldiv.proofs.Bounds.{none_past, ones_later}
use Rattle.ba_muldiv.proofs.Rows.{wider_more}
use Rattle.ba_muldiv.proofs.Steps.{le_false}
use Rattle.ba_muldiv.proofs.division.ones_from.Goals as goal

pub loop-i-init : goal.loop-i-init
loop-i-init c = record {
  grows = Grows_refl c.args.nodes.now _;
  value = HasValue-same c.args.nodes.now c.constant-some.result _ _
      (c.constant-some.ensures.value c.args.nodes.now)
      (λ free. sym (le_false (2 ^ 32) (number_of free c.args.nodes.now c.args.word.now)
      (number_small free c.args.nodes.now c.args.word.now c.told-word)));
  long = refl;
  ones = λ place from within.
      none_past c.args.nodes.now c.args.word.now c.constant-some.result place c.told-word (omega arith);
}

pub loop-i-preserved : goal.loop-i-preserved
loop-i-preserved c =
    let place : 31 - c.loop-i.i + 1 ≡ 32 - c.loop-i.i = omega arith in
    let next : 32 - (c.loop-i.i + 1) ≡ 31 - c.loop-i.i = omega arith in
    let l = c.loop-i.invariant in
    let value : HasValue c.or.new.self c.in_ok-some.some
    (λ free. nat_le (2 ^ (31 - c.loop-i.i)) (number_of free c.args.nodes.now c.args.word.now)) =
    HasValue-same c.or.new.self c.in_ok-some.some _ _ c.in_ok-some.ensures.makes.value (λ free.
    wider_more free c.args.nodes.now c.loop-i.nodes c.args.word.now (31 - c.loop-i.i)
    (truth free c.loop-i.nodes c.loop-i.some) c.told-word c.requires
    l.grows.extends (omega arith) (l.value.holds free ∙ ap (λ e. nat_le (2 ^ e)
    (number_of free c.args.nodes.now c.args.word.now)) (sym place))) in
    record {
      grows = Grows-through c.args.nodes.now c.loop-i.nodes c.or.new.self l.grows c.or.ensures.makes.grows
          (omega arith);
      value = HasValue-same c.or.new.self c.in_ok-some.some _ _ value
          (λ free. ap (λ e. nat_le (2 ^ e) (number_of free c.args.nodes.now c.args.word.now)) (sym next));
      long = length-set c.loop-i.above (31 - c.loop-i.i) c.in_ok-some.some ∙ l.long;
      ones = λ k from within.
          elim (cases_eq k (31 - c.loop-i.i)) [
            | inl here ↦
                subst (λ k. HasValue c.or.new.self (bit_at (set c.loop-i.above (31 - c.loop-i.i)
                c.in_ok-some.some) k)
                (λ free. nat_le (2 ^ k) (number_of free c.args.nodes.now c.args.word.now))) (sym here)
                (subst (λ b. HasValue c.or.new.self b
                (λ free. nat_le (2 ^ (31 - c.loop-i.i)) (number_of free c.args.nodes.now c.args.word.now)))
                (sym (get_or-set_same c.loop-i.above (31 - c.loop-i.i) c.in_ok-some.some (constant_bit false)
                (omega (arith, l.long)))) value)
            | inr apart ↦
                subst (λ b. HasValue c.or.new.self b
                (λ free. nat_le (2 ^ k) (number_of free c.args.nodes.now c.args.word.now)))
                (sym (get_or-set_other c.loop-i.above (31 - c.loop-i.i) k c.in_ok-some.some (constant_bit
                false) apart))
                (HasValue-extends c.loop-i.nodes c.or.new.self (bit_at c.loop-i.above k) _
                c.or.ensures.makes.grows.extends (l.ones k (omega arith) within))
          ];
    }

pub returns-clause-value : goal.returns-clause-value
returns-clause-value c =
    ones_later c.args.nodes.now c.loop-i.nodes c.args.word.now c.loop-i.above c.loop-i.invariant.grows.extends
    c.requires
    (λ place within. c.loop-i.invariant.ones place (omega arith) within)
