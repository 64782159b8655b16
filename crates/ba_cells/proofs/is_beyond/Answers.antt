use Rattle.std.proofs.Common.{◌<◌, ◌||◌, nat_lt, length, sym, ap, ◌∙◌, arith}
use Rattle.ba_nodes.specs.Gates.{truth}
use Rattle.ba_nodes.proofs.Truths.{Grows-through, Grows_refl}
use Rattle.ba_words.specs.Words.{bit_at, low_number}
use Rattle.ba_words.proofs.Circuits.{HasValue-same, argument-more}
use Rattle.ba_cells.proofs.Writes.{beyond_step, never_below, low_number-grows}
use Rattle.ba_cells.proofs.is_beyond.Goals as goal

pub loop-i-init : goal.loop-i-init
loop-i-init c = record {
  grows = Grows_refl c.args.nodes.now _;
  value = HasValue-same c.args.nodes.now c.constant-some.result _ _
      (c.constant-some.ensures.value c.args.nodes.now)
      (λ free. sym (never_below (low_number free c.args.nodes.now c.args.index.now 8)));
}

pub loop-i-preserved : goal.loop-i-preserved
loop-i-preserved c = record {
  grows = Grows-through c.args.nodes.now c.loop-i.nodes c.or.new.self c.loop-i.invariant.grows
      c.or.ensures.makes.grows (omega arith);
  value = HasValue-same c.or.new.self c.in_ok-some.some _ _ c.in_ok-some.ensures.makes.value
      (λ free.
      let within : c.loop-i.i < length c.args.index.now = omega arith in
      ap (λ t. t || truth free c.loop-i.nodes (bit_at c.args.index.now c.loop-i.i))
      (c.loop-i.invariant.value.holds free)
      ∙ beyond_step c.loop-i.i (low_number free c.args.nodes.now c.args.index.now 8)
      (low_number free c.args.nodes.now c.args.index.now c.loop-i.i)
      (truth free c.loop-i.nodes (bit_at c.args.index.now c.loop-i.i))
      (low_number-grows free c.args.nodes.now c.args.index.now 8 c.loop-i.i (omega arith) (omega arith))
      ∙ ap (nat_lt (low_number free c.args.nodes.now c.args.index.now 8))
      (sym (argument-more free c.args.nodes.now c.loop-i.nodes c.args.index.now c.loop-i.i within
      c.requires c.loop-i.invariant.grows.extends)));
}
