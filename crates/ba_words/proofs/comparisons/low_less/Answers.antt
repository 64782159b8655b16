use Rattle.std.proofs.Common.{◌&&◌, ◌||◌, not, nat_lt, arith}
use Rattle.ba_nodes.proofs.Truths.{Grows-through, Grows_refl}
use Rattle.ba_words.proofs.Circuits.{compared-more, less_step}
use Rattle.ba_words.proofs.comparisons.low_less.Goals as goal

pub loop-i-preserved : goal.loop-i-preserved
loop-i-preserved c = record {
  grows = Grows-through c.args.nodes.now c.loop-i.nodes c.borrow.new.nodes c.loop-i.invariant.grows c.borrow.ensures.grows (omega arith);
  value = compared-more (λ t x y. (not x && y) || (not (x && not y) && t)) (λ m n. nat_lt m n) less_step c.args.nodes.now c.loop-i.nodes c.borrow.new.nodes c.args.a.now c.args.b.now c.loop-i.i c.loop-i.below c.in_ok-below.below
      (omega arith) c.told-a c.told-b c.requires.first c.requires.second c.loop-i.invariant.grows.extends c.loop-i.invariant.value c.in_ok-below.ensures.value;
}

pub loop-i-init : goal.loop-i-init
loop-i-init c = record {
  grows = Grows_refl c.args.nodes.now _;
  value = c.constant-below.ensures.value c.args.nodes.now;
}
