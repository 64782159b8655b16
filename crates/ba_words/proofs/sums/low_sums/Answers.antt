use Rattle.std.proofs.Common.{◌<◌, length, arith}
use Rattle.ba_nodes.proofs.Truths.{Grows-through, Grows_refl}
use Rattle.ba_words.proofs.Carries.{AddUp-first}
use Rattle.ba_words.proofs.Places.{AddUp-more}
use Rattle.ba_words.proofs.sums.low_sums.Goals as goal

pub loop-i-init : goal.loop-i-init
loop-i-init c = record {
  grows = Grows_refl c.args.nodes.now _;
  sums = AddUp-first c.args.nodes.now c.args.a.now c.args.b.now c.args.carry c.args.from c.told-a c.requires.words.first c.requires.carry;
}

pub loop-i-preserved : goal.loop-i-preserved
loop-i-preserved c =
    let small : c.loop-i.i < 32 = omega arith in
    let in_a : c.loop-i.i < length c.args.a.now = omega arith in
    let in_b : c.loop-i.i < length c.args.b.now = omega arith in
    record {
      grows = Grows-through c.args.nodes.now c.loop-i.nodes c.full_adder.new.nodes c.loop-i.invariant.grows c.full_adder.ensures.grows (omega arith);
      sums = AddUp-more c.args.nodes.now c.loop-i.nodes c.full_adder.new.nodes c.args.a.now c.args.b.now c.args.carry c.args.from c.loop-i.sums c.loop-i.carried c.loop-i.i c.in_ok-sum.sum c.in_ok-sum.next
          small in_a in_b c.requires.words.first c.requires.words.second c.loop-i.invariant.grows.extends c.full_adder.ensures.grows.extends c.loop-i.invariant.sums c.in_ok-sum.ensures.sum c.in_ok-sum.ensures.carry;
    }
