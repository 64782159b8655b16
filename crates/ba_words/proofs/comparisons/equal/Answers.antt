use Rattle.std.proofs.Common.{◌==◌, ◌&&◌, not, arith}
use Rattle.ba_nodes.specs.Gates.{bool_xor, truth}
use Rattle.ba_nodes.proofs.Truths.{Grows-through}
use Rattle.ba_words.specs.Words.{number_of}
use Rattle.ba_words.proofs.Circuits.{compared-more, compared-all, equal_step, number_small}
use Rattle.ba_words.proofs.Values.{equal_value}
use Rattle.ba_words.proofs.comparisons.equal.Goals as goal

pub loop-i-preserved : goal.loop-i-preserved
loop-i-preserved c = record {
  grows = Grows-through c.args.nodes.now c.loop-i.nodes c.also_equal.new.nodes c.loop-i.invariant.grows c.also_equal.ensures.grows (omega arith);
  value = compared-more (λ t x y. t && not (bool_xor x y)) (λ m n. m == n) equal_step c.args.nodes.now c.loop-i.nodes c.also_equal.new.nodes c.args.a.now c.args.b.now c.loop-i.i c.loop-i.same c.in_ok-same.same
      (omega arith) c.told-a c.told-b c.requires.first c.requires.second c.loop-i.invariant.grows.extends c.loop-i.invariant.value c.in_ok-same.ensures.value;
}

pub returns-clause-value : goal.returns-clause-value
returns-clause-value c signed free =
    let is = compared-all (λ t x y. t && not (bool_xor x y)) (λ m n. m == n) equal_step c.args.nodes.now c.loop-i.nodes c.args.a.now c.args.b.now c.loop-i.i c.loop-i.same
    c.loop-i-test.false c.told-a c.told-b c.loop-i.invariant.value in
    equal_value signed (number_of free c.args.nodes.now c.args.a.now) (number_of free c.args.nodes.now c.args.b.now) (truth free c.loop-i.nodes c.loop-i.same)
    (number_small free c.args.nodes.now c.args.a.now c.told-a) (number_small free c.args.nodes.now c.args.b.now c.told-b) (is.holds free)
