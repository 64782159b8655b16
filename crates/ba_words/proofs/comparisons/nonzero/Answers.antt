use Rattle.std.proofs.Common.{◌||◌, nat_lt, arith}
use Rattle.ba_nodes.specs.Gates.{truth}
use Rattle.ba_nodes.proofs.Truths.{Grows-through}
use Rattle.ba_words.specs.Words.{number_of}
use Rattle.ba_words.proofs.Circuits.{compared-more, compared-all, some_step, number_small}
use Rattle.ba_words.proofs.Values.{test_value}
use Rattle.ba_words.proofs.comparisons.nonzero.Goals as goal

pub loop-i-preserved : goal.loop-i-preserved
loop-i-preserved c = record {
  grows = Grows-through c.args.nodes.now c.loop-i.nodes c.or.new.self c.loop-i.invariant.grows c.or.ensures.makes.grows (omega arith);
  value = compared-more (λ t x y. t || x) (λ m n. nat_lt 0 m) some_step c.args.nodes.now c.loop-i.nodes c.or.new.self c.args.a.now c.args.a.now c.loop-i.i c.loop-i.some c.in_ok-some.some
      (omega arith) c.told-a c.told-a c.requires c.requires c.loop-i.invariant.grows.extends c.loop-i.invariant.value c.in_ok-some.ensures.makes.value;
}

pub returns-clause-value : goal.returns-clause-value
returns-clause-value c signed free =
    let is = compared-all (λ t x y. t || x) (λ m n. nat_lt 0 m) some_step c.args.nodes.now c.loop-i.nodes c.args.a.now c.args.a.now c.loop-i.i c.loop-i.some
    c.loop-i-test.false c.told-a c.told-a c.loop-i.invariant.value in
    test_value signed (number_of free c.args.nodes.now c.args.a.now) (truth free c.loop-i.nodes c.loop-i.some)
    (number_small free c.args.nodes.now c.args.a.now c.told-a) (is.holds free)
