use Rattle.std.proofs.Common.{◌&&◌, bit_and, arith, rules}
use Rattle.ba_nodes.proofs.Truths.{Grows-through}
use Rattle.ba_numbers.specs.declared.numbers.BinOp.TheVariants.{And}
use Rattle.ba_words.proofs.Circuits.{pairs-more, pairs-all, and_step}
use Rattle.ba_words.proofs.Outcomes.{makes_word, circuit}
use Rattle.ba_words.proofs.Values.{and_value}
use Rattle.ba_words.proofs.bitwise.bit_and.Goals as goal

pub loop-i-preserved : goal.loop-i-preserved
loop-i-preserved c = record {
  grows = Grows-through c.args.nodes.now c.loop-i.nodes c.and.new.self c.loop-i.invariant.grows c.and.ensures.makes.grows (omega arith);
  number = pairs-more (λ free x y. x && y) (λ free m n. bit_and m n) and_step c.args.nodes.now c.loop-i.nodes c.and.new.self c.args.a.now c.args.b.now c.loop-i.word c.loop-i.i c.in_ok-word.field-0
      (omega arith) c.told-a c.told-b c.requires.first c.requires.second c.loop-i.invariant.grows.extends c.and.ensures.makes.grows.extends c.loop-i.invariant.number c.in_ok-word.ensures.makes.value;
}

pub returns : goal.returns
returns c = circuit And c.args.nodes.now c.loop-i.nodes c.args.a.now c.args.b.now _ and_value c.told-a c.told-b (makes_word (search rules)
    (pairs-all (λ free x y. x && y) (λ free m n. bit_and m n) and_step c.args.nodes.now c.loop-i.nodes c.args.a.now c.args.b.now c.loop-i.word c.loop-i.i
    c.loop-i-test.false c.told-a c.told-b c.loop-i.invariant.number))
