use Rattle.std.proofs.Common.{if◌then◌else◌, ap, arith}
use Rattle.ba_nodes.specs.Gates.{truth}
use Rattle.ba_nodes.proofs.Truths.{Grows-through}
use Rattle.ba_words.specs.Words.{bit_at}
use Rattle.ba_words.proofs.Circuits.{pairs-more, select_step, HasValue-same}
use Rattle.ba_words.proofs.bitwise.select.Goals as goal

pub loop-i-preserved : goal.loop-i-preserved
loop-i-preserved c = record {
  grows = Grows-through c.args.nodes.now c.loop-i.nodes c.mux.new.self c.loop-i.invariant.grows c.mux.ensures.makes.grows (omega arith);
  number = pairs-more (λ free x y. if truth free c.args.nodes.now c.args.which then x else y) (λ free m n. if truth free c.args.nodes.now c.args.which then m else n)
      (select_step (λ free. truth free c.args.nodes.now c.args.which)) c.args.nodes.now c.loop-i.nodes c.mux.new.self c.args.yes.now c.args.no.now c.loop-i.word c.loop-i.i c.in_ok-word.field-0
      (omega arith) c.told-yes c.told-no c.requires.words.first c.requires.words.second c.loop-i.invariant.grows.extends c.mux.ensures.makes.grows.extends c.loop-i.invariant.number
      (HasValue-same c.mux.new.self c.in_ok-word.field-0 _ _ c.in_ok-word.ensures.makes.value
      (λ free. ap (λ w. if w then truth free c.loop-i.nodes (bit_at c.args.yes.now c.loop-i.i) else truth free c.loop-i.nodes (bit_at c.args.no.now c.loop-i.i)) (c.loop-i.invariant.grows.extends.keeps free c.args.which c.requires.chooser)));
}
