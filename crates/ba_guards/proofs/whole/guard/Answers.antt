use Rattle.std.proofs.Common.{refl}
use Rattle.ba_guards.proofs.Guarded.{walked, walked-fits, walked-guards}
use Rattle.ba_guards.proofs.whole.guard.Goals as goal

pub invariant_of-result : goal.invariant_of-result
invariant_of-result c = record {
  fit = walked-fits c.args.tree.now c.args.input.now c.give_input.new.b c.guard_nodes.new.b
      c.into_items.result c.into_items-2.result
      (walked c.args.tree.now c.args.input.now c.as_slice-arrays.result.now c.as_slice.result.now
      c.as_slice-2.result.now
      c.as_slice-3.result.now c.in_ok-b.b c.give_input.new.b c.guard_nodes.new.b c.as_slice-arrays.ensures
      c.as_slice.ensures
      c.as_slice-2.ensures c.as_slice-3.ensures c.requires c.in_ok-b.ensures c.in_ok-give_input.ensures
      c.in_ok-guard_nodes.ensures)
      c.into_items.ensures c.into_items-2.ensures;
}

pub returns : goal.returns
returns c = walked-guards c.args.tree.now c.args.input.now c.give_input.new.b c.guard_nodes.new.b _
    (walked c.args.tree.now c.args.input.now c.as_slice-arrays.result.now c.as_slice.result.now
    c.as_slice-2.result.now
    c.as_slice-3.result.now c.in_ok-b.b c.give_input.new.b c.guard_nodes.new.b c.as_slice-arrays.ensures
    c.as_slice.ensures
    c.as_slice-2.ensures c.as_slice-3.ensures c.requires c.in_ok-b.ensures c.in_ok-give_input.ensures
    c.in_ok-guard_nodes.ensures)
    c.into_items.ensures c.into_items-2.ensures refl
