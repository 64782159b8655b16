use Rattle.std.proofs.Common.{◌∙◌}
use Rattle.ba_unroll.proofs.Trees.{body-made, bound-fits, same-outcomes}
use Rattle.ba_unroll.proofs.whole.unroll.Goals as goal

pub invariant_of-result : goal.invariant_of-result
invariant_of-result c = record {
  fit = bound-fits c.args.tree.now.vars c.args.turns c.args.tree.now.arrays c.in_ok-from_slice.field-0
      c.args.tree.now.params c.in_ok-from_slice-2.field-0 c.args.tree.now.body c.from_vec.result
      (c.in_ok-from_slice.ensures ∙ c.as_slice-2.ensures)
      (c.in_ok-from_slice-2.ensures ∙ c.as_slice-3.ensures)
      (body-made c.args.turns c.as_slice.result.now c.args.tree.now.body c.new-body.result.items
      c.add_nodes.new.out.items c.from_vec.result c.as_slice.ensures c.new-body.ensures.items
      c.from_vec.ensures
      c.in_ok-add_nodes.ensures)
      c.args.tree.now.fit;
}

pub returns-clause-outcomes : goal.returns-clause-outcomes
returns-clause-outcomes c = record {
  same = same-outcomes c.args.tree.now.vars c.args.turns c.args.tree.now.arrays c.in_ok-from_slice.field-0
      c.args.tree.now.params c.in_ok-from_slice-2.field-0 c.args.tree.now.body c.from_vec.result
      (c.in_ok-from_slice.ensures ∙ c.as_slice-2.ensures)
      (c.in_ok-from_slice-2.ensures ∙ c.as_slice-3.ensures)
      (body-made c.args.turns c.as_slice.result.now c.args.tree.now.body c.new-body.result.items
      c.add_nodes.new.out.items c.from_vec.result c.as_slice.ensures c.new-body.ensures.items
      c.from_vec.ensures
      c.in_ok-add_nodes.ensures);
}
