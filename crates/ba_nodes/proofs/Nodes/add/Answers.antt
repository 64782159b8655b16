use Rattle.std.proofs.Common.{length, arith}
use Rattle.std.proofs.lemmas.Option.{slice_get_within}
use Rattle.ba_nodes.specs.Gates.{MayStandAt}
use Rattle.ba_nodes.proofs.Adding.{added_ordered, added_grows, added_value, added_gates}
use Rattle.ba_nodes.proofs.Truths.{gates-few}
use Rattle.ba_nodes.proofs.Nodes.add.Goals as goal

pub invariant_of-self-2 : goal.invariant_of-self-2
invariant_of-self-2 c =
    let may : MayStandAt (length c.self.inside.nodes.keys) c.args.node = rw c.self.view_is c.requires in (
      added_ordered c.self.inside.nodes.keys c.put.new.nodes.keys c.args.node c.self.invariant.0 may c.in_ok-number.ensures.ok.1,
      c.in_ok-number.ensures.small,
      added_gates c.self.inside.nodes.keys c.put.new.nodes.keys c.args.node c.self.inside.gates c.gates_more.result c.in_ok-number.ensures.ok.1 c.self.invariant.2
          (rw (← c.len-before.ensures.len, ← c.len.ensures.len) c.gates_more.ensures),
    )

pub returns-clause-makes : goal.returns-clause-makes
returns-clause-makes c =
    let may : MayStandAt (length c.self.inside.nodes.keys) c.args.node = rw c.self.view_is c.requires in
    record {
      value = rw (c.bit_of.ensures, ← c.self.view_is)
          (added_value c.self.inside.nodes.keys c.put.new.nodes.keys c.args.node c.in_ok-number.number c.self.invariant.0 may c.in_ok-number.ensures.ok.1 c.in_ok-number.ensures.ok.0);
      grows = rw (← c.self.view_is) (added_grows c.self.inside.nodes.keys c.put.new.nodes.keys c.args.node c.in_ok-number.ensures.ok.1);
    }

pub returns-clause-ordered : goal.returns-clause-ordered
returns-clause-ordered c =
    let may : MayStandAt (length c.self.inside.nodes.keys) c.args.node = rw c.self.view_is c.requires in
    added_ordered c.self.inside.nodes.keys c.put.new.nodes.keys c.args.node c.self.invariant.0 may c.in_ok-number.ensures.ok.1

pub overflow_add-self : goal.overflow_add-self
overflow_add-self c =
    let same = added_gates c.self.inside.nodes.keys c.put.new.nodes.keys c.args.node c.self.inside.gates c.gates_more.result c.in_ok-number.ensures.ok.1
    c.self.invariant.2 (rw (← c.len-before.ensures.len, ← c.len.ensures.len) c.gates_more.ensures) in
    omega (arith, same, gates-few c.put.new.nodes.keys, c.in_ok-number.ensures.small)

pub bit_of-requires : goal.bit_of-requires
bit_of-requires c =
    omega (arith, c.in_ok-number.ensures.small, slice_get_within c.put.new.nodes.keys c.in_ok-number.number c.args.node c.in_ok-number.ensures.ok.0)
