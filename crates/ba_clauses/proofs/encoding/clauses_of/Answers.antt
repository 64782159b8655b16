use Rattle.std.proofs.Common.{◌∙◌}
use Rattle.ba_clauses.proofs.Encoded.{reads_fit, encoded}
use Rattle.ba_clauses.proofs.encoding.clauses_of.Goals as goal

pub readings_of-requires-clause-bits : goal.readings_of-requires-clause-bits
readings_of-requires-clause-bits c =
    reads_fit c.as_slice-nodes.result.now c.args.required.now c.args.read.now c.in_ok-uses.uses.items
    c.as_slice.result.now
    c.in_ok-variables.variables.items c.as_slice-4.result.now c.variables.result _ c.in_ok-uses.ensures
    c.in_ok-variables.ensures.size
    c.as_slice.ensures.value c.in_ok-variables.ensures.numbering c.as_slice-4.ensures.value
    (c.variables.ensures.variables ∙ c.in_ok-add_nodes.ensures.variables_stay)

pub returns : goal.returns
returns c =
    encoded c.args.nodes.now c.as_slice-nodes.result.now c.args.required.now c.args.read.now
    c.in_ok-uses.uses.items c.as_slice.result.now
    c.as_slice-2.result.now c.in_ok-variables.variables.items c.as_slice-3.result.now
    c.as_slice-4.result.now c.in_ok-formula.formula
    c.variables_of.new.formula c.add_nodes.new.formula c.from_vec.result c.in_ok-readings.readings.items
    c.as_slice-nodes.ensures.nodes
    c.as_slice-nodes.ensures.ordered c.in_ok-uses.ensures c.as_slice.ensures.value
    c.as_slice-2.ensures.value c.as_slice-3.ensures.value
    c.as_slice-4.ensures.value c.in_ok-variables.ensures.size c.in_ok-variables.ensures.numbering
    c.in_ok-formula.ensures.holds
    c.in_ok-variables.ensures.clauses c.in_ok-add_nodes.ensures c.in_ok-readings.ensures c.from_vec.ensures
