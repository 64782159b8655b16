use Rattle.ba_nodes.proofs.Truths.{truth-node}
use Rattle.ba_nodes.proofs.node_law.Goals as goal

pub returns : goal.returns
returns c = truth-node
