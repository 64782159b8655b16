use Rattle.ba_nodes.proofs.Constants.{HasValue-constant}
use Rattle.ba_nodes.proofs.Nodes.constant.Goals as goal

pub returns-clause-value : goal.returns-clause-value
returns-clause-value c = λ nodes. HasValue-constant nodes c.args.value
