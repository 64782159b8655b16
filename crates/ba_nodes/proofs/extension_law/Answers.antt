use Rattle.ba_nodes.proofs.Truths.{Extends-through}
use Rattle.ba_nodes.proofs.Adding.{made_stays, made_turned}
use Rattle.ba_nodes.proofs.extension_law.Goals as goal

pub returns : goal.returns
returns c = record { through = Extends-through; made_stays = made_stays; made_turned = made_turned }
