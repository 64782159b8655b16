use Rattle.ba_check.proofs.CourseLaws.{refused-found, refused-stays}
use Rattle.ba_check.proofs.laws.refused_law.Goals as goal

pub returns : goal.returns
returns c = record {
  stays = λ head p text more refusal e. refused-stays head p text more refusal.0 refusal.1 e;
  found = refused-found;
}
