use Rattle.ba_cert.proofs.LineLaws.{line-once}
use Rattle.ba_cert.proofs.laws.line_is_of_one_step.Goals as goal

pub returns : goal.returns
returns c = line-once
