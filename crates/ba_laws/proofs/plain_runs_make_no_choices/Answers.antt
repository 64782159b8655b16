use Rattle.ba_laws.proofs.PlainRuns.{plain_right}
use Rattle.ba_laws.proofs.plain_runs_make_no_choices.Goals as goal

pub returns : goal.returns
returns c = plain_right
