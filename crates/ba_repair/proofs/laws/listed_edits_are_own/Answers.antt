use Rattle.ba_repair.proofs.Listed.{listed-own}
use Rattle.ba_repair.proofs.laws.listed_edits_are_own.Goals as goal

pub returns : goal.returns
returns c p stmts edit listed = listed-own p stmts edit listed
