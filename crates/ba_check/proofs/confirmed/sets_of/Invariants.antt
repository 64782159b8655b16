use Rattle.std.proofs.Common.{◌≡◌, ◌++◌, drop}
use Rattle.ba_check.specs.Answers.{statements_of}
use Rattle.ba_check.proofs.confirmed.sets_of.Given as goal

abbrev pub invariant-loop-numbers : goal.invariant-loop-numbers
invariant-loop-numbers l = statements_of l.groups ≡ l.sets ++ statements_of (drop l.numbers-index l.groups)
