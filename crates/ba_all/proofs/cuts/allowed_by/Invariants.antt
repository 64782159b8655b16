use Rattle.std.proofs.Common.{◌≡◌, ◌++◌, drop, map}
use Rattle.ba_tree.specs.Least.{stmt_of}
use Rattle.ba_all.proofs.cuts.allowed_by.Given as goal

abbrev pub invariant-loop-number : goal.invariant-loop-number
invariant-loop-number l =
    map stmt_of l.numbers ≡ l.statements ++ map stmt_of (drop l.number-index l.numbers)
