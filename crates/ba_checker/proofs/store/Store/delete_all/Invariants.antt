use Rattle.std.proofs.Common.{◌≡◌, drop}
use Rattle.ba_checker.specs.States.{without_all}
use Rattle.ba_checker.proofs.store.Store.delete_all.Given as goal

abbrev pub invariant-loop-number : goal.invariant-loop-number
invariant-loop-number l = without_all l.self (drop l.number-index l.numbers) ≡ without_all l.fn.self l.numbers
