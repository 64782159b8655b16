-- The statement that an outcome names.

use Rattle.std.specs.Prelude.{IsSome}
use Rattle.ba_tree.specs.Choices.{info_of}
use Rattle.ba_tree.specs.declared.run.Outcome.{Outcome}
use Rattle.ba_tree.specs.declared.run.Outcome.TheVariants.{Done, AssertFails, Trap, Beyond, WrongChoices}
use Rattle.ba_tree.specs.declared.tree.Program.{Program}

-- an outcome that names a statement names one of the program
abbrev pub NamesStatement : Program → Outcome → Type 0
NamesStatement p (AssertFails stmt) = IsSome (info_of p stmt)
NamesStatement p (Trap stmt) = IsSome (info_of p stmt)
NamesStatement p (Beyond stmt) = IsSome (info_of p stmt)
NamesStatement p Done = Unit {0}
NamesStatement p WrongChoices = Unit {0}
