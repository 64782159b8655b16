-- The numbers of the errors.

use Rattle.std.specs.Prelude.{ℕ, Option, None, Some}
use Rattle.ba_steps.specs.declared.step.StepError.{StepError}
use Rattle.ba_steps.specs.declared.step.StepError.TheVariants.{HintMissing, HintNotUnit, NotClosed, NotSofts, DeadClause, RunNotGood, SetTwice, WrongWeight, AfterEnd, NotNew, TooSoon, CoreAfterSet, WrongCount, BadVariable, Memory}

-- the number of an error; None out of memory
abbrev pub number_of : StepError → Option ℕ
number_of HintMissing = Some 1
number_of HintNotUnit = Some 2
number_of NotClosed = Some 3
number_of NotSofts = Some 4
number_of DeadClause = Some 5
number_of RunNotGood = Some 6
number_of SetTwice = Some 7
number_of WrongWeight = Some 8
number_of AfterEnd = Some 9
number_of NotNew = Some 10
number_of TooSoon = Some 11
number_of CoreAfterSet = Some 12
number_of WrongCount = Some 13
number_of BadVariable = Some 14
number_of Memory = None
