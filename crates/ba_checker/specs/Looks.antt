-- The code's answers for the status of a clause.

use Rattle.ba_lits.specs.Hints.{Standing, IsFalse, IsUnit, IsOpen}
use Rattle.ba_checker.specs.declared.replay.Look.{Look}
use Rattle.ba_checker.specs.declared.replay.Look.TheVariants.{False, Forced, Open}

-- the status of a clause that a look found
abbrev pub standing_of : Look → Standing
standing_of False = IsFalse
standing_of (Forced l) = IsUnit l
standing_of Open = IsOpen
