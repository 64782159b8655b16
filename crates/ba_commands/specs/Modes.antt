-- THE MODES of the program, and what may follow each: the table that the rules on words speak of.

use Rattle.std.specs.Prelude.{ℕ, List, [], ◌∷◌, codes}
use Rattle.ba_commands.specs.declared.modes.Mode.{Mode}
use Rattle.ba_commands.specs.declared.modes.Mode.TheVariants.{Localise, Check, Run, Rank, Repair, Sample}

abbrev pub Word : Type 0
Word = List ℕ

-- the options that have a value, and those that have none, by what stands behind `--`; and what the
-- file names stand for, in their order. The number of `sample` stands in the place of a file name
pub record Usage : Type 0 where
  pub valued : List Word
  pub plain : List Word
  pub files : List Word

abbrev pub usage_of : Mode → Usage
usage_of Localise = record {
  valued = codes "bound" ∷ codes "depth" ∷ codes "weights" ∷ codes "conflicts" ∷ codes "sets"
      ∷ codes "cert" ∷ codes "restart" ∷ [];
  plain = codes "runs" ∷ codes "places" ∷ codes "all" ∷ [];
  files = codes "PROGRAM" ∷ codes "INPUT" ∷ [];
}
usage_of Check = record {
  valued = codes "bound" ∷ codes "depth" ∷ codes "weights" ∷ codes "conflicts" ∷ codes "sets" ∷ [];
  plain = codes "all" ∷ [];
  files = codes "PROGRAM" ∷ codes "INPUT" ∷ codes "CERT" ∷ [];
}
usage_of Run = record {
  valued = codes "bound" ∷ codes "depth" ∷ [];
  plain = [];
  files = codes "PROGRAM" ∷ codes "INPUT" ∷ [];
}
usage_of Rank = record {
  valued = codes "bound" ∷ codes "depth" ∷ codes "weights" ∷ codes "conflicts" ∷ codes "sets"
      ∷ codes "restart" ∷ [];
  plain = [];
  files = codes "PROGRAM" ∷ codes "INPUTS" ∷ [];
}
usage_of Repair = record {
  valued = codes "bound" ∷ codes "depth" ∷ codes "weights" ∷ codes "conflicts" ∷ codes "sets"
      ∷ codes "restart" ∷ [];
  plain = [];
  files = codes "PROGRAM" ∷ codes "FAILING" ∷ codes "PASSING" ∷ [];
}
usage_of Sample = record { valued = []; plain = []; files = codes "N" ∷ [] }
