-- THE COMMAND that words are: rule 6, on numbers, restart rules and `--places`, and the whole.

use Rattle.std.specs.Prelude.{◌≡◌, ℕ, Bool, true, false, not, ◌&&◌, ◌||◌, if◌then◌else◌, Option, None, Some, is_some, option_and_then, List, [], ◌∷◌, codes, bytes_eq, Result, Ok, Err}
use Rattle.std.specs.List.{list_all}
use Rattle.ba_tree.specs.declared.run.Bounds.{Bounds}
use Rattle.ba_commands.specs.declared.commands.Command.{Command}
use Rattle.ba_commands.specs.declared.commands.Command.TheVariants as command
use Rattle.ba_commands.specs.declared.modes.Mode.{Mode}
use Rattle.ba_commands.specs.declared.modes.Mode.TheVariants.{Localise, Check, Run, Rank, Repair, Sample}
use Rattle.ba_commands.specs.declared.words.WordsError.{WordsError}
use Rattle.ba_commands.specs.declared.words.WordsError.TheVariants.{Bad, Memory}
use Rattle.ba_commands.specs.Modes.{Word, usage_of}
use Rattle.ba_bytes.specs.Numbers.{number_in}
use Rattle.ba_commands.specs.Words.{Part, option, switch, file, files_in, is_accepted, is_line, mode_of, options_in, parts_of, split_words, stands}

-- one after the other: nothing where one gives nothing
infixl 10 ◌>>=◌
abbrev pub ◌>>=◌ : {A B : Type 0} → Option A → (A → Option B) → Option B
o >>= f = option_and_then f o

-- RULE 6. A number is one to seven decimal digits with a value in its range. A restart rule is `luby`, the
-- default, or `steady`. `--cert` and `--all` do not stand beside `--places`: no certificate is written for
-- it, and an execution belongs to one input.

abbrev pub number_of : ℕ → ℕ → Option Word → Option ℕ
number_of least most None = None
number_of least most (Some word) = number_in 7 least most word

abbrev pub number_or : ℕ → ℕ → ℕ → Option Word → Option ℕ
number_or default least most None = Some default
number_or default least most (Some word) = number_in 7 least most word

abbrev pub steady_in : Option Word → Option Bool
steady_in None = Some false
steady_in (Some word) =
    if bytes_eq word (codes "luby") then Some false
    else (if bytes_eq word (codes "steady") then Some true else None)

-- THE COMMAND of a mode, by its file names, its options' values, and whether `--runs`, `--places` and `--all`
-- stand there

abbrev pub bounds_from : Option Word → Option Word → Option Bounds
bounds_from bound depth = do
  turns ← number_of 1 128 bound
  frames ← number_or 16 1 32 depth
  Some (record { turns = turns; frames = frames })

-- whether `--places`, if it stands, has neither `--all` nor `--cert` beside it
abbrev pub places_stand_alone : Bool → Bool → Option Word → Bool
places_stand_alone places all cert = not (places && (all || is_some cert))

abbrev pub localise_from : Option Word → Option Word → Option Bounds → Option Word → Option Word
    → Option Word → Option Word → Bool → Bool → Bool → Option Word → Option Command
localise_from program input bounds weights conflicts sets cert runs places all restart = do
  program ← program
  input ← input
  bounds ← bounds
  conflicts ← number_or 200000 1 1000000 conflicts
  sets ← number_or 1000 1 10000 sets
  steady ← steady_in restart
  if places_stand_alone places all cert
      then Some (command.Localise program input bounds weights conflicts sets cert runs places all steady)
      else None

abbrev pub check_from : Option Word → Option Word → Option Word → Option Bounds → Option Word
    → Option Word → Option Word → Bool → Option Command
check_from program input cert bounds weights conflicts sets all = do
  program ← program
  input ← input
  cert ← cert
  bounds ← bounds
  conflicts ← number_or 200000 1 1000000 conflicts
  sets ← number_or 1000 1 10000 sets
  Some (command.Check program input cert bounds weights conflicts sets all)

abbrev pub run_from : Option Word → Option Word → Option Bounds → Option Command
run_from program input bounds = do
  program ← program
  input ← input
  bounds ← bounds
  Some (command.Run program input bounds)

abbrev pub rank_from : Option Word → Option Word → Option Bounds → Option Word → Option Word → Option Word →
    Option Word → Option Command
rank_from program inputs bounds weights conflicts sets restart = do
  program ← program
  inputs ← inputs
  bounds ← bounds
  conflicts ← number_or 200000 1 1000000 conflicts
  sets ← number_or 1000 1 10000 sets
  steady ← steady_in restart
  Some (command.Rank program inputs bounds weights conflicts sets steady)

abbrev pub repair_from : Option Word → Option Word → Option Word → Option Bounds → Option Word → Option Word
    → Option Word → Option Word → Option Command
repair_from program failing passing bounds weights conflicts sets restart = do
  program ← program
  failing ← failing
  passing ← passing
  bounds ← bounds
  conflicts ← number_or 200000 1 1000000 conflicts
  sets ← number_or 1000 1 10000 sets
  steady ← steady_in restart
  Some (command.Repair program failing passing bounds weights conflicts sets steady)

abbrev pub sample_from : Option ℕ → Option Command
sample_from additions = do
  additions ← additions
  Some (command.Sample additions)

-- the same by the names of the table
abbrev pub bounds_with : (Word → Option Word) → Option Bounds
bounds_with value = bounds_from (value (codes "bound")) (value (codes "depth"))

abbrev pub localise_with : (Word → Option Word) → (Word → Option Word) → Bool → Bool → Bool → Option Command
localise_with name value runs places all =
    localise_from (name (codes "PROGRAM")) (name (codes "INPUT")) (bounds_with value)
    (value (codes "weights")) (value (codes "conflicts")) (value (codes "sets"))
    (value (codes "cert")) runs places all (value (codes "restart"))

abbrev pub check_with : (Word → Option Word) → (Word → Option Word) → Bool → Option Command
check_with name value all =
    check_from (name (codes "PROGRAM")) (name (codes "INPUT")) (name (codes "CERT"))
    (bounds_with value)
    (value (codes "weights")) (value (codes "conflicts")) (value (codes "sets")) all

abbrev pub run_with : (Word → Option Word) → (Word → Option Word) → Option Command
run_with name value = run_from (name (codes "PROGRAM")) (name (codes "INPUT")) (bounds_with value)

abbrev pub rank_with : (Word → Option Word) → (Word → Option Word) → Option Command
rank_with name value =
    rank_from (name (codes "PROGRAM")) (name (codes "INPUTS")) (bounds_with value)
    (value (codes "weights")) (value (codes "conflicts")) (value (codes "sets"))
    (value (codes "restart"))

abbrev pub repair_with : (Word → Option Word) → (Word → Option Word) → Option Command
repair_with name value =
    repair_from (name (codes "PROGRAM")) (name (codes "FAILING")) (name (codes "PASSING"))
    (bounds_with value)
    (value (codes "weights")) (value (codes "conflicts")) (value (codes "sets"))
    (value (codes "restart"))

abbrev pub sample_with : (Word → Option Word) → Option Command
sample_with name = sample_from (number_of 1 500 (name (codes "N")))

abbrev pub command_with : Mode → (Word → Option Word) → (Word → Option Word) → Bool → Bool → Bool →
    Option Command
command_with Localise name value runs places all = localise_with name value runs places all
command_with Check name value runs places all = check_with name value all
command_with Run name value runs places all = run_with name value
command_with Rank name value runs places all = rank_with name value
command_with Repair name value runs places all = repair_with name value
command_with Sample name value runs places all = sample_with name

-- the file name in the place that has a name in the table
abbrev pub file_at : List Word → List Word → Word → Option Word
file_at [] texts name = None
file_at (place ∷ places) [] name = None
file_at (place ∷ places) (text ∷ texts) name =
    if bytes_eq place name then Some text else file_at places texts name

-- the value of an option
abbrev pub value_in : List Part → Word → Option Word
value_in [] name = None
value_in (option other value ∷ parts) name =
    if bytes_eq other name then Some value else value_in parts name
value_in (switch other ∷ parts) name = value_in parts name
value_in (file text ∷ parts) name = value_in parts name

abbrev pub command_of_parts : Mode → List Part → Option Command
command_of_parts mode parts =
    command_with mode (file_at (usage_of mode).files (files_in parts)) (value_in parts)
    (stands (codes "runs") (options_in parts)) (stands (codes "places") (options_in parts))
    (stands (codes "all") (options_in parts))

-- the command that parts are, by rules 4 to 6
abbrev pub command_on : Mode → List Part → Option Command
command_on mode parts = if is_line (usage_of mode) parts then command_of_parts mode parts else None

-- the command that the words behind a mode are, by rules 3 to 6
abbrev pub command_in : Mode → List Word → Option Command
command_in mode words =
    if list_all (is_accepted (usage_of mode)) words
    then option_and_then (command_on mode) (parts_of (usage_of mode) words) else None

-- THE COMMAND that words are, where they are one
unfoldable pub command_of : List Word → Option Command
command_of [] = None
command_of (word ∷ words) =
    option_and_then (λ mode. command_in mode (split_words (usage_of mode) words)) (mode_of word)

-- what a call answers: the command that the words are, or a refusal where they are none; want of
-- memory tells nothing
abbrev pub Reads : Result Command WordsError → Option Command → Type 0
Reads (Ok answer) said = said ≡ Some answer
Reads (Err Bad) said = said ≡ None
Reads (Err Memory) said = Unit {0}
