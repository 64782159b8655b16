-- THE WORDS of a call: rules 1 to 5 of what they may be.

use Rattle.std.specs.Prelude.{Bool, true, false, not, ◌==◌, ◌&&◌, ◌||◌, if◌then◌else◌, Option, None, Some, option_map, option_and_then, List, [], ◌∷◌, length, drop, codes, bytes_eq}
use Rattle.std.specs.List.{flat_map, list_any}
use Rattle.ba_commands.specs.declared.modes.Mode.{Mode}
use Rattle.ba_commands.specs.declared.modes.Mode.TheVariants.{Localise, Check, Run, Rank, Repair, Sample}
use Rattle.ba_commands.specs.Modes.{Usage, Word}

-- OPTION WORDS: `--` and then a name of the table

abbrev pub option_word : Word → Word
option_word name = 45 ∷ 45 ∷ name

abbrev pub is_option_of : List Word → Word → Bool
is_option_of names word = list_any (λ name. bytes_eq (option_word name) word) names

abbrev pub takes_value : Usage → Word → Bool
takes_value u = is_option_of u.valued

abbrev pub is_option : Usage → Word → Bool
is_option u word = takes_value u word || is_option_of u.plain word

-- not empty, and without `-` at its front
abbrev pub is_plain : Word → Bool
is_plain [] = false
is_plain (b ∷ bs) = not (b == 45)

-- RULE 1. The first word is a mode.

abbrev pub mode_of : Word → Option Mode
mode_of word =
    if bytes_eq word (codes "localise") then Some Localise
    else (if bytes_eq word (codes "check") then Some Check
    else (if bytes_eq word (codes "run") then Some Run
    else (if bytes_eq word (codes "rank") then Some Rank
    else (if bytes_eq word (codes "repair") then Some Repair
    else (if bytes_eq word (codes "sample") then Some Sample else None)))))

-- RULE 2. A later word that is an option with a value, then `=`, then any text, is replaced by the
-- option and that text as two words.

-- what stands before the first `=` of a word and what after it, where it has one
abbrev pub cut : Word → Option (Word × Word)
cut [] = None
cut (b ∷ bs) =
    if b == 61 then Some ([], bs) else option_map (λ parts. (b ∷ parts.0, parts.1)) (cut bs)

abbrev pub split_at : Usage → Word → Option (Word × Word) → List Word
split_at u word None = word ∷ []
split_at u word (Some parts) = if takes_value u parts.0 then parts.0 ∷ parts.1 ∷ [] else word ∷ []

abbrev pub split_words : Usage → List Word → List Word
split_words u = flat_map (λ word. split_at u word (cut word))

-- RULE 3. After that no word is empty, and one that begins with `-` is an option word of the mode.

abbrev pub is_accepted : Usage → Word → Bool
is_accepted u word = is_plain word || is_option u word

-- RULE 4. An option with a value is followed by a word that isn't an option word; that word is its
-- value. All other words that aren't options are file names, as many as the table says.

-- an option with its value, an option without one, a file name
pub data Part : Type 0 where
  option : Word → Word → Part
  switch : Word → Part
  file : Word → Part

-- the parts behind an option, where the first of them is a word that isn't an option
abbrev pub with_value : Word → List Part → Option (List Part)
with_value name [] = None
with_value name (option other value ∷ parts) = None
with_value name (switch other ∷ parts) = None
with_value name (file text ∷ parts) = Some (option name text ∷ parts)

abbrev pub part_before : Usage → Word → List Part → Option (List Part)
part_before u word parts =
    if takes_value u word then with_value (drop 2 word) parts
    else Some ((if is_option_of u.plain word then switch (drop 2 word) else file word) ∷ parts)

abbrev pub parts_of : Usage → List Word → Option (List Part)
parts_of u [] = Some []
parts_of u (word ∷ words) = option_and_then (part_before u word) (parts_of u words)

abbrev pub files_in : List Part → List Word
files_in [] = []
files_in (option name value ∷ parts) = files_in parts
files_in (switch name ∷ parts) = files_in parts
files_in (file text ∷ parts) = text ∷ files_in parts

-- RULE 5. No option stands twice. `--bound` is there in every mode that has it.

abbrev pub options_in : List Part → List Word
options_in [] = []
options_in (option name value ∷ parts) = name ∷ options_in parts
options_in (switch name ∷ parts) = name ∷ options_in parts
options_in (file text ∷ parts) = options_in parts

abbrev pub stands : Word → List Word → Bool
stands name names = list_any (bytes_eq name) names

abbrev pub are_distinct : List Word → Bool
are_distinct [] = true
are_distinct (name ∷ names) = not (stands name names) && are_distinct names

abbrev pub has_bound : Usage → List Word → Bool
has_bound u options = not (stands (codes "bound") u.valued) || stands (codes "bound") options

-- the number of file names by rule 4, and rule 5
abbrev pub is_line : Usage → List Part → Bool
is_line u parts = (length (files_in parts) == length u.files)
    && (are_distinct (options_in parts) && has_bound u (options_in parts))
