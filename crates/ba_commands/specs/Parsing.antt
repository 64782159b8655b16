-- The commands that `clap` is given, and what it answers.

use Rattle.std.specs.Prelude.{◌≡◌, Bool, true, if◌then◌else◌, Option, None, Some, List, [], ◌++◌, map, codes, Result, Ok, Err}
use Rattle.clap.specs.Words.{App, Rule, fault_of, found_of, matches_of, new_app, new_rule, rows_of}
use Rattle.clap.specs.Simple.{on_top}
use Rattle.clap.specs.declared.builder.action.ArgAction.TheVariants.{Set, SetTrue}
use Rattle.clap.specs.declared.error.kind.ErrorKind.{ErrorKind}
use Rattle.clap.specs.declared.error.kind.ErrorKind.TheVariants.{OutOfMemory}
use Rattle.clap.specs.declared.parser.matches.ArgMatches.{ArgMatches}
use Rattle.ba_commands.specs.declared.parsing.Role.{Role}
use Rattle.ba_commands.specs.declared.parsing.Role.TheVariants.{Valued, Plain, File}
use Rattle.ba_commands.specs.declared.words.WordsError.{WordsError}
use Rattle.ba_commands.specs.declared.words.WordsError.TheVariants.{Bad, Memory}
use Rattle.ba_commands.specs.Modes.{Usage, Word}
use Rattle.ba_commands.specs.Words.{cut, is_accepted, is_plain, takes_value}

-- what is asked of a word before `clap` reads it: rule 3 of its parts by rule 2, where a value
-- behind `=` is no option word
abbrev pub is_readable_by : Usage → Word → Option (Word × Word) → Bool
is_readable_by u word None = is_accepted u word
is_readable_by u word (Some parts) =
    if takes_value u parts.0 then is_plain parts.1 else is_accepted u word

abbrev pub is_readable : Usage → Word → Bool
is_readable u word = is_readable_by u word (cut word)

-- what a name of the table is told as
abbrev pub rule_for : Role → Word → Rule
rule_for Valued name = record (new_rule name) { long = Some name; action = Some Set }
rule_for Plain name = record (new_rule name) { long = Some name; action = Some SetTrue }
rule_for File name = new_rule name

abbrev pub bare_app : App
bare_app = on_top (λ s. record s { disable_help_flag = true }) (new_app (codes "bugassist"))

abbrev pub with_rules : App → List Rule → App
with_rules app rules = on_top (λ s. record s { rules = s.rules ++ rules }) app

abbrev pub app_for : Usage → App
app_for u =
    with_rules
    (with_rules (with_rules bare_app (map (rule_for Valued) u.valued))
    (map (rule_for Plain) u.plain))
    (map (rule_for File) u.files)

abbrev pub refuses : ErrorKind → WordsError
refuses OutOfMemory = Memory
refuses _ = Bad

-- no fault, and the matches that `clap` has; or some fault; or no memory
abbrev pub IsParsedBy : App → List Word → Result ArgMatches WordsError → Type 0
IsParsedBy app words (Ok matches) =
    (fault_of app words ≡ []) × (rows_of (found_of matches) ≡ matches_of app words)
IsParsedBy app words (Err Bad) = fault_of app words ≡ [] → ⊥
IsParsedBy app words (Err Memory) = Unit {0}
