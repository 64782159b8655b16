-- The call on words that are lent.
use Rattle.std.proofs.Common.{◌≡◌, ◌<◌, ◌≤◌, Bool, true, false, Option, None, Some, Result, Ok, Err, List, [], ◌∷◌, length, drop, get_or, map, refl, sym, ap, ◌∙◌, arith}
use Rattle.std.specs.Prelude.{option_and_then}
use Rattle.std.specs.Option.{ok_or}
use Rattle.std.specs.Borrow.{Bor}
use Rattle.std.specs.List.{list_all}
use Rattle.clap.specs.Matches.{first_value, found_of}
use Rattle.clap.specs.declared.parser.matches.ArgMatches.{ArgMatches}
use Rattle.ba_commands.specs.declared.commands.Command.{Command}
use Rattle.ba_commands.specs.declared.modes.Mode.{Mode}
use Rattle.ba_commands.specs.declared.words.WordsError.{WordsError}
use Rattle.ba_commands.specs.declared.words.WordsError.TheVariants.{Bad, Memory}
use Rattle.ba_commands.specs.Modes.{Word, usage_of}
use Rattle.ba_commands.specs.Words.{mode_of, split_words}
use Rattle.ba_commands.specs.Commands.{Reads, command_in, command_of, command_with}
use Rattle.ba_commands.specs.Parsing.{IsParsedBy, app_for, is_readable}
use Rattle.ba_commands.proofs.Testing.{list_all-map}
use Rattle.ba_commands.proofs.Answering.{AreRead, answered, faulty_refused, unread_refused}

abbrev Lent : Type 0
Lent = List (Bor Word)

abbrev pub bytes : Lent → List Word
bytes = map (λ (word : Bor Word). word.now)

-- no words
pub none_command : (words : Lent) → length words < 1 → command_of (bytes words) ≡ None
unfolding command_of
none_command [] few = refl
none_command (word ∷ words) few = absurd (omega arith)

-- the first word and the others
pub first_command : (words : Lent) (d : Bor Word) → 1 ≤ length words → (said : Option Mode)
    → mode_of (get_or words 0 d).now ≡ said
    → command_of (bytes words)
    ≡ option_and_then (λ mode. command_in mode (split_words (usage_of mode) (bytes (drop 1 words)))) said
unfolding command_of
first_command [] d some said is = absurd (omega arith)
first_command (word ∷ words) d some said is =
    ap (option_and_then (λ mode. command_in mode (split_words (usage_of mode) (bytes words)))) is

-- the words behind the mode are tested
pub unread_command : (words : Lent) (d : Bor Word) (mode : Mode) → 1 ≤ length words
    → Some mode ≡ mode_of (get_or words 0 d).now
    → list_all (λ (word : Bor Word). is_readable (usage_of mode) word.now) (drop 1 words) ≡ false
    → command_of (bytes words) ≡ None
unread_command words d mode some is unread = first_command words d some (Some mode) (sym is)
    ∙ unread_refused mode (bytes (drop 1 words))
    (list_all-map (is_readable (usage_of mode)) (λ (word : Bor Word). word.now) (drop 1 words) ∙ unread)

-- `clap` refuses them
pub refused_command : (words : Lent) (d : Bor Word) (mode : Mode) (error : WordsError) → 1 ≤ length words
    → Some mode ≡ mode_of (get_or words 0 d).now
    → list_all (λ (word : Bor Word). is_readable (usage_of mode) word.now) (drop 1 words) ≡ true
    → IsParsedBy (app_for (usage_of mode)) (bytes words) (Err error)
    → Reads (Err error) (command_of (bytes words))
refused_command words d mode Memory some is read parsed = tt
refused_command [] d mode Bad some is read parsed = absurd (omega arith)
refused_command (word ∷ words) d mode Bad some is read parsed =
    first_command (word ∷ words) d some (Some mode) (sym is)
    ∙ faulty_refused mode word.now (bytes words)
    (list_all-map (is_readable (usage_of mode)) (λ (word : Bor Word). word.now) words ∙ read) parsed

-- it has read them
pub found_command : (words : Lent) (d : Bor Word) (mode : Mode) (matches : ArgMatches)
    (runs places all : Bool)
    → 1 ≤ length words
    → Some mode ≡ mode_of (get_or words 0 d).now
    → list_all (λ (word : Bor Word). is_readable (usage_of mode) word.now) (drop 1 words) ≡ true
    → IsParsedBy (app_for (usage_of mode)) (bytes words) (Ok matches)
    → AreRead (found_of matches) runs places all
    → command_of (bytes words)
    ≡ command_with mode (first_value (found_of matches)) (first_value (found_of matches)) runs places all
found_command [] d mode matches runs places all some is read parsed flags = absurd (omega arith)
found_command (word ∷ words) d mode matches runs places all some is read parsed flags =
    first_command (word ∷ words) d some (Some mode) (sym is)
    ∙ answered mode word.now (bytes words) (found_of matches) runs places all
    (list_all-map (is_readable (usage_of mode)) (λ (word : Bor Word). word.now) words ∙ read) parsed.0
    parsed.1 flags

-- what was found is what is read
pub read_found : (said found : Option Command) (answer : Result Command WordsError)
    → answer ≡ ok_or found Bad → said ≡ found → Reads answer said
read_found said None answer is same = rw is same
read_found said (Some command) answer is same = rw is same
