-- What `clap` finds in words gives the command that the words are.
use Rattle.std.proofs.Math.Bool.{and-false}
use Rattle.std.proofs.Common.{◌≡◌, ℕ, suc, Bool, true, false, cond, ◌&&◌, ◌||◌, ◌==◌, not, inl, inr, Option, None, Some, List, [], ◌∷◌, length, map, take, drop, codes, refl, sym, ap, ap₂, ◌∙◌, arith, fold, subst, true≢false}
use Rattle.std.specs.Prelude.{nat_le, option_and_then, find, is_some, slice_get}
use Rattle.std.specs.List.{list_all}
use Rattle.std.specs.Str.{bytes_eq}
use Rattle.std.proofs.lemmas.Bool.{not-true}
use Rattle.std.proofs.lemmas.Bool.Decides.{nat_tests}
use Rattle.clap.specs.Faults.{entered_fault, fault_of, level_fault}
use Rattle.clap.specs.Kinds.{Kinds}
use Rattle.clap.specs.Matches.{first_value, one_text}
use Rattle.clap.specs.Simple.{App, built, entered, matches_of}
use Rattle.clap.specs.Walk.{Row, first_of as first_value_of, has_row, idle, nothing_held, one_of, row_text, rows_of, walk, with_default}
use Rattle.clap.specs.declared.parser.matches.Found.{Found}
use Rattle.clap.proofs.WalkLemmas.{first_value-rows, one_text-rows}
use Rattle.ba_tree.proofs.Tests.{both}
use Rattle.ba_commands.specs.declared.commands.Command.{Command}
use Rattle.ba_commands.specs.declared.modes.Mode.{Mode}
use Rattle.ba_commands.specs.declared.modes.Mode.TheVariants.{Localise, Check, Run, Rank, Repair, Sample}
use Rattle.ba_commands.specs.Modes.{Usage, Word, usage_of}
use Rattle.ba_commands.specs.Words.{Part, are_distinct, files_in, has_bound, is_accepted, is_line, options_in, parts_of, split_words, stands}
use Rattle.ba_commands.specs.Commands.{bounds_from, check_from, command_in, command_of_parts, command_on, command_with, file_at, localise_from, number_of, rank_from, repair_from, run_from, sample_from, value_in}
use Rattle.ba_commands.specs.Parsing.{app_for, is_readable}
use Rattle.ba_commands.proofs.Testing.{eq_comm, not_both, same_either}
use Rattle.ba_commands.proofs.Splitting.{IsRefused, readable_accepted, unreadable_refused}
use Rattle.ba_commands.proofs.Rows.{Agrees, held, row}
use Rattle.ba_commands.proofs.Turns.{walk_at}
use Rattle.ba_commands.proofs.Taking.{Use, fits, names_of_uses, rows_of_uses, taken, taken-first, taken_all, uses_of}
use Rattle.ba_commands.proofs.Walking.{faults_from, rows_from, whole_walk}
use Rattle.ba_commands.proofs.Placing.{differs, first-file, first-option, first-switch, fits-length, is_known, each_option, parts-known, uses-distinct, uses-stand, value-none}
use Rattle.ba_commands.proofs.Finishing.{defaults_behind, find-finished, has_row-finished, no_defaults, switch_rule, switch_text}
use Rattle.ba_commands.proofs.ModeFacts.{fits_mode, rules_in}

-- THE CALL OF `clap` is the walk over the words behind the first

fault_of-walk : (u : Usage) (first : Word) (words : List Word)
    → fault_of (app_for u) (first ∷ words) ≡ faults_from (rules_in u) (walk_at (held [] None) idle 1) words
fault_of-walk u first words = by (walk (rules_in u) [] nothing_held words).stopped
  where
    top : App
    top = built (app_for u)

    by : (stop : Option (Word × List Word))
        → level_fault top.top [] nothing_held words (is_some (entered top stop)) (entered_fault top stop)
        ≡ faults_from (rules_in u) (walk_at (held [] None) idle 1) words
    by None = refl
    by (Some p) = refl

matches_of-walk : (u : Usage) (first : Word) (words : List Word)
    → matches_of (app_for u) (first ∷ words)
    ≡ fold with_default (rows_from (rules_in u) (walk_at (held [] None) idle 1) words) (rules_in u)
matches_of-walk u first words = refl

-- THE ROWS AT THE END

-- the defaults of the switches that have these names
abbrev defaulted : List Word → List Row → List Row
defaulted names rows = fold with_default rows (map switch_rule names)

-- the rows of a mode: no argument but a switch has a default
finished : (mode : Mode) (rows : List Row)
    → fold with_default rows (rules_in (usage_of mode)) ≡ defaulted (usage_of mode).plain rows
finished Localise rows =
    defaults_behind (take 7 (rules_in (usage_of Localise))) (drop 7 (rules_in (usage_of Localise))) rows
    (refl, (refl, (refl, (refl, (refl, (refl, (refl, tt)))))))
    ∙ no_defaults (drop 10 (rules_in (usage_of Localise))) (defaulted (usage_of Localise).plain rows)
    (refl, (refl, tt))
finished Check rows =
    defaults_behind (take 5 (rules_in (usage_of Check))) (drop 5 (rules_in (usage_of Check))) rows
    (refl, (refl, (refl, (refl, (refl, tt)))))
    ∙ no_defaults (drop 6 (rules_in (usage_of Check))) (defaulted (usage_of Check).plain rows)
    (refl, (refl, (refl, tt)))
finished Run rows = no_defaults (rules_in (usage_of Run)) rows (refl, (refl, (refl, (refl, tt))))
finished Rank rows = no_defaults (rules_in (usage_of Rank)) rows
    (refl, (refl, (refl, (refl, (refl, (refl, (refl, (refl, tt))))))))
finished Repair rows = no_defaults (rules_in (usage_of Repair)) rows
    (refl, (refl, (refl, (refl, (refl, (refl, (refl, (refl, (refl, tt)))))))))
finished Sample rows = no_defaults (rules_in (usage_of Sample)) rows (refl, tt)

-- defaults of switches hide no argument of another name
find-defaulted : (name : Word) (names : List Word) (rows : List Row) → list_all (differs name) names ≡ true
    → find (λ (r : Row). bytes_eq r.id name) (defaulted names rows)
    ≡ find (λ (r : Row). bytes_eq r.id name) rows
find-defaulted name [] rows others = refl
find-defaulted name (n ∷ names) rows others =
    let each = both (differs name n) (list_all (differs name) names) others in
    find-defaulted name names (with_default rows (switch_rule n)) each.1
    ∙ find-finished name n rows (not-true (bytes_eq n name) each.0)

has_row-defaulted : (name : Word) (names : List Word) (rows : List Row)
    → list_all (differs name) names ≡ true → has_row name (defaulted names rows) ≡ has_row name rows
has_row-defaulted name [] rows others = refl
has_row-defaulted name (n ∷ names) rows others =
    let each = both (differs name n) (list_all (differs name) names) others in
    has_row-defaulted name names (with_default rows (switch_rule n)) each.1
    ∙ has_row-finished name n rows (not-true (bytes_eq n name) each.0)

-- the text of a switch at the end, among others: that of its use, or `false`
switch_text-among : (name : Word) (before behind : List Word) (rows : List Row)
    → list_all (differs name) before ≡ true → list_all (differs name) behind ≡ true
    → one_of name (defaulted behind (with_default (defaulted before rows) (switch_rule name)))
    ≡ cond (has_row name rows) (one_of name rows) (Some (codes "false"))
switch_text-among name before behind rows first later =
    ap (option_and_then row_text) (find-defaulted name behind
    (with_default (defaulted before rows) (switch_rule name)) later)
    ∙ switch_text name (defaulted before rows) (has_row name rows) (has_row-defaulted name before rows first)
    ∙ ap (λ o. cond (has_row name rows) (option_and_then row_text o) (Some (codes "false")))
    (find-defaulted name before rows first)

finished-first : (mode : Mode) (name : Word) (rows : List Row)
    → list_all (differs name) (usage_of mode).plain ≡ true
    → first_value_of name (fold with_default rows (rules_in (usage_of mode))) ≡ first_value_of name rows
finished-first mode name rows plain = ap (first_value_of name) (finished mode rows)
    ∙ ap (option_and_then (λ (r : Row). slice_get r.values 0))
    (find-defaulted name (usage_of mode).plain rows plain)

-- what was found, where the words have these parts
record IsFound (mode : Mode) (parts : List Part) (found : Found) : Type 0 where
  known : list_all (is_known (usage_of mode)) parts ≡ true
  rows : rows_of found
      ≡ fold with_default (rows_of_uses (uses_of parts (usage_of mode).files)) (rules_in (usage_of mode))

found-first : (mode : Mode) (parts : List Part) (found : Found) (name : Word) → IsFound mode parts found
    → list_all (differs name) (usage_of mode).plain ≡ true
    → first_value found name ≡ first_value_of name (rows_of_uses (uses_of parts (usage_of mode).files))
found-first mode parts found name f plain = first_value-rows found name ∙ ap (first_value_of name) f.rows
    ∙ finished-first mode name (rows_of_uses (uses_of parts (usage_of mode).files)) plain

value-found : (mode : Mode) (parts : List Part) (found : Found) (name : Word) → IsFound mode parts found
    → list_all (differs name) (usage_of mode).plain ≡ true
    → list_all (differs name) (usage_of mode).files ≡ true
    → value_in parts name ≡ first_value found name
value-found mode parts found name f plain files = sym (found-first mode parts found name f plain
    ∙ first-option (usage_of mode) name parts (usage_of mode).files f.known plain files)

file-found : (mode : Mode) (parts : List Part) (found : Found) (name : Word) → IsFound mode parts found
    → list_all (differs name) (usage_of mode).valued ≡ true
    → list_all (differs name) (usage_of mode).plain ≡ true
    → file_at (usage_of mode).files (files_in parts) name ≡ first_value found name
file-found mode parts found name f valued plain = sym (found-first mode parts found name f plain
    ∙ first-file (usage_of mode) name parts (usage_of mode).files f.known valued plain)

-- THE SWITCHES

has_row-uses : (name : Word) (uses : List Use)
    → has_row name (rows_of_uses uses) ≡ stands name (names_of_uses uses)
has_row-uses name [] = refl
has_row-uses name (u ∷ uses) = ap₂ (λ a b. a || b) (eq_comm u.0 name) (has_row-uses name uses)

one_of-uses : (name : Word) (uses : List Use)
    → one_of name (rows_of_uses uses) ≡ first_value_of name (rows_of_uses uses)
one_of-uses name [] = refl
one_of-uses name (u ∷ uses) = by (bytes_eq u.0 name) (one_of-uses name uses)
  where
    others : Option Row
    others = find (λ (r : Row). bytes_eq r.id name) (rows_of_uses uses)

    by : (b : Bool)
        → option_and_then row_text others ≡ option_and_then (λ (r : Row). slice_get r.values 0) others
        → option_and_then row_text (cond b (Some (row u.0 u.1)) others)
        ≡ option_and_then (λ (r : Row). slice_get r.values 0) (cond b (Some (row u.0 u.1)) others)
    by true h = refl
    by false h = h

-- how a switch was read
pub record IsRead (found : Found) (name : Word) (given : Bool) : Type 0 where
  pub on : one_text found name ≡ Some (codes "true") → given ≡ true
  pub off : one_text found name ≡ Some (codes "false") → given ≡ false

-- how the switches were read
pub record AreRead (found : Found) (runs places all : Bool) : Type 0 where
  pub runs_read : IsRead found (codes "runs") runs
  pub places_read : IsRead found (codes "places") places
  pub all_read : IsRead found (codes "all") all

abbrev rows_in : Mode → List Part → List Row
rows_in mode parts = rows_of_uses (uses_of parts (usage_of mode).files)

-- what is found of a switch: the text of its use, or `false`
abbrev HasText : Mode → List Part → Found → Word → Type 0
HasText mode parts found name = one_text found name
    ≡ cond (has_row name (rows_in mode parts)) (one_of name (rows_in mode parts)) (Some (codes "false"))

text-found : (mode : Mode) (parts : List Part) (found : Found) (name : Word) → IsFound mode parts found
    → one_text found name ≡ one_of name (defaulted (usage_of mode).plain (rows_in mode parts))
text-found mode parts found name f =
    one_text-rows found name ∙ ap (one_of name) (f.rows ∙ finished mode (rows_in mode parts))

runs_text : (parts : List Part) (found : Found) → IsFound Localise parts found
    → HasText Localise parts found (codes "runs")
runs_text parts found f = text-found Localise parts found (codes "runs") f
    ∙ switch_text-among (codes "runs") [] (codes "places" ∷ codes "all" ∷ []) (rows_in Localise parts) refl
    refl

places_text : (parts : List Part) (found : Found) → IsFound Localise parts found
    → HasText Localise parts found (codes "places")
places_text parts found f = text-found Localise parts found (codes "places") f
    ∙ switch_text-among (codes "places") (codes "runs" ∷ []) (codes "all" ∷ []) (rows_in Localise parts) refl
    refl

all_text : (parts : List Part) (found : Found) → IsFound Localise parts found
    → HasText Localise parts found (codes "all")
all_text parts found f = text-found Localise parts found (codes "all") f
    ∙ switch_text-among (codes "all") (codes "runs" ∷ codes "places" ∷ []) [] (rows_in Localise parts) refl
    refl

all_text_of_check : (parts : List Part) (found : Found) → IsFound Check parts found
    → HasText Check parts found (codes "all")
all_text_of_check parts found f = text-found Check parts found (codes "all") f
    ∙ switch_text-among (codes "all") [] [] (rows_in Check parts) refl refl

switch-found : (mode : Mode) (parts : List Part) (found : Found) (name : Word) (given : Bool)
    → IsFound mode parts found
    → list_all (differs name) (usage_of mode).valued ≡ true
    → list_all (differs name) (usage_of mode).files ≡ true
    → stands name (usage_of mode).files ≡ false
    → HasText mode parts found name → IsRead found name given
    → stands name (options_in parts) ≡ given
switch-found mode parts found name given f valued files no_file text read =
    by (stands name (options_in parts)) refl
  where
    places : List Word
    places = (usage_of mode).files

    there : has_row name (rows_in mode parts) ≡ stands name (options_in parts)
    there = has_row-uses name (uses_of parts places) ∙ uses-stand name parts places no_file

    said : (b : Bool) → stands name (options_in parts) ≡ b
        → one_text found name ≡ cond b (one_of name (rows_in mode parts)) (Some (codes "false"))
    said b s = text
        ∙ ap (λ b. cond b (one_of name (rows_in mode parts)) (Some (codes "false"))) (there ∙ s)

    by : (b : Bool) → stands name (options_in parts) ≡ b → b ≡ given
    by true s = sym (read.on (said true s ∙ one_of-uses name (uses_of parts places)
        ∙ first-switch (usage_of mode) name parts places f.known valued files
        ∙ ap (λ b. cond b (Some (codes "true")) None) s))
    by false s = sym (read.off (said false s))

-- THE COMMAND of the parts is that of what was found

same_command : (mode : Mode) (parts : List Part) (found : Found) (runs places all : Bool)
    → IsFound mode parts found → AreRead found runs places all
    → command_of_parts mode parts ≡ command_with mode (first_value found) (first_value found) runs places all
same_command Localise parts found runs places all f read =
    let value = value-found Localise parts found in
    let place = file-found Localise parts found in
    let program = place (codes "PROGRAM") f refl refl in
    let input = place (codes "INPUT") f refl refl in
    let bound = value (codes "bound") f refl refl in
    let depth = value (codes "depth") f refl refl in
    let weights = value (codes "weights") f refl refl in
    let conflicts = value (codes "conflicts") f refl refl in
    let sets = value (codes "sets") f refl refl in
    let cert = value (codes "cert") f refl refl in
    let restart = value (codes "restart") f refl refl in
    let on = switch-found Localise parts found (codes "runs") runs f refl refl refl (runs_text parts found f)
    read.runs_read in
    let single = switch-found Localise parts found (codes "places") places f refl refl refl
    (places_text parts found f) read.places_read in
    let every = switch-found Localise parts found (codes "all") all f refl refl refl (all_text parts found f)
    read.all_read in
    λ i. localise_from (program i) (input i) (bounds_from (bound i) (depth i)) (weights i) (conflicts i)
    (sets i) (cert i) (on i) (single i) (every i) (restart i)
same_command Check parts found runs places all f read =
    let value = value-found Check parts found in
    let place = file-found Check parts found in
    let program = place (codes "PROGRAM") f refl refl in
    let input = place (codes "INPUT") f refl refl in
    let cert = place (codes "CERT") f refl refl in
    let bound = value (codes "bound") f refl refl in
    let depth = value (codes "depth") f refl refl in
    let weights = value (codes "weights") f refl refl in
    let conflicts = value (codes "conflicts") f refl refl in
    let sets = value (codes "sets") f refl refl in
    let every = switch-found Check parts found (codes "all") all f refl refl refl
    (all_text_of_check parts found f) read.all_read in
    λ i. check_from (program i) (input i) (cert i) (bounds_from (bound i) (depth i)) (weights i) (conflicts i)
    (sets i) (every i)
same_command Run parts found runs places all f read =
    let value = value-found Run parts found in
    let place = file-found Run parts found in
    let program = place (codes "PROGRAM") f refl refl in
    let input = place (codes "INPUT") f refl refl in
    let bound = value (codes "bound") f refl refl in
    let depth = value (codes "depth") f refl refl in
    λ i. run_from (program i) (input i) (bounds_from (bound i) (depth i))
same_command Rank parts found runs places all f read =
    let value = value-found Rank parts found in
    let place = file-found Rank parts found in
    let program = place (codes "PROGRAM") f refl refl in
    let inputs = place (codes "INPUTS") f refl refl in
    let bound = value (codes "bound") f refl refl in
    let depth = value (codes "depth") f refl refl in
    let weights = value (codes "weights") f refl refl in
    let conflicts = value (codes "conflicts") f refl refl in
    let sets = value (codes "sets") f refl refl in
    let restart = value (codes "restart") f refl refl in
    λ i. rank_from (program i) (inputs i) (bounds_from (bound i) (depth i)) (weights i) (conflicts i)
    (sets i) (restart i)
same_command Repair parts found runs places all f read =
    let value = value-found Repair parts found in
    let place = file-found Repair parts found in
    let program = place (codes "PROGRAM") f refl refl in
    let failing = place (codes "FAILING") f refl refl in
    let passing = place (codes "PASSING") f refl refl in
    let bound = value (codes "bound") f refl refl in
    let depth = value (codes "depth") f refl refl in
    let weights = value (codes "weights") f refl refl in
    let conflicts = value (codes "conflicts") f refl refl in
    let sets = value (codes "sets") f refl refl in
    let restart = value (codes "restart") f refl refl in
    λ i. repair_from (program i) (failing i) (passing i) (bounds_from (bound i) (depth i)) (weights i)
    (conflicts i) (sets i) (restart i)
same_command Sample parts found runs places all f read =
    let additions = file-found Sample parts found (codes "N") f refl refl in
    λ i. sample_from (number_of 1 500 (additions i))

-- A LINE THAT LACKS a file name, or `--bound`, is no command

localise-unbounded : (a b c d e f g : Option Word) (runs places all : Bool)
    → localise_from a b None c d e f runs places all g ≡ None
localise-unbounded None b c d e f g runs places all = refl
localise-unbounded (Some a) None c d e f g runs places all = refl
localise-unbounded (Some a) (Some b) c d e f g runs places all = refl

check-unbounded : (a b c d e f : Option Word) (all : Bool) → check_from a b c None d e f all ≡ None
check-unbounded None b c d e f all = refl
check-unbounded (Some a) None c d e f all = refl
check-unbounded (Some a) (Some b) None d e f all = refl
check-unbounded (Some a) (Some b) (Some c) d e f all = refl

run-unbounded : (a b : Option Word) → run_from a b None ≡ None
run-unbounded None b = refl
run-unbounded (Some a) None = refl
run-unbounded (Some a) (Some b) = refl

rank-unbounded : (a b c d e f : Option Word) → rank_from a b None c d e f ≡ None
rank-unbounded None b c d e f = refl
rank-unbounded (Some a) None c d e f = refl
rank-unbounded (Some a) (Some b) c d e f = refl

repair-unbounded : (a b c d e f g : Option Word) → repair_from a b c None d e f g ≡ None
repair-unbounded None b c d e f g = refl
repair-unbounded (Some a) None c d e f g = refl
repair-unbounded (Some a) (Some b) None d e f g = refl
repair-unbounded (Some a) (Some b) (Some c) d e f g = refl

unbounded : (mode : Mode) (place value : Word → Option Word) (runs places all : Bool)
    → stands (codes "bound") (usage_of mode).valued ≡ true
    → value (codes "bound") ≡ None → command_with mode place value runs places all ≡ None
unbounded Localise place value runs places all has none =
    ap (λ b. localise_from (place (codes "PROGRAM")) (place (codes "INPUT"))
    (bounds_from b (value (codes "depth"))) (value (codes "weights"))
    (value (codes "conflicts")) (value (codes "sets")) (value (codes "cert")) runs places all
    (value (codes "restart"))) none
    ∙ localise-unbounded (place (codes "PROGRAM")) (place (codes "INPUT")) (value (codes "weights"))
    (value (codes "conflicts"))
    (value (codes "sets")) (value (codes "cert")) (value (codes "restart")) runs places all
unbounded Check place value runs places all has none =
    ap (λ b. check_from (place (codes "PROGRAM")) (place (codes "INPUT")) (place (codes "CERT"))
    (bounds_from b (value (codes "depth")))
    (value (codes "weights")) (value (codes "conflicts")) (value (codes "sets")) all) none
    ∙ check-unbounded (place (codes "PROGRAM")) (place (codes "INPUT")) (place (codes "CERT"))
    (value (codes "weights"))
    (value (codes "conflicts")) (value (codes "sets")) all
unbounded Run place value runs places all has none =
    ap (λ b. run_from (place (codes "PROGRAM")) (place (codes "INPUT"))
    (bounds_from b (value (codes "depth")))) none
    ∙ run-unbounded (place (codes "PROGRAM")) (place (codes "INPUT"))
unbounded Rank place value runs places all has none =
    ap (λ b. rank_from (place (codes "PROGRAM")) (place (codes "INPUTS"))
    (bounds_from b (value (codes "depth"))) (value (codes "weights"))
    (value (codes "conflicts")) (value (codes "sets")) (value (codes "restart"))) none
    ∙ rank-unbounded (place (codes "PROGRAM")) (place (codes "INPUTS")) (value (codes "weights"))
    (value (codes "conflicts")) (value (codes "sets")) (value (codes "restart"))
unbounded Repair place value runs places all has none =
    ap (λ b. repair_from (place (codes "PROGRAM")) (place (codes "FAILING")) (place (codes "PASSING"))
    (bounds_from b (value (codes "depth"))) (value (codes "weights"))
    (value (codes "conflicts")) (value (codes "sets")) (value (codes "restart"))) none
    ∙ repair-unbounded (place (codes "PROGRAM")) (place (codes "FAILING")) (place (codes "PASSING"))
    (value (codes "weights")) (value (codes "conflicts")) (value (codes "sets")) (value (codes "restart"))
unbounded Sample place value runs places all has none = absurd (true≢false (sym has))

too_few : (mode : Mode) (files : List Word) (value : Word → Option Word) (runs places all : Bool)
    → nat_le (length files) (length (usage_of mode).files) ≡ true
    → (length files == length (usage_of mode).files) ≡ false
    → command_with mode (file_at (usage_of mode).files files) value runs places all ≡ None
too_few Localise [] value runs places all few lacks = refl
too_few Localise (a ∷ []) value runs places all few lacks = refl
too_few Localise (a ∷ b ∷ []) value runs places all few lacks = absurd (true≢false lacks)
too_few Localise (a ∷ b ∷ c ∷ files) value runs places all few lacks = absurd (three (length files) few)
  where
    three : (n : ℕ) → nat_le (suc (suc (suc n))) 2 ≡ true → ⊥
    three n e = grind (arith, nat_tests)
too_few Run [] value runs places all few lacks = refl
too_few Run (a ∷ []) value runs places all few lacks = refl
too_few Run (a ∷ b ∷ []) value runs places all few lacks = absurd (true≢false lacks)
too_few Run (a ∷ b ∷ c ∷ files) value runs places all few lacks = absurd (three (length files) few)
  where
    three : (n : ℕ) → nat_le (suc (suc (suc n))) 2 ≡ true → ⊥
    three n e = grind (arith, nat_tests)
too_few Check [] value runs places all few lacks = refl
too_few Check (a ∷ []) value runs places all few lacks = refl
too_few Check (a ∷ b ∷ []) value runs places all few lacks = refl
too_few Check (a ∷ b ∷ c ∷ []) value runs places all few lacks = absurd (true≢false lacks)
too_few Check (a ∷ b ∷ c ∷ d ∷ files) value runs places all few lacks = absurd (four (length files) few)
  where
    four : (n : ℕ) → nat_le (suc (suc (suc (suc n)))) 3 ≡ true → ⊥
    four n e = grind (arith, nat_tests)
too_few Rank [] value runs places all few lacks = refl
too_few Rank (a ∷ []) value runs places all few lacks = refl
too_few Rank (a ∷ b ∷ []) value runs places all few lacks = absurd (true≢false lacks)
too_few Rank (a ∷ b ∷ c ∷ files) value runs places all few lacks = absurd (three (length files) few)
  where
    three : (n : ℕ) → nat_le (suc (suc (suc n))) 2 ≡ true → ⊥
    three n e = grind (arith, nat_tests)
too_few Repair [] value runs places all few lacks = refl
too_few Repair (a ∷ []) value runs places all few lacks = refl
too_few Repair (a ∷ b ∷ []) value runs places all few lacks = refl
too_few Repair (a ∷ b ∷ c ∷ []) value runs places all few lacks = absurd (true≢false lacks)
too_few Repair (a ∷ b ∷ c ∷ d ∷ files) value runs places all few lacks = absurd (four (length files) few)
  where
    four : (n : ℕ) → nat_le (suc (suc (suc (suc n)))) 3 ≡ true → ⊥
    four n e = grind (arith, nat_tests)
too_few Sample [] value runs places all few lacks = refl
too_few Sample (a ∷ []) value runs places all few lacks = absurd (true≢false lacks)
too_few Sample (a ∷ b ∷ files) value runs places all few lacks = absurd (two (length files) few)
  where
    two : (n : ℕ) → nat_le (suc (suc n)) 1 ≡ true → ⊥
    two n e = grind (arith, nat_tests)

on_parts : (mode : Mode) (parts : List Part) → fits parts (usage_of mode).files ≡ true
    → are_distinct (options_in parts) ≡ true
    → command_on mode parts ≡ command_of_parts mode parts
on_parts mode parts fit distinct =
    by (length (files_in parts) == length (usage_of mode).files)
    (stands (codes "bound") (usage_of mode).valued)
    (stands (codes "bound") (options_in parts)) refl refl refl
  where
    whole : Option Command
    whole = command_of_parts mode parts

    by : (a b c : Bool) → (length (files_in parts) == length (usage_of mode).files) ≡ a
        → stands (codes "bound") (usage_of mode).valued ≡ b
        → stands (codes "bound") (options_in parts) ≡ c
        → cond (a && (are_distinct (options_in parts) && (not b || c))) whole None ≡ whole
    by false b c count has there =
        sym (too_few mode (files_in parts) (value_in parts) (stands (codes "runs") (options_in parts))
        (stands (codes "places") (options_in parts)) (stands (codes "all") (options_in parts))
        (sym (fits-length parts (usage_of mode).files) ∙ fit)
        count)
    by true true false count has there = ap (λ d. cond (d && false) whole None) distinct
        ∙ sym (unbounded mode (file_at (usage_of mode).files (files_in parts)) (value_in parts)
        (stands (codes "runs") (options_in parts)) (stands (codes "places") (options_in parts))
        (stands (codes "all") (options_in parts)) has
        (value-none parts (codes "bound") there))
    by true true true count has there = ap (λ d. cond (d && true) whole None) distinct
    by true false c count has there = ap (λ d. cond (d && true) whole None) distinct

-- THE ANSWERS

places_distinct : (mode : Mode) → are_distinct (usage_of mode).files ≡ true
places_distinct Localise = refl
places_distinct Check = refl
places_distinct Run = refl
places_distinct Rank = refl
places_distinct Repair = refl
places_distinct Sample = refl

valued_apart : (mode : Mode)
    → list_all (λ name. not (stands name (usage_of mode).files)) (usage_of mode).valued ≡ true
valued_apart Localise = refl
valued_apart Check = refl
valued_apart Run = refl
valued_apart Rank = refl
valued_apart Repair = refl
valued_apart Sample = refl

plain_apart : (mode : Mode)
    → list_all (λ name. not (stands name (usage_of mode).files)) (usage_of mode).plain ≡ true
plain_apart Localise = refl
plain_apart Check = refl
plain_apart Run = refl
plain_apart Rank = refl
plain_apart Repair = refl
plain_apart Sample = refl

same_distinct : (mode : Mode) (parts : List Part) → list_all (is_known (usage_of mode)) parts ≡ true
    → are_distinct (names_of_uses (uses_of parts (usage_of mode).files)) ≡ are_distinct (options_in parts)
same_distinct mode parts known = uses-distinct parts (usage_of mode).files (places_distinct mode)
    (each_option (usage_of mode) (λ name. not (stands name (usage_of mode).files)) parts known
    (valued_apart mode) (plain_apart mode))

-- what the parts come to, by the rules
taken-rules : (mode : Mode) (parts : List Part) → list_all (is_known (usage_of mode)) parts ≡ true
    → taken parts (usage_of mode).files []
    ≡ cond (fits parts (usage_of mode).files && are_distinct (options_in parts))
    (Some (rows_of_uses (uses_of parts (usage_of mode).files))) None
taken-rules mode parts known = taken-first parts (usage_of mode).files
    ∙ ap (λ d. cond (fits parts (usage_of mode).files && d)
    (Some (rows_of_uses (uses_of parts (usage_of mode).files))) None)
    (same_distinct mode parts known)

accepted-in : (mode : Mode) (words : List Word) → list_all (is_accepted (usage_of mode)) words ≡ true
    → command_in mode words ≡ option_and_then (command_on mode) (parts_of (usage_of mode) words)
accepted-in mode words ok =
    ap (λ b. cond b (option_and_then (command_on mode) (parts_of (usage_of mode) words)) None) ok

pub answered : (mode : Mode) (first : Word) (words : List Word) (found : Found) (runs places all : Bool)
    → list_all (is_readable (usage_of mode)) words ≡ true
    → fault_of (app_for (usage_of mode)) (first ∷ words) ≡ []
    → rows_of found ≡ matches_of (app_for (usage_of mode)) (first ∷ words) → AreRead found runs places all
    → command_in mode (split_words (usage_of mode) words)
    ≡ command_with mode (first_value found) (first_value found) runs places all
answered mode first words found runs places all ok none is read =
    accepted-in mode (split_words u words) (readable_accepted u words ok)
    ∙ by (parts_of u (split_words u words)) refl walked
  where
    u : Usage
    u = usage_of mode

    kinds : Kinds
    kinds = faults_from (rules_in u) (walk_at (held [] None) idle 1) words

    rows : List Row
    rows = rows_from (rules_in u) (walk_at (held [] None) idle 1) words

    no_fault : kinds ≡ []
    no_fault = sym (fault_of-walk u first words) ∙ none

    walked : Agrees kinds rows (taken_all u.files (parts_of u (split_words u words)) [])
    walked = whole_walk u (rules_in u) (fits_mode mode) words ok

    chosen : (parts : List Part) (f d : Bool) → fits parts u.files ≡ f → are_distinct (options_in parts) ≡ d
        → list_all (is_known u) parts ≡ true
        → Agrees kinds rows (cond (f && d) (Some (rows_of_uses (uses_of parts u.files))) None)
        → command_on mode parts ≡ command_with mode (first_value found) (first_value found) runs places all
    chosen parts true true f d known agrees = on_parts mode parts f d
        ∙ same_command mode parts found runs places all (record {
          known = known;
          rows = is ∙ ap (λ r. fold with_default r (rules_in u)) agrees.1;
        }) read
    chosen parts true false f d known agrees = absurd (agrees no_fault)
    chosen parts false d f e known agrees = absurd (agrees no_fault)

    by : (o : Option (List Part)) → parts_of u (split_words u words) ≡ o
        → Agrees kinds rows (taken_all u.files o [])
        → option_and_then (command_on mode) o ≡ command_with mode (first_value found) (first_value found) runs
        places all
    by None are agrees = absurd (agrees no_fault)
    by (Some parts) are agrees =
        let known = parts-known u (split_words u words) parts are in
        chosen parts (fits parts u.files) (are_distinct (options_in parts)) refl refl known
        (subst (Agrees kinds rows) (taken-rules mode parts known) agrees)

-- words in which `clap` finds a fault
pub faulty_refused : (mode : Mode) (first : Word) (words : List Word)
    → list_all (is_readable (usage_of mode)) words ≡ true
    → (fault_of (app_for (usage_of mode)) (first ∷ words) ≡ [] → ⊥)
    → command_in mode (split_words (usage_of mode) words) ≡ None
faulty_refused mode first words ok faulty =
    accepted-in mode (split_words u words) (readable_accepted u words ok)
    ∙ by (parts_of u (split_words u words)) refl walked
  where
    u : Usage
    u = usage_of mode

    kinds : Kinds
    kinds = faults_from (rules_in u) (walk_at (held [] None) idle 1) words

    rows : List Row
    rows = rows_from (rules_in u) (walk_at (held [] None) idle 1) words

    some_fault : kinds ≡ [] → ⊥
    some_fault none = faulty (fault_of-walk u first words ∙ none)

    walked : Agrees kinds rows (taken_all u.files (parts_of u (split_words u words)) [])
    walked = whole_walk u (rules_in u) (fits_mode mode) words ok

    exact : (m n : ℕ) → (m == n) ≡ true → nat_le m n ≡ true
    exact m n e = grind (arith, nat_tests)

    chosen : (parts : List Part) (f d : Bool) → fits parts u.files ≡ f → are_distinct (options_in parts) ≡ d
        → Agrees kinds rows (cond (f && d) (Some (rows_of_uses (uses_of parts u.files))) None)
        → is_line u parts ≡ false
    chosen parts true true f d agrees = absurd (some_fault agrees.0)
    chosen parts true false f d agrees =
        ap (λ e. (length (files_in parts) == length u.files) && (e && has_bound u (options_in parts))) d
        ∙ and-false (length (files_in parts) == length u.files)
    chosen parts false d f e agrees = count (length (files_in parts) == length u.files) refl
      where
        count : (b : Bool) → (length (files_in parts) == length u.files) ≡ b
            → (b && (are_distinct (options_in parts) && has_bound u (options_in parts))) ≡ false
        count true same = absurd (not_both (fits parts u.files)
            (fits-length parts u.files ∙ exact (length (files_in parts)) (length u.files) same) f)
        count false same = refl

    by : (o : Option (List Part)) → parts_of u (split_words u words) ≡ o
        → Agrees kinds rows (taken_all u.files o [])
        → option_and_then (command_on mode) o ≡ None
    by None are agrees = refl
    by (Some parts) are agrees = ap (λ b. cond b (command_of_parts mode parts) None)
        (chosen parts (fits parts u.files) (are_distinct (options_in parts)) refl refl
        (subst (Agrees kinds rows) (taken-rules mode parts (parts-known u (split_words u words) parts are))
        agrees))

-- words that are refused before
pub unread_refused : (mode : Mode) (words : List Word) → list_all (is_readable (usage_of mode)) words ≡ false
    → command_in mode (split_words (usage_of mode) words) ≡ None
unread_refused mode words unread = by (unreadable_refused (usage_of mode) words unread)
  where
    split : List Word
    split = split_words (usage_of mode) words

    by : IsRefused (usage_of mode) split → command_in mode split ≡ None
    by (inl e) = ap (λ b. cond b (option_and_then (command_on mode) (parts_of (usage_of mode) split)) None) e
    by (inr e) = ap (λ o. cond (list_all (is_accepted (usage_of mode)) split)
        (option_and_then (command_on mode) o) None) e
        ∙ same_either (list_all (is_accepted (usage_of mode)) split) None
