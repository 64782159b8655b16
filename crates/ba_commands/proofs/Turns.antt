-- One word more, as `clap` walks over the words.
use Rattle.std.proofs.Math.Bool.{and-false}
use Rattle.std.proofs.Common.{◌≡◌, ℕ, suc, ◌+◌, ◌==◌, Bool, true, false, cond, not, min, nat_lt, Option, None, Some, List, [], ◌∷◌, ◌++◌, codes, refl, sym, ap, ap₂, ◌∙◌, arith, true≢false}
use Rattle.std.specs.Option.{option_map_or}
use Rattle.std.specs.Str.{bytes_eq}
use Rattle.std.proofs.lemmas.Bool.Decides.{nat_tests}
use Rattle.clap.specs.Faults.{bundle_fault, flag_word_fault, long_fault, other_fault, positional_fault, repeat_fault, settle_fault, step_fault, stray_fault, turn_fault, use_fault, word_fault}
use Rattle.clap.specs.Kinds.{Kinds, or_else}
use Rattle.clap.specs.Lexer.{long_of, short_of, usize_max}
use Rattle.clap.specs.Simple.{Shape, filled, new_shape, with_index}
use Rattle.clap.specs.Walk.{Held, Row, Rule, Step, Waiting, Walk, after_flag, after_step, arg_by_id, arg_by_index, arg_by_long, idle, is_pending, long_met, long_or_other, long_word, next as goes_on, option_word as option_value, plain_word, positional, pushed, reacted, settled, short_or_plain, subcommand_met, subcommand_or_other, to_positional, trailing, value as goes_to_file, walked, with_values, without, word_met}
use Rattle.clap.specs.Walk.{option as option_waits}
use Rattle.clap.specs.declared.builder.value_parser.Reading.TheVariants.{AsWritten}
use Rattle.clap.specs.declared.error.kind.ErrorKind.TheVariants.{InvalidValue, UnknownArgument}
use Rattle.clap.specs.declared.parser.matches.ValueSource.TheVariants.{CommandLine}
use Rattle.ba_commands.specs.Modes.{Word}
use Rattle.ba_commands.specs.Words.{is_plain, option_word}
use Rattle.ba_commands.specs.Parsing.{rule_for}
use Rattle.ba_commands.specs.declared.parsing.Role.TheVariants.{Valued, Plain, File}
use Rattle.ba_commands.proofs.Testing.{eq_self}
use Rattle.ba_commands.proofs.Rows.{TakesOne, held, or_else-nil}

-- a command with these arguments, as it is built
abbrev pub shape_for : List Rule → Shape
shape_for rules = record (new_shape (codes "bugassist")) {
  rules = rules;
  disable_help_flag = true;
  disable_help_subcommand = true;
  is_built = true;
}

-- between two words
abbrev pub walk_at : Held → Waiting → ℕ → Walk
walk_at h waiting place =
    record { held = h; waiting = waiting; position = place; is_trailing = false; stopped = None }

-- WHAT A WORD IS

no_subcommand : (waiting : Waiting) (word : Word) → subcommand_met [] waiting word ≡ None
no_subcommand idle word = refl
no_subcommand (option_waits id) word = refl
no_subcommand positional word = refl

-- neither `--` nor an option
record IsNoFlag (word : Word) : Type 0 where
  no_end : bytes_eq word (45 ∷ 45 ∷ []) ≡ false
  no_long : long_of word ≡ None
  no_short : short_of word ≡ None

plain_no_flag : (word : Word) → is_plain word ≡ true → IsNoFlag word
plain_no_flag [] p = absurd (true≢false (sym p))
plain_no_flag (b ∷ bs) p = by (b == 45) (45 == b) (ends b p) (begins b p)
  where
    ends : (b : ℕ) → not (b == 45) ≡ true → (b == 45) ≡ false
    ends b p = grind (arith, nat_tests)

    begins : (b : ℕ) → not (b == 45) ≡ true → (45 == b) ≡ false
    begins b p = grind (arith, nat_tests)

    by : (s t : Bool) → (b == 45) ≡ false → (45 == b) ≡ false → IsNoFlag (b ∷ bs)
    by s t e f = record { no_end = rw e refl; no_long = rw e refl; no_short = rw e refl }

-- an option word, and what stands behind its `=`
pub record IsFlag (word name : Word) (value : Option Word) : Type 0 where
  pub no_end : bytes_eq word (45 ∷ 45 ∷ []) ≡ false
  pub long : long_of word ≡ Some (name, value)

met_long : (rules : List Rule) (waiting : Waiting) (place : ℕ) (word name : Word) (value : Option Word)
    (h : Held) → IsFlag word name value
    → word_met rules [] false waiting place word h ≡ long_word rules waiting word name value h
met_long rules waiting place word name value h f =
    ap (λ o. subcommand_or_other rules o waiting place word h) (no_subcommand waiting word)
    ∙ ap (λ b. cond b (h, trailing place) (long_or_other rules waiting word (long_of word) h)) f.no_end
    ∙ ap (λ o. long_or_other rules waiting word o h) f.long

fault_long : (rules : List Rule) (waiting : Waiting) (word name : Word) (value : Option Word) (h : Held)
    → IsFlag word name value
    → word_fault (shape_for rules) [] false waiting word h
    ≡ long_fault rules false (arg_by_long rules name) value h
fault_long rules waiting word name value h f =
    ap (λ o. other_fault (shape_for rules) o word h) (no_subcommand waiting word)
    ∙ ap (λ b. cond b [] (flag_word_fault rules false (long_of word) word h)) f.no_end
    ∙ ap (λ o. flag_word_fault rules false o word h) f.long

met_plain : (rules : List Rule) (waiting : Waiting) (place : ℕ) (word : Word) (h : Held) → IsNoFlag word
    → word_met rules [] false waiting place word h ≡ plain_word rules waiting word h
met_plain rules waiting place word h f =
    ap (λ o. subcommand_or_other rules o waiting place word h) (no_subcommand waiting word)
    ∙ ap (λ b. cond b (h, trailing place) (long_or_other rules waiting word (long_of word) h)) f.no_end
    ∙ ap (λ o. long_or_other rules waiting word o h) f.no_long
    ∙ ap (λ o. short_or_plain rules waiting word o h) f.no_short

fault_plain : (rules : List Rule) (waiting : Waiting) (word : Word) (h : Held) → IsNoFlag word
    → word_fault (shape_for rules) [] false waiting word h ≡ []
fault_plain rules waiting word h f =
    ap (λ o. other_fault (shape_for rules) o word h) (no_subcommand waiting word)
    ∙ ap (λ b. cond b [] (flag_word_fault rules false (long_of word) word h)) f.no_end
    ∙ ap (λ o. flag_word_fault rules false o word h) f.no_long
    ∙ ap (λ o. option_map_or (λ flags. bundle_fault rules false flags h) o []) f.no_short

-- a turn by what the word is and by its fault
pub record IsTurn (rules : List Rule) (h : Held) (waiting : Waiting) (place : ℕ) (word : Word) (kinds : Kinds)
    (next : Walk) : Type 0 where
  pub fault : turn_fault (shape_for rules) [] (walk_at h waiting place) word ≡ kinds
  pub after : walked rules [] (walk_at h waiting place) word ≡ next

turn : (rules : List Rule) (h : Held) (waiting : Waiting) (place : ℕ) (word : Word) (met : Held × Step)
    (fault : Kinds)
    → word_met rules [] false waiting place word h ≡ met
    → word_fault (shape_for rules) [] false waiting word h ≡ fault
    → IsTurn rules h waiting place word (or_else fault (step_fault (shape_for rules) place met.0 met.1))
    (after_step rules word (walk_at h waiting place) met.0 met.1)
unfolding walked
turn rules h waiting place word met fault m f = record {
  fault = ap₂ (λ (p : Held × Step) (k : Kinds). or_else k (step_fault (shape_for rules) place p.0 p.1)) m f;
  after = ap (λ (p : Held × Step). after_step rules word (walk_at h waiting place) p.0 p.1) m;
}

-- THE ARGUMENTS of a command

pub record ReadsOption (rules : List Rule) (name : Word) : Type 0 where
  pub alone : IsFlag (option_word name) name None
  pub attached : (text : Word) → IsFlag (option_word name ++ 61 ∷ text) name (Some text)
  pub by_long : arg_by_long rules name ≡ Some (filled (rule_for Valued name))
  pub by_id : arg_by_id rules name ≡ Some (filled (rule_for Valued name))

pub record ReadsSwitch (rules : List Rule) (name : Word) : Type 0 where
  pub alone : IsFlag (option_word name) name None
  pub by_long : arg_by_long rules name ≡ Some (filled (rule_for Plain name))

abbrev pub file_rule : ℕ → Word → Rule
file_rule place name = with_index place (filled (rule_for File name))

-- the places from this one on are those of these names
abbrev pub ArePlaces : List Rule → ℕ → List Word → Type 0
ArePlaces rules place [] = arg_by_index rules place ≡ None
ArePlaces rules place (name ∷ names) = (arg_by_index rules place ≡ Some (file_rule place name))
    × (arg_by_id rules name ≡ Some (file_rule place name)) × (min (place + 1) usize_max ≡ suc place)
    × ArePlaces rules (suc place) names

pub option_takes_one : (rules : List Rule) (name : Word) → ReadsOption rules name → TakesOne rules name
option_takes_one rules name r = record {
  rule = filled (rule_for Valued name);
  by_id = r.by_id;
  fault = λ value rows. or_else-nil (repeat_fault false name rows);
  use_of = λ value rows. refl;
}

pub place_takes_one : (rules : List Rule) (place : ℕ) (name : Word)
    → arg_by_id rules name ≡ Some (file_rule place name) → TakesOne rules name
place_takes_one rules place name by_id = record {
  rule = file_rule place name;
  by_id = by_id;
  fault = λ value rows. or_else-nil (repeat_fault false name rows);
  use_of = λ value rows. refl;
}

-- THE TURNS

-- an option with a value waits for it
pub option_turn : (rules : List Rule) (name : Word) (h : Held) (waiting : Waiting) (place : ℕ)
    → ReadsOption rules name
    → IsTurn rules h waiting place (option_word name) (or_else (settle_fault rules false h) [])
    (walk_at (record (settled rules h) { pending = Some (name, []) }) (option_waits name) place)
option_turn rules name h waiting place r =
    let word = option_word name in
    turn rules h waiting place word
    (record (settled rules h) { pending = Some (name, []) }, goes_on (option_waits name))
    (settle_fault rules false h)
    (met_long rules waiting place word name None h r.alone
    ∙ ap (λ o. after_flag rules waiting word (long_met rules o None h).0 (long_met rules o None h).1)
    r.by_long)
    (fault_long rules waiting word name None h r.alone ∙ ap (λ o. long_fault rules false o None h) r.by_long)

-- an option with its value behind `=`
pub attached_turn : (rules : List Rule) (name text : Word) (h : Held) (waiting : Waiting) (place : ℕ)
    → ReadsOption rules name
    → IsTurn rules h waiting place (option_word name ++ 61 ∷ text)
    (or_else (or_else (settle_fault rules false h) (repeat_fault false name (settled rules h).rows)) [])
    (walk_at (record h {
      rows = with_values name AsWritten CommandLine (text ∷ []) (without name (settled rules h).rows);
      pending = None;
    }) idle place)
attached_turn rules name text h waiting place r =
    let word = option_word name ++ 61 ∷ text in
    let rule = filled (rule_for Valued name) in
    turn rules h waiting place word (reacted rules rule (text ∷ []) h, goes_on idle)
    (or_else (settle_fault rules false h) (repeat_fault false name (settled rules h).rows))
    (met_long rules waiting place word name (Some text) h (r.attached text)
    ∙ ap (λ o. after_flag rules waiting word (long_met rules o (Some text) h).0
    (long_met rules o (Some text) h).1) r.by_long)
    (fault_long rules waiting word name (Some text) h (r.attached text)
    ∙ ap (λ o. long_fault rules false o (Some text) h) r.by_long
    ∙ ap (or_else (settle_fault rules false h))
    (or_else-nil (repeat_fault false name (settled rules h).rows)))

-- an option without a value
pub switch_turn : (rules : List Rule) (name : Word) (h : Held) (waiting : Waiting) (place : ℕ)
    → ReadsSwitch rules name
    → IsTurn rules h waiting place (option_word name)
    (or_else (or_else (settle_fault rules false h) (repeat_fault false name (settled rules h).rows)) [])
    (walk_at (record h {
      rows = with_values name AsWritten CommandLine (codes "true" ∷ []) (without name (settled rules h).rows);
      pending = None;
    }) idle place)
switch_turn rules name h waiting place r =
    let word = option_word name in
    let rule = filled (rule_for Plain name) in
    turn rules h waiting place word (reacted rules rule [] h, goes_on idle)
    (or_else (settle_fault rules false h) (repeat_fault false name (settled rules h).rows))
    (met_long rules waiting place word name None h r.alone
    ∙ ap (λ o. after_flag rules waiting word (long_met rules o None h).0 (long_met rules o None h).1)
    r.by_long)
    (fault_long rules waiting word name None h r.alone ∙ ap (λ o. long_fault rules false o None h) r.by_long
    ∙ ap (or_else (settle_fault rules false h))
    (or_else-nil (repeat_fault false name (settled rules h).rows)))

-- a value behind its option
pub value_turn : (rules : List Rule) (name word : Word) (rows : List Row) (place : ℕ) → ReadsOption rules name
    → is_plain word ≡ true
    → IsTurn rules (held rows (Some (name, []))) (option_waits name) place word []
    (walk_at (held rows (Some (name, word ∷ []))) idle place)
value_turn rules name word rows place r p =
    let h = held rows (Some (name, [])) in
    turn rules h (option_waits name) place word (held rows (Some (name, word ∷ [])), goes_on idle) []
    (met_plain rules (option_waits name) place word h (plain_no_flag word p)
    ∙ ap (λ o. ((option_value o name word h).0, goes_on (option_value o name word h).1)) r.by_id
    ∙ ap (λ b. (
      held rows (Some (name, word ∷ [])),
      goes_on
          (cond (nat_lt (cond b 1 0) 1) (option_waits name) idle),
    )) (eq_self name))
    (fault_plain rules (option_waits name) word h (plain_no_flag word p))

-- a file name in its place
pub file_turn : (rules : List Rule) (name word : Word) (h : Held) (place : ℕ)
    → arg_by_index rules place ≡ Some (file_rule place name)
    → min (place + 1) usize_max ≡ suc place → is_plain word ≡ true
    → IsTurn rules h idle place word (settle_fault rules false h)
    (walk_at (record (settled rules h) { pending = Some (name, word ∷ []) }) idle (suc place))
file_turn rules name word h place there more p = record { fault = t.fault ∙ faults; after = t.after ∙ goes }
  where
    rule : Rule
    rule = file_rule place name

    t : IsTurn rules h idle place word (step_fault (shape_for rules) place h goes_to_file)
        (to_positional rules (arg_by_index rules place) word (walk_at h idle place) h)
    t = turn rules h idle place word (h, goes_to_file) []
        (met_plain rules idle place word h (plain_no_flag word p))
        (fault_plain rules idle word h (plain_no_flag word p))

    faults : step_fault (shape_for rules) place h goes_to_file ≡ settle_fault rules false h
    faults = ap (λ o. option_map_or (λ (a : Rule). positional_fault rules false a h) o
        (stray_fault (shape_for rules))) there
        ∙ ap (λ b. cond b [] (settle_fault rules false h))
        (and-false (is_pending (file_rule place name) h.pending))

    goes : to_positional rules (arg_by_index rules place) word (walk_at h idle place) h
        ≡ walk_at (record (settled rules h) { pending = Some (name, word ∷ []) }) idle (suc place)
    goes = ap (λ o. to_positional rules o word (walk_at h idle place) h) there
        ∙ ap (λ b. walk_at (pushed name word (cond b h (settled rules h))) idle (min (place + 1) usize_max))
        (and-false (is_pending (file_rule place name) h.pending))
        ∙ ap (λ n. walk_at (record (settled rules h) { pending = Some (name, word ∷ []) }) idle n) more

-- a file name too many
pub stray_turn : (rules : List Rule) (word : Word) (h : Held) (place : ℕ) → arg_by_index rules place ≡ None
    → is_plain word ≡ true
    → turn_fault (shape_for rules) [] (walk_at h idle place) word ≡ UnknownArgument ∷ []
stray_turn rules word h place none p =
    (turn rules h idle place word (h, goes_to_file) []
    (met_plain rules idle place word h (plain_no_flag word p))
    (fault_plain rules idle word h (plain_no_flag word p))).fault
    ∙ ap (λ o. option_map_or (λ (a : Rule). positional_fault rules false a h) o
    (stray_fault (shape_for rules))) none

-- an option that goes without its value
pub no_value_fault : (rules : List Rule) (name : Word) (rows : List Row) → ReadsOption rules name
    → settle_fault rules false (held rows (Some (name, []))) ≡ InvalidValue ∷ []
no_value_fault rules name rows r =
    ap (λ o. option_map_or (λ (a : Rule). use_fault false a [] rows) o []) r.by_id
