-- The rows at the end, with the defaults of what was not used.
use Rattle.std.proofs.Common.{◌≡◌, Bool, true, false, cond, ◌||◌, Option, None, Some, List, [], ◌∷◌, ◌++◌, codes, refl, sym, ap, ◌∙◌, fold}
use Rattle.std.specs.Prelude.{option_and_then, find, is_some}
use Rattle.std.specs.List.{AllByRecursion}
use Rattle.std.specs.Str.{bytes_eq}
use Rattle.clap.specs.Faults.{defaults_fault, given_default_fault}
use Rattle.clap.specs.Kinds.{or_else}
use Rattle.clap.specs.Simple.{filled}
use Rattle.clap.specs.Walk.{Row, Rule, default_rows, has_row, is_empty, more_values, one_of, reading_by, row_text, with_default}
use Rattle.clap.specs.declared.builder.value_parser.Reading.TheVariants.{AsWritten}
use Rattle.clap.specs.declared.parser.matches.ValueSource.TheVariants.{DefaultValue}
use Rattle.ba_commands.specs.Modes.{Word}
use Rattle.ba_commands.specs.Parsing.{rule_for}
use Rattle.ba_commands.specs.declared.parsing.Role.TheVariants.{Plain}
use Rattle.ba_commands.proofs.Testing.{eq_self, neither, same_either}
use Rattle.ba_commands.proofs.Rows.{at_row-none, row}

-- defaults are values that pass
pub defaults_pass : (rules : List Rule)
    → AllByRecursion (λ (a : Rule). given_default_fault a a.defaults ≡ []) rules → (rows : List Row)
    → defaults_fault rows rules ≡ []
unfolding defaults_fault
defaults_pass [] each rows = refl
defaults_pass (a ∷ rules) each rows =
    ap (λ kinds. or_else (cond (has_row a.id rows || is_empty a.defaults) [] kinds)
    (defaults_fault (with_default rows a) rules)) each.0
    ∙ ap (λ kinds. or_else kinds (defaults_fault (with_default rows a) rules))
    (same_either (has_row a.id rows || is_empty a.defaults) [])
    ∙ defaults_pass rules each.1 (with_default rows a)

-- an argument without a default adds nothing
abbrev pub HasNoDefault : Rule → Type 0
HasNoDefault a = a.defaults ≡ []

no_default : (a : Rule) (rows : List Row) → HasNoDefault a → with_default rows a ≡ rows
no_default a rows none =
    ap (λ values. cond (has_row a.id rows) rows (default_rows a.id (reading_by a) values rows)) none
    ∙ same_either (has_row a.id rows) rows

pub no_defaults : (rules : List Rule) (rows : List Row) → AllByRecursion HasNoDefault rules
    → fold with_default rows rules ≡ rows
no_defaults [] rows none = refl
no_defaults (a ∷ rules) rows none =
    ap (λ r. fold with_default r rules) (no_default a rows none.0) ∙ no_defaults rules rows none.1

pub defaults_behind : (before behind : List Rule) (rows : List Row) → AllByRecursion HasNoDefault before
    → fold with_default rows (before ++ behind) ≡ fold with_default rows behind
defaults_behind [] behind rows b = refl
defaults_behind (x ∷ before) behind rows b =
    ap (λ r. fold with_default r (before ++ behind)) (no_default x rows b.0)
    ∙ defaults_behind before behind rows b.1

-- A SWITCH, whose default is `false`

abbrev pub switch_rule : Word → Rule
switch_rule name = filled (rule_for Plain name)

abbrev default_row : Word → Row
default_row name = record (row name (codes "false")) { source = Some DefaultValue }

switched_off : (name : Word) (rows : List Row) → has_row name rows ≡ false
    → with_default rows (switch_rule name) ≡ rows ++ default_row name ∷ []
switched_off name rows none =
    ap (λ b. cond b rows (default_rows name AsWritten (codes "false" ∷ []) rows)) none
    ∙ at_row-none name (more_values DefaultValue (codes "false" ∷ [])) (default_row name ∷ []) rows none

switched_on : (name : Word) (rows : List Row) → has_row name rows ≡ true
    → with_default rows (switch_rule name) ≡ rows
switched_on name rows there =
    ap (λ b. cond b rows (default_rows name AsWritten (codes "false" ∷ []) rows)) there

find-append : (id : Word) (rows : List Row) (r : Row) → bytes_eq r.id id ≡ false
    → find (λ (r : Row). bytes_eq r.id id) (rows ++ r ∷ []) ≡ find (λ (r : Row). bytes_eq r.id id) rows
find-append id [] r e = ap (λ b. cond b (Some r) None) e
find-append id (x ∷ rows) r e = ap (cond (bytes_eq x.id id) (Some x)) (find-append id rows r e)

find-last : (name : Word) (rows : List Row) (r : Row) → has_row name rows ≡ false → bytes_eq r.id name ≡ true
    → find (λ (r : Row). bytes_eq r.id name) (rows ++ r ∷ []) ≡ Some r
find-last name [] r none here = ap (λ b. cond b (Some r) None) here
find-last name (x ∷ rows) r none here =
    let each = neither (bytes_eq x.id name) (has_row name rows) none in
    ap (λ b. cond b (Some x) (find (λ (r : Row). bytes_eq r.id name) (rows ++ r ∷ []))) each.0
    ∙ find-last name rows r each.1 here

-- THE DEFAULT OF A SWITCH hides no other argument

pub find-finished : (id name : Word) (rows : List Row) → bytes_eq name id ≡ false
    → find (λ (r : Row). bytes_eq r.id id) (with_default rows (switch_rule name))
    ≡ find (λ (r : Row). bytes_eq r.id id) rows
find-finished id name rows e = by (has_row name rows) refl
  where
    by : (b : Bool) → has_row name rows ≡ b
        → find (λ (r : Row). bytes_eq r.id id) (with_default rows (switch_rule name))
        ≡ find (λ (r : Row). bytes_eq r.id id) rows
    by true there = ap (find (λ (r : Row). bytes_eq r.id id)) (switched_on name rows there)
    by false none = ap (find (λ (r : Row). bytes_eq r.id id)) (switched_off name rows none)
        ∙ find-append id rows (default_row name) e

has_row-found : (id : Word) (rows : List Row)
    → has_row id rows ≡ is_some (find (λ (r : Row). bytes_eq r.id id) rows)
has_row-found id [] = refl
has_row-found id (r ∷ rows) = by (bytes_eq r.id id) (has_row-found id rows)
  where
    others : Option Row
    others = find (λ (r : Row). bytes_eq r.id id) rows

    by : (b : Bool) → has_row id rows ≡ is_some others → (b || has_row id rows) ≡ is_some (cond b (Some r)
        others)
    by true h = refl
    by false h = h

pub has_row-finished : (id name : Word) (rows : List Row) → bytes_eq name id ≡ false
    → has_row id (with_default rows (switch_rule name)) ≡ has_row id rows
has_row-finished id name rows e = has_row-found id (with_default rows (switch_rule name))
    ∙ ap is_some (find-finished id name rows e) ∙ sym (has_row-found id rows)

-- THE TEXT OF A SWITCH at the end: that of its use, or `false`
pub switch_text : (name : Word) (rows : List Row) (is_used : Bool) → has_row name rows ≡ is_used
    → one_of name (with_default rows (switch_rule name))
    ≡ cond is_used (one_of name rows) (Some (codes "false"))
switch_text name rows true there = ap (one_of name) (switched_on name rows there)
switch_text name rows false none = ap (one_of name) (switched_off name rows none)
    ∙ ap (option_and_then row_text) (find-last name rows (default_row name) none (eq_self name))
