-- The rows of the matches of `clap`, and what it makes of one use of an argument.
use Rattle.std.proofs.Common.{◌≡◌, Bool, true, false, cond, ◌&&◌, Option, None, Some, List, [], ◌∷◌, ◌++◌, refl, sym, ap, ◌∙◌, subst, append-nil}
use Rattle.std.specs.Option.{option_map_or}
use Rattle.std.specs.Str.{bytes_eq}
use Rattle.clap.specs.Faults.{repeat_fault, settle_fault, use_fault}
use Rattle.clap.specs.Kinds.{Kinds, or_else}
use Rattle.clap.specs.Walk.{Held, Row, Rule, arg_by_id, at_row, has_row, more_values, settled_rows, used, used_by_id, with_values, without}
use Rattle.clap.specs.declared.builder.value_parser.Reading.TheVariants.{AsWritten}
use Rattle.clap.specs.declared.error.kind.ErrorKind.TheVariants.{ArgumentConflict}
use Rattle.clap.specs.declared.parser.matches.ValueSource.TheVariants.{CommandLine}
use Rattle.ba_commands.specs.Modes.{Word}
use Rattle.ba_commands.proofs.Testing.{neither, same_either}

-- the row of an argument with this value
abbrev pub row : Word → Word → Row
row name value =
    record { id = name; values = value ∷ []; count = None; source = Some CommandLine; reading = AsWritten }

pub at_row-none : (id : Word) (change : Row → List Row) (missing rows : List Row) → has_row id rows ≡ false
    → at_row id change missing rows ≡ rows ++ missing
at_row-none id change missing [] none = refl
at_row-none id change missing (r ∷ rows) none =
    let each = neither (bytes_eq r.id id) (has_row id rows) none in
    ap (λ b. cond b (change r ++ rows) (r ∷ at_row id change missing rows)) each.0
    ∙ ap (λ rest. r ∷ rest) (at_row-none id change missing rows each.1)

-- the rows after a use with this value
abbrev pub used_rows : Word → Word → List Row → List Row
used_rows name value rows = with_values name AsWritten CommandLine (value ∷ []) (without name rows)

pub added : (name value : Word) (rows : List Row) → has_row name rows ≡ false
    → with_values name AsWritten CommandLine (value ∷ []) (without name rows) ≡ rows ++ row name value ∷ []
added name value rows none =
    ap (with_values name AsWritten CommandLine (value ∷ [])) (at_row-none name (λ _. []) [] rows none
    ∙ append-nil rows)
    ∙ at_row-none name (more_values CommandLine (value ∷ [])) (row name value ∷ []) rows none

-- FAULTS, one after the other

pub or_else-assoc : (a b c : Kinds) → or_else (or_else a b) c ≡ or_else a (or_else b c)
or_else-assoc [] b c = refl
or_else-assoc (k ∷ ks) b c = refl

pub or_else-nil : (a : Kinds) → or_else a [] ≡ a
or_else-nil [] = refl
or_else-nil (k ∷ ks) = refl

pub fails_first : (a b : Kinds) → (a ≡ [] → ⊥) → or_else a b ≡ [] → ⊥
fails_first [] b fails e = fails refl
fails_first (k ∷ ks) b fails e = fails e

pub fails_then : (a b : Kinds) → (b ≡ [] → ⊥) → or_else a b ≡ [] → ⊥
fails_then [] b fails e = fails e
fails_then (k ∷ ks) b fails e = cc

-- WHAT WORDS COME TO: rows, or a fault

-- one argument more, which may not be there yet
abbrev pub put : Word → Word → List Row → (List Row → Option (List Row)) → Option (List Row)
put name value rows next = cond (has_row name rows) None (next (rows ++ row name value ∷ []))

-- the argument that is pending, with its value, comes first
abbrev pub settle : Option (Word × Word) → List Row → (List Row → Option (List Row)) → Option (List Row)
settle None rows next = next rows
settle (Some p) rows next = put p.0 p.1 rows next

pub put-none : (name value : Word) (rows : List Row) → put name value rows (λ _. None) ≡ None
put-none name value rows = same_either (has_row name rows) None

-- the faults and the rows at the end are those that are expected
abbrev pub Agrees : Kinds → List Row → Option (List Row) → Type 0
Agrees kinds found None = kinds ≡ [] → ⊥
Agrees kinds found (Some expected) = (kinds ≡ []) × (found ≡ expected)

pub use_agrees : (name value : Word) (rows found : List Row) (kinds : Kinds) (next : List Row
    → Option (List Row))
    → Agrees kinds found (next (with_values name AsWritten CommandLine (value ∷ []) (without name rows)))
    → Agrees (or_else (repeat_fault false name rows) kinds) found (put name value rows next)
use_agrees name value rows found kinds next h = by (has_row name rows) refl
  where
    by : (b : Bool) → has_row name rows ≡ b
        → Agrees (or_else (cond (b && true) (ArgumentConflict ∷ []) []) kinds) found
        (cond b None (next (rows ++ row name value ∷ [])))
    by true is = λ e. cc
    by false is = subst (λ r. Agrees kinds found (next r)) (added name value rows is) h

-- an argument that takes one value
pub record TakesOne (rules : List Rule) (name : Word) : Type 0 where
  pub rule : Rule
  pub by_id : arg_by_id rules name ≡ Some rule
  pub fault : (value : Word) (rows : List Row)
      → use_fault false rule (value ∷ []) rows ≡ repeat_fault false name rows
  pub use_of : (value : Word) (rows : List Row)
      → used rule (value ∷ []) rows ≡ with_values name AsWritten CommandLine (value ∷ []) (without name rows)

abbrev pub held : List Row → Option (Word × List Word) → Held
held rows pending = record { rows = rows; pending = pending; skip = 0 }

-- what is pending has its value
abbrev pub holding : Option (Word × Word) → Option (Word × List Word)
holding None = None
holding (Some p) = Some (p.0, p.1 ∷ [])

abbrev pub IsPending : List Rule → Option (Word × Word) → Type 0
IsPending rules None = Unit {0}
IsPending rules (Some p) = TakesOne rules p.0

pub settle_agrees : (rules : List Rule) (pending : Option (Word × Word)) (rows found : List Row)
    (kinds : Kinds)
    (next : List Row → Option (List Row)) → IsPending rules pending
    → Agrees kinds found (next (settled_rows rules (holding pending) rows))
    → Agrees (or_else (settle_fault rules false (held rows (holding pending))) kinds) found
    (settle pending rows next)
settle_agrees rules None rows found kinds next p h = h
settle_agrees rules (Some (name, value)) rows found kinds next p h =
    subst (λ faults. Agrees (or_else faults kinds) found (put name value rows next)) (sym faults)
    (use_agrees name value rows found kinds next (subst (λ r. Agrees kinds found (next r)) uses h))
  where
    faults : settle_fault rules false (held rows (Some (name, value ∷ []))) ≡ repeat_fault false name rows
    faults = ap (λ o. option_map_or (λ (a : Rule). use_fault false a (value ∷ []) rows) o []) p.by_id
        ∙ p.fault value rows

    uses : settled_rows rules (Some (name, value ∷ [])) rows
        ≡ with_values name AsWritten CommandLine (value ∷ []) (without name rows)
    uses = ap (λ o. used_by_id o (value ∷ []) rows) p.by_id ∙ p.use_of value rows
