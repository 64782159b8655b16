-- The rows that the parts of a line come to.
use Rattle.std.proofs.Math.Bool.{or-false}
use Rattle.std.proofs.Common.{◌≡◌, Bool, true, false, cond, ◌&&◌, ◌||◌, not, Option, None, Some, option_map, List, [], ◌∷◌, ◌++◌, map, codes, refl, sym, ap, ap₂, ◌∙◌, append-nil, append_assoc}
use Rattle.std.specs.List.{list_all}
use Rattle.std.specs.Str.{bytes_eq}
use Rattle.clap.specs.Walk.{Row, has_row}
use Rattle.ba_commands.specs.Modes.{Word}
use Rattle.ba_commands.specs.Words.{Part, option, switch, file, are_distinct, stands}
use Rattle.ba_commands.proofs.Testing.{list_any-append, same_either}
use Rattle.ba_commands.proofs.Rows.{put, row}

-- the parts one after the other: an option twice, or a file name too many, is a fault
abbrev pub taken_file : List Word → Word → (List Word → List Row → Option (List Row)) → List Row
    → Option (List Row)
taken_file [] text next rows = None
taken_file (place ∷ places) text next rows = put place text rows (next places)

abbrev pub taken : List Part → List Word → List Row → Option (List Row)
taken [] places rows = Some rows
taken (option name value ∷ parts) places rows = put name value rows (taken parts places)
taken (switch name ∷ parts) places rows = put name (codes "true") rows (taken parts places)
taken (file text ∷ parts) places rows = taken_file places text (taken parts) rows

abbrev pub taken_all : List Word → Option (List Part) → List Row → Option (List Row)
taken_all places None rows = None
taken_all places (Some parts) rows = taken parts places rows

pub taken_all-option : (places : List Word) (name value : Word) (o : Option (List Part)) (rows : List Row)
    → taken_all places (option_map (λ parts. option name value ∷ parts) o) rows
    ≡ put name value rows (taken_all places o)
taken_all-option places name value None rows = sym (same_either (has_row name rows) None)
taken_all-option places name value (Some parts) rows = refl

pub taken_all-switch : (places : List Word) (name : Word) (o : Option (List Part)) (rows : List Row)
    → taken_all places (option_map (λ parts. switch name ∷ parts) o) rows
    ≡ put name (codes "true") rows (taken_all places o)
taken_all-switch places name None rows = sym (same_either (has_row name rows) None)
taken_all-switch places name (Some parts) rows = refl

pub taken_all-file : (place : Word) (places : List Word) (text : Word) (o : Option (List Part))
    (rows : List Row)
    → taken_all (place ∷ places) (option_map (λ parts. file text ∷ parts) o) rows
    ≡ put place text rows (taken_all places o)
taken_all-file place places text None rows = sym (same_either (has_row place rows) None)
taken_all-file place places text (Some parts) rows = refl

pub taken_all-stray : (text : Word) (o : Option (List Part)) (rows : List Row)
    → taken_all [] (option_map (λ parts. file text ∷ parts) o) rows ≡ None
taken_all-stray text None rows = refl
taken_all-stray text (Some parts) rows = refl

-- THE USES of arguments: each with its name and value

abbrev pub Use : Type 0
Use = Word × Word

abbrev pub file_use : List Word → Word → (List Word → List Use) → List Use
file_use [] text next = next []
file_use (place ∷ places) text next = (place, text) ∷ next places

abbrev pub uses_of : List Part → List Word → List Use
uses_of [] places = []
uses_of (option name value ∷ parts) places = (name, value) ∷ uses_of parts places
uses_of (switch name ∷ parts) places = (name, codes "true") ∷ uses_of parts places
uses_of (file text ∷ parts) places = file_use places text (uses_of parts)

abbrev pub rows_of_uses : List Use → List Row
rows_of_uses = map (λ (u : Use). row u.0 u.1)

abbrev pub names_of_uses : List Use → List Word
names_of_uses = map (λ (u : Use). u.0)

-- there are no more file names than places
abbrev pub fits_file : List Word → (List Word → Bool) → Bool
fits_file [] next = false
fits_file (place ∷ places) next = next places

abbrev pub fits : List Part → List Word → Bool
fits [] places = true
fits (option name value ∷ parts) places = fits parts places
fits (switch name ∷ parts) places = fits parts places
fits (file text ∷ parts) places = fits_file places (fits parts)

-- no row has one of the names
abbrev pub are_new : List Row → List Word → Bool
are_new rows names = list_all (λ name. not (has_row name rows)) names

are_new-more : (rows : List Row) (name value : Word) (names : List Word)
    → are_new (rows ++ row name value ∷ []) names ≡ (are_new rows names && not (stands name names))
are_new-more rows name value [] = refl
are_new-more rows name value (other ∷ names) =
    ap₂ (λ a b. not a && b)
    (list_any-append (λ (r : Row). bytes_eq r.id other) rows (row name value ∷ [])
    ∙ ap (λ b. has_row other rows || b) (or-false (bytes_eq name other)))
    (are_new-more rows name value names)
    ∙ by (has_row other rows) (bytes_eq name other) (are_new rows names) (stands name names)
  where
    by : (h e n s : Bool) → (not (h || e) && (n && not s)) ≡ ((not h && n) && not (e || s))
    by true e n s = refl
    by false true true s = refl
    by false true false s = refl
    by false false n s = refl

choose : {A : Type 0} (f h l s d : Bool) (x : Option A)
    → cond h None (cond (f && ((l && not s) && d)) x None) ≡ cond (f && ((not h && l) && (not s && d))) x None
choose false true l s d x = refl
choose false false l s d x = refl
choose true true l s d x = refl
choose true false true s d x = refl
choose true false false s d x = refl

-- what the parts come to, where these rows are there before
abbrev TakenAs : List Part → List Word → List Row → Type 0
TakenAs parts places rows = taken parts places rows
    ≡ cond (fits parts places && (are_new rows (names_of_uses (uses_of parts places))
    && are_distinct (names_of_uses (uses_of parts places))))
    (Some (rows ++ rows_of_uses (uses_of parts places))) None

one_more : (name value : Word) (parts : List Part) (places : List Word) (rows : List Row)
    → TakenAs parts places (rows ++ row name value ∷ [])
    → put name value rows (taken parts places)
    ≡ cond (fits parts places
    && ((not (has_row name rows) && are_new rows (names_of_uses (uses_of parts places)))
    && (not (stands name (names_of_uses (uses_of parts places)))
    && are_distinct (names_of_uses (uses_of parts places)))))
    (Some (rows ++ row name value ∷ rows_of_uses (uses_of parts places))) None
one_more name value parts places rows h =
    let names = names_of_uses (uses_of parts places) in
    let later = rows_of_uses (uses_of parts places) in
    ap (cond (has_row name rows) None) (h
    ∙ ap₂ (λ b (r : List Row). cond (fits parts places && (b && are_distinct names)) (Some r) None)
    (are_new-more rows name value names)
    (append_assoc rows (row name value ∷ []) later))
    ∙ choose (fits parts places) (has_row name rows) (are_new rows names) (stands name names)
    (are_distinct names)
    (Some (rows ++ row name value ∷ later))

taken-as : (parts : List Part) (places : List Word) (rows : List Row) → TakenAs parts places rows
taken-as [] places rows = sym (ap Some (append-nil rows))
taken-as (option name value ∷ parts) places rows =
    one_more name value parts places rows (taken-as parts places (rows ++ row name value ∷ []))
taken-as (switch name ∷ parts) places rows =
    one_more name (codes "true") parts places rows
    (taken-as parts places (rows ++ row name (codes "true") ∷ []))
taken-as (file text ∷ parts) [] rows = refl
taken-as (file text ∷ parts) (place ∷ places) rows =
    one_more place text parts places rows (taken-as parts places (rows ++ row place text ∷ []))

all_new : (names : List Word) → are_new [] names ≡ true
all_new [] = refl
all_new (name ∷ names) = all_new names

-- what they come to from the start
pub taken-first : (parts : List Part) (places : List Word)
    → taken parts places [] ≡ cond (fits parts places && are_distinct (names_of_uses (uses_of parts places)))
    (Some (rows_of_uses (uses_of parts places))) None
taken-first parts places =
    let names = names_of_uses (uses_of parts places) in
    taken-as parts places [] ∙ ap (λ b. cond (fits parts places && (b && are_distinct names))
    (Some (rows_of_uses (uses_of parts places))) None)
    (all_new names)
