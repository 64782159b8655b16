-- The uses that parts come to: their names, and what they hold for a name.
use Rattle.std.proofs.Common.{◌≡◌, ℕ, suc, Bool, true, false, cond, ◌&&◌, ◌||◌, not, Option, None, Some, List, [], ◌∷◌, length, drop, codes, refl, sym, ap, ap₂, ◌∙◌, arith}
use Rattle.std.specs.Prelude.{nat_le, option_and_then, find, slice_get}
use Rattle.std.specs.List.{list_all}
use Rattle.std.specs.Str.{bytes_eq}
use Rattle.std.proofs.lemmas.Bool.{not-true}
use Rattle.std.proofs.lemmas.Bool.Decides.{nat_tests}
use Rattle.clap.specs.Walk.{Row, first_of as first_value_of}
use Rattle.ba_tree.proofs.Tests.{both}
use Rattle.ba_commands.specs.Modes.{Usage, Word}
use Rattle.ba_commands.specs.Words.{Part, option, switch, file, are_distinct, files_in, is_option_of, options_in, part_before, parts_of, stands, takes_value, with_value}
use Rattle.ba_commands.specs.Commands.{file_at, value_in}
use Rattle.ba_commands.proofs.Testing.{each_standing, eq_comm, neither}
use Rattle.ba_commands.proofs.Forms.{option_in}
use Rattle.ba_commands.proofs.Rows.{row}
use Rattle.ba_commands.proofs.Taking.{fits, names_of_uses, rows_of_uses, uses_of}

-- HOW MANY file names there are

pub fits-length : (parts : List Part) (places : List Word)
    → fits parts places ≡ nat_le (length (files_in parts)) (length places)
fits-length [] places = none (length places)
  where
    none : (n : ℕ) → true ≡ nat_le 0 n
    none n = grind (arith, nat_tests)
fits-length (option name value ∷ parts) places = fits-length parts places
fits-length (switch name ∷ parts) places = fits-length parts places
fits-length (file text ∷ parts) [] = none (length (files_in parts))
  where
    none : (n : ℕ) → false ≡ nat_le (suc n) 0
    none n = grind (arith, nat_tests)
fits-length (file text ∷ parts) (place ∷ places) =
    fits-length parts places ∙ both_more (length (files_in parts)) (length places)
  where
    both_more : (m n : ℕ) → nat_le m n ≡ nat_le (suc m) (suc n)
    both_more m n = grind (arith, nat_tests)

-- THE OPTIONS of parts are of the table

abbrev pub is_known : Usage → Part → Bool
is_known u (option name value) = stands name u.valued
is_known u (switch name) = stands name u.plain
is_known u (file text) = true

with_value-known : (u : Usage) (name : Word) (parts parts' : List Part) → stands name u.valued ≡ true
    → list_all (is_known u) parts ≡ true
    → with_value name parts ≡ Some parts' → list_all (is_known u) parts' ≡ true
with_value-known u name [] parts' there known e = cc
with_value-known u name (option other value ∷ parts) parts' there known e = cc
with_value-known u name (switch other ∷ parts) parts' there known e = cc
with_value-known u name (file text ∷ parts) parts' there known e =
    let same : option name text ∷ parts ≡ parts' = cc in
    sym (ap (list_all (is_known u)) same) ∙ ap (λ b. b && list_all (is_known u) parts) there ∙ known

part_before-known : (u : Usage) (word : Word) (parts parts' : List Part) → list_all (is_known u) parts ≡ true
    → part_before u word parts ≡ Some parts' → list_all (is_known u) parts' ≡ true
part_before-known u word parts parts' known e =
    by (takes_value u word) (is_option_of u.plain word) refl refl e
  where
    by : (a b : Bool) → takes_value u word ≡ a → is_option_of u.plain word ≡ b
        → cond a (with_value (drop 2 word) parts) (Some (cond b (switch (drop 2 word)) (file word) ∷ parts))
        ≡ Some parts'
        → list_all (is_known u) parts' ≡ true
    by true b t n e =
        let o = option_in u.valued word t in
        with_value-known u (drop 2 word) parts parts' (ap (λ w. stands (drop 2 w) u.valued) o.is ∙ o.there)
        known e
    by false true t n e =
        let o = option_in u.plain word n in
        let same : switch (drop 2 word) ∷ parts ≡ parts' = cc in
        sym (ap (list_all (is_known u)) same)
        ∙ ap (λ b. b && list_all (is_known u) parts) (ap (λ w. stands (drop 2 w) u.plain) o.is ∙ o.there)
        ∙ known
    by false false t n e =
        let same : file word ∷ parts ≡ parts' = cc in
        sym (ap (list_all (is_known u)) same) ∙ known

pub parts-known : (u : Usage) (words : List Word) (parts : List Part) → parts_of u words ≡ Some parts
    → list_all (is_known u) parts ≡ true
parts-known u [] parts e = let same : [] ≡ parts = cc in sym (ap (list_all (is_known u)) same)
parts-known u (word ∷ words) parts e = by (parts_of u words) (parts-known u words) e
  where
    by : (o : Option (List Part))
        → ((parts : List Part) → o ≡ Some parts → list_all (is_known u) parts ≡ true)
        → option_and_then (part_before u word) o ≡ Some parts → list_all (is_known u) parts ≡ true
    by None known e = cc
    by (Some others) known e = part_before-known u word others parts (known others refl) e

-- what holds of the options of the table holds of those of the parts
pub each_option : (u : Usage) (p : Word → Bool) (parts : List Part) → list_all (is_known u) parts ≡ true
    → list_all p u.valued ≡ true → list_all p u.plain ≡ true → list_all p (options_in parts) ≡ true
each_option u p [] known v f = refl
each_option u p (option name value ∷ parts) known v f =
    let k = both (stands name u.valued) (list_all (is_known u) parts) known in
    ap (λ b. b && list_all p (options_in parts)) (each_standing p u.valued name k.0 v)
    ∙ each_option u p parts k.1 v f
each_option u p (switch name ∷ parts) known v f =
    let k = both (stands name u.plain) (list_all (is_known u) parts) known in
    ap (λ b. b && list_all p (options_in parts)) (each_standing p u.plain name k.0 f)
    ∙ each_option u p parts k.1 v f
each_option u p (file text ∷ parts) known v f = each_option u p parts known v f

-- NAMES of uses that are distinct

pub uses-stand : (name : Word) (parts : List Part) (places : List Word) → stands name places ≡ false
    → stands name (names_of_uses (uses_of parts places)) ≡ stands name (options_in parts)
uses-stand name [] places none = refl
uses-stand name (option other value ∷ parts) places none =
    ap (λ b. bytes_eq name other || b) (uses-stand name parts places none)
uses-stand name (switch other ∷ parts) places none =
    ap (λ b. bytes_eq name other || b) (uses-stand name parts places none)
uses-stand name (file text ∷ parts) [] none = uses-stand name parts [] none
uses-stand name (file text ∷ parts) (place ∷ places) none =
    let each = neither (bytes_eq name place) (stands name places) none in
    ap (λ b. b || stands name (names_of_uses (uses_of parts places))) each.0
    ∙ uses-stand name parts places each.1

-- names of which none is one of the first places, nor stands among the others
crossed : (place : Word) (places names : List Word)
    → list_all (λ name. not (stands name (place ∷ places))) names ≡ true
    → (stands place names ≡ false) × (list_all (λ name. not (stands name places)) names ≡ true)
crossed place places [] apart = (refl, refl)
crossed place places (name ∷ names) apart =
    let k = both (not (stands name (place ∷ places)))
    (list_all (λ name. not (stands name (place ∷ places))) names) apart in
    let here =
    neither (bytes_eq name place) (stands name places) (not-true (stands name (place ∷ places)) k.0) in
    let others = crossed place places names k.1 in (
      ap₂ (λ a b. a || b) (eq_comm place name ∙ here.0) others.0,
      ap₂ (λ a b. not a && b) here.1 others.1,
    )

pub uses-distinct : (parts : List Part) (places : List Word) → are_distinct places ≡ true
    → list_all (λ name. not (stands name places)) (options_in parts) ≡ true
    → are_distinct (names_of_uses (uses_of parts places)) ≡ are_distinct (options_in parts)
uses-distinct [] places distinct apart = refl
uses-distinct (option name value ∷ parts) places distinct apart =
    let k = both (not (stands name places)) (list_all (λ name. not (stands name places)) (options_in parts))
    apart in
    ap₂ (λ a b. not a && b) (uses-stand name parts places (not-true (stands name places) k.0))
    (uses-distinct parts places distinct k.1)
uses-distinct (switch name ∷ parts) places distinct apart =
    let k = both (not (stands name places)) (list_all (λ name. not (stands name places)) (options_in parts))
    apart in
    ap₂ (λ a b. not a && b) (uses-stand name parts places (not-true (stands name places) k.0))
    (uses-distinct parts places distinct k.1)
uses-distinct (file text ∷ parts) [] distinct apart = uses-distinct parts [] distinct apart
uses-distinct (file text ∷ parts) (place ∷ places) distinct apart =
    let d = both (not (stands place places)) (are_distinct places) distinct in
    let c = crossed place places (options_in parts) apart in
    ap (λ b. not b && are_distinct (names_of_uses (uses_of parts places)))
    (uses-stand place parts places (not-true (stands place places) d.0) ∙ c.0)
    ∙ uses-distinct parts places d.1 c.1

-- WHAT THE ROWS HOLD for a name

abbrev pub differs : Word → Word → Bool
differs name other = not (bytes_eq other name)

-- a row more in front, of another name or of this one
first_past : (name : Word) (r : Row) (rows : List Row) → bytes_eq r.id name ≡ false
    → first_value_of name (r ∷ rows) ≡ first_value_of name rows
first_past name r rows e =
    ap (λ b. option_and_then (λ (r : Row). slice_get r.values 0)
    (cond b (Some r) (find (λ r. bytes_eq r.id name) rows))) e

first_chosen : (name other value : Word) (rows : List Row)
    → first_value_of name (row other value ∷ rows)
    ≡ cond (bytes_eq other name) (Some value) (first_value_of name rows)
first_chosen name other value rows = by (bytes_eq other name)
  where
    by : (b : Bool) → option_and_then (λ (r : Row). slice_get r.values 0)
        (cond b (Some (row other value)) (find (λ r. bytes_eq r.id name) rows))
        ≡ cond b (Some value) (first_value_of name rows)
    by true = refl
    by false = refl

-- the value of an option: no switch and no place has its name
pub first-option : (u : Usage) (name : Word) (parts : List Part) (places : List Word)
    → list_all (is_known u) parts ≡ true
    → list_all (differs name) u.plain ≡ true → list_all (differs name) places ≡ true
    → first_value_of name (rows_of_uses (uses_of parts places)) ≡ value_in parts name
first-option u name [] places known f d = refl
first-option u name (option other value ∷ parts) places known f d =
    let k = both (stands other u.valued) (list_all (is_known u) parts) known in
    first_chosen name other value (rows_of_uses (uses_of parts places))
    ∙ ap (cond (bytes_eq other name) (Some value)) (first-option u name parts places k.1 f d)
first-option u name (switch other ∷ parts) places known f d =
    let k = both (stands other u.plain) (list_all (is_known u) parts) known in
    first_past name (row other (codes "true")) (rows_of_uses (uses_of parts places))
    (not-true (bytes_eq other name) (each_standing (differs name) u.plain other k.0 f))
    ∙ first-option u name parts places k.1 f d
first-option u name (file text ∷ parts) [] known f d = first-option u name parts [] known f d
first-option u name (file text ∷ parts) (place ∷ places) known f d =
    let k = both (differs name place) (list_all (differs name) places) d in
    first_past name (row place text) (rows_of_uses (uses_of parts places))
    (not-true (bytes_eq place name) k.0)
    ∙ first-option u name parts places known f k.1

-- the file name in a place: no option has its name
pub first-file : (u : Usage) (name : Word) (parts : List Part) (places : List Word)
    → list_all (is_known u) parts ≡ true
    → list_all (differs name) u.valued ≡ true → list_all (differs name) u.plain ≡ true
    → first_value_of name (rows_of_uses (uses_of parts places)) ≡ file_at places (files_in parts) name
first-file u name [] places known v f = none places
  where
    none : (places : List Word) → None ≡ file_at places [] name
    none [] = refl
    none (place ∷ places) = refl
first-file u name (option other value ∷ parts) places known v f =
    let k = both (stands other u.valued) (list_all (is_known u) parts) known in
    first_past name (row other value) (rows_of_uses (uses_of parts places))
    (not-true (bytes_eq other name) (each_standing (differs name) u.valued other k.0 v))
    ∙ first-file u name parts places k.1 v f
first-file u name (switch other ∷ parts) places known v f =
    let k = both (stands other u.plain) (list_all (is_known u) parts) known in
    first_past name (row other (codes "true")) (rows_of_uses (uses_of parts places))
    (not-true (bytes_eq other name) (each_standing (differs name) u.plain other k.0 f))
    ∙ first-file u name parts places k.1 v f
first-file u name (file text ∷ parts) [] known v f = first-file u name parts [] known v f
first-file u name (file text ∷ parts) (place ∷ places) known v f =
    first_chosen name place text (rows_of_uses (uses_of parts places))
    ∙ ap (cond (bytes_eq place name) (Some text)) (first-file u name parts places known v f)

-- whether a switch stands there: no option with a value and no place has its name
pub first-switch : (u : Usage) (name : Word) (parts : List Part) (places : List Word)
    → list_all (is_known u) parts ≡ true
    → list_all (differs name) u.valued ≡ true → list_all (differs name) places ≡ true
    → first_value_of name (rows_of_uses (uses_of parts places))
    ≡ cond (stands name (options_in parts)) (Some (codes "true")) None
first-switch u name [] places known v d = refl
first-switch u name (option other value ∷ parts) places known v d =
    let k = both (stands other u.valued) (list_all (is_known u) parts) known in
    let e = not-true (bytes_eq other name) (each_standing (differs name) u.valued other k.0 v) in
    first_past name (row other value) (rows_of_uses (uses_of parts places)) e
    ∙ first-switch u name parts places k.1 v d
    ∙ ap (λ b. cond (b || stands name (options_in parts)) (Some (codes "true")) None)
    (sym (eq_comm name other ∙ e))
first-switch u name (switch other ∷ parts) places known v d =
    let k = both (stands other u.plain) (list_all (is_known u) parts) known in
    first_chosen name other (codes "true") (rows_of_uses (uses_of parts places))
    ∙ ap (cond (bytes_eq other name) (Some (codes "true"))) (first-switch u name parts places k.1 v d)
    ∙ joined (bytes_eq other name) (stands name (options_in parts))
    ∙ ap (λ b. cond (b || stands name (options_in parts)) (Some (codes "true")) None) (eq_comm other name)
  where
    joined : (a b : Bool) → cond a (Some (codes "true")) (cond b (Some (codes "true")) None)
        ≡ cond (a || b) (Some (codes "true")) None
    joined true b = refl
    joined false b = refl
first-switch u name (file text ∷ parts) [] known v d = first-switch u name parts [] known v d
first-switch u name (file text ∷ parts) (place ∷ places) known v d =
    let k = both (differs name place) (list_all (differs name) places) d in
    first_past name (row place text) (rows_of_uses (uses_of parts places))
    (not-true (bytes_eq place name) k.0)
    ∙ first-switch u name parts places known v k.1

-- WHAT IS NOT THERE gives no value

pub value-none : (parts : List Part) (name : Word) → stands name (options_in parts) ≡ false
    → value_in parts name ≡ None
value-none [] name none = refl
value-none (option other value ∷ parts) name none =
    let each = neither (bytes_eq name other) (stands name (options_in parts)) none in
    ap (λ b. cond b (Some value) (value_in parts name)) (eq_comm other name ∙ each.0)
    ∙ value-none parts name each.1
value-none (switch other ∷ parts) name none =
    value-none parts name (neither (bytes_eq name other) (stands name (options_in parts)) none).1
value-none (file text ∷ parts) name none = value-none parts name none
