-- The trail: the true literals in the order of their assignment, each with its reason.

use Rattle.std.specs.Prelude.{◌≡◌, ℕ, ◌+◌, ◌-◌, ◌<◌, ◌≤◌, Bool, true, false, not, Option, None, Some, is_some, List, [], ◌∷◌, length, get_or, take, eqb, ltb, if◌then◌else◌}
use Prim.Native.Nat.{suc, zero}
use Rattle.std.specs.List.{count_by}
use Rattle.ba_lits.specs.Literals.{Literal, lit_at}
use Rattle.ba_lits.specs.Satisfaction.{signed}

-- whether two signs are the same
abbrev pub same_sign : Bool → Bool → Bool
same_sign true b = b
same_sign false b = not b

-- the value of a literal under a trail; None if its variable has none
abbrev pub value_of : List Literal → Literal → Option Bool
value_of [] l = None
value_of (t ∷ ts) l = if eqb t.variable l.variable then Some (same_sign t.negated l.negated) else value_of
    ts l

-- the trail index of a variable's assignment; the trail's length if it has no value
abbrev pub trail_index : List Literal → ℕ → ℕ
trail_index [] variable = 0
trail_index (t ∷ ts) variable = if eqb t.variable variable then 0 else suc (trail_index ts variable)

-- the same if the variable has a value
abbrev pub trail_index_if : List Literal → ℕ → Option ℕ
trail_index_if lits variable =
    if ltb (trail_index lits variable) (length lits) then Some (trail_index lits variable)
    else None

-- how many literals were decided: one without a reason was decided, and begins a level
abbrev pub decided : List (Option ℕ) → ℕ
decided [] = 0
decided (None ∷ rs) = 1 + decided rs
decided (Some r ∷ rs) = decided rs

-- the level of a trail index
abbrev pub level_at : List (Option ℕ) → ℕ → ℕ
level_at reasons place = decided (take (place + 1) reasons)

-- how many trail indices have at most a level
abbrev pub kept : ℕ → List (Option ℕ) → ℕ
kept level [] = 0
kept zero (None ∷ rs) = 0
kept (suc level) (None ∷ rs) = suc (kept level rs)
kept level (Some r ∷ rs) = suc (kept level rs)

-- the level at which a variable got its value
abbrev pub level_of : List Literal → List (Option ℕ) → ℕ → Option ℕ
level_of lits reasons variable =
    if ltb (trail_index lits variable) (length lits) then Some (level_at reasons (trail_index lits variable))
    else None

-- the clause because of which a variable got its value
abbrev pub reason_of : List Literal → List (Option ℕ) → ℕ → Option ℕ
reason_of lits reasons variable = get_or reasons (trail_index lits variable) None

-- a trail over this many variables
pub record Assignments : Type 0 where
  pub variables : ℕ
  pub lits : List Literal
  pub reasons : List (Option ℕ)

-- each variable is assigned once, and each literal has its entry for a reason
pub record IsTrail (variables : ℕ) (lits : List Literal) (reasons : List (Option ℕ)) : Type 0 where
  pub same_length : length reasons ≡ length lits
  pub fresh : (p : ℕ) → p < length lits → value_of (take p lits) (lit_at lits p) ≡ None
  pub counted : (p : ℕ) → p < length lits → 1 ≤ (lit_at lits p).variable
  pub within : (p : ℕ) → p < length lits → (lit_at lits p).variable ≤ variables
  pub short : length lits ≤ variables

-- the value of a literal whose variable has a value, or none
abbrev pub with_sign : Bool → Option Bool → Option Bool
with_sign negated None = None
with_sign negated (Some b) = Some (signed negated b)

-- the vectors of the code hold the trail: values and trail indices by variable, from 1 on; reasons and levels
-- by trail index
pub record Holds (variables : ℕ) (lits : List Literal) (reasons : List (Option ℕ)) (levels : List ℕ)
    (assigned level : ℕ) (values : List (Option Bool)) (places : List ℕ) : Type 0 where
  pub trail : IsTrail variables (take assigned lits) (take assigned reasons)
  pub lits_room : variables ≤ length lits
  pub reasons_room : variables ≤ length reasons
  pub levels_room : variables ≤ length levels
  pub places_room : variables ≤ length places
  pub assigned_le : assigned ≤ variables
  pub values_room : length values ≡ variables
  pub count : count_by is_some values ≡ assigned
  pub level_is : level ≡ decided (take assigned reasons)
  pub levels_are : (p : ℕ) → p < assigned → get_or levels p 0 ≡ level_at (take assigned reasons) p
  pub places_are : (p : ℕ) → p < assigned → get_or places ((lit_at (take assigned lits) p).variable - 1) 0 ≡ p
  pub values_are : (l : Literal) → 1 ≤ l.variable → l.variable ≤ variables →
      with_sign l.negated (get_or values (l.variable - 1) None) ≡ value_of (take assigned lits) l

-- a list begins with another
abbrev pub Begins : {X : Type 0} → List X → List X → Type 0
Begins front xs = take (length front) xs ≡ front
