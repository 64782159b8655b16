-- What may be relaxed, and what a choice gives in place of a statement's expressions.

use Rattle.std.specs.Prelude.{ℕ, ℤ, pos, Bool, true, false, not, ◌&&◌, ◌||◌, ◌==◌, ◌-◌, cond, Option, None, Some, List, [], ◌∷◌, length, reverse, slice_get, Ok, Err}
use Rattle.std.specs.List.{list_any, list_all}
use Rattle.std.specs.Ordering.{int_eq}
use Rattle.ba_numbers.specs.Numbers.{is_in}
use Rattle.ba_numbers.specs.declared.ids.StmtId.{StmtId}
use Rattle.ba_numbers.specs.declared.numbers.CType.{CType}
use Rattle.ba_choices.specs.declared.Choice.{Choice}
use Rattle.ba_choices.specs.declared.Choice.TheVariants.{Keep, Take}
use Rattle.ba_tree.specs.Acts.{then_do}
use Rattle.ba_tree.specs.State.{Act, is_index}
use Rattle.ba_tree.specs.declared.run.Halt.TheVariants.{WrongChoices}
use Rattle.ba_tree.specs.declared.run.Step.{Step}
use Rattle.ba_tree.specs.declared.run.Step.TheVariants.{Call, Turn}
use Rattle.ba_tree.specs.declared.run.Place.{Place}
use Rattle.ba_tree.specs.declared.run.Allowed.{Allowed}
use Rattle.ba_tree.specs.declared.run.Allowed.TheVariants.{Statements, Places}
use Rattle.ba_tree.specs.declared.tree.Program.{Program}
use Rattle.ba_tree.specs.declared.tree.StmtInfo.{StmtInfo}
use Rattle.ba_tree.specs.declared.tree.StmtKind.{StmtKind}
use Rattle.ba_tree.specs.declared.tree.StmtKind.TheVariants.{Assert}

-- PLACES: a statement with the calls and iterations around one execution of it

-- both are the same call, or the same iteration of the same loop
abbrev pub same_step : Step → Step → Bool
same_step (Call c) (Call d) = c.0 == d.0
same_step (Turn l m) (Turn k n) = (l.0 == k.0) && (m == n)
same_step (Call c) (Turn l m) = false
same_step (Turn l m) (Call c) = false

-- both paths have the same steps
abbrev pub same_path : List Step → List Step → Bool
same_path [] [] = true
same_path [] (y ∷ ys) = false
same_path (x ∷ xs) [] = false
same_path (x ∷ xs) (y ∷ ys) = same_step x y && same_path xs ys

-- a place's path has the outermost step first; a run keeps its path innermost first
abbrev pub is_there : List Step → StmtId → Place → Bool
is_there path stmt place = (place.stmt.0 == stmt.0) && same_path place.path (reverse path)

-- an execution of this statement, reached by this path, is of what may be relaxed
abbrev pub lists : Allowed → List Step → StmtId → Bool
lists (Statements list) path stmt = list_any (λ (n : StmtId). n.0 == stmt.0) list
lists (Places list) path stmt = list_any (is_there path stmt) list

-- the kind is that of an assert
abbrev pub is_assert_kind : StmtKind → Bool
is_assert_kind Assert = true
is_assert_kind _ = false

-- there is such a statement, and it is an assert
abbrev pub is_assert_info : Option StmtInfo → Bool
is_assert_info None = false
is_assert_info (Some info) = is_assert_kind info.kind

-- the entry of the program for the statement of this number, counted from 1
abbrev pub info_of : Program → StmtId → Option StmtInfo
info_of p stmt = cond (stmt.0 == 0) None (slice_get p.statements (stmt.0 - 1))

-- the number is that of an assert of the program
abbrev pub is_assert : Program → StmtId → Bool
is_assert p stmt = is_assert_info (info_of p stmt)

-- an execution of a statement may be relaxed: it is listed, by its number or by its place, and it is no
-- assert
unfoldable pub admits : Program → Allowed → List Step → StmtId → Bool
admits p allowed path stmt = lists allowed path stmt && not (is_assert p stmt)

-- CHOICES

-- At a relaxed place the first choice is used up. Keep gives None: the statement runs as written. Take gives
-- the values that replace its expressions.
abbrev pub next_choice : List Choice → Act (Option (List ℤ))
next_choice [] s = (Err WrongChoices, s)
next_choice (Keep ∷ choices) s = (Ok None, record s { choices = choices })
next_choice (Take values ∷ choices) s = (Ok (Some values), record s { choices = choices })

-- the next choice, which is used up, if the execution may be relaxed; else None
abbrev pub choice_at : Bool → Act (Option (List ℤ))
choice_at false s = (Ok None, s)
choice_at true s = next_choice s.choices s

-- values that don't fit end the run
abbrev pub if_fitting : {A : Type 0} → Option A → Act A
if_fitting None s = (Err WrongChoices, s)
if_fitting (Some a) s = (Ok a, s)

-- as written; or what the choice's values give if they fit, and nothing that is written is evaluated
abbrev pub as_chosen : {A : Type 0} → (List ℤ → Option A) → Act A → Option (List ℤ) → Act A
as_chosen fitting written None s = written s
as_chosen fitting written (Some values) s = if_fitting (fitting values) s

-- what the next choice gives, if the execution may be relaxed; else what is written
abbrev pub value_by_choice : {A : Type 0} → Bool → (List ℤ → Option A) → Act A → Act A
value_by_choice admitted fitting written s = then_do (choice_at admitted s) (as_chosen fitting written)

-- WHAT FITS: the values of Take for each kind of statement

-- an initialiser, an assignment, a return, the controlling expression of a `switch`: one value of the type
abbrev pub one_value : CType → List ℤ → Option ℤ
one_value t [] = None
one_value t (z ∷ []) = cond (is_in t z) (Some z) None
one_value t (z ∷ y ∷ zs) = None

-- a condition: 0 or 1
abbrev pub one_truth : List ℤ → Option ℤ
one_truth [] = None
one_truth (z ∷ []) = cond (int_eq z (pos 0) || int_eq z (pos 1)) (Some z) None
one_truth (z ∷ y ∷ zs) = None

-- an array's initialiser: one value of the type for each element
abbrev pub all_elements : CType → ℕ → List ℤ → Option (List ℤ)
all_elements t count zs = cond ((length zs == count) && list_all (is_in t) zs) (Some zs) None

-- a store: an index in the array, and a value of the type
abbrev pub one_element : CType → ℕ → List ℤ → Option (ℤ × ℤ)
one_element t count [] = None
one_element t count (i ∷ []) = None
one_element t count (i ∷ z ∷ []) = cond (is_index count i && is_in t z) (Some (i, z)) None
one_element t count (i ∷ z ∷ y ∷ zs) = None

-- a call as a statement, a printf: no value
abbrev pub no_value : List ℤ → Option Unit
no_value [] = Some tt
no_value (z ∷ zs) = None
