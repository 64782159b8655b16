-- Parts of a program that name statements of the program alone, if they end the run.
use Rattle.std.proofs.Common.{◌≡◌, suc, zero, ℕ, ◌+◌, ℤ, pos, Bool, true, false, Option, None, Some, Result, Ok, Err, List, [], ◌∷◌, map, sym, ap, subst}
use Rattle.std.specs.Prelude.{cond, IsSome}
use Rattle.std.specs.Ordering.{int_eq}
use mathlib.Core.List.{map-map}
use Rattle.ba_numbers.specs.declared.ids.StmtId.{StmtId}
use Rattle.ba_choices.specs.declared.Choice.{Choice}
use Rattle.ba_choices.specs.declared.Choice.TheVariants.{Keep, Take}
use Rattle.ba_tree.specs.Acts.{give, halt_with, then_do, each, fork, after_part, rounds}
use Rattle.ba_tree.specs.State.{State, Ending, Act, Execution}
use Rattle.ba_tree.specs.Choices.{info_of, next_choice, choice_at, if_fitting, as_chosen, value_by_choice}
use Rattle.ba_tree.specs.declared.run.Exit.{Exit}
use Rattle.ba_tree.specs.declared.run.Flow.{Flow}
use Rattle.ba_tree.specs.declared.run.Flow.TheVariants.{Next, Leaves}
use Rattle.ba_tree.specs.declared.run.Halt.{Halt}
use Rattle.ba_tree.specs.declared.run.Halt.TheVariants as halt
use Rattle.ba_tree.specs.declared.tree.Program.{Program}

abbrev pub IsStmt : Program → StmtId → Type 0
IsStmt p stmt = IsSome (info_of p stmt)

abbrev pub IsHaltOf : Program → Halt → Type 0
IsHaltOf p (halt.AssertFails stmt) = IsStmt p stmt
IsHaltOf p (halt.Trap stmt) = IsStmt p stmt
IsHaltOf p (halt.Beyond stmt) = IsStmt p stmt
IsHaltOf p halt.WrongChoices = Unit {0}

abbrev pub IsEndOf : {A : Type 0} → Program → Result A Halt → Type 0
IsEndOf p (Ok a) = Unit {0}
IsEndOf p (Err h) = IsHaltOf p h

-- a part that names statements of the program alone
pub record Names {A : Type 0} (p : Program) (f : Act A) : Type 0 where
  pub known : (s : State) → IsEndOf p (f s).0

pub names_as : {A : Type 0} {p : Program} {f g : Act A} → f ≡ g → Names p g → Names p f
names_as {A = A} {p = p} same names = subst (λ (f : Act A). Names p f) (sym same) names

pub names_give : {A : Type 0} {p : Program} (a : A) → Names p (give a)
names_give a = record { known = λ s. tt }

pub names_halt : {A : Type 0} {p : Program} (h : Halt) → IsHaltOf p h → Names {A = A} p (halt_with h)
names_halt h known = record { known = λ s. known }

pub names_from : {A : Type 0} {p : Program} {f : Act A} (h : State → State) → Names p f
    → Names p (λ s. f (h s))
names_from h names = record { known = λ s. names.known (h s) }

-- PARTS MADE OF PARTS

then_known : {A B : Type 0} (p : Program) (e : Ending A) (h : A → Act B) → IsEndOf p e.0
    → ((a : A) → Names p (h a)) → IsEndOf p (then_do e h).0
then_known p (Ok a, s) h known others = (others a).known s
then_known p (Err halt, s) h known others = known

pub names_then : {A B : Type 0} {p : Program} {f : Act A} {h : A → Act B}
    → Names p f → ((a : A) → Names p (h a)) → Names p (λ s. then_do (f s) h)
names_then {p = p} {f = f} {h = h} first others =
    record { known = λ s. then_known p (f s) h (first.known s) others }

pub names_fork : {A : Type 0} {p : Program} {f h : Act A} → Names p f → Names p h → (z : ℤ)
    → Names p (fork f h z)
names_fork {A = A} {p = p} {f = f} {h = h} not_zero is_zero z =
    elim (int_eq z (pos 0)) as (λ b. Names {A = A} p (λ s. cond b (h s) (f s)))
    [ true ↦ is_zero | false ↦ not_zero ]

pub names_each : {X A : Type 0} {p : Program} {f : X → Act A} → ((a : X) → Names p (f a))
    → (items : List X) → Names p (each (map f items))
names_each parts [] = names_give []
names_each parts (a ∷ items) =
    names_then (parts a) (λ z. names_then (names_each parts items) (λ rest. names_give (z ∷ rest)))

pub names_each_of : {X Y A : Type 0} {p : Program} (f : Y → Act A) (base : X → Y)
    → ((a : X) → Names p (f (base a))) → (items : List X) → Names p (each (map f (map base items)))
names_each_of f base parts items = names_as (ap each (map-map f base items)) (names_each parts items)

pub names_after : {p : Program} {f : Execution} → Names p f → (flow : Flow Exit)
    → Names p (after_part f flow)
names_after names Next = names
names_after names (Leaves e) = names_give (Leaves e)

pub names_rounds : {p : Program} {test : ℕ → Act ℤ} {turn : ℕ → Execution} {past : Execution}
    → ((k : ℕ) → Names p (test k)) → ((k : ℕ) → Names p (turn k)) → Names p past
    → (left k : ℕ) → Names p (rounds test turn past left k)
names_rounds tests turns past zero k = names_then (tests k) (names_fork past (names_give Next))
names_rounds tests turns past (suc left) k = names_then (tests k)
    (names_fork (names_then (turns k) (names_after (names_rounds tests turns past left (k + 1))))
    (names_give Next))

-- CHOICES: wrong ones name no statement

names_fitting : {A : Type 0} {p : Program} (z : Option A) → Names p (if_fitting z)
names_fitting None = record { known = λ s. tt }
names_fitting (Some a) = record { known = λ s. tt }

names_chosen : {A : Type 0} {p : Program} {f : Act A} (fitting : List ℤ → Option A) → Names p f
    → (values : Option (List ℤ)) → Names p (as_chosen fitting f values)
names_chosen fitting names None = record { known = λ s. names.known s }
names_chosen fitting names (Some values) = names_fitting (fitting values)

next_known : (p : Program) (choices : List Choice) (s : State) → IsEndOf p (next_choice choices s).0
next_known p [] s = tt
next_known p (Keep ∷ choices) s = tt
next_known p (Take values ∷ choices) s = tt

names_next : {p : Program} (b : Bool) → Names p (choice_at b)
names_next false = record { known = λ s. tt }
names_next {p = p} true = record { known = λ s. next_known p s.choices s }

pub names_choice : {A : Type 0} {p : Program} {f : Act A} (b : Bool)
    (fitting : State → List ℤ → Option A) → Names p f
    → Names p (λ s. value_by_choice b (fitting s) f s)
names_choice {A = A} {p = p} {f = f} b fitting names = record {
  known = λ s. then_known p (choice_at b s) (as_chosen (fitting s) f)
      ((names_next {p = p} b).known s) (names_chosen (fitting s) names);
}
