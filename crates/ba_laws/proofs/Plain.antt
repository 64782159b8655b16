-- Parts of a program that make no choices, if nothing may be relaxed: none of them ends by wrong choices.
use Rattle.std.proofs.Common.{◌≡◌, suc, zero, ℕ, ◌+◌, ℤ, pos, true, false, Option, Ok, Err, List, [], ◌∷◌, map, refl, sym, ◌∙◌, ap, subst}
use Rattle.std.specs.Prelude.{cond}
use Rattle.std.specs.Ordering.{int_eq}
use mathlib.Core.List.{map-map}
use Rattle.ba_numbers.specs.declared.ids.StmtId.{StmtId}
use Rattle.ba_tree.specs.Acts.{give, halt_with, then_do, each, fork, after_part, rounds}
use Rattle.ba_tree.specs.State.{State, Ending, Act, Execution}
use Rattle.ba_tree.specs.Choices.{admits, value_by_choice}
use Rattle.ba_tree.specs.Meaning.{stmts_in_order}
use Rattle.ba_tree.specs.declared.run.Allowed.TheVariants.{Statements}
use Rattle.ba_tree.specs.declared.run.Exit.{Exit}
use Rattle.ba_tree.specs.declared.run.Flow.{Flow}
use Rattle.ba_tree.specs.declared.run.Flow.TheVariants.{Next, Leaves}
use Rattle.ba_tree.specs.declared.run.Halt.{Halt}
use Rattle.ba_tree.specs.declared.run.Step.{Step}
use Rattle.ba_tree.specs.declared.tree.Program.{Program}
use Rattle.ba_laws.proofs.Keeps.{Keeps, keeps_choices}
use Rattle.ba_laws.proofs.Replays.{is_wrong, is_wrong_halt}

-- a part that makes no choice: it doesn't end by wrong choices, and leaves all choices there
pub record MakesNone {A : Type 0} (f : Act A) : Type 0 where
  pub right : (s : State) → is_wrong (f s).0 ≡ false
  pub keeps : (s : State) → (f s).1.choices ≡ s.choices

pub none_as : {A : Type 0} {f g : Act A} → f ≡ g → MakesNone g → MakesNone f
none_as {A = A} same none = subst (λ (f : Act A). MakesNone f) (sym same) none

pub none_give : {A : Type 0} (a : A) → MakesNone (give a)
none_give a = record { right = λ s. refl; keeps = λ s. refl }

pub none_halt : {A : Type 0} (h : Halt) → is_wrong_halt h ≡ false → MakesNone {A = A} (halt_with h)
none_halt h right = record { right = λ s. right; keeps = λ s. refl }

pub none_from : {A : Type 0} {f : Act A} (h : State → State) → Keeps h → MakesNone f
    → MakesNone (λ s. f (h s))
none_from h keeps none = record {
  right = λ s. none.right (h s);
  keeps = λ s. none.keeps (h s) ∙ sym (keeps_choices h keeps s);
}

-- PARTS MADE OF PARTS

then_right : {A B : Type 0} (e : Ending A) (h : A → Act B) → is_wrong e.0 ≡ false
    → ((a : A) → MakesNone (h a))
    → is_wrong (then_do e h).0 ≡ false
then_right (Ok a, s) h right others = (others a).right s
then_right (Err halt, s) h right others = right

then_keeps : {A B : Type 0} (e : Ending A) (h : A → Act B) → ((a : A) → MakesNone (h a))
    → (then_do e h).1.choices ≡ e.1.choices
then_keeps (Ok a, s) h others = (others a).keeps s
then_keeps (Err halt, s) h others = refl

pub none_then : {A B : Type 0} {f : Act A} {h : A → Act B} → MakesNone f → ((a : A) → MakesNone (h a))
    → MakesNone (λ s. then_do (f s) h)
none_then {f = f} {h = h} first others = record {
  right = λ s. then_right (f s) h (first.right s) others;
  keeps = λ s. then_keeps (f s) h others ∙ first.keeps s;
}

pub none_fork : {A : Type 0} {f h : Act A} → MakesNone f → MakesNone h → (z : ℤ) → MakesNone (fork f h z)
none_fork {A = A} {f = f} {h = h} not_zero is_zero z =
    elim (int_eq z (pos 0)) as (λ b. MakesNone {A = A} (λ s. cond b (h s) (f s)))
    [ true ↦ is_zero | false ↦ not_zero ]

pub none_each : {X A : Type 0} {f : X → Act A} → ((a : X) → MakesNone (f a)) → (items : List X)
    → MakesNone (each (map f items))
none_each parts [] = none_give []
none_each parts (a ∷ items) =
    none_then (parts a) (λ z. none_then (none_each parts items) (λ rest. none_give (z ∷ rest)))

pub none_each_of : {X Y A : Type 0} (f : Y → Act A) (base : X → Y) → ((a : X) → MakesNone (f (base a)))
    → (items : List X) → MakesNone (each (map f (map base items)))
none_each_of f base parts items = none_as (ap each (map-map f base items)) (none_each parts items)

pub none_after : {f : Execution} → MakesNone f → (flow : Flow Exit) → MakesNone (after_part f flow)
none_after none Next = none
none_after none (Leaves e) = none_give (Leaves e)

pub none_stmts : {X : Type 0} {f : X → List Step → Execution}
    → ((a : X) (path : List Step) → MakesNone (f a path))
    → (path : List Step) (items : List X) → MakesNone (stmts_in_order path (map f items))
none_stmts parts path [] = none_give Next
none_stmts parts path (a ∷ items) =
    none_then (parts a path) (none_after (none_stmts parts path items))

pub none_stmts_of : {X Y : Type 0} (f : Y → List Step → Execution) (base : X → Y)
    → ((a : X) (path : List Step) → MakesNone (f (base a) path))
    → (path : List Step) (items : List X) → MakesNone (stmts_in_order path (map f (map base items)))
none_stmts_of f base parts path items =
    none_as (ap (stmts_in_order path) (map-map f base items)) (none_stmts parts path items)

pub none_rounds : {test : ℕ → Act ℤ} {turn : ℕ → Execution} {past : Execution}
    → ((k : ℕ) → MakesNone (test k)) → ((k : ℕ) → MakesNone (turn k)) → MakesNone past
    → (left k : ℕ) → MakesNone (rounds test turn past left k)
none_rounds tests turns past zero k = none_then (tests k) (none_fork past (none_give Next))
none_rounds tests turns past (suc left) k = none_then (tests k)
    (none_fork (none_then (turns k) (none_after (none_rounds tests turns past left (k + 1))))
    (none_give Next))

-- what may be chosen if something may be relaxed is evaluated as written
pub none_choice : {A : Type 0} {f : Act A} (p : Program) (path : List Step) (here : StmtId)
    (fitting : State → List ℤ → Option A) → MakesNone f
    → MakesNone (λ s. value_by_choice (admits p (Statements []) path here) (fitting s) f s)
unfolding admits
none_choice p path here fitting none = record { right = none.right; keeps = none.keeps }
