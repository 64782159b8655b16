-- What a part of a program does to a state, and how parts are composed. The state and the ways to leave a
-- part are parameters, so programs, code with loops and code without loops share these definitions.

use Rattle.std.specs.Prelude.{ℕ, ◌+◌, suc, zero, ℤ, pos, cond, List, [], ◌∷◌, Result, Ok, Err}
use Rattle.std.specs.Ordering.{int_eq}
use Rattle.ba_tree.specs.declared.run.Halt.{Halt}
use Rattle.ba_tree.specs.declared.run.Exit.{Exit}
use Rattle.ba_tree.specs.declared.run.Exit.TheVariants.{Break, Continue, Return}
use Rattle.ba_tree.specs.declared.run.Flow.{Flow}
use Rattle.ba_tree.specs.declared.run.Flow.TheVariants.{Next, Leaves}

-- how a part ends: with a value, or by ending the whole run; and the state at its end
abbrev pub EndOn : Type 0 → Type 0 → Type 0
EndOn S A = Result A Halt × S

-- a part: from the state before it to how it ends
abbrev pub ActOn : Type 0 → Type 0 → Type 0
ActOn S A = S → EndOn S A

-- a part that gives this value and leaves the state
abbrev pub give : {S A : Type 0} → A → ActOn S A
give a s = (Ok a, s)

-- a part that ends the run so, and leaves the state
abbrev pub halt_with : {S A : Type 0} → Halt → ActOn S A
halt_with h s = (Err h, s)

-- one part, and then what its value leads to; an end without a value ends both
abbrev pub then_do : {S A B : Type 0} → EndOn S A → (A → ActOn S B) → EndOn S B
then_do (Ok a, s) rest = rest a s
then_do (Err h, s) rest = (Err h, s)

-- parts that give a value each, evaluated from left to right
abbrev pub each : {S A : Type 0} → List (ActOn S A) → ActOn S (List A)
each [] s = (Ok [], s)
each (part ∷ parts) s = then_do (part s) (λ a s. then_do (each parts s) (λ rest s. (Ok (a ∷ rest), s)))

-- one of two ways, the first if a value isn't 0
abbrev pub fork : {S A : Type 0} → ActOn S A → ActOn S A → ℤ → ActOn S A
fork if_not_zero if_zero z s = cond (int_eq z (pos 0)) (if_zero s) (if_not_zero s)

-- PARTS THAT MAY BE LEFT: statements and what is made of them

-- a part that gives a flow
abbrev pub Executes : Type 0 → Type 0 → Type 0
Executes S E = ActOn S (Flow E)

-- a part that leaves skips what comes after it
abbrev pub after_part : {S E : Type 0} → Executes S E → Flow E → Executes S E
after_part rest Next s = rest s
after_part rest (Leaves e) s = (Ok (Leaves e), s)

-- parts executed one after the other
abbrev pub in_order : {S E : Type 0} → List (Executes S E) → Executes S E
in_order [] s = (Ok Next, s)
in_order (part ∷ parts) s = then_do (part s) (after_part (in_order parts))

-- LOOPS (C90 6.6.5) AND SWITCHES (C90 6.6.4.2)

-- a `continue` goes on after the body (C90 6.6.6.2)
abbrev pub flow_after_body : Flow Exit → Flow Exit
flow_after_body (Leaves Continue) = Next
flow_after_body (Leaves Break) = Leaves Break
flow_after_body (Leaves (Return z)) = Leaves (Return z)
flow_after_body Next = Next

-- a `break` goes on after the loop or the `switch` (C90 6.6.6.3)
abbrev pub flow_after_loop : Flow Exit → Flow Exit
flow_after_loop (Leaves Break) = Next
flow_after_loop (Leaves Continue) = Leaves Continue
flow_after_loop (Leaves (Return z)) = Leaves (Return z)
flow_after_loop Next = Next

-- Rounds of a loop from iteration k on: its test, and if that isn't 0, iteration k and then round k + 1. At
-- most `left` more iterations are allowed; a test after them that isn't 0 leads to `past`.
abbrev pub rounds : {S E : Type 0} → (ℕ → ActOn S ℤ) → (ℕ → Executes S E) → Executes S E → ℕ → ℕ → Executes S E
rounds test turn past zero k s = then_do (test k s) (fork past (give Next))
rounds test turn past (suc left) k s = then_do (test k s)
    (fork (λ s. then_do (turn k s) (after_part (rounds test turn past left (k + 1)))) (give Next))
