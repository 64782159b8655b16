-- Loops by their parts, as the interpreter has them.

use Rattle.std.specs.Prelude.{ℕ, ◌+◌, ℤ, List}
use Rattle.ba_tree.specs.Acts.{flow_after_loop, give, halt_with, rounds, then_do}
use Rattle.ba_tree.specs.Meaning.{Context, condition, exec, exec_all, in_turn, turn_of, test_behind}
use Rattle.ba_tree.specs.State.{Act, Execution}
use Rattle.ba_tree.specs.declared.run.Halt.TheVariants.{Beyond}
use Rattle.ba_tree.specs.declared.run.Step.{Step}
use Rattle.ba_numbers.specs.declared.ids.StmtId.{StmtId}
use Rattle.ba_tree.specs.declared.tree.Expr.{Expr}
use Rattle.ba_tree.specs.declared.tree.Stmt.{Stmt}

-- the parts of a loop: its condition, its body, and the step of a `for`
pub record LoopParts : Type 0 where
  pub stmt : StmtId
  pub when : Expr
  pub body : Stmt
  pub step : List Stmt

-- the condition in iteration k
abbrev pub test_at : Context → LoopParts → List Step → ℕ → Act ℤ
test_at x parts path k = condition x (in_turn parts.stmt k path) parts.stmt parts.when

-- an iteration of a loop: its body, then its step
unfoldable pub turn_at : Context → LoopParts → List Step → Execution
turn_at x parts inside = turn_of (exec x parts.body) (λ inside. exec_all x inside parts.step) inside

-- the rounds of the loop from iteration k on
abbrev pub for_rounds : Context → LoopParts → List Step → ℕ → ℕ → Execution
for_rounds x parts path = rounds (test_at x parts path) (λ k. turn_at x parts (in_turn parts.stmt k path))
    (halt_with (Beyond parts.stmt))

-- the rounds of a `do` from iteration k on, with so many left
abbrev pub do_rounds : Context → LoopParts → List Step → ℕ → ℕ → Execution
do_rounds x parts path =
    rounds (test_behind (test_at x parts path)) (λ k. turn_at x parts (in_turn parts.stmt (k + 1) path))
    (halt_with (Beyond parts.stmt))

-- a `while` or `for` after its first part
unfoldable pub for_loop_at : Context → LoopParts → List Step → Execution
for_loop_at x parts path s = then_do (for_rounds x parts path x.turns 1 s) (λ flow. give (flow_after_loop
    flow))

-- a `do`
unfoldable pub do_loop_at : Context → LoopParts → List Step → Execution
do_loop_at x parts path s = then_do (do_rounds x parts path x.turns 0 s) (λ flow. give (flow_after_loop flow))
