-- The parts of a `switch`.

use Rattle.std.specs.Prelude.{◌≡◌, ℕ, ℤ, Option, List, [], ◌∷◌, map, Ok}
use Rattle.ba_code.specs.State.{operand_value}
use Rattle.ba_code.specs.declared.nodes.Node.{Node}
use Rattle.ba_code.specs.declared.nodes.Operand.{Operand}
use Rattle.ba_inline.specs.Adding.{if_act}
use Rattle.ba_inline.specs.Making.{Adds, Part}
use Rattle.ba_inline.specs.Parts.{context_in_frame}
use Rattle.ba_inline.specs.declared.frames.Frame.{Frame}
use Rattle.ba_numbers.specs.declared.ids.StmtId.{StmtId}
use Rattle.ba_numbers.specs.declared.numbers.CType.{CType}
use Rattle.ba_tree.specs.Acts.{after_part, flow_after_loop, fork, give, then_do}
use Rattle.ba_tree.specs.Meaning.{Context, entered, exec, exec_all, given_value, label_at}
use Rattle.ba_tree.specs.State.{Execution}
use Rattle.ba_tree.specs.declared.run.Exit.{Exit}
use Rattle.ba_tree.specs.declared.run.Flow.{Flow}
use Rattle.ba_tree.specs.declared.run.Flow.TheVariants.{Next}
use Rattle.ba_tree.specs.declared.run.Step.{Step}
use Rattle.ba_tree.specs.declared.tree.Expr.{Expr}
use Rattle.ba_tree.specs.declared.tree.Program.{Program}
use Rattle.ba_tree.specs.declared.tree.Start.{Start}
use Rattle.ba_tree.specs.declared.tree.Stmt.{Stmt}

-- a `switch`
abbrev pub switch_part : Program → Frame → StmtId → CType → Expr → List Start → Option ℕ → List Stmt → Part
    (Flow Exit)
switch_part p frame stmt t on starts other body w path _ s =
    then_do (given_value (context_in_frame p frame w) path stmt t on s)
    (λ z s. then_do (exec_all (context_in_frame p frame w) path (entered (label_at starts z other) body) s)
    (λ flow. give (flow_after_loop flow)))

-- statements in a row, each executed if its value isn't 0
abbrev pub guarded_row : Context → List Step → List Stmt → List ℤ → Execution
guarded_row x path [] zs s = (Ok Next, s)
guarded_row x path (stmt ∷ body) [] s = (Ok Next, s)
guarded_row x path (stmt ∷ body) (z ∷ zs) s =
    then_do (fork (exec x stmt path) (give Next) z s) (after_part (guarded_row x path body zs))

-- the same by flags that the code has before the first of them
abbrev pub guarded_part : Program → Frame → List Stmt → List Operand → Part (Flow Exit)
guarded_part p frame body flags w path t =
    guarded_row (context_in_frame p frame w) path body (map (operand_value t) flags)

-- The group of a statement with this flag. It is the group before, if the flag is the same. Else it is a new
-- one, and the group before is appended, to run if its own flag isn't 0.
pub data GoesOn (flag when next_when : Operand) (nodes next old new : List Node) : Type 0 where
  same : flag ≡ when → next_when ≡ when → next ≡ nodes → new ≡ old → GoesOn flag when next_when nodes next
      old new
  begins : next_when ≡ flag → next ≡ [] → Adds old new (if_act when nodes [])
      → GoesOn flag when next_when nodes next old new
