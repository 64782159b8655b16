-- What stays the same while the interpreter runs a function's body, in terms of the meaning of C.

use Rattle.std.specs.Prelude.{ℤ, Option, List, ◌∷◌, map}
use Rattle.ba_tree.specs.Choices.{one_value, one_truth}
use Rattle.ba_numbers.specs.declared.ids.CallId.{CallId}
use Rattle.ba_numbers.specs.declared.ids.FnId.{FnId}
use Rattle.ba_numbers.specs.declared.ids.StmtId.{StmtId}
use Rattle.ba_tree.specs.Acts.{each, then_do}
use Rattle.ba_tree.specs.Meaning.{Context, given_value, condition, eval_arg}
use Rattle.ba_tree.specs.State.{Act}
use Rattle.ba_tree.specs.declared.run.Step.{Step}
use Rattle.ba_tree.specs.declared.run.Step.TheVariants.{Call}
use Rattle.ba_tree.specs.declared.tree.Arg.{Arg}
use Rattle.ba_tree.specs.declared.tree.Expr.{Expr}
use Rattle.ba_tree.specs.Run.{call_at}
use Rattle.ba_interp.specs.declared.setting.Frame.{Frame}
use Rattle.ba_interp.specs.declared.setting.Setting.{Setting}
use Rattle.ba_interp.specs.declared.relaxing.Wanted.{Wanted}
use Rattle.ba_interp.specs.declared.relaxing.Wanted.TheVariants.{Value, Truth}

-- what stays the same in the body of the frame's function
unfoldable pub context_at : Setting → Frame → Context
context_at setting frame = record {
  program = setting.program.now;
  allowed = setting.allowed.now;
  turns = setting.turns;
  result = frame.result;
  calls = call_at setting.program.now setting.allowed.now setting.turns frame.frames;
}

-- the value of a choice that fits
abbrev pub fitting_of : Wanted → List ℤ → Option ℤ
fitting_of (Value t) = one_value t
fitting_of Truth = one_truth

-- an expression, or the value of a choice in its place
abbrev pub given_at : Context → List Step → StmtId → Wanted → Expr → Act ℤ
given_at x path stmt (Value t) e = given_value x path stmt t e
given_at x path stmt Truth e = condition x path stmt e

-- a call: its arguments, and then its function
abbrev pub call_value_at : Context → List Step → StmtId → CallId → FnId → List Arg → Act ℤ
call_value_at x path here call function args s =
    then_do (each (map (eval_arg x path here) args) s) (x.calls (Call call ∷ path) here function)
