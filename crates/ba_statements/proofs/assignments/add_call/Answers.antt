use Rattle.std.proofs.Common.{map}
use Rattle.std.proofs.lemmas.Result.{on_ok_weaker}
use Rattle.ba_typing.specs.Expressions.{typed_arguments}
use Rattle.ba_typing.specs.Names.{name_of}
use Rattle.ba_tree.specs.Trees.{tree_of_stmt}
use Rattle.ba_statements.proofs.CallSteps.{call-is}
use Rattle.ba_statements.proofs.assignments.add_call.Goals as goal

pub returns : goal.returns
returns c = let w = c.args.work.now in on_ok_weaker c.put.result (λ pushed.
    call-is c.args.name.now.at (name_of c.args.name.now) (typed_arguments c.args.arguments.now)
    c.args.scope.now w
    c.number.new.self c.in_ok-j.j c.call.new.tally c.in_ok-stmt.stmt (map tree_of_stmt
    c.args.stmts.now.items) _
    c.in_ok-j.ensures.0 c.in_ok-j.ensures.1 c.in_ok-stmt.ensures pushed) c.put.ensures
