use Rattle.std.proofs.Common.{map}
use Rattle.std.proofs.lemmas.Result.{on_ok_weaker}
use Rattle.ba_typing.specs.Statements.{printed_typings}
use Rattle.ba_tree.specs.Trees.{tree_of_stmt}
use Rattle.ba_statements.proofs.PrintSteps.{printf-is}
use Rattle.ba_statements.proofs.statements.add_printf.Goals as goal

pub returns : goal.returns
returns c = on_ok_weaker c.put.result (λ pushed.
    printf-is c.args.at (printed_typings c.args.printed.now) c.args.scope.now c.args.work.now
    c.number.new.self c.in_ok-args.args c.printed_values.new.tally c.in_ok-stmt.stmt
    (map tree_of_stmt c.args.stmts.now.items) _ c.in_ok-args.ensures c.in_ok-stmt.ensures pushed)
    c.put.ensures
