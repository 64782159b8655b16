use Rattle.ba_typing.specs.Expressions.{typed_conditional}
use Rattle.ba_statements.proofs.StatementSteps.{test-is}
use Rattle.ba_statements.proofs.control.add_test.Goals as goal

pub returns : goal.returns
returns c = let w = c.args.work.now in
    test-is (typed_conditional c.args.c.now c.args.scope.now w.tally.calls) c.args.scope.now w
    c.number.new.self c.in_ok-j.j
    c.conditional.new.tally c.add_limit.new.self c.in_ok-stmt.stmt c.in_ok-j.ensures c.add_limit.ensures
    c.in_ok-stmt.ensures
