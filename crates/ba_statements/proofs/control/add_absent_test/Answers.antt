use Rattle.ba_statements.proofs.ControlSteps.{absent-is}
use Rattle.ba_statements.proofs.control.add_absent_test.Goals as goal

pub returns : goal.returns
returns c scope = absent-is c.args.at scope c.args.work.now c.number.new.self c.in_ok-j.j c.add_limit.new.self
    c.in_ok-stmt.stmt c.in_ok-j.ensures c.add_limit.ensures c.in_ok-stmt.ensures
