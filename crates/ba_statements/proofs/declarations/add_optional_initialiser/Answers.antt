use Rattle.std.proofs.lemmas.Result.{on_ok_weaker}
use Rattle.ba_statements.specs.Adding.{state}
use Rattle.ba_statements.proofs.Declaring.{none-is, some-is}
use Rattle.ba_statements.proofs.declarations.add_optional_initialiser.Goals as goal

pub returns-in-None : goal.returns-in-None
returns-in-None c l same = none-is c.args.d.at c.args.d.var c.args.d.t l c.args.init.now
    (state c.args.scope.now c.args.work.now c.args.stmts.now) c.in-None.is

pub returns-in-Some : goal.returns-in-Some
returns-in-Some c = on_ok_weaker c.add_initialiser.result (λ added l same.
    some-is c.args.d.at c.args.d.var c.args.d.t l c.args.init.now
    (state c.args.scope.now c.args.work.now c.args.stmts.now)
    (state c.args.scope.now c.add_initialiser.new.work c.add_initialiser.new.stmts) c.in-Some.init
    c.in-Some.is (added l same))
    c.add_initialiser.ensures
