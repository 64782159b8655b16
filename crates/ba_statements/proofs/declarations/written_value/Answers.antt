use Rattle.std.proofs.Common.{sym}
use Rattle.std.specs.Option.{is_some}
use Rattle.ba_typing.specs.Expressions.{typed_conditional}
use Rattle.ba_statements.proofs.Enumerating.{value-is}
use Rattle.ba_statements.proofs.KeptValues.{un-not}
use Rattle.ba_statements.proofs.declarations.written_value.Goals as goal

pub returns : goal.returns
returns c =
    let s = typed_conditional c.args.c.now c.args.scope.now c.args.tally.now.calls in
    let z = c.constant_value-value.result in
    value-is c.args.at c.in_ok-j.j s c.args.tally.now c.whole.new.tally c.add_if.new.self z c.is_none.result
    c.in_ok-j.ensures.0 c.in_ok-j.ensures.1 (c.constant_value-value.ensures s c.in_ok-j.ensures.0)
    (un-not c.is_none.result (is_some z) (sym c.is_none.ensures)) c.add_if.ensures
