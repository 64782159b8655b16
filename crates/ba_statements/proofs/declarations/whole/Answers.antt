use Rattle.ba_typing.specs.Expressions.{typed_conditional}
use Rattle.ba_statements.proofs.KeptValues.{whole-is}
use Rattle.ba_statements.proofs.declarations.whole.Goals as goal

pub returns : goal.returns
returns c = let s = typed_conditional c.args.c.now c.args.scope.now c.args.tally.now.calls in (
  c.in_ok-j.ensures.0,
  whole-is c.args.at c.in_ok-j.j s c.args.tally.now c.conditional.new.tally
      c.add_limit.new.self
      c.in_ok-j.ensures c.add_limit.ensures,
)
