use Rattle.std.proofs.Common.{◌≡◌, ◌+◌, arith}
use Rattle.ba_expressions.proofs.Inferences.{called-is}
use Rattle.ba_expressions.proofs.inferred.called.Goals as goal

pub returns : goal.returns
returns c expression is = let higher : c.in-Some.height ≡ 1 + c.args.call.height = omega (
  arith,
  c.in-Some.ensures,
) in
    called-is c.args.at c.args.call expression c.in-Some.height higher is
