use Rattle.ba_numbers.proofs.Products.{widened, quotient_read}
use Rattle.ba_numbers.proofs.numbers.quotient.Goals as goal

pub returns-clause-small : goal.returns-clause-small
returns-clause-small c =
    rw (
      widened c.args.a c.from.result c.ranges.a c.from.ensures,
      widened c.args.b c.from-2.result c.ranges.b c.from-2.ensures,
    ) (quotient_read c.args.a c.args.b c.ranges.a)
