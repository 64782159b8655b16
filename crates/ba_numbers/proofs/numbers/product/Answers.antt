use Rattle.std.specs.Int.{w128}
use Rattle.std.proofs.lemmas.Int.{to_z-of_z}
use Rattle.ba_numbers.proofs.Products.{widened, product_fits, product_small}
use Rattle.ba_numbers.proofs.numbers.product.Goals as goal

pub overflow_mul-result : goal.overflow_mul-result
overflow_mul-result c =
    rw (
      widened c.args.a c.from.result c.ranges.a c.from.ensures,
      widened c.args.b c.from-2.result c.ranges.b c.from-2.ensures,
    ) (product_fits c.args.a c.args.b c.ranges.a c.ranges.b)

pub returns-clause-value : goal.returns-clause-value
returns-clause-value c =
    rw (
      widened c.args.a c.from.result c.ranges.a c.from.ensures,
      widened c.args.b c.from-2.result c.ranges.b c.from-2.ensures,
    ) (to_z-of_z w128 _ (product_fits c.args.a c.args.b c.ranges.a c.ranges.b))

pub returns-clause-small : goal.returns-clause-small
returns-clause-small c =
    rw (
      widened c.args.a c.from.result c.ranges.a c.from.ensures,
      widened c.args.b c.from-2.result c.ranges.b c.from-2.ensures,
      to_z-of_z w128 _ (product_fits c.args.a c.args.b c.ranges.a c.ranges.b),
    ) (product_small c.args.a c.args.b c.ranges.a c.ranges.b)
