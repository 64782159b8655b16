use Rattle.std.proofs.Common.{refl}
use Rattle.ba_guards.proofs.Building.{closes-by}
use Rattle.ba_guards.proofs.builder.Builder.end_block.Goals as goal

pub returns : goal.returns
returns c = λ d fits. (
  c.in-Some.exit,
  closes-by d c.args.self.now _ c.write_since.new.self c.in-Some.exit c.in_ok-numbers.numbers fits
      c.in-Some.ensures.some refl c.in_ok-numbers.ensures c.in_ok-either_way.ensures.kept
      c.in_ok-either_way.ensures.ways c.in_ok-write_since.ensures.same c.in_ok-write_since.ensures.gathers,
)
