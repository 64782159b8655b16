use Rattle.std.proofs.Common.{sym, subst}
use Rattle.ba_guards.proofs.Building.{demands-met, demands-more}
use Rattle.ba_guards.specs.Making.{Demands, word_in}
use Rattle.ba_guards.proofs.builder.Builder.demand.Goals as goal

pub returns-then-is_met : goal.returns-then-is_met
returns-then-is_met c = λ d fits below. demands-met d c.args.self.now c.args.condition c.in_ok-met.met
    c.select.new.self fits below
    c.in_ok-met.ensures (c.is_met.ensures c.if-is_met.true)

pub returns : goal.returns
returns c = λ d fits below.
    subst (λ r. Demands d c.args.self.now (record c.args.self.now { words = c.select.new.self; require = r })
    (word_in c.args.self.now.words c.args.condition)) (sym c.in_ok-push.ensures)
    (demands-more d c.args.self.now c.args.condition c.in_ok-met.met c.select.new.self fits below
    c.in_ok-met.ensures)
