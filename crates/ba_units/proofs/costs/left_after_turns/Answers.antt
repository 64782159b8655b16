use Rattle.std.proofs.Common.{rules}
use Rattle.ba_units.proofs.TurnSums.{loop-left}
use Rattle.ba_units.proofs.costs.left_after_turns.Goals as goal

pub returns : goal.returns
returns c = λ x b s behind_condition behind_turn. loop-left c.args.turns c.args.left c.args.condition
    c.args.turn
    c.saturating_sub-once.result c.saturating_mul.result c.saturating_sub.result x b s (search rules)
    behind_condition behind_turn c.saturating_sub-once.ensures c.saturating_mul.ensures
    c.saturating_sub.ensures
