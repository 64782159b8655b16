use Rattle.std.proofs.Common.{SFits, w64, to_z-of_z, rules, ◌++◌, ◌∷◌, [], ◌∙◌, ap, arith}
use Rattle.ba_code.specs.declared.nodes.Operand.TheVariants.{Const}
use Rattle.ba_guards.proofs.Beginning.{constants-more}
use Rattle.ba_guards.proofs.starting.constants.Goals as goal

pub loop-index-preserved : goal.loop-index-preserved
loop-index-preserved c =
    let fits : SFits w64 c.value_at.result = search rules in
    constants-more c.args.values.now c.args.count c.loop-index.index c.value_at.result
    c.loop-index.constants.items c.push.new.self.items (omega arith) c.value_at.ensures c.loop-index.invariant
    (c.in_ok-push.ensures.items ∙ ap (λ z. c.loop-index.constants.items ++ Const z ∷ []) (to_z-of_z fits))
