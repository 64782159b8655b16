use Rattle.std.proofs.Common.{rules, length, SFits, w64, to_z, of_z, to_z-of_z, ◌∙◌}
use Rattle.std.proofs.lemmas.List.{length-set}
use Rattle.ba_interp.proofs.Filling.{filled-more}
use Rattle.ba_interp.proofs.machine.fill.Goals as goal

pub loop-k-preserved : goal.loop-k-preserved
loop-k-preserved c =
    let fits : SFits w64 c.unwrap_or.result = search rules in (
      length-set c.loop-k.elements c.loop-k.k (to_z w64 (of_z w64 c.unwrap_or.result)) ∙ c.loop-k.invariant.0,
      filled-more (length c.args.elements.now) c.args.values.now c.loop-k.elements c.loop-k.k (to_z w64 (of_z
          w64 c.unwrap_or.result))
          (search rules) c.loop-k.invariant.0 (to_z-of_z fits ∙ search rules) c.loop-k.invariant.1,
    )
