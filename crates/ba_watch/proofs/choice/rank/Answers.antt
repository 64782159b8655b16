use Rattle.std.proofs.Common.{Bool, Some, ap, sym, ◌∙◌, ℕ}
use Rattle.ba_watch.specs.Trails.{trail_index_if}
use Rattle.ba_watch.proofs.NewClauses.{rank_placed}
use Rattle.ba_watch.proofs.choice.rank.Goals as goal

pub returns-in-None : goal.returns-in-None
returns-in-None c =
    absurd (rank_placed c.args.trail.now.lits c.args.lit (sym c.value-value.ensures
    ∙ (c.in-Some-false.is ∙ ap (λ (b : Bool). Some b) c.in-Some-false.field-0-test))
    (sym c.in-None.is ∙ (c.trail_index.ensures ∙ ap (λ (x : ℕ). trail_index_if c.args.trail.now.lits x)
    c.variable.ensures.variable)))
