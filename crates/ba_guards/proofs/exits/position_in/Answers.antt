use Rattle.std.proofs.Common.{◌+◌, sym, ◌∙◌, ap, Some, drop}
use Rattle.std.proofs.lemmas.Option.{slice_get-get_or}
use Rattle.ba_guards.proofs.Folding.{exit-end, exit-next}
use Rattle.ba_guards.specs.Continuing.{exit_from, labels_of}
use Rattle.ba_guards.proofs.exits.position_in.Goals as goal

pub loop-index-preserved : goal.loop-index-preserved
loop-index-preserved c = c.loop-index.invariant
    ∙ exit-next c.args.exits.now c.loop-index.index c.loop-index.found c.args.label c.index-exits-index.result
    (slice_get-get_or c.args.exits.now c.loop-index.index c.index-exits-index.result c.loop-index-test.true
    ∙ ap Some (sym c.index-exits-index.is))
    ∙ ap (λ n. exit_from (c.loop-index.index + 1) n c.args.label (drop (c.loop-index.index + 1) (labels_of
    c.args.exits.now)))
    (sym c.later-found.ensures)

pub returns : goal.returns
returns c = sym (c.loop-index.invariant
    ∙ exit-end c.args.exits.now c.loop-index.index c.loop-index.found c.args.label c.loop-index-test.false)
