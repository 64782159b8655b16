use Rattle.std.proofs.Common.{sym, ◌∙◌, ap}
use Rattle.ba_tree.specs.Run.{with_restored}
use Rattle.ba_interp.specs.Frames.{all_taken}
use Rattle.ba_interp.proofs.Restoring.{ended}
use Rattle.ba_interp.proofs.frames.end_frame.Goals as goal

pub returns : goal.returns
returns c = λ before kept.
    c.cut.ensures ∙ ended c.args.function.now before c.args.machine.now c.restore.new.machine
    c.restore-2.new.machine c.args.kept.now.arrays
    (c.restore.ensures before (c.as_slice-2.ensures.value ∙ kept.params
    ∙ ap (all_taken before) (sym c.as_slice.ensures))
    ∙ ap (λ vs. with_restored vs before c.args.machine.now) c.as_slice.ensures)
    (c.restore-2.ensures before (c.as_slice-4.ensures.value ∙ kept.locals
    ∙ ap (all_taken before) (sym c.as_slice-3.ensures))
    ∙ ap (λ vs. with_restored vs before c.restore.new.machine) c.as_slice-3.ensures) kept.arrays
