use Rattle.std.proofs.Common.{refl, ap, ◌∙◌}
use Rattle.ba_derivations.specs.Derivations.{sets_of}
use Rattle.mode_repair.specs.Report.{repair_text}
use Rattle.mode_repair.proofs.Telling.{repaired}
use Rattle.mode_repair.proofs.search.repaired_answer.Goals as goal

pub returns : goal.returns
returns c = λ x source is. repaired c.args.job.now x c.args.case.now (sets_of c.args.sets.now)
    c.args.source.now c.in_ok-edits.edits.items c.from_vec.result _ is source c.in_ok-edits.ensures
    (c.from_vec.ensures ∙ c.in_ok-bytes.ensures
    ∙ ap (repair_text c.args.source.now c.args.case.now.program) c.as_slice.ensures.value) refl
