use Rattle.std.proofs.Common.{List, refl, subst, ◌∙◌}
use Rattle.ba_cases.specs.Reading.{StopsUnread, unread}
use Rattle.ba_files.specs.Files.{AreRead}
use Rattle.ba_files.specs.declared.files.Named.{Named}
use Rattle.mode_repair.specs.Jobs.{parts_of}
use Rattle.ba_tool.specs.declared.requests.Request.TheVariants as request
use Rattle.ba_tool.proofs.Coming.{repair_ends, unread_ends}
use Rattle.ba_tool.proofs.tool.repair_answer.Goals as goal

pub returns-in-Ok-clause-ends : goal.returns-in-Ok-clause-ends
returns-in-Ok-clause-ends g c =
    let files = c.as_slice.ensures ∙ c.files-files.ensures in
    repair_ends c.args.job.now c.in-Ok.texts (g.W.World.outside c.args.world.now)
    (g.W.World.outside c.read.new.world) _ _ c.repair_texts.result
    (subst (λ (fs : List Named). AreRead fs (parts_of c.in-Ok.texts) (g.W.World.outside c.args.world.now)
    (g.W.World.outside c.read.new.world)) files c.in-Ok.ensures.ok)
    c.read.ensures.stays c.repair_texts.ensures

pub returns-in-Err-clause-ends : goal.returns-in-Err-clause-ends
returns-in-Err-clause-ends g c =
    let files = c.as_slice.ensures ∙ c.files-files.ensures in
    unread_ends (request.Repair c.args.job.now) (g.W.World.outside c.args.world.now)
    (g.W.World.outside c.read.new.world) (g.D.StepSink.told c.args.steps.now) c.in-Err.stop c.answer.result
    c.read.ensures.stays (λ a is. unread is refl)
    (subst (λ (fs : List Named). StopsUnread fs (g.W.World.outside c.args.world.now)
    (g.W.World.outside c.read.new.world) c.in-Err.stop) files c.in-Err.ensures.err) c.answer.ensures
