use Rattle.std.proofs.Common.{List, refl, subst, ◌∙◌}
use Rattle.ba_cases.specs.Reading.{StopsUnread, parts_of, unread}
use Rattle.ba_files.specs.Files.{AreRead}
use Rattle.ba_files.specs.declared.files.Named.{Named}
use Rattle.ba_tool.specs.declared.requests.Request.TheVariants as request
use Rattle.ba_tool.proofs.Coming.{check_all_ends, unread_ends}
use Rattle.ba_tool.proofs.tool.check_all_answer.Goals as goal

pub returns-in-Ok-clause-ends : goal.returns-in-Ok-clause-ends
returns-in-Ok-clause-ends g c =
    let files = c.as_slice.ensures ∙ c.files_with_inputs-files.ensures in
    check_all_ends c.args.job.now c.in-Ok.texts (g.W.World.outside c.args.world.now)
    (g.W.World.outside c.read.new.world) _ _ _ c.check_all_texts.result
    (subst (λ (fs : List Named). AreRead fs (parts_of c.in-Ok.texts) (g.W.World.outside c.args.world.now)
    (g.W.World.outside c.read.new.world)) files c.in-Ok.ensures.ok)
    c.read.ensures.stays c.check_all_texts.ensures.stays c.check_all_texts.ensures.ends

pub returns-in-Err-clause-ends : goal.returns-in-Err-clause-ends
returns-in-Err-clause-ends g c =
    let files = c.as_slice.ensures ∙ c.files_with_inputs-files.ensures in
    unread_ends (request.CheckAll c.args.job.now) (g.W.World.outside c.args.world.now)
    (g.W.World.outside c.read.new.world) (g.D.StepSink.told c.args.steps.now) c.in-Err.stop c.answer.result
    c.read.ensures.stays (λ a is. unread is refl)
    (subst (λ (fs : List Named). StopsUnread fs (g.W.World.outside c.args.world.now)
    (g.W.World.outside c.read.new.world) c.in-Err.stop) files c.in-Err.ensures.err) c.answer.ensures
