use Rattle.std.proofs.Common.{Err, ap, ◌∙◌}
use Rattle.std.proofs.lemmas.Result.{err_from_is_err_and}
use Rattle.ba_cert.proofs.AddLaws.{first-log, first-none, first-partly, first-refused, first-sound, first-whole}
use Rattle.ba_cert.proofs.text_sink.begin_text.Goals as goal

pub returns-clause-sound : goal.returns-clause-sound
returns-clause-sound g c =
    let outside = g.W.World.outside in
    first-sound c.args.head.now (c.is_head.ensures c.requires.countable) c.args.name.now
    (outside c.begin_file.new.self) (outside c.add.new.self) c.in_default.ensures.begun c.as_slice.result.now
    (c.as_slice.ensures.value ∙ c.in_ok-lines.ensures) c.add.ensures.others c.in_default-add.ensures.added

pub returns-clause-no_step : goal.returns-clause-no_step
returns-clause-no_step g c =
    let outside = g.W.World.outside in
    first-log c.args.head.now (c.is_head.ensures c.requires.countable) c.args.name.now
    (outside c.begin_file.new.self) (outside c.add.new.self) c.in_default.ensures.begun c.as_slice.result.now
    (c.as_slice.ensures.value ∙ c.in_ok-lines.ensures) c.add.ensures.others c.in_default-add.ensures.added

pub returns-clause-writes : goal.returns-clause-writes
returns-clause-writes g c =
    let outside = g.W.World.outside in
    first-whole c.args.head.now (c.is_head.ensures c.requires.countable) c.args.name.now
    (outside c.begin_file.new.self) (outside c.add.new.self) c.in_default.ensures.begun c.as_slice.result.now
    (c.as_slice.ensures.value ∙ c.in_ok-lines.ensures) c.add.ensures.others
    (outside c.args.world.now) c.begin_file.ensures.others c.begin_file.ensures.stays c.add.ensures.stays
    c.add.ensures.prefix c.in_default-add.ensures.added

pub returns-in-Err-add-clause-writes : goal.returns-in-Err-add-clause-writes
returns-in-Err-add-clause-writes g c =
    let outside = g.W.World.outside in
    first-partly c.args.head.now (c.is_head.ensures c.requires.countable) c.args.name.now
    (outside c.begin_file.new.self) (outside c.add.new.self) c.in_default.ensures.begun c.as_slice.result.now
    (c.as_slice.ensures.value ∙ c.in_ok-lines.ensures) c.add.ensures.others
    (outside c.args.world.now) c.begin_file.ensures.others c.begin_file.ensures.stays c.add.ensures.stays
    c.add.ensures.prefix _ c.in-Err-add.error c.sink_error-in-Err-add.ensures
    (λ failed. c.add.ensures.cause (c.in-Err-add.is ∙ ap Err failed))

pub returns-in-Err-clause-writes : goal.returns-in-Err-clause-writes
returns-in-Err-clause-writes g c =
    let outside = g.W.World.outside in
    first-refused c.args.head.now c.args.name.now (outside c.args.world.now) (outside c.begin_file.new.self)
    c.begin_file.ensures.others c.begin_file.ensures.stays _ c.in-Err.error c.sink_error.ensures
    c.in-Err.ensures.refused (λ failed. c.begin_file.ensures.cause (c.in-Err.is ∙ ap Err failed))

pub returns-in_err-lines-clause-writes : goal.returns-in_err-lines-clause-writes
returns-in_err-lines-clause-writes g c =
    let outside = g.W.World.outside in
    let e = err_from_is_err_and c.from_residual.result c.from_residual.ensures.1 in
    rw (e.1, e.2)
    (first-none c.args.head.now c.args.name.now (outside c.args.world.now) (outside c.begin_file.new.self)
    c.begin_file.ensures.others c.begin_file.ensures.stays c.in_default.ensures.begun)
