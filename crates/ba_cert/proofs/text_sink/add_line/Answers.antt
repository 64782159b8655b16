use Rattle.std.proofs.Common.{Err, true, ap, ◌∙◌}
use Rattle.std.proofs.lemmas.Result.{err_from_is_err_and}
use Rattle.ba_cert.specs.Text.{HasLine}
use Rattle.ba_cert.proofs.AddLaws.{line-begun, line-none, line-partly, line-refused, line-sound, line-stays, line-taken, line-untaken}
use Rattle.ba_cert.proofs.PrefixLaws.{sound-begins}
use Rattle.ba_cert.proofs.SinkLaws.{sound-countable, sound-written, writes-sound}
use Rattle.ba_cert.proofs.text_sink.add_line.Goals as goal

pub add-requires : goal.add-requires
add-requires g c =
    let head = c.args.head.now in
    let name = c.args.name.now in
    let old = g.W.World.outside c.args.world.now in
    writes-sound head true name old.is_writing old.writing (old.kept name)
    (sound-written head true name old c.requires.sound)

pub returns-in_err-line-clause-sound : goal.returns-in_err-line-clause-sound
returns-in_err-line-clause-sound g c =
    let old = g.W.World.outside c.args.world.now in
    let is = c.is_head.ensures (sound-countable c.args.head.now true c.args.name.now old c.requires.sound) in
    let formed : HasLine c.args.step.now = (c.requires.formed, c.groups_have_32_bits.ensures) in
    let e = err_from_is_err_and c.from_residual.result c.from_residual.ensures.1 in
    let err = e.1 in
    rw err
    (line-none c.args.head.now is c.args.name.now old c.requires.sound c.args.step.now formed)

pub returns-in_err-line-clause-takes : goal.returns-in_err-line-clause-takes
returns-in_err-line-clause-takes g c =
    let old = g.W.World.outside c.args.world.now in
    let is = c.is_head.ensures (sound-countable c.args.head.now true c.args.name.now old c.requires.sound) in
    let formed : HasLine c.args.step.now = (c.requires.formed, c.groups_have_32_bits.ensures) in
    let e = err_from_is_err_and c.from_residual.result c.from_residual.ensures.1 in
    λ reference. rw (e.1, e.2)
    (line-untaken c.args.head.now is c.args.name.now old c.requires.sound c.args.step.now formed reference)

pub returns-in_err-line-clause-begins : goal.returns-in_err-line-clause-begins
returns-in_err-line-clause-begins g c =
    let old = g.W.World.outside c.args.world.now in
    let is = c.is_head.ensures (sound-countable c.args.head.now true c.args.name.now old c.requires.sound) in
    sound-begins c.args.head.now is c.args.name.now old c.requires.sound

pub returns-in-Err-clause-sound : goal.returns-in-Err-clause-sound
returns-in-Err-clause-sound g c =
    let old = g.W.World.outside c.args.world.now in
    let is = c.is_head.ensures (sound-countable c.args.head.now true c.args.name.now old c.requires.sound) in
    let formed : HasLine c.args.step.now = (c.requires.formed, c.groups_have_32_bits.ensures) in
    line-partly c.args.head.now is c.args.name.now old c.requires.sound c.args.step.now formed
    (g.W.World.outside c.add.new.self) c.as_slice.result.now
    (c.as_slice.ensures.value ∙ c.in_ok-line.ensures) c.add.ensures.others c.add.ensures.stays
    c.add.ensures.prefix

pub returns-in-Err-clause-takes : goal.returns-in-Err-clause-takes
returns-in-Err-clause-takes g c =
    let old = g.W.World.outside c.args.world.now in
    let is = c.is_head.ensures (sound-countable c.args.head.now true c.args.name.now old c.requires.sound) in
    let formed : HasLine c.args.step.now = (c.requires.formed, c.groups_have_32_bits.ensures) in
    λ reference. line-refused c.args.head.now is c.args.name.now old c.requires.sound c.args.step.now formed
    (g.W.World.outside c.add.new.self) c.as_slice.result.now
    (c.as_slice.ensures.value ∙ c.in_ok-line.ensures) c.add.ensures.others c.add.ensures.stays
    reference _ c.in-Err.error c.sink_error.ensures c.add.ensures.prefix
    (λ failed. c.add.ensures.cause (c.in-Err.is ∙ ap Err failed))

pub returns-in-Err-clause-begins : goal.returns-in-Err-clause-begins
returns-in-Err-clause-begins g c =
    let old = g.W.World.outside c.args.world.now in
    let is = c.is_head.ensures (sound-countable c.args.head.now true c.args.name.now old c.requires.sound) in
    let formed : HasLine c.args.step.now = (c.requires.formed, c.groups_have_32_bits.ensures) in
    line-begun c.args.head.now is c.args.name.now old c.requires.sound c.args.step.now formed
    (g.W.World.outside c.add.new.self) c.as_slice.result.now
    (c.as_slice.ensures.value ∙ c.in_ok-line.ensures) c.add.ensures.others c.add.ensures.stays
    c.add.ensures.prefix

pub returns-in-Err-clause-stays : goal.returns-in-Err-clause-stays
returns-in-Err-clause-stays g c =
    let old = g.W.World.outside c.args.world.now in
    let is = c.is_head.ensures (sound-countable c.args.head.now true c.args.name.now old c.requires.sound) in
    let formed : HasLine c.args.step.now = (c.requires.formed, c.groups_have_32_bits.ensures) in
    line-stays c.args.head.now is c.args.name.now old c.requires.sound c.args.step.now formed
    (g.W.World.outside c.add.new.self) c.as_slice.result.now
    (c.as_slice.ensures.value ∙ c.in_ok-line.ensures) c.add.ensures.others c.add.ensures.stays

pub returns-clause-sound : goal.returns-clause-sound
returns-clause-sound g c =
    let old = g.W.World.outside c.args.world.now in
    let is = c.is_head.ensures (sound-countable c.args.head.now true c.args.name.now old c.requires.sound) in
    let formed : HasLine c.args.step.now = (c.requires.formed, c.groups_have_32_bits.ensures) in
    line-sound c.args.head.now is c.args.name.now old c.requires.sound c.args.step.now formed
    (g.W.World.outside c.add.new.self) c.as_slice.result.now
    (c.as_slice.ensures.value ∙ c.in_ok-line.ensures) c.add.ensures.others c.add.ensures.stays
    c.in_default.ensures.added

pub returns-clause-takes : goal.returns-clause-takes
returns-clause-takes g c =
    let old = g.W.World.outside c.args.world.now in
    let is = c.is_head.ensures (sound-countable c.args.head.now true c.args.name.now old c.requires.sound) in
    let formed : HasLine c.args.step.now = (c.requires.formed, c.groups_have_32_bits.ensures) in
    λ reference. line-taken c.args.head.now is c.args.name.now old c.requires.sound c.args.step.now formed
    (g.W.World.outside c.add.new.self) c.as_slice.result.now
    (c.as_slice.ensures.value ∙ c.in_ok-line.ensures) c.add.ensures.others c.add.ensures.stays
    reference c.in_default.ensures.added

pub returns-clause-begins : goal.returns-clause-begins
returns-clause-begins g c =
    let old = g.W.World.outside c.args.world.now in
    let is = c.is_head.ensures (sound-countable c.args.head.now true c.args.name.now old c.requires.sound) in
    let formed : HasLine c.args.step.now = (c.requires.formed, c.groups_have_32_bits.ensures) in
    line-begun c.args.head.now is c.args.name.now old c.requires.sound c.args.step.now formed
    (g.W.World.outside c.add.new.self) c.as_slice.result.now
    (c.as_slice.ensures.value ∙ c.in_ok-line.ensures) c.add.ensures.others c.add.ensures.stays
    c.add.ensures.prefix

pub returns-clause-stays : goal.returns-clause-stays
returns-clause-stays g c =
    let old = g.W.World.outside c.args.world.now in
    let is = c.is_head.ensures (sound-countable c.args.head.now true c.args.name.now old c.requires.sound) in
    let formed : HasLine c.args.step.now = (c.requires.formed, c.groups_have_32_bits.ensures) in
    line-stays c.args.head.now is c.args.name.now old c.requires.sound c.args.step.now formed
    (g.W.World.outside c.add.new.self) c.as_slice.result.now
    (c.as_slice.ensures.value ∙ c.in_ok-line.ensures) c.add.ensures.others c.add.ensures.stays
