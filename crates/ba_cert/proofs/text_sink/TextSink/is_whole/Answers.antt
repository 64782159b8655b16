use Rattle.std.proofs.Common.{sym, ◌∙◌}
use Rattle.std.proofs.lemmas.Slice.Eq.{bytes_eq-Decides}
use Rattle.ba_cert.proofs.SinkLaws.{sound-countable, sound-written, whole-named}
use Rattle.ba_cert.proofs.text_sink.TextSink.is_whole.Goals as goal

pub returns-then-self-clause-whole : goal.returns-then-self-clause-whole
returns-then-self-clause-whole g c is =
    let sink = c.args.self.now in
    let o = g.W.World.outside sink.world.now in
    whole-named sink.head
    (c.is_head.ensures (sound-countable sink.head sink.whole sink.name.now o sink.sound))
    sink.whole sink.name.now c.args.name.now o.is_writing o.writing o.kept c.if-self.true
    ((bytes_eq-Decides sink.name.now c.args.name.now).0 (sym c.eq.ensures ∙ is))
    (sound-written sink.head sink.whole sink.name.now o sink.sound)
