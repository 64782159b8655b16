use Rattle.std.proofs.Common.{true}
use Rattle.ba_cert.proofs.PrefixLaws.{sound-begins}
use Rattle.ba_cert.proofs.SinkLaws.{sound-countable}
use Rattle.ba_cert.proofs.text_sink.TextSink.new.Goals as goal

pub invariant_of-result : goal.invariant_of-result
invariant_of-result g c =
    let old = g.W.World.outside c.args.world.now in
    record {
      sound = c.requires.sound;
      named = c.requires.named;
      headed = c.requires.headed;
      stays = c.requires.stays;
      begins = sound-begins c.args.head
          (c.is_head.ensures (sound-countable c.args.head true c.args.name.now old c.requires.sound))
          c.args.name.now old c.requires.sound;
    }
