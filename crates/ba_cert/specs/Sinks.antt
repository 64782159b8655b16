-- What the sinks of a certificate tell, by their worlds and the other sinks.

use Rattle.ba_steps.specs.Sinks.{Told, told_by_both}
use Rattle.ba_world.specs.World.{Outside}
use Rattle.ba_cert.specs.Writing.{told_at}
use Rattle.ba_cert.specs.declared.text_sink.CertSink.{CertSink}
use Rattle.ba_cert.specs.declared.text_sink.TextSink.{TextSink}

-- what a sink that writes the text tells
abbrev pub text_told : {W S : Type 0} {w : _} {s : _} → (W → Outside) → TextSink W S w s → Told
text_told outside sink = told_at sink.head sink.name.now (outside sink.world.now) sink.world.ghost_name

-- what a sink that writes the text and hands on tells
abbrev pub cert_told : {W S D : Type 0} {w : _} {s : _} {d : _} → (W → Outside) → (D → Told) →
    CertSink W S D w s d → Told
cert_told outside tells sink =
    told_by_both sink.next.ghost_name (text_told outside sink.text) (tells sink.next.now)
