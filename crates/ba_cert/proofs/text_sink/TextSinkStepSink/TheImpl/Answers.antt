use Rattle.std.proofs.Common.{◌≡◌, Result, Ok, Err, OnOk, OnErr, rules, refl, ap}
use Rattle.ba_cert.specs.Writing.{logs_at}
use Rattle.ba_steps.specs.declared.sink.SinkError.{SinkError}
use Rattle.ba_cert.proofs.text_sink.TextSinkStepSink.TheImpl.Goals as goal

-- an answer that is Ok
ok : (A : Type 0) (answer : Result (Unit {0}) SinkError) → A → OnOk answer A
ok A (Ok unit) a = a
ok A (Err error) a = tt

no_err : (A : Type 0) (answer : Result (Unit {0}) SinkError) → answer ≡ Ok tt → OnErr answer A
no_err A (Ok unit) e = tt
no_err A (Err error) e = cc

pub begin-tells : goal.begin-tells
begin-tells g c = record {
  told = ok _ c.result refl;
  refused = no_err _ c.result c.ensures.never;
  logs_stay = ap (λ sink. logs_at sink.head sink.name.now (g.W.World.outside sink.world.now)) c.ensures.same;
  cause = search rules;
  outlasts = record { no_fall = search rules; same_references = search rules };
}
