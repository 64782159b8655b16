use Rattle.std.proofs.Common.{◌≡◌, length, sym, ap, ◌∙◌, ◌==◌}
use Rattle.std.proofs.lemmas.Bool.{eqb-true}
use Rattle.ba_encode.proofs.Parting.{rest-back, rest-front, rest-left}
use Rattle.ba_encode.proofs.Spots.{all-at, map-more}
use Rattle.ba_encode.specs.Parts.{bits_of_value, value_by}
use Rattle.ba_encode.specs.declared.encoded.ValueReading.{ValueReading}
use Rattle.ba_encode.specs.declared.places.ValueBits.{ValueBits}
use Rattle.ba_encode.proofs.reading.value_readings.Goals as goal

pub loop-value-preserved : goal.loop-value-preserved
loop-value-preserved c =
    let values = c.args.values.now in
    let i = c.loop-value.value-index in
    let value : ValueBits = c.value-item.result in
    let within = c.loop-value-test.true in
    let own : 32 ≡ length value.bits = sym (eqb-true (length value.bits) 32
    (all-at (λ (v : ValueBits). length v.bits == 32) values i value within c.value-item.is
    c.requires.long)) in
    record {
      many = ap length c.split_at.ensures.back
          ∙ rest-left bits_of_value values i value c.loop-value.rest.now 32 within c.value-item.is own
          c.loop-value.invariant.many;
      rest = λ reading are. c.split_at.ensures.back
          ∙ rest-back bits_of_value reading values i value c.loop-value.rest.now 32 within c.value-item.is own
          (c.loop-value.invariant.rest reading are);
      read = λ reading are.
          let bits = c.in_ok-from_slice.ensures ∙ c.split_at.ensures.front
          ∙ rest-front bits_of_value reading values i value c.loop-value.rest.now 32 within c.value-item.is
          own
          (c.loop-value.invariant.rest reading are) in
          let made : ValueReading = record { signed = value.signed; bits = c.in_ok-from_slice.field-0 } in
          let same : made ≡ value_by reading value = λ j. record { signed = value.signed; bits = bits j } in
          c.in_ok-push.ensures.ok
          ∙ map-more (value_by reading) values i value c.loop-value.read made within
          (c.loop-value.invariant.read reading are) (same ∙ ap (value_by reading) c.value-item.is);
    }
