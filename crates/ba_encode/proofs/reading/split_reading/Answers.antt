use Rattle.std.proofs.Common.{◌≡◌, ◌+◌, ◌*◌, ◌≤◌, length, take, drop, sym, ap, ◌∙◌, arith}
use Rattle.ba_encode.proofs.Parting.{place-empty, place-size}
use Rattle.ba_encode.specs.Parts.{bits_of}
use Rattle.ba_encode.proofs.reading.split_reading.Goals as goal
use Rattle.ba_encode.proofs.reading.split_reading.Goals.{in-None, in-Some}

pub overflow_mul-size : goal.overflow_mul-size
overflow_mul-size c =
    let size = place-size c.args.place.now c.in-Some.field-0 c.in-Some.is c.requires.long in
    let all : 3 + 32 * c.len.result ≤ length c.args.readings.now = omega (
      arith,
      size,
      c.len.ensures,
      c.requires.many,
    ) in
    omega arith

pub overflow_add-size : goal.overflow_add-size
overflow_add-size c =
    let size = place-size c.args.place.now c.in-Some.field-0 c.in-Some.is c.requires.long in
    let all : 3 + 32 * c.len.result ≤ length c.args.readings.now = omega (
      arith,
      size,
      c.len.ensures,
      c.requires.many,
    ) in
    omega arith

pub split_at-requires : goal.split_at-requires
split_at-requires c =
    let size : c.match-place.size ≡ length (bits_of c.args.place.now) = elim c.match-place.branch [
      | in-None w ↦ w.size-is ∙ sym (place-empty c.args.place.now w.in-None.is)
      | in-Some w ↦ w.size-is ∙ ap (λ n. 3 + 32 * n) w.len.ensures
          ∙ sym (place-size c.args.place.now w.in-Some.field-0 w.in-Some.is c.requires.long)
    ] in
    omega (arith, c.requires.many)

pub returns-clause-own : goal.returns-clause-own
returns-clause-own c =
    let size : c.match-place.size ≡ length (bits_of c.args.place.now) = elim c.match-place.branch [
      | in-None w ↦ w.size-is ∙ sym (place-empty c.args.place.now w.in-None.is)
      | in-Some w ↦ w.size-is ∙ ap (λ n. 3 + 32 * n) w.len.ensures
          ∙ sym (place-size c.args.place.now w.in-Some.field-0 w.in-Some.is c.requires.long)
    ] in
    c.split_at.ensures.front ∙ ap (λ n. take n c.args.readings.now) size

pub returns-clause-behind : goal.returns-clause-behind
returns-clause-behind c =
    let size : c.match-place.size ≡ length (bits_of c.args.place.now) = elim c.match-place.branch [
      | in-None w ↦ w.size-is ∙ sym (place-empty c.args.place.now w.in-None.is)
      | in-Some w ↦ w.size-is ∙ ap (λ n. 3 + 32 * n) w.len.ensures
          ∙ sym (place-size c.args.place.now w.in-Some.field-0 w.in-Some.is c.requires.long)
    ] in
    c.split_at.ensures.back ∙ ap (λ n. drop n c.args.readings.now) size
