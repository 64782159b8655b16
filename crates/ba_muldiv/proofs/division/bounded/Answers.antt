use Rattle.std.proofs.Common.{◌<◌, ◌+◌, length, sym, ◌∙◌, ◌&&◌, arith}
use Rattle.ba_nodes.specs.Gates.{truth}
use Rattle.ba_nodes.proofs.Truths.{Grows-through}
use Rattle.ba_words.specs.Words.{low_number, bit_at}
use Rattle.ba_words.proofs.Circuits.{LowIs-more, HasValue-same}
use Rattle.ba_words.proofs.Places.{low_number-more}
use Rattle.ba_muldiv.proofs.Bounds.{bounded_place}
use Rattle.ba_muldiv.proofs.division.bounded.Goals as goal

pub loop-place-preserved : goal.loop-place-preserved
loop-place-preserved c =
    let old = c.args.nodes.now in
    let word = c.args.word.now in
    let bounds = c.args.bounds.now in
    let p = c.loop-place.place in
    let l = c.loop-place.invariant in
    let within : p < length word = omega (arith, c.told-word) in
    record {
      grows = Grows-through old c.loop-place.nodes c.and.new.self l.grows c.and.ensures.makes.grows
          (omega arith);
      number = LowIs-more c.loop-place.nodes c.and.new.self c.loop-place.out p c.in_ok-out.field-0 _
          (λ free. low_number free old word (p + 1)) (λ free. truth free old (bit_at word p)) (omega arith)
          c.and.ensures.makes.grows.extends l.number
          (HasValue-same c.and.new.self c.in_ok-out.field-0 _ _ c.in_ok-out.ensures.makes.value
          (λ free.
          (λ i. l.grows.extends.keeps free (bit_at word p) (c.requires.words.first p) i
          && l.grows.extends.keeps free (bit_at bounds p) (c.requires.words.second p) i)
          ∙ bounded_place free old word bounds p c.told-word (omega arith) (c.requires.small free)))
          (λ free. sym (low_number-more free old word p within));
    }
