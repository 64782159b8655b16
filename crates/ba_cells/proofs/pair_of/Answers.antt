use Rattle.std.proofs.Common.{◌+◌, not, ◌&&◌, replicate, ap, ◌∙◌}
use Rattle.ba_nodes.specs.Gates.{truth, Extends}
use Rattle.ba_nodes.proofs.Truths.{Extends-through}
use Rattle.ba_words.specs.Words.{bit_at}
use Rattle.ba_words.proofs.Circuits.{HasValue-extends, HasValue-same}
use Rattle.ba_cells.proofs.Places.{four_numbers}
use Rattle.ba_cells.proofs.pair_of.Goals as goal

pub returns-clause-value : goal.returns-clause-value
returns-clause-value c =
    let old = c.args.nodes.now in
    let n1 = c.and.new.self in
    let n2 = c.and-2.new.self in
    let n3 = c.and-3.new.self in
    let n4 = c.and-4.new.self in
    let first = bit_at c.args.index.now c.args.place in
    let second = bit_at c.args.index.now (c.args.place + 1) in
    let first_is = c.requires.index c.args.place in
    let second_is = c.requires.index (c.args.place + 1) in
    let e1 : Extends old n1 = c.and.ensures.makes.grows.extends in
    let e2 : Extends old n2 = Extends-through old n1 n2 e1 c.and-2.ensures.makes.grows.extends in
    let e3 : Extends old n3 = Extends-through old n2 n3 e2 c.and-3.ensures.makes.grows.extends in
    let f3 : Extends n3 n4 = c.and-4.ensures.makes.grows.extends in
    let f2 : Extends n2 n4 = Extends-through n2 n3 n4 c.and-3.ensures.makes.grows.extends f3 in
    let f1 : Extends n1 n4 = Extends-through n1 n2 n4 c.and-2.ensures.makes.grows.extends f2 in
    four_numbers n4 c.in_ok-bits.field-0 c.in_ok-bits-2.field-0 c.in_ok-bits-3.field-0 c.in_ok-bits-4.field-0
    (replicate 12 c.constant-bits.result) (λ free. truth free old first) (λ free. truth free old second)
    (HasValue-extends n1 n4 _ _ f1 (HasValue-same n1 _ _ _ c.in_ok-bits.ensures.makes.value
    (λ free i. c.not.ensures.value old free i && c.not-2.ensures.value old free i)))
    (HasValue-extends n2 n4 _ _ f2 (HasValue-same n2 _ _ _ c.in_ok-bits-2.ensures.makes.value
    (λ free i. (c.not-3.ensures.value n1 free ∙ ap not (e1.keeps free second second_is)) i
    && e1.keeps free first first_is i)))
    (HasValue-extends n3 n4 _ _ f3 (HasValue-same n3 _ _ _ c.in_ok-bits-3.ensures.makes.value
    (λ free i. e2.keeps free second second_is i
    && (c.not-4.ensures.value n2 free ∙ ap not (e2.keeps free first first_is)) i)))
    (HasValue-same n4 _ _ _ c.in_ok-bits-4.ensures.makes.value
    (λ free i. e3.keeps free second second_is i && e3.keeps free first first_is i))
