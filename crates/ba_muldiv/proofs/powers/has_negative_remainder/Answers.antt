use Rattle.std.proofs.Common.{◌≡◌, ◌%◌, ◌^◌, ◌≤◌, length, nat_lt, true, ◌&&◌, ap, ◌∙◌, arith, rules}
use Rattle.ba_words.specs.Words.{number_of, bit_at}
use Rattle.ba_words.proofs.Outcomes.{makes_bit, on_ok}
use Rattle.ba_words.proofs.Circuits.{HasValue-same}
use Rattle.ba_muldiv.proofs.Rows.{sign_value, extended-number, low_number-mod}
use Rattle.ba_muldiv.proofs.powers.has_negative_remainder.Goals as goal

pub returns : goal.returns
returns c = makes_bit (search rules)
    (on_ok c.and.result _ _ (λ bit has. HasValue-same c.and.new.self bit _ _ has (λ free.
    let inside : c.args.exponent ≤ length c.args.a.now = omega (arith, c.told-a, c.requires.few) in
    let low : number_of free c.args.nodes.now c.extended-low.result
    ≡ number_of free c.args.nodes.now c.args.a.now % 2 ^ c.args.exponent =
    extended-number free c.args.nodes.now c.extended-low.result c.args.a.now c.args.exponent
    c.constant.result c.extended-low.ensures.long c.told-a (omega (arith, c.requires.few))
    ((c.constant.ensures.value c.args.nodes.now).holds free) c.extended-low.ensures.places
    ∙ low_number-mod free c.args.nodes.now c.args.a.now c.args.exponent inside in
    (λ i. (c.nonzero.ensures.makes.grows.extends.keeps free (bit_at c.args.a.now 31) (c.requires.bits 31)
    ∙ sign_value free c.args.nodes.now c.args.a.now true c.told-a) i
    && (c.in_ok-some.ensures.makes.value.holds free ∙ ap (nat_lt 0) low) i))) c.and.ensures.makes.value)
