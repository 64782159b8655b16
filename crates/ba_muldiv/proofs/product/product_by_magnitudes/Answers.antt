use Rattle.std.proofs.Common.{◌≡◌, ◌*◌, ◌%◌, ◌^◌, ◌∙◌, rules}
use Rattle.ba_nodes.specs.Gates.{bool_xor, truth}
use Rattle.ba_nodes.proofs.Truths.{Extends-through}
use Rattle.ba_words.specs.Words.{number_of, bit_at}
use Rattle.ba_words.proofs.Outcomes.{on_ok, makes_word}
use Rattle.ba_words.proofs.Circuits.{number_small}
use Rattle.ba_words.proofs.Places.{number_of-extends}
use Rattle.ba_muldiv.specs.Division.{negated_where}
use Rattle.ba_muldiv.proofs.SignedProducts.{signed_product}
use Rattle.ba_muldiv.proofs.product.product_by_magnitudes.Goals as goal

pub returns : goal.returns
returns c = makes_word (search rules)
    (on_ok c.negated_where-3.result _ _ (λ word has. record {
      long = has.long;
      are_bits = has.are_bits;
      holds = λ free.
          let old = c.args.nodes.now in
          let a = c.args.a.now in
          let b = c.args.b.now in
          let s = truth free old (bit_at a 31) in
          let t = truth free old (bit_at b 31) in
          let first : number_of free c.negated_where-2.new.nodes c.in_ok-first.first
          ≡ negated_where s (number_of free old a) =
          number_of-extends free c.negated_where.new.nodes c.negated_where-2.new.nodes
          c.in_ok-first.first c.negated_where-2.ensures.grows.extends c.in_ok-first.ensures.number.are_bits
          ∙ c.in_ok-first.ensures.number.holds free in
          let second : number_of free c.negated_where-2.new.nodes c.in_ok-second.second
          ≡ negated_where t (number_of free old b) =
          c.in_ok-second.ensures.number.holds free
          ∙ (λ i. negated_where (c.negated_where.ensures.grows.extends.keeps free (bit_at b 31)
          (c.requires.second 31) i)
          (number_of-extends free old c.negated_where.new.nodes b c.negated_where.ensures.grows.extends
          c.requires.second i)) in
          let lower = Extends-through old c.negated_where.new.nodes c.negated_where-2.new.nodes
          c.negated_where.ensures.grows.extends c.negated_where-2.ensures.grows.extends in
          let all = Extends-through old c.negated_where-2.new.nodes c.free_product.new.nodes lower
          c.free_product.ensures.grows.extends in
          let negative = c.in_ok-negative.ensures.makes.value.holds free
          ∙ (λ i. bool_xor (all.keeps free (bit_at a 31) (c.requires.first 31) i)
          (all.keeps free (bit_at b 31) (c.requires.second 31) i)) in
          let product = number_of-extends free c.free_product.new.nodes c.xor.new.self
          c.in_ok-product.product c.xor.ensures.makes.grows.extends c.in_ok-product.ensures.number.are_bits
          ∙ c.in_ok-product.ensures.number.holds free
          ∙ (λ i. (first i * second i) % 2 ^ 32) in
          has.holds free
          ∙ (λ i. negated_where (negative i) (product i))
          ∙ signed_product s t (number_of free old a) (number_of free old b)
          (number_small free old a c.told-a) (number_small free old b c.told-b);
    })
    c.negated_where-3.ensures.number)
