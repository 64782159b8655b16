use Rattle.std.proofs.Common.{◌^◌, ◌∙◌, arith, rules}
use Rattle.ba_nodes.specs.Gates.{truth}
use Rattle.ba_words.specs.Words.{digit, number_of, low_number}
use Rattle.ba_words.proofs.Carries.{at_place}
use Rattle.ba_words.proofs.Outcomes.{on_ok, makes_word}
use Rattle.ba_words.proofs.Shapes.{moved_up-number, moved_up-none}
use Rattle.ba_words.proofs.sums.add_moved_up.Goals as goal

pub returns : goal.returns
returns c = makes_word (search rules)
    (on_ok c.sum_from.result _ _
    (λ word has. record {
      long = has.long;
      are_bits = has.are_bits;
      holds = λ free.
          let old = c.args.nodes.now in
          let moved = c.moved_up.result in
          has.holds free
          ∙ at_place (number_of free old c.args.a.now) (number_of free old c.args.b.now) (2 ^ c.args.place)
          (digit (truth free old c.args.carry)) (number_of free old moved) (low_number free old moved c.args.place)
          (moved_up-number free old moved c.args.b.now c.args.place (omega (arith, c.requires.small)) c.moved_up.ensures.long c.told-b
          c.moved_up.ensures.places)
          (moved_up-none free old moved c.args.b.now c.args.place (omega (arith, c.requires.small)) c.moved_up.ensures.long
          c.moved_up.ensures.places);
    })
    c.sum_from.ensures.number)
