use Rattle.std.proofs.Common.{◌*◌, ◌+◌, ◌%◌, ◌^◌, sym, ap, ◌∙◌, if◌then◌else◌, rules}
use Rattle.ba_nodes.specs.Gates.{bool_xor}
use Rattle.ba_words.specs.Words.{digit, number_of}
use Rattle.ba_words.proofs.Circuits.{number_small}
use Rattle.ba_words.proofs.Outcomes.{on_ok, makes_word}
use Rattle.ba_muldiv.specs.Division.{sum_or_difference}
use Rattle.ba_muldiv.proofs.Rows.{other_false, other_true, row_none, row_taken, row_added}
use Rattle.ba_muldiv.proofs.product.row.Goals as goal

pub returns-then-plus-minus : goal.returns-then-plus-minus
returns-then-plus-minus c = makes_word (search rules)
    (record {
      long = c.told-sum;
      are_bits = c.requires.words.first;
      holds = λ free.
          row_none c.args.plus c.args.minus (number_of free c.args.nodes.now c.args.sum.now)
          ((number_of free c.args.nodes.now c.args.a.now * 2 ^ c.args.place) % 2 ^ 32) c.if-plus-minus.true
          (number_small free c.args.nodes.now c.args.sum.now c.told-sum);
    })

pub returns-then-minus : goal.returns-then-minus
returns-then-minus c = makes_word (search rules)
    (on_ok c.add_moved_up.result _ _ (λ word has. record {
      long = has.long;
      are_bits = has.are_bits;
      holds = λ free.
          let old = c.args.nodes.now in
          let s = number_of free old c.args.sum.now in
          let a = number_of free old c.args.a.now in
          let f = number_of free old c.flip.result in
          has.holds free
          ∙ ap (λ t. (s + (f + digit t) * 2 ^ c.args.place) % 2 ^ 32) ((c.constant.ensures.value old).holds
          free)
          ∙ row_taken c.args.plus s f a (2 ^ c.args.place)
          (other_false c.args.plus c.args.minus c.if-plus-minus.false c.if-minus.true)
          (c.flip.ensures.number old free)
          ∙ sym (ap (λ m. sum_or_difference m s
          (if bool_xor m c.args.plus then (a * 2 ^ c.args.place) % 2 ^ 32 else 0)) c.if-minus.true);
    })
    c.add_moved_up.ensures.number)

pub returns-else-minus : goal.returns-else-minus
returns-else-minus c = makes_word (search rules)
    (on_ok c.add_moved_up-else-minus.result _ _ (λ word has. record {
      long = has.long;
      are_bits = has.are_bits;
      holds = λ free.
          let old = c.args.nodes.now in
          let s = number_of free old c.args.sum.now in
          let a = number_of free old c.args.a.now in
          has.holds free
          ∙ ap (λ t. (s + (a + digit t) * 2 ^ c.args.place) % 2 ^ 32)
          ((c.constant-else-minus.ensures.value old).holds free)
          ∙ row_added c.args.plus s a (2 ^ c.args.place)
          (other_true c.args.plus c.args.minus c.if-plus-minus.false c.if-minus.false)
          ∙ sym (ap (λ m. sum_or_difference m s
          (if bool_xor m c.args.plus then (a * 2 ^ c.args.place) % 2 ^ 32 else 0)) c.if-minus.false);
    })
    c.add_moved_up-else-minus.ensures.number)
