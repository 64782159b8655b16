use Rattle.std.proofs.Common.{◌≡◌, ◌*◌, ◌%◌, ◌^◌, ◌<◌, ◌&&◌, Some, sym, ap, ◌∙◌, arith, rules}
use Rattle.ba_nodes.specs.Gates.{truth}
use Rattle.ba_nodes.proofs.Truths.{Grows-through}
use Rattle.ba_words.specs.Words.{number_of, low_number, bit_at, shifted_down}
use Rattle.ba_words.proofs.Circuits.{number_small, number-highest, low_number_below}
use Rattle.ba_words.proofs.Shapes.{moved_down-number}
use Rattle.ba_words.proofs.Levels.{down_more, count-low, distance, distance_small}
use Rattle.ba_words.proofs.Outcomes.{makes_word}
use Rattle.ba_words.proofs.Values.{read, shr_value}
use Rattle.ba_words.proofs.shifts.shr.Goals as goal

pub moved_down-shifted-requires : goal.moved_down-shifted-requires
moved_down-shifted-requires c = distance_small c.loop-level.level (omega arith)

pub loop-level-preserved : goal.loop-level-preserved
loop-level-preserved c =
    let small : c.loop-level.level < 5 = omega arith in
    record {
      grows = Grows-through c.args.nodes.now c.loop-level.nodes c.select.new.nodes c.loop-level.invariant.grows c.select.ensures.grows (omega arith);
      number = down_more c.args.nodes.now c.loop-level.nodes c.select.new.nodes c.args.a.now c.args.count.now c.loop-level.word c.moved_down-shifted.result c.in_ok-word.word
          (λ free. truth free c.args.nodes.now c.sign_of-sign.result) c.loop-level.level
          small c.told-count c.requires.second c.loop-level.invariant.grows.extends c.loop-level.invariant.number
          (λ free. moved_down-number free c.loop-level.nodes c.moved_down-shifted.result c.loop-level.word ((1 * 2 ^ c.loop-level.level) % 2 ^ 64) (truth free c.args.nodes.now c.sign_of-sign.result)
          (distance_small c.loop-level.level small) c.moved_down-shifted.ensures.long c.loop-level.invariant.number.long c.sign_of-sign.result
          (c.loop-level.invariant.grows.extends.keeps free c.sign_of-sign.result (search rules)) c.moved_down-shifted.ensures.places
          ∙ ap (λ by. shifted_down (number_of free c.loop-level.nodes c.loop-level.word) (truth free c.args.nodes.now c.sign_of-sign.result) by) (distance c.loop-level.level small))
          c.in_ok-word.ensures.number;
    }

pub returns-clause-makes : goal.returns-clause-makes
returns-clause-makes c =
    let enough : c.loop-level.level ≡ 5 = omega arith in
    makes_word (search rules) (record {
      long = c.loop-level.invariant.number.long;
      are_bits = c.loop-level.invariant.number.are_bits;
      holds = λ free.
          c.loop-level.invariant.number.holds free
          ∙ (λ i. shifted_down (number_of free c.args.nodes.now c.args.a.now) (c.sign_of-sign.ensures.value c.args.nodes.now free i)
          ((ap (low_number free c.args.nodes.now c.args.count.now) enough ∙ count-low free c.args.nodes.now c.args.count.now c.told-count) i));
    })

pub returns-clause-value : goal.returns-clause-value
returns-clause-value c counted free =
    let enough : c.loop-level.level ≡ 5 = omega arith in
    let number : number_of free c.loop-level.nodes c.loop-level.word ≡ shifted_down (number_of free c.args.nodes.now c.args.a.now) (c.args.signed && truth free c.args.nodes.now (bit_at c.args.a.now 31)) (number_of free c.args.nodes.now c.args.count.now % 32) =
    c.loop-level.invariant.number.holds free
    ∙ (λ i. shifted_down (number_of free c.args.nodes.now c.args.a.now) (c.sign_of-sign.ensures.value c.args.nodes.now free i)
    ((ap (low_number free c.args.nodes.now c.args.count.now) enough ∙ count-low free c.args.nodes.now c.args.count.now c.told-count) i)) in
    shr_value c.args.signed counted (truth free c.args.nodes.now (bit_at c.args.a.now 31)) (number_of free c.args.nodes.now c.args.a.now) (number_of free c.args.nodes.now c.args.count.now) (low_number free c.args.nodes.now c.args.a.now 31)
    (number-highest free c.args.nodes.now c.args.a.now c.told-a) (low_number_below free c.args.nodes.now c.args.a.now 31 (omega (arith, c.told-a)))
    (number_small free c.args.nodes.now c.args.a.now c.told-a) (number_small free c.args.nodes.now c.args.count.now c.told-count)
    ∙ ap (λ n. Some (read c.args.signed n)) (sym number)
