use Rattle.std.proofs.Common.{◌≡◌, ℕ, ◌*◌, ◌%◌, ◌^◌, ◌<◌, Some, sym, ap, ◌∙◌, arith}
use Rattle.ba_nodes.proofs.Truths.{Grows-through, Grows_refl}
use Rattle.ba_words.specs.Words.{number_of, low_number}
use Rattle.ba_words.proofs.Circuits.{number_small}
use Rattle.ba_words.proofs.Shapes.{moved_up-number}
use Rattle.ba_words.proofs.Levels.{up_more, count-low, distance, distance_small}
use Rattle.ba_words.proofs.Values.{read, shl_value}
use Rattle.ba_words.proofs.shifts.shl.Goals as goal

own : (n : ℕ) → n < 2 ^ 32 → n ≡ n * 1 % 2 ^ 32
own n small = omega arith

pub loop-level-init : goal.loop-level-init
loop-level-init c = record {
  grows = Grows_refl c.args.nodes.now _;
  number = record { long = c.told-a; are_bits = c.requires.first; holds = λ free. let small = number_small free c.args.nodes.now c.args.a.now c.told-a in own (number_of free c.args.nodes.now c.args.a.now) small };
}

pub loop-level-preserved : goal.loop-level-preserved
loop-level-preserved c =
    let small : c.loop-level.level < 5 = omega arith in
    record {
      grows = Grows-through c.args.nodes.now c.loop-level.nodes c.select.new.nodes c.loop-level.invariant.grows c.select.ensures.grows (omega arith);
      number = up_more c.args.nodes.now c.loop-level.nodes c.select.new.nodes c.args.a.now c.args.count.now c.loop-level.word c.moved_up-shifted.result c.in_ok-word.word c.loop-level.level
          (omega arith) c.told-count c.requires.second c.loop-level.invariant.grows.extends c.loop-level.invariant.number
          (λ free. moved_up-number free c.loop-level.nodes c.moved_up-shifted.result c.loop-level.word ((1 * 2 ^ c.loop-level.level) % 2 ^ 64) (distance_small c.loop-level.level small) c.moved_up-shifted.ensures.long c.loop-level.invariant.number.long c.moved_up-shifted.ensures.places
          ∙ ap (λ by. (number_of free c.loop-level.nodes c.loop-level.word * 2 ^ by) % 2 ^ 32) (distance c.loop-level.level small))
          c.in_ok-word.ensures.number;
    }

pub returns-clause-value : goal.returns-clause-value
returns-clause-value c signed counted free =
    let enough : c.loop-level.level ≡ 5 = omega arith in
    shl_value signed counted (number_of free c.args.nodes.now c.args.a.now) (number_of free c.args.nodes.now c.args.count.now)
    (number_small free c.args.nodes.now c.args.a.now c.told-a) (number_small free c.args.nodes.now c.args.count.now c.told-count)
    ∙ ap (λ e. Some (read signed ((number_of free c.args.nodes.now c.args.a.now * 2 ^ e) % 2 ^ 32)))
    (sym (ap (low_number free c.args.nodes.now c.args.count.now) enough ∙ count-low free c.args.nodes.now c.args.count.now c.told-count))
    ∙ ap (λ n. Some (read signed n)) (sym (c.loop-level.invariant.number.holds free))
