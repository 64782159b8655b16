use Rattle.std.proofs.Common.{sym, ap, length, get_or, arith, ◌∙◌}
use Rattle.std.proofs.lemmas.List.{take_all}
use Rattle.std.specs.List.{flat_map, list_all}
use Rattle.ba_encode.proofs.Models.{choices-in-range}
use Rattle.ba_encode.proofs.Wider.{at-place}
use Rattle.ba_encode.specs.Readings.{choices_at, is_in_range}
use Rattle.ba_lits.specs.Satisfaction.{assignment_of}
use Rattle.ba_encode.proofs.choices.choices_of.Goals as goal

pub returns-clause-in_range : goal.returns-clause-in_range
returns-clause-in_range c =
    ap (list_all is_in_range) (c.loop-place.invariant
    ∙ ap (flat_map (choices_at (assignment_of c.args.model.now.values)))
    (take_all c.loop-place.place-index c.args.encoded.now.places
    (omega (arith, ap length c.as_slice-place-items.ensures))))
    ∙ choices-in-range (assignment_of c.args.model.now.values) c.args.encoded.now.places

pub add_choice-requires : goal.add_choice-requires
add_choice-requires c =
    let all = c.args.encoded.now.places in
    at-place c.args.encoded.now.formula.variables (length c.args.model.now.values) c.requires all
    c.loop-place.place-index c.place-item.result
    (omega (arith, ap length c.as_slice-place-items.ensures, c.loop-place-test.true))
    (sym (c.place-item.is ∙ ap (λ ps. get_or ps c.loop-place.place-index c.place-item.result)
    c.as_slice-place-items.ensures))
    c.args.encoded.now.readable
