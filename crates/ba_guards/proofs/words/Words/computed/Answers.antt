use Rattle.std.proofs.Common.{SFits, w64, to_z, of_z, to_z-of_z, rules, cond, ◌∙◌, ap}
use Rattle.ba_guards.proofs.Folding.{binary-computed}
use Rattle.ba_numbers.specs.Numbers.{converted, value_of}
use Rattle.ba_numbers.specs.Types.{shifts}
use Rattle.ba_guards.proofs.words.Words.computed.Goals as goal

pub returns : goal.returns
returns c =
    let fits_a : SFits w64 c.in_ok-a.a = search rules in
    let fits_b : SFits w64 c.in_ok-b.b = search rules in
    let fits_x : SFits w64 c.convert.result = search rules in
    let fits_y : SFits w64 c.right_operand.result = search rules in
    binary-computed c.args.self.now c.args.a c.args.b c.args.op c.args.t c.in_ok-a.a c.in_ok-b.b
    c.convert.result
    c.right_operand.result c.apply.result c.in_ok-a.ensures c.in_ok-b.ensures
    (c.convert.ensures.value ∙ ap (converted c.args.t) (to_z-of_z fits_a))
    (c.right_operand.ensures ∙ ap (λ b. cond (shifts c.args.op) b (converted c.args.t b)) (to_z-of_z fits_b))
    (c.apply.ensures.value ∙ ap (λ x. value_of c.args.op c.args.t x (to_z w64 (of_z w64
    c.right_operand.result))) (to_z-of_z fits_x)
    ∙ ap (λ y. value_of c.args.op c.args.t c.convert.result y) (to_z-of_z fits_y))
    c.apply.ensures.in_range
