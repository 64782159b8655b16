use Rattle.std.proofs.Common.{◌≡◌, ◌+◌, ◌<◌, ◌*◌, drop, get_or, arith, rules, sym, ap, ◌∙◌}
use Rattle.std.proofs.lemmas.List.{at_drop_more}
use Rattle.std.proofs.lemmas.Bool.Decides.{nat_tests}
use Rattle.std.specs.Char.{digit_value}
use Rattle.std.specs.Str.Parse.{digits_value, digits_value_after}
use Rattle.ba_lex.proofs.DigitLemmas.{value_grows}
use Rattle.ba_lex.proofs.constants.value_within.Goals as goal

-- the value so far is above the limit, and the rest of the digits only adds to it
pub returns-then-value-from : goal.returns-then-value-from
returns-then-value-from c =
    let i = c.loop-digit.digit-index in
    let ds = c.args.digits.now in
    let step = at_drop_more (digits_value_after c.args.base c.loop-digit.value) ds i 0 (omega arith) in
    let next = c.loop-digit.value * c.args.base + digit_value (get_or ds i 0) in
    let grows = value_grows c.args.base next (drop (i + 1) ds) c.requires in
    let whole : digits_value_after c.args.base next (drop (i + 1) ds) ≡ digits_value c.args.base ds = sym step ∙ c.loop-digit.invariant.so_far in
    let base_is : c.from.result ≡ c.args.base = search rules in
    let product = ap (λ b. c.loop-digit.value * b) base_is in
    let above : c.args.limit < digits_value c.args.base ds = omega (arith, whole, grows, product) in
    grind (arith, nat_tests)
