use Rattle.std.proofs.Common.{◌≤◌, ◌^◌, ◌∙◌, arith}
use Rattle.std.proofs.Math.Nat.{pow-le-pow_right}
use Rattle.ba_nodes.proofs.Folding.{truth-zero}
use Rattle.ba_words.specs.Words.{bit_at}
use Rattle.ba_muldiv.proofs.Rows.{number_above}
use Rattle.ba_muldiv.proofs.division.is_surely_wider.Goals as goal

pub returns-then-bit : goal.returns-then-bit
returns-then-bit c nodes free =
    let word = c.args.word.now in
    let above = number_above free nodes word c.loop-i.i c.told-word c.loop-i-test.true
    (truth-zero free nodes (bit_at word c.loop-i.i) c.if-bit-eq0.true ∙ c.if-bit.true) in
    let most : 2 ^ c.args.width ≤ 2 ^ c.loop-i.i = pow-le-pow_right {n = 2} (omega arith) c.loop-i.auto.i in
    omega (arith, most, above)
