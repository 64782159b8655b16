use Rattle.std.proofs.Common.{true≢false, refl, sym, ◌∙◌}
use Rattle.ba_repair.proofs.Passing.{all-pass, fails, one-more}
use Rattle.ba_repair.proofs.good.passes.Goals as goal

pub returns-then-not-branch : goal.returns-then-not-branch
returns-then-not-branch c = (
  λ wrong. absurd (true≢false (sym wrong)),
  λ passes. absurd (fails c.args.program.now c.args.bounds c.args.inputs.now c.loop-input.input-index
      c.input-item.result c.loop-input-test.true c.input-item.is
      (sym c.in_ok-runs_well.ensures ∙ c.if-not-branch.true) passes),
)

pub loop-input-preserved : goal.loop-input-preserved
loop-input-preserved c = one-more c.args.program.now c.args.bounds c.args.inputs.now c.loop-input.input-index
    c.input-item.result c.loop-input-test.true c.input-item.is
    (sym c.in_ok-runs_well.ensures ∙ c.if-not-branch.false) c.loop-input.invariant

pub returns : goal.returns
returns c = (
  λ yes. all-pass c.args.program.now c.args.bounds c.args.inputs.now c.loop-input.input-index
      c.loop-input-test.false c.loop-input.invariant,
  λ passes. refl,
)
