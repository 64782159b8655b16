use Rattle.std.proofs.Common.{◌≡◌, ◌-◌, Some, length, take, true, sym, ◌∙◌, ap, subst, arith, ℕ}
use Rattle.std.proofs.lemmas.Bool.{false≢true}
use Rattle.ba_all.proofs.Counting.{done-where, left-fits, only-taken, taken-good}
use Rattle.ba_tree.specs.Least.{judge_of}
use Rattle.ba_tree.specs.Run.{is_done}
use Rattle.ba_all.proofs.cuts.good_prefix.Goals as goal

pub overflow_sub-result : goal.overflow_sub-result
overflow_sub-result c =
    let done = ap is_done (sym c.in_ok-run.ensures.outcome) ∙ sym c.is_done.ensures ∙ c.if-is_done.true in
    omega (
      arith,
      c.in_ok-run.ensures.left,
      left-fits c.args.program.now c.args.input.now c.args.bounds
          c.args.allowed.now c.args.choices.now done,
    )

pub returns-then-is_done-clause-good : goal.returns-then-is_done-clause-good
returns-then-is_done-clause-good c = λ set is.
    let done = ap is_done (sym c.in_ok-run.ensures.outcome) ∙ sym c.is_done.ensures ∙ c.if-is_done.true in
    let p = c.args.program.now in
    let i = c.args.input.now in
    let choices = c.args.choices.now in
    subst (λ (n : ℕ). judge_of p i c.args.bounds set (take (length choices - n) choices) ≡ true)
    (sym c.in_ok-run.ensures.left) (taken-good p i c.args.bounds c.args.allowed.now choices set is done)

pub returns-then-is_done-clause-only : goal.returns-then-is_done-clause-only
returns-then-is_done-clause-only c = λ set count is within good.
    let choices = c.args.choices.now in
    ap Some (ap (λ (n : ℕ). length choices - n) c.in_ok-run.ensures.left
    ∙ only-taken c.args.program.now c.args.input.now c.args.bounds c.args.allowed.now choices set is count
    within good)

pub returns-else-is_done-clause-only : goal.returns-else-is_done-clause-only
returns-else-is_done-clause-only c = λ set count is within good.
    absurd (false≢true (sym c.if-is_done.false ∙ c.is_done.ensures ∙ ap is_done c.in_ok-run.ensures.outcome
    ∙ done-where c.args.program.now c.args.input.now c.args.bounds c.args.allowed.now c.args.choices.now set
    is count within good))
