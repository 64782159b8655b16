use Rattle.std.proofs.Common.{◌≡◌, ◌≤◌, ◌+◌, ℕ, suc, List, length, take, true, sym, ◌∙◌, ap, subst, arith}
use Rattle.std.specs.Prelude.{IfSome}
use Rattle.ba_all.proofs.Counting.{good-from, none-from, none-some, some-same, tests_from}
use Rattle.ba_all.specs.Cuts.{all_good}
use Rattle.ba_choices.specs.declared.Choice.{Choice}
use Rattle.ba_tree.specs.Least.{judge_of}
use Rattle.ba_all.proofs.judge.are_good.Goals as goal

pub returns-in_default : goal.returns-in_default
returns-in_default c = sym (c.loop-input.invariant
    ∙ none-from c.args.program.now c.args.bounds c.args.groups.now c.args.inputs.now c.loop-input.input-index
    c.input-item.result c.loop-input.rest.now c.loop-input-test.true c.input-item.is
    (λ n within good. none-some c.in_ok-count.field-0 n c.in_default.is
    (c.in_ok-count.ensures.only c.args.groups.now n c.in_ok-allowed.ensures within good)))

pub loop-input-preserved : goal.loop-input-preserved
loop-input-preserved c =
    let p = c.args.program.now in
    let b = c.args.bounds in
    let set = c.args.groups.now in
    let inputs = c.args.inputs.now in
    let k = c.loop-input.input-index in
    let rest = c.loop-input.rest.now in
    let within = subst (λ found. IfSome found (λ count. count ≤ length rest)) c.in-Some.is
    c.in_ok-count.ensures.within in
    let good = subst (λ found. IfSome found (λ count. judge_of p c.input-item.result b set (take count rest)
    ≡ true)) c.in-Some.is (c.in_ok-count.ensures.good set c.in_ok-allowed.ensures) in
    let next : suc k ≡ k + 1 = omega arith in
    c.loop-input.invariant
    ∙ good-from p b set inputs k c.input-item.result rest c.in-Some.count c.loop-input-test.true
    c.input-item.is within good
    (λ n few here. some-same c.in_ok-count.field-0 n c.in-Some.count
    (c.in_ok-count.ensures.only set n c.in_ok-allowed.ensures few here) c.in-Some.is)
    ∙ ap (λ (cs : List Choice). all_good (tests_from p b set inputs (suc k)) cs) (sym c.split_at.ensures.back)
    ∙ ap (λ (n : ℕ). all_good (tests_from p b set inputs n) c.split_at.result.1.now) next
