use Rattle.std.proofs.Common.{◌≡◌, ◌≤◌, List, ◌∷◌, ◌++◌, ◌+◌, [], length, take, true, map, ◌∙◌, ap, subst, arith, Bor}
use Rattle.std.specs.Prelude.{IfSome}
use Rattle.std.proofs.lemmas.List.{map-append}
use Rattle.ba_all.proofs.Counting.{cutting-ends, cutting-finds, cutting-step, none-some, some-same}
use Rattle.ba_choices.specs.declared.Choice.{Choice}
use Rattle.ba_tree.specs.Least.{judge_of}
use Rattle.ba_all.proofs.cuts.runs_in.Goals as goal

pub unreachable-requires : goal.unreachable-requires
unreachable-requires c = cutting-finds c.args.program.now c.args.bounds c.args.set.now c.args.inputs.now
    c.loop-input.input-index c.args.choices.now c.loop-input.rest.now _ c.loop-input.invariant
    c.input-item.result c.loop-input-test.true c.input-item.is
    (λ n within good. none-some c.in_ok-count.field-0 n c.in_default.is
    (c.in_ok-count.ensures.only c.args.set.now n c.in_ok-allowed.ensures within good))

pub loop-input-preserved : goal.loop-input-preserved
loop-input-preserved c =
    let set = c.args.set.now in
    let rest = c.loop-input.rest.now in
    let within = subst (λ found. IfSome found (λ count. count ≤ length rest)) c.in-Some.is
    c.in_ok-count.ensures.within in
    let good = subst (λ found. IfSome found (λ count. judge_of c.args.program.now c.input-item.result
    c.args.bounds set (take count rest) ≡ true)) c.in-Some.is
    (c.in_ok-count.ensures.good set c.in_ok-allowed.ensures) in
    cutting-step c.args.program.now c.args.bounds set c.args.inputs.now
    c.loop-input.input-index c.args.choices.now rest _ c.loop-input.invariant
    c.input-item.result c.in-Some.count c.loop-input-test.true c.input-item.is within good
    (λ n few here. some-same c.in_ok-count.field-0 n c.in-Some.count
    (c.in_ok-count.ensures.only set n c.in_ok-allowed.ensures few here) c.in-Some.is)
    (c.loop-input.input-index + 1) c.split_at.result.1.now _ (omega arith) c.split_at.ensures.back
    (ap (map (λ (run : Bor (List Choice)). run.now)) c.in_ok-push.ensures.items
    ∙ map-append (λ (run : Bor (List Choice)). run.now) c.loop-input.runs.items (c.split_at.result.0 ∷ [])
    ∙ ap (λ (run : List Choice). map (λ (run : Bor (List Choice)). run.now) c.loop-input.runs.items
    ++ run ∷ []) c.split_at.ensures.front)

pub returns : goal.returns
returns c = cutting-ends c.args.program.now c.args.bounds c.args.set.now c.args.inputs.now
    c.loop-input.input-index c.args.choices.now c.loop-input.rest.now _ c.loop-input.invariant
    (omega (arith, c.loop-input-test.false))
