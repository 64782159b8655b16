use Rattle.std.proofs.Common.{rules, ◌++◌, ◌∷◌, [], pos, take, get_or, refl, sym, ap, subst, arith}
use Rattle.std.proofs.lemmas.List.{get_or_default, take_all}
use Rattle.ba_tree.specs.declared.tree.Start.{Start}
use Rattle.ba_code.specs.State.{operand_value}
use Rattle.ba_inline.proofs.FlagSteps.{tests-more, tests-none}
use Rattle.ba_inline.proofs.Rows.{next-taken}
use Rattle.ba_inline.specs.Flags.{MakesFlags}
use Rattle.ba_inline.specs.Labels.{tests_of}
use Rattle.ba_inline.proofs.labels.tests.Goals as goal

first : Start
first = record { value = pos 0; at = 0 }

pub loop-start-init : goal.loop-start-init
loop-start-init c = λ base le below.
    subst (λ tests. MakesFlags (λ s. tests_of [] (operand_value s c.args.a)) base tests c.args.declared.now
    c.args.declared.now
    c.args.out.now.items c.args.out.now.items) (sym c.in_ok-tests.ensures.items)
    (tests-none base c.args.declared.now c.args.out.now.items c.args.a)

pub loop-start-preserved : goal.loop-start-preserved
loop-start-preserved c = λ base le below.
    let starts = c.args.labels.now.starts.now in
    let i = c.loop-start.start-index in
    let made = c.loop-start.invariant base le below in
    let grows = made.computes.grows.vars in
    let start = get_or starts i first in
    subst (λ starts. MakesFlags (λ s. tests_of starts (operand_value s c.args.a)) base c.push.new.self.items
    c.args.declared.now c.equals.new.declared c.args.out.now.items c.equals.new.out.items)
    (sym (next-taken starts i start first c.loop-start-test.true refl))
    (subst (λ tests. MakesFlags (λ s. tests_of (take i starts ++ start ∷ []) (operand_value s c.args.a))
    base tests
    c.args.declared.now c.equals.new.declared c.args.out.now.items c.equals.new.out.items)
    (sym c.in_ok-push.ensures.items)
    (tests-more base c.args.declared.now c.loop-start.declared c.equals.new.declared c.args.out.now.items
    c.loop-start.out.items c.equals.new.out.items (take i starts) start _ c.args.a c.loop-start.tests.items
    c.in_ok-equals.field-0 (ap (λ (s : Start). s.value) (get_or_default starts i _ first
    c.loop-start-test.true)) below made (c.in_ok-equals.ensures base (omega (arith, le, grows)))))

pub returns : goal.returns
returns c = λ base le below.
    subst (λ starts. MakesFlags (λ s. tests_of starts (operand_value s c.args.a)) base
    c.loop-start.tests.items
    c.args.declared.now c.loop-start.declared c.args.out.now.items c.loop-start.out.items)
    (take_all c.loop-start.start-index c.args.labels.now.starts.now (search rules))
    (c.loop-start.invariant base le below)
