use Rattle.std.proofs.Common.{sym, ◌∙◌, ap, pos}
use Rattle.std.proofs.lemmas.List.{get_or_default}
use Rattle.ba_tree.specs.declared.tree.Start.{Start}
use Rattle.ba_inline.proofs.Entering.{differ-goes, differ-stops}
use Rattle.ba_inline.proofs.labels.values_differ.Goals as goal

first : Start
first = record { value = pos 0; at = 0 }

pub returns-then-has_value : goal.returns-then-has_value
returns-then-has_value c = sym (c.loop-place.invariant
    ∙ differ-stops c.args.starts.now c.loop-place.place first _ c.split_at.result.1.now
    c.loop-place-test.true (ap (λ (s : Start). s.value) (get_or_default c.args.starts.now
    c.loop-place.place _ first
    c.loop-place-test.true)) c.split_at.ensures.back
    (sym c.has_value.ensures ∙ c.if-has_value.true))

pub loop-place-preserved : goal.loop-place-preserved
loop-place-preserved c = c.loop-place.invariant
    ∙ differ-goes c.args.starts.now c.loop-place.place first _ c.split_at.result.1.now
    c.loop-place-test.true (ap (λ (s : Start). s.value) (get_or_default c.args.starts.now
    c.loop-place.place _ first
    c.loop-place-test.true)) c.split_at.ensures.back
    (sym c.has_value.ensures ∙ c.if-has_value.false)
