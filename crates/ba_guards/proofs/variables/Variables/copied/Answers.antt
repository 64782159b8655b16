use Rattle.std.proofs.Common.{◌≡◌, sym, ◌∙◌, ap, subst, map, rc_value}
use Rattle.std.specs.List.{concat}
use Rattle.ba_guards.proofs.Chunks.{clones-same}
use Rattle.ba_guards.specs.Chunks.{AreChunks}
use Rattle.ba_guards.proofs.variables.Variables.copied.Goals as goal

pub invariant_of-result : goal.invariant_of-result
invariant_of-result c =
    let same : map rc_value c.in_ok-from_clones.field-0.items ≡ map rc_value c.self.inside.chunks.items =
    clones-same rc_value c.as_slice.result.now c.in_ok-from_clones.field-0.items
    c.in_ok-from_clones.ensures.items ∙ ap (map rc_value) c.as_slice.ensures.value in
    subst (AreChunks 128) (sym same) c.self.invariant

pub returns : goal.returns
returns c =
    let same : map rc_value c.in_ok-from_clones.field-0.items ≡ map rc_value c.self.inside.chunks.items =
    clones-same rc_value c.as_slice.result.now c.in_ok-from_clones.field-0.items
    c.in_ok-from_clones.ensures.items ∙ ap (map rc_value) c.as_slice.ensures.value in
    ap concat same ∙ c.self.view_is
