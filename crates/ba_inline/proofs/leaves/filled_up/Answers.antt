use Rattle.std.proofs.Common.{◌≡◌, ◌++◌, ◌∷◌, [], ℕ, ◌+◌, List, pos, replicate, ap, ◌∙◌}
use Rattle.std.proofs.lemmas.List.{append_assoc, replicate-append-replicate}
use Rattle.ba_code.specs.declared.nodes.Operand.{Operand}
use Rattle.ba_code.specs.declared.nodes.Operand.TheVariants.{Const}
use Rattle.ba_inline.proofs.leaves.filled_up.Goals as goal

more-zeros : (values now next : List Operand) (count : ℕ) → now ≡ values ++ replicate count (Const (pos 0))
    → next ≡ now ++ Const (pos 0) ∷ [] → next ≡ values ++ replicate (count + 1) (Const (pos 0))
more-zeros values now next count is more =
    more ∙ ap (λ now. now ++ Const (pos 0) ∷ []) is
    ∙ append_assoc values (replicate count (Const (pos 0))) (Const (pos 0) ∷ [])
    ∙ ap (λ zeros. values ++ zeros) (replicate-append-replicate count 1 (Const (pos 0)))

pub loop-preserved : goal.loop-preserved
loop-preserved c = (
  c.loop.invariant.0 + 1,
  more-zeros c.args.values.items c.loop.filled.items c.push.new.self.items c.loop.invariant.0
      c.loop.invariant.1
      c.in_ok-push.ensures.items,
)
