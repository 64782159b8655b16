-- Nodes that are made of those that are last.
use Rattle.std.proofs.Common.{◌≡◌, ℕ, Bool, List, [], subst}
use Rattle.ba_code.specs.declared.nodes.Node.{Node}
use Rattle.ba_code.specs.declared.nodes.Operand.{Operand}
use Rattle.ba_code.specs.declared.nodes.Operand.TheVariants.{Var}
use Rattle.ba_inline.specs.Adding.{block_act, if_act, loop_act}
use Rattle.ba_inline.specs.Making.{Adds}
use Rattle.ba_inline.specs.Repeating.{AddsLoop}
use Rattle.ba_numbers.specs.declared.ids.StmtId.{StmtId}

-- the same branch by other names
pub branches-wrapped : (when : Operand) (out old one₁ one two₁ two new : List Node) → out ≡ old → one₁ ≡ one
    → two₁ ≡ two → Adds out new (if_act when one₁ two₁) → Adds old new (if_act when one two)
branches-wrapped when out old one₁ one two₁ two new is_old is_one is_two added =
    subst (λ (out : List Node). Adds out new (if_act when one two)) is_old
    (subst (λ (one : List Node). Adds out new (if_act when one two)) is_one
    (subst (λ (two : List Node). Adds out new (if_act when one₁ two)) is_two added))

-- the same loop by other names
pub loop-wrapped : (after : Bool) (stmt : StmtId) (to : ℕ)
    (out old heads₁ heads bodies₁ bodies steps₁ steps turned loops new : List Node)
    → out ≡ old → heads₁ ≡ heads → bodies₁ ≡ bodies → steps₁ ≡ steps
    → Adds [] turned (block_act 2 bodies₁)
    → Adds [] loops (loop_act after heads₁ (Var to) turned steps₁ stmt)
    → Adds out new (block_act 1 loops)
    → AddsLoop after stmt to heads bodies steps old new
loop-wrapped after stmt to out old heads₁ heads bodies₁ bodies steps₁ steps turned loops new is_old is_heads
    is_bodies is_steps turn whole outer = record {
      turned = turned;
      loops = loops;
      turn = subst (λ (bodies : List Node). Adds [] turned (block_act 2 bodies)) is_bodies turn;
      whole = subst (λ (heads : List Node). Adds [] loops (loop_act after heads (Var to) turned steps stmt))
          is_heads
          (subst (λ (steps : List Node). Adds [] loops (loop_act after heads₁ (Var to) turned steps stmt))
          is_steps whole);
      outer = subst (λ (old : List Node). Adds old new (block_act 1 loops)) is_old outer;
    }

-- the same block by other names
pub block-wrapped : (label : ℕ) (out old body₁ body new : List Node) → out ≡ old → body₁ ≡ body
    → Adds out new (block_act label body₁) → Adds old new (block_act label body)
block-wrapped label out old body₁ body new is_old is_body added =
    subst (λ (out : List Node). Adds out new (block_act label body)) is_old
    (subst (λ (body : List Node). Adds out new (block_act label body)) is_body added)
