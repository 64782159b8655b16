use Rattle.std.proofs.Common.{List, ◌++◌, take}
use Rattle.ba_code.specs.State.{CodeState}
use Rattle.ba_code.specs.Types.{Types}
use Rattle.ba_code.specs.declared.nodes.Node.{Node}
use Rattle.ba_inline.specs.Binding.{Binds}
use Rattle.ba_inline.specs.Names.{IsScope, Names}
use Rattle.ba_numbers.specs.declared.ids.VarId.{VarId}
use Rattle.ba_tree.specs.Run.{begin_all}
use Rattle.ba_tree.specs.State.{State}
use Rattle.ba_inline.proofs.binding.begin_all.Given as goal

abbrev pub invariant-loop-var : goal.invariant-loop-var
invariant-loop-var l = (names : Names) (own : List VarId) (begun : CodeState →
    State) (low : Types) (base : List Node)
    → IsScope l.setting.program.now names low
    → Binds l.setting.program.now names own begun l.fn.scope low l.fn.declared base l.fn.out.items
    → Binds l.setting.program.now names (own ++ take l.var-index l.vars)
    (λ t. begin_all l.setting.program.now (take l.var-index l.vars) (begun t)) l.scope low l.declared base
    l.out.items
