use Rattle.std.proofs.Common.{List, [], false, take}
use Rattle.ba_code.specs.Types.{Types}
use Rattle.ba_code.specs.declared.nodes.Node.{Node}
use Rattle.ba_inline.specs.Binding.{Binds}
use Rattle.ba_inline.specs.Making.{AreGiven, reading_arguments}
use Rattle.ba_inline.specs.Names.{IsScope, Names, seen}
use Rattle.ba_tree.specs.Run.{bind_all}
use Rattle.ba_inline.proofs.binding.bind_all.Given as goal

abbrev pub invariant-loop-i : goal.invariant-loop-i
invariant-loop-i l = (names : Names) (low : Types) (base : List Node)
    → IsScope l.setting.program.now names low → AreGiven false names low l.given
    → Binds l.setting.program.now names [] (seen names) l.fn.scope low l.fn.declared base l.fn.out.items
    → Binds l.setting.program.now names (take l.i l.params)
    (λ t. bind_all (take l.i l.params) (take l.i (reading_arguments l.given t)) (seen names t)) l.scope low
    l.declared
    base l.out.items
