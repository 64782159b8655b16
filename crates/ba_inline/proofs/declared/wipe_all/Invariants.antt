use Rattle.ba_inline.specs.Wiping.{Wipes}
use Rattle.ba_inline.proofs.declared.wipe_all.Given as goal

abbrev pub invariant-loop-number : goal.invariant-loop-number
invariant-loop-number l = Wipes l.from l.kept l.fn.out.items l.out.items
