use Rattle.std.proofs.Common.{List, drop, map, ◌++◌, Bor}
use Rattle.ba_tree.specs.declared.run.Input.{Input}
use Rattle.ba_repair.specs.Good.{AreGood}
use Rattle.ba_repair.specs.declared.listing.Edit.{Edit}
use Rattle.ba_repair.proofs.good.good_edits.Given as goal

-- the good ones found so far lead those of the edits that follow
abbrev pub invariant-loop-edit : goal.invariant-loop-edit
invariant-loop-edit l = let inputs = map (λ (input : Bor Input). input.now) l.inputs in
    (rest : List Edit) → AreGood l.program l.bounds inputs (drop l.edit-index l.edits) rest
    → AreGood l.program l.bounds inputs l.edits (l.good.items ++ rest)
