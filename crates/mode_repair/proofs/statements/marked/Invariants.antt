use Rattle.std.proofs.Common.{◌≡◌, ◌+◌, ◌++◌, map, drop}
use Rattle.ba_numbers.specs.declared.ids.StmtId.{StmtId}
use Rattle.mode_repair.specs.Marks.{marked_from}
use Rattle.mode_repair.proofs.statements.marked.Given as goal

-- what is listed, and what is left to list
abbrev pub invariant-loop-is_marked : goal.invariant-loop-is_marked
invariant-loop-is_marked l = record {
  counted : l.number ≡ l.is_marked-index;
  listed : map (λ (stmt : StmtId). stmt.0) l.stmts.items
      ++ marked_from (l.number + 1) (drop l.is_marked-index l.marks) ≡ marked_from 1 l.marks;
}
