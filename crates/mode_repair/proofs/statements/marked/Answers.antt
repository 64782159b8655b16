use Rattle.std.proofs.Common.{false, map, arith}
use Rattle.std.proofs.lemmas.List.{at_drop_all, drop_more}
use Rattle.ba_numbers.specs.declared.ids.StmtId.{StmtId}
use Rattle.mode_repair.proofs.Marking.{marked-end, marked-next}
use Rattle.mode_repair.proofs.statements.marked.Goals as goal

pub loop-is_marked-preserved : goal.loop-is_marked-preserved
loop-is_marked-preserved c = record {
  counted = omega (arith, c.loop-is_marked.invariant.counted);
  listed = marked-next (map (λ (stmt : StmtId). stmt.0) c.loop-is_marked.stmts.items) _
      c.loop-is_marked.number
      c.args.marks.now c.loop-is_marked.is_marked-index c.loop-is_marked.invariant.listed _ _
      (drop_more c.args.marks.now c.loop-is_marked.is_marked-index false c.loop-is_marked-test.true)
      c.in_ok-push_if.ensures;
}

pub returns : goal.returns
returns c = marked-end (map (λ (stmt : StmtId). stmt.0) c.loop-is_marked.stmts.items) _
    c.loop-is_marked.number
    c.args.marks.now c.loop-is_marked.is_marked-index c.loop-is_marked.invariant.listed
    (at_drop_all (λ marks. marks) c.args.marks.now c.loop-is_marked.is_marked-index
    c.loop-is_marked-test.false)
