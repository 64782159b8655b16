use Rattle.std.proofs.Common.{map, ◌∙◌}
use Rattle.ba_numbers.specs.declared.ids.StmtId.{StmtId}
use Rattle.ba_repair.proofs.Listed.{all-own}
use Rattle.mode_repair.proofs.search.good_at.Goals as goal

pub good_edits-requires-clause-own : goal.good_edits-requires-clause-own
good_edits-requires-clause-own c = all-own c.args.case.now.program
    (map (λ (stmt : StmtId). stmt.0) c.as_slice.result.now) c.as_slice-2.result.now
    (c.as_slice-2.ensures.value ∙ c.in_ok-tried.ensures)
