use Rattle.std.proofs.Common.{◌++◌, get_or, sym, ◌∙◌, ap}
use Rattle.std.proofs.lemmas.List.{drop_more}
use Rattle.std.proofs.lemmas.List.Folds.{flat_map-map}
use Rattle.ba_numbers.specs.declared.ids.StmtId.{StmtId}
use Rattle.ba_tree.specs.Trees.{tree_of}
use Rattle.ba_repair.specs.Edits.{edits_at, edits_from}
use Rattle.ba_repair.specs.Nodes.{nodes_of}
use Rattle.ba_repair.proofs.Appending.{row-end, row-next}
use Rattle.ba_repair.proofs.listing.edits.Goals as goal

pub loop-stmt-preserved : goal.loop-stmt-preserved
loop-stmt-preserved c =
    let stmt : StmtId = get_or c.args.stmts.now c.loop-stmt.stmt-index (record { 0 = 0 }) in
    row-next (λ (stmt : StmtId). edits_at (tree_of c.args.program.now) stmt.0)
    c.args.stmts.now c.loop-stmt.stmt-index c.loop-stmt.edits.items _ c.loop-stmt.invariant _ _
    (c.in_ok-push_edits.ensures
    ∙ ap (λ nodes. c.loop-stmt.edits.items ++ edits_from stmt.0 1 nodes)
    (c.at.ensures ∙ c.in_ok-rows.ensures stmt.0 ∙ ap (nodes_of stmt.0) (c.as_slice.ensures.value ∙
    c.in_ok-found.ensures)))
    (drop_more c.args.stmts.now c.loop-stmt.stmt-index _ c.loop-stmt-test.true)

pub returns : goal.returns
returns c = row-end (λ (stmt : StmtId). edits_at (tree_of c.args.program.now) stmt.0) c.args.stmts.now
    c.loop-stmt.stmt-index c.loop-stmt.edits.items _ c.loop-stmt.invariant c.loop-stmt-test.false
    ∙ sym (flat_map-map (edits_at (tree_of c.args.program.now)) (λ (stmt : StmtId). stmt.0) c.args.stmts.now)
