use Rattle.std.proofs.Common.{◌∙◌, ap, arith}
use Rattle.std.proofs.lemmas.Bool.Decides.{nat_tests}
use Rattle.std.proofs.lemmas.Result.{IfOk-weaker}
use Rattle.ba_derivations.specs.Derivations.{sets_of}
use Rattle.ba_rank.specs.Ranking.{stands_in}
use Rattle.ba_tree.proofs.Kept.{kept, within-limits}
use Rattle.ba_tree.specs.Kept.{parts_of}
use Rattle.mode_repair.specs.Marks.{marked_from}
use Rattle.mode_repair.proofs.Marking.{marked-filter}
use Rattle.mode_repair.proofs.statements.statements_in.Goals as goal

pub returns : goal.returns
returns c = IfOk-weaker c.marked.result _ _
    (λ stmts is. is ∙ ap (marked_from 1) c.as_slice.ensures.value
    ∙ marked-filter (λ n. stands_in n (sets_of c.args.sets.now)) 1 c.in_ok-marks.marks.items
    c.args.program.now.statements c.in_ok-marks.ensures.all
    (λ i within. c.in_ok-marks.ensures.each i within
    ∙ ap (λ n. stands_in n (sets_of c.args.sets.now)) (omega arith))) c.marked.ensures

pub marked-requires : goal.marked-requires
marked-requires c =
    let p = c.args.program.now in
    let few = (within-limits (parts_of p) (kept p).within).statements in
    grind (arith, nat_tests, few, c.as_slice.ensures.value, c.in_ok-marks.ensures.all)
