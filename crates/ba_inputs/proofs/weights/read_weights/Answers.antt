use Rattle.std.proofs.Common.{◌≡◌, None, List, get_or, map, ap, ap₂, ◌∙◌}
use Rattle.ba_tree.specs.Weights.{is_weight}
use Rattle.ba_tree.specs.declared.tree.StmtInfo.{StmtInfo}
use Rattle.ba_bytes.specs.Lines.{lines_of}
use Rattle.ba_inputs.specs.Tables.{Table}
use Rattle.ba_inputs.specs.Weights.{statement_weight, weight_of, weights_in}
use Rattle.ba_inputs.proofs.Tabling.{are_weights, said-range, weights-table}
use Rattle.ba_inputs.proofs.weights.read_weights.Goals as goal

pub weights_of-requires : goal.weights_of-requires
weights_of-requires c = λ line.
    ap (λ (t : Table). is_weight (weight_of (get_or t line None))) c.as_slice-2.ensures.value
    ∙ ap (λ said. is_weight (weight_of said)) (c.in_ok-table.ensures.ok.said line)
    ∙ said-range (lines_of c.args.text.now) line

-- the weights are those that the text gives
the_weights : (c : goal.After-drop-table-2)
    → c.in_ok-weights.weights.of ≡ weights_in c.args.program.now c.args.text.now
the_weights c = c.in_ok-weights.ensures
    ∙ ap₂ (λ (t : Table) (infos : List StmtInfo). map
    (λ (info : StmtInfo). statement_weight info.kind (get_or t info.at.line None)) infos)
    c.as_slice-2.ensures.value c.as_slice.ensures
    ∙ weights-table c.args.program.now c.args.text.now c.in_ok-table.table.items c.in_ok-table.ensures.ok

pub returns-clause-value : goal.returns-clause-value
returns-clause-value c = the_weights c

pub returns-clause-kept : goal.returns-clause-kept
returns-clause-kept c =
    are_weights c.args.program.now c.args.text.now c.in_ok-weights.weights.of (the_weights c)
    c.in_ok-weights.weights.in_range
