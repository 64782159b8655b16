use Rattle.std.proofs.Common.{◌≡◌, None, length, get_or, replicate, rules, ap, ◌∙◌}
use Rattle.std.proofs.lemmas.List.{length-replicate}
use Rattle.ba_inputs.specs.Tables.{Table}
use Rattle.ba_inputs.proofs.Tabling.{none_in}
use Rattle.ba_inputs.proofs.weights.empty_table.Goals as goal

pub returns : goal.returns
returns c =
    let all : c.in_ok-table.table.items ≡ replicate c.args.lines None =
    c.in_ok-table.ensures.items_if_clones_equal (λ y is. search rules) in
    record {
      size = ap length all ∙ length-replicate c.args.lines None;
      empty = λ line. ap (λ (t : Table). get_or t line None) all ∙ none_in c.args.lines line;
    }
