use Rattle.std.proofs.Common.{ℕ, List, ◌++◌, length, codes, decimal, ap, ◌∙◌}
use Rattle.mode_all.proofs.Adding.{reported}
use Rattle.mode_all.proofs.report.all_report.Goals as goal

pub returns : goal.returns
returns c =
    let inputs = c.args.inputs.now in
    let sets = c.args.sets.now in
    let head = c.in_ok-extend_from_slice-3.ensures.items
    ∙ ap (λ (text : List ℕ). text ++ codes "\n") (c.in_ok-push_number-3.ensures
    ∙ ap (λ (text : List ℕ). text ++ decimal (length sets)) (c.in_ok-extend_from_slice-2.ensures.items
    ∙ ap (λ (text : List ℕ). text ++ codes ", sets ") (c.in_ok-push_number-2.ensures
    ∙ ap (λ (text : List ℕ). text ++ decimal c.args.weight) (c.in_ok-extend_from_slice.ensures.items
    ∙ ap (λ (text : List ℕ). text ++ codes ", weight ") (c.in_ok-push_number.ensures
    ∙ ap (λ (text : List ℕ). text ++ decimal (length inputs)) c.in_ok-text.ensures.items))))) in
    reported c.args.source.now c.in_ok-new.field-0 c.args.program.now c.args.shows inputs c.args.bounds
    c.args.weight sets c.extend_from_slice-3.new.self.items c.push_sets.new.text.items c.in_ok-new.ensures
    head c.in_ok-push_sets.ensures
