use Rattle.std.proofs.Common.{ℕ, ◌++◌, codes, decimal, ap, ◌∙◌}
use Rattle.std.proofs.lemmas.Result.{on_ok_weaker}
use Rattle.ba_answers.specs.Printed.{behind_comma}
use Rattle.ba_answers.proofs.Parts.{parts_added}
use Rattle.ba_answers.proofs.answers.push_too_many.Goals as goal

pub returns : goal.returns
returns c = on_ok_weaker c.push_behind_comma.result
    (parts_added c.args.text.now.items c.push_two.new.text.items c.push_behind_comma.new.text.items
    (codes "too many sets: weight " ++ decimal c.args.weight ++ codes ", more than " ++ decimal c.args.most)
    (behind_comma c.args.line) (codes "\n")
    (c.in_ok-push_two.ensures ∙ ap (λ (n : ℕ). c.args.text.now.items
    ++ (codes "too many sets: weight " ++ decimal c.args.weight ++ codes ", more than " ++ decimal n))
    c.from.ensures))
    c.push_behind_comma.ensures
