use Rattle.std.proofs.Common.{◌++◌, codes, decimal}
use Rattle.std.proofs.lemmas.Result.{on_ok_weaker}
use Rattle.ba_answers.specs.Printed.{behind_comma}
use Rattle.ba_answers.proofs.Parts.{parts_added}
use Rattle.ba_answers.proofs.answers.push_spent.Goals as goal

pub returns : goal.returns
returns c = on_ok_weaker c.push_behind_comma.result
    (parts_added c.args.text.now.items c.push_between.new.text.items c.push_behind_comma.new.text.items
    (codes "budget spent: " ++ decimal c.args.conflicts ++ codes " conflicts") (behind_comma c.args.line)
    (codes "\n") c.in_ok-push_between.ensures)
    c.push_behind_comma.ensures
