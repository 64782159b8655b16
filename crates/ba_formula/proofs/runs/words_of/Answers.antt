use Rattle.std.proofs.lemmas.Result.{IfOk-weaker}
use Rattle.ba_formula.proofs.Guarding.{one-run}
use Rattle.ba_formula.specs.Words.{HasRuns, good_on}
use Rattle.ba_guards.specs.Contract.{IsGuarded}
use Rattle.ba_formula.proofs.runs.words_of.Goals as goal

pub returns : goal.returns
returns c =
    let p = c.args.program.now in
    let input = c.args.input.now in
    let b = c.args.bounds in
    IfOk-weaker c.guard.result (IsGuarded c.in_ok-tree.tree input) (HasRuns p (good_on p input b))
    (one-run p input b c.requires c.in_ok-tree.tree c.in_ok-tree.ensures) c.guard.ensures
