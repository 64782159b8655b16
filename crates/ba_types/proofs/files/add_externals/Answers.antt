use Rattle.std.proofs.lemmas.Result.{on_ok_weaker}
use Rattle.ba_types.specs.Filing.{file_state}
use Rattle.ba_types.proofs.FileSteps.{all-externals}
use Rattle.ba_types.proofs.files.add_externals.Goals as goal

pub returns : goal.returns
returns c = on_ok_weaker c.add_each.result (λ added.
    all-externals c.args.externals.now c.new-earlier.result
    (file_state c.args.scope.now c.args.work.now c.args.inits.now c.args.functions.now)
    (file_state c.add_each.new.scope c.add_each.new.work c.add_each.new.inits c.add_each.new.functions)
    c.new-earlier.ensures added) c.add_each.ensures
