use Rattle.std.proofs.Common.{map}
use Rattle.std.proofs.lemmas.Result.{on_ok_weaker}
use Rattle.ba_tree.specs.Trees.{tree_of_stmt}
use Rattle.ba_types.proofs.FileSteps.{specified}
use Rattle.ba_types.proofs.files.add_external.Goals as goal

pub returns : goal.returns
returns c =
    let inits = map tree_of_stmt c.args.inits.now.items in
    on_ok_weaker c.add_external_form.result
    (specified c.args.external.now c.args.signature.now c.args.earlier.now c.args.scope.now
    c.add_specifiers.new.scope c.args.work.now c.add_specifiers.new.work inits c.args.functions.now _
    (c.in_ok-add_specifiers.ensures inits)) c.add_external_form.ensures
