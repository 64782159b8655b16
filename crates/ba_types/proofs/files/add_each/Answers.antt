use Rattle.ba_types.specs.Filing.{behind_externals, file_state}
use Rattle.ba_types.proofs.FileSteps.{next-external, no-external}
use Rattle.ba_types.proofs.files.add_each.Goals as goal

pub loop-external-preserved : goal.loop-external-preserved
loop-external-preserved c =
    let xs = c.args.externals.now in let l = c.loop-external in
    next-external l.definitions c.in_ok-definitions.definitions xs l.external-index c.external-item.result
    c.in_ok-declared.declared l.earlier c.add_signature.new.functions
    (file_state l.scope l.work l.inits l.functions)
    (file_state c.add_external.new.scope c.add_external.new.work c.add_external.new.inits
    c.add_external.new.functions)
    (behind_externals 0 xs c.args.earlier.now
    (file_state c.args.scope.now c.args.work.now c.args.inits.now c.args.functions.now))
    c.loop-external-test.true c.external-item.is l.invariant c.in_ok-declared.ensures
    c.in_ok-add_external.ensures
    c.in_ok-definitions.ensures c.in_ok-add_signature.ensures

pub returns : goal.returns
returns c =
    let xs = c.args.externals.now in let l = c.loop-external in
    no-external l.definitions xs l.external-index l.earlier (file_state l.scope l.work l.inits l.functions)
    (behind_externals 0 xs c.args.earlier.now
    (file_state c.args.scope.now c.args.work.now c.args.inits.now c.args.functions.now))
    c.loop-external-test.false l.invariant
