use Rattle.std.proofs.Common.{◌≡◌, drop}
use Rattle.ba_types.specs.Filing.{behind_externals, file_state}
use Rattle.ba_types.proofs.files.add_each.Given as goal

abbrev pub invariant-loop-external : goal.invariant-loop-external
invariant-loop-external l = behind_externals l.definitions (drop l.external-index l.externals) l.earlier
    (file_state l.scope l.work l.inits l.functions)
    ≡ behind_externals 0 l.externals l.fn.earlier (file_state l.fn.scope l.fn.work l.fn.inits l.fn.functions)
