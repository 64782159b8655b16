use Rattle.std.proofs.Common.{◌≡◌, ◌++◌, drop}
use Rattle.ba_typing.specs.Files.{signatures, signatures_from}
use Rattle.ba_types.proofs.signatures.add_signatures.Given as goal

abbrev pub invariant-loop-external : goal.invariant-loop-external
invariant-loop-external l = l.functions ++ signatures_from l.definitions (drop l.external-index l.externals)
    ≡ l.fn.functions ++ signatures l.externals
