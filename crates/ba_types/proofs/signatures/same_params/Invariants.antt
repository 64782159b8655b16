use Rattle.std.proofs.Common.{◌≡◌, drop}
use Rattle.ba_typing.specs.Files.{same_params}
use Rattle.ba_types.proofs.signatures.same_params.Given as goal

abbrev pub invariant-loop-i : goal.invariant-loop-i
invariant-loop-i l = same_params (drop l.i l.params) (drop l.i l.others) ≡ same_params l.params l.others
