use Rattle.std.proofs.Common.{◌≡◌, drop}
use Rattle.std.specs.List.{list_all}
use Rattle.ba_typing.specs.Files.{agrees}
use Rattle.ba_types.specs.Filing.{same_named}
use Rattle.ba_types.proofs.signatures.agrees_with_each.Given as goal

abbrev pub invariant-loop-other : goal.invariant-loop-other
invariant-loop-other l = list_all (agrees l.signature) (same_named l.signature.name
    (drop l.other-index l.earlier))
    ≡ list_all (agrees l.signature) (same_named l.signature.name l.earlier)
