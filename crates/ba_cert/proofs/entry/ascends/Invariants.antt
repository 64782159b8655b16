use Rattle.std.proofs.Common.{◌≡◌, drop}
use Rattle.ba_cert.specs.Reading.{ascends}
use Rattle.ba_cert.proofs.entry.ascends.Given as goal

-- what is left ascends from the last number on as the whole does
abbrev pub invariant-loop-item : goal.invariant-loop-item
invariant-loop-item g l = ascends g.T.Entry.number l.last (drop l.item-index l.items)
    ≡ ascends g.T.Entry.number 0 l.items
