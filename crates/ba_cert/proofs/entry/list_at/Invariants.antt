use Rattle.std.proofs.Common.{◌≡◌, [], length}
use Rattle.ba_cert.specs.Reading.{listed}
use Rattle.ba_cert.proofs.entry.list_at.Given as goal

-- what is left, after what was read, is read as the whole
abbrev pub invariant-loop-part : goal.invariant-loop-part
invariant-loop-part g l = listed g.T.Entry.reading l.items l.parts
    ≡ listed g.T.Entry.reading [] l.initial.parts

abbrev pub decreases-loop-part : goal.decreases-loop-part
decreases-loop-part g l = length l.parts
