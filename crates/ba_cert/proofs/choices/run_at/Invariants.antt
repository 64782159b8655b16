use Rattle.std.proofs.Common.{◌≡◌, length}
use Rattle.ba_cert.specs.Reading.{no_choice, run_at}
use Rattle.ba_cert.proofs.choices.run_at.Given as goal

-- what is left, after the choices so far, is read as the whole
abbrev pub invariant-loop-part : goal.invariant-loop-part
invariant-loop-part l = run_at l.run l.parts ≡ run_at no_choice l.initial.parts

abbrev pub decreases-loop-part : goal.decreases-loop-part
decreases-loop-part l = length l.parts
