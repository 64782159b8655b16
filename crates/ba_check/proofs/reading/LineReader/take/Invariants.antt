use Rattle.std.proofs.Common.{length}
use Rattle.ba_check.specs.Lines.{HasNoFeed}
use Rattle.ba_check.specs.Readings.{course_kept}
use Rattle.ba_check.proofs.CodeLaws.{IsUnderWay}
use Rattle.ba_check.proofs.reading.LineReader.take.Given as goal

-- what is left of the piece, after what is kept, gives what the whole piece gives
abbrev pub invariant-loop-end : goal.invariant-loop-end
invariant-loop-end g l = HasNoFeed l.initial.self.rest.items
    → IsUnderWay l.head (g.J.RunJudge.accepts l.judge) (course_kept l.initial.self.checked)
    l.initial.self.rest.items l.piece
    (course_kept l.self.checked) l.self.rest.items l.left

abbrev pub decreases-loop-end : goal.decreases-loop-end
decreases-loop-end g l = length l.left
