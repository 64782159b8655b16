use Rattle.std.proofs.Common.{Err, ap, arith}
use Rattle.ba_world.proofs.ReadEnds.{ended_past, ended_short, ended_unopened, ended_unread, ended_whole, falls_more, reading_more, reading_opened}
use Rattle.ba_world.proofs.read.read_whole.Goals as goal

pub returns-in_err-open_file : goal.returns-in_err-open_file
returns-in_err-open_file g c =
    ended_unopened _ _ _ _ _ _ c.from_residual.ensures.1 (λ e. c.in_err-open_file.ensures.cause (ap Err e))
    c.in_err-open_file.ensures.refused c.open_file.ensures.none_given c.open_file.ensures.stays

pub loop-bytes-init : goal.loop-bytes-init
loop-bytes-init g c =
    reading_opened _ _ _ _ _ c.new-bytes.ensures.items c.in_ok-open_file.ensures.opened
    c.open_file.ensures.none_given c.open_file.ensures.stays

pub returns-in_err-count : goal.returns-in_err-count
returns-in_err-count g c =
    ended_unread _ _ _ _ _ _ _ _ c.from_residual-in_err-count.ensures.1 c.loop-bytes.invariant
    c.in_err-count.ensures.refused (λ e. c.in_err-count.ensures.cause (ap Err e)) c.next_piece.ensures.still
    c.next_piece.ensures.stays

pub returns-then-count-eq0 : goal.returns-then-count-eq0
returns-then-count-eq0 g c =
    ended_whole _ _ _ _ _ _ _ _ c.loop-bytes.invariant c.in_ok-count.ensures.given c.if-count-eq0.true
    c.next_piece.ensures.still c.next_piece.ensures.stays

pub returns-then-len-count : goal.returns-then-len-count
returns-then-len-count g c =
    ended_past _ _ _ _ _ _ _ _ c.loop-bytes.invariant c.in_ok-count.ensures.given c.next_piece.ensures.still
    c.next_piece.ensures.stays (omega arith) (omega arith)

pub loop-bytes-smaller : goal.loop-bytes-smaller
loop-bytes-smaller g c =
    falls_more _ _ _ _ _ c.in_ok-extend_from_slice.ensures.items c.in_ok-count.ensures.given.within
    c.if-count-eq0.false (omega arith) c.requires

pub loop-bytes-preserved : goal.loop-bytes-preserved
loop-bytes-preserved g c =
    reading_more _ _ _ _ _ _ _ _ _ c.in_ok-extend_from_slice.ensures.items c.loop-bytes.invariant
    c.in_ok-count.ensures.given c.next_piece.ensures.still c.next_piece.ensures.stays (omega arith)

pub returns-in_err-extend_from_slice : goal.returns-in_err-extend_from_slice
returns-in_err-extend_from_slice g c =
    ended_short _ _ _ _ _ _ _ _ _ c.from_residual-in_err-extend_from_slice.ensures.1 c.loop-bytes.invariant
    c.in_ok-count.ensures.given c.next_piece.ensures.stays (omega arith)
