use Rattle.std.proofs.Common.{Ok, Err, arith}
use Rattle.ba_check.specs.Readers.{seen}
use Rattle.ba_check.proofs.CodeLaws.{tells-first}
use Rattle.ba_world.specs.Read.{read_error}
use Rattle.ba_world.proofs.WholeReads.{only_reads_on}
use Rattle.mode_check.specs.declared.certificates.Unfed.TheVariants.{Refused, Unread}
use Rattle.mode_check.proofs.Feeding.{feeding_ends, feeding_errs, feeding_goes_on, feeding_passes, feeding_starts, feeding_stops, unfed_by}
use Rattle.mode_check.proofs.certificates.feed_file.Goals as goal

pub loop-count-init : goal.loop-count-init
loop-count-init g c = record {
  feeding = feeding_starts c.args.name.now (seen g.J.RunJudge.accepts c.args.confirm.now) (g.W.World.outside
      c.args.world.now)
      (g.W.World.outside c.open_file.new.self) c.in_ok-open_file.ensures.opened
      c.open_file.ensures.none_given;
  within = omega arith;
  stays = c.open_file.ensures.stays;
}

pub returns-in_err-count-clause-unfed : goal.returns-in_err-count-clause-unfed
returns-in_err-count-clause-unfed g c = λ j named has.
    unfed_by j c.from_residual-in_err-count.result (Unread (read_error c.in_err-count.field-0.0)) _ _
    c.from_residual-in_err-count.ensures.1
    (feeding_errs j c.args.name.now (seen g.J.RunJudge.accepts c.args.confirm.now) (seen g.J.RunJudge.accepts
    c.loop-count.confirm) c.loop-count.given
    (g.W.World.outside c.args.world.now) (g.W.World.outside c.loop-count.world)
    (g.W.World.outside c.next_piece.new.self) c.in_err-count.field-0.0 c.next_piece.result named has
    c.loop-count.invariant.feeding c.loop-count.invariant.within c.in_err-count.ensures.refused
    c.next_piece.ensures.still c.in_err-count.was c.next_piece.ensures.cause
    c.loop-count.invariant.stays.no_fall)

pub returns-in_err-count-clause-bounded : goal.returns-in_err-count-clause-bounded
returns-in_err-count-clause-bounded g c =
    let f = c.loop-count.invariant.feeding in let given = f.read.counted.1 in let count = f.count in
    let same = c.in_err-count.ensures.refused.given in omega (arith, given, count, same)

pub returns-then-count-eq0-clause-fed : goal.returns-then-count-eq0-clause-fed
returns-then-count-eq0-clause-fed g c = λ j named has.
    feeding_ends j c.args.name.now (seen g.J.RunJudge.accepts c.args.confirm.now) (seen g.J.RunJudge.accepts
    c.loop-count.confirm) c.next_piece.new.into
    c.in_ok-count.count c.loop-count.given (g.W.World.outside c.args.world.now)
    (g.W.World.outside c.loop-count.world) (g.W.World.outside c.next_piece.new.self) named has
    c.loop-count.invariant.feeding c.loop-count.invariant.within c.if-count-eq0.true
    c.in_ok-count.ensures.given
    c.next_piece.ensures.still

pub returns-then-count-eq0-clause-bounded : goal.returns-then-count-eq0-clause-bounded
returns-then-count-eq0-clause-bounded g c =
    let f = c.loop-count.invariant.feeding in let given = f.read.counted.1 in let count = f.count in
    let more = c.in_ok-count.ensures.given.counted in omega (arith, given, count, more)

pub returns-then-given-gt-CERTIFICATE_LIMIT-clause-unfed :
    goal.returns-then-given-gt-CERTIFICATE_LIMIT-clause-unfed
returns-then-given-gt-CERTIFICATE_LIMIT-clause-unfed g c = λ j named has.
    feeding_passes j c.args.name.now (seen g.J.RunJudge.accepts c.args.confirm.now) (seen g.J.RunJudge.accepts
    c.loop-count.confirm)
    c.next_piece.new.into
    c.in_ok-count.count c.loop-count.given (g.W.World.outside c.args.world.now)
    (g.W.World.outside c.loop-count.world) (g.W.World.outside c.next_piece.new.self) named has
    c.loop-count.invariant.feeding c.loop-count.invariant.within c.if-given-gt-CERTIFICATE_LIMIT.true
    (omega arith) c.in_ok-count.ensures.given c.next_piece.ensures.still

pub returns-then-given-gt-CERTIFICATE_LIMIT-clause-bounded :
    goal.returns-then-given-gt-CERTIFICATE_LIMIT-clause-bounded
returns-then-given-gt-CERTIFICATE_LIMIT-clause-bounded g c =
    let f = c.loop-count.invariant.feeding in let given = f.read.counted.1 in let count = f.count in
    let more = c.in_ok-count.ensures.given.counted in let few = c.in_ok-count.ensures.given.within in
    omega (arith, given, count, more, few)

pub loop-count-preserved : goal.loop-count-preserved
loop-count-preserved g c = record {
  feeding = feeding_goes_on c.args.name.now (seen g.J.RunJudge.accepts c.args.confirm.now) (seen
      g.J.RunJudge.accepts c.loop-count.confirm)
      (seen g.J.RunJudge.accepts c.feed.new.self) c.next_piece.new.into c.in_ok-count.count c.loop-count.given
      (g.W.World.outside c.args.world.now) (g.W.World.outside c.loop-count.world)
      (g.W.World.outside c.next_piece.new.self) c.loop-count.invariant.feeding c.in_ok-count.ensures.given
      c.next_piece.ensures.still c.feed.ensures.reads (λ h p text has. tells-first h p _ _ (Ok tt)
      (c.feed.ensures.reads h p text has) c.in_ok-feed.ensures.answer);
  within = omega arith;
  stays = only_reads_on _ _ _ c.loop-count.invariant.stays c.next_piece.ensures.stays;
}

pub returns-in_err-feed-clause-unfed : goal.returns-in_err-feed-clause-unfed
returns-in_err-feed-clause-unfed g c = λ j named has.
    unfed_by j c.from_residual-in_err-feed.result (Refused c.in_err-feed.field-0.0) _ _
    c.from_residual-in_err-feed.ensures.1
    (feeding_stops j c.args.name.now (seen g.J.RunJudge.accepts c.args.confirm.now) (seen g.J.RunJudge.accepts
    c.loop-count.confirm)
    c.next_piece.new.into c.in_ok-count.count c.loop-count.given (g.W.World.outside c.args.world.now)
    (g.W.World.outside c.loop-count.world) (g.W.World.outside c.next_piece.new.self)
    c.in_err-feed.field-0.0 named has c.loop-count.invariant.feeding (omega arith) (omega arith)
    c.in_ok-count.ensures.given c.next_piece.ensures.still (λ h p text has. tells-first h p _ _
    (Err c.in_err-feed.field-0.0) (c.in_err-feed.ensures.reads h p text has) c.in_err-feed.ensures.answer))
