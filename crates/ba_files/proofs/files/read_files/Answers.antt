use Rattle.std.proofs.Common.{[], refl, sym, subst, arith}
use Rattle.std.proofs.lemmas.Result.{err_from_is_err_and}
use Rattle.ba_world.proofs.WholeReads.{only_reads_none, only_reads_on}
use Rattle.ba_world.specs.declared.read.ReadFileError.TheVariants as read
use Rattle.ba_files.specs.Files.{AreRead}
use Rattle.ba_files.proofs.Reading.{read_more, short_of_memory, stops_next, text_added}
use Rattle.ba_files.proofs.files.read_files.Goals as goal

pub loop-named-init : goal.loop-named-init
loop-named-init g c =
    let world = g.W.World.outside c.args.world.now in
    record {
      read = subst (λ texts. AreRead [] texts world world) (sym c.new-texts.ensures.items) refl;
      given = omega arith;
      stays = only_reads_none world;
    }

pub loop-named-preserved : goal.loop-named-preserved
loop-named-preserved g c =
    let so_far = c.loop-named.invariant in
    let given = so_far.given in
    let more = c.read_if_named.ensures.bounded in
    record {
      read = read_more c.args.files.now c.loop-named.named-index c.named-item.result
          c.loop-named.texts.items c.push.new.self.items c.in_ok-text.text _ _ _ c.loop-named-test.true
          c.named-item.is so_far.read c.in_ok-text.ensures.ok
          (text_added c.push.result c.is_err.result c.loop-named.texts.items _ _ _
          c.is_err.ensures.value c.if-is_err.false c.push.ensures.items);
      given = omega (arith, given, more);
      stays = only_reads_on _ _ _ so_far.stays c.read_if_named.ensures.stays;
    }

pub returns-then-is_err-clause-err : goal.returns-then-is_err-clause-err
returns-then-is_err-clause-err g c =
    stops_next c.args.files.now c.loop-named.named-index c.named-item.result c.loop-named.texts.items
    c.named-item.result.file read.Memory _ (g.W.World.outside c.loop-named.world) _ c.loop-named-test.true
    c.named-item.is c.loop-named.invariant.read refl (short_of_memory _ _ _)

pub returns-in_err-text-clause-err : goal.returns-in_err-text-clause-err
returns-in_err-text-clause-err g c =
    let unread = c.in_err-text.ensures.err in
    let p = err_from_is_err_and c.from_residual.result c.from_residual.ensures.1 in
    rw (p.1, p.2)
    (stops_next c.args.files.now c.loop-named.named-index c.named-item.result c.loop-named.texts.items
    _ _ _ (g.W.World.outside c.loop-named.world) _ c.loop-named-test.true c.named-item.is
    c.loop-named.invariant.read unread.0 unread.1)
