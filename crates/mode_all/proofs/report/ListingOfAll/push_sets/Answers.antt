use Rattle.std.proofs.Common.{◌+◌, ap}
use Rattle.mode_all.proofs.Adding.{added_from}
use Rattle.mode_all.proofs.report.ListingOfAll.push_sets.Goals as goal

pub loop-found-preserved : goal.loop-found-preserved
loop-found-preserved c =
    let all = c.args.self.now in
    record {
      counted = ap (λ n. n + 1) c.loop-found.invariant.counted;
      added = λ text are. c.loop-found.invariant.added text
          (added_from all.listing.lines all.listing.program.now all.listing.runs all.inputs.now all.bounds
          c.loop-found.number c.loop-found.found-index c.found-item.result c.args.sets.now
          c.loop-found.text.items c.push_found.new.text.items text c.loop-found-test.true c.found-item.is
          c.in_ok-push_found.ensures are);
    }
