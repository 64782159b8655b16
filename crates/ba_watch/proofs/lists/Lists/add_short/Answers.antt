use Rattle.std.proofs.Common.{None}
use Rattle.ba_watch.proofs.ListSteps.{add_short_result}
use Rattle.ba_watch.proofs.lists.Lists.add_short.Goals as goal

pub invariant_of-self : goal.invariant_of-self
invariant_of-self c = record {
  threaded = add_short_result c.args.self.now.arena c.add.new.self c.args.self.now.heads.items
      c.args.self.now.visited c.args.self.now.pending
      (record { lits = c.args.lits.now; number = c.args.number; first = None; second = None }) c.add.result
      c.args.self.now.threaded c.requires.idle c.requires.short c.add.ensures.ok c.add.ensures.err;
}
