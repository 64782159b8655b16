use Rattle.ba_watch.proofs.ListSteps.{take_step}
use Rattle.ba_watch.proofs.lists.Lists.take.Goals as goal

pub invariant_of-self : goal.invariant_of-self
invariant_of-self c = record {
  threaded = rw (c.get-self.ensures, c.none.ensures)
      (take_step c.args.self.now.arena c.args.self.now.heads.items c.args.self.now.visited c.args.index
      c.args.self.now.pending c.index.result.now c.args.self.now.threaded c.requires.idle c.requires.within
      c.index.ensures).0;
}

pub returns-clause-pending : goal.returns-clause-pending
returns-clause-pending c =
    rw c.get-self.ensures (take_step c.args.self.now.arena c.args.self.now.heads.items
    c.args.self.now.visited c.args.index c.args.self.now.pending c.index.result.now
    c.args.self.now.threaded c.requires.idle c.requires.within c.index.ensures).1
