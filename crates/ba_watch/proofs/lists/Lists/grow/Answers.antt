use Rattle.std.proofs.Common.{arith, is_ok}
use Rattle.ba_watch.proofs.ListSteps.{grow_step}
use Rattle.ba_watch.proofs.lists.Lists.grow.Goals as goal

pub invariant_of-self : goal.invariant_of-self
invariant_of-self c = record {
  threaded = grow_step c.args.self.now.arena c.args.self.now.heads.items c.resize.new.self.items
      c.args.self.now.visited c.args.indices c.len.result c.args.self.now.pending c.none.result
      (is_ok c.resize.result) c.args.self.now.threaded
      (omega (arith, c.args.self.now.heads.ok.0, c.len.ensures)) c.if-indices-len.true c.none.ensures
      (rw c.len.ensures c.resize.ensures.items);
}
