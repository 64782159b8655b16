use Rattle.std.proofs.Common.{sym, subst}
use Rattle.ba_arena.specs.Clauses.{Clauses}
use Rattle.ba_watch.specs.Deletion.{AreReferenced}
use Rattle.ba_watch.proofs.Sounds.{Sound-grow}
use Rattle.ba_watch.proofs.watch.Watch.grow.Goals as goal

pub invariant_of-self-2 : goal.invariant_of-self-2
invariant_of-self-2 c = (
  Sound-grow _ _ _ _ _ _ c.self.inside.trail c.grow-2.new.self _ _ _ c.args.variables c.grow-2.result
      c.self.invariant.0 c.in_ok-grow.ensures.arena c.in_ok-grow.ensures.pending c.in_ok-grow.ensures.grows
      c.in_ok-grow.ensures.room c.grow-2.ensures.ok c.grow-2.ensures.err,
  subst (λ (a : Clauses). AreReferenced a c.self.inside.references.items) (sym c.in_ok-grow.ensures.arena)
      c.self.invariant.1,
)
