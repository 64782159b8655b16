use Rattle.std.proofs.Common.{ℕ, Some, List, sym, subst}
use Rattle.ba_lits.specs.Literals.{Literal}
use Rattle.ba_arena.specs.Clauses.{lits_at}
use Rattle.ba_watch.specs.Propagation.{State, IsReason, lits_in}
use Rattle.ba_watch.proofs.Sounds.{Sound-push, lits_in-map}
use Rattle.ba_watch.proofs.watch.Watch.assign.Goals as goal

pub invariant_of-self : goal.invariant_of-self
invariant_of-self c =
    let i = c.self.inside in
    let reason : IsReason (lits_at i.lists.arena c.args.reason) i.trail.lits c.args.lit =
    subst (λ (ls : List Literal). IsReason ls i.trail.lits c.args.lit)
    (lits_in-map i.lists.arena c.args.reason)
    (subst (λ (s : State). IsReason (lits_in s.clauses c.args.reason) s.trail c.args.lit)
    (sym c.self.view_is) c.requires.reason) in (
      Sound-push _ _ _ i.trail c.push.new.self _ _ i.settled c.args.lit (Some c.args.reason)
          c.self.invariant.0 c.push.ensures.pushed c.push.ensures.trail
          (λ r e. subst (λ (m : ℕ). IsReason (lits_at i.lists.arena m) i.trail.lits c.args.lit) (cc e)
          reason) (λ e. absurd (cc e)),
      c.self.invariant.1,
    )
