use Rattle.std.proofs.Common.{subst}
use Rattle.ba_arena.specs.Clauses.{Clauses, IsLive, IsOutside}
use Rattle.ba_arena.proofs.Wiping.{live-outside}
use Rattle.ba_arena.proofs.Arena.keep_apart.Goals as goal

pub returns : goal.returns
returns c = subst (λ (cs : Clauses). (r : _) → IsLive cs r → IsOutside cs r) c.self.view_is
    (λ r live. live-outside c.self.inside.words.items r c.self.invariant live)
