use Rattle.ba_guards.proofs.Sharing.{numbered-push}
use Rattle.ba_guards.proofs.words.Words.push.Goals as goal

pub invariant_of-self-2 : goal.invariant_of-self-2
invariant_of-self-2 c = rw c.in_ok-push.ensures.items (numbered-push _ _ _ c.self.invariant)
