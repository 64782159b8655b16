-- Derivations that are handed on, one after the other.

use Rattle.std.proofs.Common.{◌≡◌, Option, List, [], ◌∷◌, ◌++◌, refl, subst}
use Rattle.ba_cases.specs.Searching.{HandsAll}
use Rattle.ba_derivations.specs.Handing.{Derivation, Hands}
use Rattle.ba_steps.specs.Sinks.{Logs, Told}
use Rattle.ba_steps.specs.declared.sink.Basis.{Basis}

pub hands_none : (t : Told) → HandsAll [] t t
hands_none t = (refl, refl)

pub hands_one : (d : Derivation) (t u : Told) → Hands d t u → HandsAll (d ∷ []) t u
hands_one d t u h = (u, h, hands_none u)

-- to a sink that told the same formulas and logs before
hands_as : (d : Derivation) (t m u : Told) → m.over ≡ t.over → m.logs ≡ t.logs → Hands d m u → Hands d t u
hands_as d t m u over logs h =
    let by = subst (λ (l : Logs). Hands d (record m { over = t.over; logs = l }) u) logs
    (subst (λ (o : Option (List Basis)). Hands d (record m { over = o }) u) over h) in
    record { over = by.over; logs = by.logs }

-- one more after the others
pub hands_more : (ds : List Derivation) (d : Derivation) (t m u : Told) → HandsAll ds t m → Hands d m u →
    HandsAll (ds ++ d ∷ []) t u
hands_more [] d t m u none h = hands_one d t u (hands_as d t m u none.0 none.1 h)
hands_more (e ∷ ds) d t m u (next, first, others) h = (next, first, hands_more ds d next m u others h)
