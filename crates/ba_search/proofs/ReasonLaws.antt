-- The reasons of literals.

use Rattle.std.proofs.Common.{◌≡◌, ℕ, ◌<◌, Option, None, Some, List, length, get_or, map, sym, ap, ◌∙◌, arith}
use Rattle.std.proofs.lemmas.List.{get_or_default}
use Rattle.ba_arena.specs.Clauses.{Clauses, IsLive}
use Rattle.ba_watch.specs.Threads.{plain}
use Rattle.ba_watch.specs.Propagation.{State, KeepsFacts}
use Rattle.ba_learn.proofs.ReasonLaws.{reason_live, live_in}

pub reason_is_live : (s : State) (clauses : Clauses) (p r : ℕ) → KeepsFacts s →
    map plain clauses ≡ s.clauses →
    p < length s.reasons → get_or s.reasons p None ≡ Some r → IsLive clauses r
reason_is_live s clauses p r facts same within is =
    live_in clauses s.clauses r same (reason_live s p r facts
    (omega (arith, within, facts.trail.same_length)) is)

-- what is read within a list is there, whatever stands for what lies past its end
pub read_any : (reasons read : List (Option ℕ)) (place : ℕ) (past reason : Option ℕ) →
    read ≡ reasons →
    place < length reasons → get_or read place past ≡ reason → get_or reasons place None ≡ reason
read_any reasons read place past reason same within is =
    get_or_default reasons place None past within
    ∙ (ap (λ (rs : List (Option ℕ)). get_or rs place past) (sym same) ∙ is)
