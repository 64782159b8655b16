-- What a call answers that stops.

use Rattle.std.proofs.Common.{◌≡◌, ℕ, Option, List, Result, Err, IfErr, IfOk, refl, sym, subst, ◌∙◌}
use Rattle.ba_answers.specs.declared.answers.Answer.{Answer}
use Rattle.ba_search.specs.declared.search.SearchError.{SearchError}
use Rattle.ba_search.specs.declared.search.SearchError.TheVariants as error
use Rattle.ba_tree.specs.declared.tree.Program.{Program}
use Rattle.ba_cases.specs.AtOnce.{IsAnswered, IsAtOnce, IsStopped}
use Rattle.ba_cases.specs.declared.stop.Stop.{Stop}
use Rattle.ba_cases.specs.declared.stop.Stop.TheVariants as stop

-- an answer that is given at once
pub stop_answers : (source : List ℕ) (first : Program → Option Answer) (s : Stop)
    (result : Result Answer SearchError) → IsStopped source first s → IsAnswered s result →
    IfOk result (IsAtOnce source first)
stop_answers source first (stop.Answered a) result is answered =
    subst (λ r. IfOk r (IsAtOnce source first)) (sym answered) is
stop_answers source first stop.Memory result is answered =
    subst (λ r. IfOk r (IsAtOnce source first)) (sym answered) tt

-- and never that a sink failed
pub stop_no_fault : (s : Stop) (result : Result Answer SearchError) → IsAnswered s result →
    result ≡ Err error.SinkFailed → ⊥
stop_no_fault (stop.Answered a) result answered failed = let both = sym answered ∙ failed in cc
stop_no_fault stop.Memory result answered failed = let both = sym answered ∙ failed in cc

-- whose one error is out of memory
pub stop_errs : (s : Stop) (result : Result Answer SearchError) → IsAnswered s result →
    IfErr result (λ failure. failure ≡ error.Memory)
stop_errs (stop.Answered a) result answered =
    subst (λ r. IfErr r (λ failure. failure ≡ error.Memory)) (sym answered) tt
stop_errs stop.Memory result answered =
    subst (λ r. IfErr r (λ failure. failure ≡ error.Memory)) (sym answered) refl
