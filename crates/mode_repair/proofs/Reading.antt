-- The answer before any search, by the refusals of both files of inputs and the ends of all runs.

use Rattle.std.proofs.Common.{◌≡◌, None, Option, [], ◌∷◌, ap, ◌∙◌}
use Rattle.ba_answers.specs.declared.answers.Answer.{Answer}
use Rattle.ba_cases.specs.AtOnce.{Tells, first_answer}
use Rattle.ba_cases.specs.declared.stop.Stop.{Stop}
use Rattle.ba_cases.specs.declared.stop.Stop.TheVariants as stop

-- the first of two is told
pub tells_first : (why : Stop) (a b : Option Answer) → Tells why a → Tells why (first_answer (a ∷ b ∷ []))
tells_first (stop.Answered told) a b is = ap (λ (a : Option Answer). first_answer (a ∷ b ∷ [])) is
tells_first stop.Memory a b is = tt

-- or the second, if the first isn't there
pub tells_second : (why : Stop) (a b : Option Answer) → a ≡ None → Tells why b →
    Tells why (first_answer (a ∷ b ∷ []))
tells_second (stop.Answered told) a b none is =
    ap (λ (a : Option Answer). first_answer (a ∷ b ∷ [])) none
    ∙ ap (λ (b : Option Answer). first_answer (b ∷ [])) is
tells_second stop.Memory a b none is = tt

-- neither is there
pub none_of_two : (a b : Option Answer) → a ≡ None → b ≡ None → first_answer (a ∷ b ∷ []) ≡ None
none_of_two a b first second =
    ap (λ (a : Option Answer). first_answer (a ∷ b ∷ [])) first
    ∙ ap (λ (b : Option Answer). first_answer (b ∷ [])) second
