use Rattle.std.proofs.Common.{◌∙◌, [], ◌∷◌, ◌++◌, refl, ap}
use Rattle.ba_clauses.specs.Sides.{taken}
use Rattle.ba_clauses.proofs.gates.expand.Goals as goal

pub returns-in_ok-push-in-Some-2 : goal.returns-in_ok-push-in-Some-2
returns-in_ok-push-in-Some-2 c =
    taken c.in-Some.first c.in-Some.second c.in-Some.ensures.0 c.in-Some.ensures.2
    (c.in_ok-push-in-Some-2.ensures.items ∙ ap (λ xs. xs ++ c.in-Some.first ∷ [])
    c.in_ok-push-in-Some.ensures.items) refl
