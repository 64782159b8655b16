use Rattle.std.proofs.Common.{◌≡◌, List, [], ◌∷◌, refl, ◌∙◌, ◌&&◌}
use lib.Pointwise.{pointwise}
use Rattle.ba_tree.specs.Choices.{same_path, same_step}
use Rattle.ba_tree.specs.declared.run.Step.{Step}
use Rattle.ba_tree.specs.declared.run.Step.TheVariants.{Call, Turn}
use Rattle.ba_tree.specs.contracts.run.StepPartialEq.TheImpl.{eq-value}
use Rattle.ba_encode.proofs.grouping.is_same_path.Goals as goal

steps-same : (a b : Step) → eq-value.it a b ≡ same_step a b
steps-same (Call a) (Call b) = refl
steps-same (Call a) (Turn b n) = refl
steps-same (Turn a m) (Call b) = refl
steps-same (Turn a m) (Turn b n) = refl

paths-same : (xs ys : List Step) → pointwise eq-value.it xs ys ≡ same_path xs ys
paths-same [] [] = refl
paths-same [] (y ∷ ys) = refl
paths-same (x ∷ xs) [] = refl
paths-same (x ∷ xs) (y ∷ ys) = λ i. steps-same x y i && paths-same xs ys i

pub returns : goal.returns
returns c = c.eq.ensures ∙ paths-same c.args.a.now c.args.b.now
