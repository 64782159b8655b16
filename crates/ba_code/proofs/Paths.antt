-- Paths in present iterations.
use Rattle.std.proofs.Common.{◌≡◌, zero, suc, List, [], ◌∷◌, refl, ap}
use Rattle.ba_code.specs.Meaning.{filled}
use Rattle.ba_tree.specs.declared.run.Step.{Step}
use Rattle.ba_tree.specs.declared.run.Step.TheVariants.{Call, Turn}

-- without loops around it a path stays as it is
pub filled-none : (path : List Step) → filled [] path ≡ path
filled-none [] = refl
filled-none (Call c ∷ path) = ap (λ path. Call c ∷ path) (filled-none path)
filled-none (Turn stmt zero ∷ path) = ap (λ path. Turn stmt zero ∷ path) (filled-none path)
filled-none (Turn stmt (suc k) ∷ path) = ap (λ path. Turn stmt (suc k) ∷ path) (filled-none path)
