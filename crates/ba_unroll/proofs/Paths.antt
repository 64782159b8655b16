-- Paths in present iterations.
use Rattle.std.proofs.Common.{◌≡◌, ℕ, List, [], reverse, ◌∙◌, ap}
use Rattle.std.proofs.lemmas.List.{reverse-reverse}
use Rattle.ba_code.specs.Meaning.{filled, path_in}
use Rattle.ba_code.proofs.Paths.{filled-none}
use Rattle.ba_tree.specs.declared.run.Step.{Step}

pub path_in-none : (turns : List ℕ) (path made : List Step) → made ≡ reverse (path_in turns path)
    → path_in [] made ≡ path_in turns path
path_in-none turns path made is =
    ap (λ made. path_in [] made) is
    ∙ ap (filled []) (reverse-reverse (path_in turns path))
    ∙ filled-none (path_in turns path)
