-- The steps of a path.

use Rattle.std.specs.Prelude.{List, [], ◌∷◌}
use Rattle.ba_tree.specs.declared.run.Step.{Step}
use Rattle.ba_interp.specs.declared.path.Path.{Path}
use Rattle.ba_interp.specs.declared.path.Path.TheOpen.{Path-F}
use Rattle.ba_interp.specs.declared.path.Path.TheFolds.{fold-Path}

-- a path as a list, innermost step first, by that around its innermost step
abbrev pub path_step : Path-F (List Step) → List Step
path_step Path-F.Main = []
path_step (Path-F.Within step outer) = step ∷ outer.now

-- innermost first
unfoldable pub steps_of : Path → List Step
steps_of = fold-Path (List Step) path_step
