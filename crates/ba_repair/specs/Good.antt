-- GOOD EDITS: those with which the program as a whole passes given inputs.

use Rattle.std.specs.Prelude.{◌≡◌, ◌⊎◌, true, List, [], ◌∷◌, All}
use Rattle.ba_tree.specs.Run.{runs_well}
use Rattle.ba_tree.specs.Trees.{tree_of}
use Rattle.ba_tree.specs.declared.run.Bounds.{Bounds}
use Rattle.ba_tree.specs.declared.run.Input.{Input}
use Rattle.ba_tree.specs.declared.tree.Program.{Program}
use Rattle.ba_repair.specs.Changes.{changed_program}
use Rattle.ba_repair.specs.declared.listing.Edit.{Edit}

-- the edited program is any program with the edited tree; all such mean the same
abbrev pub IsEdited : Program → Edit → Program → Type 0
IsEdited p edit edited = tree_of edited ≡ changed_program edit (tree_of p)

-- its run as written is done on each of these inputs, within the bounds
abbrev pub Passes : Bounds → List Input → Program → Type 0
Passes bounds inputs p = All (λ i. runs_well p i bounds ≡ true) inputs

-- AN EDIT IS GOOD for these inputs: a program with the edited tree passes them (`edits_have_one_program`:
-- then each does)
pub record IsGood (p : Program) (bounds : Bounds) (inputs : List Input) (edit : Edit) : Type 0 where
  pub edited : Program
  pub is_edited : IsEdited p edit edited
  pub passes : Passes bounds inputs edited

-- THE GOOD ONES of these edits, in their order. The first is good and leads the list; or it isn't, and has no
-- place in it
abbrev pub AreGood : Program → Bounds → List Input → List Edit → List Edit → Type 0
AreGood p bounds inputs [] found = found ≡ []
AreGood p bounds inputs (edit ∷ edits) found =
    (IsGood p bounds inputs edit
    × ((others : List Edit) × (found ≡ edit ∷ others) × AreGood p bounds inputs edits others))
    ⊎ ((IsGood p bounds inputs edit → ⊥) × AreGood p bounds inputs edits found)
