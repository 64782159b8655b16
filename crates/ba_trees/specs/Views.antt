-- What all trees share when they are written out: parts that may be left out, and parts in a row.

use Rattle.std.specs.Prelude.{List, [], ◌∷◌, ◌++◌, Option, None, Some}
use Rattle.ba_tokens.specs.declared.token.Token.{Token}
use Rattle.ba_trees.specs.Marks.{Mark, leaf, node_of, no_name}

-- a part that may be left out
abbrev pub optional : Option (List Mark) → List Mark
optional None = []
optional (Some f) = f

-- parts in a row
abbrev pub joined : List (List Mark) → List Mark
joined [] = []
joined (f ∷ fs) = f ++ joined fs

-- a token that may be left out; a parameter's name, or the empty node for a missing one
abbrev pub optional_leaf : Option Token → List Mark
optional_leaf None = []
optional_leaf (Some t) = leaf t ∷ []

abbrev pub name_marks : Option Token → List Mark
name_marks None = node_of no_name []
name_marks (Some t) = leaf t ∷ []
