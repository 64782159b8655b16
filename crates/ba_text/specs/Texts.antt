-- Choices as text.

use Rattle.std.specs.Prelude.{ℕ, List, ◌∷◌, [], map, flat_map, codes}
use Rattle.std.specs.Fmt.{signed_decimal}
use Rattle.ba_choices.specs.declared.Choice.{Choice}
use Rattle.ba_choices.specs.declared.Choice.TheVariants.{Keep, Take}

-- parts, each after a space
abbrev pub after_space : List ℕ → List ℕ
after_space part = 32 ∷ part

-- the parts, each after a space
abbrev pub spaced : List (List ℕ) → List ℕ
spaced parts = flat_map after_space parts

-- the parts of a choice: `k`, or `t` and its values
abbrev pub choice_parts : Choice → List (List ℕ)
choice_parts Keep = codes "k" ∷ []
choice_parts (Take values) = codes "t" ∷ map signed_decimal values

-- the choices of a run, each part after a space
abbrev pub choices_text : List Choice → List ℕ
choices_text choices = spaced (flat_map choice_parts choices)
