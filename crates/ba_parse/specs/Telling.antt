-- How a function of the parser answers what a reading gives.

use Rattle.std.specs.Prelude.{◌≡◌, Bool, true, false, not, ◌&&◌, if◌then◌else◌, List, [], ◌∷◌, Result, Ok, Err}
use Rattle.std.specs.List.{list_all}
use Rattle.ba_tokens.specs.declared.token.Token.{Token}
use Rattle.ba_trees.specs.declared.class.TokenClass.{TokenClass}
use Rattle.ba_parse.specs.declared.reader.Stop.{Stop}
use Rattle.ba_parse.specs.declared.reader.Stop.TheVariants as stop
use Rattle.ba_trees.specs.Classes.{Classes, class_of, declaration_word, agree}
use Rattle.ba_trees.specs.Marks.{Mark}
use Rattle.ba_parse.specs.Readings.{Answer, Reading, done, syntax, too_deep, next_is, read_token}

-- The result is what the reading answers, with these tokens left. It may instead be out of memory.
abbrev pub Told : {A : Type 0} → (A → List Mark) → Result A Stop → Answer → List Token → Type 0
Told marks (Ok v) answer after = answer ≡ done (marks v) after
Told marks (Err stop.Syntax) answer after = answer ≡ syntax after
Told marks (Err stop.TooDeep) answer after = answer ≡ too_deep after
Told marks (Err stop.Memory) answer after = Unit {0}

-- the next two tokens are of these classes
abbrev pub next_are : Classes → Classes → List Token → Bool
next_are first second [] = false
next_are first second (t ∷ ts) = first (class_of t) && next_is second ts

-- why a part with no level left is refused: too many constructs, if the next token begins the part
abbrev pub refusal : Bool → Stop
refusal true = stop.TooDeep
refusal false = stop.Syntax

-- the next token is of the first classes, and the one after it not of the second
abbrev pub next_is_without : Classes → Classes → List Token → Bool
next_is_without first second [] = false
next_is_without first second (t ∷ ts) = first (class_of t) && not (next_is second ts)

-- the next token agrees with words of these classes
abbrev pub agrees_with : List TokenClass → List Token → Bool
agrees_with before [] = false
agrees_with before (t ∷ ts) = list_all (λ c. agree c (class_of t)) before

-- a further word of a type, if it agrees with the words before
abbrev pub next_word : Bool → List TokenClass → Reading
next_word static before ts = if agrees_with before ts then read_token (declaration_word static) ts else syntax
    ts
