-- THE WEIGHTS of a program's statements, as a text gives them.

use Rattle.std.specs.Prelude.{◌≡◌, ◌<◌, ℕ, ◌+◌, Bool, true, false, ◌==◌, if◌then◌else◌, Option, None, Some, option_map, is_some, List, [], ◌∷◌, ◌++◌, map, codes, bytes_eq}
use Rattle.ba_bytes.specs.Pieces.{pieces_of}
use Rattle.ba_tree.specs.Least.{WeightList}
use Rattle.ba_tree.specs.declared.tree.Program.{Program}
use Rattle.ba_tree.specs.declared.tree.StmtInfo.{StmtInfo}
use Rattle.ba_tree.specs.declared.tree.StmtKind.{StmtKind}
use Rattle.ba_tree.specs.declared.tree.StmtKind.TheVariants.{Assert}
use Rattle.ba_inputs.specs.declared.weights.LineWeight.{LineWeight}
use Rattle.ba_inputs.specs.declared.weights.LineWeight.TheVariants.{Fixed, Weight}
use Rattle.ba_inputs.specs.declared.weights.LineContent.{LineContent}
use Rattle.ba_inputs.specs.declared.weights.LineContent.TheVariants.{Skipped, Named, Bad}
use Rattle.ba_inputs.specs.declared.weights.WeightsError.{WeightsError}
use Rattle.ba_inputs.specs.declared.weights.WeightsError.TheVariants.{Line, Memory}
use Rattle.ba_bytes.specs.Lines.{lines_of}
use Rattle.ba_bytes.specs.Numbers.{number_in}

-- WHAT A LINE IS, by its pieces between blanks. It is blank; a comment, which begins with `#`; or the number
-- of a line of the program, and a weight.

-- the piece begins with `#`
abbrev pub begins_comment : List ℕ → Bool
begins_comment [] = false
begins_comment (b ∷ bs) = b == 35

-- a weight is one to four digits from 1 to 1,000, or `fixed`
abbrev pub weight_in : List ℕ → Option LineWeight
weight_in piece =
    if bytes_eq piece (codes "fixed") then Some Fixed
    else option_map (λ n. Weight n) (number_in 4 1 1000 piece)

-- what a line says, by its number and weight, if both are well written
abbrev pub named_with : Option ℕ → Option LineWeight → LineContent
named_with None weight = Bad
named_with (Some line) None = Bad
named_with (Some line) (Some weight) = Named line weight

-- the number of a line is one to five digits and at least 1
abbrev pub named_by : List ℕ → List ℕ → LineContent
named_by line weight = named_with (number_in 5 1 99999 line) (weight_in weight)

-- what a line says, by its pieces
abbrev pub content_after : List ℕ → List (List ℕ) → LineContent
content_after first [] = Bad
content_after first (second ∷ []) = named_by first second
content_after first (second ∷ third ∷ others) = Bad

-- what a line says, by its pieces; nothing if it is blank or a comment
abbrev pub content_by : List (List ℕ) → LineContent
content_by [] = Skipped
content_by (first ∷ others) = if begins_comment first then Skipped else content_after first others

-- what a line of the weights says
unfoldable pub content_of : List ℕ → LineContent
content_of line = content_by (pieces_of line)

-- WHAT THE LINES SAY of a line of the program: what the first of them that names it says

-- what a line says of this line of the program
abbrev pub said_by : ℕ → LineContent → Option LineWeight
said_by line Skipped = None
said_by line (Named other weight) = if other == line then Some weight else None
said_by line Bad = None

-- the first that is said
abbrev pub first_said : List (Option LineWeight) → Option LineWeight
first_said [] = None
first_said (None ∷ others) = first_said others
first_said (Some weight ∷ others) = Some weight

-- what the lines say of this line of the program
abbrev pub said_of : List (List ℕ) → ℕ → Option LineWeight
said_of lines line = first_said (map (λ text. said_by line (content_of text)) lines)

-- THE FIRST BAD LINE, counted from 1: it has no form of a line, or names a line that an earlier one names

-- a line is bad, or names a line that an earlier one named
abbrev pub is_bad_after : List (List ℕ) → LineContent → Bool
is_bad_after earlier Skipped = false
is_bad_after earlier (Named line weight) = is_some (said_of earlier line)
is_bad_after earlier Bad = true

-- the first bad line, by lines from this number on and those before them
abbrev pub bad_from : ℕ → List (List ℕ) → List (List ℕ) → Option ℕ
bad_from number earlier [] = None
bad_from number earlier (text ∷ others) =
    if is_bad_after earlier (content_of text) then Some number
    else bad_from (number + 1) (earlier ++ text ∷ []) others

-- the number of the first bad line of a text
abbrev pub bad_line : List ℕ → Option ℕ
bad_line text = bad_from 1 [] (lines_of text)

-- THE WEIGHTS: a statement weighs what the text says of the line in which it begins, and 1 if the text says
-- nothing. It may not be relaxed if that is `fixed`, or if it is an assert.

-- the weight by what is said: 1 if nothing is, none if the line is fixed
abbrev pub weight_of : Option LineWeight → Option ℕ
weight_of None = Some 1
weight_of (Some Fixed) = None
weight_of (Some (Weight weight)) = Some weight

-- the weight of a statement of this kind; an assert has none
abbrev pub statement_weight : StmtKind → Option LineWeight → Option ℕ
statement_weight Assert said = None
statement_weight _ said = weight_of said

-- the weights of all statements of a program
abbrev pub weights_in : Program → List ℕ → WeightList
weights_in p text =
    map (λ (info : StmtInfo). statement_weight info.kind (said_of (lines_of text) info.at.line))
    p.statements

-- an error says the first bad line; out of memory says nothing
abbrev pub Tells : WeightsError → Option ℕ → Type 0
Tells (Line number) bad = bad ≡ Some number
Tells Memory bad = Unit {0}

-- the number of the line is an index of the table
abbrev pub IsWithinTable : LineContent → Type 0
IsWithinTable Skipped = Unit {0}
IsWithinTable (Named line weight) = line < 100000
IsWithinTable Bad = Unit {0}
