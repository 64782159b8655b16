-- What the parser answers, by the reading of the file.

use Rattle.std.specs.Prelude.{ℕ, ◌-◌, List, [], ◌∷◌, length, Result, Ok, Err}
use Rattle.ba_tokens.specs.declared.token.Token.{Token}
use Rattle.ba_parse.specs.declared.error.ParseError.{ParseError}
use Rattle.ba_parse.specs.declared.error.ParseError.TheVariants as error
use Rattle.ba_trees.specs.FileMarks.{file_marks}
use Rattle.ba_trees.specs.Marks.{Mark}
use Rattle.ba_trees.specs.declared.tree.statements.RawProgram.{RawProgram}
use Rattle.ba_parse.specs.Readings.{Answer, done, syntax, too_deep}

-- the number of the first of these tokens, which end a list
abbrev pub token_number : List Token → List Token → ℕ
token_number tokens rest = length tokens - length rest

-- the tree of a reading that used up all tokens, or the error and the number of its token, from 0
abbrev pub outcome_of : List Token → Answer → Result (List Mark) ParseError
outcome_of tokens (done f []) = Ok f
outcome_of tokens (done f (t ∷ ts)) = Err (error.Syntax (token_number tokens (t ∷ ts)))
outcome_of tokens (syntax rest) = Err (error.Syntax (token_number tokens rest))
outcome_of tokens (too_deep rest) = Err (error.TooDeep (token_number tokens rest))

-- an answer with its tree written out
abbrev pub written : Result RawProgram ParseError → Result (List Mark) ParseError
written (Ok program) = Ok (file_marks program)
written (Err error) = Err error
