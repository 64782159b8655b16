-- What the parser answers is what the grammar says of the tokens.

use Rattle.std.specs.Prelude.{List, Result, Ok, Err}
use Rattle.ba_tokens.specs.declared.token.Token.{Token}
use Rattle.ba_parse.specs.Files.{Verdict, parsed, syntax_at, deep_at, Says}
use Rattle.ba_trees.specs.Marks.{Mark}
use Rattle.ba_parse.specs.declared.error.ParseError.{ParseError}
use Rattle.ba_parse.specs.declared.error.ParseError.TheVariants as error

-- the answer is said of the tokens, or is out of memory
abbrev pub IsTold : List Token → Result (List Mark) ParseError → Type 0
IsTold tokens (Ok tree) = Says tokens (parsed tree)
IsTold tokens (Err (error.Syntax k)) = Says tokens (syntax_at k)
IsTold tokens (Err (error.TooDeep k)) = Says tokens (deep_at k)
IsTold tokens (Err error.Memory) = Unit {0}

-- the answer for a verdict
abbrev pub result_of : Verdict → Result (List Mark) ParseError
result_of (parsed tree) = Ok tree
result_of (syntax_at k) = Err (error.Syntax k)
result_of (deep_at k) = Err (error.TooDeep k)
