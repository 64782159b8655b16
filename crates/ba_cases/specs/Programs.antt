-- WHY A TEXT SPELLS NO PROGRAM. Which program it spells is `Spells` of `ba_tree_laws`.

use Rattle.std.specs.Prelude.{◌≡◌, ℕ, Option, None, Some, option_map, Ok, Err, List, [], slice_get}
use Rattle.ba_numbers.specs.declared.ids.At.{At}
use Rattle.ba_lex.specs.Lines.{tokens_of}
use Rattle.ba_lex.specs.declared.error.LexError.{LexError}
use Rattle.ba_lex.specs.declared.error.LexError.TheVariants as lexical
use Rattle.ba_tokens.specs.declared.token.Token.{Token}
use Rattle.ba_trees.specs.FileMarks.{file_marks}
use Rattle.ba_parse.specs.Files.{IsParsed, IsSyntaxError, IsTooDeep}
use Rattle.ba_parse.specs.declared.error.ParseError.{ParseError}
use Rattle.ba_parse.specs.declared.error.ParseError.TheVariants as syntactic
use Rattle.ba_trees.specs.declared.tree.statements.RawProgram.{RawProgram}
use Rattle.ba_typing.specs.Faults.{IsFirst}
use Rattle.ba_typing.specs.Files.{faults_of, typed_of}
use Rattle.ba_typing.specs.declared.error.TypeError.{TypeError}
use Rattle.ba_typing.specs.declared.error.TypeError.TheVariants as type
use Rattle.ba_typing.specs.declared.fault.Cause.{Cause as TypeCause}
use Rattle.ba_typing.specs.declared.fault.Cause.TheVariants as typing
use Rattle.ba_typing.specs.declared.fault.Fault.{Fault as TypeFault}
use Rattle.ba_answers.specs.declared.fault.Cause.{Cause}
use Rattle.ba_answers.specs.declared.fault.Cause.TheVariants as cause
use Rattle.ba_answers.specs.declared.fault.Fault.{Fault}

-- The first stage that refuses it, and the first fault of that stage

-- the fault of an error of the tokens; none if memory ran out
abbrev pub lexical_fault : LexError → Option Fault
lexical_fault (lexical.BadByte at) = Some (record { cause = cause.BadByte; at = Some at })
lexical_fault (lexical.BadToken at) = Some (record { cause = cause.BadToken; at = Some at })
lexical_fault (lexical.NotInProfile at) = Some (record { cause = cause.NotInProfile; at = Some at })
lexical_fault (lexical.BadDirective at) = Some (record { cause = cause.BadDirective; at = Some at })
lexical_fault (lexical.MacroOrder at) = Some (record { cause = cause.MacroOrder; at = Some at })
lexical_fault (lexical.Redefined at) = Some (record { cause = cause.Redefined; at = Some at })
lexical_fault (lexical.TooMany at) = Some (record { cause = cause.TooMany; at = Some at })
lexical_fault lexical.Memory = None

-- the position of a token, counted from 0; none past the last
abbrev pub position_of_token : List Token → ℕ → Option At
position_of_token tokens number = option_map (λ (t : Token). t.at) (slice_get tokens number)

-- the fault of an error of the tree of these tokens; none if memory ran out
abbrev pub tree_fault : List Token → ParseError → Option Fault
tree_fault tokens (syntactic.Syntax number) =
    Some (record { cause = cause.Syntax; at = position_of_token tokens number })
tree_fault tokens (syntactic.TooDeep number) =
    Some (record { cause = cause.TooDeep; at = position_of_token tokens number })
tree_fault tokens syntactic.Memory = None

-- the cause of a fault of typing, and of an error of typing; none if memory ran out
abbrev pub typing_cause : TypeCause → Cause
typing_cause typing.UnknownName = cause.UnknownName
typing_cause typing.Twice = cause.Twice
typing_cause typing.WrongKind = cause.WrongKind
typing_cause typing.WrongCount = cause.WrongCount
typing_cause typing.BadLength = cause.BadLength
typing_cause typing.BreakOutside = cause.BreakOutside
typing_cause typing.CallInIndex = cause.CallInIndex
typing_cause typing.Limit = cause.Limit

-- a fault of typing
abbrev pub typing_fault : TypeFault → Fault
typing_fault fault = record { cause = typing_cause fault.cause; at = Some fault.at }

-- the fault that an error of the type checker is, None out of memory
abbrev pub type_fault : TypeError → Option Fault
type_fault (type.UnknownName at) = Some (record { cause = cause.UnknownName; at = Some at })
type_fault (type.Twice at) = Some (record { cause = cause.Twice; at = Some at })
type_fault (type.WrongKind at) = Some (record { cause = cause.WrongKind; at = Some at })
type_fault (type.WrongCount at) = Some (record { cause = cause.WrongCount; at = Some at })
type_fault type.NoMain = Some (record { cause = cause.NoMain; at = None })
type_fault (type.BadLength at) = Some (record { cause = cause.BadLength; at = Some at })
type_fault (type.BreakOutside at) = Some (record { cause = cause.BreakOutside; at = Some at })
type_fault (type.CallInIndex at) = Some (record { cause = cause.CallInIndex; at = Some at })
type_fault (type.Limit at) = Some (record { cause = cause.Limit; at = Some at })
type_fault type.Memory = None

-- the text has tokens, and they are those of the file with this tree
pub record IsTreeOf (source : List ℕ) (tree : RawProgram) : Type 0 where
  pub tokens : List Token
  pub lexed : tokens_of source ≡ Ok tokens
  pub parsed : IsParsed tokens (file_marks tree)

-- the text spells no program, and this is why: the first error of the first stage that refuses it
pub data IsFault (source : List ℕ) (fault : Fault) : Type 0 where
  -- the text has no tokens, and this is its first error
  no_tokens : (error : LexError) → tokens_of source ≡ Err error → lexical_fault error ≡ Some fault
      → IsFault source fault
  -- no file's tokens begin with its tokens up to this one, or they end too early
  no_file : (tokens : List Token) (number : ℕ) → tokens_of source ≡ Ok tokens
      → IsSyntaxError tokens number
      → fault ≡ record { cause = cause.Syntax; at = position_of_token tokens number } → IsFault source fault
  -- this token is the first with too many constructs around it
  too_deep : (tokens : List Token) (number : ℕ) → tokens_of source ≡ Ok tokens
      → IsTooDeep tokens number
      → fault ≡ record { cause = cause.TooDeep; at = position_of_token tokens number } → IsFault source fault
  -- its tokens are a file's, and this is the first of the file's faults
  ill_typed : (tree : RawProgram) (first : TypeFault) → IsTreeOf source tree
      → IsFirst (faults_of tree.externals.items) first → fault ≡ typing_fault first
      → IsFault source fault
  -- the only fault of the file is that it defines no `main`
  no_main : (tree : RawProgram) → IsTreeOf source tree → faults_of tree.externals.items ≡ []
      → typed_of tree.externals.items ≡ None → fault ≡ record { cause = cause.NoMain; at = None }
      → IsFault source fault

-- the fault is the text's; if there is none, memory ran out, which says nothing
abbrev pub TellsFault : List ℕ → Option Fault → Type 0
TellsFault source None = Unit {0}
TellsFault source (Some fault) = IsFault source fault
