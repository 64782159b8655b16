-- Why a text is refused, from the errors of its tokens, of their tree and of typing.

use Rattle.std.proofs.Common.{◌≡◌, ℕ, List, Ok, Err, refl}
use Rattle.ba_lex.specs.Lines.{tokens_of, Fails}
use Rattle.ba_lex.specs.declared.error.LexError.{LexError}
use Rattle.ba_lex.specs.declared.error.LexError.TheVariants as lexical
use Rattle.ba_tokens.specs.declared.token.Token.{Token}
use Rattle.ba_parse.specs.Files.{IsParsed}
use Rattle.ba_parse.specs.Told.{IsTold}
use Rattle.ba_parse.specs.declared.error.ParseError.{ParseError}
use Rattle.ba_parse.specs.declared.error.ParseError.TheVariants as syntactic
use Rattle.ba_trees.specs.FileMarks.{file_marks}
use Rattle.ba_trees.specs.declared.tree.statements.RawProgram.{RawProgram}
use Rattle.ba_tree.specs.declared.tree.Program.{Program}
use Rattle.ba_typing.specs.Files.{Checked}
use Rattle.ba_typing.specs.declared.error.TypeError.{TypeError}
use Rattle.ba_typing.specs.declared.error.TypeError.TheVariants as type
use Rattle.ba_typing.specs.declared.fault.Cause.TheVariants as typing
use Rattle.ba_tree_laws.specs.Spelling.{Spells}
use Rattle.ba_cases.specs.Programs.{IsTreeOf, TellsFault, ill_typed, lexical_fault, no_file, no_main, no_tokens, too_deep, tree_fault, type_fault}

pub lexical_tells : (source : List ℕ) (error : LexError) → Fails error (tokens_of source)
    → TellsFault source (lexical_fault error)
lexical_tells source (lexical.BadByte at) fails = no_tokens (lexical.BadByte at) fails refl
lexical_tells source (lexical.BadToken at) fails = no_tokens (lexical.BadToken at) fails refl
lexical_tells source (lexical.NotInProfile at) fails = no_tokens (lexical.NotInProfile at) fails refl
lexical_tells source (lexical.BadDirective at) fails = no_tokens (lexical.BadDirective at) fails refl
lexical_tells source (lexical.MacroOrder at) fails = no_tokens (lexical.MacroOrder at) fails refl
lexical_tells source (lexical.Redefined at) fails = no_tokens (lexical.Redefined at) fails refl
lexical_tells source (lexical.TooMany at) fails = no_tokens (lexical.TooMany at) fails refl
lexical_tells source lexical.Memory fails = tt

pub tree_tells : (source : List ℕ) (tokens : List Token) (error : ParseError) → tokens_of source ≡ Ok tokens
    → IsTold tokens (Err error) → TellsFault source (tree_fault tokens error)
tree_tells source tokens (syntactic.Syntax k) lexed told = no_file tokens k lexed told refl
tree_tells source tokens (syntactic.TooDeep k) lexed told = too_deep tokens k lexed told refl
tree_tells source tokens syntactic.Memory lexed told = tt

pub tree_of_text : (source : List ℕ) (tokens : List Token) (tree : RawProgram) → tokens_of source ≡ Ok tokens
    → IsParsed tokens (file_marks tree) → IsTreeOf source tree
tree_of_text source tokens tree lexed parsed = record { tokens = tokens; lexed = lexed; parsed = parsed }

pub type_tells : (source : List ℕ) (tree : RawProgram) (error : TypeError) → IsTreeOf source tree
    → Checked tree.externals.items (Err error) → TellsFault source (type_fault error)
type_tells source tree (type.UnknownName at) is first =
    ill_typed tree (record { at = at; cause = typing.UnknownName }) is first refl
type_tells source tree (type.Twice at) is first = ill_typed tree (record { at = at; cause = typing.Twice })
    is first refl
type_tells source tree (type.WrongKind at) is first =
    ill_typed tree (record { at = at; cause = typing.WrongKind }) is first refl
type_tells source tree (type.WrongCount at) is first =
    ill_typed tree (record { at = at; cause = typing.WrongCount }) is first refl
type_tells source tree type.NoMain is (no_fault, untyped) = no_main tree is no_fault untyped refl
type_tells source tree (type.BadLength at) is first =
    ill_typed tree (record { at = at; cause = typing.BadLength }) is first refl
type_tells source tree (type.BreakOutside at) is first =
    ill_typed tree (record { at = at; cause = typing.BreakOutside }) is first refl
type_tells source tree (type.CallInIndex at) is first =
    ill_typed tree (record { at = at; cause = typing.CallInIndex }) is first refl
type_tells source tree (type.Limit at) is first = ill_typed tree (record { at = at; cause = typing.Limit })
    is first refl
type_tells source tree type.Memory is first = tt

pub spells : (source : List ℕ) (tree : RawProgram) (p : Program) → IsTreeOf source tree
    → Checked tree.externals.items (Ok p) → Spells source p
spells source tree p is (no_fault, typed) = record {
  tokens = is.tokens;
  lexed = is.lexed;
  are = record { tree = tree; parsed = is.parsed; clean = no_fault; typed = typed };
}
