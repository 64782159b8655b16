-- What the names, words and operators of a program mean.

use Rattle.std.specs.Prelude.{ℕ, Bool, true, false, ◌&&◌, ◌==◌, cond, nat_eq, ◌+◌, ◌++◌, Option, None, Some, List, [], ◌∷◌}
use Rattle.std.specs.List.{list_any}
use Rattle.std.specs.Option.{is_some}
use Rattle.std.specs.Cmp.Lexicographic.{pointwise}
use Rattle.ba_tokens.specs.declared.token.Token.{Token}
use Rattle.ba_tokens.specs.declared.token.TokenKind.{TokenKind}
use Rattle.ba_tokens.specs.declared.token.TokenKind.TheVariants as kind
use Rattle.ba_tokens.specs.declared.token.Keyword.{Keyword}
use Rattle.ba_tokens.specs.declared.token.Keyword.TheVariants as keyword
use Rattle.ba_tokens.specs.declared.token.Punct.{Punct}
use Rattle.ba_tokens.specs.declared.token.Punct.TheVariants as punct
use Rattle.ba_numbers.specs.declared.numbers.BinOp.{BinOp}
use Rattle.ba_numbers.specs.declared.numbers.BinOp.TheVariants.{Mul, Div, Rem, Add, Sub, Shl, Shr, Lt, Le, Gt, Ge, Eq, Ne, And, Xor, Or}
use Rattle.ba_numbers.specs.declared.numbers.CType.{CType}
use Rattle.ba_numbers.specs.declared.numbers.CType.TheVariants.{I8, U8, I16, U16, I32, U32}
use Rattle.ba_numbers.specs.declared.numbers.UnOp.{UnOp}
use Rattle.ba_numbers.specs.declared.numbers.UnOp.TheVariants.{Neg, Flip, IsZero}
use Rattle.ba_trees.specs.Classes.{class_of, only, word}
use Rattle.ba_trees.specs.declared.class.TokenClass.TheVariants as class
use Rattle.ba_trees.specs.declared.tree.declarations.Specifiers.{Specifiers}
use Rattle.ba_trees.specs.declared.tree.expressions.TypeName.{TypeName}
use Rattle.ba_tree.specs.Facts.{is_array_shape}
use Rattle.ba_typing.specs.declared.names.Exits.{Exits}
use Rattle.ba_typing.specs.declared.names.Jump.{Jump}
use Rattle.ba_typing.specs.declared.names.Jump.TheVariants as jump
use Rattle.ba_typing.specs.declared.names.Operator.{Operator}
use Rattle.ba_typing.specs.declared.names.TypeWords.{TypeWords}
use Rattle.ba_typing.specs.declared.names.Operator.TheVariants as operator
use Rattle.ba_typing.specs.declared.names.Operator.TheVariants.{AndAlso, OrElse}
use Rattle.ba_typing.specs.declared.meanings.Entity.{Entity}
use Rattle.ba_typing.specs.declared.meanings.Entity.TheVariants as entity
use Rattle.ba_typing.specs.declared.meanings.Entry.{Entry}
use Rattle.ba_typing.specs.declared.meanings.Meaning.{Meaning}
use Rattle.ba_typing.specs.declared.meanings.Meaning.TheVariants as meaning
use Rattle.ba_typing.specs.declared.meanings.Object.{Object}
use Rattle.ba_typing.specs.declared.meanings.Signature.{Signature}
use Rattle.ba_typing.specs.declared.meanings.Space.{Space}
use Rattle.ba_typing.specs.declared.meanings.Space.TheVariants as space
use Rattle.ba_typing.specs.contracts.meanings.SpacePartialEq.TheImpl.{eq-value}

-- TOKENS. No tree of the grammar has a token of another kind than its place asks for.

-- the name that a token is, empty for another token
abbrev pub name_of_kind : TokenKind → List ℕ
name_of_kind (kind.Name name) = name
name_of_kind _ = []

-- the name that a token is, empty for another token
abbrev pub name_of : Token → List ℕ
name_of token = name_of_kind token.kind

-- the punctuator that a token is
abbrev pub punct_of_kind : TokenKind → Option Punct
punct_of_kind (kind.Punct p) = Some p
punct_of_kind _ = None

-- the punctuator that a token is
abbrev pub punct_of : Token → Option Punct
punct_of token = punct_of_kind token.kind

-- TYPE NAMES (C90 6.5.2): the type that the words name, None for `void`. An enumerated type is I32.

-- the keyword is among the words
abbrev pub has_word : List Token → Keyword → Bool
has_word words k = list_any (λ token. word k (class_of token)) words

-- the type by whether it is unsigned
abbrev pub by_sign : Bool → CType → CType → CType
by_sign is_unsigned signed unsigned = cond is_unsigned unsigned signed

-- by the words that decide the type
abbrev pub type_of_told : TypeWords → Option CType
type_of_told w = cond w.is_void None (Some (cond w.is_char (by_sign w.is_unsigned I8 U8)
    (cond w.is_short (by_sign w.is_unsigned I16 U16) (by_sign w.is_unsigned I32 U32))))

-- the type that words name (C90 6.5.2), None for `void`
abbrev pub type_of_words : List Token → Option CType
type_of_words words = type_of_told (record {
  is_void = has_word words keyword.Void;
  is_char = has_word words keyword.Char;
  is_short = has_word words keyword.Short;
  is_unsigned = has_word words keyword.Unsigned;
})

-- the words of a type name
abbrev pub words_of : TypeName → List Token
words_of name = name.words.items

-- the type that a type name names, None for `void`
abbrev pub type_named : TypeName → Option CType
type_named name = type_of_words (words_of name)

-- those of a declaration, without the constants of an enumerated type
abbrev pub words_of_declaration : Specifiers → List Token
words_of_declaration s = s.words.items ++ s.behind.items

-- the type that the words of a declaration name, None for `void`
abbrev pub type_specified : Specifiers → Option CType
type_specified s = type_of_words (words_of_declaration s)

-- the tag after `enum`, if one is there (C90 6.5.2.3)
abbrev pub is_name : Token → Bool
is_name token = only class.Name (class_of token)

-- the first name among the words
abbrev pub first_name : List Token → Option Token
first_name [] = None
first_name (w ∷ ws) = cond (is_name w) (Some w) None

-- the tag after the word `enum`, if there is one
abbrev pub tag_of : List Token → Option Token
tag_of [] = None
tag_of (w ∷ ws) = cond (word keyword.Enum (class_of w)) (first_name ws) (tag_of ws)

-- OPERATORS (C90 6.3.3.3, 6.3.5 to 6.3.12). Unary `+` has none.

-- the operator of a sign before an operand; None for a plus sign, which only promotes
abbrev pub unary_operator : Option Punct → Option UnOp
unary_operator (Some punct.Minus) = Some Neg
unary_operator (Some punct.Tilde) = Some Flip
unary_operator (Some punct.Exclamation) = Some IsZero
unary_operator _ = None

-- the operator of a sign between two operands
abbrev pub binary_operator : Option Punct → Operator
binary_operator (Some punct.Star) = operator.Value Mul
binary_operator (Some punct.Slash) = operator.Value Div
binary_operator (Some punct.Percent) = operator.Value Rem
binary_operator (Some punct.Plus) = operator.Value Add
binary_operator (Some punct.Minus) = operator.Value Sub
binary_operator (Some punct.ShiftLeft) = operator.Value Shl
binary_operator (Some punct.ShiftRight) = operator.Value Shr
binary_operator (Some punct.Less) = operator.Value Lt
binary_operator (Some punct.LessEqual) = operator.Value Le
binary_operator (Some punct.Greater) = operator.Value Gt
binary_operator (Some punct.GreaterEqual) = operator.Value Ge
binary_operator (Some punct.Equal) = operator.Value Eq
binary_operator (Some punct.NotEqual) = operator.Value Ne
binary_operator (Some punct.Ampersand) = operator.Value And
binary_operator (Some punct.Caret) = operator.Value Xor
binary_operator (Some punct.Bar) = operator.Value Or
binary_operator (Some punct.AndAnd) = AndAlso
binary_operator _ = OrElse

-- the operator of a compound assignment or a step; `=` has none (C90 6.3.16.2, 6.3.2.4, 6.3.3.1)
abbrev pub changing_operator : Option Punct → Option BinOp
changing_operator (Some punct.StarAssign) = Some Mul
changing_operator (Some punct.SlashAssign) = Some Div
changing_operator (Some punct.PercentAssign) = Some Rem
changing_operator (Some punct.PlusAssign) = Some Add
changing_operator (Some punct.MinusAssign) = Some Sub
changing_operator (Some punct.ShiftLeftAssign) = Some Shl
changing_operator (Some punct.ShiftRightAssign) = Some Shr
changing_operator (Some punct.AmpersandAssign) = Some And
changing_operator (Some punct.CaretAssign) = Some Xor
changing_operator (Some punct.BarAssign) = Some Or
changing_operator (Some punct.Increment) = Some Add
changing_operator (Some punct.Decrement) = Some Sub
changing_operator _ = None

-- JUMPS without a value, by their keyword (C90 6.6.6)

-- which jump a keyword is
abbrev pub jump_of_kind : TokenKind → Jump
jump_of_kind (kind.Keyword keyword.Break) = jump.Break
jump_of_kind (kind.Keyword keyword.Continue) = jump.Continue
jump_of_kind _ = jump.Return

-- which jump a token is: `break`, `continue`, else `return`
abbrev pub jump_of : Token → Jump
jump_of token = jump_of_kind token.kind

-- SCOPES (C90 6.1.2.1)

-- both are the same name
abbrev pub same_name : List ℕ → List ℕ → Bool
same_name = pointwise nat_eq

-- `main`
abbrev pub main_name : List ℕ
main_name = 0x6d ∷ 0x61 ∷ 0x69 ∷ 0x6e ∷ []

-- the name is `main`
abbrev pub is_main_name : List ℕ → Bool
is_main_name = same_name main_name

-- the jumps outside of loops and `switch`es; in a loop; in a `switch`, where a `continue` belongs to the loop
-- around it
abbrev pub no_exits : Exits
no_exits = record { breaks = false; continues = false }

-- in a loop both `break` and `continue` may come
abbrev pub exits_of_loop : Exits
exits_of_loop = record { breaks = true; continues = true }

-- in a `switch` a `break` may come, and a `continue` if one may come around it
abbrev pub exits_of_switch : Exits → Exits
exits_of_switch around = record around { breaks = true }

-- What is known around an expression or statement:
-- - `functions`: all declarations of functions in the file, since a function is known in the whole file
-- - `known`: the variables, constants and tags in scope, in the order of their declarations; a later one
--   hides earlier ones of its name
-- - `depth`: how many scopes are inside the file's; parameters and the outermost block are one scope
-- - `exits`: which jumps are accepted
-- - `result`: the type of the function around, None for `void`
pub record Scope : Type 0 where
  pub functions : List Signature
  pub known : List Entry
  pub depth : ℕ
  pub exits : Exits
  pub result : Option CType

-- the file's scope with these functions, before its first variable
abbrev pub fresh_scope : List Signature → Scope
fresh_scope functions = record {
  functions = functions;
  known = [];
  depth = 0;
  exits = no_exits;
  result = None;
}

-- a scope in which these entries are declared too
abbrev pub knowing : List Entry → Scope → Scope
knowing entries scope = record scope { known = scope.known ++ entries }

-- a block's scope; that of a loop's body; that of a `switch`'s body
abbrev pub inner : Scope → Scope
inner scope = record scope { depth = scope.depth + 1 }

-- the scope in the body of a loop
abbrev pub looping : Scope → Scope
looping scope = record scope { exits = exits_of_loop }

-- the scope in the body of a `switch`
abbrev pub switching : Scope → Scope
switching scope = record scope { exits = exits_of_switch scope.exits }

-- an entry of the name in a name space (C90 6.1.2.3)
abbrev pub space_of : Entity → Space
space_of (entity.Variable o) = space.Ordinary
space_of (entity.Constant z) = space.Ordinary
space_of entity.Tag = space.Tags

-- both are the same name space (C90 6.1.2.3)
abbrev pub same_space : Space → Space → Bool
same_space = eq-value.it

-- the entry has this name, in this name space
abbrev pub is_named : Space → List ℕ → Entry → Bool
is_named within name e = same_name e.name name && same_space (space_of e.entity) within

-- the last entry of the name
abbrev pub last_entry : Space → List ℕ → List Entry → Option Entry → Option Entry
last_entry within name [] last = last
last_entry within name (e ∷ es) last = last_entry within name es (cond (is_named within name e) (Some e) last)

-- a function of this name is declared
abbrev pub is_declared_in : List Signature → List ℕ → Bool
is_declared_in functions name = list_any (λ (s : Signature). same_name s.name name) functions

-- the first definition of a function of this name
abbrev pub definition_in : List Signature → List ℕ → Option Signature
definition_in [] name = None
definition_in (s ∷ ss) name = cond (s.is_definition && same_name s.name name) (Some s) (definition_in ss name)

-- what a name means
abbrev pub function_or_unknown : Bool → Meaning
function_or_unknown is_declared = cond is_declared meaning.Function meaning.Unknown

-- what an entry means as a name; a tag means nothing there
abbrev pub meaning_of_entity : Entity → Meaning
meaning_of_entity (entity.Variable o) = meaning.Variable o
meaning_of_entity (entity.Constant z) = meaning.Constant z
meaning_of_entity entity.Tag = meaning.Unknown

-- the meaning of an entry, or the other one without an entry
abbrev pub meaning_or : Option Entry → Meaning → Meaning
meaning_or None other = other
meaning_or (Some e) other = meaning_of_entity e.entity

-- what a name means: its newest entry in scope, else a function, else nothing
abbrev pub meaning_of : Scope → List ℕ → Meaning
meaning_of scope name =
    meaning_or (last_entry space.Ordinary name scope.known None) (function_or_unknown (is_declared_in scope.functions name))

-- a name is declared in the innermost scope
abbrev pub is_declared_here : Space → Scope → List ℕ → Bool
is_declared_here within scope name = list_any (λ (e : Entry). is_named within name e && (e.depth == scope.depth))
    scope.known

-- a tag is declared in this scope or one around it
abbrev pub is_tag_known : Scope → List ℕ → Bool
is_tag_known scope tag = is_some (last_entry space.Tags tag scope.known None)

-- the variable is an array
abbrev pub is_array_object : Object → Bool
is_array_object o = is_array_shape o.variable.shape
