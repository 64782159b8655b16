-- The lines of a text: directives, which define macros, and lines of the program, whose macros are replaced
-- (C90 6.8).

use Rattle.std.specs.Prelude.{◌≡◌, ℕ, ◌+◌, Bool, true, false, ◌==◌, ◌&&◌, ◌||◌, nat_le, nat_lt, if◌then◌else◌, List, [], ◌∷◌, ◌++◌, length, map, Option, None, Some, unwrap_or, Result, Ok, Err, codes, slice_get}
use Rattle.std.specs.Str.{bytes_eq}
use Rattle.std.specs.List.{list_any, flat_map}
use Rattle.std.specs.Map.{lookup}
use Rattle.std.specs.Cmp.Lexicographic.{pointwise}
use Rattle.ba_numbers.specs.declared.ids.At.{At}
use Rattle.ba_lex.specs.Pieces.{pieces_of}
use Rattle.ba_lex.specs.declared.error.LexError.{LexError}
use Rattle.ba_lex.specs.declared.error.LexError.TheVariants as error
use Rattle.ba_tokens.specs.declared.token.Keyword.{Keyword}
use Rattle.ba_tokens.specs.declared.token.Keyword.TheVariants as keyword
use Rattle.ba_tokens.specs.declared.token.Punct.{Punct}
use Rattle.ba_tokens.specs.declared.token.Punct.TheVariants as punct
use Rattle.ba_tokens.specs.declared.token.TokenKind.{TokenKind}
use Rattle.ba_tokens.specs.declared.token.TokenKind.TheVariants as kind
use Rattle.ba_tokens.specs.declared.token.Token.{Token}
use Rattle.ba_lex.specs.declared.piece.Form.{Form}
use Rattle.ba_lex.specs.declared.piece.Form.TheVariants as form
use Rattle.ba_lex.specs.declared.piece.Piece.{Piece}
use Rattle.ba_tokens.specs.contracts.token.TokenKindPartialEq.TheImpl.{eq-value}

-- TESTS OF TOKENS

-- the same kind, and the same name, keyword, constant or punctuator
abbrev pub same_kind : TokenKind → TokenKind → Bool
same_kind = eq-value.it

-- the token is this name
abbrev pub is_name : List ℕ → Token → Bool
is_name name t = same_kind t.kind (kind.Name name)

-- the token is this punctuator
abbrev pub is_punct : Punct → Token → Bool
is_punct p t = same_kind t.kind (kind.Punct p)

-- the token is this keyword
abbrev pub is_keyword : Keyword → Token → Bool
is_keyword k t = same_kind t.kind (kind.Keyword k)

-- THE TOKENS OF A LINE

-- tokens, and the fault that ends them if there is one
pub record Reading : Type 0 where
  pub tokens : List Token
  pub fault : Option LexError

-- no token and no fault
abbrev pub nothing : Reading
nothing = record { tokens = []; fault = None }

-- no token and this fault
abbrev pub only_fault : LexError → Reading
only_fault e = record { tokens = []; fault = Some e }

-- one reading and what follows it: nothing is read after a fault
abbrev pub sequence_after : Option LexError → List Token → Reading → Reading
sequence_after (Some e) tokens next = record { tokens = tokens; fault = Some e }
sequence_after None tokens next = record { tokens = tokens ++ next.tokens; fault = next.fault }

-- one text after the other, up to the first fault
abbrev pub sequence : Reading → Reading → Reading
sequence first next = sequence_after first.fault first.tokens next

-- these tokens, with no fault so far
abbrev pub only_tokens : List Token → Reading
only_tokens tokens = record { tokens = tokens; fault = None }

-- what one piece in a line gives; a # that begins no directive is at fault
abbrev pub reading_of : Form → At → Reading
reading_of form.Blank at = nothing
reading_of form.LineEnd at = nothing
reading_of form.Hash at = only_fault (error.BadToken at)
reading_of (form.Token kind) at = record { tokens = record { kind = kind; at = at } ∷ []; fault = None }
reading_of form.BadByte at = only_fault (error.BadByte at)
reading_of form.BadToken at = only_fault (error.BadToken at)
reading_of form.NotInProfile at = only_fault (error.NotInProfile at)

-- the tokens of a line up to its first piece at fault, and that fault
abbrev pub line_reading : List Piece → Reading
line_reading [] = nothing
line_reading (p ∷ ps) = sequence (reading_of p.form p.at) (line_reading ps)

-- the tokens, or the fault
abbrev pub or_fault : Option LexError → List Token → Result (List Token) LexError
or_fault None tokens = Ok tokens
or_fault (Some e) tokens = Err e

-- the tokens of a line, or its first fault
abbrev pub tokens_in : List Piece → Result (List Token) LexError
tokens_in line = or_fault (line_reading line).fault (line_reading line).tokens

-- MACROS

-- the macros defined so far, in their order: each name with its body, whose own macros have been replaced
abbrev pub Table : Type 0
Table = List (List ℕ × List TokenKind)

-- the tokens that a macro stands for, if the name is a macro's
abbrev pub body_of : Table → List ℕ → Option (List TokenKind)
body_of table name = lookup (bytes_eq name) table

-- the tokens that replace a token of this kind: a macro's body for its name, and else the token itself
abbrev pub replacement : Table → TokenKind → List TokenKind
replacement table (kind.Name name) = unwrap_or (body_of table name) (kind.Name name ∷ [])
replacement table (kind.Keyword k) = kind.Keyword k ∷ []
replacement table (kind.Constant t value) = kind.Constant t value ∷ []
replacement table kind.Quoted = kind.Quoted ∷ []
replacement table (kind.Punct p) = kind.Punct p ∷ []

-- tokens of these kinds, all with the position of the macro's use
abbrev pub tokens_at : At → List TokenKind → List Token
tokens_at at kinds = map (λ kind. record { kind = kind; at = at }) kinds

-- tokens with their macros replaced, each at the position of the name
abbrev pub tokens_with_macros : Table → List Token → List Token
tokens_with_macros table ts = flat_map (λ t. tokens_at t.at (replacement table t.kind)) ts

-- DIRECTIVES

-- the token is the name of a header that may be included
abbrev pub is_header_name : Token → Bool
is_header_name t = is_keyword keyword.Assert t || (is_name (codes "stdio") t || is_name (codes "stdlib") t)

-- <assert.h>, <stdio.h> or <stdlib.h>
abbrev pub is_header : List Token → Bool
is_header [] = false
is_header (a ∷ []) = false
is_header (a ∷ b ∷ []) = false
is_header (a ∷ b ∷ c ∷ []) = false
is_header (a ∷ b ∷ c ∷ d ∷ []) = false
is_header (a ∷ b ∷ c ∷ d ∷ e ∷ []) = is_punct punct.Less a && (is_header_name b && (is_punct punct.Dot c && (is_name (codes "h") d && is_punct punct.Greater e)))
is_header (a ∷ b ∷ c ∷ d ∷ e ∷ f ∷ ts) = false

-- the byte after the name that is here is a parenthesis
abbrev pub is_parenthesis_next : At → List ℕ → List Token → Bool
is_parenthesis_next at name [] = false
is_parenthesis_next at name (t ∷ ts) = is_punct punct.OpenParenthesis t && ((t.at.line == at.line) && (t.at.column == at.column + length name))

-- the name is in a body
abbrev pub is_in_body : List ℕ → List TokenKind → Bool
is_in_body name body = list_any (same_kind (kind.Name name)) body

-- how many macros a text may have
abbrev pub max_macros : ℕ
max_macros = 1000

-- how many tokens the body of a macro may have
abbrev pub max_body : ℕ
max_body = 1000

-- the tokens of a body after replacement; its names are replaced at once
abbrev pub body_from : Table → List Token → List TokenKind
body_from table ts = flat_map (λ t. replacement table t.kind) ts

-- A new macro, whose name is at this position, with these tokens. The name may be neither in an earlier body
-- nor in its own, and no limit may be passed.
abbrev pub with_new : Table → At → List ℕ → List Token → Result Table LexError
with_new table at name ts =
    if list_any (is_name name) ts || list_any (λ m. is_in_body name m.1) table then Err (error.MacroOrder at)
    else (if nat_le max_macros (length table) || nat_lt max_body (length (body_from table ts)) then Err (error.TooMany at)
    else Ok (table ++ (name, body_from table ts) ∷ []))

-- a macro may be defined again only with the same tokens
abbrev pub with_macro : Table → At → List ℕ → List Token → Option (List TokenKind) → Result Table LexError
with_macro table at name ts None = with_new table at name ts
with_macro table at name ts (Some old) = if pointwise same_kind old (body_from table ts) then Ok table else Err (error.Redefined at)

-- the definition of a macro of this kind of name, at the directive's #
abbrev pub table_defining : Table → At → At → TokenKind → List Token → Result Table LexError
table_defining table hash at (kind.Name name) body =
    if is_parenthesis_next at name body then Err (error.BadDirective hash)
    else with_macro table at name body (body_of table name)
table_defining table hash at (kind.Keyword k) body = Err (error.BadDirective hash)
table_defining table hash at (kind.Constant t value) body = Err (error.BadDirective hash)
table_defining table hash at kind.Quoted body = Err (error.BadDirective hash)
table_defining table hash at (kind.Punct p) body = Err (error.BadDirective hash)

-- the table after a `#define`, or its fault
abbrev pub definition : Table → At → List Token → Result Table LexError
definition table hash [] = Err (error.BadDirective hash)
definition table hash (t ∷ body) = table_defining table hash t.at t.kind body

-- what is made of a value, unless there is a fault
abbrev pub bind : {X Y : Type 0} → Result X LexError → (X → Result Y LexError) → Result Y LexError
bind (Ok x) next = next x
bind (Err e) next = Err e

-- the table after a directive with these tokens after its #
abbrev pub table_after : Table → At → List Token → Result Table LexError
table_after table hash [] = Ok table
table_after table hash (t ∷ ts) =
    if is_name (codes "define") t then definition table hash ts
    else (if is_name (codes "include") t && is_header ts then Ok table
    else Err (error.BadDirective hash))

-- the table after the directive of this line; a fault of a piece in it comes first
abbrev pub directive : Table → At → List Piece → Result Table LexError
directive table hash line = bind (tokens_in line) (table_after table hash)

-- THE WHOLE TEXT

-- the piece ends a line
abbrev pub is_line_end : Form → Bool
is_line_end form.Blank = false
is_line_end form.LineEnd = true
is_line_end form.Hash = false
is_line_end (form.Token kind) = false
is_line_end form.BadByte = false
is_line_end form.BadToken = false
is_line_end form.NotInProfile = false

-- the piece is a `#`
abbrev pub is_hash : Form → Bool
is_hash form.Blank = false
is_hash form.LineEnd = false
is_hash form.Hash = true
is_hash (form.Token kind) = false
is_hash form.BadByte = false
is_hash form.BadToken = false
is_hash form.NotInProfile = false

-- the line is a directive
abbrev pub begins_directive : List Piece → Bool
begins_directive [] = false
begins_directive (p ∷ ps) = is_hash p.form

-- a piece at the front of the first line
abbrev pub with_first : Piece → List (List Piece) → List (List Piece)
with_first p [] = (p ∷ []) ∷ []
with_first p (line ∷ lines) = (p ∷ line) ∷ lines

-- the pieces by their lines
abbrev pub lines_of : List Piece → List (List Piece)
lines_of [] = []
lines_of (p ∷ ps) = if is_line_end p.form then [] ∷ lines_of ps else with_first p (lines_of ps)

-- a reading that needs a table
abbrev pub with_table : Result Table LexError → (Table → Reading) → Reading
with_table (Ok table) rest = rest table
with_table (Err e) rest = only_fault e

-- the tokens of a line with their macros replaced
abbrev pub reading_with_macros : Table → Reading → Reading
reading_with_macros table line = record { tokens = tokens_with_macros table line.tokens; fault = line.fault }

-- the tokens of these lines, with these macros defined before them
abbrev pub reading : Table → List (List Piece) → Reading
reading table [] = nothing
reading table ([] ∷ lines) = reading table lines
reading table ((p ∷ ps) ∷ lines) =
    if is_hash p.form then with_table (directive table p.at ps) (λ next. reading next lines)
    else sequence (reading_with_macros table (line_reading (p ∷ ps))) (reading table lines)

-- THE ANSWER

-- how many tokens a text may have once its macros are replaced
abbrev pub max_tokens : ℕ
max_tokens = 100000

-- the answer, unless a token is past the limit
abbrev pub or_too_many : Option Token → Result (List Token) LexError → Result (List Token) LexError
or_too_many None answer = answer
or_too_many (Some t) answer = Err (error.TooMany t.at)

-- all tokens, or the first fault, which may be one token too many
abbrev pub answer : Reading → Result (List Token) LexError
answer r = or_too_many (slice_get r.tokens max_tokens) (or_fault r.fault r.tokens)

-- the tokens of a text, or its first error
unfoldable pub tokens_of : List ℕ → Result (List Token) LexError
tokens_of bs = answer (reading [] (lines_of (pieces_of bs)))

-- the error that a call answers is the definition's, unless memory ran out
abbrev pub Fails : {Y : Type 0} → LexError → Result Y LexError → Type 0
Fails (error.BadByte at) expected = expected ≡ Err (error.BadByte at)
Fails (error.BadToken at) expected = expected ≡ Err (error.BadToken at)
Fails (error.NotInProfile at) expected = expected ≡ Err (error.NotInProfile at)
Fails (error.BadDirective at) expected = expected ≡ Err (error.BadDirective at)
Fails (error.MacroOrder at) expected = expected ≡ Err (error.MacroOrder at)
Fails (error.Redefined at) expected = expected ≡ Err (error.Redefined at)
Fails (error.TooMany at) expected = expected ≡ Err (error.TooMany at)
Fails error.Memory expected = Unit {0}

-- a call's answer, seen by `view`, is what the definition gives, unless memory ran out
abbrev pub Gives : {X Y : Type 0} → (X → Y) → Result X LexError → Result Y LexError → Type 0
Gives view (Ok x) expected = expected ≡ Ok (view x)
Gives view (Err e) expected = Fails e expected
