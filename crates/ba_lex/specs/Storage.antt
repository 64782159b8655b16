-- How the table of macros is stored: a map from names to bodies, and the set of the names in bodies.

use Rattle.std.specs.Prelude.{◌≡◌, ℕ, Bool, true, List, map}
use Rattle.std.specs.List.{list_any}
use Rattle.std.specs.Str.{bytes_eq}
use Rattle.std.specs.Prelude.{Vec}
use Rattle.std.specs.declared.alloc.Global.{Global}
use Rattle.ba_lex.specs.Lines.{Table, Reading, is_in_body, sequence, only_tokens, reading_with_macros, line_reading}
use Rattle.ba_lex.specs.declared.piece.Piece.{Piece}
use Rattle.ba_tokens.specs.declared.token.Token.{Token}
use Rattle.ba_tokens.specs.declared.token.TokenKind.{TokenKind}

-- a name's bytes, and a macro
abbrev pub Key : Type 0
Key = Vec ℕ Global

-- the table that stored entries hold
abbrev pub table_of : List (Key × List TokenKind) → Table
table_of entries = map (λ e. (e.0.items, e.1)) entries

-- one of the keys has these bytes
abbrev pub is_among : List ℕ → List Key → Bool
is_among name keys = list_any (λ k. bytes_eq name k.items) keys

-- the name is in a body of the table
abbrev pub is_mentioned : List ℕ → Table → Bool
is_mentioned name table = list_any (λ m. is_in_body name m.1) table

-- the keys are the names that are in bodies
abbrev pub AreMentioned : List Key → Table → Type 0
AreMentioned keys table = (name : List ℕ) → is_among name keys ≡ is_mentioned name table

-- the names that are in bodies are among the keys
abbrev pub HaveNamesOf : List Key → Table → Type 0
HaveNamesOf keys table = (name : List ℕ) → is_mentioned name table ≡ true → is_among name keys ≡ true

-- the tokens so far, and after them those of a line of the program
abbrev pub reading_so_far : Table → List Token → List Piece → Reading
reading_so_far table out line = sequence (only_tokens out) (reading_with_macros table (line_reading line))
