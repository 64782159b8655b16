-- A text cut into its pieces, each as long as it can be from its first byte on (C90 5.1.1.2, 6.1).

use Rattle.std.specs.Prelude.{ℕ, zero, suc, ◌+◌, ◌-◌, Bool, false, ◌==◌, ◌&&◌, not, if◌then◌else◌, List, [], ◌∷◌, length, take, drop, Option, None, Some, option_map}
use Rattle.std.specs.Char.{is_ascii_digit}
use Rattle.std.specs.List.{prefix_len}
use Rattle.ba_numbers.specs.declared.ids.At.{At}
use Rattle.ba_bytes.specs.Classes.{is_blank, is_letter, is_line_end, is_number_byte, is_word_byte}
use Rattle.ba_lex.specs.Constants.{begins_with, number_kind, character_kind}
use Rattle.ba_lex.specs.Spelling.{keyword_of, is_refused, in_one, in_two, in_three}
use Rattle.ba_tokens.specs.declared.token.Keyword.{Keyword}
use Rattle.ba_tokens.specs.declared.token.Punct.{Punct}
use Rattle.ba_tokens.specs.declared.token.TokenKind.{TokenKind}
use Rattle.ba_tokens.specs.declared.token.TokenKind.TheVariants as kind
use Rattle.ba_lex.specs.declared.piece.Form.{Form}
use Rattle.ba_lex.specs.declared.piece.Form.TheVariants.{Blank, LineEnd, Hash, Token, BadByte, BadToken, NotInProfile}
use Rattle.ba_lex.specs.declared.piece.Piece.{Piece}

-- PIECES: each with what it is, and how many bytes it has

-- a token of this kind, or a bad token without one
abbrev pub form_of : Option TokenKind → Form
form_of None = BadToken
form_of (Some kind) = Token kind

-- the keyword, or the name if it is none
abbrev pub name_or_keyword : List ℕ → Option Keyword → TokenKind
name_or_keyword w None = kind.Name w
name_or_keyword w (Some k) = kind.Keyword k

-- a word: a keyword, a word that the profile refuses, or a name
abbrev pub word_form : List ℕ → Form
word_form w = if is_refused w then NotInProfile else Token (name_or_keyword w (keyword_of w))

-- the word, and its length
abbrev pub word_at : List ℕ → Form × ℕ
word_at w = (word_form w, length w)

-- the number, and its length
abbrev pub number_at : List ℕ → Form × ℕ
number_at w = (form_of (number_kind w), length w)

-- How many bytes follow an opening quote, up to and with the closing one: the next such quote on the line
-- that no backslash escapes. The flag tells whether a backslash escapes the first byte.
abbrev pub after_quote : ℕ → Bool → List ℕ → Option ℕ
after_quote quote escaped [] = None
after_quote quote escaped (b ∷ bs) =
    if is_line_end b then None
    else (if (b == quote) && not escaped then Some 1
    else option_map (λ n. n + 1) (after_quote quote ((b == 92) && not escaped) bs))

-- a piece that never ends is unfinished
abbrev pub piece_or_unfinished : (ℕ → Form × ℕ) → Option ℕ → Form × ℕ
piece_or_unfinished piece None = (BadToken, 1)
piece_or_unfinished piece (Some n) = piece n

-- a character constant, by what follows its first quote
abbrev pub character_at : List ℕ → Form × ℕ
character_at bs = piece_or_unfinished (λ n. (form_of (character_kind (take (n - 1) bs)), n + 1)) (after_quote 39 false bs)

-- the string that begins with a quote, and its length
abbrev pub string_at : List ℕ → Form × ℕ
string_at bs = piece_or_unfinished (λ n. (Token kind.Quoted, n + 1)) (after_quote 34 false bs)

-- the text begins with */
abbrev pub is_comment_end : List ℕ → Bool
is_comment_end [] = false
is_comment_end (b ∷ bs) = (b == 42) && begins_with 47 bs

-- how many bytes follow the two that open a comment, up to and with the next */
abbrev pub after_open : List ℕ → Option ℕ
after_open [] = None
after_open (b ∷ bs) = if is_comment_end (b ∷ bs) then Some 2 else option_map (λ n. n + 1) (after_open bs)

-- a comment, by what follows the two bytes that open it; it counts as a blank
abbrev pub comment_at : List ℕ → Form × ℕ
comment_at bs = piece_or_unfinished (λ n. (Blank, n + 2)) (after_open bs)

-- the comment that ends before the line's end, by what follows its first slash
abbrev pub line_comment_at : List ℕ → Form × ℕ
line_comment_at bs = (Blank, prefix_len (λ b. not (is_line_end b)) bs + 1)

-- this punctuator of n bytes, or else the given piece
abbrev pub punctuator_or : Option Punct → ℕ → Form × ℕ → Form × ℕ
punctuator_or None n other = other
punctuator_or (Some p) n other = (Token (kind.Punct p), n)

-- the longest punctuator that the text begins with
abbrev pub punctuator_at : List ℕ → Form × ℕ
punctuator_at bs = punctuator_or (in_three bs) 3 (punctuator_or (in_two bs) 2 (punctuator_or (in_one bs) 1 (BadByte, 1)))

-- the piece that begins with b, which is no blank, letter or digit, and goes on in bs
abbrev pub mark_at : ℕ → List ℕ → Form × ℕ
mark_at b bs =
    if b == 39 then character_at bs
    else (if b == 34 then string_at bs
    else (if (b == 47) && begins_with 42 bs then comment_at (drop 1 bs)
    else (if (b == 47) && begins_with 47 bs then line_comment_at bs
    else punctuator_at (b ∷ bs))))

-- the piece that begins with b and goes on in bs
abbrev pub piece_at : ℕ → List ℕ → Form × ℕ
piece_at b bs =
    if is_line_end b then (LineEnd, 1)
    else (if is_blank b then (Blank, 1)
    else (if b == 35 then (Hash, 1)
    else (if is_letter b then word_at (b ∷ take (prefix_len is_word_byte bs) bs)
    else (if is_ascii_digit b then number_at (b ∷ take (prefix_len is_number_byte bs) bs)
    else mark_at b bs))))

-- the first piece of a text
unfoldable pub first_piece : List ℕ → Form × ℕ
first_piece [] = (Blank, 0)
first_piece (b ∷ bs) = piece_at b bs

-- THE CUT

-- the position of the byte after b, which is at this position
abbrev pub next_position : At → ℕ → At
next_position at b = if is_line_end b then record { line = at.line + 1; column = 1 } else record { line = at.line; column = at.column + 1 }

-- the position of the byte after these, the first of which is at this position
abbrev pub position_after : At → List ℕ → At
position_after at [] = at
position_after at (b ∷ bs) = position_after (next_position at b) bs

-- a piece and those that follow it; blanks are left out, and nothing is cut after a piece at fault
abbrev pub with_piece : Form → At → List Piece → List Piece
with_piece Blank at rest = rest
with_piece LineEnd at rest = record { form = LineEnd; at = at } ∷ rest
with_piece Hash at rest = record { form = Hash; at = at } ∷ rest
with_piece (Token kind) at rest = record { form = Token kind; at = at } ∷ rest
with_piece BadByte at rest = record { form = BadByte; at = at } ∷ []
with_piece BadToken at rest = record { form = BadToken; at = at } ∷ []
with_piece NotInProfile at rest = record { form = NotInProfile; at = at } ∷ []

-- The pieces of a text that begins at this position. Its first bytes, as many as the number tells, belong to
-- a piece that began before it.
abbrev pub cut : At → ℕ → List ℕ → List Piece
cut at left [] = []
cut at (suc left) (b ∷ bs) = cut (next_position at b) left bs
cut at zero (b ∷ bs) = with_piece (first_piece (b ∷ bs)).0 at (cut (next_position at b) ((first_piece (b ∷ bs)).1 - 1) bs)

-- the pieces of a whole text
abbrev pub pieces_of : List ℕ → List Piece
pieces_of bs = cut (record { line = 1; column = 1 }) 0 bs
