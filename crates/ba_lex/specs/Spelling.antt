-- The keywords and punctuators of the language, by their spellings (C90 6.1.1, 6.1.5, 6.1.6).

use Rattle.std.specs.Prelude.{ℕ, Bool, List, [], ◌∷◌, Option, None, codes}
use Rattle.std.specs.List.{list_any}
use Rattle.std.specs.Map.{lookup}
use Rattle.std.specs.Str.{bytes_eq}
use Rattle.ba_tokens.specs.declared.token.Keyword.{Keyword}
use Rattle.ba_tokens.specs.declared.token.Keyword.TheVariants.{Char, Short, Int, Long, Signed, Unsigned, Void, Enum, Const, Static, If, Else, Switch, Case, Default, While, Do, For, Break, Continue, Return, Assert, Printf}
use Rattle.ba_tokens.specs.declared.token.Punct.{Punct}
use Rattle.ba_tokens.specs.declared.token.Punct.TheVariants.{OpenBrace, CloseBrace, OpenParenthesis, CloseParenthesis, OpenBracket, CloseBracket, Semicolon, Comma, Question, Colon, Tilde, Exclamation, Plus, Minus, Star, Slash, Percent, Ampersand, Bar, Caret, Assign, Less, Greater, Dot, Increment, Decrement, ShiftLeft, ShiftRight, LessEqual, GreaterEqual, Equal, NotEqual, AndAnd, OrOr, PlusAssign, MinusAssign, StarAssign, SlashAssign, PercentAssign, AmpersandAssign, CaretAssign, BarAssign, Arrow, ShiftLeftAssign, ShiftRightAssign, Ellipsis}

-- WORDS

-- the keywords of the profile
abbrev pub keywords : List (List ℕ × Keyword)
keywords =
    (codes "char", Char) ∷
    (codes "short", Short) ∷
    (codes "int", Int) ∷
    (codes "long", Long) ∷
    (codes "signed", Signed) ∷
    (codes "unsigned", Unsigned) ∷
    (codes "void", Void) ∷
    (codes "enum", Enum) ∷
    (codes "const", Const) ∷
    (codes "static", Static) ∷
    (codes "if", If) ∷
    (codes "else", Else) ∷
    (codes "switch", Switch) ∷
    (codes "case", Case) ∷
    (codes "default", Default) ∷
    (codes "while", While) ∷
    (codes "do", Do) ∷
    (codes "for", For) ∷
    (codes "break", Break) ∷
    (codes "continue", Continue) ∷
    (codes "return", Return) ∷
    (codes "assert", Assert) ∷
    (codes "printf", Printf) ∷
    []

-- the keyword of this spelling, if there is one
abbrev pub keyword_of : List ℕ → Option Keyword
keyword_of word = lookup (bytes_eq word) keywords

-- the words of C that this profile leaves out
abbrev pub refused_words : List (List ℕ)
refused_words =
    codes "auto" ∷
    codes "double" ∷
    codes "extern" ∷
    codes "float" ∷
    codes "goto" ∷
    codes "register" ∷
    codes "sizeof" ∷
    codes "struct" ∷
    codes "typedef" ∷
    codes "union" ∷
    codes "volatile" ∷
    []

-- the word is a keyword of C that the profile leaves out
abbrev pub is_refused : List ℕ → Bool
is_refused word = list_any (bytes_eq word) refused_words

-- PUNCTUATORS of one, two and three bytes

-- the punctuators of one byte
abbrev pub punctuators_of_one : List (List ℕ × Punct)
punctuators_of_one =
    (codes "{", OpenBrace) ∷
    (codes "}", CloseBrace) ∷
    (codes "(", OpenParenthesis) ∷
    (codes ")", CloseParenthesis) ∷
    (codes "[", OpenBracket) ∷
    (codes "]", CloseBracket) ∷
    (codes ";", Semicolon) ∷
    (codes ",", Comma) ∷
    (codes "?", Question) ∷
    (codes ":", Colon) ∷
    (codes "~", Tilde) ∷
    (codes "!", Exclamation) ∷
    (codes "+", Plus) ∷
    (codes "-", Minus) ∷
    (codes "*", Star) ∷
    (codes "/", Slash) ∷
    (codes "%", Percent) ∷
    (codes "&", Ampersand) ∷
    (codes "|", Bar) ∷
    (codes "^", Caret) ∷
    (codes "=", Assign) ∷
    (codes "<", Less) ∷
    (codes ">", Greater) ∷
    (codes ".", Dot) ∷
    []

-- the punctuators of two bytes
abbrev pub punctuators_of_two : List (List ℕ × Punct)
punctuators_of_two =
    (codes "++", Increment) ∷
    (codes "--", Decrement) ∷
    (codes "<<", ShiftLeft) ∷
    (codes ">>", ShiftRight) ∷
    (codes "<=", LessEqual) ∷
    (codes ">=", GreaterEqual) ∷
    (codes "==", Equal) ∷
    (codes "!=", NotEqual) ∷
    (codes "&&", AndAnd) ∷
    (codes "||", OrOr) ∷
    (codes "+=", PlusAssign) ∷
    (codes "-=", MinusAssign) ∷
    (codes "*=", StarAssign) ∷
    (codes "/=", SlashAssign) ∷
    (codes "%=", PercentAssign) ∷
    (codes "&=", AmpersandAssign) ∷
    (codes "^=", CaretAssign) ∷
    (codes "|=", BarAssign) ∷
    (codes "->", Arrow) ∷
    []

-- the punctuators of three bytes
abbrev pub punctuators_of_three : List (List ℕ × Punct)
punctuators_of_three =
    (codes "<<=", ShiftLeftAssign) ∷
    (codes ">>=", ShiftRightAssign) ∷
    (codes "...", Ellipsis) ∷
    []

-- the punctuator that this byte spells
abbrev pub one_byte : ℕ → Option Punct
one_byte a = lookup (bytes_eq (a ∷ [])) punctuators_of_one

-- the punctuator that these two bytes spell
abbrev pub two_bytes : ℕ → ℕ → Option Punct
two_bytes a b = lookup (bytes_eq (a ∷ b ∷ [])) punctuators_of_two

-- the punctuator that these three bytes spell
abbrev pub three_bytes : ℕ → ℕ → ℕ → Option Punct
three_bytes a b c = lookup (bytes_eq (a ∷ b ∷ c ∷ [])) punctuators_of_three

-- the punctuator of one, two or three bytes that a text begins with
abbrev pub in_one : List ℕ → Option Punct
in_one [] = None
in_one (a ∷ bs) = one_byte a

-- the punctuator that the first two bytes spell
abbrev pub in_two : List ℕ → Option Punct
in_two [] = None
in_two (a ∷ []) = None
in_two (a ∷ b ∷ bs) = two_bytes a b

-- the punctuator that the first three bytes spell
abbrev pub in_three : List ℕ → Option Punct
in_three [] = None
in_three (a ∷ []) = None
in_three (a ∷ b ∷ []) = None
in_three (a ∷ b ∷ c ∷ bs) = three_bytes a b c
