-- The tokens of a sample's text.
use Rattle.std.proofs.Common.{◌≡◌, zero, suc, ℕ, ◌+◌, ◌*◌, pos, List, [], ◌∷◌, ◌++◌, length, codes, decimal, arith}
use Rattle.ba_numbers.specs.declared.ids.At.{At}
use Rattle.ba_numbers.specs.declared.numbers.CType.TheVariants.{I32}
use Rattle.ba_tokens.specs.declared.token.Keyword.TheVariants as keyword
use Rattle.ba_tokens.specs.declared.token.Punct.TheVariants as punct
use Rattle.ba_tokens.specs.declared.token.Token.{Token}
use Rattle.ba_tokens.specs.declared.token.TokenKind.{TokenKind}
use Rattle.ba_tokens.specs.declared.token.TokenKind.TheVariants as kind

abbrev pub at : ℕ → ℕ → At
at line column = record { line = line; column = column }

abbrev pub token : ℕ → ℕ → TokenKind → Token
token line column kind = record { kind = kind; at = at line column }

-- the variable's name, and a constant of this value
abbrev pub name_kind : TokenKind
name_kind = kind.Name (codes "s")

abbrev pub number_token : ℕ → TokenKind
number_token v = kind.Constant I32 (pos v)

-- the first two lines, an addition on this line, and the last three lines from this one on
abbrev pub head_tokens : List Token
head_tokens =
    token 1 1 (kind.Keyword keyword.Int)
    ∷ token 1 5 (kind.Name (codes "main"))
    ∷ token 1 9 (kind.Punct punct.OpenParenthesis)
    ∷ token 1 10 (kind.Keyword keyword.Void)
    ∷ token 1 14 (kind.Punct punct.CloseParenthesis)
    ∷ token 1 16 (kind.Punct punct.OpenBrace)
    ∷ token 2 5 (kind.Keyword keyword.Int)
    ∷ token 2 9 name_kind
    ∷ token 2 11 (kind.Punct punct.Assign)
    ∷ token 2 13 (number_token 0)
    ∷ token 2 14 (kind.Punct punct.Semicolon)
    ∷ []

abbrev pub addition_tokens : ℕ → List Token
addition_tokens line =
    token line 5 name_kind
    ∷ token line 7 (kind.Punct punct.Assign)
    ∷ token line 9 name_kind
    ∷ token line 11 (kind.Punct punct.Plus)
    ∷ token line 13 (number_token 1)
    ∷ token line 14 (kind.Punct punct.Semicolon)
    ∷ []

-- the number of this value has so many digits
abbrev pub end_tokens : ℕ → ℕ → ℕ → List Token
end_tokens line digits v =
    token line 5 (kind.Keyword keyword.Assert)
    ∷ token line 11 (kind.Punct punct.OpenParenthesis)
    ∷ token line 12 name_kind
    ∷ token line 14 (kind.Punct punct.Equal)
    ∷ token line 17 (number_token v)
    ∷ token line (17 + digits) (kind.Punct punct.CloseParenthesis)
    ∷ token line (17 + digits + 1) (kind.Punct punct.Semicolon)
    ∷ token (line + 1) 5 (kind.Keyword keyword.Return)
    ∷ token (line + 1) 12 (number_token 0)
    ∷ token (line + 1) 13 (kind.Punct punct.Semicolon)
    ∷ token (line + 1 + 1) 1 (kind.Punct punct.CloseBrace)
    ∷ []

-- so many additions from this line on
abbrev pub additions_tokens : ℕ → ℕ → List Token
additions_tokens zero line = []
additions_tokens (suc count) line = addition_tokens line ++ additions_tokens count (line + 1)

abbrev pub last_tokens : ℕ → List Token
last_tokens n = end_tokens (3 + n) (length (decimal (n + 1))) (n + 1)

abbrev pub sample_tokens : ℕ → List Token
sample_tokens n = head_tokens ++ (additions_tokens n 3 ++ last_tokens n)

pub how_many : (count line : ℕ) (rest : List Token)
    → length (additions_tokens count line ++ rest) ≡ 6 * count + length rest
how_many zero line rest = omega arith
how_many (suc count) line rest = omega (arith, how_many count (line + 1) rest)
