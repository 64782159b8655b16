-- The tree of a sample's tokens, written out.
use Rattle.std.proofs.Common.{◌≡◌, zero, suc, ℕ, ◌+◌, List, [], ◌∷◌, ◌++◌, length, codes, decimal, refl, ap}
use Rattle.ba_tokens.specs.declared.token.Keyword.TheVariants as keyword
use Rattle.ba_tokens.specs.declared.token.Punct.TheVariants as punct
use Rattle.ba_tokens.specs.declared.token.Token.{Token}
use Rattle.ba_tokens.specs.declared.token.TokenKind.TheVariants as kind
use Rattle.ba_trees.specs.Marks.{Mark, leaf, enter, leave, down, up, node_of, one_deeper}
use Rattle.ba_trees.specs.Marks as rule
use Rattle.ba_samples.proofs.Tokens.{token, name_kind, number_token}

-- an operand of one token; the expression that is this operand; a binary operator of a level between two
-- such operands
abbrev pub operand_marks : Token → List Mark
operand_marks t = node_of rule.unary (node_of rule.primary (leaf t ∷ []))

abbrev pub plain_marks : Token → List Mark
plain_marks t = node_of rule.conditional (operand_marks t)

abbrev pub chain_marks : ℕ → Token → Token → List Mark
chain_marks level op b = node_of (rule.chain level) (leaf op ∷ one_deeper (operand_marks b))

abbrev pub binary_marks : ℕ → Token → Token → Token → List Mark
binary_marks level a op b = node_of rule.conditional (operand_marks a ++ chain_marks level op b)

-- STATEMENTS

abbrev pub declaration_marks : Token → Token → Token → Token → Token → List Mark
declaration_marks int name assign value semicolon = node_of rule.declaration
    ((node_of rule.specifiers (leaf int ∷ [])
    ++ node_of rule.declarators (node_of rule.declarator (leaf name ∷ (leaf assign ∷ plain_marks value))))
    ++ leaf semicolon ∷ [])

abbrev pub assignment_marks : Token → Token → Token → Token → Token → Token → List Mark
assignment_marks name assign a op b semicolon = node_of rule.statement
    (node_of rule.simple (node_of rule.target (leaf name ∷ []) ++ (leaf assign ∷ binary_marks 2 a op b))
    ++ leaf semicolon ∷ [])

abbrev pub assert_marks : Token → Token → Token → Token → Token → Token → Token → List Mark
assert_marks keyword opener a op b closer semicolon = node_of rule.statement
    (leaf keyword
    ∷ ((leaf opener ∷ (one_deeper (binary_marks 5 a op b) ++ leaf closer ∷ [])) ++ leaf semicolon ∷ []))

abbrev pub return_marks : Token → Token → Token → List Mark
return_marks keyword value semicolon =
    node_of rule.statement (leaf keyword ∷ (plain_marks value ++ leaf semicolon ∷ []))

-- THOSE OF A SAMPLE

abbrev pub first_marks : List Mark
first_marks = declaration_marks (token 2 5 (kind.Keyword keyword.Int)) (token 2 9 name_kind)
    (token 2 11 (kind.Punct punct.Assign)) (token 2 13 (number_token 0))
    (token 2 14 (kind.Punct punct.Semicolon))

abbrev pub addition_marks : ℕ → List Mark
addition_marks line = assignment_marks (token line 5 name_kind) (token line 7 (kind.Punct punct.Assign))
    (token line 9 name_kind) (token line 11 (kind.Punct punct.Plus)) (token line 13 (number_token 1))
    (token line 14 (kind.Punct punct.Semicolon))

abbrev pub additions_marks : ℕ → ℕ → List Mark
additions_marks zero line = []
additions_marks (suc count) line = addition_marks line ++ additions_marks count (line + 1)

abbrev pub assertion_marks : ℕ → ℕ → ℕ → List Mark
assertion_marks line digits v = assert_marks (token line 5 (kind.Keyword keyword.Assert))
    (token line 11 (kind.Punct punct.OpenParenthesis)) (token line 12 name_kind)
    (token line 14 (kind.Punct punct.Equal)) (token line 17 (number_token v))
    (token line (17 + digits) (kind.Punct punct.CloseParenthesis))
    (token line (17 + digits + 1) (kind.Punct punct.Semicolon))

abbrev pub last_return_marks : ℕ → List Mark
last_return_marks line = return_marks (token line 5 (kind.Keyword keyword.Return))
    (token line 12 (number_token 0))
    (token line 13 (kind.Punct punct.Semicolon))

abbrev pub ending_marks : ℕ → ℕ → ℕ → List Mark
ending_marks line digits v = assertion_marks line digits v ++ last_return_marks (line + 1)

-- what the block of main holds
abbrev pub items_marks : ℕ → List Mark
items_marks n = first_marks
    ++ (additions_marks n 3 ++ ending_marks (3 + n) (length (decimal (n + 1))) (n + 1))

-- THE FILE around what its block holds, with its last token

abbrev pub void_marks : List Mark
void_marks = node_of rule.parameters (node_of rule.parameter
    (node_of rule.type_name (leaf (token 1 10 (kind.Keyword keyword.Void)) ∷ []) ++ node_of rule.no_name []))

abbrev pub block_marks : List Mark → Token → List Mark
block_marks items closer = node_of rule.block
    (leaf (token 1 16 (kind.Punct punct.OpenBrace)) ∷ (one_deeper items ++ leaf closer ∷ []))

abbrev pub function_marks : List Mark → Token → List Mark
function_marks items closer = node_of rule.external
    (node_of rule.specifiers (leaf (token 1 1 (kind.Keyword keyword.Int)) ∷ [])
    ++ (leaf (token 1 5 (kind.Name (codes "main")))
    ∷ (leaf (token 1 9 (kind.Punct punct.OpenParenthesis))
    ∷ (one_deeper void_marks
    ++ (leaf (token 1 14 (kind.Punct punct.CloseParenthesis)) ∷ block_marks items closer)))))

abbrev pub nested_marks : List Mark → Token → List Mark
nested_marks items closer = node_of rule.file (function_marks items closer ++ [])

-- the same as one row
abbrev pub opening_marks : List Mark
opening_marks =
    enter rule.file ∷ enter rule.external
    ∷ (node_of rule.specifiers (leaf (token 1 1 (kind.Keyword keyword.Int)) ∷ [])
    ++ (leaf (token 1 5 (kind.Name (codes "main")))
    ∷ leaf (token 1 9 (kind.Punct punct.OpenParenthesis))
    ∷ (one_deeper void_marks
    ++ (leaf (token 1 14 (kind.Punct punct.CloseParenthesis))
    ∷ enter rule.block ∷ leaf (token 1 16 (kind.Punct punct.OpenBrace)) ∷ down ∷ []))))

abbrev pub closing_marks : Token → List Mark
closing_marks closer = up ∷ leaf closer ∷ leave rule.block ∷ leave rule.external ∷ leave rule.file ∷ []

in_a_row : (items : List Mark) (closer : Token)
    → (((((items ++ up ∷ []) ++ leaf closer ∷ []) ++ leave rule.block ∷ []) ++ leave rule.external ∷ [])
    ++ [])
    ++ leave rule.file ∷ []
    ≡ items ++ closing_marks closer
in_a_row [] closer = refl
in_a_row (m ∷ items) closer = ap (λ ms. m ∷ ms) (in_a_row items closer)

pub one_row : (items : List Mark) (closer : Token)
    → nested_marks items closer ≡ opening_marks ++ (items ++ closing_marks closer)
one_row items closer = ap (λ ms. opening_marks ++ ms) (in_a_row items closer)

abbrev pub last_token : ℕ → Token
last_token line = token line 1 (kind.Punct punct.CloseBrace)

abbrev pub sample_marks : ℕ → List Mark
sample_marks n = nested_marks (items_marks n) (last_token (3 + n + 1 + 1))

-- what follows the additions
abbrev pub last_marks : ℕ → List Mark
last_marks n = ending_marks (3 + n) (length (decimal (n + 1))) (n + 1)
    ++ closing_marks (last_token (3 + n + 1 + 1))
