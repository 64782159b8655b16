-- The text of a sample has the sample's tokens.
use Rattle.std.proofs.Common.{◌≡◌, zero, suc, ℕ, ◌+◌, ◌≤◌, Option, None, Ok, List, [], ◌∷◌, ◌++◌, length, codes, decimal, refl, ◌∙◌, ap, append_assoc, arith}
use Rattle.std.specs.Prelude.{slice_get}
use Rattle.std.specs.List.{repeat}
use Rattle.ba_samples.specs.Text.{sample_text}
use Rattle.ba_lex.specs.Constants.{number_kind}
use Rattle.ba_lex.specs.Lines.{Reading, answer, lines_of, max_tokens, only_tokens, or_too_many, reading, sequence, tokens_of}
use Rattle.ba_lex.specs.Pieces.{cut, first_piece}
use Rattle.ba_lex.specs.declared.piece.Form.TheVariants as form
use Rattle.ba_lex.specs.declared.piece.Piece.{Piece}
use Rattle.ba_numbers.specs.declared.ids.At.{At}
use Rattle.ba_tokens.specs.declared.token.Keyword.TheVariants as keyword
use Rattle.ba_tokens.specs.declared.token.Punct.TheVariants as punct
use Rattle.ba_tokens.specs.declared.token.Token.{Token}
use Rattle.ba_tokens.specs.declared.token.TokenKind.{TokenKind}
use Rattle.ba_tokens.specs.declared.token.TokenKind.TheVariants as kind
use Rattle.ba_samples.proofs.Digits.{IsWritten, number_cut, written}
use Rattle.ba_samples.proofs.Tokens.{at, name_kind, number_token, head_tokens, addition_tokens, additions_tokens, end_tokens, last_tokens, sample_tokens, how_many}

abbrev head_text : List ℕ
head_text = codes "int main(void) {\n    int s = 0;\n"

abbrev addition_text : List ℕ
addition_text = codes "    s = s + 1;\n"

abbrev assertion_text : List ℕ
assertion_text = codes "    assert(s == "

abbrev last_text : List ℕ
last_text = codes ");\n    return 0;\n}\n"

-- what is read from a position on
abbrev read_at : At → List ℕ → Reading
read_at place bs = reading [] (lines_of (cut place 0 bs))

-- LINES whose ends are known

head_read : (rest : List ℕ)
    → read_at (at 1 1) (head_text ++ rest) ≡ sequence (only_tokens head_tokens) (read_at (at 3 1) rest)
unfolding first_piece number_kind
head_read [] = refl
head_read (b ∷ rest) = refl

addition_read : (line : ℕ) (rest : List ℕ) → read_at (at line 1) (addition_text ++ rest)
    ≡ sequence (only_tokens (addition_tokens line)) (read_at (at (line + 1) 1) rest)
unfolding first_piece number_kind
addition_read line [] = refl
addition_read line (b ∷ rest) = refl

additions_read : (count line : ℕ) (rest : List ℕ) → read_at (at line 1) (repeat count addition_text ++ rest)
    ≡ sequence (only_tokens (additions_tokens count line)) (read_at (at (line + count) 1) rest)
additions_read zero line rest = let same : line ≡ line + 0 = omega arith in
    ap (λ l. read_at (at l 1) rest) same
additions_read (suc count) line rest =
    let same : line + 1 + count ≡ line + suc count = omega arith in
    addition_read line (repeat count addition_text ++ rest)
    ∙ ap (sequence (only_tokens (addition_tokens line))) (additions_read count (line + 1) rest)
    ∙ ap (λ l. sequence (only_tokens (additions_tokens (suc count) line)) (read_at (at l 1) rest)) same

-- THE LAST LINES

abbrev piece : ℕ → ℕ → TokenKind → Piece
piece line column kind = record { form = form.Token kind; at = at line column }

assertion_cut : (line : ℕ) (rest : List ℕ) → cut (at line 1) 0 (assertion_text ++ rest)
    ≡ piece line 5 (kind.Keyword keyword.Assert)
    ∷ piece line 11 (kind.Punct punct.OpenParenthesis)
    ∷ piece line 12 name_kind
    ∷ piece line 14 (kind.Punct punct.Equal)
    ∷ cut (at line 17) 0 rest
unfolding first_piece
assertion_cut line rest = refl

abbrev ended_by : ℕ → List Piece → Reading
ended_by line ps = reading [] (lines_of (piece line 5 (kind.Keyword keyword.Assert)
    ∷ piece line 11 (kind.Punct punct.OpenParenthesis)
    ∷ piece line 12 name_kind
    ∷ piece line 14 (kind.Punct punct.Equal)
    ∷ ps))

last_read : (line digits v : ℕ)
    → ended_by line (piece line 17 (number_token v) ∷ cut (at line (17 + digits)) 0 last_text)
    ≡ only_tokens (end_tokens line digits v)
unfolding first_piece number_kind
last_read line digits v = refl

end_read : (line v : ℕ) (ds : List ℕ) → IsWritten ds v → v ≤ 2147483647
    → read_at (at line 1) (assertion_text ++ (ds ++ last_text)) ≡ only_tokens (end_tokens line (length ds) v)
end_read line v ds is small =
    ap (λ ps. reading [] (lines_of ps)) (assertion_cut line (ds ++ last_text))
    ∙ ap (ended_by line) (number_cut ds v is small last_text refl line 17)
    ∙ last_read line (length ds) v

-- THE WHOLE TEXT

parts_of : (n : ℕ) → sample_text n
    ≡ head_text ++ (repeat n addition_text ++ (assertion_text ++ (decimal (n + 1) ++ last_text)))
parts_of n = ap (λ rest. head_text ++ rest)
    (append_assoc (repeat n addition_text ++ assertion_text) (decimal (n + 1)) last_text
    ∙ append_assoc (repeat n addition_text) assertion_text (decimal (n + 1) ++ last_text))

all_read : (n : ℕ) → n ≤ 2147483646 → read_at (at 1 1) (sample_text n) ≡ only_tokens (sample_tokens n)
all_read n small = ap (read_at (at 1 1)) (parts_of n)
    ∙ head_read (repeat n addition_text ++ (assertion_text ++ (decimal (n + 1) ++ last_text)))
    ∙ ap (sequence (only_tokens head_tokens))
    (additions_read n 3 (assertion_text ++ (decimal (n + 1) ++ last_text))
    ∙ ap (sequence (only_tokens (additions_tokens n 3)))
    (end_read (3 + n) (n + 1) (decimal (n + 1)) (written (n + 1) (omega arith) (omega arith)) (omega arith)))

none_past : (ts : List Token) (k : ℕ) → length ts ≤ k → slice_get ts k ≡ None
none_past [] k low = refl
none_past (t ∷ ts) zero low = absurd (omega arith)
none_past (t ∷ ts) (suc k) low = none_past ts k (omega arith)

pub lexed : (n : ℕ) → n ≤ 3997 → tokens_of (sample_text n) ≡ Ok (sample_tokens n)
unfolding tokens_of
lexed n small =
    let count = how_many n 3 (last_tokens n) in
    let few : length (sample_tokens n) ≤ max_tokens = omega arith in
    ap answer (all_read n (omega arith))
    ∙ ap (λ (past : Option Token). or_too_many past (Ok (sample_tokens n)))
    (none_past (sample_tokens n) max_tokens few)
