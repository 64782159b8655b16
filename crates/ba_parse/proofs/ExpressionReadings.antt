-- Expressions: their readings keep what readings promise, if those of what counts a level do.

use Rattle.std.proofs.Common.{◌≡◌, ℕ, zero, suc, true, false, not, ◌&&◌, ◌||◌, List, [], ◌∷◌, ◌++◌, Some, refl, ap, ◌∙◌, inl, inr}
use Rattle.ba_tokens.specs.declared.token.Token.{Token}
use Rattle.ba_tokens.specs.declared.token.TokenKind.{TokenKind}
use Rattle.ba_tokens.specs.declared.token.TokenKind.TheVariants as kind
use Rattle.ba_tokens.specs.declared.token.Keyword.{Keyword}
use Rattle.ba_tokens.specs.declared.token.Punct.{Punct}
use Rattle.ba_tokens.specs.declared.token.Punct.TheVariants as punct
use Rattle.ba_numbers.specs.declared.numbers.CType.TheVariants.{I32}
use Rattle.std.specs.Prelude.{pos}
use Rattle.ba_trees.specs.declared.class.TokenClass.{TokenClass}
use Rattle.ba_trees.specs.declared.class.TokenClass.TheVariants as class
use Rattle.ba_trees.specs.Classes.{Classes, class_of, only, word, mark, ◌or◌, declaration_word}
use Rattle.ba_trees.specs.Marks.{Mark, yield, is_else, enumerator, parameters, declaration, statement, group, for_first, simples, arguments, conditional, chain, unary, primary}
use Rattle.ba_parse.specs.Grammar.{Part, Spells, token, rule, many, deeper, grammar, ◌·◌, ◌∣◌, maybe, key, sign, name, in_parentheses, in_brackets, type_words, prefix_sign, operator, operand, chained, expression, semicolon}
use Rattle.ba_parse.specs.Readings.{Reading, Inner, Inside, in_parameters, in_length, in_enumerators, in_block, in_statement, in_groups, in_for, in_printf, in_expression, in_arguments, in_cast, in_unary, in_chained, deeper_in, read_sign, read_key, read_name, read_token, next_is, ◌▹◌, operand_start, statement_start, label_start, item_start, simple_start, read_parenthesized, read_bracketed, after_name, read_primary, is_cast, read_unary, read_chain, read_operand, read_branches, read_expression, read_arguments, read_either}
use Rattle.ba_parse.proofs.Forests.{yield_node}
use Rattle.ba_parse.proofs.Certified.{Opened, opened}
use Rattle.ba_parse.proofs.Combined.{none, Example}
use Rattle.ba_parse.proofs.Goods.{Good, good_token, good_then, good_skip, good_either, good_maybe, good_many, good_rule, may_follow}
use Rattle.ba_parse.proofs.Tables.{lies_in}
use Rattle.ba_parse.proofs.Lookahead.{two, Takes, takes_token, takes_then, takes_node, takes_second, second_token_then, second_of_first, picks_true, two_other, picks_false, good_ahead}

-- TOKENS of each class

abbrev kind_of : TokenClass → TokenKind
kind_of class.Name = kind.Name (120 ∷ [])
kind_of class.Constant = kind.Constant I32 (pos 1)
kind_of class.Quoted = kind.Quoted
kind_of (class.Keyword k) = kind.Keyword k
kind_of (class.Punct q) = kind.Punct q

abbrev pub token_of : TokenClass → Token
token_of c = record { kind = kind_of c; at = record { line = 1; column = 1 } }

abbrev pub example : (classes : Classes) (c : TokenClass) → classes (class_of (token_of c)) ≡ true →
    is_else (Some (token_of c)) ≡ false → Example classes
example classes c h e = record { one = token_of c; is_one = h; calm = e }

pub good_sign : (n : ℕ) (q : Punct) → mark q (class.Punct q) ≡ true →
    is_else (Some (token_of (class.Punct q))) ≡ false →
    Good n (sign q) (mark q) false none (read_sign q)
good_sign n q h e = good_token n (mark q) (example (mark q) (class.Punct q) h e)

pub good_key : (n : ℕ) (k : Keyword) → word k (class.Keyword k) ≡ true →
    is_else (Some (token_of (class.Keyword k))) ≡ false →
    Good n (key k) (word k) false none (read_key k)
good_key n k h e = good_token n (word k) (example (word k) (class.Keyword k) h e)

pub good_name : (n : ℕ) → Good n name (only class.Name) false none read_name
good_name n = good_token n (only class.Name) (example (only class.Name) class.Name refl refl)

-- WHAT MAY GO ON

-- with a name, and with an operand of operators up to a level
abbrev pub after_a_name : Classes
after_a_name = mark punct.OpenBracket or mark punct.OpenParenthesis

abbrev pub up_to : ℕ → Classes
up_to zero c = after_a_name c
up_to (suc n) c = up_to n c || operator (suc n) c

-- what ends an expression; every other token may go on with one
abbrev pub ends_expression : Classes
ends_expression =
    mark punct.CloseParenthesis or mark punct.CloseBracket or mark punct.CloseBrace or mark punct.Semicolon or
    mark punct.Comma or mark punct.Colon

abbrev pub in_expression_goes : Classes
in_expression_goes c = not (ends_expression c)

-- what closes parentheses and brackets
abbrev pub but_closing : Classes
but_closing c = not (mark punct.CloseParenthesis c || mark punct.CloseBracket c)

abbrev pub but_parenthesis : Classes
but_parenthesis c = not (mark punct.CloseParenthesis c)

abbrev pub but_brace : Classes
but_brace c = not (mark punct.CloseBrace c)

-- WHAT COUNTS A LEVEL, if n more may be around

abbrev pub for_start : Classes
for_start = declaration_word false or simple_start or mark punct.Semicolon

abbrev pub for_head : Part
for_head = rule for_first · semicolon · maybe expression · semicolon · maybe (rule simples)

abbrev pub printed : Part
printed = token (only class.Quoted) · many (token (only class.Quoted)) · many (sign punct.Comma · expression)

abbrev pub enumerator_list : Part
enumerator_list = rule enumerator · many (sign punct.Comma · rule enumerator) · maybe (sign punct.Comma)

pub record Below (n : ℕ) (inner : Inner) : Type 0 where
  pub below_expression : Good n (deeper expression) operand_start false in_expression_goes
      (deeper_in inner in_expression)
  pub below_arguments : Good n (deeper (rule arguments)) operand_start true but_closing
      (deeper_in inner in_arguments)
  pub below_cast : Good n (deeper type_words) (declaration_word false) false but_closing
      (deeper_in inner in_cast)
  pub below_unary : Good n (deeper (rule unary)) operand_start false after_a_name (deeper_in inner in_unary)
  pub below_chained1 : Good n (deeper (chained 1)) operand_start false (up_to 1)
      (deeper_in inner (in_chained 1))
  pub below_chained2 : Good n (deeper (chained 2)) operand_start false (up_to 2)
      (deeper_in inner (in_chained 2))
  pub below_chained3 : Good n (deeper (chained 3)) operand_start false (up_to 3)
      (deeper_in inner (in_chained 3))
  pub below_chained4 : Good n (deeper (chained 4)) operand_start false (up_to 4)
      (deeper_in inner (in_chained 4))
  pub below_chained5 : Good n (deeper (chained 5)) operand_start false (up_to 5)
      (deeper_in inner (in_chained 5))
  pub below_chained6 : Good n (deeper (chained 6)) operand_start false (up_to 6)
      (deeper_in inner (in_chained 6))
  pub below_chained7 : Good n (deeper (chained 7)) operand_start false (up_to 7)
      (deeper_in inner (in_chained 7))
  pub below_chained8 : Good n (deeper (chained 8)) operand_start false (up_to 8)
      (deeper_in inner (in_chained 8))
  pub below_chained9 : Good n (deeper (chained 9)) operand_start false (up_to 9)
      (deeper_in inner (in_chained 9))
  pub below_chained10 : Good n (deeper (chained 10)) operand_start false (up_to 10)
      (deeper_in inner (in_chained 10))
  pub below_parameters : Good n (deeper (rule parameters)) (declaration_word false) true but_closing
      (deeper_in inner in_parameters)
  pub below_length : Good n (deeper (maybe expression)) operand_start true but_closing
      (deeper_in inner in_length)
  pub below_enumerators : Good n (deeper enumerator_list) (only class.Name) false but_brace
      (deeper_in inner in_enumerators)
  pub below_block : Good n (deeper (many (rule declaration ∣ rule statement))) item_start true but_brace
      (deeper_in inner in_block)
  pub below_statement : Good n (deeper (rule statement)) statement_start false none
      (deeper_in inner in_statement)
  pub below_groups : Good n (deeper (many (rule group))) label_start true but_brace
      (deeper_in inner in_groups)
  pub below_for : Good n (deeper for_head) for_start false but_parenthesis (deeper_in inner in_for)
  pub below_printf : Good n (deeper printed) (only class.Quoted) false but_closing (deeper_in inner in_printf)

-- between parentheses, or brackets, what is never empty, and what may be
pub parenthesized : {n : ℕ} {a : Part} {starts goes : Classes} → (inner : Inner) (i : Inside) →
    Good n (deeper a) starts false goes (deeper_in inner i) →
    may_follow goes (mark punct.CloseParenthesis) false none none ≡ true → may_follow none starts false none
    none ≡ true →
    Good n (in_parentheses a) (mark punct.OpenParenthesis) false none (read_parenthesized inner i)
parenthesized {n} inner i p h k =
    good_then none (good_sign n punct.OpenParenthesis refl refl)
    (good_then none p (good_sign n punct.CloseParenthesis refl refl) h) k

pub parenthesized_or_empty : {n : ℕ} {a : Part} {starts goes : Classes} → (inner : Inner) (i : Inside) →
    (more : Classes) → Good n (deeper a) starts true goes (deeper_in inner i) →
    may_follow goes (mark punct.CloseParenthesis) false none none ≡ true →
    (lies_in starts more && lies_in (mark punct.CloseParenthesis) more) ≡ true →
    may_follow none more false none none ≡ true → Good n (in_parentheses a) (mark punct.OpenParenthesis) false
    none (read_parenthesized inner i)
parenthesized_or_empty {n} inner i more p h l k =
    good_then none (good_sign n punct.OpenParenthesis refl refl)
    (good_skip more none p (good_sign n punct.CloseParenthesis refl refl) h l) k

pub bracketed : {n : ℕ} {a : Part} {starts goes : Classes} → (inner : Inner) (i : Inside) →
    Good n (deeper a) starts false goes (deeper_in inner i) →
    may_follow goes (mark punct.CloseBracket) false none none ≡ true → may_follow none starts false none none
    ≡ true →
    Good n (in_brackets a) (mark punct.OpenBracket) false none (read_bracketed inner i)
bracketed {n} inner i p h k =
    good_then none (good_sign n punct.OpenBracket refl refl)
    (good_then none p (good_sign n punct.CloseBracket refl refl) h) k

pub bracketed_or_empty : {n : ℕ} {a : Part} {starts goes : Classes} → (inner : Inner) (i : Inside) →
    (more : Classes) → Good n (deeper a) starts true goes (deeper_in inner i) →
    may_follow goes (mark punct.CloseBracket) false none none ≡ true →
    (lies_in starts more && lies_in (mark punct.CloseBracket) more) ≡ true →
    may_follow none more false none none ≡ true → Good n (in_brackets a) (mark punct.OpenBracket) false none
    (read_bracketed inner i)
bracketed_or_empty {n} inner i more p h l k =
    good_then none (good_sign n punct.OpenBracket refl refl)
    (good_skip more none p (good_sign n punct.CloseBracket refl refl) h l) k

module _ (n : ℕ) (inner : Inner) (b : Below n inner) where
  pub expression_in_parentheses : Good n (in_parentheses expression) (mark punct.OpenParenthesis) false none
      (read_parenthesized inner in_expression)
  expression_in_parentheses = parenthesized inner in_expression b.below_expression refl refl

  pub expression_in_brackets : Good n (in_brackets expression) (mark punct.OpenBracket) false none
      (read_bracketed inner in_expression)
  expression_in_brackets = bracketed inner in_expression b.below_expression refl refl

  pub arguments_in_parentheses : Good n (in_parentheses (rule arguments)) (mark punct.OpenParenthesis) false
      none (read_parenthesized inner in_arguments)
  arguments_in_parentheses = parenthesized_or_empty inner in_arguments
      (operand_start or mark punct.CloseParenthesis) b.below_arguments refl refl refl

  good_name_part : Good n (name · (in_brackets expression ∣ maybe (in_parentheses (rule arguments))))
      (only class.Name) false after_a_name (read_name ▹ after_name inner)
  good_name_part =
      good_then after_a_name (good_name n)
      (good_either (mark punct.OpenBracket) after_a_name after_a_name expression_in_brackets
      (good_maybe (mark punct.OpenParenthesis) (mark punct.OpenParenthesis) arguments_in_parentheses refl
      refl) refl refl)
      refl

  abbrev primary_start : Classes
  primary_start = only class.Name or only class.Constant or mark punct.OpenParenthesis

  pub good_primary : Good n (rule primary) primary_start false after_a_name (read_primary inner)
  good_primary =
      good_rule primary refl
      (good_either (only class.Name) primary_start after_a_name good_name_part
      (good_either (only class.Constant) (only class.Constant or mark punct.OpenParenthesis) none
      (good_token n (only class.Constant) (example (only class.Constant) class.Constant refl refl))
      expression_in_parentheses refl refl)
      refl refl)

  abbrev constant_or_parentheses : Reading
  constant_or_parentheses = read_either (next_is (only class.Constant)) (read_token (only class.Constant))
      (read_parenthesized inner in_expression)

  takes_parenthesis : Takes (mark punct.OpenParenthesis) (read_primary inner)
  takes_parenthesis =
      takes_node (mark punct.OpenParenthesis) primary (read_either (next_is (only class.Name))
      (read_name ▹ after_name inner) constant_or_parentheses)
      (takes_second (mark punct.OpenParenthesis) (only class.Name) (read_name ▹ after_name inner)
      constant_or_parentheses refl
      (takes_second (mark punct.OpenParenthesis) (only class.Constant) (read_token (only class.Constant))
      (read_parenthesized inner in_expression) refl
      (takes_then (mark punct.OpenParenthesis) (read_sign punct.OpenParenthesis)
      (takes_token (mark punct.OpenParenthesis))
      (good_then none b.below_expression (good_sign n punct.CloseParenthesis refl refl) refl))))

  -- no primary expression looks like a cast
  no_cast_part : (f : List Mark) (rest : List Token) → Spells (grammar primary) f →
      two (mark punct.OpenParenthesis) (declaration_word false) (yield f ++ rest) ≡ false
  no_cast_part f rest u = here (opened u)
    where
      deep : (g : List Mark) → Spells (token (only class.Constant) ∣ in_parentheses expression) g →
          Opened (token (only class.Constant) ∣ in_parentheses expression) g →
          two (mark punct.OpenParenthesis) (declaration_word false) (yield g ++ rest) ≡ false
      deep g v (inl w) =
          two_other (mark punct.OpenParenthesis) (declaration_word false) (only class.Constant) refl (yield g)
          rest
          ((good_token n (only class.Constant) (example (only class.Constant) class.Constant refl
          refl)).first.begins g w)
      deep g v (inr w) =
          picks_false (mark punct.OpenParenthesis) (declaration_word false) (expression_in_parentheses.first)
          (second_token_then (mark punct.OpenParenthesis)
          ((good_then none b.below_expression (good_sign n punct.CloseParenthesis refl refl) refl).first))
          refl g rest w

      here : Opened (grammar primary) f → two (mark punct.OpenParenthesis) (declaration_word false)
          (yield f ++ rest) ≡ false
      here (inl w) = two_other (mark punct.OpenParenthesis) (declaration_word false) (only class.Name) refl
          (yield f) rest (good_name_part.first.begins f w)
      here (inr w) = deep f w (opened w)

  no_cast : (f : List Mark) (rest : List Token) → Spells (rule primary) f → two (mark punct.OpenParenthesis)
      (declaration_word false) (yield f ++ rest) ≡ false
  no_cast f rest u =
      let o : Opened (rule primary) f = opened u in
      ap (λ x. two (mark punct.OpenParenthesis) (declaration_word false) (x ++ rest)) (ap yield o.2
      ∙ yield_node primary o.0) ∙ no_cast_part o.0 rest o.1

  cast_in_parentheses : Good n (in_parentheses type_words) (mark punct.OpenParenthesis) false none
      (read_parenthesized inner in_cast)
  cast_in_parentheses = parenthesized inner in_cast b.below_cast refl refl

  good_cast : Good n (in_parentheses type_words · deeper (rule unary)) (mark punct.OpenParenthesis)
      false after_a_name
      (read_parenthesized inner in_cast ▹ deeper_in inner in_unary)
  good_cast = good_then after_a_name cast_in_parentheses b.below_unary refl

  is_cast_two : (ts : List Token) → is_cast ts ≡ two (mark punct.OpenParenthesis) (declaration_word false) ts
  is_cast_two [] = refl
  is_cast_two (t ∷ ts) = refl

  pub good_unary : Good n (rule unary) operand_start false after_a_name (read_unary inner)
  good_unary =
      good_rule unary refl
      (good_either prefix_sign operand_start after_a_name
      (good_then after_a_name (good_token n prefix_sign (example prefix_sign (class.Punct punct.Plus) refl
      refl)) b.below_unary refl)
      (good_ahead is_cast (mark punct.OpenParenthesis) (declaration_word false) primary_start after_a_name
      is_cast_two good_cast good_primary
      (takes_then (mark punct.OpenParenthesis) (read_parenthesized inner in_cast)
      (takes_then (mark punct.OpenParenthesis) (read_sign punct.OpenParenthesis)
      (takes_token (mark punct.OpenParenthesis))
      (good_then none b.below_cast (good_sign n punct.CloseParenthesis refl refl) refl))
      b.below_unary)
      takes_parenthesis
      (picks_true (mark punct.OpenParenthesis) (declaration_word false) (good_cast.first)
      (second_of_first (cast_in_parentheses.first)
      (second_token_then (mark punct.OpenParenthesis)
      ((good_then none b.below_cast (good_sign n punct.CloseParenthesis refl refl) refl).first)))
      refl)
      no_cast refl refl)
      refl refl)

  good_chain1 : Good n (rule (chain 1)) (operator 1) false (up_to 1) (read_chain inner 1)
  good_chain1 =
      good_rule (chain 1) refl
      (good_then (up_to 1) (good_token n (operator 1) (example (operator 1) (class.Punct punct.Star) refl
      refl)) b.below_chained1 refl)

  pub good_operand1 : Good n (operand 1) operand_start false (up_to 1) (read_operand inner 1)
  good_operand1 = good_then (up_to 1) good_unary (good_maybe (operator 1) (up_to 1) good_chain1 refl refl)
      refl

  good_chain2 : Good n (rule (chain 2)) (operator 2) false (up_to 2) (read_chain inner 2)
  good_chain2 =
      good_rule (chain 2) refl
      (good_then (up_to 2) (good_token n (operator 2) (example (operator 2) (class.Punct punct.Plus) refl
      refl)) b.below_chained2 refl)

  pub good_operand2 : Good n (operand 2) operand_start false (up_to 2) (read_operand inner 2)
  good_operand2 = good_then (up_to 2) good_operand1 (good_maybe (operator 2) (up_to 2) good_chain2 refl refl)
      refl

  good_chain3 : Good n (rule (chain 3)) (operator 3) false (up_to 3) (read_chain inner 3)
  good_chain3 =
      good_rule (chain 3) refl
      (good_then (up_to 3) (good_token n (operator 3) (example (operator 3) (class.Punct punct.ShiftLeft) refl
      refl)) b.below_chained3 refl)

  pub good_operand3 : Good n (operand 3) operand_start false (up_to 3) (read_operand inner 3)
  good_operand3 = good_then (up_to 3) good_operand2 (good_maybe (operator 3) (up_to 3) good_chain3 refl refl)
      refl

  good_chain4 : Good n (rule (chain 4)) (operator 4) false (up_to 4) (read_chain inner 4)
  good_chain4 =
      good_rule (chain 4) refl
      (good_then (up_to 4) (good_token n (operator 4) (example (operator 4) (class.Punct punct.Less) refl
      refl)) b.below_chained4 refl)

  pub good_operand4 : Good n (operand 4) operand_start false (up_to 4) (read_operand inner 4)
  good_operand4 = good_then (up_to 4) good_operand3 (good_maybe (operator 4) (up_to 4) good_chain4 refl refl)
      refl

  good_chain5 : Good n (rule (chain 5)) (operator 5) false (up_to 5) (read_chain inner 5)
  good_chain5 =
      good_rule (chain 5) refl
      (good_then (up_to 5) (good_token n (operator 5) (example (operator 5) (class.Punct punct.Equal) refl
      refl)) b.below_chained5 refl)

  pub good_operand5 : Good n (operand 5) operand_start false (up_to 5) (read_operand inner 5)
  good_operand5 = good_then (up_to 5) good_operand4 (good_maybe (operator 5) (up_to 5) good_chain5 refl refl)
      refl

  good_chain6 : Good n (rule (chain 6)) (operator 6) false (up_to 6) (read_chain inner 6)
  good_chain6 =
      good_rule (chain 6) refl
      (good_then (up_to 6) (good_token n (operator 6) (example (operator 6) (class.Punct punct.Ampersand) refl
      refl)) b.below_chained6 refl)

  pub good_operand6 : Good n (operand 6) operand_start false (up_to 6) (read_operand inner 6)
  good_operand6 = good_then (up_to 6) good_operand5 (good_maybe (operator 6) (up_to 6) good_chain6 refl refl)
      refl

  good_chain7 : Good n (rule (chain 7)) (operator 7) false (up_to 7) (read_chain inner 7)
  good_chain7 =
      good_rule (chain 7) refl
      (good_then (up_to 7) (good_token n (operator 7) (example (operator 7) (class.Punct punct.Caret) refl
      refl)) b.below_chained7 refl)

  pub good_operand7 : Good n (operand 7) operand_start false (up_to 7) (read_operand inner 7)
  good_operand7 = good_then (up_to 7) good_operand6 (good_maybe (operator 7) (up_to 7) good_chain7 refl refl)
      refl

  good_chain8 : Good n (rule (chain 8)) (operator 8) false (up_to 8) (read_chain inner 8)
  good_chain8 =
      good_rule (chain 8) refl
      (good_then (up_to 8) (good_token n (operator 8) (example (operator 8) (class.Punct punct.Bar) refl
      refl)) b.below_chained8 refl)

  pub good_operand8 : Good n (operand 8) operand_start false (up_to 8) (read_operand inner 8)
  good_operand8 = good_then (up_to 8) good_operand7 (good_maybe (operator 8) (up_to 8) good_chain8 refl refl)
      refl

  good_chain9 : Good n (rule (chain 9)) (operator 9) false (up_to 9) (read_chain inner 9)
  good_chain9 =
      good_rule (chain 9) refl
      (good_then (up_to 9) (good_token n (operator 9) (example (operator 9) (class.Punct punct.AndAnd) refl
      refl)) b.below_chained9 refl)

  pub good_operand9 : Good n (operand 9) operand_start false (up_to 9) (read_operand inner 9)
  good_operand9 = good_then (up_to 9) good_operand8 (good_maybe (operator 9) (up_to 9) good_chain9 refl refl)
      refl

  good_chain10 : Good n (rule (chain 10)) (operator 10) false (up_to 10) (read_chain inner 10)
  good_chain10 =
      good_rule (chain 10) refl
      (good_then (up_to 10) (good_token n (operator 10) (example (operator 10) (class.Punct punct.OrOr) refl
      refl)) b.below_chained10 refl)

  pub good_operand10 : Good n (operand 10) operand_start false (up_to 10) (read_operand inner 10)
  good_operand10 = good_then (up_to 10) good_operand9 (good_maybe (operator 10) (up_to 10) good_chain10 refl
      refl) refl

  good_branches : Good n (sign punct.Question · deeper expression · sign punct.Colon · deeper expression)
      (mark punct.Question) false in_expression_goes (read_branches inner)
  good_branches =
      good_then in_expression_goes (good_sign n punct.Question refl refl)
      (good_then in_expression_goes b.below_expression
      (good_then in_expression_goes (good_sign n punct.Colon refl refl) b.below_expression refl) refl)
      refl

  pub good_expression : Good n expression operand_start false in_expression_goes (read_expression inner)
  good_expression =
      good_rule conditional refl
      (good_then in_expression_goes good_operand10 (good_maybe (mark punct.Question) in_expression_goes
      good_branches refl refl) refl)

  -- a list with commas between
  pub good_arguments : Good n (rule arguments) operand_start true but_closing (read_arguments inner)
  good_arguments =
      good_rule arguments refl
      (good_maybe operand_start but_closing
      (good_then but_closing good_expression
      (good_many (mark punct.Comma) but_closing
      (good_then in_expression_goes (good_sign n punct.Comma refl refl) good_expression refl) refl) refl)
      refl refl)
