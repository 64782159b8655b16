-- What counts a level: what its trees begin with, some tree, and one for each token that it may begin with.

use Rattle.std.proofs.Common.{◌≡◌, ℕ, zero, suc, Bool, true, false, not, ◌&&◌, ◌||◌, if◌then◌else◌, [], ◌∷◌, Some, refl}
use Rattle.ba_tokens.specs.declared.token.Keyword.{Keyword}
use Rattle.ba_tokens.specs.declared.token.Keyword.TheVariants as keyword
use Rattle.ba_tokens.specs.declared.token.Punct.{Punct}
use Rattle.ba_tokens.specs.declared.token.Punct.TheVariants as punct
use Rattle.ba_trees.specs.declared.class.TokenClass.{TokenClass}
use Rattle.ba_trees.specs.declared.class.TokenClass.TheVariants as class
use Rattle.ba_trees.specs.Classes.{Classes, class_of, only, word, mark, ◌or◌, declaration_word, type_word, names_type}
use Rattle.ba_trees.specs.Marks.{leaf, node_of, is_else, type_name, specifiers, enumerators, enumerator, parameters, parameter, array_length, declarators, declarator, braced, declaration, block, statement, group, label, for_first, simples, simple, target, arguments, conditional, chain, unary, primary}
use Rattle.ba_parse.specs.Grammar.{Part, is_nothing, is_words, is_rule, is_second, nothing, token, words, rule, many, deeper, ◌·◌, ◌∣◌, maybe, key, sign, name, in_parentheses, in_brackets, in_braces, behind_words, type_words, declaration_words, has_enumerators, declared, prefix_sign, step_sign, operand, chained, expression, semicolon, controlled, condition}
use Rattle.ba_parse.specs.Readings.{operand_start, statement_start, label_start, item_start, simple_start}
use Rattle.ba_parse.proofs.Certified.{First, Sample}
use Rattle.ba_parse.proofs.Combined.{Example}
use Rattle.ba_parse.proofs.Repeated.{sample_many}
use Rattle.ba_parse.proofs.Tables.{everywhere, or_not}
use Rattle.ba_parse.proofs.WordReadings.{good_words}
use Rattle.ba_parse.proofs.BehindWords.{sample_behind}
use Rattle.ba_parse.proofs.StatementReadings.{sample_no_else}
use Rattle.ba_parse.proofs.Goods.{sample_after, sample_first, sample_second}
use Rattle.ba_parse.proofs.ExpressionReadings.{enumerator_list, token_of, example, for_start, for_head, printed}
use Rattle.ba_parse.proofs.Starts.{FromAll, Blank, first_token, first_then, first_skip, first_or_else, first_maybe, first_node, first_rule, first_of_many, sample_token, sample_nothing, sample_maybe, sample_node, sample_rule, sample_deeper, from_token, from_then, from_after, from_first, from_second, from_behind, from_both, from_either, from_node, from_rule, from_many}

-- TOKENS

sign_sample : (q : Punct) → mark q (class.Punct q) ≡ true → is_else (Some (token_of (class.Punct q)))
    ≡ false → Sample (sign q)
sign_sample q h e = sample_token (mark q) (example (mark q) (class.Punct q) h e)

key_sample : (k : Keyword) → word k (class.Keyword k) ≡ true → is_else (Some (token_of (class.Keyword k)))
    ≡ false → Sample (key k)
key_sample k h e = sample_token (word k) (example (word k) (class.Keyword k) h e)

name_sample : Sample name
name_sample = sample_token (only class.Name) (example (only class.Name) class.Name refl refl)

-- EXPRESSIONS

first_primary : First (rule primary) (only class.Name or only class.Constant or mark punct.OpenParenthesis)
    false
first_primary =
    first_rule primary
    (first_or_else (only class.Name or only class.Constant or mark punct.OpenParenthesis)
    (first_then (first_token (only class.Name)))
    (first_or_else (only class.Constant or mark punct.OpenParenthesis) (first_token (only class.Constant))
    (first_then (first_token (mark punct.OpenParenthesis))) refl) refl)

pub first_unary : First (rule unary) operand_start false
first_unary =
    first_rule unary
    (first_or_else operand_start (first_then (first_token prefix_sign))
    (first_or_else (only class.Name or only class.Constant or mark punct.OpenParenthesis)
    (first_then (first_then (first_token (mark punct.OpenParenthesis)))) first_primary refl) refl)

first_operand : (n : ℕ) → First (operand n) operand_start false
first_operand zero = first_unary
first_operand (suc n) = first_then (first_operand n)

pub first_chained : (n : ℕ) → First (chained n) operand_start false
first_chained zero = first_unary
first_chained (suc n) = first_then (first_operand n)

pub first_expression : First expression operand_start false
first_expression = first_rule conditional (first_then (first_operand 10))

sample_primary : Sample (rule primary)
sample_primary = sample_rule primary refl
    (sample_first (sample_after name_sample (sample_second (sample_maybe (in_parentheses (rule arguments))))))

pub sample_unary : Sample (rule unary)
sample_unary = sample_rule unary refl (sample_second (sample_second sample_primary))

sample_operand : (n : ℕ) → Sample (operand n)
sample_operand zero = sample_unary
sample_operand (suc n) = sample_after (sample_operand n) (sample_maybe (rule (chain (suc n))))

pub sample_chained : (n : ℕ) → Sample (chained n)
sample_chained zero = sample_unary
sample_chained (suc n) = sample_after (sample_operand n) (sample_maybe (rule (chain (suc n))))

pub sample_expression : Sample expression
sample_expression = sample_rule conditional refl (sample_after (sample_operand 10)
    (sample_second sample_nothing))

expression_in_parentheses_sample : Sample (deeper expression · sign punct.CloseParenthesis)
expression_in_parentheses_sample = sample_after (sample_deeper sample_expression)
    (sign_sample punct.CloseParenthesis refl refl)

from_primary : FromAll (rule primary) (only class.Name or only class.Constant or mark punct.OpenParenthesis)
from_primary =
    from_rule primary refl
    (from_either (only class.Name or only class.Constant or mark punct.OpenParenthesis)
    (from_then (from_token (only class.Name))
    (sample_second (sample_maybe (in_parentheses (rule arguments)))))
    (from_either (only class.Constant or mark punct.OpenParenthesis) (from_token (only class.Constant))
    (from_then (from_token (mark punct.OpenParenthesis)) expression_in_parentheses_sample) refl) refl)

pub from_unary : FromAll (rule unary) operand_start
from_unary =
    from_rule unary refl
    (from_either operand_start (from_then (from_token prefix_sign) (sample_deeper sample_unary))
    (from_second from_primary) refl)

from_operand : (n : ℕ) → FromAll (operand n) operand_start
from_operand zero = from_unary
from_operand (suc n) = from_then (from_operand n) (sample_maybe (rule (chain (suc n))))

pub from_chained : (n : ℕ) → FromAll (chained n) operand_start
from_chained zero = from_unary
from_chained (suc n) = from_then (from_operand n) (sample_maybe (rule (chain (suc n))))

pub from_expression : FromAll expression operand_start
from_expression = from_rule conditional refl (from_then (from_operand 10) (sample_second sample_nothing))

pub first_arguments : First (rule arguments) operand_start true
first_arguments = first_rule arguments (first_maybe (first_then first_expression) refl)

pub from_arguments : FromAll (rule arguments) operand_start
from_arguments = from_rule arguments refl
    (from_first (from_then from_expression (sample_many (sign punct.Comma · expression))))

-- TYPES

words_of_one : (c : TokenClass) → type_word c ≡ true → names_type false (c ∷ []) ≡ true
words_of_one c h = or_not (type_word c) (names_type false (c ∷ []))
    (everywhere (λ c. not (type_word c) || names_type false (c ∷ [])) refl c) h

abbrev no_type : Classes
no_type c = declaration_word false c && not (type_word c)

words_of_two : (c : TokenClass) → no_type c ≡ true → names_type false (c ∷ class.Keyword keyword.Int ∷ [])
    ≡ true
words_of_two c h =
    or_not (no_type c) (names_type false (c ∷ class.Keyword keyword.Int ∷ []))
    (everywhere (λ c. not (no_type c) || names_type false (c ∷ class.Keyword keyword.Int ∷ [])) refl c) h

from_type_word : FromAll (words false) type_word
from_type_word = record {
  from = λ t h. record {
    tree = leaf t ∷ [];
    beyond = [];
    spelled = is_words false (t ∷ []) (words_of_one (class_of t) h);
    yields = refl;
    pairs = λ next k. refl;
  };
}

from_other_word : FromAll (words false) no_type
from_other_word = record {
  from = λ t h. record {
    tree = leaf t ∷ leaf (token_of (class.Keyword keyword.Int)) ∷ [];
    beyond = token_of (class.Keyword keyword.Int) ∷ [];
    spelled = is_words false (t ∷ token_of (class.Keyword keyword.Int) ∷ []) (words_of_two (class_of t) h);
    yields = refl;
    pairs = λ next k. refl;
  };
}

from_words : FromAll (words false) (declaration_word false)
from_words = from_both (declaration_word false) from_type_word from_other_word refl

pub first_type_words : First type_words (declaration_word false) false
first_type_words = first_node type_name (first_then (good_words 0 false).first)

pub sample_type_words : Sample type_words
sample_type_words = sample_node type_name refl
    (sample_after {k = behind_words false name} (good_words 0 false).sample
    (sample_behind false name name_sample (good_words 0 false).sample.tree))

pub from_type_words : FromAll type_words (declaration_word false)
from_type_words = from_node type_name refl
    (from_after (behind_words false name) from_words (sample_behind false name name_sample))

-- ENUMERATORS

first_enumerator : First (rule enumerator) (only class.Name) false
first_enumerator = first_rule enumerator (first_then (first_token (only class.Name)))

pub first_enumerators : First enumerator_list (only class.Name) false
first_enumerators = first_then first_enumerator

sample_behind_first : Sample (many (sign punct.Comma · rule enumerator) · maybe (sign punct.Comma))
sample_behind_first = sample_after (sample_many (sign punct.Comma · rule enumerator))
    (sample_maybe (sign punct.Comma))

pub sample_enumerators : Sample enumerator_list
sample_enumerators = sample_after
    (sample_rule enumerator refl (sample_after name_sample (sample_maybe (sign punct.Assign · expression))))
    sample_behind_first

pub from_enumerators : FromAll enumerator_list (only class.Name)
from_enumerators = from_then
    (from_rule enumerator refl
    (from_then (from_token (only class.Name)) (sample_maybe (sign punct.Assign · expression))))
    sample_behind_first

-- DECLARATIONS

sample_declarator : Sample (rule declarator)
sample_declarator =
    sample_rule declarator refl
    (sample_after name_sample
    (sample_after (sample_maybe (rule array_length))
    (sample_maybe (sign punct.Assign · (rule braced ∣ expression)))))

sample_declarators : Sample (rule declarators)
sample_declarators = sample_rule declarators refl (sample_after sample_declarator
    (sample_many (sign punct.Comma · rule declarator)))

semicolon_sample : Sample semicolon
semicolon_sample = sign_sample punct.Semicolon refl refl

abbrev enumerated : Part
enumerated = name · maybe (rule enumerators) ∣ rule enumerators

sample_enumerated : Sample enumerated
sample_enumerated = sample_first (sample_after name_sample (sample_maybe (rule enumerators)))

first_declaration : First (rule declaration) (declaration_word false) false
first_declaration = first_rule declaration
    (first_then (first_then (first_node specifiers (first_then (good_words 0 false).first))))

from_declaration_words : FromAll (declaration_words false) (declaration_word false)
from_declaration_words = from_node specifiers refl
    (from_after (behind_words false enumerated) from_words (sample_behind false enumerated sample_enumerated))

sample_declared_if : (x : Bool) → Sample (if x then maybe (rule declarators) else rule declarators)
sample_declared_if true = sample_maybe (rule declarators)
sample_declared_if false = sample_declarators

from_declaration : FromAll (rule declaration) (declaration_word false)
from_declaration = from_rule declaration refl
    (from_then (from_after declared from_declaration_words (λ f. sample_declared_if (has_enumerators f)))
    semicolon_sample)

pub first_parameter : First (rule parameter) (declaration_word false) false
first_parameter = first_rule parameter (first_then first_type_words)

pub first_parameters : First (rule parameters) (declaration_word false) true
first_parameters = first_rule parameters (first_maybe (first_then first_parameter) refl)

from_parameter : FromAll (rule parameter) (declaration_word false)
from_parameter = from_rule parameter refl (from_then from_type_words (sample_after (sample_first name_sample)
    (sample_maybe (rule array_length))))

pub from_parameters : FromAll (rule parameters) (declaration_word false)
from_parameters = from_rule parameters refl
    (from_first (from_then from_parameter (sample_many (sign punct.Comma · rule parameter))))

-- STATEMENTS

sample_target : Sample (rule target)
sample_target = sample_rule target refl (sample_after name_sample (sample_maybe (in_brackets expression)))

step_example : Example step_sign
step_example = example step_sign (class.Punct punct.Increment) refl refl

first_simple : First (rule simple) simple_start false
first_simple =
    first_rule simple
    (first_or_else simple_start (first_then (first_token step_sign))
    (first_or_else (only class.Name) (first_then (first_token (only class.Name)))
    (first_then (first_rule target (first_then (first_token (only class.Name))))) refl) refl)

sample_simple : Sample (rule simple)
sample_simple = sample_rule simple refl (sample_first (sample_after (sample_token step_sign step_example)
    sample_target))

no_arguments : Sample (in_parentheses (rule arguments))
no_arguments =
    sample_after (sign_sample punct.OpenParenthesis refl refl)
    (sample_after (sample_deeper (sample_rule arguments refl (sample_second sample_nothing)))
    (sign_sample punct.CloseParenthesis refl refl))

from_simple : FromAll (rule simple) simple_start
from_simple =
    from_rule simple refl
    (from_either simple_start (from_then (from_token step_sign) sample_target)
    (from_first (from_then (from_token (only class.Name)) no_arguments)) refl)

pub sample_statement : Sample (rule statement)
sample_statement = sample_rule statement refl (sample_second (sample_first semicolon_sample))

condition_sample : Sample condition
condition_sample = sample_after (sign_sample punct.OpenParenthesis refl refl) expression_in_parentheses_sample

controlled_sample : Sample controlled
controlled_sample = sample_deeper sample_statement

abbrev from_assert : Classes
from_assert = word keyword.Assert or word keyword.Printf

abbrev from_return : Classes
from_return = word keyword.Return or from_assert

abbrev from_continue : Classes
from_continue = word keyword.Continue or from_return

abbrev from_break : Classes
from_break = word keyword.Break or from_continue

abbrev from_for : Classes
from_for = word keyword.For or from_break

abbrev from_do : Classes
from_do = word keyword.Do or from_for

abbrev from_while : Classes
from_while = word keyword.While or from_do

abbrev from_switch : Classes
from_switch = word keyword.Switch or from_while

abbrev from_if : Classes
from_if = word keyword.If or from_switch

abbrev from_semicolon : Classes
from_semicolon = mark punct.Semicolon or simple_start or from_if

first_key : (k : Keyword) → First (key k) (word k) false
first_key k = first_token (word k)

pub first_statement : First (rule statement) statement_start false
first_statement =
    first_rule statement
    (first_or_else statement_start (first_rule block (first_then (first_token (mark punct.OpenBrace))))
    (first_or_else from_semicolon (first_token (mark punct.Semicolon))
    (first_or_else (simple_start or from_if) (first_then first_simple)
    (first_or_else from_if (first_then (first_key keyword.If))
    (first_or_else from_switch (first_then (first_key keyword.Switch))
    (first_or_else from_while (first_then (first_key keyword.While))
    (first_or_else from_do (first_then (first_key keyword.Do))
    (first_or_else from_for (first_then (first_key keyword.For))
    (first_or_else from_break (first_then (first_key keyword.Break))
    (first_or_else from_continue (first_then (first_key keyword.Continue))
    (first_or_else from_return (first_then (first_key keyword.Return))
    (first_or_else from_assert (first_then (first_key keyword.Assert)) (first_then (first_key keyword.Printf))
    refl) refl) refl) refl) refl) refl) refl) refl) refl) refl) refl) refl)

from_key : (k : Keyword) → FromAll (key k) (word k)
from_key k = from_token (word k)

sample_printed : Sample printed
sample_printed =
    sample_after (sample_token (only class.Quoted) (example (only class.Quoted) class.Quoted refl refl))
    (sample_after (sample_many (token (only class.Quoted))) (sample_many (sign punct.Comma · expression)))

sample_for_first : Sample (rule for_first)
sample_for_first = sample_rule for_first refl (sample_second (sample_second sample_nothing))

sample_after_first : Sample (semicolon · maybe expression · semicolon · maybe (rule simples))
sample_after_first = sample_after semicolon_sample (sample_after (sample_maybe expression)
    (sample_after semicolon_sample (sample_maybe (rule simples))))

pub sample_for_head : Sample for_head
sample_for_head = sample_after sample_for_first sample_after_first

in_parentheses_sample : {a : Part} → Sample a → Sample (in_parentheses a)
in_parentheses_sample s = sample_after (sign_sample punct.OpenParenthesis refl refl)
    (sample_after (sample_deeper s) (sign_sample punct.CloseParenthesis refl refl))

in_braces_sample : {a : Part} → Sample a → Sample (in_braces a)
in_braces_sample s = sample_after (sign_sample punct.OpenBrace refl refl)
    (sample_after (sample_deeper s) (sign_sample punct.CloseBrace refl refl))

pub from_statement : FromAll (rule statement) statement_start
from_statement =
    from_rule statement refl
    (from_either statement_start
    (from_rule block refl (from_then (from_token (mark punct.OpenBrace))
    (sample_after (sample_deeper (sample_many (rule declaration ∣ rule statement)))
    (sign_sample punct.CloseBrace refl refl))))
    (from_either from_semicolon (from_token (mark punct.Semicolon))
    (from_either (simple_start or from_if) (from_then from_simple semicolon_sample)
    (from_either from_if (from_then (from_key keyword.If)
    (sample_after condition_sample (sample_after controlled_sample (sample_second sample_no_else))))
    (from_either from_switch (from_then (from_key keyword.Switch)
    (sample_after condition_sample (in_braces_sample (sample_many (rule group)))))
    (from_either from_while (from_then (from_key keyword.While)
    (sample_after condition_sample controlled_sample))
    (from_either from_do
    (from_then (from_key keyword.Do)
    (sample_after controlled_sample (sample_after (key_sample keyword.While refl refl)
    (sample_after condition_sample semicolon_sample))))
    (from_either from_for (from_then (from_key keyword.For)
    (sample_after (in_parentheses_sample sample_for_head) controlled_sample))
    (from_either from_break (from_then (from_key keyword.Break) semicolon_sample)
    (from_either from_continue (from_then (from_key keyword.Continue) semicolon_sample)
    (from_either from_return (from_then (from_key keyword.Return) (sample_after (sample_maybe expression)
    semicolon_sample))
    (from_either from_assert (from_then (from_key keyword.Assert)
    (sample_after condition_sample semicolon_sample))
    (from_then (from_key keyword.Printf) (sample_after (in_parentheses_sample sample_printed)
    semicolon_sample))
    refl) refl) refl) refl) refl) refl) refl) refl) refl) refl) refl) refl)

-- GROUPS

colon_sample : Sample (sign punct.Colon)
colon_sample = sign_sample punct.Colon refl refl

first_label : First (rule label) label_start false
first_label = first_rule label (first_or_else label_start (first_then (first_key keyword.Case))
    (first_then (first_key keyword.Default)) refl)

from_label : FromAll (rule label) label_start
from_label =
    from_rule label refl
    (from_either label_start (from_then (from_key keyword.Case) (sample_after sample_expression colon_sample))
    (from_then (from_key keyword.Default) colon_sample) refl)

pub first_group : First (rule group) label_start false
first_group = first_rule group (first_then first_label)

pub first_groups : First (many (rule group)) label_start true
first_groups = first_of_many first_group

pub from_groups : FromAll (many (rule group)) label_start
from_groups = from_many (from_rule group refl (from_then from_label (sample_many (rule statement))))

-- BLOCKS

pub first_item : First (rule declaration ∣ rule statement) item_start false
first_item = first_or_else item_start first_declaration first_statement refl

pub first_items : First (many (rule declaration ∣ rule statement)) item_start true
first_items = first_of_many first_item

pub from_items : FromAll (many (rule declaration ∣ rule statement)) item_start
from_items = from_many (from_either item_start from_declaration from_statement refl)

-- THE HEAD of a for, and what is printed

first_for_first : First (rule for_first) (declaration_word false or simple_start) true
first_for_first =
    first_rule for_first
    (first_or_else (declaration_word false or simple_start) (first_then first_type_words)
    (first_maybe (first_rule simples (first_then first_simple)) refl) refl)

pub first_for_head : First for_head for_start false
first_for_head = first_skip for_start first_for_first (first_then (first_token (mark punct.Semicolon))) refl

sample_simples : Sample (rule simples)
sample_simples = sample_rule simples refl
    (sample_after sample_simple (sample_many (sign punct.Comma · rule simple)))

from_for_first : FromAll (rule for_first) (declaration_word false or simple_start)
from_for_first =
    from_rule for_first refl
    (from_either (declaration_word false or simple_start) (from_then from_type_words sample_declarators)
    (from_first (from_rule simples refl
    (from_then from_simple (sample_many (sign punct.Comma · rule simple))))) refl)

blank_for_first : Blank (rule for_first)
blank_for_first = record {
  tree = node_of for_first [];
  spelled = is_rule for_first [] (is_second (type_words · rule declarators) (rule simples ∣ nothing) []
      (is_second (rule simples) nothing [] is_nothing));
  no_leaf = refl;
  pairs = λ next. refl;
}

pub from_for_head : FromAll for_head for_start
from_for_head =
    from_both for_start (from_then from_for_first sample_after_first)
    (from_behind blank_for_first
    (from_then (from_token (mark punct.Semicolon)) (sample_after (sample_maybe expression)
    (sample_after semicolon_sample (sample_maybe (rule simples)))))) refl

pub first_printed : First printed (only class.Quoted) false
first_printed = first_then (first_token (only class.Quoted))

pub printed_sample : Sample printed
printed_sample = sample_printed

pub from_printed : FromAll printed (only class.Quoted)
from_printed = from_then (from_token (only class.Quoted))
    (sample_after (sample_many (token (only class.Quoted))) (sample_many (sign punct.Comma · expression)))
