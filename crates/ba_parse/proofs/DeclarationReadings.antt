-- Declarations, and what is around them: their readings keep what readings promise, if those of what counts a
-- level do.

use Rattle.std.proofs.Common.{◌≡◌, ℕ, Bool, true, false, if◌then◌else◌, List, [], ◌∷◌, refl, sym, subst}
use Rattle.ba_tokens.specs.declared.token.Token.{Token}
use Rattle.ba_tokens.specs.declared.token.Punct.TheVariants as punct
use Rattle.ba_trees.specs.declared.class.TokenClass.TheVariants as class
use Rattle.ba_trees.specs.Classes.{Classes, only, mark, ◌or◌, declaration_word, qualifier}
use Rattle.ba_trees.specs.Marks.{Mark, yield, type_name, specifiers, enumerators, enumerator, external, file, parameters, parameter, no_name, array_length, declarators, declarator, braced, declaration, statement, for_first}
use Rattle.ba_parse.specs.Grammar.{Part, rule, after, many, deeper, ◌·◌, ◌∣◌, maybe, sign, name, type_words, declaration_words, behind_words, has_enumerators, declared, expression, semicolon, function_end, function_tail, takes_block}
use Rattle.ba_parse.specs.Readings.{Reading, Inner, in_parameters, then_read, deeper_in, read_sign, read_name, read_either, read_maybe, read_many, next_is, ◌▹◌, operand_start, item_start, simple_start, read_type_words, read_behind_words, read_enumerators, read_enumerated, read_declaration_words, maybe_declarators, read_declared, read_enumerator, read_enumerator_list, read_external_tail, maybe_length, read_braced, read_initialiser, read_declarator, read_declarators, read_declaration, read_parameter, read_parameters, read_for_first, read_semicolon, read_function_end, after_parameters, is_function, read_function_tail, read_external, read_item, read_for_head, read_printed, read_file}
use Rattle.ba_parse.proofs.Certified.{Opened, opened, always, BeginsWith, Follows, reads_after, false_is_true}
use Rattle.ba_parse.proofs.Forests.{yield_append}
use Rattle.ba_parse.proofs.Combined.{none}
use Rattle.ba_parse.proofs.Tables.{inside, apart}
use Rattle.ba_parse.proofs.Goods.{Good, good_token, good_nothing, good_after, good_then, good_skip, good_empty, good_either, good_maybe, good_many, good_node, good_rule, good_more, sample_after, begins_skip}
use Rattle.ba_parse.proofs.Lookahead.{two, Takes, takes_token, takes_then, takes_node, second_token_then, second_rule, second_then, second_maybe_then, picks_true, picks_false, good_ahead, Second}
use Rattle.ba_parse.proofs.WordReadings.{good_words}
use Rattle.ba_parse.proofs.BehindWords.{good_behind}
use Rattle.ba_parse.proofs.Braced.{good_braced_tail, good_enumerators_tail}
use Rattle.ba_parse.proofs.ExpressionReadings.{Below, enumerator_list, example, good_sign, good_name, in_expression_goes, but_closing, but_parenthesis, but_brace, for_start, for_head, printed, good_expression}
use Rattle.ba_parse.proofs.StatementReadings.{but_semicolon, parameter_goes, good_maybe_length, good_simples, good_semicolon, good_maybe_expression, good_block, good_statement}

module _ (n : ℕ) (inner : Inner) (b : Below n inner) where
  good_behind_type : (f : List Mark) → Good n (behind_words false name f) (only class.Name) true
      (qualifier false) (read_behind_words false read_name f)
  good_behind_type = good_behind n name (only class.Name) none (qualifier false) read_name false (good_name n)
      refl

  pub good_type_words : Good n type_words (declaration_word false) false (declaration_word false)
      read_type_words
  good_type_words = good_node type_name refl
      (good_after (behind_words false name) (read_behind_words false read_name) (declaration_word false)
      (good_words n false) good_behind_type refl)

  -- THE CONSTANTS of an enumerated type

  good_enumerator : Good n (rule enumerator) (only class.Name) false in_expression_goes
      (read_enumerator inner)
  good_enumerator =
      good_rule enumerator refl
      (good_then in_expression_goes (good_name n)
      (good_maybe (mark punct.Assign) in_expression_goes
      (good_then in_expression_goes (good_sign n punct.Assign refl refl) (good_expression n inner b) refl)
      refl refl) refl)

  pub good_enumerator_list : Good n enumerator_list (only class.Name) false but_brace
      (read_enumerator_list inner)
  good_enumerator_list = good_then but_brace good_enumerator
      (good_enumerators_tail but_brace good_enumerator refl refl) refl

  good_enumerators : Good n (rule enumerators) (mark punct.OpenBrace) false none (read_enumerators inner)
  good_enumerators =
      good_rule enumerators refl
      (good_then none (good_sign n punct.OpenBrace refl refl)
      (good_then none b.below_enumerators (good_sign n punct.CloseBrace refl refl) refl) refl)

  abbrev enumerated : Part
  enumerated = name · maybe (rule enumerators) ∣ rule enumerators

  abbrev enumerated_start : Classes
  enumerated_start = only class.Name or mark punct.OpenBrace

  good_enumerated : Good n enumerated enumerated_start false (mark punct.OpenBrace) (read_enumerated inner)
  good_enumerated =
      good_either (only class.Name) enumerated_start (mark punct.OpenBrace)
      (good_then (mark punct.OpenBrace) (good_name n)
      (good_maybe (mark punct.OpenBrace) (mark punct.OpenBrace) good_enumerators refl refl) refl)
      good_enumerators refl refl

  abbrev enumerated_goes : Bool → Classes
  enumerated_goes static = qualifier static or mark punct.OpenBrace

  good_behind_declared : (static : Bool) (f : List Mark) → Good n (behind_words static enumerated f)
      enumerated_start true (enumerated_goes static) (read_behind_words static (read_enumerated inner) f)
  good_behind_declared false = good_behind n enumerated enumerated_start (mark punct.OpenBrace)
      (enumerated_goes false) (read_enumerated inner) false good_enumerated refl
  good_behind_declared true = good_behind n enumerated enumerated_start (mark punct.OpenBrace)
      (enumerated_goes true) (read_enumerated inner) true good_enumerated refl

  abbrev words_goes : Bool → Classes
  words_goes static = declaration_word static or mark punct.OpenBrace

  good_declaration_words : (static : Bool) → Good n (declaration_words static) (declaration_word static) false
      (words_goes static) (read_declaration_words inner static)
  good_declaration_words false = good_node specifiers refl
      (good_after (behind_words false enumerated) (read_behind_words false (read_enumerated inner))
      (words_goes false) (good_words n false) (good_behind_declared false) refl)
  good_declaration_words true = good_node specifiers refl
      (good_after (behind_words true enumerated) (read_behind_words true (read_enumerated inner))
      (words_goes true) (good_words n true) (good_behind_declared true) refl)

  -- DECLARATORS

  good_braced : Good n (rule braced) (mark punct.OpenBrace) false none (read_braced inner)
  good_braced = good_rule braced refl (good_then none (good_sign n punct.OpenBrace refl refl)
      (good_then none (good_expression n inner b) (good_braced_tail (good_expression n inner b) refl refl)
      refl) refl)

  good_initialiser : Good n (sign punct.Assign · (rule braced ∣ expression)) (mark punct.Assign) false
      in_expression_goes (read_initialiser inner)
  good_initialiser =
      good_then in_expression_goes (good_sign n punct.Assign refl refl)
      (good_either (mark punct.OpenBrace) (mark punct.OpenBrace or operand_start) in_expression_goes
      good_braced (good_expression n inner b) refl refl) refl

  abbrev after_declared : Classes
  after_declared = mark punct.OpenBracket or mark punct.Assign

  good_after_declared : Good n (maybe (rule array_length) · maybe
      (sign punct.Assign · (rule braced ∣ expression))) after_declared true in_expression_goes
      (maybe_length inner ▹ read_maybe (mark punct.Assign) (read_initialiser inner))
  good_after_declared =
      good_skip after_declared in_expression_goes (good_maybe_length n inner b)
      (good_maybe (mark punct.Assign) in_expression_goes good_initialiser refl refl) refl refl

  good_declarator : Good n (rule declarator) (only class.Name) false in_expression_goes
      (read_declarator inner)
  good_declarator = good_rule declarator refl (good_then in_expression_goes (good_name n) good_after_declared
      refl)

  abbrev declarator_more : Classes
  declarator_more = after_declared or mark punct.Comma

  good_more_declarators : Good n (many (sign punct.Comma · rule declarator)) (mark punct.Comma) true
      but_semicolon
      (read_many (next_is (mark punct.Comma)) (read_sign punct.Comma ▹ read_declarator inner))
  good_more_declarators =
      good_many (mark punct.Comma) but_semicolon
      (good_then in_expression_goes (good_sign n punct.Comma refl refl) good_declarator refl) refl

  pub good_declarators : Good n (rule declarators) (only class.Name) false but_semicolon
      (read_declarators inner)
  good_declarators = good_rule declarators refl (good_then but_semicolon good_declarator good_more_declarators
      refl)

  good_maybe_declarators : Good n (maybe (rule declarators)) (only class.Name) true but_semicolon
      (maybe_declarators inner)
  good_maybe_declarators = good_maybe (only class.Name) but_semicolon good_declarators refl refl

  declared_if : (x : Bool) → Good n (if x then maybe (rule declarators) else rule declarators)
      (only class.Name) true but_semicolon (if x then maybe_declarators inner else read_declarators inner)
  declared_if true = good_maybe_declarators
  declared_if false = good_empty good_declarators

  good_declared : (f : List Mark) → Good n (declared f) (only class.Name) true but_semicolon
      (read_declared inner f)
  good_declared f = declared_if (has_enumerators f)

  pub good_declaration : Good n (rule declaration) (declaration_word false) false none
      (read_declaration inner)
  good_declaration =
      good_rule declaration refl
      (good_then none
      (good_after declared (read_declared inner) but_semicolon (good_declaration_words false) good_declared
      refl)
      (good_semicolon n inner b) refl)

  good_parameter : Good n (rule parameter) (declaration_word false) false parameter_goes
      (read_parameter inner)
  good_parameter =
      good_rule parameter refl
      (good_then parameter_goes good_type_words
      (good_skip (only class.Name or mark punct.OpenBracket) (only class.Name or mark punct.OpenBracket)
      (good_either (only class.Name) (only class.Name) (only class.Name) (good_name n)
      (good_node no_name refl (good_nothing n)) refl refl)
      (good_maybe_length n inner b) refl refl) refl)

  pub good_parameters : Good n (rule parameters) (declaration_word false) true but_closing
      (read_parameters inner)
  good_parameters =
      good_rule parameters refl
      (good_maybe (declaration_word false) but_closing
      (good_then but_closing good_parameter
      (good_many (mark punct.Comma) but_closing (good_then parameter_goes (good_sign n punct.Comma refl refl)
      good_parameter refl) refl) refl)
      refl refl)

  -- what counts a level

  good_for_first : Good n (rule for_first) (declaration_word false or simple_start) true but_semicolon
      (read_for_first inner)
  good_for_first =
      good_rule for_first refl
      (good_either (declaration_word false) (declaration_word false or simple_start) but_semicolon
      (good_then but_semicolon good_type_words good_declarators refl)
      (good_maybe simple_start but_semicolon (good_simples n inner b) refl refl) refl refl)

  pub good_for_head : Good n for_head for_start false but_parenthesis (read_for_head inner)
  good_for_head =
      good_skip for_start but_parenthesis good_for_first
      (good_then but_parenthesis (good_semicolon n inner b)
      (good_skip (operand_start or mark punct.Semicolon) but_parenthesis (good_maybe_expression n inner b)
      (good_then but_parenthesis (good_semicolon n inner b) (good_maybe simple_start but_parenthesis
      (good_simples n inner b) refl refl) refl) refl refl) refl) refl refl

  pub good_printed : Good n printed (only class.Quoted) false but_closing (read_printed inner)
  good_printed =
      good_then but_closing (good_token n (only class.Quoted) (example (only class.Quoted) class.Quoted refl
      refl))
      (good_skip (only class.Quoted or mark punct.Comma) but_closing
      (good_many (only class.Quoted) (only class.Quoted) (good_token n (only class.Quoted)
      (example (only class.Quoted) class.Quoted refl refl)) refl)
      (good_many (mark punct.Comma) but_closing
      (good_then in_expression_goes (good_sign n punct.Comma refl refl) (good_expression n inner b) refl)
      refl) refl refl) refl

  pub good_items : Good n (many (rule declaration ∣ rule statement)) item_start true but_brace
      (read_many (next_is item_start) (read_item inner))
  good_items =
      good_many item_start but_brace (good_either (declaration_word false) item_start none good_declaration
      (good_statement n inner b) refl refl) refl

  -- EXTERNALS AND FILES

  good_end : (x : Bool) → Good n (function_end x) (mark punct.OpenBrace or mark punct.Semicolon) false none
      (read_function_end inner x)
  good_end true = good_either (mark punct.OpenBrace) (mark punct.OpenBrace or mark punct.Semicolon) none
      (good_block n inner b) (good_semicolon n inner b) refl refl
  good_end false = good_more (mark punct.OpenBrace or mark punct.Semicolon) none (good_semicolon n inner b)
      refl

  abbrev closing_part : List Mark → Part
  closing_part f = sign punct.CloseParenthesis · function_end (takes_block f)

  good_closing : (f : List Mark) → Good n (closing_part f) (mark punct.CloseParenthesis) false none
      (after_parameters inner f)
  good_closing f = good_then none (good_sign n punct.CloseParenthesis refl refl) (good_end (takes_block f))
      refl

  abbrev after_open : Part
  after_open = after (deeper (rule parameters)) closing_part

  abbrev read_after_open : Reading
  read_after_open ts = then_read (deeper_in inner in_parameters ts) (after_parameters inner)

  open_follows : Follows but_closing (mark punct.CloseParenthesis) false none none
  open_follows = record {
    apart = apart (mark punct.CloseParenthesis) but_closing refl;
    through = λ e. absurd (false_is_true e);
    last = λ c e. e;
  }

  good_after_open : Good n after_open (declaration_word false or mark punct.CloseParenthesis) false none
      read_after_open
  good_after_open = record {
    reads =
        reads_after n (deeper (rule parameters)) closing_part (deeper_in inner in_parameters)
        (after_parameters inner) but_closing none none
        (mark punct.CloseParenthesis) false always b.below_parameters.reads (λ f u. (good_closing f).reads)
        (λ f u. (good_closing f).first)
        (λ f u. (good_closing f).sample) open_follows;
    first = record {
      begins = λ f u.
          let o : Opened after_open f = opened u in
          subst (λ x. BeginsWith more false (yield x)) (sym o.4)
          (subst (BeginsWith more false) (sym (yield_append o.0 o.1))
          (begins_skip (declaration_word false) (mark punct.CloseParenthesis) more false
          (inside (declaration_word false) more refl)
          (inside (mark punct.CloseParenthesis) more refl) (yield o.0) (yield o.1)
          (b.below_parameters.first.begins o.0 o.2)
          ((good_closing o.0).first.begins o.1 o.3)));
    };
    sample = sample_after b.below_parameters.sample (good_closing b.below_parameters.sample.tree).sample;
  }
    where
      more : Classes
      more = declaration_word false or mark punct.CloseParenthesis

  good_open : Good n (sign punct.OpenParenthesis · after_open) (mark punct.OpenParenthesis) false none
      (read_sign punct.OpenParenthesis ▹ read_after_open)
  good_open = good_then none (good_sign n punct.OpenParenthesis refl refl) good_after_open refl

  good_function_tail : Good n function_tail (only class.Name) false none (read_function_tail inner)
  good_function_tail = good_then none (good_name n) good_open refl

  good_variables : Good n (rule declarators · semicolon) (only class.Name) false none (read_declarators inner
      ▹ read_semicolon)
  good_variables = good_then none good_declarators (good_semicolon n inner b) refl

  is_function_two : (ts : List Token) → is_function ts ≡ two (only class.Name) (mark punct.OpenParenthesis) ts
  is_function_two [] = refl
  is_function_two (t ∷ ts) = refl

  takes_declarators : Takes (only class.Name) (read_declarators inner)
  takes_declarators =
      takes_node (only class.Name) declarators (read_declarator inner ▹ read_many (next_is (mark punct.Comma))
      (read_sign punct.Comma ▹ read_declarator inner))
      (takes_then (only class.Name) (read_declarator inner)
      (takes_node (only class.Name) declarator (read_name ▹ maybe_length inner ▹ read_maybe
      (mark punct.Assign) (read_initialiser inner))
      (takes_then (only class.Name) read_name (takes_token (only class.Name)) good_after_declared))
      good_more_declarators)

  second_declarator : Second (rule declarator) after_declared true
  second_declarator = second_rule declarator (second_token_then (only class.Name) good_after_declared.first)

  second_declarators : Second (rule declarators) declarator_more true
  second_declarators = second_rule declarators (second_maybe_then declarator_more good_declarator.first
      second_declarator good_more_declarators.first refl)

  abbrev function_or_variables : Part
  function_or_variables = function_tail ∣ rule declarators · semicolon

  abbrev read_function_or_variables : Reading
  read_function_or_variables = read_either is_function (read_function_tail inner) (read_declarators inner
      ▹ read_semicolon)

  good_function_or_variables : Good n function_or_variables (only class.Name) false none
      read_function_or_variables
  good_function_or_variables =
      good_ahead is_function (only class.Name) (mark punct.OpenParenthesis) (only class.Name) none
      is_function_two good_function_tail good_variables
      (takes_then (only class.Name) read_name (takes_token (only class.Name)) good_open)
      (takes_then (only class.Name) (read_declarators inner) takes_declarators (good_semicolon n inner b))
      (picks_true (only class.Name) (mark punct.OpenParenthesis) good_function_tail.first
      (second_token_then (only class.Name) good_open.first) refl)
      (picks_false (only class.Name) (mark punct.OpenParenthesis) good_variables.first
      (second_then (declarator_more or mark punct.Semicolon) good_declarators.first second_declarators
      (good_semicolon n inner b).first refl) refl)
      refl refl

  abbrev tail_start : Classes
  tail_start = only class.Name or mark punct.Semicolon

  external_tail_if : (x : Bool) →
      Good n (if x then maybe (rule declarators) · semicolon else function_or_variables) tail_start false none
      (if x then maybe_declarators inner ▹ read_semicolon else read_function_or_variables)
  external_tail_if true = good_skip tail_start none good_maybe_declarators (good_semicolon n inner b) refl
      refl
  external_tail_if false = good_more tail_start none good_function_or_variables refl

  abbrev external_tail : List Mark → Part
  external_tail f = if has_enumerators f then maybe (rule declarators) · semicolon else function_or_variables

  good_external_tail : (f : List Mark) → Good n (external_tail f) tail_start false none
      (read_external_tail inner f)
  good_external_tail f = external_tail_if (has_enumerators f)

  pub good_external : Good n (rule external) (declaration_word true) false none (read_external inner)
  good_external = good_rule external refl
      (good_after external_tail (read_external_tail inner) none (good_declaration_words true)
      good_external_tail refl)

  pub good_file : Good n (rule file) (declaration_word true) true (declaration_word true) (read_file inner)
  good_file = good_rule file refl (good_many (declaration_word true) (declaration_word true) good_external
      refl)
