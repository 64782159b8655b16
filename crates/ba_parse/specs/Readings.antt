-- What each function of the parser gives. That is the tree of a part, written out, with the tokens after it;
-- or the tokens from the refused one on. This is no definition of the grammar: laws lead from here to it.

use Rattle.std.specs.Prelude.{ℕ, Bool, true, false, not, ◌&&◌, if◌then◌else◌, List, [], ◌∷◌, ◌++◌, length}
use Prim.Native.Nat.{zero, suc}
use Rattle.std.specs.List.{list_any, list_all}
use Rattle.ba_tokens.specs.declared.token.Token.{Token}
use Rattle.ba_tokens.specs.declared.token.Keyword.{Keyword}
use Rattle.ba_tokens.specs.declared.token.Keyword.TheVariants as keyword
use Rattle.ba_tokens.specs.declared.token.Punct.{Punct}
use Rattle.ba_tokens.specs.declared.token.Punct.TheVariants as punct
use Rattle.ba_trees.specs.declared.class.TokenClass.{TokenClass}
use Rattle.ba_trees.specs.declared.class.TokenClass.TheVariants as class
use Rattle.ba_trees.specs.Classes.{Classes, class_of, only, word, mark, ◌or◌, type_word, declaration_word, agree}
use Rattle.ba_trees.specs.Marks.{Rule, Mark, leaf, node_of, one_deeper, file, external, type_name, specifiers, enumerators, enumerator, parameters, parameter, no_name, array_length, declarators, declarator, braced, declaration, block, statement, no_else, group, label, for_first, simples, simple, target, arguments, conditional, chain, unary, primary}
use Rattle.ba_parse.specs.Grammar.{prefix_sign, step_sign, assign_sign, operator, takes_block, has_class, has_enumerators}

-- what a reading gives: a tree and the tokens after it, or the tokens from the refused one on
pub data Answer : Type 0 where
  done : List Mark → List Token → Answer
  syntax : List Token → Answer
  too_deep : List Token → Answer

-- a function of the parser: from the tokens to what it gives
abbrev pub Reading : Type 0
Reading = List Token → Answer

-- HOW READINGS ARE PUT TOGETHER

-- a tree before what a reading gives
abbrev pub with_front : List Mark → Answer → Answer
with_front f (done g rest) = done (f ++ g) rest
with_front f (syntax rest) = syntax rest
with_front f (too_deep rest) = too_deep rest

-- a reading of the tokens after a tree, by that tree
abbrev pub then_read : Answer → (List Mark → Reading) → Answer
then_read (done f rest) k = with_front f (k f rest)
then_read (syntax rest) k = syntax rest
then_read (too_deep rest) k = too_deep rest

-- a node around what a reading gives
abbrev pub around : Rule → Answer → Answer
around r (done f rest) = done (node_of r f) rest
around r (syntax rest) = syntax rest
around r (too_deep rest) = too_deep rest

-- a level around what a reading gives
abbrev pub lowered : Answer → Answer
lowered (done f rest) = done (one_deeper f) rest
lowered (syntax rest) = syntax rest
lowered (too_deep rest) = too_deep rest

infixr 6 ◌▹◌
-- one reading, then the other
abbrev pub ◌▹◌ : Reading → Reading → Reading
(r ▹ s) ts = then_read (r ts) (λ f. s)

-- a reading, and then one that depends on the tree that it gave
abbrev pub read_after : Reading → (List Mark → Reading) → Reading
read_after r k ts = then_read (r ts) k

-- no token
abbrev pub read_nothing : Reading
read_nothing ts = done [] ts

-- the next token is of one of the classes
abbrev pub next_is : Classes → List Token → Bool
next_is classes [] = false
next_is classes (t ∷ ts) = classes (class_of t)

-- a token of these classes
abbrev pub read_token : Classes → Reading
read_token classes [] = syntax []
read_token classes (t ∷ ts) = if classes (class_of t) then done (leaf t ∷ []) ts else syntax (t ∷ ts)

-- this punctuator
abbrev pub read_sign : Punct → Reading
read_sign q = read_token (mark q)

-- this keyword
abbrev pub read_key : Keyword → Reading
read_key k = read_token (word k)

-- a name
abbrev pub read_name : Reading
read_name = read_token (only class.Name)

-- a node around what is read
abbrev pub read_node : Rule → Reading → Reading
read_node r s ts = around r (s ts)

-- one or the other, by the tokens that come next
abbrev pub read_either : (List Token → Bool) → Reading → Reading → Reading
read_either first r s ts = if first ts then r ts else s ts

-- a part, if the next token begins it; else nothing
abbrev pub read_maybe : Classes → Reading → Reading
read_maybe starts r = read_either (next_is starts) r read_nothing

-- a part as often as it begins, but at most so many times
unfoldable pub many_upto : ℕ → (List Token → Bool) → Reading → Reading
many_upto zero begins r ts = done [] ts
many_upto (suc n) begins r ts = if begins ts then then_read (r ts) (λ f. many_upto n begins r) else done [] ts

-- a part as often as it begins
abbrev pub read_many : (List Token → Bool) → Reading → Reading
read_many begins r ts = many_upto (length ts) begins r ts

-- a part at least once, with commas between
abbrev pub read_listed : Reading → Reading
read_listed r = r ▹ read_many (next_is (mark punct.Comma)) (read_sign punct.Comma ▹ r)

-- THE WORDS of a type, after words of these classes

-- the end of the words of a type, one of which has to name it
abbrev pub after_words : List TokenClass → Reading
after_words before ts = if list_any type_word before then done [] ts else syntax ts

-- the words of a type, after words of these classes
unfoldable pub words_after : Bool → List TokenClass → Reading
words_after static before [] = after_words before []
words_after static before (t ∷ ts) =
    if declaration_word static (class_of t)
    then (if list_all (λ d. agree d (class_of t)) before then with_front (leaf t ∷ [])
    (words_after static (before ++ class_of t ∷ []) ts) else syntax (t ∷ ts))
    else after_words before (t ∷ ts)

-- `const` and `static` if the words so far had none
abbrev pub read_qualifiers_left : Bool → Bool → Reading
read_qualifiers_left false false = read_nothing
read_qualifiers_left true false = read_maybe (word keyword.Const) (read_key keyword.Const)
read_qualifiers_left false true = read_maybe (word keyword.Static) (read_key keyword.Static)
read_qualifiers_left true true =
    read_either (next_is (word keyword.Const))
    (read_key keyword.Const ▹ read_maybe (word keyword.Static) (read_key keyword.Static))
    (read_maybe (word keyword.Static)
    (read_key keyword.Static ▹ read_maybe (word keyword.Const) (read_key keyword.Const)))

-- `const` and `static` after a tag, if they were not before it
abbrev pub read_qualifiers_behind : Bool → List Mark → Reading
read_qualifiers_behind static f = read_qualifiers_left (not (has_class (word keyword.Const) f))
    (static && not (has_class (word keyword.Static) f))

-- what follows the words of a type: a tag after `enum`
abbrev pub read_behind_words : Bool → Reading → List Mark → Reading
read_behind_words static tag f = if has_class (word keyword.Enum) f then tag ▹ read_qualifiers_behind static f
    else read_nothing

-- the words of a type
abbrev pub read_type_words : Reading
read_type_words = read_node type_name (read_after (words_after false []) (read_behind_words false read_name))

-- WHAT COUNTS A LEVEL, by what is in it

-- what is inside a construct that counts a level
pub data Inside : Type 0 where
  in_parameters : Inside
  in_length : Inside
  in_enumerators : Inside
  in_block : Inside
  in_statement : Inside
  in_groups : Inside
  in_for : Inside
  in_printf : Inside
  in_expression : Inside
  in_arguments : Inside
  in_cast : Inside
  in_unary : Inside
  in_chained : ℕ → Inside

-- the first tokens of an expression, of an assignment, step or call, of a statement, of a label and of an
-- item of a block
abbrev pub operand_start : Classes
operand_start = only class.Name or only class.Constant or mark punct.OpenParenthesis or prefix_sign

-- the first tokens of an assignment, step or call
abbrev pub simple_start : Classes
simple_start = only class.Name or step_sign

-- the first tokens of a statement
abbrev pub statement_start : Classes
statement_start =
    mark punct.OpenBrace or mark punct.Semicolon or simple_start or word keyword.If or word keyword.Switch or
    word keyword.While or word keyword.Do
    or word keyword.For or word keyword.Break or word keyword.Continue or word keyword.Return or word
    keyword.Assert
    or word keyword.Printf

-- the first tokens of a label
abbrev pub label_start : Classes
label_start = word keyword.Case or word keyword.Default

-- the first tokens of an item of a block
abbrev pub item_start : Classes
item_start = declaration_word false or statement_start

-- the first tokens of what is inside a construct
abbrev pub starts_of : Inside → Classes
starts_of in_parameters = declaration_word false
starts_of in_length = operand_start
starts_of in_enumerators = only class.Name
starts_of in_block = item_start
starts_of in_statement = statement_start
starts_of in_groups = label_start
starts_of in_for = declaration_word false or simple_start or mark punct.Semicolon
starts_of in_printf = only class.Quoted
starts_of in_expression = operand_start
starts_of in_arguments = operand_start
starts_of in_cast = declaration_word false
starts_of in_unary = operand_start
starts_of (in_chained n) = operand_start

-- a part that nothing begins is empty or refused
abbrev pub when_empty : Inside → Reading
when_empty in_parameters = read_node parameters read_nothing
when_empty in_length = read_nothing
when_empty in_enumerators = syntax
when_empty in_block = read_nothing
when_empty in_statement = syntax
when_empty in_groups = read_nothing
when_empty in_for = syntax
when_empty in_printf = syntax
when_empty in_expression = syntax
when_empty in_arguments = read_node arguments read_nothing
when_empty in_cast = syntax
when_empty in_unary = syntax
when_empty (in_chained n) = syntax

-- the part if no level is left for its tokens
abbrev pub shallow : Inside → Reading
shallow i ts = if next_is (starts_of i) ts then too_deep ts else when_empty i ts

-- RULES, by the readings of what counts a level

-- the readings of what is inside
abbrev pub Inner : Type 0
Inner = Inside → Reading

-- what is inside, with its level
abbrev pub deeper_in : Inner → Inside → Reading
deeper_in inner i ts = lowered (inner i ts)

-- what is inside parentheses, with its level
abbrev pub read_parenthesized : Inner → Inside → Reading
read_parenthesized inner i = read_sign punct.OpenParenthesis ▹ deeper_in inner i ▹ read_sign
    punct.CloseParenthesis

-- what is inside square brackets, with its level
abbrev pub read_bracketed : Inner → Inside → Reading
read_bracketed inner i = read_sign punct.OpenBracket ▹ deeper_in inner i ▹ read_sign punct.CloseBracket

abbrev pub read_semicolon : Reading
read_semicolon = read_sign punct.Semicolon

-- expressions

-- an index or arguments after a name, if they follow
abbrev pub after_name : Inner → Reading
after_name inner =
    read_either (next_is (mark punct.OpenBracket)) (read_bracketed inner in_expression)
    (read_maybe (mark punct.OpenParenthesis) (read_parenthesized inner in_arguments))

abbrev pub read_primary : Inner → Reading
read_primary inner = read_node primary
    (read_either (next_is (only class.Name)) (read_name ▹ after_name inner)
    (read_either (next_is (only class.Constant)) (read_token (only class.Constant))
    (read_parenthesized inner in_expression)))

-- a parenthesis before the words of a type is a cast's
abbrev pub is_cast : List Token → Bool
is_cast [] = false
is_cast (t ∷ ts) = mark punct.OpenParenthesis (class_of t) && next_is (declaration_word false) ts

abbrev pub read_unary : Inner → Reading
read_unary inner = read_node unary
    (read_either (next_is prefix_sign) (read_token prefix_sign ▹ deeper_in inner in_unary)
    (read_either is_cast (read_parenthesized inner in_cast ▹ deeper_in inner in_unary) (read_primary inner)))

abbrev pub read_chain : Inner → ℕ → Reading
read_chain inner n = read_node (chain n) (read_token (operator n) ▹ deeper_in inner (in_chained n))

abbrev pub read_operand : Inner → ℕ → Reading
read_operand inner zero = read_unary inner
read_operand inner (suc n) = read_operand inner n ▹ read_maybe (operator (suc n)) (read_chain inner (suc n))

abbrev pub read_chained : Inner → ℕ → Reading
read_chained inner zero = read_unary inner
read_chained inner (suc n) = read_operand inner n ▹ read_maybe (operator (suc n)) (read_chain inner (suc n))

abbrev pub read_branches : Inner → Reading
read_branches inner = read_sign punct.Question ▹ deeper_in inner in_expression ▹ read_sign punct.Colon
    ▹ deeper_in inner in_expression

abbrev pub read_expression : Inner → Reading
read_expression inner = read_node conditional (read_operand inner 10 ▹ read_maybe (mark punct.Question)
    (read_branches inner))

abbrev pub read_arguments : Inner → Reading
read_arguments inner = read_node arguments (read_maybe operand_start (read_listed (read_expression inner)))

-- declarations

abbrev pub read_array_length : Inner → Reading
read_array_length inner = read_node array_length (read_bracketed inner in_length)

abbrev pub maybe_length : Inner → Reading
maybe_length inner = read_maybe (mark punct.OpenBracket) (read_array_length inner)

-- a comma before the closing brace is the last one
abbrev pub is_next_value : List Token → Bool
is_next_value [] = false
is_next_value (t ∷ ts) = mark punct.Comma (class_of t) && not (next_is (mark punct.CloseBrace) ts)

abbrev pub read_braced : Inner → Reading
read_braced inner = read_node braced
    (read_sign punct.OpenBrace ▹ read_expression inner ▹ read_many is_next_value (read_sign punct.Comma
    ▹ read_expression inner)
    ▹ read_maybe (mark punct.Comma) (read_sign punct.Comma) ▹ read_sign punct.CloseBrace)

abbrev pub read_initialiser : Inner → Reading
read_initialiser inner = read_sign punct.Assign ▹ read_either (next_is (mark punct.OpenBrace))
    (read_braced inner) (read_expression inner)

abbrev pub read_declarator : Inner → Reading
read_declarator inner = read_node declarator
    (read_name ▹ maybe_length inner ▹ read_maybe (mark punct.Assign) (read_initialiser inner))

abbrev pub read_declarators : Inner → Reading
read_declarators inner = read_node declarators (read_listed (read_declarator inner))

abbrev pub read_enumerators : Inner → Reading
read_enumerators inner = read_node enumerators (read_sign punct.OpenBrace ▹ deeper_in inner in_enumerators
    ▹ read_sign punct.CloseBrace)

-- what follows `enum` in a declaration of a file or a block
abbrev pub read_enumerated : Inner → Reading
read_enumerated inner = read_either (next_is (only class.Name))
    (read_name ▹ read_maybe (mark punct.OpenBrace) (read_enumerators inner)) (read_enumerators inner)

abbrev pub read_declaration_words : Inner → Bool → Reading
read_declaration_words inner static = read_node specifiers (read_after (words_after static [])
    (read_behind_words static (read_enumerated inner)))

abbrev pub maybe_declarators : Inner → Reading
maybe_declarators inner = read_maybe (only class.Name) (read_declarators inner)

abbrev pub read_declared : Inner → List Mark → Reading
read_declared inner f = if has_enumerators f then maybe_declarators inner else read_declarators inner

abbrev pub read_declaration : Inner → Reading
read_declaration inner = read_node declaration
    (read_after (read_declaration_words inner false) (read_declared inner) ▹ read_semicolon)

abbrev pub read_parameter : Inner → Reading
read_parameter inner = read_node parameter
    (read_type_words ▹ read_either (next_is (only class.Name)) read_name
    (read_node no_name read_nothing) ▹ maybe_length inner)

abbrev pub read_parameters : Inner → Reading
read_parameters inner = read_node parameters (read_maybe (declaration_word false)
    (read_listed (read_parameter inner)))

-- statements

abbrev pub read_target : Inner → Reading
read_target inner = read_node target (read_name ▹ read_maybe (mark punct.OpenBracket)
    (read_bracketed inner in_expression))

-- a name before a parenthesis is called
abbrev pub is_called : List Token → Bool
is_called [] = false
is_called (t ∷ ts) = only class.Name (class_of t) && next_is (mark punct.OpenParenthesis) ts

abbrev pub read_simple : Inner → Reading
read_simple inner = read_node simple
    (read_either (next_is step_sign) (read_token step_sign ▹ read_target inner)
    (read_either is_called (read_name ▹ read_parenthesized inner in_arguments)
    (read_target inner ▹ read_either (next_is step_sign) (read_token step_sign) (read_token assign_sign
    ▹ read_expression inner))))

abbrev pub read_simples : Inner → Reading
read_simples inner = read_node simples (read_listed (read_simple inner))

abbrev pub read_for_first : Inner → Reading
read_for_first inner = read_node for_first
    (read_either (next_is (declaration_word false)) (read_type_words ▹ read_declarators inner)
    (read_maybe simple_start (read_simples inner)))

abbrev pub read_block : Inner → Reading
read_block inner = read_node block (read_sign punct.OpenBrace ▹ deeper_in inner in_block ▹ read_sign
    punct.CloseBrace)

abbrev pub read_condition : Inner → Reading
read_condition inner = read_parenthesized inner in_expression

abbrev pub maybe_expression : Inner → Reading
maybe_expression inner = read_maybe operand_start (read_expression inner)

abbrev pub read_if : Inner → Reading
read_if inner =
    read_key keyword.If ▹ read_condition inner ▹ deeper_in inner in_statement
    ▹ read_either (next_is (word keyword.Else)) (read_key keyword.Else ▹ deeper_in inner in_statement)
    (read_node no_else read_nothing)

abbrev pub read_label : Inner → Reading
read_label inner = read_node label
    (read_either (next_is (word keyword.Case))
    (read_key keyword.Case ▹ read_expression inner ▹ read_sign punct.Colon)
    (read_key keyword.Default ▹ read_sign punct.Colon))

abbrev pub read_switch : Inner → Reading
read_switch inner =
    read_key keyword.Switch ▹ read_condition inner ▹ read_sign punct.OpenBrace ▹ deeper_in inner in_groups
    ▹ read_sign punct.CloseBrace

abbrev pub read_while : Inner → Reading
read_while inner = read_key keyword.While ▹ read_condition inner ▹ deeper_in inner in_statement

abbrev pub read_do : Inner → Reading
read_do inner = read_key keyword.Do ▹ deeper_in inner in_statement ▹ read_key keyword.While ▹ read_condition
    inner ▹ read_semicolon

abbrev pub read_for : Inner → Reading
read_for inner = read_key keyword.For ▹ read_parenthesized inner in_for ▹ deeper_in inner in_statement

abbrev pub read_printf : Inner → Reading
read_printf inner = read_key keyword.Printf ▹ read_parenthesized inner in_printf ▹ read_semicolon

abbrev pub read_keyword_statement : Inner → Reading
read_keyword_statement inner =
    read_either (next_is (word keyword.If)) (read_if inner)
    (read_either (next_is (word keyword.Switch)) (read_switch inner)
    (read_either (next_is (word keyword.While)) (read_while inner)
    (read_either (next_is (word keyword.Do)) (read_do inner)
    (read_either (next_is (word keyword.For)) (read_for inner)
    (read_either (next_is (word keyword.Break)) (read_key keyword.Break ▹ read_semicolon)
    (read_either (next_is (word keyword.Continue)) (read_key keyword.Continue ▹ read_semicolon)
    (read_either (next_is (word keyword.Return)) (read_key keyword.Return ▹ maybe_expression inner
    ▹ read_semicolon)
    (read_either (next_is (word keyword.Assert)) (read_key keyword.Assert ▹ read_condition inner
    ▹ read_semicolon)
    (read_printf inner)))))))))

abbrev pub read_statement : Inner → Reading
read_statement inner = read_node statement
    (read_either (next_is (mark punct.OpenBrace)) (read_block inner)
    (read_either (next_is (mark punct.Semicolon)) read_semicolon
    (read_either (next_is simple_start) (read_simple inner ▹ read_semicolon) (read_keyword_statement inner))))

-- files

abbrev pub is_function : List Token → Bool
is_function = is_called

abbrev pub read_function_end : Inner → Bool → Reading
read_function_end inner true = read_either (next_is (mark punct.OpenBrace)) (read_block inner) read_semicolon
read_function_end inner false = read_semicolon

abbrev pub after_parameters : Inner → List Mark → Reading
after_parameters inner f = read_sign punct.CloseParenthesis ▹ read_function_end inner (takes_block f)

abbrev pub read_function_tail : Inner → Reading
read_function_tail inner =
    read_name ▹ read_sign punct.OpenParenthesis ▹ λ ts. then_read (deeper_in inner in_parameters ts)
    (after_parameters inner)

abbrev pub read_external_tail : Inner → List Mark → Reading
read_external_tail inner f =
    if has_enumerators f then maybe_declarators inner ▹ read_semicolon
    else read_either is_function (read_function_tail inner) (read_declarators inner ▹ read_semicolon)

abbrev pub read_external : Inner → Reading
read_external inner = read_node external
    (read_after (read_declaration_words inner true) (read_external_tail inner))

-- WHAT IS INSIDE, at its own level, and then with so many levels left below

abbrev pub read_item : Inner → Reading
read_item inner = read_either (next_is (declaration_word false)) (read_declaration inner)
    (read_statement inner)

abbrev pub read_group : Inner → Reading
read_group inner = read_node group
    (read_label inner ▹ read_many (next_is statement_start) (read_statement inner))

abbrev pub read_for_head : Inner → Reading
read_for_head inner =
    read_for_first inner ▹ read_semicolon ▹ maybe_expression inner ▹ read_semicolon ▹ read_maybe simple_start
    (read_simples inner)

abbrev pub read_printed : Inner → Reading
read_printed inner =
    read_token (only class.Quoted) ▹ read_many (next_is (only class.Quoted)) (read_token (only class.Quoted))
    ▹ read_many (next_is (mark punct.Comma)) (read_sign punct.Comma ▹ read_expression inner)

abbrev pub read_enumerator : Inner → Reading
read_enumerator inner = read_node enumerator
    (read_name ▹ read_maybe (mark punct.Assign) (read_sign punct.Assign ▹ read_expression inner))

-- a comma before no name is the last one
abbrev pub is_next_enumerator : List Token → Bool
is_next_enumerator [] = false
is_next_enumerator (t ∷ ts) = mark punct.Comma (class_of t) && next_is (only class.Name) ts

abbrev pub read_enumerator_list : Inner → Reading
read_enumerator_list inner =
    read_enumerator inner ▹ read_many is_next_enumerator (read_sign punct.Comma ▹ read_enumerator inner)
    ▹ read_maybe (mark punct.Comma) (read_sign punct.Comma)

abbrev pub read_inside : Inner → Inner
read_inside inner in_parameters = read_parameters inner
read_inside inner in_length = maybe_expression inner
read_inside inner in_enumerators = read_enumerator_list inner
read_inside inner in_block = read_many (next_is item_start) (read_item inner)
read_inside inner in_statement = read_statement inner
read_inside inner in_groups = read_many (next_is label_start) (read_group inner)
read_inside inner in_for = read_for_head inner
read_inside inner in_printf = read_printed inner
read_inside inner in_expression = read_expression inner
read_inside inner in_arguments = read_arguments inner
read_inside inner in_cast = read_type_words
read_inside inner in_unary = read_unary inner
read_inside inner (in_chained n) = read_chained inner n

-- inside a construct that counts a level, if n more may be around a token of it
unfoldable pub levels_left : ℕ → Inner
levels_left zero = shallow
levels_left (suc n) = read_inside (levels_left n)

-- the externals, up to the first token that begins none
abbrev pub read_file : Inner → Reading
read_file inner = read_node file (read_many (next_is (declaration_word true)) (read_external inner))
