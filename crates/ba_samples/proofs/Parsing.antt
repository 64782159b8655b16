-- The tokens of a sample are those of a file, whose tree is the sample's.
use Rattle.std.proofs.Common.{◌≡◌, zero, suc, ℕ, ◌+◌, ◌≤◌, Bool, true, false, Option, None, List, [], ◌∷◌, ◌++◌, length, codes, decimal, get_or, refl, ◌∙◌, ap, subst, append_assoc, append-nil, arith}
use Rattle.std.specs.Prelude.{nat_le}
use Rattle.std.specs.List.{list_all}
use Rattle.std.proofs.lemmas.Bool.{and_parts}
use Rattle.std.proofs.lemmas.Bool.Decides.{nat_tests}
use Rattle.ba_tokens.specs.declared.token.Keyword.TheVariants as keyword
use Rattle.ba_tokens.specs.declared.token.Punct.TheVariants as punct
use Rattle.ba_tokens.specs.declared.token.Token.{Token}
use Rattle.ba_tokens.specs.declared.token.TokenKind.TheVariants as kind
use Rattle.ba_trees.specs.Classes.{class_of, only, word, mark}
use Rattle.ba_trees.specs.declared.class.TokenClass.TheVariants as class
use Rattle.ba_trees.specs.Marks.{Mark, leaf, node_of, one_deeper, yield, levels, max_level, no_else_lost}
use Rattle.ba_trees.specs.Marks as rule
use Rattle.ba_parse.specs.Files.{IsParsed}
use Rattle.ba_parse.specs.Grammar.{Part, Spells, after, nothing, many, rule, either, maybe, operand, operator, assign_sign, expression, is_nothing, is_token, is_words, is_node, is_rule, is_after, is_first, is_second, is_none, is_more, is_deeper}
use Rattle.ba_samples.proofs.Marks.{operand_marks, plain_marks, chain_marks, binary_marks, assignment_marks, assert_marks, return_marks, first_marks, addition_marks, additions_marks, assertion_marks, last_return_marks, ending_marks, items_marks, void_marks, block_marks, function_marks, opening_marks, closing_marks, one_row, last_token, sample_marks, last_marks}
use Rattle.ba_samples.proofs.Tokens.{token, name_kind, number_token, addition_tokens, additions_tokens, head_tokens, sample_tokens}

-- EXPRESSIONS

left_out : (a : Part) → Spells (maybe a) []
left_out a = is_second a nothing [] is_nothing

-- a part, and one that is left out
alone : (a b : Part) (f : List Mark) → Spells a f → Spells (after a (λ g. maybe b)) f
alone a b f spelled = subst (Spells (after a (λ g. maybe b))) (append-nil f)
    (is_after a (λ g. maybe b) f [] spelled (left_out b))

operand_spelled : (n : ℕ) (f : List Mark) → Spells (rule rule.unary) f → Spells (operand n) f
operand_spelled zero f spelled = spelled
operand_spelled (suc n) f spelled = alone (operand n) (rule (rule.chain (suc n))) f
    (operand_spelled n f spelled)

next_operand : (n : ℕ) (f : List Mark) → Spells (operand n) f → Spells (operand (suc n)) f
next_operand n f spelled = alone (operand n) (rule (rule.chain (suc n))) f spelled

-- a primary expression of one token
abbrev IsPrimary : Token → Type 0
IsPrimary t = Spells (rule rule.primary) (node_of rule.primary (leaf t ∷ []))

named : (t : Token) → only class.Name (class_of t) ≡ true → IsPrimary t
named t is = is_rule _ (leaf t ∷ []) (is_first _ _ (leaf t ∷ [])
    (is_after _ _ (leaf t ∷ []) [] (is_token _ t is) (is_second _ _ [] (left_out _))))

constant : (t : Token) → only class.Constant (class_of t) ≡ true → IsPrimary t
constant t is = is_rule _ (leaf t ∷ []) (is_second _ _ (leaf t ∷ [])
    (is_first _ _ (leaf t ∷ []) (is_token _ t is)))

unary_spelled : (t : Token) → IsPrimary t → Spells (rule rule.unary) (operand_marks t)
unary_spelled t is = let f = node_of rule.primary (leaf t ∷ []) in
    is_rule _ f (is_second _ _ f (is_second _ _ f is))

conditional_spelled : (f : List Mark) → Spells (operand 10) f → Spells expression (node_of rule.conditional f)
conditional_spelled f spelled = is_rule _ f (alone _ _ f spelled)

plain_spelled : (t : Token) → IsPrimary t → Spells expression (plain_marks t)
plain_spelled t is = conditional_spelled (operand_marks t)
    (operand_spelled 10 (operand_marks t) (unary_spelled t is))

chain_spelled : (n : ℕ) (op b : Token) → operator (suc n) (class_of op) ≡ true → IsPrimary b
    → Spells (rule (rule.chain (suc n))) (chain_marks (suc n) op b)
chain_spelled n op b operates is = is_rule _ (leaf op ∷ one_deeper (operand_marks b))
    (is_after _ _ (leaf op ∷ []) (one_deeper (operand_marks b)) (is_token _ op operates)
    (is_deeper _ (operand_marks b) (operand_spelled (suc n) (operand_marks b) (unary_spelled b is))))

binary_spelled : (n : ℕ) (a op b : Token) → IsPrimary a → operator (suc n) (class_of op) ≡ true → IsPrimary b
    → Spells (operand (suc n)) (operand_marks a ++ chain_marks (suc n) op b)
binary_spelled n a op b left operates right =
    is_after _ _ (operand_marks a) (chain_marks (suc n) op b)
    (operand_spelled n (operand_marks a) (unary_spelled a left))
    (is_first _ _ (chain_marks (suc n) op b) (chain_spelled n op b operates right))

sum_spelled : (a op b : Token) → IsPrimary a → operator 2 (class_of op) ≡ true → IsPrimary b
    → Spells expression (binary_marks 2 a op b)
sum_spelled a op b left operates right = let f = operand_marks a ++ chain_marks 2 op b in
    conditional_spelled f (next_operand 9 f (next_operand 8 f (next_operand 7 f (next_operand 6 f
    (next_operand 5 f (next_operand 4 f (next_operand 3 f (next_operand 2 f
    (binary_spelled 1 a op b left operates right)))))))))

equality_spelled : (a op b : Token) → IsPrimary a → operator 5 (class_of op) ≡ true → IsPrimary b
    → Spells expression (binary_marks 5 a op b)
equality_spelled a op b left operates right = let f = operand_marks a ++ chain_marks 5 op b in
    conditional_spelled f (next_operand 9 f (next_operand 8 f (next_operand 7 f (next_operand 6 f
    (next_operand 5 f (binary_spelled 4 a op b left operates right))))))

-- STATEMENTS

assignment_spelled : (name assign a op b semicolon : Token) → only class.Name (class_of name) ≡ true
    → assign_sign (class_of assign) ≡ true → IsPrimary a → operator 2 (class_of op) ≡ true → IsPrimary b
    → mark punct.Semicolon (class_of semicolon) ≡ true
    → Spells (rule rule.statement) (assignment_marks name assign a op b semicolon)
assignment_spelled name assign a op b semicolon is_name assigns left operates right ends =
    let value = binary_marks 2 a op b in
    let place = node_of rule.target (leaf name ∷ []) in
    let simple = node_of rule.simple (place ++ (leaf assign ∷ value)) in
    let whole = simple ++ leaf semicolon ∷ [] in
    is_rule _ whole (is_second _ _ whole (is_second _ _ whole (is_first _ _ whole
    (is_after _ _ simple (leaf semicolon ∷ [])
    (is_rule _ (place ++ (leaf assign ∷ value))
    (is_second _ _ (place ++ (leaf assign ∷ value)) (is_second _ _ (place ++ (leaf assign ∷ value))
    (is_after _ _ place (leaf assign ∷ value)
    (is_rule _ (leaf name ∷ []) (alone _ _ (leaf name ∷ []) (is_token _ name is_name)))
    (is_second _ _ (leaf assign ∷ value)
    (is_after _ _ (leaf assign ∷ []) value (is_token _ assign assigns)
    (sum_spelled a op b left operates right)))))))
    (is_token _ semicolon ends)))))

addition_spelled : (line : ℕ) → Spells (rule rule.statement) (addition_marks line)
addition_spelled line = assignment_spelled (token line 5 name_kind) (token line 7 (kind.Punct punct.Assign))
    (token line 9 name_kind) (token line 11 (kind.Punct punct.Plus)) (token line 13 (number_token 1))
    (token line 14 (kind.Punct punct.Semicolon))
    refl refl (named (token line 9 name_kind) refl) refl (constant (token line 13 (number_token 1)) refl) refl

assert_spelled : (key opener a op b closer semicolon : Token) → word keyword.Assert (class_of key) ≡ true
    → mark punct.OpenParenthesis (class_of opener) ≡ true → IsPrimary a → operator 5 (class_of op) ≡ true
    → IsPrimary b → mark punct.CloseParenthesis (class_of closer) ≡ true
    → mark punct.Semicolon (class_of semicolon) ≡ true
    → Spells (rule rule.statement) (assert_marks key opener a op b closer semicolon)
assert_spelled key opener a op b closer semicolon is_key opens left operates right closes ends =
    let test = binary_marks 5 a op b in
    let condition = leaf opener ∷ (one_deeper test ++ leaf closer ∷ []) in
    let whole = leaf key ∷ (condition ++ leaf semicolon ∷ []) in
    is_rule _ whole (is_second _ _ whole (is_second _ _ whole (is_second _ _ whole (is_second _ _ whole
    (is_second _ _ whole (is_second _ _ whole (is_second _ _ whole (is_second _ _ whole (is_second _ _ whole
    (is_second _ _ whole (is_second _ _ whole (is_first _ _ whole
    (is_after _ _ (leaf key ∷ []) (condition ++ leaf semicolon ∷ []) (is_token _ key is_key)
    (is_after _ _ condition (leaf semicolon ∷ [])
    (is_after _ _ (leaf opener ∷ []) (one_deeper test ++ leaf closer ∷ []) (is_token _ opener opens)
    (is_after _ _ (one_deeper test) (leaf closer ∷ [])
    (is_deeper _ test (equality_spelled a op b left operates right)) (is_token _ closer closes)))
    (is_token _ semicolon ends)))))))))))))))

assertion_spelled : (line digits v : ℕ) → Spells (rule rule.statement) (assertion_marks line digits v)
assertion_spelled line digits v = assert_spelled (token line 5 (kind.Keyword keyword.Assert))
    (token line 11 (kind.Punct punct.OpenParenthesis)) (token line 12 name_kind)
    (token line 14 (kind.Punct punct.Equal)) (token line 17 (number_token v))
    (token line (17 + digits) (kind.Punct punct.CloseParenthesis))
    (token line (17 + digits + 1) (kind.Punct punct.Semicolon))
    refl refl (named (token line 12 name_kind) refl) refl (constant (token line 17 (number_token v)) refl)
    refl refl

return_spelled : (key value semicolon : Token) → word keyword.Return (class_of key) ≡ true → IsPrimary value
    → mark punct.Semicolon (class_of semicolon) ≡ true
    → Spells (rule rule.statement) (return_marks key value semicolon)
return_spelled key value semicolon is_key is ends =
    let whole = leaf key ∷ (plain_marks value ++ leaf semicolon ∷ []) in
    is_rule _ whole (is_second _ _ whole (is_second _ _ whole (is_second _ _ whole (is_second _ _ whole
    (is_second _ _ whole (is_second _ _ whole (is_second _ _ whole (is_second _ _ whole (is_second _ _ whole
    (is_second _ _ whole (is_first _ _ whole
    (is_after _ _ (leaf key ∷ []) (plain_marks value ++ leaf semicolon ∷ []) (is_token _ key is_key)
    (is_after _ _ (plain_marks value) (leaf semicolon ∷ [])
    (is_first _ _ (plain_marks value) (plain_spelled value is)) (is_token _ semicolon ends))))))))))))))

last_return_spelled : (line : ℕ) → Spells (rule rule.statement) (last_return_marks line)
last_return_spelled line = return_spelled (token line 5 (kind.Keyword keyword.Return))
    (token line 12 (number_token 0))
    (token line 13 (kind.Punct punct.Semicolon)) refl (constant (token line 12 (number_token 0)) refl) refl

-- THE DECLARATION, which is the word `int`, a name and its value

first_spelled : Spells (rule rule.declaration) first_marks
first_spelled =
    let int = token 2 5 (kind.Keyword keyword.Int) in
    let name = token 2 9 name_kind in
    let assign = token 2 11 (kind.Punct punct.Assign) in
    let value = token 2 13 (number_token 0) in
    let semicolon = token 2 14 (kind.Punct punct.Semicolon) in
    let words = node_of rule.specifiers (leaf int ∷ []) in
    let begun = leaf assign ∷ plain_marks value in
    let one = node_of rule.declarator (leaf name ∷ begun) in
    let all = node_of rule.declarators one in
    is_rule _ ((words ++ all) ++ leaf semicolon ∷ [])
    (is_after _ _ (words ++ all) (leaf semicolon ∷ [])
    (is_after _ _ words all
    (is_node _ _ (leaf int ∷ [])
    (is_after _ _ (leaf int ∷ []) [] (is_words false (int ∷ []) refl) is_nothing))
    (is_rule _ one
    (is_after _ _ one []
    (is_rule _ (leaf name ∷ begun)
    (is_after _ _ (leaf name ∷ []) begun (is_token _ name refl)
    (is_after _ _ [] begun (left_out _)
    (is_first _ _ begun
    (is_after _ _ (leaf assign ∷ []) (plain_marks value) (is_token _ assign refl)
    (is_second _ _ (plain_marks value) (plain_spelled value (constant value refl))))))))
    (is_none _))))
    (is_token _ semicolon refl))

-- THE FILE

abbrev item : Part
item = either (rule rule.declaration) (rule rule.statement)

stated : (f g : List Mark) → Spells (rule rule.statement) f → Spells (many item) g
    → Spells (many item) (f ++ g)
stated f g spelled others = is_more item f g (is_second _ _ f spelled) others

additions_spelled : (count line : ℕ) (g : List Mark) → Spells (many item) g
    → Spells (many item) (additions_marks count line ++ g)
additions_spelled zero line g others = others
additions_spelled (suc count) line g others = stated (addition_marks line)
    (additions_marks count (line + 1) ++ g)
    (addition_spelled line) (additions_spelled count (line + 1) g others)

items_spelled : (n : ℕ) → Spells (many item) (items_marks n)
items_spelled n =
    let digits = length (decimal (n + 1)) in
    is_more item first_marks (additions_marks n 3 ++ ending_marks (3 + n) digits (n + 1))
    (is_first _ _ first_marks first_spelled)
    (additions_spelled n 3 (ending_marks (3 + n) digits (n + 1))
    (stated (assertion_marks (3 + n) digits (n + 1)) (last_return_marks (3 + n + 1))
    (assertion_spelled (3 + n) digits (n + 1))
    (stated (last_return_marks (3 + n + 1)) [] (last_return_spelled (3 + n + 1)) (is_none item))))

block_spelled : (items : List Mark) (closer : Token) → Spells (many item) items
    → mark punct.CloseBrace (class_of closer) ≡ true → Spells (rule rule.block) (block_marks items closer)
block_spelled items closer spelled closes =
    let opener = token 1 16 (kind.Punct punct.OpenBrace) in
    let behind = one_deeper items ++ leaf closer ∷ [] in
    is_rule _ (leaf opener ∷ behind)
    (is_after _ _ (leaf opener ∷ []) behind (is_token _ opener refl)
    (is_after _ _ (one_deeper items) (leaf closer ∷ []) (is_deeper _ items spelled)
    (is_token _ closer closes)))

void_spelled : Spells (rule rule.parameters) void_marks
void_spelled =
    let void = token 1 10 (kind.Keyword keyword.Void) in
    let words = node_of rule.type_name (leaf void ∷ []) in
    let parameter = words ++ node_of rule.no_name [] in
    let one = node_of rule.parameter parameter in
    is_rule _ one (is_first _ _ one (is_after _ _ one []
    (is_rule _ parameter
    (is_after _ _ words (node_of rule.no_name [])
    (is_node _ _ (leaf void ∷ []) (is_after _ _ (leaf void ∷ []) [] (is_words false (void ∷ []) refl)
    is_nothing))
    (is_after _ _ (node_of rule.no_name []) []
    (is_second _ _ (node_of rule.no_name []) (is_node _ _ [] is_nothing)) (left_out _))))
    (is_none _)))

function_spelled : (items : List Mark) (closer : Token) → Spells (many item) items
    → mark punct.CloseBrace (class_of closer) ≡ true
    → Spells (rule rule.external) (function_marks items closer)
function_spelled items closer spelled closes =
    let int = token 1 1 (kind.Keyword keyword.Int) in
    let name = token 1 5 (kind.Name (codes "main")) in
    let opener = token 1 9 (kind.Punct punct.OpenParenthesis) in
    let end = token 1 14 (kind.Punct punct.CloseParenthesis) in
    let body = block_marks items closer in
    let words = node_of rule.specifiers (leaf int ∷ []) in
    let behind = one_deeper void_marks ++ (leaf end ∷ body) in
    is_rule _ (words ++ (leaf name ∷ (leaf opener ∷ behind)))
    (is_after _ _ words (leaf name ∷ (leaf opener ∷ behind))
    (is_node _ _ (leaf int ∷ []) (is_after _ _ (leaf int ∷ []) [] (is_words true (int ∷ []) refl) is_nothing))
    (is_first _ _ (leaf name ∷ (leaf opener ∷ behind))
    (is_after _ _ (leaf name ∷ []) (leaf opener ∷ behind) (is_token _ name refl)
    (is_after _ _ (leaf opener ∷ []) behind (is_token _ opener refl)
    (is_after _ _ (one_deeper void_marks) (leaf end ∷ body) (is_deeper _ void_marks void_spelled)
    (is_after _ _ (leaf end ∷ []) body (is_token _ end refl)
    (is_first _ _ body (block_spelled items closer spelled closes))))))))

sample_spelled : (n : ℕ) → Spells (rule rule.file) (sample_marks n)
sample_spelled n =
    let closer = last_token (3 + n + 1 + 1) in
    let external = function_marks (items_marks n) closer in
    is_rule _ (external ++ [])
    (is_more _ external [] (function_spelled (items_marks n) closer (items_spelled n) refl) (is_none _))

-- AS ONE ROW

pub sample_row : (n : ℕ)
    → sample_marks n ≡ opening_marks ++ (first_marks ++ (additions_marks n 3 ++ last_marks n))
sample_row n = one_row (items_marks n) (last_token (3 + n + 1 + 1))
    ∙ ap (λ ms. opening_marks ++ (first_marks ++ ms))
    (append_assoc (additions_marks n 3) (ending_marks (3 + n) (length (decimal (n + 1))) (n + 1))
    (closing_marks (last_token (3 + n + 1 + 1))))

additions_yield : (count line : ℕ) (g : List Mark)
    → yield (additions_marks count line ++ g) ≡ additions_tokens count line ++ yield g
additions_yield zero line g = refl
additions_yield (suc count) line g = ap (λ ts. addition_tokens line ++ ts)
    (additions_yield count (line + 1) g)

yields : (n : ℕ) → yield (sample_marks n) ≡ sample_tokens n
yields n = ap yield (sample_row n) ∙ ap (λ ts. head_tokens ++ ts) (additions_yield n 3 (last_marks n))

additions_pair : (count line : ℕ) (g : List Mark) (next : Option Token)
    → no_else_lost (additions_marks count line ++ g) next ≡ no_else_lost g next
additions_pair zero line g next = refl
additions_pair (suc count) line g next = additions_pair count (line + 1) g next

pairs : (n : ℕ) → no_else_lost (sample_marks n) None ≡ true
pairs n = ap (λ ms. no_else_lost ms None) (sample_row n) ∙ additions_pair n 3 (last_marks n) None

abbrev are_low : List ℕ → Bool
are_low = list_all (λ level. nat_le level max_level)

additions_low : (count line : ℕ) (g : List Mark)
    → are_low (levels 1 (additions_marks count line ++ g)) ≡ are_low (levels 1 g)
additions_low zero line g = refl
additions_low (suc count) line g = additions_low count (line + 1) g

low : (n : ℕ) → are_low (levels 0 (sample_marks n)) ≡ true
low n = ap (λ ms. are_low (levels 0 ms)) (sample_row n) ∙ additions_low n 3 (last_marks n)

low_by : (level : ℕ) → nat_le level max_level ≡ true → level ≤ max_level
low_by level is = grind (arith, nat_tests)

each_low : (ls : List ℕ) → are_low ls ≡ true → (j : ℕ) → get_or ls j 0 ≤ max_level
each_low [] all j = omega arith
each_low (l ∷ ls) all zero = low_by l (and_parts (nat_le l max_level) (are_low ls) all).0
each_low (l ∷ ls) all (suc j) = each_low ls (and_parts (nat_le l max_level) (are_low ls) all).1 j

pub parsed : (n : ℕ) → IsParsed (sample_tokens n) (sample_marks n)
parsed n = record {
  is_file = record { spelled = sample_spelled n; yields = yields n; pairs_else = pairs n };
  accepted = each_low (levels 0 (sample_marks n)) (low n);
}
