-- Each tree of a sample's tokens has no fault, and the sample's typed tree.
use Rattle.std.proofs.Common.{◌≡◌, zero, suc, ℕ, ◌+◌, ◌≤◌, pos, Bool, true, false, cond, None, Some, List, [], ◌∷◌, ◌++◌, map, length, codes, refl, sym, ◌∙◌, ap, append-nil, arith}
use Rattle.std.specs.Prelude.{nat_lt}
use Rattle.std.specs.List.{range_with_len}
use Rattle.std.proofs.lemmas.Bool.Decides.{nat_tests}
use Rattle.ba_numbers.specs.Numbers.{converted}
use Rattle.ba_numbers.specs.declared.numbers.BinOp.TheVariants.{Eq}
use Rattle.ba_numbers.specs.declared.numbers.CType.TheVariants.{I32}
use Rattle.ba_tokens.specs.declared.token.Keyword.TheVariants as keyword
use Rattle.ba_tokens.specs.declared.token.Punct.TheVariants as punct
use Rattle.ba_tokens.specs.declared.token.Token.{Token}
use Rattle.ba_tokens.specs.declared.token.TokenKind.TheVariants as kind
use Rattle.ba_trees.specs.FileMarks.{file_marks}
use Rattle.ba_trees.specs.Marks.{Mark}
use Rattle.ba_trees.specs.declared.tree.statements.RawProgram.{RawProgram}
use Rattle.ba_tree.specs.Least.{stmt_of}
use Rattle.ba_tree.specs.Trees.{ExprTree, StmtTree, ProgramTree}
use Rattle.ba_tree.specs.Trees as tree
use Rattle.ba_tree.specs.declared.tree.StmtInfo.{StmtInfo}
use Rattle.ba_tree.specs.declared.tree.StmtKind.TheVariants.{Initialiser, Return, Assert}
use Rattle.ba_typing.specs.Declarations.{Added, Before, Part, ◌and◌, behind, in_order}
use Rattle.ba_typing.specs.Expressions.{Typing}
use Rattle.ba_typing.specs.Faults.{limit_faults, statement_limit}
use Rattle.ba_typing.specs.Files.{faults_of, no_parts, typed_of, vars_from}
use Rattle.ba_typing.specs.Names.{Scope, knowing, no_exits}
use Rattle.ba_typing.specs.Statements.{add_assert, add_jump_with}
use Rattle.ba_typing.specs.declared.fault.Fault.{Fault}
use Rattle.ba_typing.specs.declared.meanings.Entity.TheVariants as entity
use Rattle.ba_typing.specs.declared.meanings.Entry.{Entry}
use Rattle.ba_typing.specs.declared.meanings.Signature.{Signature}
use Rattle.ba_tree_laws.proofs.FileRows.{faults_by, faults_from, items_by, items_in, typed_by, typed_from}
use Rattle.ba_tree_laws.proofs.Rows.{ExternalItem, Item, ParamItem, Row, SpecifierItem, as_block_item, assigning, chain_item, conditional_of, declaration_of, declarator_of, declarators_of, items_of, primary_of, read, unary_of}
use Rattle.ba_tree_laws.proofs.Rows as row
use Rattle.ba_samples.specs.Sample.{addition, addition_info, constant, counter, info, int_variable, sample_tree}
use Rattle.ba_samples.proofs.Marks.{addition_marks, additions_marks, last_marks, sample_marks}
use Rattle.ba_samples.proofs.Parsing.{sample_row}
use Rattle.ba_samples.proofs.Tokens.{at, token, name_kind, number_token}
use Rattle.ba_samples.proofs.Values.{own_value}

-- WHAT EACH PART OF THE TREE COMES TO

-- an operand of one token; the expression that is this operand, or two of them with an operator between
abbrev operand_item : Token → Item
operand_item t = row.unary (unary_of (row.primary (primary_of (row.token t ∷ [])) ∷ []))

abbrev plain_typing : Token → Typing
plain_typing t = conditional_of (operand_item t ∷ [])

abbrev binary_typing : ℕ → Token → Token → Token → Typing
binary_typing level a op b =
    conditional_of (operand_item a ∷ row.chain (chain_item level (row.token op ∷ operand_item b ∷ [])) ∷ [])

abbrev addition_part : ℕ → Part
addition_part line = assigning (at line 5) (token line 5 name_kind) None None
    (binary_typing 2 (token line 9 name_kind) (token line 11 (kind.Punct punct.Plus))
    (token line 13 (number_token 1)))

abbrev additions_parts : ℕ → ℕ → List Part
additions_parts zero line = []
additions_parts (suc count) line = addition_part line ∷ additions_parts count (line + 1)

abbrev assertion_part : ℕ → ℕ → Part
assertion_part line v = add_assert (at line 5)
    (binary_typing 5 (token line 12 name_kind) (token line 14 (kind.Punct punct.Equal))
    (token line 17 (number_token v)))

abbrev return_part : ℕ → Part
return_part line = add_jump_with (token line 5 (kind.Keyword keyword.Return))
    (Some (plain_typing (token line 12 (number_token 0))))

abbrev int_words : Token → SpecifierItem
int_words t = record { words = t ∷ []; constants = None }

abbrev first_part : Part
first_part = declaration_of (row.specifiers (int_words (token 2 5 (kind.Keyword keyword.Int)))
    ∷ row.declarators (declarators_of (row.declarator (declarator_of
    (row.token (token 2 9 name_kind) ∷ row.token (token 2 11 (kind.Punct punct.Assign))
    ∷ row.conditional (plain_typing (token 2 13 (number_token 0))) ∷ [])) ∷ []))
    ∷ row.token (token 2 14 (kind.Punct punct.Semicolon)) ∷ [])

-- THE ROWS

abbrev additions_row : ℕ → ℕ → Row
additions_row zero line = []
additions_row (suc count) line = row.statement (addition_part line) ∷ additions_row count (line + 1)

addition_row : (line : ℕ) (rest : List Mark) (before : Row) (outer : List Row)
    → read (addition_marks line ++ rest) before outer
    ≡ read rest (before ++ row.statement (addition_part line) ∷ []) outer
addition_row line rest before outer = refl

append_one : (before : Row) (i : Item) (others : Row) → (before ++ i ∷ []) ++ others ≡ before ++ (i ∷ others)
append_one [] i others = refl
append_one (j ∷ before) i others = ap (λ is. j ∷ is) (append_one before i others)

additions_read : (count line : ℕ) (rest : List Mark) (before : Row) (outer : List Row)
    → read (additions_marks count line ++ rest) before outer
    ≡ read rest (before ++ additions_row count line) outer
additions_read zero line rest before outer = ap (λ is. read rest is outer) (sym (append-nil before))
additions_read (suc count) line rest before outer =
    addition_row line (additions_marks count (line + 1) ++ rest) before outer
    ∙ additions_read count (line + 1) rest (before ++ row.statement (addition_part line) ∷ []) outer
    ∙ ap (λ is. read rest is outer) (append_one before (row.statement (addition_part line))
    (additions_row count (line + 1)))

-- the parts in the block, if so much is after the additions
parts_in : (count line : ℕ) (a b : Part) (t : Token)
    → items_of as_block_item
    (((additions_row count line ++ row.statement a ∷ []) ++ row.statement b ∷ []) ++ row.token t ∷ [])
    ≡ additions_parts count line ++ a ∷ b ∷ []
parts_in zero line a b t = refl
parts_in (suc count) line a b t = ap (λ parts. addition_part line ∷ parts) (parts_in count (line + 1) a b t)

abbrev void_item : ParamItem
void_item = record { words = token 1 10 (kind.Keyword keyword.Void) ∷ []; name = None; length = None }

abbrev main_items : List Part → List ExternalItem
main_items parts = row.function (int_words (token 1 1 (kind.Keyword keyword.Int)))
    (token 1 5 (kind.Name (codes "main")))
    (void_item ∷ []) (Some parts) ∷ []

-- the row of main around its block
abbrev main_row : Row
main_row = row.specifiers (int_words (token 1 1 (kind.Keyword keyword.Int)))
    ∷ row.token (token 1 5 (kind.Name (codes "main")))
    ∷ row.token (token 1 9 (kind.Punct punct.OpenParenthesis))
    ∷ row.parameters (void_item ∷ [])
    ∷ row.token (token 1 14 (kind.Punct punct.CloseParenthesis))
    ∷ []

abbrev parts_of : ℕ → List Part
parts_of n = first_part
    ∷ (additions_parts n 3 ++ assertion_part (3 + n) (n + 1) ∷ return_part (3 + n + 1) ∷ [])

items_are : (n : ℕ) → items_by (sample_marks n) ≡ main_items (parts_of n)
items_are n = ap items_by (sample_row n)
    ∙ ap items_in (additions_read n 3 (last_marks n)
    (row.token (token 1 16 (kind.Punct punct.OpenBrace)) ∷ row.declaration first_part ∷ [])
    (main_row ∷ [] ∷ [] ∷ []))
    ∙ ap (λ parts. main_items (first_part ∷ parts))
    (parts_in n 3 (assertion_part (3 + n) (n + 1)) (return_part (3 + n + 1))
    (token (3 + n + 1 + 1) 1 (kind.Punct punct.CloseBrace)))

-- TYPING, part by part

abbrev main_signature : Signature
main_signature = record {
  name = codes "main";
  result = Some I32;
  params = Some [];
  is_definition = true;
  function = record { 0 = 0 };
}

-- main's scope, before and after the declaration
abbrev first_scope : Scope
first_scope = record {
  functions = main_signature ∷ [];
  known = [];
  depth = 1;
  exits = no_exits;
  result = Some I32;
}

abbrev counter_entry : Entry
counter_entry = record {
  name = codes "s";
  depth = 1;
  entity = entity.Variable (record { var = counter; variable = int_variable });
}

abbrev scope : Scope
scope = record first_scope { known = counter_entry ∷ [] }

abbrev before : ℕ → Before
before statements = record { variables = 1; constants = 0; statements = statements; calls = 0; elements = 0 }

-- statements with numbers, and these faults
abbrev adding : List StmtTree → List StmtInfo → List Fault → Added
adding stmts infos faults = record {
  stmts = stmts;
  entries = [];
  variables = [];
  constants = 0;
  statements = infos;
  calls = 0;
  elements = 0;
  faults = faults;
}

abbrev past : Bool → ℕ → List Fault
past over line = cond over (limit_faults 0 1 (at line 5)) [] ++ []

within : (m : ℕ) → m + 1 ≤ 4000 → nat_lt statement_limit (m + 1) ≡ false
within m low = grind (arith, nat_tests)

addition_typed : (m line : ℕ) → addition_part line scope (before m)
    ≡ adding (addition (m + 1) ∷ []) (addition_info line ∷ []) (past (nat_lt statement_limit (m + 1)) line)
unfolding converted
addition_typed m line = refl

addition_added : (m line : ℕ) → m + 1 ≤ 4000 → addition_part line scope (before m)
    ≡ adding (addition (m + 1) ∷ []) (addition_info line ∷ []) []
addition_added m line low = addition_typed m line
    ∙ ap (λ over. adding (addition (m + 1) ∷ []) (addition_info line ∷ []) (past over line)) (within m low)

additions_added : (count m line : ℕ) (rest : List Part) (stmts : List StmtTree) (infos : List StmtInfo)
    → m + count ≤ 4000 → in_order rest scope (before (m + count)) ≡ adding stmts infos []
    → in_order (additions_parts count line ++ rest) scope (before m)
    ≡ adding (map addition (range_with_len (m + 1) count) ++ stmts)
    (map addition_info (range_with_len line count) ++ infos) []
additions_added zero m line rest stmts infos low is =
    let same : m ≡ m + 0 = omega arith in ap (λ m. in_order rest scope (before m)) same ∙ is
additions_added (suc count) m line rest stmts infos low is =
    let same : m + 1 + count ≡ m + suc count = omega arith in
    let others : List Part = additions_parts count (line + 1) ++ rest in
    ap (λ (a : Added). a and in_order others (knowing a.entries scope) (behind (before m) a))
    (addition_added m line (omega arith))
    ∙ ap (λ (b : Added). adding (addition (m + 1) ∷ []) (addition_info line ∷ []) [] and b)
    (additions_added count (m + 1) (line + 1) rest stmts infos (omega arith)
    (ap (λ m. in_order rest scope (before m)) same ∙ is))

-- the assertion, whose constant is converted to its own type
abbrev assertion_of : ℕ → ExprTree → StmtTree
assertion_of stmt e = tree.assert (stmt_of stmt) (tree.binary Eq I32 (tree.var counter) e)

assertion_typed : (m line v : ℕ) → assertion_part line v scope (before m)
    ≡ adding (assertion_of (m + 1) (tree.const I32 (converted I32 (pos v))) ∷ []) (info line 5 Assert ∷ [])
    (past (nat_lt statement_limit (m + 1)) line)
assertion_typed m line v = refl

assertion_added : (m line v : ℕ) → m + 1 ≤ 4000 → v ≤ 4000 → assertion_part line v scope (before m)
    ≡ adding (assertion_of (m + 1) (constant v) ∷ []) (info line 5 Assert ∷ []) []
assertion_added m line v low small = assertion_typed m line v
    ∙ ap (λ z. adding (assertion_of (m + 1) (tree.const I32 z) ∷ []) (info line 5 Assert ∷ [])
    (past (nat_lt statement_limit (m + 1)) line)) (own_value v (omega arith))
    ∙ ap (λ over. adding (assertion_of (m + 1) (constant v) ∷ []) (info line 5 Assert ∷ []) (past over line))
    (within m low)

return_typed : (m line : ℕ) → return_part line scope (before m)
    ≡ adding (tree.return_value (stmt_of (m + 1)) (constant 0) ∷ []) (info line 5 Return ∷ [])
    (past (nat_lt statement_limit (m + 1)) line)
unfolding converted
return_typed m line = refl

return_added : (m line : ℕ) → m + 1 ≤ 4000 → return_part line scope (before m)
    ≡ adding (tree.return_value (stmt_of (m + 1)) (constant 0) ∷ []) (info line 5 Return ∷ []) []
return_added m line low = return_typed m line
    ∙ ap (λ over. adding (tree.return_value (stmt_of (m + 1)) (constant 0) ∷ []) (info line 5 Return ∷ [])
    (past over line))
    (within m low)

abbrev ends : ℕ → ℕ → ℕ → List StmtTree
ends a b v = assertion_of a (constant v) ∷ tree.return_value (stmt_of b) (constant 0) ∷ []

abbrev end_infos : ℕ → ℕ → List StmtInfo
end_infos k l = info k 5 Assert ∷ info l 5 Return ∷ []

ends_added : (m line v : ℕ) → m + 2 ≤ 4000 → v ≤ 4000
    → in_order (assertion_part line v ∷ return_part (line + 1) ∷ []) scope (before m)
    ≡ adding (ends (m + 1) (m + 1 + 1) v) (end_infos line (line + 1)) []
ends_added m line v low small =
    ap (λ (a : Added). a and in_order (return_part (line + 1) ∷ []) (knowing a.entries scope)
    (behind (before m) a))
    (assertion_added m line v (omega arith) small)
    ∙ ap (λ (b : Added). adding (assertion_of (m + 1) (constant v) ∷ []) (info line 5 Assert ∷ []) []
    and (b and in_order [] (knowing b.entries scope) (behind (before (m + 1)) b)))
    (return_added (m + 1) (line + 1) (omega arith))

-- THE BODY

abbrev first_stmts : List StmtTree
first_stmts = tree.declare counter ∷ tree.init (stmt_of 1) counter (constant 0) ∷ []

abbrev body_added : List StmtTree → List StmtInfo → Added
body_added stmts infos = record {
  stmts = first_stmts ++ stmts;
  entries = counter_entry ∷ [];
  variables = int_variable ∷ [];
  constants = 0;
  statements = info 2 9 Initialiser ∷ infos;
  calls = 0;
  elements = 0;
  faults = [];
}

first_added : first_part first_scope no_parts ≡ body_added [] []
unfolding converted
first_added = refl

whole_added : (n : ℕ) → n ≤ 3997 → in_order (parts_of n) first_scope no_parts
    ≡ body_added (map addition (range_with_len 2 n) ++ ends (1 + n + 1) (1 + n + 1 + 1) (n + 1))
    (map addition_info (range_with_len 3 n) ++ end_infos (3 + n) (3 + n + 1))
whole_added n low =
    let last : List Part = assertion_part (3 + n) (n + 1) ∷ return_part (3 + n + 1) ∷ [] in
    ap (λ (a : Added). a and in_order (additions_parts n 3 ++ last) (knowing a.entries first_scope)
    (behind no_parts a))
    first_added
    ∙ ap (λ (b : Added). body_added [] [] and b)
    (additions_added n 1 3 last (ends (1 + n + 1) (1 + n + 1 + 1) (n + 1)) (end_infos (3 + n) (3 + n + 1))
    (omega arith)
    (ends_added (1 + n) (3 + n) (n + 1) (omega arith) (omega arith)))

-- THE FILE

abbrev program_by : Added → ProgramTree
program_by b = record {
  variables = b.variables ++ [];
  globals = [];
  inits = [];
  functions = record {
    result = Some I32;
    params = [];
    locals = vars_from 0 (length b.variables);
    body = b.stmts;
  } ∷ [];
  main = record { 0 = 0 };
  statements = b.statements ++ [];
}

file_typed : (parts : List Part)
    → typed_from (main_items parts) ≡ Some (program_by (in_order parts first_scope no_parts))
file_typed parts = refl

file_faults : (parts : List Part)
    → faults_from (main_items parts) ≡ (in_order parts first_scope no_parts).faults ++ []
file_faults parts = refl

-- the program with these last numbers and lines
abbrev numbered_tree : ℕ → ℕ → ℕ → ℕ → ℕ → ProgramTree
numbered_tree n a b k l = program_by (body_added (map addition (range_with_len 2 n) ++ ends a b (n + 1))
    (map addition_info (range_with_len 3 n) ++ end_infos k l))

numbered_is : (n a b k l : ℕ) → a ≡ n + 2 → b ≡ n + 3 → k ≡ n + 3 → l ≡ n + 4
    → numbered_tree n a b k l ≡ sample_tree n
numbered_is n a b k l a_is b_is k_is l_is =
    (λ i. numbered_tree n (a_is i) (b_is i) (k_is i) (l_is i))
    ∙ (λ i. record (sample_tree n) { statements = append-nil (sample_tree n).statements i })

module _ (n : ℕ) (low : n ≤ 3997) (raw : RawProgram) (same : file_marks raw ≡ sample_marks n) where
  pub clean : faults_of raw.externals.items ≡ []
  clean = faults_by raw ∙ ap (λ ms. faults_from (items_by ms)) same ∙ ap faults_from (items_are n)
      ∙ file_faults (parts_of n) ∙ ap (λ (b : Added). b.faults ++ []) (whole_added n low)

  pub typed : typed_of raw.externals.items ≡ Some (sample_tree n)
  typed = typed_by raw ∙ ap (λ ms. typed_from (items_by ms)) same ∙ ap typed_from (items_are n)
      ∙ file_typed (parts_of n) ∙ ap (λ (b : Added). Some (program_by b)) (whole_added n low)
      ∙ ap Some (numbered_is n (1 + n + 1) (1 + n + 1 + 1) (3 + n) (3 + n + 1)
      (omega arith) (omega arith) (omega arith) (omega arith))
