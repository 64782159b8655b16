-- A tree written out, read back. A node is known by the row of what is in it, and what typing makes of a tree
-- is a function of these rows.
use Rattle.std.proofs.Common.{◌≡◌, ℕ, ◌+◌, ℤ, pos, Bool, true, false, not, ◌==◌, cond, Option, None, Some, List, [], ◌∷◌, ◌++◌, map, length, refl, sym, ◌∙◌, ap, subst, append_assoc}
use Rattle.std.specs.Prelude.{flat_map, option_map, unwrap_or}
use Rattle.std.specs.Option.{is_some}
use Rattle.std.proofs.lemmas.List.{append-nil}
use Rattle.ba_tokens.specs.declared.token.Token.{Token}
use Rattle.ba_numbers.specs.Types.{promoted}
use Rattle.ba_numbers.specs.declared.ids.At.{At}
use Rattle.ba_numbers.specs.declared.ids.VarId.{VarId}
use Rattle.ba_numbers.specs.declared.numbers.BinOp.{BinOp}
use Rattle.ba_numbers.specs.declared.numbers.CType.{CType}
use Rattle.ba_numbers.specs.declared.numbers.CType.TheVariants.{I32}
use Rattle.ba_trees.specs.Marks.{Mark, Rule, leaf, enter, leave, down, up, node_of, one_deeper}
use Rattle.ba_trees.specs.Marks as rule
use Rattle.ba_tree.specs.declared.tree.StmtKind.TheVariants as kind
use Rattle.ba_typing.specs.Declarations.{Before, Part, nothing_added, ◌and◌, ◌then◌, nothing, in_order, behind, numbered, next_stmt, faults_added, add_written, add_tag, add_constant, enumerator_value, add_variable, add_declare, add_length, shape_of, written_count, exceeds, init_tree, typed_each, calls_in, initial_faults, TypedLength, typed_written_length, typed_counted_length}
use Rattle.ba_typing.specs.Expressions.{Typed, Typing, tree_as, BranchTypings, ChainTyping, typed_constant, typed_token, parenthesized, typed_element, typed_called, typed_call, typed_unary, typed_cast, with_more_faults, chain_of, whole_operand, with_branches}
use Rattle.ba_typing.specs.Faults.{fault_if, void_faults, tag_faults, limit_faults, height_limit}
use Rattle.ba_typing.specs.Names.{Scope, inner, knowing, looping, switching, meaning_of, name_of, punct_of, unary_operator, binary_operator, type_of_words, tag_of}
use Rattle.ba_typing.specs.Statements.{typed_target, index_faults, changed, assigned_tree, kind_of_target, one, add_call, operator_at, add_test, Labelled, no_labels, add_case, add_default, add_controlling, enclosing, one_of, optional_part, add_if, add_while, add_do, add_jump_with, add_assert, add_printf, add_block}
use Rattle.ba_tree.specs.Trees.{stmts_of}
use Rattle.ba_tree.specs.Trees as tree
use Rattle.ba_typing.specs.declared.fault.Cause.TheVariants.{WrongKind, WrongCount}
use Rattle.ba_typing.specs.declared.meanings.Labels.{Labels}
use Rattle.ba_typing.specs.declared.meanings.Signature.{Signature}

-- WHAT STANDS IN A ROW: tokens, and what the nodes between them come to

-- declarators, of a type, after functions
abbrev pub Declaring : Type 0
Declaring = List Signature → Option CType → Part

-- an enumeration constant, with its value if one is written
pub record ConstantItem : Type 0 where
  pub name : Token
  pub value : Option Typing

-- what a declaration begins with: its words, and the constants of an enumerated type, if there are some
pub record SpecifierItem : Type 0 where
  pub words : List Token
  pub constants : Option (List ConstantItem)

-- the words of a parameter's type, its name, and its length, which may have no expression
pub record ParamItem : Type 0 where
  pub words : List Token
  pub name : Option Token
  pub length : Option (Option Typing)

-- what is at the level of the file; a function has a body or none
pub data ExternalItem : Type 0 where
  variables : SpecifierItem → Declaring → ExternalItem
  function : SpecifierItem → Token → List ParamItem → Option (List Part) → ExternalItem

-- a label of a `switch`, by its constant or by where `default` stands, and the statements after it
pub data LabelItem : Type 0 where
  valued : Typing → LabelItem
  otherwise : At → LabelItem

pub record GroupItem : Type 0 where
  pub label : LabelItem
  pub statements : List Part

pub data Item : Type 0 where
  token : Token → Item
  words : List Token → Item
  specifiers : SpecifierItem → Item
  enumerators : List ConstantItem → Item
  enumerator : ConstantItem → Item
  primary : Typing → Item
  unary : Typing → Item
  conditional : Typing → Item
  arguments : List Typing → Item
  chain : ChainTyping → Item
  array_length : Option Typing → Item
  braced : List Typing → Item
  declarator : Declaring → Item
  declarators : Declaring → Item
  declaration : Part → Item
  target : Token → Option Typing → Item
  simple : Part → Item
  simples : Part → Item
  for_first : (Scope → Scope) → Part → Item
  block : List Part → Item
  statement : Part → Item
  label : LabelItem → Item
  group : GroupItem → Item
  parameter : ParamItem → Item
  parameters : List ParamItem → Item
  external : ExternalItem → Item
  file : List ExternalItem → Item
  absent : Item

abbrev pub Row : Type 0
Row = List Item

-- the items of one kind
abbrev pub with_item : {A : Type 0} → Option A → List A → List A
with_item None xs = xs
with_item (Some x) xs = x ∷ xs

abbrev pub items_of : {A : Type 0} → (Item → Option A) → Row → List A
items_of pick [] = []
items_of pick (i ∷ is) = with_item (pick i) (items_of pick is)

abbrev pub first_of : {A : Type 0} → List A → Option A
first_of [] = None
first_of (x ∷ xs) = Some x

abbrev pub as_token : Item → Option Token
as_token (token t) = Some t
as_token _ = None

abbrev pub as_conditional : Item → Option Typing
as_conditional (conditional e) = Some e
as_conditional _ = None

abbrev pub as_chain : Item → Option ChainTyping
as_chain (chain c) = Some c
as_chain _ = None

abbrev pub as_length : Item → Option (Option Typing)
as_length (array_length l) = Some l
as_length _ = None

abbrev pub as_braced : Item → Option (List Typing)
as_braced (braced b) = Some b
as_braced _ = None

abbrev pub as_enumerators : Item → Option (List ConstantItem)
as_enumerators (enumerators cs) = Some cs
as_enumerators _ = None

abbrev pub as_enumerator : Item → Option ConstantItem
as_enumerator (enumerator c) = Some c
as_enumerator _ = None

abbrev pub as_declarator : Item → Option Declaring
as_declarator (declarator d) = Some d
as_declarator _ = None

abbrev pub as_simple : Item → Option Part
as_simple (simple s) = Some s
as_simple _ = None

abbrev pub as_simples : Item → Option Part
as_simples (simples s) = Some s
as_simples _ = None

abbrev pub as_statement : Item → Option Part
as_statement (statement s) = Some s
as_statement _ = None

abbrev pub as_block_item : Item → Option Part
as_block_item (declaration d) = Some d
as_block_item (statement s) = Some s
as_block_item _ = None

abbrev pub as_group : Item → Option GroupItem
as_group (group g) = Some g
as_group _ = None

abbrev pub as_parameter : Item → Option ParamItem
as_parameter (parameter p) = Some p
as_parameter _ = None

abbrev pub as_external : Item → Option ExternalItem
as_external (external x) = Some x
as_external _ = None

-- EXPRESSIONS. What is in no tree comes to anything.

abbrev pub no_typing : Typing
no_typing scope calls = typed_constant (record { line = 0; column = 0 }) I32 (pos 0)

abbrev pub from_name : Token → Row → Typing
from_name t (conditional index ∷ is) scope calls =
    typed_element t.at (meaning_of scope (name_of t)) (index scope calls)
from_name t (arguments typings ∷ is) scope calls =
    typed_called t.at (typed_call true t.at (name_of t) typings scope calls)
from_name t _ scope calls = no_typing scope calls

abbrev pub from_token : Token → Row → Typing
from_token t [] = typed_token t
from_token t (conditional e ∷ is) = parenthesized t.at e
from_token t (token opener ∷ is) = from_name t is
from_token t _ = no_typing

abbrev pub primary_of : Row → Typing
primary_of (token t ∷ is) = from_token t is
primary_of _ = no_typing

abbrev pub cast_to : At → List Token → Typing → Typing
cast_to at ws a scope calls = with_more_faults (tag_faults scope (tag_of ws))
    (typed_cast at (type_of_words ws) (a scope calls))

abbrev pub cast_of : At → List Token → Row → Typing
cast_of at ws (unary a ∷ is) scope calls = cast_to at ws a scope calls
cast_of at ws (token closer ∷ unary a ∷ is) scope calls = cast_to at ws a scope calls
cast_of at ws _ scope calls = no_typing scope calls

abbrev pub prefixed : Token → Row → Typing
prefixed t (unary a ∷ is) scope calls = typed_unary t.at (unary_operator (punct_of t)) (a scope calls)
prefixed t (words ws ∷ is) scope calls = cast_of t.at ws is scope calls
prefixed t _ scope calls = no_typing scope calls

abbrev pub unary_of : Row → Typing
unary_of (primary p ∷ is) = p
unary_of (token t ∷ is) = prefixed t is
unary_of _ = no_typing

abbrev pub no_chain : ChainTyping
no_chain = record { level = 0; over = λ scope calls left. left }

abbrev pub operands_of : ℕ → Token → Row → ChainTyping
operands_of level t (unary a ∷ is) = chain_of level (binary_operator (punct_of t)) a (items_of as_chain is)
operands_of level t _ = no_chain

abbrev pub chain_item : ℕ → Row → ChainTyping
chain_item level (token t ∷ is) = operands_of level t is
chain_item level _ = no_chain

abbrev pub two_of : List Typing → Option BranchTypings
two_of [] = None
two_of (a ∷ []) = None
two_of (a ∷ b ∷ es) = Some (a, b)

abbrev pub conditional_of : Row → Typing
conditional_of (unary a ∷ is) = with_branches (whole_operand (record {
  first = a;
  chains = items_of
      as_chain is;
}))
    (two_of (items_of as_conditional is))
conditional_of _ = no_typing

-- DECLARATIONS

abbrev pub length_of : At → Option ℕ → Scope → ℕ → Option (Option Typing) → Option TypedLength
length_of at values scope calls None = None
length_of at values scope calls (Some None) = Some (typed_counted_length values)
length_of at values scope calls (Some (Some e)) = Some (typed_written_length at (e scope calls))

-- whether an initialiser has braces, and its values
abbrev pub Values : Type 0
Values = Bool × List Typing

abbrev pub values_item : List (List Typing) → List Typing → Option Values
values_item (b ∷ bs) es = Some (true, b)
values_item [] (e ∷ es) = Some (false, e ∷ [])
values_item [] [] = None

abbrev pub initialising : At → VarId → CType → Option TypedLength → Option Values → Part
initialising at v t l None scope n = nothing scope n
initialising at v t l (Some (braces, typings)) scope n = let es = typed_each scope n.calls typings in
    numbered n at kind.Initialiser (init_tree (next_stmt n) v t (is_some l) es) (calls_in es)
    (fault_if (cond (is_some l) (not braces) braces) WrongKind at
    ++ fault_if (exceeds (written_count l) (length es)) WrongCount at
    ++ flat_map (initial_faults at (scope.depth == 0)) es)

abbrev pub declaring : Token → Option (Option Typing) → Option Values → Declaring
declaring name l init functions t scope n =
    let at = name.at in
    let v : VarId = record { 0 = n.variables } in
    let s = unwrap_or t I32 in
    let l = length_of at (option_map (λ (i : Values). length i.1) init) scope n.calls l in
    (add_length at l
    then add_variable functions at (name_of name) (record { t = s; shape = shape_of l })
    then add_declare v
    then initialising at v s l init
    then (λ scope n. faults_added (void_faults t at))) scope n

abbrev pub declarator_of : Row → Declaring
declarator_of (token name ∷ is) = declaring name (first_of (items_of as_length is))
    (values_item (items_of as_braced is) (items_of as_conditional is))
declarator_of _ = λ functions t. nothing

abbrev pub declarators_of : Row → Declaring
declarators_of is functions t = in_order (map (λ (d : Declaring). d functions t) (items_of as_declarator is))

-- a constant after one of this value
abbrev pub constant_added : List Signature → Option ℤ → Token → Option Typed → Part
constant_added functions last name v =
    add_written name.at v
    then add_constant functions name.at (name_of name) (enumerator_value last v)

abbrev pub constants_added : List Signature → Option ℤ → List ConstantItem → Part
constants_added functions last [] scope n = nothing_added
constants_added functions last (c ∷ cs) scope n =
    let v = option_map (λ (typing : Typing). typing scope n.calls) c.value in
    (constant_added functions last c.name v
    then constants_added functions (Some (enumerator_value last v)) cs) scope n

-- a tag that words without a list name
abbrev pub tag_used : Option Token → Part
tag_used tag scope n = faults_added (tag_faults scope tag)

abbrev pub list_added : List Signature → Option Token → Option (List ConstantItem) → Part
list_added functions tag None = tag_used tag
list_added functions tag (Some cs) = add_tag tag then constants_added functions None cs

abbrev pub specified_by : List Signature → SpecifierItem → Part
specified_by functions s = list_added functions (tag_of s.words) s.constants

abbrev pub enumerator_of : Row → Item
enumerator_of (token name ∷ is) = enumerator (record {
  name = name;
  value = first_of (items_of as_conditional is);
})
enumerator_of _ = absent

-- the declarators of a row, of the type that these words name
abbrev pub declared_by : List Token → Row → Part
declared_by ws (declarators d ∷ is) = d [] (type_of_words ws)
declared_by ws _ = nothing

abbrev pub declaration_of : Row → Part
declaration_of (specifiers s ∷ is) = specified_by [] s then declared_by s.words is
declaration_of _ = nothing

-- STATEMENTS

abbrev pub assigning : At → Token → Option Typing → Option BinOp → Typing → Part
assigning at name index op typing scope n =
    let place = typed_target name.at (name_of name) index scope n.calls in
    let e = typing scope (n.calls + place.expression.calls) in
    let whole = changed op place.expression e in
    numbered n at (kind_of_target place.index) (assigned_tree (next_stmt n) place whole)
    (place.expression.calls + e.calls)
    (place.expression.faults ++ index_faults at name.at (is_some op) place.index
    ++ e.faults ++ limit_faults height_limit whole.height at)

abbrev pub assigned_by : Token → Option Typing → Token → Row → Part
assigned_by name index t (conditional e ∷ is) = assigning name.at name index (operator_at t) e
assigned_by name index t _ = assigning name.at name index (operator_at t) (one t.at)

abbrev pub changed_by : Token → Option Typing → Row → Part
changed_by name index (token t ∷ is) = assigned_by name index t is
changed_by name index _ = nothing

abbrev pub call_of : Token → Row → Part
call_of name (arguments typings ∷ is) = add_call name.at (name_of name) typings
call_of name _ = nothing

abbrev pub stepped_by : Token → Row → Part
stepped_by t (target name index ∷ is) = assigning t.at name index (operator_at t) (one t.at)
stepped_by t (token opener ∷ is) = call_of t is
stepped_by t _ = nothing

abbrev pub simple_of : Row → Part
simple_of (target name index ∷ is) = changed_by name index is
simple_of (token t ∷ is) = stepped_by t is
simple_of _ = nothing

abbrev pub target_of : Row → Item
target_of (token name ∷ is) = target name (first_of (items_of as_conditional is))
target_of _ = absent

abbrev pub first_item : Row → Item
first_item (words ws ∷ is) = for_first inner (tag_used (tag_of ws) then declared_by ws is)
first_item (simples s ∷ is) = for_first (λ scope. scope) s
first_item _ = for_first (λ scope. scope) nothing

abbrev pub test_or_one : At → Option Typing → Typing
test_or_one at None = one at
test_or_one at (Some e) = e

-- a `for`, by the scope of its head, its first part, its condition at the second semicolon, its step and
-- its body
abbrev pub looping_for : (Scope → Scope) → Part → At → Option Typing → Option Part → Part → Part
looping_for around first at test step body outside n =
    let scope = around outside in
    let f = first scope n in
    let inside = knowing f.entries scope in
    let w = test_or_one at test inside (behind n f).calls in
    let c = add_test w.first w inside (behind n f) in
    let s = optional_part step inside (behind n (f and c)) in
    let a = body (looping inside) (behind n (f and c and s)) in
    enclosing
    (tree.for_loop (next_stmt (behind n f)) (stmts_of f.stmts) w.tree (stmts_of s.stmts) (one_of a.stmts))
    (f and c and s and a)

-- the second semicolon of a `for` is the token before its closing parenthesis
abbrev pub second_at : List Token → At
second_at (a ∷ b ∷ ts) = b.at
second_at _ = record { line = 0; column = 0 }

abbrev pub for_of : (Scope → Scope) → Part → Row → Part
for_of around first is = looping_for around first (second_at (items_of as_token is)) (first_of (items_of
    as_conditional is))
    (first_of (items_of as_simples is)) (unwrap_or (first_of (items_of as_statement is)) nothing)

abbrev pub do_of : Part → Row → Part
do_of body is = add_do (unwrap_or (first_of (items_of as_conditional is)) no_typing) body

-- after `if` or `while`, its condition and its statement
abbrev pub controlling : Typing → Part → Row → Part
controlling test body [] = add_while test body
controlling test body (absent ∷ is) = add_if test body None
controlling test body (token t ∷ is) = add_if test body (first_of (items_of as_statement is))
controlling test body _ = nothing

-- a label, a group and groups of a `switch`, by their items
abbrev pub label_added : CType → At → LabelItem → Labels → ℕ → Scope → ℕ → Labelled
label_added t at (valued e) labels count scope calls = add_case t at (e scope calls) labels count
label_added t at (otherwise place) labels count scope calls = add_default place labels count

abbrev pub group_added : CType → At → GroupItem → Labels → ℕ → Scope → Before → Labelled
group_added t at g labels count scope n =
    let l = label_added t at g.label labels count scope n.calls in
    record { labels = l.labels; added = l.added and in_order g.statements scope (behind n l.added) }

abbrev pub behind_group : Labelled → Labelled → Labelled
behind_group a b = record { labels = b.labels; added = a.added and b.added }

abbrev pub groups_added : CType → At → List GroupItem → Labels → ℕ → Scope → Before → Labelled
groups_added t at [] labels count scope n = record { labels = labels; added = nothing_added }
groups_added t at (g ∷ gs) labels count scope n =
    let a = group_added t at g labels count scope n in
    behind_group a (groups_added t at gs a.labels (count + length a.added.stmts)
    (knowing a.added.entries scope) (behind n a.added))

abbrev pub switched_by : Typing → List GroupItem → Part
switched_by test groups scope n =
    let w = test scope n.calls in
    let t = promoted w.t in
    let c = add_controlling w.first w scope n in
    let b = groups_added t w.first groups no_labels 0 (switching scope) (behind n c) in
    enclosing
    (tree.switch (next_stmt n) t (tree_as t w) b.labels.starts b.labels.other (stmts_of b.added.stmts))
    (c and b.added)

-- after the token after a condition: after a brace a brace is at least
abbrev pub ended : Token → Typing → Row → Part
ended keyword test [] = add_assert keyword.at test
ended keyword test (i ∷ is) = switched_by test (items_of as_group (i ∷ is))

-- after `if`, `while`, `assert` or `switch` and its condition
abbrev pub conditioned : Token → Typing → Row → Part
conditioned keyword test (statement s ∷ is) = controlling test s is
conditioned keyword test (token t ∷ is) = ended keyword test is
conditioned keyword test _ = nothing

abbrev pub closed : Token → Typing → Row → Part
closed keyword test (token closer ∷ is) = conditioned keyword test is
closed keyword test _ = nothing

-- after a keyword and the parenthesis or semicolon after it
abbrev pub parenthesized_by : Token → Row → Part
parenthesized_by keyword [] = add_jump_with keyword None
parenthesized_by keyword (conditional test ∷ is) = closed keyword test is
parenthesized_by keyword (for_first around first ∷ is) = for_of around first is
parenthesized_by keyword (token string ∷ is) = add_printf keyword.at (items_of as_conditional is)
parenthesized_by keyword _ = nothing

abbrev pub keyword_statement : Token → Row → Part
keyword_statement keyword [] = nothing
keyword_statement keyword (token t ∷ is) = parenthesized_by keyword is
keyword_statement keyword (statement s ∷ is) = do_of s is
keyword_statement keyword (conditional e ∷ is) = add_jump_with keyword (Some e)
keyword_statement keyword _ = nothing

abbrev pub statement_of : Row → Part
statement_of (block parts ∷ is) = add_block parts
statement_of (simple s ∷ is) = s
statement_of (token t ∷ is) = keyword_statement t is
statement_of _ = nothing

abbrev pub labelled_by : Token → Row → LabelItem
labelled_by keyword (conditional e ∷ is) = valued e
labelled_by keyword _ = otherwise keyword.at

abbrev pub label_of : Row → LabelItem
label_of (token keyword ∷ is) = labelled_by keyword is
label_of _ = valued no_typing

abbrev pub group_of : Row → GroupItem
group_of (label l ∷ is) = record { label = l; statements = items_of as_statement is }
group_of _ = record { label = valued no_typing; statements = [] }

-- PARAMETERS AND FILES

abbrev pub named_by : Item → Option Token
named_by (token t) = Some t
named_by _ = None

abbrev pub param_of : Row → ParamItem
param_of (words ws ∷ i ∷ is) = record {
  words = ws;
  name = named_by i;
  length = first_of (items_of
      as_length is);
}
param_of _ = record { words = []; name = None; length = None }

abbrev pub end_of : Row → Option (List Part)
end_of (block parts ∷ is) = Some parts
end_of _ = None

abbrev pub parameters_of : Row → List ParamItem
parameters_of (parameters ps ∷ is) = ps
parameters_of _ = []

abbrev pub other_items : Row → Row
other_items [] = []
other_items (i ∷ is) = is

abbrev pub declaring_nothing : Declaring
declaring_nothing functions t = nothing

abbrev pub function_of : SpecifierItem → Token → Row → ExternalItem
function_of s name (token opener ∷ is) =
    function s name (parameters_of is) (end_of (other_items (other_items is)))
function_of s name _ = variables s declaring_nothing

abbrev pub external_behind : SpecifierItem → Row → ExternalItem
external_behind s (declarators d ∷ is) = variables s d
external_behind s (token name ∷ is) = function_of s name is
external_behind s _ = variables s declaring_nothing

abbrev pub external_of : Row → ExternalItem
external_of (specifiers s ∷ is) = external_behind s is
external_of _ = variables (record { words = []; constants = None }) declaring_nothing

-- WHAT A NODE COMES TO, by its rule and its row

abbrev pub node_item : Rule → Row → Item
node_item rule.file is = file (items_of as_external is)
node_item rule.external is = external (external_of is)
node_item rule.type_name is = words (items_of as_token is)
node_item rule.specifiers is = specifiers (record {
  words = items_of as_token is;
  constants = first_of (items_of as_enumerators is);
})
node_item rule.enumerators is = enumerators (items_of as_enumerator is)
node_item rule.enumerator is = enumerator_of is
node_item rule.parameters is = parameters (items_of as_parameter is)
node_item rule.parameter is = parameter (param_of is)
node_item rule.no_name is = absent
node_item rule.array_length is = array_length (first_of (items_of as_conditional is))
node_item rule.declarators is = declarators (declarators_of is)
node_item rule.declarator is = declarator (declarator_of is)
node_item rule.braced is = braced (items_of as_conditional is)
node_item rule.declaration is = declaration (declaration_of is)
node_item rule.block is = block (items_of as_block_item is)
node_item rule.statement is = statement (statement_of is)
node_item rule.no_else is = absent
node_item rule.group is = group (group_of is)
node_item rule.label is = label (label_of is)
node_item rule.for_first is = first_item is
node_item rule.simples is = simples (in_order (items_of as_simple is))
node_item rule.simple is = simple (simple_of is)
node_item rule.target is = target_of is
node_item rule.arguments is = arguments (items_of as_conditional is)
node_item rule.conditional is = conditional (conditional_of is)
node_item (rule.chain level) is = chain (chain_item level is)
node_item rule.unary is = unary (unary_of is)
node_item rule.primary is = primary (primary_of is)

-- READING: the row so far, and those of the nodes around it

abbrev pub read : List Mark → Row → List Row → Row
read [] row outer = row
read (leaf t ∷ ms) row outer = read ms (row ++ token t ∷ []) outer
read (enter r ∷ ms) row outer = read ms [] (row ∷ outer)
read (leave r ∷ ms) row [] = row
read (leave r ∷ ms) row (above ∷ outer) = read ms (above ++ node_item r row ∷ []) outer
read (down ∷ ms) row outer = read ms row outer
read (up ∷ ms) row outer = read ms row outer

-- marks that put these items after a row
pub record Reads (f : List Mark) (is : Row) : Type 0 where
  pub by : (rest : List Mark) (row : Row) (outer : List Row) →
      read (f ++ rest) row outer ≡ read rest (row ++ is) outer

pub none : Reads [] []
none = record { by = λ rest row outer. ap (λ r. read rest r outer) (sym (append-nil row)) }

pub both : {f g : List Mark} {is js : Row} → Reads f is → Reads g js → Reads (f ++ g) (is ++ js)
both {f} {g} {is} {js} p q = record {
  by = λ rest row outer. ap (λ ms. read ms row outer) (append_assoc f g rest)
      ∙ p.by (g ++ rest) row outer ∙ q.by rest (row ++ is) outer
      ∙ ap (λ r. read rest r outer) (append_assoc row is js);
}

pub front : (t : Token) {f : List Mark} {is : Row} → Reads f is → Reads (leaf t ∷ f) (token t ∷ is)
front t {f} {is} p = record {
  by = λ rest row outer. p.by rest (row ++ token t ∷ []) outer
      ∙ ap (λ r. read rest r outer) (append_assoc row (token t ∷ []) is);
}

pub deeper : {f : List Mark} {is : Row} → Reads f is → Reads (one_deeper f) is
deeper {f} {is} p = record {
  by = λ rest row outer. ap (λ ms. read ms row outer) (append_assoc f (up ∷ []) rest)
      ∙ p.by (up ∷ rest) row outer;
}

pub inside : (r : Rule) {f : List Mark} {is : Row} → Reads f is → Reads (node_of r f) (node_item r is ∷ [])
inside r {f} {is} p = record {
  by = λ rest row outer. ap (λ ms. read ms [] (row ∷ outer)) (append_assoc f (leave r ∷ []) rest)
      ∙ p.by (leave r ∷ rest) [] (row ∷ outer);
}

-- the same row, said otherwise
pub as_row : {f : List Mark} {is js : Row} → is ≡ js → Reads f is → Reads f js
as_row {f} {is} {js} same p = subst (Reads f) same p

-- THE ITEMS OF A KIND in rows that are put together

pub items_append : {A : Type 0} (pick : Item → Option A) (is js : Row)
    → items_of pick (is ++ js) ≡ items_of pick is ++ items_of pick js
items_append pick [] js = refl
items_append {A = A} pick (i ∷ is) js = from (pick i) (items_append pick is js) where
  from : (o : Option A) → items_of pick (is ++ js) ≡ items_of pick is ++ items_of pick js
      → with_item o (items_of pick (is ++ js)) ≡ with_item o (items_of pick is) ++ items_of pick js
  from None rest = rest
  from (Some x) rest = ap (λ xs. x ∷ xs) rest

pub items_all : {A : Type 0} (pick : Item → Option A) (to : A → Item) → ((x : A) →
    pick (to x) ≡ Some x) → (xs : List A)
    → items_of pick (map to xs) ≡ xs
items_all pick to is [] = refl
items_all pick to is (x ∷ xs) = ap (λ o. with_item o (items_of pick (map to xs))) (is x)
    ∙ ap (λ ys. x ∷ ys) (items_all pick to is xs)

pub items_none : {A B : Type 0} (pick : Item → Option A) (to : B → Item) → ((x : B) →
    pick (to x) ≡ None) → (xs : List B)
    → items_of pick (map to xs) ≡ []
items_none pick to is [] = refl
items_none pick to is (x ∷ xs) = ap (λ o. with_item o (items_of pick (map to xs))) (is x) ∙ items_none pick
    to is xs
