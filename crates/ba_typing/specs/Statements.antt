-- Statements (C90 6.6): what each adds to a program.

use Rattle.std.specs.Prelude.{ℕ, ◌+◌, nat_lt, ℤ, pos, Bool, false, not, ◌&&◌, Option, None, Some, unwrap_or, List, [], ◌∷◌, ◌++◌, map, flat_map, length}
use Rattle.std.specs.List.{list_any}
use Rattle.std.specs.Ordering.{int_eq}
use Rattle.std.specs.Option.{is_some}
use Rattle.ba_tokens.specs.declared.token.Token.{Token}
use Rattle.ba_numbers.specs.declared.ids.At.{At}
use Rattle.ba_numbers.specs.declared.ids.StmtId.{StmtId}
use Rattle.ba_numbers.specs.declared.ids.VarId.{VarId}
use Rattle.ba_numbers.specs.declared.numbers.BinOp.{BinOp}
use Rattle.ba_numbers.specs.declared.numbers.CType.{CType}
use Rattle.ba_numbers.specs.declared.numbers.CType.TheVariants.{I32}
use Rattle.ba_trees.specs.declared.tree.expressions.Conditional.{Conditional}
use Rattle.ba_trees.specs.declared.tree.statements.Target.{Target}
use Rattle.ba_trees.specs.declared.tree.statements.Index.{Index}
use Rattle.ba_trees.specs.declared.tree.statements.Simple.{Simple}
use Rattle.ba_trees.specs.declared.tree.statements.Simple.TheVariants as form
use Rattle.ba_trees.specs.declared.tree.statements.ListedSimple.{ListedSimple}
use Rattle.ba_trees.specs.declared.tree.statements.Simples.{Simples}
use Rattle.ba_trees.specs.declared.tree.statements.Condition.{Condition}
use Rattle.ba_trees.specs.declared.tree.statements.Label.{Label}
use Rattle.ba_trees.specs.declared.tree.statements.Label.TheVariants as label
use Rattle.ba_trees.specs.declared.tree.statements.ForFirst.{ForFirst}
use Rattle.ba_trees.specs.declared.tree.statements.ForFirst.TheVariants as first
use Rattle.ba_trees.specs.declared.tree.statements.ForHead.{ForHead}
use Rattle.ba_trees.specs.declared.tree.statements.Printed.{Printed}
use Rattle.ba_trees.specs.declared.tree.statements.BlockItem.TheOpen.{BlockItem-F, StatementForm-F, Block-F, Controlled-F, DoWhile-F, Else-F, For-F, Group-F, Statement-F}
use Rattle.ba_trees.specs.declared.tree.statements.BlockItem.TheFolds.{fold-BlockItem, fold-StatementForm, fold-Block, fold-Group, fold-Statement}
use Rattle.ba_trees.specs.declared.tree.statements.BlockItem.{BlockItem}
use Rattle.ba_trees.specs.declared.tree.statements.StatementForm.{StatementForm}
use Rattle.ba_trees.specs.declared.tree.statements.Statement.{Statement}
use Rattle.ba_trees.specs.declared.tree.statements.Block.{Block}
use Rattle.ba_trees.specs.declared.tree.statements.Group.{Group}
use Rattle.ba_tree.specs.declared.tree.Start.{Start}
use Rattle.ba_tree.specs.declared.tree.StmtKind.{StmtKind}
use Rattle.ba_tree.specs.declared.tree.StmtKind.TheVariants as kind
use Rattle.ba_typing.specs.Declarations.{Added, nothing_added, ◌and◌, Before, behind, Part, nothing, in_order, numbered, next_stmt, faults_added, whole_faults, typed_each, calls_in, add_declaration, add_declarators, ◌then◌}
use Rattle.ba_typing.specs.Expressions.{Typed, Typing, typed_conditional, typed_next, typed_arguments, typed_constant, typed_name, typed_element, typed_value, typed_call, trees_of_args, expressions_of_args, tree_as, constant_value, with_more_faults, array_of}
use Rattle.ba_numbers.specs.Types.{promoted}
use Rattle.ba_typing.specs.Faults.{fault, fault_if, target_name_faults, tag_faults, limit_faults, height_limit}
use Rattle.ba_typing.specs.Names.{Scope, meaning_of, inner, looping, switching, knowing, name_of, punct_of, words_of, type_named, tag_of, changing_operator, jump_of}
use Rattle.ba_tree.specs.Trees.{ExprTree, StmtTree, stmts_of}
use Rattle.ba_tree.specs.Trees as tree
use Rattle.ba_typing.specs.declared.fault.Cause.TheVariants.{Twice, WrongKind, BreakOutside, CallInIndex}
use Rattle.ba_typing.specs.declared.fault.Fault.{Fault}
use Rattle.ba_typing.specs.declared.names.Jump.{Jump}
use Rattle.ba_typing.specs.declared.names.Jump.TheVariants as jump
use Rattle.ba_typing.specs.declared.meanings.Labels.{Labels}
use Rattle.ba_typing.specs.declared.meanings.Meaning.{Meaning}
use Rattle.ba_typing.specs.declared.meanings.Meaning.TheVariants as meaning

-- ASSIGNMENTS, STEPS AND CALLS (C90 6.3.16, 6.3.2.4, 6.3.3.1, 6.3.2.2)

-- What is assigned to: the expression; its index, None for a variable; and the variable or array.
pub record TypedTarget : Type 0 where
  pub expression : Typed
  pub index : Option Typed
  pub var : VarId

-- the variable of a name; any number if the name is at fault
abbrev pub var_of : Meaning → VarId
var_of meaning.Unknown = record { 0 = 0 }
var_of meaning.Function = record { 0 = 0 }
var_of (meaning.Variable e) = e.var
var_of (meaning.Constant z) = record { 0 = 0 }

-- the left side of an assignment: a variable, or an element with its index
abbrev pub typed_target : At → List ℕ → Option Typing → Scope → ℕ → TypedTarget
typed_target at name None scope calls = let m = meaning_of scope name in
    record {
      expression = with_more_faults (target_name_faults m at) (typed_name at name m);
      index = None;
      var = var_of m;
    }
typed_target at name (Some typing) scope calls = let m = meaning_of scope name in let index =
    typing scope calls in
    record { expression = typed_element at m index; index = Some index; var = array_of m }

-- the index of a left side, if there is one
abbrev pub index_typing : Option Index → Option Typing
index_typing None = None
index_typing (Some i) = Some (typed_conditional i.value.value)

-- The index is within the limit on heights. It has no call if an operator changes the element.
abbrev pub index_faults : At → At → Bool → Option Typed → List Fault
index_faults at name_at changes None = []
index_faults at name_at changes (Some index) =
    limit_faults height_limit index.height at ++ fault_if (changes && nat_lt 0 index.calls) CallInIndex
    name_at

-- `v op= e` is `v = v op (e)`
abbrev pub changed : Option BinOp → Typed → Typed → Typed
changed None target e = e
changed (Some op) target e = typed_value op target e

-- an assignment to a variable, or a store to an element
abbrev pub assign_tree : StmtId → VarId → ExprTree → Option Typed → StmtTree
assign_tree stmt v e None = tree.assign stmt v e
assign_tree stmt v e (Some index) = tree.store stmt v (tree_as (promoted index.t) index) e

-- an assignment to the target, with the value converted to its type
abbrev pub assigned_tree : StmtId → TypedTarget → Typed → StmtTree
assigned_tree stmt target e = assign_tree stmt target.var (tree_as target.expression.t e) target.index

-- the kind of a statement that changes a variable or an element
abbrev pub kind_of_target : Option Typed → StmtKind
kind_of_target None = kind.Assignment
kind_of_target (Some index) = kind.Store

-- an assignment whose statement begins at `at` and whose variable's name is at `name_at`
abbrev pub add_assignment : At → Target → Option BinOp → Typing → Part
add_assignment at target op typing scope n =
    let name_at = target.name.at in
    let place = typed_target name_at (name_of target.name) (index_typing target.index) scope n.calls in
    let e = typing scope (n.calls + place.expression.calls) in
    let whole = changed op place.expression e in
    numbered n at (kind_of_target place.index) (assigned_tree (next_stmt n) place whole)
    (place.expression.calls + e.calls)
    (place.expression.faults ++ index_faults at name_at (is_some op) place.index
    ++ e.faults ++ limit_faults height_limit whole.height at)

-- `v++` is `v = v + 1`
abbrev pub one : At → Typing
one at scope calls = typed_constant at I32 (pos 1)

-- a call statement
abbrev pub add_call : At → List ℕ → List Typing → Part
add_call at name typings scope n = let c = typed_call false at name typings scope n.calls in
    numbered n at kind.Call (tree.call_stmt (next_stmt n) c.call c.function (trees_of_args c.args))
    (1 + calls_in (expressions_of_args c.args))
    (c.faults ++ flat_map (whole_faults at) (expressions_of_args c.args))

-- the operator of a compound assignment, `++` or `--`; None for a plain assignment
abbrev pub operator_at : Token → Option BinOp
operator_at token = changing_operator (punct_of token)

-- a simple statement: an assignment, `++`, `--` or a call
abbrev pub add_simple : Simple → Part
add_simple (form.Assign target operator value) =
    add_assignment target.name.at target (operator_at operator) (typed_conditional value)
add_simple (form.Step target operator) = add_assignment target.name.at target (operator_at operator)
    (one operator.at)
add_simple (form.PrefixStep operator target) =
    add_assignment operator.at target (operator_at operator) (one operator.at)
add_simple (form.Call name opener arguments closer) =
    add_call name.at (name_of name) (typed_arguments arguments)

-- simple statements that are separated by commas
abbrev pub add_simples : Simples → Part
add_simples s = in_order (map (λ (l : ListedSimple). add_simple l.simple) s.all.items)

-- CONDITIONS (C90 6.6.4, 6.6.5): a condition is a statement at the first token of its expression

-- the condition of an `if` or loop, which has a number but no tree of its own
abbrev pub add_test : At → Typed → Part
add_test at e scope n = record (numbered n at kind.Condition tree.break_loop e.calls (whole_faults at e))
    { stmts = [] }

-- the same of a controlling expression of a `switch` (C90 6.6.4.2)
abbrev pub add_controlling : At → Typed → Part
add_controlling at e scope n = record (numbered n at kind.Switch tree.break_loop e.calls (whole_faults at e))
    { stmts = [] }

-- a statement that holds others; what they declare is not known after it
abbrev pub enclosing : StmtTree → Added → Added
enclosing typed a = record a { stmts = typed ∷ []; entries = [] }

-- a controlled statement, which is one statement or none
abbrev pub one_of : List StmtTree → StmtTree
one_of [] = tree.block tree.no_stmts
one_of (s ∷ ss) = s

-- a part that may be missing
abbrev pub optional_part : Option Part → Part
optional_part None = nothing
optional_part (Some part) = part

-- the tree of an `else` branch, if there is one
abbrev pub else_tree : Option Part → List StmtTree → Option StmtTree
else_tree None stmts = None
else_tree (Some part) stmts = Some (one_of stmts)

-- an `if`: its condition, then both branches
abbrev pub add_if : Typing → Part → Option Part → Part
add_if test holds fails scope n =
    let w = test scope n.calls in
    let c = add_test w.first w scope n in
    let a = holds scope (behind n c) in
    let b = optional_part fails scope (behind n (c and a)) in
    enclosing (tree.if_tree (next_stmt n) w.tree (one_of a.stmts) (else_tree fails b.stmts)) (c and a and b)

-- a `while`: its condition, then its body
abbrev pub add_while : Typing → Part → Part
add_while test body scope n =
    let w = test scope n.calls in
    let c = add_test w.first w scope n in
    let a = body (looping scope) (behind n c) in
    enclosing (tree.while_loop (next_stmt n) w.tree (one_of a.stmts)) (c and a)

-- the condition of a `do` is after its body
abbrev pub add_do : Typing → Part → Part
add_do test body scope n =
    let a = body (looping scope) n in
    let w = test scope (behind n a).calls in
    let c = add_test w.first w scope (behind n a) in
    enclosing (tree.do_while (next_stmt (behind n a)) w.tree (one_of a.stmts)) (a and c)

-- THE HEAD OF A `for` (C90 6.6.5.3)

-- a declaration in the head has its own scope
abbrev pub for_scope : ForFirst → Scope → Scope
for_scope (first.Declaration name declarators) scope = inner scope
for_scope (first.Simples s) scope = scope
for_scope first.Nothing scope = scope

-- the first part of a `for` head: a declaration or simple statements
abbrev pub add_first : ForFirst → Part
add_first (first.Declaration name declarators) =
    (λ scope n. faults_added (tag_faults scope (tag_of (words_of name))))
    then add_declarators [] (type_named name) declarators
add_first (first.Simples s) = add_simples s
add_first first.Nothing = nothing

-- the last part of a `for` head
abbrev pub add_step : Option Simples → Part
add_step None = nothing
add_step (Some s) = add_simples s

-- an absent condition is the constant 1 at the second semicolon
abbrev pub for_test_or : At → Option Conditional → Typing
for_test_or at None = one at
for_test_or at (Some e) = typed_conditional e

-- the condition of a `for`
abbrev pub for_test : ForHead → Typing
for_test head = for_test_or head.second_semicolon.at head.test

-- a `for`: its first part, its condition, its last part, its body
abbrev pub add_for : ForHead → Part → Part
add_for head body outside n =
    let scope = for_scope head.first outside in
    let f = add_first head.first scope n in
    let inside = knowing f.entries scope in
    let w = for_test head inside (behind n f).calls in
    let c = add_test w.first w inside (behind n f) in
    let s = add_step head.step inside (behind n (f and c)) in
    let a = body (looping inside) (behind n (f and c and s)) in
    enclosing
    (tree.for_loop (next_stmt (behind n f)) (stmts_of f.stmts) w.tree (stmts_of s.stmts) (one_of a.stmts))
    (f and c and s and a)

-- SWITCHES (C90 6.6.4.2)

-- no label yet
abbrev pub no_labels : Labels
no_labels = record { starts = []; other = None }

-- a label has this value
abbrev pub has_value : List Start → ℤ → Bool
has_value starts z = list_any (λ (s : Start). int_eq s.value z) starts

-- a label's value is that of an earlier label, or a `default` is the second one
abbrev pub label_faults : Labels → Option ℤ → At → List Fault
label_faults labels None at = fault WrongKind at
label_faults labels (Some z) at = fault_if (has_value labels.starts z) Twice at

-- labels with one more of this value, if it is known, before statement `at`
abbrev pub with_start : Labels → Option ℤ → ℕ → Labels
with_start labels None at = labels
with_start labels (Some z) at = record labels { starts = labels.starts ++ record { value = z; at = at } ∷ [] }

-- the labels after a part of the text, and what it adds
pub record Labelled : Type 0 where
  pub labels : Labels
  pub added : Added

-- A label after this number of statements of the body. The heights of constants are tested at the position of
-- the `switch`.
abbrev pub add_case : CType → At → Typed → Labels → ℕ → Labelled
add_case t at e labels count = let z = constant_value t e in record {
  labels = with_start labels z count;
  added = record (faults_added (whole_faults at e ++ label_faults labels z e.first)) { calls = e.calls };
}

-- the label `default`, of which there may be one
abbrev pub add_default : At → Labels → ℕ → Labelled
add_default at labels count = record {
  labels = record labels { other = Some count };
  added = faults_added (fault_if (is_some labels.other) Twice at);
}

-- a label, before statement `count` of the body
abbrev pub add_label : CType → At → Label → Labels → ℕ → Scope → ℕ → Labelled
add_label t at (label.Case keyword value colon) labels count scope calls =
    add_case t at (typed_conditional value scope calls) labels count
add_label t at (label.Default keyword colon) labels count scope calls = add_default keyword.at labels count

-- a label, and the parts of the statements after it
pub record GroupParts : Type 0 where
  pub label : Label
  pub statements : List Part

-- a label with the statements after it
abbrev pub add_group : CType → At → GroupParts → Labels → ℕ → Scope → Before → Labelled
add_group t at g labels count scope n =
    let l = add_label t at g.label labels count scope n.calls in
    record { labels = l.labels; added = l.added and in_order g.statements scope (behind n l.added) }

-- the groups of a `switch` in order
abbrev pub add_groups : CType → At → List GroupParts → Labels → ℕ → Scope → Before → Labelled
add_groups t at [] labels count scope n = record { labels = labels; added = nothing_added }
add_groups t at (g ∷ gs) labels count scope n =
    let a = add_group t at g labels count scope n in
    let b = add_groups t at gs a.labels (count + length a.added.stmts)
    (knowing a.added.entries scope) (behind n a.added) in
    record { labels = b.labels; added = a.added and b.added }

-- a `switch`: its controlling expression, then its groups
abbrev pub add_switch : Typing → List GroupParts → Part
add_switch on groups scope n =
    let w = on scope n.calls in
    let t = promoted w.t in
    let c = add_controlling w.first w scope n in
    let b = add_groups t w.first groups no_labels 0 (switching scope) (behind n c) in
    enclosing
    (tree.switch (next_stmt n) t (tree_as t w) b.labels.starts b.labels.other (stmts_of b.added.stmts))
    (c and b.added)

-- OTHER STATEMENTS

-- a statement without a number
abbrev pub unnumbered : StmtTree → List Fault → Added
unnumbered typed faults = record nothing_added { stmts = typed ∷ []; faults = faults }

-- with a value (C90 6.6.6.4)
abbrev pub add_return : At → Typing → Part
add_return at typing scope n = let e = typing scope n.calls in
    numbered n at kind.Return (tree.return_value (next_stmt n) (tree_as (unwrap_or scope.result I32) e))
    e.calls
    (fault_if (not (is_some scope.result)) WrongKind at ++ whole_faults at e)

-- C90 7.2.1.1
abbrev pub add_assert : At → Typing → Part
add_assert at typing scope n = let e = typing scope n.calls in
    numbered n at kind.Assert (tree.assert (next_stmt n) e.tree) e.calls (whole_faults at e)

-- C90 7.9.6.3
abbrev pub add_printf : At → List Typing → Part
add_printf at typings scope n = let es = typed_each scope n.calls typings in
    numbered n at kind.Call (tree.print (next_stmt n) (map (λ (e : Typed). e.tree) es)) (calls_in es)
    (flat_map (whole_faults at) es)

-- C90 6.6.6.2, 6.6.6.3
abbrev pub add_break : At → Part
add_break at scope n = unnumbered tree.break_loop (fault_if (not scope.exits.breaks) BreakOutside at)

-- a `continue`, which may come in a loop alone
abbrev pub add_continue : At → Part
add_continue at scope n = unnumbered tree.continue_loop (fault_if (not scope.exits.continues) BreakOutside at)

-- a `return` without a value
abbrev pub add_return_none : Part
add_return_none scope n = unnumbered tree.return_none []

-- without a value (C90 6.6.6)
abbrev pub add_jump : At → Jump → Part
add_jump at jump.Break = add_break at
add_jump at jump.Continue = add_continue at
add_jump at jump.Return = add_return_none

-- with a value or without one
abbrev pub add_jump_with : Token → Option Typing → Part
add_jump_with keyword None = add_jump keyword.at (jump_of keyword)
add_jump_with keyword (Some typing) = add_return keyword.at typing

-- C90 6.6.2
abbrev pub add_block : List Part → Part
add_block items scope n = let a = in_order items (inner scope) n in
    enclosing (tree.block (stmts_of a.stmts)) a

-- the expression of a condition
abbrev pub test_of : Condition → Typing
test_of c = typed_conditional c.test.value

-- an expression that may be missing
abbrev pub optional_typing : Option Conditional → Option Typing
optional_typing None = None
optional_typing (Some e) = Some (typed_conditional e)

-- the arguments of a `printf` after its format
abbrev pub printed_typings : Printed → List Typing
printed_typings p = map typed_next p.values.items

-- THE FORMS OF THE GRAMMAR. A block gives the parts in it.

-- the parts of a block
abbrev pub PartList : Type 0
PartList = List Part

-- an item of a block, by its parts
abbrev pub item_step : BlockItem-F Part Part PartList Part Part Part Part GroupParts Part → Part
item_step (BlockItem-F.Declaration d) = add_declaration [] d.specifiers d.declarators
item_step (BlockItem-F.Statement s) = s

-- a form of statement, by its parts
abbrev pub form_step : StatementForm-F Part Part PartList Part Part Part Part GroupParts Part → Part
form_step (StatementForm-F.Block items) = add_block items
form_step (StatementForm-F.Empty semicolon) = nothing
form_step (StatementForm-F.Simple simple semicolon) = add_simple simple
form_step (StatementForm-F.If keyword condition holds fails) = add_if (test_of condition) holds fails
form_step (StatementForm-F.Switch keyword condition opener groups closer) = add_switch (test_of condition)
    groups.items
form_step (StatementForm-F.While keyword condition body) = add_while (test_of condition) body
form_step (StatementForm-F.DoWhile d) = d
form_step (StatementForm-F.For f) = f
form_step (StatementForm-F.Break keyword semicolon) = add_jump_with keyword None
form_step (StatementForm-F.Continue keyword semicolon) = add_jump_with keyword None
form_step (StatementForm-F.Return keyword value semicolon) = add_jump_with keyword (optional_typing value)
form_step (StatementForm-F.Assert keyword condition semicolon) = add_assert keyword.at (test_of condition)
form_step (StatementForm-F.Printf keyword opener printed closer semicolon) =
    add_printf keyword.at (printed_typings printed)

-- the parts of a block
abbrev pub block_step : Block-F Part Part PartList Part Part Part Part GroupParts Part → PartList
block_step b = b.items.items

-- the statement that a condition controls
abbrev pub controlled_step : Controlled-F Part Part PartList Part Part Part Part GroupParts Part → Part
controlled_step c = c.statement.value

-- a `do`, by its parts
abbrev pub do_step : DoWhile-F Part Part PartList Part Part Part Part GroupParts Part → Part
do_step d = add_do (test_of d.condition) d.body

-- an `else` branch
abbrev pub else_step : Else-F Part Part PartList Part Part Part Part GroupParts Part → Part
else_step e = e.statement

-- a `for`, by its parts
abbrev pub for_step : For-F Part Part PartList Part Part Part Part GroupParts Part → Part
for_step f = add_for f.head.value f.body

-- a label with its statements, by their parts
abbrev pub group_step : Group-F Part Part PartList Part Part Part Part GroupParts Part → GroupParts
group_step g = record { label = g.label; statements = g.statements.items }

-- a statement, by its form
abbrev pub statement_step : Statement-F Part Part PartList Part Part Part Part GroupParts Part → Part
statement_step s = s.form

-- WHOLE TREES

-- what an item of a block adds
unfoldable pub add_item : BlockItem → Part
add_item = fold-BlockItem Part Part PartList Part Part Part Part GroupParts Part item_step form_step block_step
    controlled_step do_step else_step for_step group_step statement_step

-- what a form of statement adds
unfoldable pub add_statement_form : StatementForm → Part
add_statement_form = fold-StatementForm Part Part PartList Part Part Part Part GroupParts Part item_step form_step
    block_step controlled_step do_step else_step for_step group_step statement_step

-- what a statement adds
unfoldable pub add_statement : Statement → Part
add_statement = fold-Statement Part Part PartList Part Part Part Part GroupParts Part item_step form_step block_step
    controlled_step do_step else_step for_step group_step statement_step

-- the parts of a block
unfoldable pub parts_of_block : Block → PartList
parts_of_block = fold-Block Part Part PartList Part Part Part Part GroupParts Part item_step form_step block_step
    controlled_step do_step else_step for_step group_step statement_step

-- a label with the parts of its statements
unfoldable pub parts_of_group : Group → GroupParts
parts_of_group = fold-Group Part Part PartList Part Part Part Part GroupParts Part item_step form_step block_step
    controlled_step do_step else_step for_step group_step statement_step
