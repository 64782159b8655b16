-- What each form of the parser's statements adds, one equation a form. The code has the statements that a
-- form holds as values of its own.
use Rattle.std.specs.Global.{Vec}
use Rattle.std.proofs.Common.{◌≡◌, Option, None, Some, [], map, sym, ◌∙◌, ap}
use Rattle.ba_tokens.specs.declared.token.Token.{Token}
use Rattle.ba_trees.specs.declared.tree.declarations.Declaration.{Declaration}
use Rattle.ba_trees.specs.declared.tree.expressions.Conditional.{Conditional}
use Rattle.ba_trees.specs.declared.tree.statements.Condition.{Condition}
use Rattle.ba_trees.specs.declared.tree.statements.ForHead.{ForHead}
use Rattle.ba_trees.specs.declared.tree.statements.Printed.{Printed}
use Rattle.ba_trees.specs.declared.tree.statements.Simple.{Simple}
use Rattle.ba_trees.specs.declared.tree.statements.BlockItem.TheFolds.{fold-Controlled, fold-DoWhile, fold-Else, fold-For, fold-roll-BlockItem, fold-roll-StatementForm, fold_out-Block, fold_out-Controlled, fold_out-DoWhile, fold_out-Else, fold_out-For, fold_out-Group, fold_out-Statement}
use Rattle.ba_trees.specs.declared.tree.statements.BlockItem.TheOpen.{BlockItem-F, StatementForm-F}
use Rattle.ba_trees.specs.declared.tree.statements.Block.{Block, out-Block}
use Rattle.ba_trees.specs.declared.tree.statements.BlockItem as item
use Rattle.ba_trees.specs.declared.tree.statements.Controlled.{Controlled, out-Controlled}
use Rattle.ba_trees.specs.declared.tree.statements.DoWhile.{DoWhile, out-DoWhile}
use Rattle.ba_trees.specs.declared.tree.statements.Else.{Else, out-Else}
use Rattle.ba_trees.specs.declared.tree.statements.For.{For, out-For}
use Rattle.ba_trees.specs.declared.tree.statements.Group.{Group, out-Group}
use Rattle.ba_trees.specs.declared.tree.statements.Statement.{Statement, out-Statement}
use Rattle.ba_trees.specs.declared.tree.statements.StatementForm.{StatementForm}
use Rattle.ba_trees.specs.declared.tree.statements.StatementForm as form
use Rattle.ba_typing.specs.Declarations.{Part, add_declaration, nothing}
use Rattle.ba_typing.specs.Names.{jump_of}
use Rattle.ba_typing.specs.Statements as statements
use Rattle.ba_typing.specs.Statements.{GroupParts, PartList, add_assert, add_block, add_statement_form, add_if, add_item, add_jump, add_jump_with, add_printf, add_simple, add_statement, add_switch, add_while, block_step, controlled_step, do_step, else_step, for_step, form_step, group_step, item_step, optional_typing, parts_of_block, parts_of_group, printed_typings, statement_step, test_of}

-- THE TREES IN STATEMENTS

abbrev pub add_controlled : Controlled → Part
add_controlled = fold-Controlled Part Part PartList Part Part Part Part GroupParts Part item_step form_step block_step
    controlled_step do_step else_step for_step group_step statement_step

abbrev pub add_do : DoWhile → Part
add_do = fold-DoWhile Part Part PartList Part Part Part Part GroupParts Part item_step form_step block_step
    controlled_step do_step else_step for_step group_step statement_step

abbrev pub add_else : Else → Part
add_else = fold-Else Part Part PartList Part Part Part Part GroupParts Part item_step form_step block_step
    controlled_step
    do_step else_step for_step group_step statement_step

abbrev pub add_for : For → Part
add_for = fold-For Part Part PartList Part Part Part Part GroupParts Part item_step form_step block_step controlled_step
    do_step else_step for_step group_step statement_step

-- the statement that another one controls
abbrev pub held : Controlled → Statement
held c = (out-Controlled c).statement.value

controlled-is : (c : Controlled) (s : Statement) → s ≡ held c → add_controlled c ≡ add_statement s
unfolding add_item add_statement_form add_statement parts_of_block parts_of_group
controlled-is c s is = fold_out-Controlled Part Part PartList Part Part Part Part GroupParts Part item_step form_step
    block_step controlled_step do_step else_step for_step group_step statement_step c
    ∙ ap add_statement (sym is)

else-is : (e : Else) (s : Statement) → s ≡ held (out-Else e).statement → add_else e ≡ add_statement s
unfolding add_item add_statement_form add_statement parts_of_block parts_of_group
else-is e s is = fold_out-Else Part Part PartList Part Part Part Part GroupParts Part item_step form_step block_step
    controlled_step do_step else_step for_step group_step statement_step e
    ∙ controlled-is (out-Else e).statement s is

do-is : (d : DoWhile) → add_do d
    ≡ statements.add_do (test_of (out-DoWhile d).condition) (add_controlled (out-DoWhile d).body)
unfolding add_item add_statement_form add_statement parts_of_block parts_of_group
do-is d = fold_out-DoWhile Part Part PartList Part Part Part Part GroupParts Part item_step form_step block_step
    controlled_step do_step else_step for_step group_step statement_step d

for-is : (f : For) → add_for f
    ≡ statements.add_for (out-For f).head.value (add_controlled (out-For f).body)
unfolding add_item add_statement_form add_statement parts_of_block parts_of_group
for-is f = fold_out-For Part Part PartList Part Part Part Part GroupParts Part item_step form_step block_step
    controlled_step do_step else_step for_step group_step statement_step f

-- BLOCKS

pub block-is : (b : Block) → parts_of_block b ≡ map add_item (out-Block b).items.items
unfolding add_item add_statement_form add_statement parts_of_block parts_of_group
block-is b = fold_out-Block Part Part PartList Part Part Part Part GroupParts Part item_step form_step block_step
    controlled_step do_step else_step for_step group_step statement_step b

pub declaration-is : (d : Declaration)
    → add_item (item.Declaration d) ≡ add_declaration [] d.specifiers d.declarators
unfolding add_item add_statement_form add_statement parts_of_block parts_of_group item.roll-BlockItem
    denote.Hole.Carrier.roll
declaration-is d = fold-roll-BlockItem Part Part PartList Part Part Part Part GroupParts Part item_step form_step
    block_step
    controlled_step do_step else_step for_step group_step statement_step (BlockItem-F.Declaration d)

pub statement_item-is : (s : Statement) → add_item (item.Statement s) ≡ add_statement s
unfolding add_item add_statement_form add_statement parts_of_block parts_of_group item.roll-BlockItem
    denote.Hole.Carrier.roll
statement_item-is s = fold-roll-BlockItem Part Part PartList Part Part Part Part GroupParts Part item_step form_step
    block_step controlled_step do_step else_step for_step group_step statement_step (BlockItem-F.Statement s)

-- GROUPS

pub group-is : (g : Group) → parts_of_group g
    ≡ record { label = (out-Group g).label; statements = map add_statement (out-Group g).statements.items }
unfolding add_item add_statement_form add_statement parts_of_block parts_of_group
group-is g = fold_out-Group Part Part PartList Part Part Part Part GroupParts Part item_step form_step block_step
    controlled_step do_step else_step for_step group_step statement_step g

-- STATEMENTS

-- a statement adds what its form does
pub by-form : (s : Statement) (f : StatementForm) (part : Part) → (out-Statement s).form ≡ f
    → add_statement_form f ≡ part
    → add_statement s ≡ part
unfolding add_item add_statement_form add_statement parts_of_block parts_of_group
by-form s f part is makes = fold_out-Statement Part Part PartList Part Part Part Part GroupParts Part item_step form_step
    block_step controlled_step do_step else_step for_step group_step statement_step s
    ∙ ap add_statement_form is ∙ makes

pub block-form : (b : Block) → add_statement_form (form.Block b) ≡ add_block (parts_of_block b)
unfolding add_item add_statement_form add_statement parts_of_block parts_of_group form.roll-StatementForm
    denote.Hole.Carrier.roll
block-form b = fold-roll-StatementForm Part Part PartList Part Part Part Part GroupParts Part item_step form_step
    block_step
    controlled_step do_step else_step for_step group_step statement_step (StatementForm-F.Block b)

pub empty-form : (semicolon : Token) → add_statement_form (form.Empty semicolon) ≡ nothing
unfolding add_item add_statement_form add_statement parts_of_block parts_of_group form.roll-StatementForm
    denote.Hole.Carrier.roll
empty-form semicolon = fold-roll-StatementForm Part Part PartList Part Part Part Part GroupParts Part item_step form_step
    block_step controlled_step do_step else_step for_step group_step statement_step (StatementForm-F.Empty semicolon)

pub simple-form : (s : Simple) (semicolon : Token) →
    add_statement_form (form.Simple s semicolon) ≡ add_simple s
unfolding add_item add_statement_form add_statement parts_of_block parts_of_group form.roll-StatementForm
    denote.Hole.Carrier.roll
simple-form s semicolon = fold-roll-StatementForm Part Part PartList Part Part Part Part GroupParts Part item_step
    form_step
    block_step controlled_step do_step else_step for_step group_step statement_step (StatementForm-F.Simple s semicolon)

pub if-form : (keyword : Token) (condition : Condition) (holds : Controlled) (fails : Option Else)
    (s : Statement) → s ≡ held holds → fails ≡ None
    → add_statement_form (form.If keyword condition holds fails) ≡ add_if (test_of condition)
    (add_statement s) None
unfolding add_item add_statement_form add_statement parts_of_block parts_of_group form.roll-StatementForm
    denote.Hole.Carrier.roll
if-form keyword condition holds fails s is none =
    ap (λ (o : Option Else). add_statement_form (form.If keyword condition holds o)) none
    ∙ fold-roll-StatementForm Part Part PartList Part Part Part Part GroupParts Part item_step form_step block_step
    controlled_step do_step else_step for_step group_step statement_step
    (StatementForm-F.If keyword condition holds None)
    ∙ ap (λ part. add_if (test_of condition) part None) (controlled-is holds s is)

pub if_else-form : (keyword : Token) (condition : Condition) (holds : Controlled) (fails : Option Else)
    (e : Else) (s t : Statement) → s ≡ held holds → fails ≡ Some e → t ≡ held (out-Else e).statement
    → add_statement_form (form.If keyword condition holds fails)
    ≡ add_if (test_of condition) (add_statement s) (Some (add_statement t))
unfolding add_item add_statement_form add_statement parts_of_block parts_of_group form.roll-StatementForm
    denote.Hole.Carrier.roll
if_else-form keyword condition holds fails e s t is some other =
    ap (λ (o : Option Else). add_statement_form (form.If keyword condition holds o)) some
    ∙ fold-roll-StatementForm Part Part PartList Part Part Part Part GroupParts Part item_step form_step block_step
    controlled_step do_step else_step for_step group_step statement_step
    (StatementForm-F.If keyword condition holds (Some e))
    ∙ ap (λ part. add_if (test_of condition) part (Some (add_else e))) (controlled-is holds s is)
    ∙ ap (λ part. add_if (test_of condition) (add_statement s) (Some part)) (else-is e t other)

pub switch-form : (keyword : Token) (condition : Condition) (opener : Token) (groups : Vec Group) (closer : Token)
    → add_statement_form (form.Switch keyword condition opener groups closer)
    ≡ add_switch (test_of condition) (map parts_of_group groups.items)
unfolding add_item add_statement_form add_statement parts_of_block parts_of_group form.roll-StatementForm
    denote.Hole.Carrier.roll
switch-form keyword condition opener groups closer = fold-roll-StatementForm Part Part PartList Part Part Part
    Part GroupParts Part item_step form_step block_step controlled_step do_step else_step for_step group_step
    statement_step (StatementForm-F.Switch keyword condition opener groups closer)

pub while-form : (keyword : Token) (condition : Condition) (body : Controlled) (s : Statement)
    → s ≡ held body
    → add_statement_form (form.While keyword condition body) ≡ add_while (test_of condition) (add_statement s)
unfolding add_item add_statement_form add_statement parts_of_block parts_of_group form.roll-StatementForm
    denote.Hole.Carrier.roll
while-form keyword condition body s is =
    fold-roll-StatementForm Part Part PartList Part Part Part Part GroupParts Part item_step form_step block_step
    controlled_step do_step else_step for_step group_step statement_step
    (StatementForm-F.While keyword condition body)
    ∙ ap (add_while (test_of condition)) (controlled-is body s is)

pub do-form : (d : DoWhile) (s : Statement) → s ≡ held (out-DoWhile d).body
    → add_statement_form (form.DoWhile d)
    ≡ statements.add_do (test_of (out-DoWhile d).condition) (add_statement s)
unfolding add_item add_statement_form add_statement parts_of_block parts_of_group form.roll-StatementForm
    denote.Hole.Carrier.roll
do-form d s is = fold-roll-StatementForm Part Part PartList Part Part Part Part GroupParts Part item_step form_step
    block_step controlled_step do_step else_step for_step group_step statement_step (StatementForm-F.DoWhile d)
    ∙ do-is d ∙ ap (statements.add_do (test_of (out-DoWhile d).condition))
    (controlled-is (out-DoWhile d).body s is)

pub for-form : (f : For) (head : ForHead) (s : Statement) → head ≡ (out-For f).head.value
    → s ≡ held (out-For f).body
    → add_statement_form (form.For f) ≡ statements.add_for head (add_statement s)
unfolding add_item add_statement_form add_statement parts_of_block parts_of_group form.roll-StatementForm
    denote.Hole.Carrier.roll
for-form f head s head_is is =
    fold-roll-StatementForm Part Part PartList Part Part Part Part GroupParts Part item_step form_step block_step
    controlled_step do_step else_step for_step group_step statement_step (StatementForm-F.For f)
    ∙ for-is f ∙ ap (λ (h : ForHead). statements.add_for h (add_controlled (out-For f).body)) (sym head_is)
    ∙ ap (statements.add_for head) (controlled-is (out-For f).body s is)

pub break-form : (keyword semicolon : Token)
    → add_statement_form (form.Break keyword semicolon) ≡ add_jump keyword.at (jump_of keyword)
unfolding add_item add_statement_form add_statement parts_of_block parts_of_group form.roll-StatementForm
    denote.Hole.Carrier.roll
break-form keyword semicolon = fold-roll-StatementForm Part Part PartList Part Part Part Part GroupParts Part item_step
    form_step block_step controlled_step do_step else_step for_step group_step statement_step
    (StatementForm-F.Break keyword semicolon)

pub continue-form : (keyword semicolon : Token)
    → add_statement_form (form.Continue keyword semicolon) ≡ add_jump keyword.at (jump_of keyword)
unfolding add_item add_statement_form add_statement parts_of_block parts_of_group form.roll-StatementForm
    denote.Hole.Carrier.roll
continue-form keyword semicolon = fold-roll-StatementForm Part Part PartList Part Part Part Part GroupParts Part
    item_step
    form_step block_step controlled_step do_step else_step for_step group_step statement_step
    (StatementForm-F.Continue keyword semicolon)

pub return-form : (keyword : Token) (value : Option Conditional) (semicolon : Token)
    → add_statement_form (form.Return keyword value semicolon) ≡ add_jump_with keyword (optional_typing
    value)
unfolding add_item add_statement_form add_statement parts_of_block parts_of_group form.roll-StatementForm
    denote.Hole.Carrier.roll
return-form keyword value semicolon = fold-roll-StatementForm Part Part PartList Part Part Part Part GroupParts Part
    item_step form_step block_step controlled_step do_step else_step for_step group_step statement_step
    (StatementForm-F.Return keyword value semicolon)

pub assert-form : (keyword : Token) (condition : Condition) (semicolon : Token)
    → add_statement_form (form.Assert keyword condition semicolon) ≡ add_assert keyword.at (test_of
    condition)
unfolding add_item add_statement_form add_statement parts_of_block parts_of_group form.roll-StatementForm
    denote.Hole.Carrier.roll
assert-form keyword condition semicolon = fold-roll-StatementForm Part Part PartList Part Part Part Part GroupParts Part
    item_step form_step block_step controlled_step do_step else_step for_step group_step statement_step
    (StatementForm-F.Assert keyword condition semicolon)

pub printf-form : (keyword opener : Token) (printed : Printed) (closer semicolon : Token)
    → add_statement_form (form.Printf keyword opener printed closer semicolon)
    ≡ add_printf keyword.at (printed_typings printed)
unfolding add_item add_statement_form add_statement parts_of_block parts_of_group form.roll-StatementForm
    denote.Hole.Carrier.roll
printf-form keyword opener printed closer semicolon = fold-roll-StatementForm Part Part PartList Part Part Part Part GroupParts Part item_step form_step block_step controlled_step do_step else_step for_step group_step statement_step
    (StatementForm-F.Printf keyword opener printed closer semicolon)
