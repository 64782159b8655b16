-- The trees of statements, written out: what each type adds to its parts, and the folds over the trees.

use Rattle.std.specs.Prelude.{[], ◌∷◌, ◌++◌, Option, None, Some, option_map}
use Rattle.ba_trees.specs.declared.tree.statements.BlockItem.TheOpen.{BlockItem-F, StatementForm-F, Block-F, Controlled-F, DoWhile-F, Else-F, For-F, Group-F, Statement-F}
use Rattle.ba_trees.specs.declared.tree.statements.BlockItem.TheFolds.{fold-BlockItem, fold-StatementForm, fold-Block, fold-Controlled, fold-Else, fold-Group, fold-Statement}
use Rattle.ba_trees.specs.declared.tree.statements.BlockItem.{BlockItem}
use Rattle.ba_trees.specs.declared.tree.statements.StatementForm.{StatementForm}
use Rattle.ba_trees.specs.declared.tree.statements.Statement.{Statement}
use Rattle.ba_trees.specs.declared.tree.statements.Block.{Block}
use Rattle.ba_trees.specs.declared.tree.statements.Controlled.{Controlled}
use Rattle.ba_trees.specs.declared.tree.statements.Else.{Else}
use Rattle.ba_trees.specs.declared.tree.statements.Group.{Group}
use Rattle.ba_trees.specs.Marks.{leaf, node_of, one_deeper, block, statement, no_else, group}
use Rattle.ba_trees.specs.Views.{joined, optional}
use Rattle.ba_trees.specs.ExpressionMarks.{M, conditional_marks}
use Rattle.ba_trees.specs.DeclarationMarks.{declaration_marks}
use Rattle.ba_trees.specs.SimpleMarks.{simple_marks, condition_marks, label_marks, for_head_marks, printed_marks}

-- WHAT A TYPE ADDS to its parts written out

-- a missing `else` is an empty node
abbrev pub or_no_else : Option M → M
or_no_else None = node_of no_else []
or_no_else (Some f) = f

abbrev pub item_step : BlockItem-F M M M M M M M M M → M
item_step (BlockItem-F.Declaration d) = declaration_marks d
item_step (BlockItem-F.Statement s) = s

abbrev pub form_step : StatementForm-F M M M M M M M M M → M
form_step (StatementForm-F.Block b) = b
form_step (StatementForm-F.Empty semicolon) = leaf semicolon ∷ []
form_step (StatementForm-F.Simple simple semicolon) = simple_marks simple ++ leaf semicolon ∷ []
form_step (StatementForm-F.If keyword condition holds fails) = leaf keyword ∷ condition_marks condition
    ++ holds ++ or_no_else fails
form_step (StatementForm-F.Switch keyword condition opener groups closer) = leaf keyword ∷ condition_marks
    condition ++ leaf opener ∷ one_deeper (joined groups.items) ++ leaf closer ∷ []
form_step (StatementForm-F.While keyword condition body) = leaf keyword ∷ condition_marks condition
    ++ body
form_step (StatementForm-F.DoWhile d) = d
form_step (StatementForm-F.For f) = f
form_step (StatementForm-F.Break keyword semicolon) = leaf keyword ∷ leaf semicolon ∷ []
form_step (StatementForm-F.Continue keyword semicolon) = leaf keyword ∷ leaf semicolon ∷ []
form_step (StatementForm-F.Return keyword value semicolon) = leaf keyword ∷ optional
    (option_map conditional_marks value) ++ leaf semicolon ∷ []
form_step (StatementForm-F.Assert keyword condition semicolon) = leaf keyword ∷ condition_marks condition
    ++ leaf semicolon ∷ []
form_step (StatementForm-F.Printf keyword opener printed closer semicolon) =
    leaf keyword ∷ leaf opener ∷ one_deeper (printed_marks printed) ++ leaf closer
    ∷ leaf semicolon ∷ []

abbrev pub block_step : Block-F M M M M M M M M M → M
block_step b = node_of block (leaf b.«open» ∷ one_deeper (joined b.items.items) ++ leaf b.close ∷ [])

abbrev pub controlled_step : Controlled-F M M M M M M M M M → M
controlled_step c = one_deeper c.statement.value

abbrev pub do_step : DoWhile-F M M M M M M M M M → M
do_step d = leaf d.keyword ∷ d.body ++ leaf d.while_keyword ∷ condition_marks d.condition
    ++ leaf d.semicolon ∷ []

abbrev pub else_step : Else-F M M M M M M M M M → M
else_step e = leaf e.keyword ∷ e.statement

abbrev pub for_step : For-F M M M M M M M M M → M
for_step f = leaf f.keyword ∷ leaf f.«open» ∷ one_deeper (for_head_marks f.head.value)
    ++ leaf f.close ∷ f.body

abbrev pub group_step : Group-F M M M M M M M M M → M
group_step g = node_of group (label_marks g.label ++ joined g.statements.items)

abbrev pub statement_step : Statement-F M M M M M M M M M → M
statement_step s = node_of statement s.form

-- WHOLE TREES

abbrev pub item_marks : BlockItem → M
item_marks = fold-BlockItem M M M M M M M M M item_step form_step block_step controlled_step do_step else_step
    for_step group_step statement_step

abbrev pub form_marks : StatementForm → M
form_marks = fold-StatementForm M M M M M M M M M item_step form_step block_step controlled_step do_step
    else_step for_step group_step statement_step

abbrev pub block_marks : Block → M
block_marks = fold-Block M M M M M M M M M item_step form_step block_step controlled_step do_step else_step
    for_step group_step statement_step

abbrev pub controlled_marks : Controlled → M
controlled_marks = fold-Controlled M M M M M M M M M item_step form_step block_step controlled_step do_step
    else_step for_step group_step statement_step

abbrev pub else_marks : Else → M
else_marks = fold-Else M M M M M M M M M item_step form_step block_step controlled_step do_step else_step
    for_step group_step statement_step

abbrev pub group_marks : Group → M
group_marks = fold-Group M M M M M M M M M item_step form_step block_step controlled_step do_step else_step
    for_step group_step statement_step

abbrev pub statement_marks : Statement → M
statement_marks = fold-Statement M M M M M M M M M item_step form_step block_step controlled_step do_step
    else_step for_step group_step statement_step
