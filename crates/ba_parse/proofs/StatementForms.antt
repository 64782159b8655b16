-- The marks of an `if`, a `switch` and a `for`, by those of their parts.

use Rattle.std.proofs.Common.{◌≡◌, [], ◌∷◌, ◌++◌, map, ◌∙◌, Option, None, Some, option_map, Vec, Global}
use Rattle.ba_tokens.specs.declared.token.Token.{Token}
use Rattle.ba_trees.specs.Marks.{leaf, one_deeper}
use Rattle.ba_trees.specs.Views.{joined}
use Rattle.ba_trees.specs.ExpressionMarks.{M}
use Rattle.ba_trees.specs.SimpleMarks.{condition_marks, for_head_marks}
use Rattle.ba_trees.specs.StatementMarks.{or_no_else, item_step, form_step, block_step, controlled_step, do_step, else_step, for_step, group_step, statement_step, form_marks, controlled_marks, else_marks, group_marks}
use Rattle.ba_trees.specs.declared.tree.statements.Condition.{Condition}
use Rattle.ba_trees.specs.declared.tree.statements.BlockItem.{BlockItem}
use Rattle.ba_trees.specs.declared.tree.statements.StatementForm.{StatementForm}
use Rattle.ba_trees.specs.declared.tree.statements.Block.{Block}
use Rattle.ba_trees.specs.declared.tree.statements.Controlled.{Controlled}
use Rattle.ba_trees.specs.declared.tree.statements.DoWhile.{DoWhile}
use Rattle.ba_trees.specs.declared.tree.statements.Else.{Else}
use Rattle.ba_trees.specs.declared.tree.statements.For.{For as ForLoop}
use Rattle.ba_trees.specs.declared.tree.statements.Group.{Group}
use Rattle.ba_trees.specs.declared.tree.statements.Statement.{Statement}
use Rattle.ba_trees.specs.declared.tree.statements.BlockItem.TheOpen.{StatementForm-F, For-F}
use Rattle.ba_trees.specs.declared.tree.statements.BlockItem.TheViews.{If, Switch, roll-StatementForm, roll-For}
use Rattle.ba_trees.specs.declared.tree.statements.BlockItem.TheBlock.{For}
use Rattle.ba_trees.specs.declared.tree.statements.BlockItem.TheFolds.{fold-roll-StatementForm, fold-roll-For}

pub if_marks : (keyword : Token) (condition : Condition) (holds : Controlled) (fails : Option Else) →
    form_marks (If keyword condition holds fails)
    ≡ leaf keyword ∷ condition_marks condition ++ controlled_marks holds ++ or_no_else
    (option_map else_marks fails)
unfolding roll-StatementForm denote.Hole.Carrier.roll
if_marks keyword condition holds None =
    fold-roll-StatementForm M M M M M M M M M item_step form_step block_step controlled_step do_step else_step
    for_step group_step statement_step (StatementForm-F.If keyword condition holds None)
if_marks keyword condition holds (Some e) =
    fold-roll-StatementForm M M M M M M M M M item_step form_step block_step controlled_step do_step else_step
    for_step group_step statement_step (StatementForm-F.If keyword condition holds (Some e))

pub switch_marks : (keyword : Token) (condition : Condition) (opener : Token) (groups : Vec Group Global)
    (closer : Token) → form_marks (Switch keyword condition opener groups closer)
    ≡ leaf keyword ∷ condition_marks condition ++ leaf opener ∷ one_deeper
    (joined (map group_marks groups.items)) ++ leaf closer ∷ []
unfolding roll-StatementForm denote.Hole.Carrier.roll
switch_marks keyword condition opener groups closer =
    fold-roll-StatementForm M M M M M M M M M item_step form_step block_step controlled_step do_step else_step
    for_step group_step statement_step (StatementForm-F.Switch keyword condition opener groups closer)

pub for_marks : (f : For-F BlockItem StatementForm Block Controlled DoWhile Else ForLoop Group Statement) →
    form_marks (For (roll-For f))
    ≡ leaf f.keyword ∷ leaf f.«open» ∷ one_deeper (for_head_marks f.head.value)
    ++ leaf f.close ∷ controlled_marks f.body
unfolding roll-StatementForm denote.Hole.Carrier.roll
for_marks f =
    fold-roll-StatementForm M M M M M M M M M item_step form_step block_step controlled_step do_step else_step
    for_step group_step statement_step (StatementForm-F.For (roll-For f))
    ∙ fold-roll-For M M M M M M M M M item_step form_step block_step controlled_step do_step else_step
    for_step group_step statement_step f
