-- How deep statements nest is bounded by the levels of the tree: a file that is not too deep nests within
-- the limit.
use Rattle.std.proofs.Common.{◌≡◌, ℕ, suc, ◌+◌, ◌≤◌, max, true, None, Some, List, [], ◌∷◌, ◌++◌, map, get_or, refl, sym, subst, arith}
use Rattle.std.proofs.lemmas.Bool.{and_from, le-leb}
use Rattle.ba_trees.specs.Marks.{Mark, leaf, leave, levels}
use Rattle.ba_trees.specs.Views.{joined}
use Rattle.ba_trees.specs.ExpressionMarks.{M, conditional_marks}
use Rattle.ba_trees.specs.DeclarationMarks.{declarators_marks}
use Rattle.ba_trees.specs.StatementMarks.{item_step, form_step, block_step, controlled_step, do_step, else_step, for_step, group_step, statement_step, item_marks, form_marks, block_marks, controlled_marks, else_marks, group_marks, statement_marks}
use Rattle.ba_trees.specs.ExternalMarks.{external_form_marks, external_marks}
use Rattle.ba_trees.specs.FileMarks.{file_marks}
use Rattle.ba_trees.specs.declared.tree.statements.External.{External}
use Rattle.ba_trees.specs.declared.tree.statements.ExternalForm.{ExternalForm}
use Rattle.ba_trees.specs.declared.tree.statements.ExternalForm.TheVariants as form
use Rattle.ba_trees.specs.declared.tree.statements.FunctionEnd.TheVariants as end
use Rattle.ba_trees.specs.declared.tree.statements.RawProgram.{RawProgram}
use Rattle.ba_trees.specs.declared.tree.statements.BlockItem.{BlockItem}
use Rattle.ba_trees.specs.declared.tree.statements.StatementForm.{StatementForm}
use Rattle.ba_trees.specs.declared.tree.statements.Block.{Block}
use Rattle.ba_trees.specs.declared.tree.statements.Controlled.{Controlled}
use Rattle.ba_trees.specs.declared.tree.statements.DoWhile.{DoWhile}
use Rattle.ba_trees.specs.declared.tree.statements.Else.{Else}
use Rattle.ba_trees.specs.declared.tree.statements.For.{For}
use Rattle.ba_trees.specs.declared.tree.statements.Group.{Group}
use Rattle.ba_trees.specs.declared.tree.statements.Statement.{Statement}
use Rattle.ba_trees.specs.declared.tree.statements.BlockItem.TheOpen.{BlockItem-F, StatementForm-F, Block-F, Controlled-F, DoWhile-F, Else-F, For-F, Group-F, Statement-F}
use Rattle.ba_trees.specs.declared.tree.statements.BlockItem.TheViews.{roll-BlockItem, roll-StatementForm, roll-Block, roll-Controlled, roll-DoWhile, roll-Else, roll-For, roll-Group, roll-Statement}
use Rattle.ba_trees.specs.declared.tree.statements.BlockItem.TheFolds.{map-BlockItem, map-StatementForm, map-Block, map-Controlled, map-DoWhile, map-Else, map-For, map-Group, map-Statement, ind-Block, fold-DoWhile, fold-For, fold-roll-BlockItem, fold-roll-StatementForm, fold-roll-Block, fold-roll-Controlled, fold-roll-DoWhile, fold-roll-Else, fold-roll-For, fold-roll-Group, fold-roll-Statement}
use Rattle.ba_tree.specs.Facts.{greatest}
use Rattle.ba_typing_facts.proofs.LevelFacts.{IsEven, none, front, both, inside, deeper, conditional_even}
use Rattle.ba_typing_facts.proofs.NestingFacts.{item_depth, form_depth, block_depth, controlled_depth, do_depth, else_depth, for_depth, group_depth, statement_depth, item_nesting, form_nesting, block_nesting, controlled_nesting, do_nesting, else_nesting, for_nesting, group_nesting, statement_nesting}
use Rattle.ba_typing_facts.proofs.FileNesting.{form_of_nesting, nests_within}
use Rattle.ba_typing_facts.proofs.PartLevels.{row, maybe, specifiers_even, declarators_even, parameters_even, simple_even, condition_even, label_even, head_even, printed_even}
use Rattle.ba_typing_facts.proofs.ReachFacts.{Reaches, IsBlock, IsStated, IsControlled, split, reach_both, reach_left, reach_right, reach_front, reach_leaf, reach_inside, reach_deeper, reach_opened, block_is}

-- STATEMENTS, by induction on the parser's trees

abbrev do_marks : DoWhile → M
do_marks = fold-DoWhile M M M M M M M M M item_step form_step block_step controlled_step do_step else_step
    for_step group_step statement_step

abbrev for_marks : For → M
for_marks = fold-For M M M M M M M M M item_step form_step block_step controlled_step do_step else_step
    for_step group_step statement_step

abbrev OfItem : Type 0
OfItem = (x : BlockItem) × Reaches (item_nesting x) (item_marks x)

abbrev OfForm : Type 0
OfForm = (x : StatementForm) × IsStated (form_nesting x) (form_marks x)

abbrev OfBlock : Type 0
OfBlock = (x : Block) × IsBlock (block_nesting x) (block_marks x)

abbrev OfControlled : Type 0
OfControlled = (x : Controlled) × IsControlled (controlled_nesting x) (controlled_marks x)

abbrev OfDo : Type 0
OfDo = (x : DoWhile) × IsStated (do_nesting x) (do_marks x)

abbrev OfElse : Type 0
OfElse = (x : Else) × IsControlled (else_nesting x) (else_marks x)

abbrev OfFor : Type 0
OfFor = (x : For) × IsStated (for_nesting x) (for_marks x)

abbrev OfGroup : Type 0
OfGroup = (x : Group) × Reaches (group_nesting x) (group_marks x)

abbrev OfStatement : Type 0
OfStatement = (x : Statement) × IsStated (statement_nesting x) (statement_marks x)

abbrev Bare : (Type 0 → Type 0 → Type 0 → Type 0 → Type 0 → Type 0 → Type 0 → Type 0 → Type 0 → Type 0)
    → Type 0
Bare F = F BlockItem StatementForm Block Controlled DoWhile Else For Group Statement

abbrev Pieces : (Type 0 → Type 0 → Type 0 → Type 0 → Type 0 → Type 0 → Type 0 → Type 0 → Type 0 → Type 0)
    → Type 0
Pieces F = F OfItem OfForm OfBlock OfControlled OfDo OfElse OfFor OfGroup OfStatement

abbrev bare_item : Pieces BlockItem-F → Bare BlockItem-F
bare_item = map-BlockItem OfItem OfForm OfBlock OfControlled OfDo OfElse OfFor OfGroup OfStatement
    BlockItem StatementForm Block Controlled DoWhile Else For Group Statement
    (λ e. e.0) (λ e. e.0) (λ e. e.0) (λ e. e.0) (λ e. e.0) (λ e. e.0) (λ e. e.0) (λ e. e.0) (λ e. e.0)

abbrev written_item : Bare BlockItem-F → BlockItem-F M M M M M M M M M
written_item = map-BlockItem BlockItem StatementForm Block Controlled DoWhile Else For Group Statement
    M M M M M M M M M item_marks form_marks block_marks controlled_marks do_marks else_marks for_marks
    group_marks statement_marks

abbrev deep_item : Bare BlockItem-F → BlockItem-F ℕ ℕ ℕ ℕ ℕ ℕ ℕ ℕ ℕ
deep_item = map-BlockItem BlockItem StatementForm Block Controlled DoWhile Else For Group Statement
    ℕ ℕ ℕ ℕ ℕ ℕ ℕ ℕ ℕ item_nesting form_nesting block_nesting controlled_nesting do_nesting else_nesting
    for_nesting group_nesting statement_nesting

abbrev bare_form : Pieces StatementForm-F → Bare StatementForm-F
bare_form = map-StatementForm OfItem OfForm OfBlock OfControlled OfDo OfElse OfFor OfGroup OfStatement
    BlockItem StatementForm Block Controlled DoWhile Else For Group Statement
    (λ e. e.0) (λ e. e.0) (λ e. e.0) (λ e. e.0) (λ e. e.0) (λ e. e.0) (λ e. e.0) (λ e. e.0) (λ e. e.0)

abbrev written_form : Bare StatementForm-F → StatementForm-F M M M M M M M M M
written_form = map-StatementForm BlockItem StatementForm Block Controlled DoWhile Else For Group Statement
    M M M M M M M M M item_marks form_marks block_marks controlled_marks do_marks else_marks for_marks
    group_marks statement_marks

abbrev deep_form : Bare StatementForm-F → StatementForm-F ℕ ℕ ℕ ℕ ℕ ℕ ℕ ℕ ℕ
deep_form = map-StatementForm BlockItem StatementForm Block Controlled DoWhile Else For Group Statement
    ℕ ℕ ℕ ℕ ℕ ℕ ℕ ℕ ℕ item_nesting form_nesting block_nesting controlled_nesting do_nesting else_nesting
    for_nesting group_nesting statement_nesting

abbrev bare_block : Pieces Block-F → Bare Block-F
bare_block = map-Block OfItem OfForm OfBlock OfControlled OfDo OfElse OfFor OfGroup OfStatement
    BlockItem StatementForm Block Controlled DoWhile Else For Group Statement
    (λ e. e.0) (λ e. e.0) (λ e. e.0) (λ e. e.0) (λ e. e.0) (λ e. e.0) (λ e. e.0) (λ e. e.0) (λ e. e.0)

abbrev written_block : Bare Block-F → Block-F M M M M M M M M M
written_block = map-Block BlockItem StatementForm Block Controlled DoWhile Else For Group Statement
    M M M M M M M M M item_marks form_marks block_marks controlled_marks do_marks else_marks for_marks
    group_marks statement_marks

abbrev deep_block : Bare Block-F → Block-F ℕ ℕ ℕ ℕ ℕ ℕ ℕ ℕ ℕ
deep_block = map-Block BlockItem StatementForm Block Controlled DoWhile Else For Group Statement
    ℕ ℕ ℕ ℕ ℕ ℕ ℕ ℕ ℕ item_nesting form_nesting block_nesting controlled_nesting do_nesting else_nesting
    for_nesting group_nesting statement_nesting

abbrev bare_controlled : Pieces Controlled-F → Bare Controlled-F
bare_controlled = map-Controlled OfItem OfForm OfBlock OfControlled OfDo OfElse OfFor OfGroup OfStatement
    BlockItem StatementForm Block Controlled DoWhile Else For Group Statement
    (λ e. e.0) (λ e. e.0) (λ e. e.0) (λ e. e.0) (λ e. e.0) (λ e. e.0) (λ e. e.0) (λ e. e.0) (λ e. e.0)

abbrev written_controlled : Bare Controlled-F → Controlled-F M M M M M M M M M
written_controlled = map-Controlled BlockItem StatementForm Block Controlled DoWhile Else For Group Statement
    M M M M M M M M M item_marks form_marks block_marks controlled_marks do_marks else_marks for_marks
    group_marks statement_marks

abbrev deep_controlled : Bare Controlled-F → Controlled-F ℕ ℕ ℕ ℕ ℕ ℕ ℕ ℕ ℕ
deep_controlled = map-Controlled BlockItem StatementForm Block Controlled DoWhile Else For Group Statement
    ℕ ℕ ℕ ℕ ℕ ℕ ℕ ℕ ℕ item_nesting form_nesting block_nesting controlled_nesting do_nesting else_nesting
    for_nesting group_nesting statement_nesting

abbrev bare_do : Pieces DoWhile-F → Bare DoWhile-F
bare_do = map-DoWhile OfItem OfForm OfBlock OfControlled OfDo OfElse OfFor OfGroup OfStatement
    BlockItem StatementForm Block Controlled DoWhile Else For Group Statement
    (λ e. e.0) (λ e. e.0) (λ e. e.0) (λ e. e.0) (λ e. e.0) (λ e. e.0) (λ e. e.0) (λ e. e.0) (λ e. e.0)

abbrev written_do : Bare DoWhile-F → DoWhile-F M M M M M M M M M
written_do = map-DoWhile BlockItem StatementForm Block Controlled DoWhile Else For Group Statement
    M M M M M M M M M item_marks form_marks block_marks controlled_marks do_marks else_marks for_marks
    group_marks statement_marks

abbrev deep_do : Bare DoWhile-F → DoWhile-F ℕ ℕ ℕ ℕ ℕ ℕ ℕ ℕ ℕ
deep_do = map-DoWhile BlockItem StatementForm Block Controlled DoWhile Else For Group Statement
    ℕ ℕ ℕ ℕ ℕ ℕ ℕ ℕ ℕ item_nesting form_nesting block_nesting controlled_nesting do_nesting else_nesting
    for_nesting group_nesting statement_nesting

abbrev bare_else : Pieces Else-F → Bare Else-F
bare_else = map-Else OfItem OfForm OfBlock OfControlled OfDo OfElse OfFor OfGroup OfStatement
    BlockItem StatementForm Block Controlled DoWhile Else For Group Statement
    (λ e. e.0) (λ e. e.0) (λ e. e.0) (λ e. e.0) (λ e. e.0) (λ e. e.0) (λ e. e.0) (λ e. e.0) (λ e. e.0)

abbrev written_else : Bare Else-F → Else-F M M M M M M M M M
written_else = map-Else BlockItem StatementForm Block Controlled DoWhile Else For Group Statement
    M M M M M M M M M item_marks form_marks block_marks controlled_marks do_marks else_marks for_marks
    group_marks statement_marks

abbrev deep_else : Bare Else-F → Else-F ℕ ℕ ℕ ℕ ℕ ℕ ℕ ℕ ℕ
deep_else = map-Else BlockItem StatementForm Block Controlled DoWhile Else For Group Statement
    ℕ ℕ ℕ ℕ ℕ ℕ ℕ ℕ ℕ item_nesting form_nesting block_nesting controlled_nesting do_nesting else_nesting
    for_nesting group_nesting statement_nesting

abbrev bare_for : Pieces For-F → Bare For-F
bare_for = map-For OfItem OfForm OfBlock OfControlled OfDo OfElse OfFor OfGroup OfStatement
    BlockItem StatementForm Block Controlled DoWhile Else For Group Statement
    (λ e. e.0) (λ e. e.0) (λ e. e.0) (λ e. e.0) (λ e. e.0) (λ e. e.0) (λ e. e.0) (λ e. e.0) (λ e. e.0)

abbrev written_for : Bare For-F → For-F M M M M M M M M M
written_for = map-For BlockItem StatementForm Block Controlled DoWhile Else For Group Statement
    M M M M M M M M M item_marks form_marks block_marks controlled_marks do_marks else_marks for_marks
    group_marks statement_marks

abbrev deep_for : Bare For-F → For-F ℕ ℕ ℕ ℕ ℕ ℕ ℕ ℕ ℕ
deep_for = map-For BlockItem StatementForm Block Controlled DoWhile Else For Group Statement
    ℕ ℕ ℕ ℕ ℕ ℕ ℕ ℕ ℕ item_nesting form_nesting block_nesting controlled_nesting do_nesting else_nesting
    for_nesting group_nesting statement_nesting

abbrev bare_group : Pieces Group-F → Bare Group-F
bare_group = map-Group OfItem OfForm OfBlock OfControlled OfDo OfElse OfFor OfGroup OfStatement
    BlockItem StatementForm Block Controlled DoWhile Else For Group Statement
    (λ e. e.0) (λ e. e.0) (λ e. e.0) (λ e. e.0) (λ e. e.0) (λ e. e.0) (λ e. e.0) (λ e. e.0) (λ e. e.0)

abbrev written_group : Bare Group-F → Group-F M M M M M M M M M
written_group = map-Group BlockItem StatementForm Block Controlled DoWhile Else For Group Statement
    M M M M M M M M M item_marks form_marks block_marks controlled_marks do_marks else_marks for_marks
    group_marks statement_marks

abbrev deep_group : Bare Group-F → Group-F ℕ ℕ ℕ ℕ ℕ ℕ ℕ ℕ ℕ
deep_group = map-Group BlockItem StatementForm Block Controlled DoWhile Else For Group Statement
    ℕ ℕ ℕ ℕ ℕ ℕ ℕ ℕ ℕ item_nesting form_nesting block_nesting controlled_nesting do_nesting else_nesting
    for_nesting group_nesting statement_nesting

abbrev bare_statement : Pieces Statement-F → Bare Statement-F
bare_statement = map-Statement OfItem OfForm OfBlock OfControlled OfDo OfElse OfFor OfGroup OfStatement
    BlockItem StatementForm Block Controlled DoWhile Else For Group Statement
    (λ e. e.0) (λ e. e.0) (λ e. e.0) (λ e. e.0) (λ e. e.0) (λ e. e.0) (λ e. e.0) (λ e. e.0) (λ e. e.0)

abbrev written_statement : Bare Statement-F → Statement-F M M M M M M M M M
written_statement = map-Statement BlockItem StatementForm Block Controlled DoWhile Else For Group Statement
    M M M M M M M M M item_marks form_marks block_marks controlled_marks do_marks else_marks for_marks
    group_marks statement_marks

abbrev deep_statement : Bare Statement-F → Statement-F ℕ ℕ ℕ ℕ ℕ ℕ ℕ ℕ ℕ
deep_statement = map-Statement BlockItem StatementForm Block Controlled DoWhile Else For Group Statement
    ℕ ℕ ℕ ℕ ℕ ℕ ℕ ℕ ℕ item_nesting form_nesting block_nesting controlled_nesting do_nesting else_nesting
    for_nesting group_nesting statement_nesting

leaf_stated : {f : List Mark} → Reaches 1 f → IsStated 1 f
leaf_stated h = record { reaches = h; one = omega arith }

no_fails : (k : ℕ) {f : List Mark} → Reaches (1 + k) f → Reaches (1 + max k 0) f
no_fails k h = record { even = h.even; deep = λ d. let deep = h.deep d in omega (arith, deep) }

both_fails : (j k : ℕ) {f g : List Mark} → Reaches (1 + j) f → Reaches (1 + k) g → Reaches (1 + max j k)
    (f ++ g)
both_fails j k {f} {g} h r = let all : Reaches (max (1 + j) (1 + k)) (f ++ g) = reach_both h r in record {
  even = all.even;
  deep = λ d. let deep = all.deep d in omega (arith, deep);
}

items_row : (xs : List OfItem)
    → Reaches (greatest (map item_nesting (map (λ e. e.0) xs))) (joined (map item_marks (map (λ e. e.0) xs)))
items_row [] = record { even = none; deep = λ d. omega arith }
items_row (x ∷ xs) = reach_both x.1 (items_row xs)

item_form : (y : Pieces BlockItem-F)
    → Reaches (item_depth (deep_item (bare_item y))) (item_step (written_item (bare_item y)))
item_form (BlockItem-F.Declaration d) = reach_inside Rattle.ba_trees.specs.Marks.declaration
    (reach_right (both (specifiers_even d.specifiers)
    (maybe declarators_marks declarators_even d.declarators)) (reach_leaf d.semicolon none))
item_form (BlockItem-F.Statement s) = s.1.reaches

groups_row : (gs : List OfGroup)
    → Reaches (greatest (map group_nesting (map (λ e. e.0) gs)))
    (joined (map group_marks (map (λ e. e.0) gs)))
groups_row [] = record { even = none; deep = λ d. omega arith }
groups_row (g ∷ gs) = reach_both g.1 (groups_row gs)

statements_row : (ss : List OfStatement)
    → Reaches (greatest (map statement_nesting (map (λ e. e.0) ss)))
    (joined (map statement_marks (map (λ e. e.0) ss)))
statements_row [] = record { even = none; deep = λ d. omega arith }
statements_row (s ∷ ss) = reach_both s.1.reaches (statements_row ss)

form_form : (y : Pieces StatementForm-F)
    → IsStated (form_depth (deep_form (bare_form y))) (form_step (written_form (bare_form y)))
form_form (StatementForm-F.Block items) = record {
  reaches = record { even = items.1.even; deep = λ d. let inner = items.1.deep d in omega (arith, inner) };
  one = omega arith;
}
form_form (StatementForm-F.Empty semicolon) = leaf_stated (reach_leaf semicolon none)
form_form (StatementForm-F.Simple s semicolon) = leaf_stated (reach_right (simple_even s)
    (reach_leaf semicolon none))
form_form (StatementForm-F.If keyword condition holds None) = record {
  reaches = reach_front keyword (reach_left (reach_right (condition_even condition) (no_fails
      (controlled_nesting holds.0) holds.1.reaches))
      (inside Rattle.ba_trees.specs.Marks.no_else none));
  one = omega arith;
}
form_form (StatementForm-F.If keyword condition holds (Some fails)) = record {
  reaches = reach_front keyword (both_fails (controlled_nesting holds.0) (else_nesting fails.0)
      (reach_right (condition_even condition) holds.1.reaches) fails.1.reaches);
  one = omega arith;
}
form_form (StatementForm-F.Switch keyword condition opener groups closer) = record {
  reaches = reach_front keyword (reach_left (reach_right (condition_even condition)
      (reach_opened opener (groups_row groups.items))) (front closer none));
  one = omega arith;
}
form_form (StatementForm-F.While keyword condition body) = record {
  reaches = reach_front keyword (reach_right (condition_even condition) body.1.reaches);
  one = omega arith;
}
form_form (StatementForm-F.DoWhile d) = d.1
form_form (StatementForm-F.For s) = s.1
form_form (StatementForm-F.Break keyword semicolon) = leaf_stated (reach_leaf keyword
    (front semicolon none))
form_form (StatementForm-F.Continue keyword semicolon) = leaf_stated (reach_leaf keyword
    (front semicolon none))
form_form (StatementForm-F.Return keyword value semicolon) = leaf_stated (reach_leaf keyword
    (both (maybe conditional_marks conditional_even value) (front semicolon none)))
form_form (StatementForm-F.Assert keyword condition semicolon) = leaf_stated (reach_leaf keyword
    (both (condition_even condition) (front semicolon none)))
form_form (StatementForm-F.Printf keyword opener printed closer semicolon) = leaf_stated
    (reach_leaf keyword
    (front opener (both (deeper (printed_even printed)) (front closer (front semicolon none)))))

block_form : (y : Pieces Block-F)
    → IsBlock (block_depth (deep_block (bare_block y))) (block_step (written_block (bare_block y)))
block_form y = block_is y.«open» y.close (items_row y.items.items)

controlled_form : (y : Pieces Controlled-F)
    → IsControlled (controlled_depth (deep_controlled (bare_controlled y))) (controlled_step
    (written_controlled (bare_controlled y)))
controlled_form y = record {
  reaches = reach_deeper y.statement.value.1.one y.statement.value.1.reaches;
  one = y.statement.value.1.one;
}

do_form : (y : Pieces DoWhile-F)
    → IsStated (do_depth (deep_do (bare_do y))) (do_step (written_do (bare_do y)))
do_form y = record {
  reaches = reach_front y.keyword (reach_left (reach_left y.body.1.reaches
      (front y.while_keyword (condition_even y.condition))) (front y.semicolon none));
  one = omega arith;
}

else_form : (y : Pieces Else-F)
    → IsControlled (else_depth (deep_else (bare_else y))) (else_step (written_else (bare_else y)))
else_form y = record { reaches = reach_front y.keyword y.statement.1.reaches; one = y.statement.1.one }

for_form : (y : Pieces For-F)
    → IsStated (for_depth (deep_for (bare_for y))) (for_step (written_for (bare_for y)))
for_form y = record {
  reaches = reach_front y.keyword (reach_front y.«open» (reach_right (deeper (head_even y.head.value))
      (reach_front y.close y.body.1.reaches)));
  one = omega arith;
}

group_form : (y : Pieces Group-F)
    → Reaches (group_depth (deep_group (bare_group y))) (group_step (written_group (bare_group y)))
group_form y = reach_inside Rattle.ba_trees.specs.Marks.group (reach_right (label_even y.label)
    (statements_row y.statements.items))

statement_form : (y : Pieces Statement-F)
    → IsStated (statement_depth (deep_statement (bare_statement y))) (statement_step (written_statement
    (bare_statement y)))
statement_form y = record {
  reaches = reach_inside Rattle.ba_trees.specs.Marks.statement y.form.1.reaches;
  one = y.form.1.one;
}

-- it holds of a tree if it holds of what its form makes of the parts
by_form : {A F : Type 0} (holds : ℕ → List Mark → Type 0) (nesting : A → ℕ) (marks : A → M) (roll : F → A)
    (deep : F → ℕ) (step : F → M) → ((z : F) → nesting (roll z) ≡ deep z) → ((z : F) → marks (roll z)
    ≡ step z)
    → (z x : F) → z ≡ x → holds (deep z) (step z) → holds (nesting (roll x)) (marks (roll x))
by_form holds nesting marks roll deep step deep_is step_is z x is h =
    subst (λ y. holds (nesting (roll y)) (marks (roll y))) is
    (subst (λ k. holds k (marks (roll z))) (sym (deep_is z)) (subst (holds (deep z)) (sym (step_is z)) h))

item_layer : (x : Bare BlockItem-F) (y : Pieces BlockItem-F) → bare_item y ≡ x
    → Reaches (item_nesting (roll-BlockItem x)) (item_marks (roll-BlockItem x))
unfolding item_nesting form_nesting block_nesting controlled_nesting do_nesting else_nesting for_nesting
    group_nesting statement_nesting
item_layer x y is = by_form Reaches item_nesting item_marks roll-BlockItem
    (λ z. item_depth (deep_item z)) (λ z. item_step (written_item z))
    (fold-roll-BlockItem ℕ ℕ ℕ ℕ ℕ ℕ ℕ ℕ ℕ item_depth form_depth block_depth controlled_depth do_depth
    else_depth for_depth group_depth statement_depth)
    (fold-roll-BlockItem M M M M M M M M M item_step form_step block_step controlled_step do_step else_step
    for_step group_step statement_step)
    (bare_item y) x is (item_form y)

form_layer : (x : Bare StatementForm-F) (y : Pieces StatementForm-F) → bare_form y ≡ x
    → IsStated (form_nesting (roll-StatementForm x)) (form_marks (roll-StatementForm x))
unfolding item_nesting form_nesting block_nesting controlled_nesting do_nesting else_nesting for_nesting
    group_nesting statement_nesting
form_layer x y is = by_form IsStated form_nesting form_marks roll-StatementForm
    (λ z. form_depth (deep_form z)) (λ z. form_step (written_form z))
    (fold-roll-StatementForm ℕ ℕ ℕ ℕ ℕ ℕ ℕ ℕ ℕ item_depth form_depth block_depth controlled_depth do_depth
    else_depth for_depth group_depth statement_depth)
    (fold-roll-StatementForm M M M M M M M M M item_step form_step block_step controlled_step do_step
    else_step for_step group_step statement_step)
    (bare_form y) x is (form_form y)

block_layer : (x : Bare Block-F) (y : Pieces Block-F) → bare_block y ≡ x
    → IsBlock (block_nesting (roll-Block x)) (block_marks (roll-Block x))
unfolding item_nesting form_nesting block_nesting controlled_nesting do_nesting else_nesting for_nesting
    group_nesting statement_nesting
block_layer x y is = by_form IsBlock block_nesting block_marks roll-Block
    (λ z. block_depth (deep_block z)) (λ z. block_step (written_block z))
    (fold-roll-Block ℕ ℕ ℕ ℕ ℕ ℕ ℕ ℕ ℕ item_depth form_depth block_depth controlled_depth do_depth else_depth
    for_depth group_depth statement_depth)
    (fold-roll-Block M M M M M M M M M item_step form_step block_step controlled_step do_step else_step
    for_step group_step statement_step)
    (bare_block y) x is (block_form y)

controlled_layer : (x : Bare Controlled-F) (y : Pieces Controlled-F) → bare_controlled y ≡ x
    → IsControlled (controlled_nesting (roll-Controlled x)) (controlled_marks (roll-Controlled x))
unfolding item_nesting form_nesting block_nesting controlled_nesting do_nesting else_nesting for_nesting
    group_nesting statement_nesting
controlled_layer x y is = by_form IsControlled controlled_nesting controlled_marks roll-Controlled
    (λ z. controlled_depth (deep_controlled z)) (λ z. controlled_step (written_controlled z))
    (fold-roll-Controlled ℕ ℕ ℕ ℕ ℕ ℕ ℕ ℕ ℕ item_depth form_depth block_depth controlled_depth do_depth
    else_depth for_depth group_depth statement_depth)
    (fold-roll-Controlled M M M M M M M M M item_step form_step block_step controlled_step do_step else_step
    for_step group_step statement_step)
    (bare_controlled y) x is (controlled_form y)

do_layer : (x : Bare DoWhile-F) (y : Pieces DoWhile-F) → bare_do y ≡ x
    → IsStated (do_nesting (roll-DoWhile x)) (do_marks (roll-DoWhile x))
unfolding item_nesting form_nesting block_nesting controlled_nesting do_nesting else_nesting for_nesting
    group_nesting statement_nesting
do_layer x y is = by_form IsStated do_nesting do_marks roll-DoWhile
    (λ z. do_depth (deep_do z)) (λ z. do_step (written_do z))
    (fold-roll-DoWhile ℕ ℕ ℕ ℕ ℕ ℕ ℕ ℕ ℕ item_depth form_depth block_depth controlled_depth do_depth
    else_depth for_depth group_depth statement_depth)
    (fold-roll-DoWhile M M M M M M M M M item_step form_step block_step controlled_step do_step else_step
    for_step group_step statement_step)
    (bare_do y) x is (do_form y)

else_layer : (x : Bare Else-F) (y : Pieces Else-F) → bare_else y ≡ x
    → IsControlled (else_nesting (roll-Else x)) (else_marks (roll-Else x))
unfolding item_nesting form_nesting block_nesting controlled_nesting do_nesting else_nesting for_nesting
    group_nesting statement_nesting
else_layer x y is = by_form IsControlled else_nesting else_marks roll-Else
    (λ z. else_depth (deep_else z)) (λ z. else_step (written_else z))
    (fold-roll-Else ℕ ℕ ℕ ℕ ℕ ℕ ℕ ℕ ℕ item_depth form_depth block_depth controlled_depth do_depth else_depth
    for_depth group_depth statement_depth)
    (fold-roll-Else M M M M M M M M M item_step form_step block_step controlled_step do_step else_step
    for_step group_step statement_step)
    (bare_else y) x is (else_form y)

for_layer : (x : Bare For-F) (y : Pieces For-F) → bare_for y ≡ x
    → IsStated (for_nesting (roll-For x)) (for_marks (roll-For x))
unfolding item_nesting form_nesting block_nesting controlled_nesting do_nesting else_nesting for_nesting
    group_nesting statement_nesting
for_layer x y is = by_form IsStated for_nesting for_marks roll-For
    (λ z. for_depth (deep_for z)) (λ z. for_step (written_for z))
    (fold-roll-For ℕ ℕ ℕ ℕ ℕ ℕ ℕ ℕ ℕ item_depth form_depth block_depth controlled_depth do_depth else_depth
    for_depth group_depth statement_depth)
    (fold-roll-For M M M M M M M M M item_step form_step block_step controlled_step do_step else_step for_step
    group_step statement_step)
    (bare_for y) x is (for_form y)

group_layer : (x : Bare Group-F) (y : Pieces Group-F) → bare_group y ≡ x
    → Reaches (group_nesting (roll-Group x)) (group_marks (roll-Group x))
unfolding item_nesting form_nesting block_nesting controlled_nesting do_nesting else_nesting for_nesting
    group_nesting statement_nesting
group_layer x y is = by_form Reaches group_nesting group_marks roll-Group
    (λ z. group_depth (deep_group z)) (λ z. group_step (written_group z))
    (fold-roll-Group ℕ ℕ ℕ ℕ ℕ ℕ ℕ ℕ ℕ item_depth form_depth block_depth controlled_depth do_depth
    else_depth for_depth group_depth statement_depth)
    (fold-roll-Group M M M M M M M M M item_step form_step block_step controlled_step do_step else_step
    for_step group_step statement_step)
    (bare_group y) x is (group_form y)

statement_layer : (x : Bare Statement-F) (y : Pieces Statement-F) → bare_statement y ≡ x
    → IsStated (statement_nesting (roll-Statement x)) (statement_marks (roll-Statement x))
unfolding item_nesting form_nesting block_nesting controlled_nesting do_nesting else_nesting for_nesting
    group_nesting statement_nesting
statement_layer x y is = by_form IsStated statement_nesting statement_marks roll-Statement
    (λ z. statement_depth (deep_statement z)) (λ z. statement_step (written_statement z))
    (fold-roll-Statement ℕ ℕ ℕ ℕ ℕ ℕ ℕ ℕ ℕ item_depth form_depth block_depth controlled_depth do_depth
    else_depth for_depth group_depth statement_depth)
    (fold-roll-Statement M M M M M M M M M item_step form_step block_step controlled_step do_step else_step
    for_step group_step statement_step)
    (bare_statement y) x is (statement_form y)

blocks_are : (b : Block) → IsBlock (block_nesting b) (block_marks b)
blocks_are = ind-Block
    (λ x. Reaches (item_nesting x) (item_marks x))
    (λ x. IsStated (form_nesting x) (form_marks x))
    (λ x. IsBlock (block_nesting x) (block_marks x))
    (λ x. IsControlled (controlled_nesting x) (controlled_marks x))
    (λ x. IsStated (do_nesting x) (do_marks x))
    (λ x. IsControlled (else_nesting x) (else_marks x))
    (λ x. IsStated (for_nesting x) (for_marks x))
    (λ x. Reaches (group_nesting x) (group_marks x))
    (λ x. IsStated (statement_nesting x) (statement_marks x))
    item_layer form_layer block_layer controlled_layer do_layer else_layer for_layer group_layer
    statement_layer

-- FILES

form_even : (x : ExternalForm) → IsEven (external_form_marks x)
form_even (form.Variables declarators semicolon) =
    both (maybe declarators_marks declarators_even declarators) (front semicolon none)
form_even (form.Function name opener params closer (end.Prototype semicolon)) = front name
    (front opener
    (both (deeper (parameters_even params)) (front closer (front semicolon none))))
form_even (form.Function name opener params closer (end.Body b)) = front name (front opener
    (both (deeper (parameters_even params)) (front closer (blocks_are b).even)))

form_deep : (x : ExternalForm) (d : ℕ) → form_of_nesting x ≤ greatest (levels d (external_form_marks x))
form_deep (form.Variables declarators semicolon) d = omega arith
form_deep (form.Function name opener params closer (end.Prototype semicolon)) d = omega arith
form_deep (form.Function name opener params closer (end.Body b)) d =
    let body = (blocks_are b).deep d in
    let all = split (leaf closer ∷ block_marks b) (deeper (parameters_even params)) d in omega
    (arith, body, all)

external_even : (x : External) → IsEven (external_marks x)
external_even x = inside Rattle.ba_trees.specs.Marks.external (both (specifiers_even x.specifiers)
    (form_even x.form))

external_deep : (x : External) (d : ℕ) → form_of_nesting x.form ≤ greatest (levels d (external_marks x))
external_deep x d =
    let here = form_deep x.form d in
    let parts = split (external_form_marks x.form) (specifiers_even x.specifiers) d in
    let all = split (leave Rattle.ba_trees.specs.Marks.external ∷ []) (both (specifiers_even x.specifiers)
    (form_even x.form)) d in
    omega (arith, here, parts, all)

greatest_of : (n : ℕ) (ms : List ℕ) → ((k : ℕ) → get_or ms k 0 ≤ n) → greatest ms ≤ n
greatest_of n [] h = omega arith
greatest_of n (m ∷ ms) h = let here = h 0 in let rest = greatest_of n ms (λ k. h (suc k)) in omega
    (arith, here, rest)

nests_from : (n : ℕ) (xs : List External) → n ≡ 100 → greatest (levels 0 (joined (map external_marks xs))) ≤ n
    → nests_within xs ≡ true
nests_from n [] is h = refl
nests_from n (x ∷ xs) is h =
    let here = external_deep x 0 in
    let all = split (joined (map external_marks xs)) (external_even x) 0 in
    and_from _ _ (le-leb (form_of_nesting x.form) 100 (omega (arith, here, all, h, is)))
    (nests_from n xs is (let e : greatest (levels 0 (joined (map external_marks xs))) ≤ n = omega
    (arith, all, h) in e))

-- a file that is not too deep nests within the limit
pub parsed_nests : (t : RawProgram) → ((k : ℕ) → get_or (levels 0 (file_marks t)) k 0 ≤ 100)
    → nests_within t.externals.items ≡ true
parsed_nests t h =
    let xs = t.externals.items in
    let all = greatest_of 100 (levels 0 (file_marks t)) h in
    let parts = split (leave Rattle.ba_trees.specs.Marks.file ∷ []) (row external_marks external_even xs) 0 in
    nests_from 100 xs refl
    (let e : greatest (levels 0 (joined (map external_marks xs))) ≤ 100 = omega (arith, all, parts) in e)
