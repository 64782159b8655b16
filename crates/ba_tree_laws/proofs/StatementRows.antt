-- Statements, read back: the row of each type of the parser's trees, by induction on the trees.
use Rattle.std.proofs.Common.{◌≡◌, ℕ, ◌+◌, Option, None, Some, List, [], ◌∷◌, ◌++◌, map, length, refl, sym, ◌∙◌, ap, subst}
use Rattle.std.proofs.lemmas.List.{append-nil}
use Rattle.ba_tokens.specs.declared.token.Token.{Token}
use Rattle.ba_trees.specs.Marks as rule
use Rattle.ba_trees.specs.Views.{joined}
use Rattle.ba_trees.specs.ExpressionMarks.{M}
use Rattle.ba_trees.specs.SimpleMarks.{for_head_marks, label_marks}
use Rattle.ba_trees.specs.StatementMarks.{item_marks, form_marks, block_marks, controlled_marks, else_marks, group_marks, statement_marks}
use Rattle.ba_trees.specs.StatementMarks as marks
use Rattle.ba_trees.specs.declared.tree.expressions.Conditional.{Conditional}
use Rattle.ba_trees.specs.declared.tree.statements.ForFirst.{ForFirst}
use Rattle.ba_trees.specs.declared.tree.statements.ForHead.{ForHead}
use Rattle.ba_trees.specs.declared.tree.statements.Simples.{Simples}
use Rattle.ba_trees.specs.declared.tree.statements.BlockItem.{BlockItem}
use Rattle.ba_trees.specs.declared.tree.statements.StatementForm.{StatementForm}
use Rattle.ba_trees.specs.declared.tree.statements.Block.{Block}
use Rattle.ba_trees.specs.declared.tree.statements.Controlled.{Controlled}
use Rattle.ba_trees.specs.declared.tree.statements.DoWhile.{DoWhile}
use Rattle.ba_trees.specs.declared.tree.statements.Else.{Else}
use Rattle.ba_trees.specs.declared.tree.statements.For.{For}
use Rattle.ba_trees.specs.declared.tree.statements.Group.{Group}
use Rattle.ba_trees.specs.declared.tree.statements.Label.{Label}
use Rattle.ba_trees.specs.declared.tree.statements.Label.TheVariants as labelled
use Rattle.ba_trees.specs.declared.tree.statements.Statement.{Statement}
use Rattle.ba_trees.specs.declared.tree.statements.BlockItem.TheOpen.{BlockItem-F, StatementForm-F, Block-F, Controlled-F, DoWhile-F, Else-F, For-F, Group-F, Statement-F}
use Rattle.ba_trees.specs.declared.tree.statements.BlockItem.TheViews.{roll-BlockItem, roll-StatementForm, roll-Block, roll-Controlled, roll-DoWhile, roll-Else, roll-For, roll-Group, roll-Statement}
use Rattle.ba_trees.specs.declared.tree.statements.BlockItem.TheFolds.{map-BlockItem, map-StatementForm, map-Block, map-Controlled, map-DoWhile, map-Else, map-For, map-Group, map-Statement, ind-Block, fold-Controlled, fold-DoWhile, fold-Else, fold-For, fold-roll-BlockItem, fold-roll-StatementForm, fold-roll-Block, fold-roll-Controlled, fold-roll-DoWhile, fold-roll-Else, fold-roll-For, fold-roll-Group, fold-roll-Statement}
use Rattle.ba_numbers.specs.declared.ids.At.{At}
use Rattle.ba_numbers.specs.declared.numbers.CType.{CType}
use Rattle.ba_numbers.specs.Types.{promoted}
use Rattle.ba_tree.specs.Trees.{stmts_of}
use Rattle.ba_tree.specs.Trees as tree
use Rattle.ba_typing.specs.Declarations.{Added, Before, Part, ◌and◌, behind, in_order, next_stmt}
use Rattle.ba_typing.specs.Expressions.{Typing, typed_conditional, tree_as}
use Rattle.ba_typing.specs.Names.{Scope, knowing, switching}
use Rattle.ba_typing.specs.declared.meanings.Labels.{Labels}
use Rattle.ba_typing.specs.Statements as statements
use Rattle.ba_typing.specs.Statements.{GroupParts, Labelled, PartList, add_first, add_printf, for_scope, optional_typing, item_step, form_step, block_step, controlled_step, do_step, else_step, for_step, group_step, statement_step, add_item, add_statement_form, add_statement, parts_of_block, parts_of_group, add_group, add_groups, add_switch, add_label, add_controlling, enclosing, no_labels}
use Rattle.ba_tree_laws.proofs.DeclarationRows.{AllOf, conditional_items, optional_row, declaration_row, simple_row, condition_row, first_row, simples_items, step_row, printed_row}
use Rattle.ba_tree_laws.proofs.ExpressionRows.{conditional_row}
use Rattle.ba_tree_laws.proofs.Rows.{Item, LabelItem, valued, otherwise, GroupItem, Row, Reads, token, for_first, block, label, group, statement, as_conditional, as_block_item, as_group, as_statement, items_of, items_append, with_item, statement_of, label_added, group_added, behind_group, groups_added, switched_by, ended, none, both, front, deeper, inside, as_row}

-- WHAT IS READ of each type

abbrev add_controlled : Controlled → Part
add_controlled = fold-Controlled Part Part PartList Part Part Part Part GroupParts Part item_step form_step
    block_step
    controlled_step do_step else_step for_step group_step statement_step

abbrev add_do : DoWhile → Part
add_do = fold-DoWhile Part Part PartList Part Part Part Part GroupParts Part item_step form_step block_step
    controlled_step do_step else_step for_step group_step statement_step

abbrev add_else : Else → Part
add_else = fold-Else Part Part PartList Part Part Part Part GroupParts Part item_step form_step block_step
    controlled_step do_step else_step for_step group_step statement_step

abbrev add_for : For → Part
add_for = fold-For Part Part PartList Part Part Part Part GroupParts Part item_step form_step block_step
    controlled_step do_step else_step for_step group_step statement_step

abbrev do_marks : DoWhile → M
do_marks = fold-DoWhile M M M M M M M M M marks.item_step marks.form_step marks.block_step
    marks.controlled_step
    marks.do_step marks.else_step marks.for_step marks.group_step marks.statement_step

abbrev for_marks : For → M
for_marks = fold-For M M M M M M M M M marks.item_step marks.form_step marks.block_step marks.controlled_step
    marks.do_step marks.else_step marks.for_step marks.group_step marks.statement_step

-- an item of a block
record IsItem (m : M) (s : Part) : Type 0 where
  item : Item
  reads : Reads m (item ∷ [])
  is : as_block_item item ≡ Some s

-- what is in a statement's node
record IsForm (m : M) (s : Part) : Type 0 where
  row : Row
  reads : Reads m row
  is : statement_of row ≡ s

abbrev IsBlock : M → PartList → Type 0
IsBlock m s = Reads m (block s ∷ [])

abbrev IsStatement : M → Part → Type 0
IsStatement m s = Reads m (statement s ∷ [])

-- an `else` and its statement
record IsElse (m : M) (s : Part) : Type 0 where
  keyword : Token
  reads : Reads m (token keyword ∷ statement s ∷ [])

-- a label and the statements after it
abbrev label_by : Label → LabelItem
label_by (labelled.Case keyword value colon) = valued (typed_conditional value)
label_by (labelled.Default keyword colon) = otherwise keyword.at

abbrev group_by : GroupParts → GroupItem
group_by g = record { label = label_by g.label; statements = g.statements }

abbrev IsGroup : M → GroupParts → Type 0
IsGroup m g = Reads m (group (group_by g) ∷ [])

abbrev Of : {A S : Type 0} → (M → S → Type 0) → (A → M) → (A → S) → Type 0
Of {A} holds marks add = (x : A) × holds (marks x) (add x)

abbrev OfItem : Type 0
OfItem = Of IsItem item_marks add_item

abbrev OfForm : Type 0
OfForm = Of IsForm form_marks add_statement_form

abbrev OfBlock : Type 0
OfBlock = Of IsBlock block_marks parts_of_block

abbrev OfControlled : Type 0
OfControlled = Of IsStatement controlled_marks add_controlled

abbrev OfDo : Type 0
OfDo = Of IsForm do_marks add_do

abbrev OfElse : Type 0
OfElse = Of IsElse else_marks add_else

abbrev OfFor : Type 0
OfFor = Of IsForm for_marks add_for

abbrev OfGroup : Type 0
OfGroup = Of IsGroup group_marks parts_of_group

abbrev OfStatement : Type 0
OfStatement = Of IsStatement statement_marks add_statement

abbrev Bare : (Type 0 → Type 0 → Type 0 → Type 0 → Type 0 → Type 0 → Type 0 → Type 0 → Type 0 → Type 0)
    → Type 0
Bare F = F BlockItem StatementForm Block Controlled DoWhile Else For Group Statement

abbrev Pieces : (Type 0 → Type 0 → Type 0 → Type 0 → Type 0 → Type 0 → Type 0 → Type 0 → Type 0 → Type 0)
    → Type 0
Pieces F = F OfItem OfForm OfBlock OfControlled OfDo OfElse OfFor OfGroup OfStatement

abbrev Marked : (Type 0 → Type 0 → Type 0 → Type 0 → Type 0 → Type 0 → Type 0 → Type 0 → Type 0 → Type 0)
    → Type 0
Marked F = F M M M M M M M M M

abbrev Addeds : (Type 0 → Type 0 → Type 0 → Type 0 → Type 0 → Type 0 → Type 0 → Type 0 → Type 0 → Type 0)
    → Type 0
Addeds F = F Part Part PartList Part Part Part Part GroupParts Part

abbrev bare_item : Pieces BlockItem-F → Bare BlockItem-F
bare_item = map-BlockItem OfItem OfForm OfBlock OfControlled OfDo OfElse OfFor OfGroup OfStatement
    BlockItem StatementForm Block Controlled DoWhile Else For Group Statement
    (λ e. e.0) (λ e. e.0) (λ e. e.0) (λ e. e.0) (λ e. e.0) (λ e. e.0) (λ e. e.0) (λ e. e.0) (λ e. e.0)

abbrev marked_item : Bare BlockItem-F → Marked BlockItem-F
marked_item = map-BlockItem BlockItem StatementForm Block Controlled DoWhile Else For Group Statement
    M M M M M M M M M item_marks form_marks block_marks controlled_marks do_marks else_marks for_marks
    group_marks statement_marks

abbrev added_item : Bare BlockItem-F → Addeds BlockItem-F
added_item = map-BlockItem BlockItem StatementForm Block Controlled DoWhile Else For Group Statement
    Part Part PartList Part Part Part Part GroupParts Part add_item add_statement_form parts_of_block
    add_controlled add_do add_else add_for parts_of_group add_statement

abbrev bare_form : Pieces StatementForm-F → Bare StatementForm-F
bare_form = map-StatementForm OfItem OfForm OfBlock OfControlled OfDo OfElse OfFor OfGroup OfStatement
    BlockItem StatementForm Block Controlled DoWhile Else For Group Statement
    (λ e. e.0) (λ e. e.0) (λ e. e.0) (λ e. e.0) (λ e. e.0) (λ e. e.0) (λ e. e.0) (λ e. e.0) (λ e. e.0)

abbrev marked_form : Bare StatementForm-F → Marked StatementForm-F
marked_form = map-StatementForm BlockItem StatementForm Block Controlled DoWhile Else For Group Statement
    M M M M M M M M M item_marks form_marks block_marks controlled_marks do_marks else_marks for_marks
    group_marks statement_marks

abbrev added_form : Bare StatementForm-F → Addeds StatementForm-F
added_form = map-StatementForm BlockItem StatementForm Block Controlled DoWhile Else For Group Statement
    Part Part PartList Part Part Part Part GroupParts Part add_item add_statement_form parts_of_block
    add_controlled add_do add_else add_for parts_of_group add_statement

abbrev bare_block : Pieces Block-F → Bare Block-F
bare_block = map-Block OfItem OfForm OfBlock OfControlled OfDo OfElse OfFor OfGroup OfStatement
    BlockItem StatementForm Block Controlled DoWhile Else For Group Statement
    (λ e. e.0) (λ e. e.0) (λ e. e.0) (λ e. e.0) (λ e. e.0) (λ e. e.0) (λ e. e.0) (λ e. e.0) (λ e. e.0)

abbrev marked_block : Bare Block-F → Marked Block-F
marked_block = map-Block BlockItem StatementForm Block Controlled DoWhile Else For Group Statement
    M M M M M M M M M item_marks form_marks block_marks controlled_marks do_marks else_marks for_marks
    group_marks statement_marks

abbrev added_block : Bare Block-F → Addeds Block-F
added_block = map-Block BlockItem StatementForm Block Controlled DoWhile Else For Group Statement
    Part Part PartList Part Part Part Part GroupParts Part add_item add_statement_form parts_of_block
    add_controlled add_do add_else add_for parts_of_group add_statement

abbrev bare_controlled : Pieces Controlled-F → Bare Controlled-F
bare_controlled = map-Controlled OfItem OfForm OfBlock OfControlled OfDo OfElse OfFor OfGroup OfStatement
    BlockItem StatementForm Block Controlled DoWhile Else For Group Statement
    (λ e. e.0) (λ e. e.0) (λ e. e.0) (λ e. e.0) (λ e. e.0) (λ e. e.0) (λ e. e.0) (λ e. e.0) (λ e. e.0)

abbrev marked_controlled : Bare Controlled-F → Marked Controlled-F
marked_controlled = map-Controlled BlockItem StatementForm Block Controlled DoWhile Else For Group Statement
    M M M M M M M M M item_marks form_marks block_marks controlled_marks do_marks else_marks for_marks
    group_marks statement_marks

abbrev added_controlled : Bare Controlled-F → Addeds Controlled-F
added_controlled = map-Controlled BlockItem StatementForm Block Controlled DoWhile Else For Group Statement
    Part Part PartList Part Part Part Part GroupParts Part add_item add_statement_form parts_of_block
    add_controlled add_do add_else add_for parts_of_group add_statement

abbrev bare_do : Pieces DoWhile-F → Bare DoWhile-F
bare_do = map-DoWhile OfItem OfForm OfBlock OfControlled OfDo OfElse OfFor OfGroup OfStatement
    BlockItem StatementForm Block Controlled DoWhile Else For Group Statement
    (λ e. e.0) (λ e. e.0) (λ e. e.0) (λ e. e.0) (λ e. e.0) (λ e. e.0) (λ e. e.0) (λ e. e.0) (λ e. e.0)

abbrev marked_do : Bare DoWhile-F → Marked DoWhile-F
marked_do = map-DoWhile BlockItem StatementForm Block Controlled DoWhile Else For Group Statement
    M M M M M M M M M item_marks form_marks block_marks controlled_marks do_marks else_marks for_marks
    group_marks statement_marks

abbrev added_do : Bare DoWhile-F → Addeds DoWhile-F
added_do = map-DoWhile BlockItem StatementForm Block Controlled DoWhile Else For Group Statement
    Part Part PartList Part Part Part Part GroupParts Part add_item add_statement_form parts_of_block
    add_controlled add_do add_else add_for parts_of_group add_statement

abbrev bare_else : Pieces Else-F → Bare Else-F
bare_else = map-Else OfItem OfForm OfBlock OfControlled OfDo OfElse OfFor OfGroup OfStatement
    BlockItem StatementForm Block Controlled DoWhile Else For Group Statement
    (λ e. e.0) (λ e. e.0) (λ e. e.0) (λ e. e.0) (λ e. e.0) (λ e. e.0) (λ e. e.0) (λ e. e.0) (λ e. e.0)

abbrev marked_else : Bare Else-F → Marked Else-F
marked_else = map-Else BlockItem StatementForm Block Controlled DoWhile Else For Group Statement
    M M M M M M M M M item_marks form_marks block_marks controlled_marks do_marks else_marks for_marks
    group_marks statement_marks

abbrev added_else : Bare Else-F → Addeds Else-F
added_else = map-Else BlockItem StatementForm Block Controlled DoWhile Else For Group Statement
    Part Part PartList Part Part Part Part GroupParts Part add_item add_statement_form parts_of_block
    add_controlled add_do add_else add_for parts_of_group add_statement

abbrev bare_for : Pieces For-F → Bare For-F
bare_for = map-For OfItem OfForm OfBlock OfControlled OfDo OfElse OfFor OfGroup OfStatement
    BlockItem StatementForm Block Controlled DoWhile Else For Group Statement
    (λ e. e.0) (λ e. e.0) (λ e. e.0) (λ e. e.0) (λ e. e.0) (λ e. e.0) (λ e. e.0) (λ e. e.0) (λ e. e.0)

abbrev marked_for : Bare For-F → Marked For-F
marked_for = map-For BlockItem StatementForm Block Controlled DoWhile Else For Group Statement
    M M M M M M M M M item_marks form_marks block_marks controlled_marks do_marks else_marks for_marks
    group_marks statement_marks

abbrev added_for : Bare For-F → Addeds For-F
added_for = map-For BlockItem StatementForm Block Controlled DoWhile Else For Group Statement
    Part Part PartList Part Part Part Part GroupParts Part add_item add_statement_form parts_of_block
    add_controlled add_do add_else add_for parts_of_group add_statement

abbrev bare_group : Pieces Group-F → Bare Group-F
bare_group = map-Group OfItem OfForm OfBlock OfControlled OfDo OfElse OfFor OfGroup OfStatement
    BlockItem StatementForm Block Controlled DoWhile Else For Group Statement
    (λ e. e.0) (λ e. e.0) (λ e. e.0) (λ e. e.0) (λ e. e.0) (λ e. e.0) (λ e. e.0) (λ e. e.0) (λ e. e.0)

abbrev marked_group : Bare Group-F → Marked Group-F
marked_group = map-Group BlockItem StatementForm Block Controlled DoWhile Else For Group Statement
    M M M M M M M M M item_marks form_marks block_marks controlled_marks do_marks else_marks for_marks
    group_marks statement_marks

abbrev added_group : Bare Group-F → Addeds Group-F
added_group = map-Group BlockItem StatementForm Block Controlled DoWhile Else For Group Statement
    Part Part PartList Part Part Part Part GroupParts Part add_item add_statement_form parts_of_block
    add_controlled add_do add_else add_for parts_of_group add_statement

abbrev bare_statement : Pieces Statement-F → Bare Statement-F
bare_statement = map-Statement OfItem OfForm OfBlock OfControlled OfDo OfElse OfFor OfGroup OfStatement
    BlockItem StatementForm Block Controlled DoWhile Else For Group Statement
    (λ e. e.0) (λ e. e.0) (λ e. e.0) (λ e. e.0) (λ e. e.0) (λ e. e.0) (λ e. e.0) (λ e. e.0) (λ e. e.0)

abbrev marked_statement : Bare Statement-F → Marked Statement-F
marked_statement = map-Statement BlockItem StatementForm Block Controlled DoWhile Else For Group Statement
    M M M M M M M M M item_marks form_marks block_marks controlled_marks do_marks else_marks for_marks
    group_marks statement_marks

abbrev added_statement : Bare Statement-F → Addeds Statement-F
added_statement = map-Statement BlockItem StatementForm Block Controlled DoWhile Else For Group Statement
    Part Part PartList Part Part Part Part GroupParts Part add_item add_statement_form parts_of_block
    add_controlled add_do add_else add_for parts_of_group add_statement

-- THE FORMS

item_form : (y : Pieces BlockItem-F) →
    IsItem (marks.item_step (marked_item (bare_item y))) (item_step (added_item (bare_item y)))
item_form (BlockItem-F.Declaration d) = record { item = _; reads = declaration_row d; is = refl }
item_form (BlockItem-F.Statement s) = record { item = _; reads = s.1; is = refl }

returned : (keyword semicolon : Token) (o : Option Conditional)
    → statement_of (token keyword ∷ conditional_items (optional_typing o) ++ token semicolon ∷ [])
    ≡ statements.add_jump_with keyword (optional_typing o)
returned keyword semicolon None = refl
returned keyword semicolon (Some c) = refl

-- what is after the brace of a `switch`
switched : (keyword : Token) (test : Typing) (is : Row) (closer : Token)
    → ended keyword test (is ++ token closer ∷ [])
    ≡ switched_by test (items_of as_group (is ++ token closer ∷ []))
switched keyword test [] closer = refl
switched keyword test (i ∷ is) closer = refl

label_is : (t : CType) (at : At) (l : Label) (labels : Labels) (count : ℕ) (scope : Scope) (calls : ℕ)
    → label_added t at (label_by l) labels count scope calls ≡ add_label t at l labels count scope calls
label_is t at (labelled.Case keyword value colon) labels count scope calls = refl
label_is t at (labelled.Default keyword colon) labels count scope calls = refl

group_is : (t : CType) (at : At) (g : GroupParts) (labels : Labels) (count : ℕ) (scope : Scope) (n : Before)
    → group_added t at (group_by g) labels count scope n ≡ add_group t at g labels count scope n
group_is t at g labels count scope n = ap (λ (l : Labelled). record {
  labels = l.labels;
  added = l.added and in_order g.statements scope (behind n l.added);
}) (label_is t at g.label labels count scope n.calls)

groups_are : (t : CType) (at : At) (gs : List GroupParts) (labels : Labels) (count : ℕ) (scope : Scope)
    (n : Before)
    → groups_added t at (map group_by gs) labels count scope n ≡ add_groups t at gs labels count scope n
groups_are t at [] labels count scope n = refl
groups_are t at (g ∷ gs) labels count scope n =
    let a = add_group t at g labels count scope n in
    ap (λ (a : Labelled). behind_group a (groups_added t at (map group_by gs) a.labels
    (count + length a.added.stmts) (knowing a.added.entries scope) (behind n a.added)))
    (group_is t at g labels count scope n)
    ∙ ap (behind_group a) (groups_are t at gs a.labels (count + length a.added.stmts)
    (knowing a.added.entries scope) (behind n a.added))

switch_is : (test : Typing) (gs : List GroupParts) → switched_by test (map group_by gs) ≡ add_switch test gs
switch_is test gs = λ i scope n.
    let w = test scope n.calls in
    let t = promoted w.t in
    let c = add_controlling w.first w scope n in
    let make : Labelled → Added = (λ b. enclosing
    (tree.switch (next_stmt n) t (tree_as t w) b.labels.starts b.labels.other (stmts_of b.added.stmts))
    (c and b.added)) in
    ap make (groups_are t w.first gs no_labels 0 (switching scope) (behind n c)) i

groups_row : (gs : List OfGroup) → AllOf as_group (joined (map group_marks (map (λ e. e.0) gs)))
    (map group_by (map parts_of_group (map (λ e. e.0) gs)))
groups_row [] = record { row = []; reads = none; are = refl }
groups_row (g ∷ gs) = let rest = groups_row gs in record {
  row = group (group_by (parts_of_group g.0)) ∷ rest.row;
  reads = both g.1 rest.reads;
  are = ap (λ xs. group_by (parts_of_group g.0) ∷ xs) rest.are;
}

form_form : (y : Pieces StatementForm-F) →
    IsForm (marks.form_step (marked_form (bare_form y))) (form_step (added_form (bare_form y)))
form_form (StatementForm-F.Block items) = record { row = _; reads = items.1; is = refl }
form_form (StatementForm-F.Empty semicolon) = record { row = _; reads = front semicolon none; is = refl }
form_form (StatementForm-F.Simple s semicolon) =
    record { row = _; reads = both (simple_row s) (front semicolon none); is = refl }
form_form (StatementForm-F.If keyword condition holds None) = record {
  row = _;
  reads = front keyword (both (both (condition_row condition) holds.1) (inside rule.no_else none));
  is = refl;
}
form_form (StatementForm-F.If keyword condition holds (Some fails)) = record {
  row = _;
  reads = front keyword (both (both (condition_row condition) holds.1) fails.1.reads);
  is = refl;
}
form_form (StatementForm-F.Switch keyword condition opener groups closer) =
    let all = groups_row groups.items in
    let test = statements.test_of condition in record {
      row = _;
      reads = front keyword (both (both (condition_row condition) (front opener (deeper all.reads)))
          (front closer none));
      is = switched keyword test all.row closer
          ∙ ap (switched_by test) (items_append as_group all.row (token closer ∷ [])
          ∙ append-nil (items_of as_group all.row) ∙ all.are)
          ∙ switch_is test (map parts_of_group (map (λ e. e.0) groups.items));
    }
form_form (StatementForm-F.While keyword condition body) = record {
  row = _;
  reads = front keyword (both (condition_row condition) body.1);
  is = refl;
}
form_form (StatementForm-F.DoWhile d) = d.1
form_form (StatementForm-F.For s) = s.1
form_form (StatementForm-F.Break keyword semicolon) =
    record { row = _; reads = front keyword (front semicolon none); is = refl }
form_form (StatementForm-F.Continue keyword semicolon) =
    record { row = _; reads = front keyword (front semicolon none); is = refl }
form_form (StatementForm-F.Return keyword value semicolon) = record {
  row = _;
  reads = front keyword (both (optional_row value) (front semicolon none));
  is = returned keyword semicolon value;
}
form_form (StatementForm-F.Assert keyword condition semicolon) = record {
  row = _;
  reads = front keyword (both (condition_row condition) (front semicolon none));
  is = refl;
}
form_form (StatementForm-F.Printf keyword opener printed closer semicolon) =
    let p = printed_row printed in
    let end = token closer ∷ token semicolon ∷ [] in record {
      row = _;
      reads = front keyword (front opener (both (deeper p.reads) (front closer (front
          semicolon none))));
      is = ap (add_printf keyword.at) (items_append as_conditional p.row end
          ∙ append-nil (items_of as_conditional p.row) ∙ p.are);
    }

items_row : (xs : List OfItem) → AllOf as_block_item (joined (map item_marks (map (λ e. e.0) xs)))
    (map add_item (map (λ e. e.0) xs))
items_row [] = record { row = []; reads = none; are = refl }
items_row (x ∷ xs) = let rest = items_row xs in record {
  row = x.1.item ∷ rest.row;
  reads = both x.1.reads rest.reads;
  are = ap (λ o. with_item o (items_of as_block_item rest.row)) x.1.is ∙ ap (λ ps. add_item x.0 ∷ ps)
      rest.are;
}

block_form : (y : Pieces Block-F) →
    IsBlock (marks.block_step (marked_block (bare_block y))) (block_step (added_block (bare_block y)))
block_form y = let all = items_row y.items.items in
    as_row (ap (λ ps. block ps ∷ []) (items_append as_block_item all.row (token y.close ∷ [])
    ∙ append-nil (items_of as_block_item all.row) ∙ all.are))
    (inside rule.block (front y.«open» (both (deeper all.reads) (front y.close none))))

controlled_form : (y : Pieces Controlled-F) →
    IsStatement (marks.controlled_step (marked_controlled (bare_controlled y)))
    (controlled_step (added_controlled (bare_controlled y)))
controlled_form y = deeper y.statement.value.1

do_form : (y : Pieces DoWhile-F) →
    IsForm (marks.do_step (marked_do (bare_do y))) (do_step (added_do (bare_do y)))
do_form y = record {
  row = _;
  reads = front y.keyword (both (both y.body.1 (front y.while_keyword (condition_row y.condition)))
      (front y.semicolon none));
  is = refl;
}

else_form : (y : Pieces Else-F) →
    IsElse (marks.else_step (marked_else (bare_else y))) (else_step (added_else (bare_else y)))
else_form y = record { keyword = y.keyword; reads = front y.keyword y.statement.1 }

-- the row of a head, and of the body after it
abbrev head_items : ForFirst → Token → Option Conditional → Token → Option Simples → Row
head_items f first test second step = ((for_first (for_scope f) (add_first f) ∷ [])
    ++ (token first ∷ conditional_items (optional_typing test))) ++ (token second ∷ simples_items
    step)

looped : (keyword opener : Token) (f : ForFirst) (first : Token) (test : Option Conditional)
    (second : Token)
    (step : Option Simples) (closer : Token) (body : Part)
    → statement_of (token keyword ∷ token opener ∷ (head_items f first test second step
    ++ token closer ∷ statement body ∷ []))
    ≡ statements.add_for (record {
      first = f;
      first_semicolon = first;
      test = test;
      second_semicolon =
          second;
      step = step;
    }) body
looped keyword opener f first None second None closer body = refl
looped keyword opener f first None second (Some s) closer body = refl
looped keyword opener f first (Some c) second None closer body = refl
looped keyword opener f first (Some c) second (Some s) closer body = refl

head_row : (h : ForHead) →
    Reads (for_head_marks h) (head_items h.first h.first_semicolon h.test h.second_semicolon h.step)
head_row h = both (both (first_row h.first) (front h.first_semicolon (optional_row h.test)))
    (front h.second_semicolon (step_row h.step))

for_form : (y : Pieces For-F) →
    IsForm (marks.for_step (marked_for (bare_for y))) (for_step (added_for (bare_for y)))
for_form y = let h = y.head.value in record {
  row = _;
  reads = front y.keyword (front y.«open» (both (deeper (head_row h)) (front y.close y.body.1)));
  is = looped y.keyword y.«open» h.first h.first_semicolon h.test h.second_semicolon h.step y.close
      (add_controlled y.body.0);
}

label_row : (l : Label) → Reads (label_marks l) (label (label_by l) ∷ [])
label_row (labelled.Case keyword value colon) =
    inside rule.label (front keyword (both (conditional_row value) (front colon none)))
label_row (labelled.Default keyword colon) = inside rule.label (front keyword (front colon none))

statements_row : (ss : List OfStatement)
    → AllOf as_statement (joined (map statement_marks (map (λ e. e.0) ss)))
    (map add_statement (map (λ e. e.0) ss))
statements_row [] = record { row = []; reads = none; are = refl }
statements_row (s ∷ ss) = let rest = statements_row ss in record {
  row = statement (add_statement s.0) ∷ rest.row;
  reads = both s.1 rest.reads;
  are = ap (λ ps. add_statement s.0 ∷ ps) rest.are;
}

group_form : (y : Pieces Group-F) →
    IsGroup (marks.group_step (marked_group (bare_group y))) (group_step (added_group (bare_group y)))
group_form y = let all = statements_row y.statements.items in
    as_row (ap (λ ps. group (record { label = label_by y.label; statements = ps }) ∷ []) all.are)
    (inside rule.group (both (label_row y.label) all.reads))

statement_form : (y : Pieces Statement-F) →
    IsStatement (marks.statement_step (marked_statement (bare_statement y)))
    (statement_step (added_statement (bare_statement y)))
statement_form y = as_row (ap (λ p. statement p ∷ []) y.form.1.is) (inside rule.statement y.form.1.reads)

-- WHOLE TREES

by_form : {A F S : Type 0} (holds : M → S → Type 0) (marks : A → M) (add : A → S) (roll : F → A)
    (mark : F → M) (step : F → S) → ((z : F) → marks (roll z) ≡ mark z) → ((z : F) → add (roll z) ≡ step z)
    → (z x : F) → z ≡ x → holds (mark z) (step z) → holds (marks (roll x)) (add (roll x))
by_form holds marks add roll mark step mark_is step_is z x is h =
    subst (λ y. holds (marks (roll y)) (add (roll y))) is
    (subst (λ k. holds k (add (roll z))) (sym (mark_is z)) (subst (holds (mark z)) (sym (step_is z)) h))

item_layer : (x : Bare BlockItem-F) (y : Pieces BlockItem-F) → bare_item y ≡ x →
    IsItem (item_marks (roll-BlockItem x)) (add_item (roll-BlockItem x))
unfolding add_item add_statement_form add_statement parts_of_block parts_of_group
item_layer x y is = by_form IsItem item_marks add_item roll-BlockItem (λ z. marks.item_step (marked_item
    z)) (λ z. item_step (added_item z))
    (fold-roll-BlockItem M M M M M M M M M marks.item_step marks.form_step marks.block_step
    marks.controlled_step
    marks.do_step marks.else_step marks.for_step marks.group_step marks.statement_step)
    (fold-roll-BlockItem Part Part PartList Part Part Part Part GroupParts Part item_step form_step block_step
    controlled_step do_step else_step for_step group_step statement_step) (bare_item y) x is (item_form y)

form_layer : (x : Bare StatementForm-F) (y : Pieces StatementForm-F) → bare_form y ≡ x →
    IsForm (form_marks (roll-StatementForm x)) (add_statement_form (roll-StatementForm x))
unfolding add_item add_statement_form add_statement parts_of_block parts_of_group
form_layer x y is = by_form IsForm form_marks add_statement_form roll-StatementForm (λ z. marks.form_step
    (marked_form z)) (λ z. form_step (added_form z))
    (fold-roll-StatementForm M M M M M M M M M marks.item_step marks.form_step marks.block_step
    marks.controlled_step
    marks.do_step marks.else_step marks.for_step marks.group_step marks.statement_step)
    (fold-roll-StatementForm Part Part PartList Part Part Part Part GroupParts Part item_step form_step
    block_step
    controlled_step do_step else_step for_step group_step statement_step) (bare_form y) x is (form_form y)

block_layer : (x : Bare Block-F) (y : Pieces Block-F) → bare_block y ≡ x →
    IsBlock (block_marks (roll-Block x)) (parts_of_block (roll-Block x))
unfolding add_item add_statement_form add_statement parts_of_block parts_of_group
block_layer x y is = by_form IsBlock block_marks parts_of_block roll-Block (λ z. marks.block_step
    (marked_block z)) (λ z. block_step (added_block z))
    (fold-roll-Block M M M M M M M M M marks.item_step marks.form_step marks.block_step marks.controlled_step
    marks.do_step marks.else_step marks.for_step marks.group_step marks.statement_step)
    (fold-roll-Block Part Part PartList Part Part Part Part GroupParts Part item_step form_step block_step
    controlled_step do_step else_step for_step group_step statement_step) (bare_block y) x is (block_form y)

controlled_layer : (x : Bare Controlled-F) (y : Pieces Controlled-F) → bare_controlled y ≡ x →
    IsStatement (controlled_marks (roll-Controlled x)) (add_controlled (roll-Controlled x))
unfolding add_item add_statement_form add_statement parts_of_block parts_of_group
controlled_layer x y is = by_form IsStatement controlled_marks add_controlled roll-Controlled (λ z.
    marks.controlled_step (marked_controlled z)) (λ z. controlled_step (added_controlled z))
    (fold-roll-Controlled M M M M M M M M M marks.item_step marks.form_step marks.block_step
    marks.controlled_step
    marks.do_step marks.else_step marks.for_step marks.group_step marks.statement_step)
    (fold-roll-Controlled Part Part PartList Part Part Part Part GroupParts Part item_step form_step
    block_step
    controlled_step do_step else_step for_step group_step statement_step) (bare_controlled y) x is
    (controlled_form y)

do_layer : (x : Bare DoWhile-F) (y : Pieces DoWhile-F) → bare_do y ≡ x →
    IsForm (do_marks (roll-DoWhile x)) (add_do (roll-DoWhile x))
unfolding add_item add_statement_form add_statement parts_of_block parts_of_group
do_layer x y is = by_form IsForm do_marks add_do roll-DoWhile (λ z. marks.do_step (marked_do z)) (λ z.
    do_step (added_do z))
    (fold-roll-DoWhile M M M M M M M M M marks.item_step marks.form_step marks.block_step
    marks.controlled_step marks.do_step marks.else_step marks.for_step marks.group_step marks.statement_step)
    (fold-roll-DoWhile Part Part PartList Part Part Part Part GroupParts Part item_step form_step block_step
    controlled_step do_step else_step for_step group_step statement_step) (bare_do y) x is (do_form y)

else_layer : (x : Bare Else-F) (y : Pieces Else-F) → bare_else y ≡ x →
    IsElse (else_marks (roll-Else x)) (add_else (roll-Else x))
unfolding add_item add_statement_form add_statement parts_of_block parts_of_group
else_layer x y is = by_form IsElse else_marks add_else roll-Else (λ z. marks.else_step (marked_else z)) (λ
    z. else_step (added_else z))
    (fold-roll-Else M M M M M M M M M marks.item_step marks.form_step marks.block_step marks.controlled_step
    marks.do_step marks.else_step marks.for_step marks.group_step marks.statement_step)
    (fold-roll-Else Part Part PartList Part Part Part Part GroupParts Part item_step form_step block_step
    controlled_step do_step else_step for_step group_step statement_step) (bare_else y) x is (else_form y)

for_layer : (x : Bare For-F) (y : Pieces For-F) → bare_for y ≡ x →
    IsForm (for_marks (roll-For x)) (add_for (roll-For x))
unfolding add_item add_statement_form add_statement parts_of_block parts_of_group
for_layer x y is = by_form IsForm for_marks add_for roll-For (λ z. marks.for_step (marked_for z)) (λ z.
    for_step (added_for z))
    (fold-roll-For M M M M M M M M M marks.item_step marks.form_step marks.block_step marks.controlled_step
    marks.do_step marks.else_step marks.for_step marks.group_step marks.statement_step)
    (fold-roll-For Part Part PartList Part Part Part Part GroupParts Part item_step form_step block_step
    controlled_step do_step else_step for_step group_step statement_step) (bare_for y) x is (for_form y)

group_layer : (x : Bare Group-F) (y : Pieces Group-F) → bare_group y ≡ x →
    IsGroup (group_marks (roll-Group x)) (parts_of_group (roll-Group x))
unfolding add_item add_statement_form add_statement parts_of_block parts_of_group
group_layer x y is = by_form IsGroup group_marks parts_of_group roll-Group (λ z. marks.group_step
    (marked_group z)) (λ z. group_step (added_group z))
    (fold-roll-Group M M M M M M M M M marks.item_step marks.form_step marks.block_step marks.controlled_step
    marks.do_step marks.else_step marks.for_step marks.group_step marks.statement_step)
    (fold-roll-Group Part Part PartList Part Part Part Part GroupParts Part item_step form_step block_step
    controlled_step do_step else_step for_step group_step statement_step) (bare_group y) x is (group_form y)

statement_layer : (x : Bare Statement-F) (y : Pieces Statement-F) → bare_statement y ≡ x →
    IsStatement (statement_marks (roll-Statement x)) (add_statement (roll-Statement x))
unfolding add_item add_statement_form add_statement parts_of_block parts_of_group
statement_layer x y is = by_form IsStatement statement_marks add_statement roll-Statement (λ z.
    marks.statement_step (marked_statement z)) (λ z. statement_step (added_statement z))
    (fold-roll-Statement M M M M M M M M M marks.item_step marks.form_step marks.block_step
    marks.controlled_step
    marks.do_step marks.else_step marks.for_step marks.group_step marks.statement_step)
    (fold-roll-Statement Part Part PartList Part Part Part Part GroupParts Part item_step form_step block_step
    controlled_step do_step else_step for_step group_step statement_step) (bare_statement y) x is
    (statement_form y)

pub block_row : (b : Block) → Reads (block_marks b) (block (parts_of_block b) ∷ [])
block_row = ind-Block
    (λ x. IsItem (item_marks x) (add_item x))
    (λ x. IsForm (form_marks x) (add_statement_form x))
    (λ x. IsBlock (block_marks x) (parts_of_block x))
    (λ x. IsStatement (controlled_marks x) (add_controlled x))
    (λ x. IsForm (do_marks x) (add_do x))
    (λ x. IsElse (else_marks x) (add_else x))
    (λ x. IsForm (for_marks x) (add_for x))
    (λ x. IsGroup (group_marks x) (parts_of_group x))
    (λ x. IsStatement (statement_marks x) (add_statement x))
    item_layer form_layer block_layer controlled_layer do_layer else_layer for_layer group_layer
    statement_layer
