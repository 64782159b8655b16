-- Each statement of the grammar: what it adds fits the parts of the program. By induction on the parser's
-- trees, one line a form.
use Rattle.std.proofs.Common.{◌≡◌, ◌≤◌, true, Option, None, Some, List, [], ◌∷◌, map, sym, subst, arith, length}
use Rattle.ba_numbers.specs.declared.ids.At.{At}
use Rattle.ba_numbers.specs.declared.ids.VarId.{VarId}
use Rattle.ba_trees.specs.declared.tree.expressions.Conditional.{Conditional}
use Rattle.ba_trees.specs.declared.tree.expressions.NextExpression.{NextExpression}
use Rattle.ba_trees.specs.declared.tree.statements.Condition.{Condition}
use Rattle.ba_trees.specs.declared.tree.statements.Simple.{Simple}
use Rattle.ba_trees.specs.declared.tree.statements.Simple.TheVariants as simple
use Rattle.ba_trees.specs.declared.tree.statements.BlockItem.{BlockItem}
use Rattle.ba_trees.specs.declared.tree.statements.StatementForm.{StatementForm}
use Rattle.ba_trees.specs.declared.tree.statements.Block.{Block}
use Rattle.ba_trees.specs.declared.tree.statements.Controlled.{Controlled}
use Rattle.ba_trees.specs.declared.tree.statements.DoWhile.{DoWhile}
use Rattle.ba_trees.specs.declared.tree.statements.Else.{Else}
use Rattle.ba_trees.specs.declared.tree.statements.For.{For}
use Rattle.ba_trees.specs.declared.tree.statements.Group.{Group}
use Rattle.ba_trees.specs.declared.tree.statements.Statement.{Statement}
use Rattle.ba_trees.specs.declared.tree.statements.BlockItem.TheOpen.{BlockItem-F, StatementForm-F, Block-F, Controlled-F, DoWhile-F, Else-F, For-F, Group-F, Statement-F}
use Rattle.ba_trees.specs.declared.tree.statements.BlockItem.TheViews.{roll-BlockItem, roll-StatementForm, roll-Block, roll-Controlled, roll-DoWhile, roll-Else, roll-For, roll-Group, roll-Statement}
use Rattle.ba_trees.specs.declared.tree.statements.BlockItem.TheFolds.{map-BlockItem, map-StatementForm, map-Block, map-Controlled, map-DoWhile, map-Else, map-For, map-Group, map-Statement, ind-Block, fold-roll-BlockItem, fold-roll-StatementForm, fold-roll-Block, fold-roll-Controlled, fold-roll-DoWhile, fold-roll-Else, fold-roll-For, fold-roll-Group, fold-roll-Statement}
use Rattle.ba_tree.specs.declared.tree.Function.{Function}
use Rattle.ba_tree.specs.declared.tree.Parts as program
use Rattle.ba_typing.specs.Declarations.{Before, Part, nothing}
use Rattle.ba_typing.specs.Expressions.{Typing, typed_next}
use Rattle.ba_typing.specs.Names.{Scope, jump_of}
use Rattle.ba_typing.specs.Statements.{GroupParts, PartList, add_simple, add_jump, add_jump_with, optional_typing, printed_typings, test_of, item_step, form_step, block_step, controlled_step, do_step, else_step, for_step, group_step, statement_step, add_item, add_statement_form, add_statement, parts_of_block, parts_of_group}
use Rattle.ba_typing_facts.proofs.AdditionFacts.{IsPart, part_nothing, AreParts}
use Rattle.ba_typing_facts.proofs.AssignmentFacts.{AreOptional}
use Rattle.ba_typing_facts.proofs.ControlFacts.{IsStatement, block_part, if_part, while_part, do_part}
use Rattle.ba_typing_facts.proofs.EnumeratorFacts.{declaration_part}
use Rattle.ba_typing_facts.proofs.ExpressionFacts.{conditional_typing, next_typing}
use Rattle.ba_typing_facts.proofs.ForFacts.{for_part}
use Rattle.ba_typing_facts.proofs.SwitchFacts.{IsGroup, AreGroups, switch_part}
use Rattle.ba_typing.proofs.ParsedStatements.{add_controlled, add_do, add_else, add_for}
use Rattle.ba_typing_facts.proofs.PrimaryFacts.{IsWellTyping, AreWellTypings}
use Rattle.ba_tokens.specs.declared.token.Token.{Token}
use Rattle.ba_typing.specs.declared.names.Jump.{Jump}
use Rattle.ba_typing.specs.declared.names.Jump.TheVariants as jump
use Rattle.ba_typing_facts.proofs.SimpleFacts.{simple_part, assert_part, printf_part, jump_with_part}

module _ (p : program.Parts) (owned : List VarId) (f : Function) where
  -- parts of a tree of which it holds
  abbrev Of : {A S : Type 0} → (S → Type 0) → (A → S) → Type 0
  Of {A} holds add = (x : A) × holds (add x)

  abbrev OfItem : Type 0
  OfItem = Of (IsPart p owned f true) add_item

  abbrev OfForm : Type 0
  OfForm = Of (IsStatement p owned f) add_statement_form

  abbrev OfBlock : Type 0
  OfBlock = Of (AreParts p owned f true) parts_of_block

  abbrev OfControlled : Type 0
  OfControlled = Of (IsStatement p owned f) add_controlled

  abbrev OfDo : Type 0
  OfDo = Of (IsStatement p owned f) add_do

  abbrev OfElse : Type 0
  OfElse = Of (IsStatement p owned f) add_else

  abbrev OfFor : Type 0
  OfFor = Of (IsStatement p owned f) add_for

  abbrev OfGroup : Type 0
  OfGroup = Of (IsGroup p owned f) parts_of_group

  abbrev OfStatement : Type 0
  OfStatement = Of (IsStatement p owned f) add_statement

  abbrev Bare : (Type 0 → Type 0 → Type 0 → Type 0 → Type 0 → Type 0 → Type 0 → Type 0 → Type 0 → Type 0)
      → Type 0
  Bare F = F BlockItem StatementForm Block Controlled DoWhile Else For Group Statement

  abbrev Pieces : (Type 0 → Type 0 → Type 0 → Type 0 → Type 0 → Type 0 → Type 0 → Type 0 → Type 0 → Type 0)
      → Type 0
  Pieces F = F OfItem OfForm OfBlock OfControlled OfDo OfElse OfFor OfGroup OfStatement

  abbrev Addeds : (Type 0 → Type 0 → Type 0 → Type 0 → Type 0 → Type 0 → Type 0 → Type 0 → Type 0 → Type 0)
      → Type 0
  Addeds F = F Part Part PartList Part Part Part Part GroupParts Part

  abbrev bare_item : Pieces BlockItem-F → Bare BlockItem-F
  bare_item = map-BlockItem OfItem OfForm OfBlock OfControlled OfDo OfElse OfFor OfGroup OfStatement
      BlockItem StatementForm Block Controlled DoWhile Else For Group Statement
      (λ e. e.0) (λ e. e.0) (λ e. e.0) (λ e. e.0) (λ e. e.0) (λ e. e.0) (λ e. e.0) (λ e. e.0) (λ e. e.0)

  abbrev added_item : Bare BlockItem-F → Addeds BlockItem-F
  added_item = map-BlockItem BlockItem StatementForm Block Controlled DoWhile Else For Group Statement
      Part Part PartList Part Part Part Part GroupParts Part add_item add_statement_form parts_of_block
      add_controlled add_do
      add_else add_for parts_of_group add_statement

  abbrev bare_form : Pieces StatementForm-F → Bare StatementForm-F
  bare_form = map-StatementForm OfItem OfForm OfBlock OfControlled OfDo OfElse OfFor OfGroup OfStatement
      BlockItem StatementForm Block Controlled DoWhile Else For Group Statement
      (λ e. e.0) (λ e. e.0) (λ e. e.0) (λ e. e.0) (λ e. e.0) (λ e. e.0) (λ e. e.0) (λ e. e.0) (λ e. e.0)

  abbrev added_form : Bare StatementForm-F → Addeds StatementForm-F
  added_form = map-StatementForm BlockItem StatementForm Block Controlled DoWhile Else For Group Statement
      Part Part PartList Part Part Part Part GroupParts Part add_item add_statement_form parts_of_block
      add_controlled add_do
      add_else add_for parts_of_group add_statement

  abbrev bare_block : Pieces Block-F → Bare Block-F
  bare_block = map-Block OfItem OfForm OfBlock OfControlled OfDo OfElse OfFor OfGroup OfStatement
      BlockItem StatementForm Block Controlled DoWhile Else For Group Statement
      (λ e. e.0) (λ e. e.0) (λ e. e.0) (λ e. e.0) (λ e. e.0) (λ e. e.0) (λ e. e.0) (λ e. e.0) (λ e. e.0)

  abbrev added_block : Bare Block-F → Addeds Block-F
  added_block = map-Block BlockItem StatementForm Block Controlled DoWhile Else For Group Statement
      Part Part PartList Part Part Part Part GroupParts Part add_item add_statement_form parts_of_block
      add_controlled add_do
      add_else add_for parts_of_group add_statement

  abbrev bare_controlled : Pieces Controlled-F → Bare Controlled-F
  bare_controlled = map-Controlled OfItem OfForm OfBlock OfControlled OfDo OfElse OfFor OfGroup OfStatement
      BlockItem StatementForm Block Controlled DoWhile Else For Group Statement
      (λ e. e.0) (λ e. e.0) (λ e. e.0) (λ e. e.0) (λ e. e.0) (λ e. e.0) (λ e. e.0) (λ e. e.0) (λ e. e.0)

  abbrev added_controlled : Bare Controlled-F → Addeds Controlled-F
  added_controlled = map-Controlled BlockItem StatementForm Block Controlled DoWhile Else For Group Statement
      Part Part PartList Part Part Part Part GroupParts Part add_item add_statement_form parts_of_block
      add_controlled add_do
      add_else add_for parts_of_group add_statement

  abbrev bare_do : Pieces DoWhile-F → Bare DoWhile-F
  bare_do = map-DoWhile OfItem OfForm OfBlock OfControlled OfDo OfElse OfFor OfGroup OfStatement
      BlockItem StatementForm Block Controlled DoWhile Else For Group Statement
      (λ e. e.0) (λ e. e.0) (λ e. e.0) (λ e. e.0) (λ e. e.0) (λ e. e.0) (λ e. e.0) (λ e. e.0) (λ e. e.0)

  abbrev added_do : Bare DoWhile-F → Addeds DoWhile-F
  added_do = map-DoWhile BlockItem StatementForm Block Controlled DoWhile Else For Group Statement
      Part Part PartList Part Part Part Part GroupParts Part add_item add_statement_form parts_of_block
      add_controlled add_do
      add_else add_for parts_of_group add_statement

  abbrev bare_else : Pieces Else-F → Bare Else-F
  bare_else = map-Else OfItem OfForm OfBlock OfControlled OfDo OfElse OfFor OfGroup OfStatement
      BlockItem StatementForm Block Controlled DoWhile Else For Group Statement
      (λ e. e.0) (λ e. e.0) (λ e. e.0) (λ e. e.0) (λ e. e.0) (λ e. e.0) (λ e. e.0) (λ e. e.0) (λ e. e.0)

  abbrev added_else : Bare Else-F → Addeds Else-F
  added_else = map-Else BlockItem StatementForm Block Controlled DoWhile Else For Group Statement
      Part Part PartList Part Part Part Part GroupParts Part add_item add_statement_form parts_of_block
      add_controlled add_do
      add_else add_for parts_of_group add_statement

  abbrev bare_for : Pieces For-F → Bare For-F
  bare_for = map-For OfItem OfForm OfBlock OfControlled OfDo OfElse OfFor OfGroup OfStatement
      BlockItem StatementForm Block Controlled DoWhile Else For Group Statement
      (λ e. e.0) (λ e. e.0) (λ e. e.0) (λ e. e.0) (λ e. e.0) (λ e. e.0) (λ e. e.0) (λ e. e.0) (λ e. e.0)

  abbrev added_for : Bare For-F → Addeds For-F
  added_for = map-For BlockItem StatementForm Block Controlled DoWhile Else For Group Statement
      Part Part PartList Part Part Part Part GroupParts Part add_item add_statement_form parts_of_block
      add_controlled add_do
      add_else add_for parts_of_group add_statement

  abbrev bare_group : Pieces Group-F → Bare Group-F
  bare_group = map-Group OfItem OfForm OfBlock OfControlled OfDo OfElse OfFor OfGroup OfStatement
      BlockItem StatementForm Block Controlled DoWhile Else For Group Statement
      (λ e. e.0) (λ e. e.0) (λ e. e.0) (λ e. e.0) (λ e. e.0) (λ e. e.0) (λ e. e.0) (λ e. e.0) (λ e. e.0)

  abbrev added_group : Bare Group-F → Addeds Group-F
  added_group = map-Group BlockItem StatementForm Block Controlled DoWhile Else For Group Statement
      Part Part PartList Part Part Part Part GroupParts Part add_item add_statement_form parts_of_block
      add_controlled add_do add_else add_for parts_of_group add_statement

  abbrev bare_statement : Pieces Statement-F → Bare Statement-F
  bare_statement = map-Statement OfItem OfForm OfBlock OfControlled OfDo OfElse OfFor OfGroup OfStatement
      BlockItem StatementForm Block Controlled DoWhile Else For Group Statement
      (λ e. e.0) (λ e. e.0) (λ e. e.0) (λ e. e.0) (λ e. e.0) (λ e. e.0) (λ e. e.0) (λ e. e.0) (λ e. e.0)

  abbrev added_statement : Bare Statement-F → Addeds Statement-F
  added_statement = map-Statement BlockItem StatementForm Block Controlled DoWhile Else For Group Statement
      Part Part PartList Part Part Part Part GroupParts Part add_item add_statement_form parts_of_block
      add_controlled add_do
      add_else add_for parts_of_group add_statement

  -- EXPRESSIONS in statements

  test_typing : (c : Condition) → IsWellTyping p owned (test_of c)
  test_typing c = conditional_typing p owned c.test.value

  value_typing : (o : Option Conditional) → AreOptional p owned f true (optional_typing o)
  value_typing None = tt
  value_typing (Some e) = conditional_typing p owned e

  next_typings : (es : List NextExpression) → AreWellTypings p owned (map typed_next es)
  next_typings [] = tt
  next_typings (e ∷ es) = (next_typing p owned e, next_typings es)

  -- THE FORMS

  item_form : (y : Pieces BlockItem-F) → IsPart p owned f true (item_step (added_item (bare_item y)))
  item_form (BlockItem-F.Declaration d) = declaration_part p owned f true [] d.specifiers d.declarators
  item_form (BlockItem-F.Statement s) = s.1.fits

  empty_statement : IsStatement p owned f nothing
  empty_statement = record { fits = part_nothing p owned f true; single = λ scope n. omega arith }

  simple_statement : (s : Simple) → IsStatement p owned f (add_simple s)
  simple_statement s = record { fits = simple_part p owned f true s; single = from s } where
    from : (s : Simple) (scope : Scope) (n : Before) → length (add_simple s scope n).stmts ≤ 1
    from (simple.Assign target operator value) scope n = omega arith
    from (simple.Step target operator) scope n = omega arith
    from (simple.PrefixStep operator target) scope n = omega arith
    from (simple.Call name opener arguments closer) scope n = omega arith

  single_jump : (at : At) (j : Jump) (scope : Scope) (n : Before) → length (add_jump at j scope n).stmts ≤ 1
  single_jump at jump.Break scope n = omega arith
  single_jump at jump.Continue scope n = omega arith
  single_jump at jump.Return scope n = omega arith

  jump_statement : (keyword : Token) (o : Option Typing) → AreOptional p owned f true o →
      IsStatement p owned f
      (add_jump_with keyword o)
  jump_statement keyword o h = record { fits = jump_with_part p owned f true keyword o h; single = from o }
    where
      from : (o : Option Typing) (scope : Scope) (n : Before) →
          length (add_jump_with keyword o scope n).stmts ≤ 1
      from None scope n = single_jump keyword.at (jump_of keyword) scope n
      from (Some typing) scope n = omega arith

  groups_row : (gs : List OfGroup) → AreGroups p owned f (map parts_of_group (map (λ e. e.0) gs))
  groups_row [] = tt
  groups_row (g ∷ gs) = (g.1, groups_row gs)

  form_form : (y : Pieces StatementForm-F) → IsStatement p owned f (form_step (added_form (bare_form y)))
  form_form (StatementForm-F.Block items) = block_part p owned f (parts_of_block items.0) items.1
  form_form (StatementForm-F.Empty semicolon) = empty_statement
  form_form (StatementForm-F.Simple simple semicolon) = simple_statement simple
  form_form (StatementForm-F.If keyword condition holds None) =
      if_part p owned f (test_of condition) (test_typing condition) (add_controlled holds.0) holds.1 None tt
  form_form (StatementForm-F.If keyword condition holds (Some fails)) =
      if_part p owned f (test_of condition) (test_typing condition) (add_controlled holds.0) holds.1
      (Some (add_else fails.0)) fails.1
  form_form (StatementForm-F.Switch keyword condition opener groups closer) =
      switch_part p owned f (test_of condition) (test_typing condition)
      (map parts_of_group (map (λ e. e.0) groups.items)) (groups_row groups.items)
  form_form (StatementForm-F.While keyword condition body) =
      while_part p owned f (test_of condition) (test_typing condition) (add_controlled body.0) body.1
  form_form (StatementForm-F.DoWhile d) = d.1
  form_form (StatementForm-F.For s) = s.1
  form_form (StatementForm-F.Break keyword semicolon) = jump_statement keyword None tt
  form_form (StatementForm-F.Continue keyword semicolon) = jump_statement keyword None tt
  form_form (StatementForm-F.Return keyword value semicolon) =
      jump_statement keyword (optional_typing value) (value_typing value)
  form_form (StatementForm-F.Assert keyword condition semicolon) = record {
    fits = assert_part p owned f true keyword.at (test_of condition) (test_typing condition);
    single = λ scope n. omega arith;
  }
  form_form (StatementForm-F.Printf keyword opener printed closer semicolon) = record {
    fits = printf_part p owned f true keyword.at (printed_typings printed)
        (next_typings printed.values.items);
    single = λ scope n. omega arith;
  }

  row : (ss : List OfItem) → AreParts p owned f true (map add_item (map (λ e. e.0) ss))
  row [] = tt
  row (s ∷ ss) = (s.1, row ss)

  block_form : (y : Pieces Block-F) → AreParts p owned f true (block_step (added_block (bare_block y)))
  block_form y = row y.items.items

  controlled_form : (y : Pieces Controlled-F) → IsStatement p owned f (controlled_step (added_controlled
      (bare_controlled y)))
  controlled_form y = y.statement.value.1

  do_form : (y : Pieces DoWhile-F) → IsStatement p owned f (do_step (added_do (bare_do y)))
  do_form y = do_part p owned f (test_of y.condition) (test_typing y.condition)
      (add_controlled y.body.0) y.body.1

  else_form : (y : Pieces Else-F) → IsStatement p owned f (else_step (added_else (bare_else y)))
  else_form y = y.statement.1

  for_form : (y : Pieces For-F) → IsStatement p owned f (for_step (added_for (bare_for y)))
  for_form y = for_part p owned f y.head.value (add_controlled y.body.0) y.body.1

  statements_row : (ss : List OfStatement) → AreParts p owned f true (map add_statement (map (λ e. e.0) ss))
  statements_row [] = tt
  statements_row (s ∷ ss) = (s.1.fits, statements_row ss)

  group_form : (y : Pieces Group-F) → IsGroup p owned f (group_step (added_group (bare_group y)))
  group_form y = statements_row y.statements.items

  statement_form : (y : Pieces Statement-F) → IsStatement p owned f (statement_step (added_statement
      (bare_statement y)))
  statement_form y = y.form.1

  -- it holds of a tree if it holds of what its form makes of the parts
  by_form : {A F S : Type 0} (holds : S → Type 0) (add : A → S) (roll : F → A) (step : F → S)
      → ((z : F) → add (roll z) ≡ step z) → (z x : F) → z ≡ x → holds (step z) → holds (add (roll x))
  by_form holds add roll step rolls z x is h = subst (λ y. holds (add (roll y))) is (subst holds (sym
      (rolls z)) h)

  item_layer : (x : Bare BlockItem-F) (y : Pieces BlockItem-F) → bare_item y ≡ x → IsPart p owned f true
      (add_item (roll-BlockItem x))
  unfolding add_item add_statement_form add_statement parts_of_block parts_of_group
  item_layer x y is = by_form (IsPart p owned f true) add_item roll-BlockItem (λ z. item_step (added_item z))
      (fold-roll-BlockItem Part Part PartList Part Part Part Part GroupParts Part item_step form_step
      block_step controlled_step
      do_step else_step for_step group_step statement_step) (bare_item y) x is (item_form y)

  form_layer : (x : Bare StatementForm-F) (y : Pieces StatementForm-F) → bare_form y ≡ x
      → IsStatement p owned f (add_statement_form (roll-StatementForm x))
  unfolding add_item add_statement_form add_statement parts_of_block parts_of_group
  form_layer x y is = by_form (IsStatement p owned f) add_statement_form roll-StatementForm (λ z. form_step
      (added_form z))
      (fold-roll-StatementForm Part Part PartList Part Part Part Part GroupParts Part item_step form_step
      block_step controlled_step
      do_step else_step for_step group_step statement_step) (bare_form y) x is (form_form y)

  block_layer : (x : Bare Block-F) (y : Pieces Block-F) → bare_block y ≡ x → AreParts p owned f true
      (parts_of_block (roll-Block x))
  unfolding add_item add_statement_form add_statement parts_of_block parts_of_group
  block_layer x y is = by_form (AreParts p owned f true) parts_of_block roll-Block (λ z. block_step
      (added_block z))
      (fold-roll-Block Part Part PartList Part Part Part Part GroupParts Part item_step form_step block_step
      controlled_step
      do_step else_step for_step group_step statement_step) (bare_block y) x is (block_form y)

  controlled_layer : (x : Bare Controlled-F) (y : Pieces Controlled-F) → bare_controlled y ≡ x
      → IsStatement p owned f (add_controlled (roll-Controlled x))
  unfolding add_item add_statement_form add_statement parts_of_block parts_of_group
  controlled_layer x y is = by_form (IsStatement p owned f) add_controlled roll-Controlled
      (λ z. controlled_step (added_controlled z))
      (fold-roll-Controlled Part Part PartList Part Part Part Part GroupParts Part item_step form_step
      block_step controlled_step
      do_step else_step for_step group_step statement_step) (bare_controlled y) x is (controlled_form y)

  do_layer : (x : Bare DoWhile-F) (y : Pieces DoWhile-F) → bare_do y ≡ x → IsStatement p owned f (add_do
      (roll-DoWhile x))
  unfolding add_item add_statement_form add_statement parts_of_block parts_of_group
  do_layer x y is = by_form (IsStatement p owned f) add_do roll-DoWhile (λ z. do_step (added_do z))
      (fold-roll-DoWhile Part Part PartList Part Part Part Part GroupParts Part item_step form_step block_step
      controlled_step
      do_step else_step for_step group_step statement_step) (bare_do y) x is (do_form y)

  else_layer : (x : Bare Else-F) (y : Pieces Else-F) → bare_else y ≡ x → IsStatement p owned f (add_else
      (roll-Else x))
  unfolding add_item add_statement_form add_statement parts_of_block parts_of_group
  else_layer x y is = by_form (IsStatement p owned f) add_else roll-Else (λ z. else_step (added_else z))
      (fold-roll-Else Part Part PartList Part Part Part Part GroupParts Part item_step form_step block_step
      controlled_step
      do_step else_step for_step group_step statement_step) (bare_else y) x is (else_form y)

  for_layer : (x : Bare For-F) (y : Pieces For-F) → bare_for y ≡ x → IsStatement p owned f (add_for
      (roll-For x))
  unfolding add_item add_statement_form add_statement parts_of_block parts_of_group
  for_layer x y is = by_form (IsStatement p owned f) add_for roll-For (λ z. for_step (added_for z))
      (fold-roll-For Part Part PartList Part Part Part Part GroupParts Part item_step form_step block_step
      controlled_step
      do_step else_step for_step group_step statement_step) (bare_for y) x is (for_form y)

  group_layer : (x : Bare Group-F) (y : Pieces Group-F) → bare_group y ≡ x → IsGroup p owned f
      (parts_of_group (roll-Group x))
  unfolding add_item add_statement_form add_statement parts_of_block parts_of_group
  group_layer x y is = by_form (IsGroup p owned f) parts_of_group roll-Group (λ z. group_step (added_group z))
      (fold-roll-Group Part Part PartList Part Part Part Part GroupParts Part item_step form_step block_step
      controlled_step
      do_step else_step for_step group_step statement_step) (bare_group y) x is (group_form y)

  statement_layer : (x : Bare Statement-F) (y : Pieces Statement-F) → bare_statement y ≡ x
      → IsStatement p owned f (add_statement (roll-Statement x))
  unfolding add_item add_statement_form add_statement parts_of_block parts_of_group
  statement_layer x y is = by_form (IsStatement p owned f) add_statement roll-Statement (λ z. statement_step
      (added_statement z))
      (fold-roll-Statement Part Part PartList Part Part Part Part GroupParts Part item_step form_step
      block_step controlled_step
      do_step else_step for_step group_step statement_step) (bare_statement y) x is (statement_form y)

  pub block_parts : (b : Block) → AreParts p owned f true (parts_of_block b)
  block_parts = ind-Block
      (λ x. IsPart p owned f true (add_item x))
      (λ x. IsStatement p owned f (add_statement_form x))
      (λ x. AreParts p owned f true (parts_of_block x))
      (λ x. IsStatement p owned f (add_controlled x))
      (λ x. IsStatement p owned f (add_do x))
      (λ x. IsStatement p owned f (add_else x))
      (λ x. IsStatement p owned f (add_for x))
      (λ x. IsGroup p owned f (parts_of_group x))
      (λ x. IsStatement p owned f (add_statement x))
      item_layer form_layer block_layer controlled_layer do_layer else_layer for_layer group_layer
      statement_layer
