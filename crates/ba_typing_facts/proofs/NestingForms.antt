-- Each statement of the grammar nests no deeper in the typed tree than in the parser's. By induction, one
-- line a form.
use Rattle.std.proofs.Common.{◌≡◌, ℕ, ◌+◌, ◌≤◌, Option, None, Some, List, [], ◌∷◌, map, length, sym, subst, arith}
use Rattle.ba_numbers.specs.Types.{promoted}
use Rattle.ba_numbers.specs.declared.ids.At.{At}
use Rattle.ba_numbers.specs.declared.numbers.CType.{CType}
use Rattle.ba_trees.specs.declared.tree.statements.Label.{Label}
use Rattle.ba_trees.specs.declared.tree.statements.Label.TheVariants as label
use Rattle.ba_trees.specs.declared.tree.statements.BlockItem.{BlockItem}
use Rattle.ba_trees.specs.declared.tree.statements.StatementForm.{StatementForm}
use Rattle.ba_trees.specs.declared.tree.statements.Block.{Block}
use Rattle.ba_trees.specs.declared.tree.statements.Controlled.{Controlled}
use Rattle.ba_trees.specs.declared.tree.statements.DoWhile.{DoWhile}
use Rattle.ba_trees.specs.declared.tree.statements.Else.{Else}
use Rattle.ba_trees.specs.declared.tree.statements.For.{For}
use Rattle.ba_trees.specs.declared.tree.statements.Group.{Group}
use Rattle.ba_trees.specs.declared.tree.statements.Statement.{Statement}
use Rattle.ba_trees.specs.declared.tree.statements.BlockItem.TheOpen.{BlockItem-F, StatementForm-F, Block-F, Controlled-F, DoWhile-F, Else-F, For-F, Group-F, Statement-F}
use Rattle.ba_trees.specs.declared.tree.statements.BlockItem.TheViews.{roll-BlockItem, roll-StatementForm, roll-Block, roll-Controlled, roll-DoWhile, roll-Else, roll-For, roll-Group, roll-Statement}
use Rattle.ba_trees.specs.declared.tree.statements.BlockItem.TheFolds.{map-BlockItem, map-StatementForm, map-Block, map-Controlled, map-DoWhile, map-Else, map-For, map-Group, map-Statement, ind-Block, fold-roll-BlockItem, fold-roll-StatementForm, fold-roll-Block, fold-roll-Controlled, fold-roll-DoWhile, fold-roll-Else, fold-roll-For, fold-roll-Group, fold-roll-Statement}
use Rattle.ba_tree.specs.Facts.{greatest}
use Rattle.ba_tree.specs.declared.tree.Function.{Function}
use Rattle.ba_tree.specs.declared.tree.Parts as program
use Rattle.ba_typing.specs.Declarations.{Before, behind, Part, ◌and◌, in_order}
use Rattle.ba_typing.specs.Expressions.{Typing}
use Rattle.ba_typing.specs.Names.{Scope, jump_of, knowing, inner, looping, switching}
use Rattle.ba_typing.specs.Statements as statements
use Rattle.ba_typing.specs.Statements.{GroupParts, PartList, add_jump, add_jump_with, optional_typing, item_step, form_step, block_step, controlled_step, do_step, else_step, for_step, group_step, statement_step, add_item, add_statement, parts_of_block, parts_of_group, add_first, add_step, add_test, add_controlling, add_label, add_group, add_groups, no_labels, for_scope, for_test, test_of}
use Rattle.ba_typing_facts.proofs.ForFacts.{declaration_simple, simple_simple, first_simple, step_simple}
use Rattle.ba_typing.proofs.ParsedStatements.{add_controlled, add_do, add_else, add_for}
use Rattle.ba_tokens.specs.declared.token.Token.{Token}
use Rattle.ba_typing.specs.declared.meanings.Labels.{Labels}
use Rattle.ba_typing.specs.declared.names.Jump.{Jump}
use Rattle.ba_typing.specs.declared.names.Jump.TheVariants as jump
use Rattle.ba_typing_facts.proofs.NestingFacts.{deep, deep-append, one_deep, IsNested, IsStatement, AreNested, nested_then, all_flat, flat, leaf_statement, item_depth, form_depth, block_depth, controlled_depth, do_depth, else_depth, for_depth, group_depth, statement_depth, item_nesting, form_nesting, block_nesting, controlled_nesting, do_nesting, else_nesting, for_nesting, group_nesting, statement_nesting}

module _ (p : program.Parts) (f : Function) where
  -- THE FORMS, by induction

  abbrev OfItem : Type 0
  OfItem = (x : BlockItem) × IsNested (item_nesting x) (add_item x)

  abbrev OfForm : Type 0
  OfForm = (x : StatementForm) × IsStatement (form_nesting x) (statements.add_statement_form x)

  abbrev OfBlock : Type 0
  OfBlock = (x : Block) × AreNested (block_nesting x) (parts_of_block x)

  abbrev OfControlled : Type 0
  OfControlled = (x : Controlled) × IsStatement (controlled_nesting x) (add_controlled x)

  abbrev OfDo : Type 0
  OfDo = (x : DoWhile) × IsStatement (do_nesting x) (add_do x)

  abbrev OfElse : Type 0
  OfElse = (x : Else) × IsStatement (else_nesting x) (add_else x)

  abbrev OfFor : Type 0
  OfFor = (x : For) × IsStatement (for_nesting x) (add_for x)

  abbrev OfGroup : Type 0
  OfGroup = (x : Group) × AreNested (group_nesting x) (parts_of_group x).statements

  abbrev OfStatement : Type 0
  OfStatement = (x : Statement) × IsStatement (statement_nesting x) (add_statement x)

  abbrev Bare : (Type 0 → Type 0 → Type 0 → Type 0 → Type 0 → Type 0 → Type 0 → Type 0 → Type 0 → Type 0)
      → Type 0
  Bare F = F BlockItem StatementForm Block Controlled DoWhile Else For Group Statement

  abbrev Pieces : (Type 0 → Type 0 → Type 0 → Type 0 → Type 0 → Type 0 → Type 0 → Type 0 → Type 0 → Type 0)
      → Type 0
  Pieces F = F OfItem OfForm OfBlock OfControlled OfDo OfElse OfFor OfGroup OfStatement

  abbrev Addeds : (Type 0 → Type 0 → Type 0 → Type 0 → Type 0 → Type 0 → Type 0 → Type 0 → Type 0 → Type 0)
      → Type 0
  Addeds F = F Part Part PartList Part Part Part Part GroupParts Part

  abbrev Depths : (Type 0 → Type 0 → Type 0 → Type 0 → Type 0 → Type 0 → Type 0 → Type 0 → Type 0 → Type 0)
      → Type 0
  Depths F = F ℕ ℕ ℕ ℕ ℕ ℕ ℕ ℕ ℕ

  abbrev bare_item : Pieces BlockItem-F → Bare BlockItem-F
  bare_item = map-BlockItem OfItem OfForm OfBlock OfControlled OfDo OfElse OfFor OfGroup OfStatement
      BlockItem StatementForm Block Controlled DoWhile Else For Group Statement
      (λ e. e.0) (λ e. e.0) (λ e. e.0) (λ e. e.0) (λ e. e.0) (λ e. e.0) (λ e. e.0) (λ e. e.0) (λ e. e.0)

  abbrev added_item : Bare BlockItem-F → Addeds BlockItem-F
  added_item = map-BlockItem BlockItem StatementForm Block Controlled DoWhile Else For Group Statement
      Part Part PartList Part Part Part Part GroupParts Part add_item statements.add_statement_form
      parts_of_block add_controlled
      add_do add_else add_for parts_of_group add_statement

  abbrev deep_item : Bare BlockItem-F → Depths BlockItem-F
  deep_item = map-BlockItem BlockItem StatementForm Block Controlled DoWhile Else For Group Statement
      ℕ ℕ ℕ ℕ ℕ ℕ ℕ ℕ ℕ item_nesting form_nesting block_nesting controlled_nesting do_nesting else_nesting
      for_nesting group_nesting statement_nesting

  abbrev bare_form : Pieces StatementForm-F → Bare StatementForm-F
  bare_form = map-StatementForm OfItem OfForm OfBlock OfControlled OfDo OfElse OfFor OfGroup OfStatement
      BlockItem StatementForm Block Controlled DoWhile Else For Group Statement
      (λ e. e.0) (λ e. e.0) (λ e. e.0) (λ e. e.0) (λ e. e.0) (λ e. e.0) (λ e. e.0) (λ e. e.0) (λ e. e.0)

  abbrev added_form : Bare StatementForm-F → Addeds StatementForm-F
  added_form = map-StatementForm BlockItem StatementForm Block Controlled DoWhile Else For Group Statement
      Part Part PartList Part Part Part Part GroupParts Part add_item statements.add_statement_form
      parts_of_block add_controlled
      add_do add_else add_for parts_of_group add_statement

  abbrev deep_form : Bare StatementForm-F → Depths StatementForm-F
  deep_form = map-StatementForm BlockItem StatementForm Block Controlled DoWhile Else For Group Statement
      ℕ ℕ ℕ ℕ ℕ ℕ ℕ ℕ ℕ item_nesting form_nesting block_nesting controlled_nesting do_nesting else_nesting
      for_nesting group_nesting statement_nesting

  abbrev bare_block : Pieces Block-F → Bare Block-F
  bare_block = map-Block OfItem OfForm OfBlock OfControlled OfDo OfElse OfFor OfGroup OfStatement
      BlockItem StatementForm Block Controlled DoWhile Else For Group Statement
      (λ e. e.0) (λ e. e.0) (λ e. e.0) (λ e. e.0) (λ e. e.0) (λ e. e.0) (λ e. e.0) (λ e. e.0) (λ e. e.0)

  abbrev added_block : Bare Block-F → Addeds Block-F
  added_block = map-Block BlockItem StatementForm Block Controlled DoWhile Else For Group Statement
      Part Part PartList Part Part Part Part GroupParts Part add_item statements.add_statement_form
      parts_of_block add_controlled
      add_do add_else add_for parts_of_group add_statement

  abbrev deep_block : Bare Block-F → Depths Block-F
  deep_block = map-Block BlockItem StatementForm Block Controlled DoWhile Else For Group Statement
      ℕ ℕ ℕ ℕ ℕ ℕ ℕ ℕ ℕ item_nesting form_nesting block_nesting controlled_nesting do_nesting else_nesting
      for_nesting group_nesting statement_nesting

  abbrev bare_controlled : Pieces Controlled-F → Bare Controlled-F
  bare_controlled = map-Controlled OfItem OfForm OfBlock OfControlled OfDo OfElse OfFor OfGroup OfStatement
      BlockItem StatementForm Block Controlled DoWhile Else For Group Statement
      (λ e. e.0) (λ e. e.0) (λ e. e.0) (λ e. e.0) (λ e. e.0) (λ e. e.0) (λ e. e.0) (λ e. e.0) (λ e. e.0)

  abbrev added_controlled : Bare Controlled-F → Addeds Controlled-F
  added_controlled = map-Controlled BlockItem StatementForm Block Controlled DoWhile Else For Group Statement
      Part Part PartList Part Part Part Part GroupParts Part add_item statements.add_statement_form
      parts_of_block add_controlled
      add_do add_else add_for parts_of_group add_statement

  abbrev deep_controlled : Bare Controlled-F → Depths Controlled-F
  deep_controlled = map-Controlled BlockItem StatementForm Block Controlled DoWhile Else For Group Statement
      ℕ ℕ ℕ ℕ ℕ ℕ ℕ ℕ ℕ item_nesting form_nesting block_nesting controlled_nesting do_nesting else_nesting
      for_nesting group_nesting statement_nesting

  abbrev bare_do : Pieces DoWhile-F → Bare DoWhile-F
  bare_do = map-DoWhile OfItem OfForm OfBlock OfControlled OfDo OfElse OfFor OfGroup OfStatement
      BlockItem StatementForm Block Controlled DoWhile Else For Group Statement
      (λ e. e.0) (λ e. e.0) (λ e. e.0) (λ e. e.0) (λ e. e.0) (λ e. e.0) (λ e. e.0) (λ e. e.0) (λ e. e.0)

  abbrev added_do : Bare DoWhile-F → Addeds DoWhile-F
  added_do = map-DoWhile BlockItem StatementForm Block Controlled DoWhile Else For Group Statement
      Part Part PartList Part Part Part Part GroupParts Part add_item statements.add_statement_form
      parts_of_block add_controlled
      add_do add_else add_for parts_of_group add_statement

  abbrev deep_do : Bare DoWhile-F → Depths DoWhile-F
  deep_do = map-DoWhile BlockItem StatementForm Block Controlled DoWhile Else For Group Statement
      ℕ ℕ ℕ ℕ ℕ ℕ ℕ ℕ ℕ item_nesting form_nesting block_nesting controlled_nesting do_nesting else_nesting
      for_nesting group_nesting statement_nesting

  abbrev bare_else : Pieces Else-F → Bare Else-F
  bare_else = map-Else OfItem OfForm OfBlock OfControlled OfDo OfElse OfFor OfGroup OfStatement
      BlockItem StatementForm Block Controlled DoWhile Else For Group Statement
      (λ e. e.0) (λ e. e.0) (λ e. e.0) (λ e. e.0) (λ e. e.0) (λ e. e.0) (λ e. e.0) (λ e. e.0) (λ e. e.0)

  abbrev added_else : Bare Else-F → Addeds Else-F
  added_else = map-Else BlockItem StatementForm Block Controlled DoWhile Else For Group Statement
      Part Part PartList Part Part Part Part GroupParts Part add_item statements.add_statement_form
      parts_of_block add_controlled
      add_do add_else add_for parts_of_group add_statement

  abbrev deep_else : Bare Else-F → Depths Else-F
  deep_else = map-Else BlockItem StatementForm Block Controlled DoWhile Else For Group Statement
      ℕ ℕ ℕ ℕ ℕ ℕ ℕ ℕ ℕ item_nesting form_nesting block_nesting controlled_nesting do_nesting else_nesting
      for_nesting group_nesting statement_nesting

  abbrev bare_for : Pieces For-F → Bare For-F
  bare_for = map-For OfItem OfForm OfBlock OfControlled OfDo OfElse OfFor OfGroup OfStatement
      BlockItem StatementForm Block Controlled DoWhile Else For Group Statement
      (λ e. e.0) (λ e. e.0) (λ e. e.0) (λ e. e.0) (λ e. e.0) (λ e. e.0) (λ e. e.0) (λ e. e.0) (λ e. e.0)

  abbrev added_for : Bare For-F → Addeds For-F
  added_for = map-For BlockItem StatementForm Block Controlled DoWhile Else For Group Statement
      Part Part PartList Part Part Part Part GroupParts Part add_item statements.add_statement_form
      parts_of_block add_controlled
      add_do add_else add_for parts_of_group add_statement

  abbrev deep_for : Bare For-F → Depths For-F
  deep_for = map-For BlockItem StatementForm Block Controlled DoWhile Else For Group Statement
      ℕ ℕ ℕ ℕ ℕ ℕ ℕ ℕ ℕ item_nesting form_nesting block_nesting controlled_nesting do_nesting else_nesting
      for_nesting group_nesting statement_nesting

  abbrev bare_group : Pieces Group-F → Bare Group-F
  bare_group = map-Group OfItem OfForm OfBlock OfControlled OfDo OfElse OfFor OfGroup OfStatement
      BlockItem StatementForm Block Controlled DoWhile Else For Group Statement
      (λ e. e.0) (λ e. e.0) (λ e. e.0) (λ e. e.0) (λ e. e.0) (λ e. e.0) (λ e. e.0) (λ e. e.0) (λ e. e.0)

  abbrev added_group : Bare Group-F → Addeds Group-F
  added_group = map-Group BlockItem StatementForm Block Controlled DoWhile Else For Group Statement
      Part Part PartList Part Part Part Part GroupParts Part add_item statements.add_statement_form
      parts_of_block add_controlled add_do add_else add_for parts_of_group add_statement

  abbrev deep_group : Bare Group-F → Depths Group-F
  deep_group = map-Group BlockItem StatementForm Block Controlled DoWhile Else For Group Statement
      ℕ ℕ ℕ ℕ ℕ ℕ ℕ ℕ ℕ item_nesting form_nesting block_nesting controlled_nesting do_nesting else_nesting
      for_nesting group_nesting statement_nesting

  abbrev bare_statement : Pieces Statement-F → Bare Statement-F
  bare_statement = map-Statement OfItem OfForm OfBlock OfControlled OfDo OfElse OfFor OfGroup OfStatement
      BlockItem StatementForm Block Controlled DoWhile Else For Group Statement
      (λ e. e.0) (λ e. e.0) (λ e. e.0) (λ e. e.0) (λ e. e.0) (λ e. e.0) (λ e. e.0) (λ e. e.0) (λ e. e.0)

  abbrev added_statement : Bare Statement-F → Addeds Statement-F
  added_statement = map-Statement BlockItem StatementForm Block Controlled DoWhile Else For Group Statement
      Part Part PartList Part Part Part Part GroupParts Part add_item statements.add_statement_form
      parts_of_block add_controlled
      add_do add_else add_for parts_of_group add_statement

  abbrev deep_statement : Bare Statement-F → Depths Statement-F
  deep_statement = map-Statement BlockItem StatementForm Block Controlled DoWhile Else For Group Statement
      ℕ ℕ ℕ ℕ ℕ ℕ ℕ ℕ ℕ item_nesting form_nesting block_nesting controlled_nesting do_nesting else_nesting
      for_nesting group_nesting statement_nesting

  jump_flat : (at : At) (j : Jump) → IsNested 1 (add_jump at j)
  jump_flat at jump.Break = record { by = λ scope n. omega arith }
  jump_flat at jump.Continue = record { by = λ scope n. omega arith }
  jump_flat at jump.Return = record { by = λ scope n. omega arith }

  jump_with_flat : (keyword : Token) (o : Option Typing) → IsNested 1 (add_jump_with keyword o)
  jump_with_flat keyword None = jump_flat keyword.at (jump_of keyword)
  jump_with_flat keyword (Some s) = record { by = λ scope n. omega arith }

  row : (ss : List OfItem)
      → AreNested (greatest (map item_nesting (map (λ e. e.0) ss))) (map add_item (map (λ e. e.0) ss))
  row [] = record { nested = record { by = λ scope n. omega arith } }
  row (s ∷ ss) = let rest = row ss in record {
    nested = nested_then (item_nesting s.0) (greatest (map item_nesting (map (λ e. e.0) ss))) (add_item s.0)
        (in_order (map add_item (map (λ e. e.0) ss))) s.1 rest.nested;
  }

  item_form : (y : Pieces BlockItem-F) → IsNested (item_depth (deep_item (bare_item y))) (item_step
      (added_item (bare_item y)))
  item_form (BlockItem-F.Declaration d) = flat p f _ (declaration_simple p f [] d.specifiers d.declarators)
  item_form (BlockItem-F.Statement s) = s.1.nested

  -- a label adds no statement
  label_flat : (t : CType) (at : At) (l : Label) (labels : Labels) (count : ℕ) (scope : Scope) (calls : ℕ)
      → deep (add_label t at l labels count scope calls).added.stmts ≤ 0
  label_flat t at (label.Case keyword value colon) labels count scope calls = omega arith
  label_flat t at (label.Default keyword colon) labels count scope calls = omega arith

  groups_deep : (gs : List OfGroup) (t : CType) (at : At) (labels : Labels) (count : ℕ) (scope : Scope)
      (n : Before)
      → deep (add_groups t at (map parts_of_group (map (λ e. e.0) gs)) labels count scope n).added.stmts
      ≤ greatest (map group_nesting (map (λ e. e.0) gs))
  groups_deep [] t at labels count scope n = omega arith
  groups_deep (g ∷ gs) t at labels count scope n =
      let parts = parts_of_group g.0 in
      let l = add_label t at parts.label labels count scope n.calls in
      let body = in_order parts.statements scope (behind n l.added) in
      let a = add_group t at parts labels count scope n in
      let inside = knowing a.added.entries scope in
      let here = count + length a.added.stmts in
      let b = add_groups t at (map parts_of_group (map (λ e. e.0) gs)) a.labels here inside
      (behind n a.added) in
      let first = label_flat t at parts.label labels count scope n.calls in
      let own = g.1.nested.by scope (behind n l.added) in
      let rest = groups_deep gs t at a.labels here inside (behind n a.added) in
      let group = deep-append l.added.stmts body.stmts in
      let all = deep-append a.added.stmts b.added.stmts in omega (arith, first, own, rest, group, all)

  form_form : (y : Pieces StatementForm-F) → IsStatement (form_depth (deep_form (bare_form y))) (form_step
      (added_form (bare_form y)))
  form_form (StatementForm-F.Block items) = record {
    nested = record {
      by = λ scope n. let inside = items.1.nested.by (inner scope) n in omega (arith, inside);
    };
    one = omega arith;
  }
  form_form (StatementForm-F.Empty semicolon) = leaf_statement p f _ (record { by = λ scope n. omega arith })
  form_form (StatementForm-F.Simple simple semicolon) = leaf_statement p f _ (flat p f _
      (simple_simple p f simple))
  form_form (StatementForm-F.If keyword condition holds None) = record {
    nested = record {
      by = λ scope n.
          let w = test_of condition scope n.calls in
          let c = add_test w.first w scope n in
          let a = add_controlled holds.0 scope (behind n c) in
          let left = one_deep (controlled_nesting holds.0) a.stmts holds.1.one
          (holds.1.nested.by scope (behind n c)) in omega (arith, left);
    };
    one = omega arith;
  }
  form_form (StatementForm-F.If keyword condition holds (Some fails)) = record {
    nested = record {
      by = λ scope n.
          let w = test_of condition scope n.calls in
          let c = add_test w.first w scope n in
          let a = add_controlled holds.0 scope (behind n c) in
          let b = add_else fails.0 scope (behind n (c and a)) in
          let left = one_deep (controlled_nesting holds.0) a.stmts holds.1.one
          (holds.1.nested.by scope (behind n c)) in
          let right = one_deep (else_nesting fails.0) b.stmts fails.1.one
          (fails.1.nested.by scope (behind n (c and a))) in omega (arith, left, right);
    };
    one = omega arith;
  }
  form_form (StatementForm-F.Switch keyword condition opener groups closer) = record {
    nested = record {
      by = λ scope n.
          let w = test_of condition scope n.calls in
          let c = add_controlling w.first w scope n in
          let inside = groups_deep groups.items (promoted w.t) w.first no_labels 0 (switching scope)
          (behind n c) in omega (arith, inside);
    };
    one = omega arith;
  }
  form_form (StatementForm-F.While keyword condition body) = record {
    nested = record {
      by = λ scope n.
          let w = test_of condition scope n.calls in
          let c = add_test w.first w scope n in
          let a = add_controlled body.0 (looping scope) (behind n c) in
          let inside = one_deep (controlled_nesting body.0) a.stmts body.1.one
          (body.1.nested.by (looping scope) (behind n c)) in omega (arith, inside);
    };
    one = omega arith;
  }
  form_form (StatementForm-F.DoWhile d) = d.1
  form_form (StatementForm-F.For s) = s.1
  form_form (StatementForm-F.Break keyword semicolon) = leaf_statement p f _ (jump_with_flat keyword None)
  form_form (StatementForm-F.Continue keyword semicolon) = leaf_statement p f _ (jump_with_flat keyword
      None)
  form_form (StatementForm-F.Return keyword value semicolon) =
      leaf_statement p f _ (jump_with_flat keyword (optional_typing value))
  form_form (StatementForm-F.Assert keyword condition semicolon) = leaf_statement p f _
      (record { by = λ scope n. omega arith })
  form_form (StatementForm-F.Printf keyword opener printed closer semicolon) =
      leaf_statement p f _ (record { by = λ scope n. omega arith })

  block_form : (y : Pieces Block-F) → AreNested (block_depth (deep_block (bare_block y))) (block_step
      (added_block (bare_block y)))
  block_form y = row y.items.items

  controlled_form : (y : Pieces Controlled-F) → IsStatement (controlled_depth (deep_controlled
      (bare_controlled y))) (controlled_step (added_controlled (bare_controlled y)))
  controlled_form y = y.statement.value.1

  do_form : (y : Pieces DoWhile-F) → IsStatement (do_depth (deep_do (bare_do y))) (do_step (added_do
      (bare_do y)))
  do_form y = record {
    nested = record {
      by = λ scope n.
          let a = add_controlled y.body.0 (looping scope) n in
          let inside = one_deep (controlled_nesting y.body.0) a.stmts y.body.1.one
          (y.body.1.nested.by (looping scope) n) in omega (arith, inside);
    };
    one = omega arith;
  }

  else_form : (y : Pieces Else-F) → IsStatement (else_depth (deep_else (bare_else y))) (else_step
      (added_else (bare_else y)))
  else_form y = y.statement.1

  for_form : (y : Pieces For-F) → IsStatement (for_depth (deep_for (bare_for y))) (for_step (added_for
      (bare_for y)))
  for_form y = record {
    nested = record {
      by = λ outside n.
          let head = y.head.value in
          let scope = for_scope head.first outside in
          let front = add_first head.first scope n in
          let inside = knowing front.entries scope in
          let w = for_test head inside (behind n front).calls in
          let c = add_test w.first w inside (behind n front) in
          let s = add_step head.step inside (behind n (front and c)) in
          let a = add_controlled y.body.0 (looping inside) (behind n (front and (c and s))) in
          let first_flat = all_flat p f front.stmts ((first_simple p f head.first).by scope n) in
          let step_flat = all_flat p f s.stmts ((step_simple p f head.step).by inside (behind n
          (front and c))) in
          let one = y.body.1.one in
          let body = one_deep (controlled_nesting y.body.0) a.stmts one
          (y.body.1.nested.by (looping inside) (behind n (front and (c and s)))) in
          omega (arith, first_flat, step_flat, one, body);
    };
    one = omega arith;
  }

  statements_row : (ss : List OfStatement) → AreNested (greatest (map statement_nesting (map (λ e. e.0) ss)))
      (map add_statement (map (λ e. e.0) ss))
  statements_row [] = record { nested = record { by = λ scope n. omega arith } }
  statements_row (s ∷ ss) = let rest = statements_row ss in record {
    nested = nested_then (statement_nesting s.0) (greatest (map statement_nesting (map (λ e. e.0) ss)))
        (add_statement s.0) (in_order (map add_statement (map (λ e. e.0) ss))) s.1.nested rest.nested;
  }

  group_form : (y : Pieces Group-F) → AreNested (group_depth (deep_group (bare_group y)))
      (group_step (added_group (bare_group y))).statements
  group_form y = statements_row y.statements.items

  statement_form : (y : Pieces Statement-F) → IsStatement (statement_depth (deep_statement
      (bare_statement y))) (statement_step (added_statement (bare_statement y)))
  statement_form y = y.form.1

  -- it holds of a tree if it holds of what its form makes of the parts
  by_form : {A F S : Type 0} (holds : ℕ → S → Type 0) (nesting : A → ℕ) (add : A → S) (roll : F → A)
      (deep : F → ℕ) (step : F → S) → ((z : F) → nesting (roll z) ≡ deep z) → ((z : F) → add (roll z)
      ≡ step z)
      → (z x : F) → z ≡ x → holds (deep z) (step z) → holds (nesting (roll x)) (add (roll x))
  by_form holds nesting add roll deep step deep_is step_is z x is h =
      subst (λ y. holds (nesting (roll y)) (add (roll y))) is
      (subst (λ k. holds k (add (roll z))) (sym (deep_is z)) (subst (holds (deep z)) (sym (step_is z)) h))

  item_layer : (x : Bare BlockItem-F) (y : Pieces BlockItem-F) → bare_item y ≡ x
      → IsNested (item_nesting (roll-BlockItem x)) (add_item (roll-BlockItem x))
  unfolding add_item statements.add_statement_form add_statement parts_of_block parts_of_group item_nesting
      form_nesting
      block_nesting controlled_nesting do_nesting else_nesting for_nesting group_nesting statement_nesting
  item_layer x y is = by_form IsNested item_nesting add_item roll-BlockItem
      (λ z. item_depth (deep_item z)) (λ z. item_step (added_item z))
      (fold-roll-BlockItem ℕ ℕ ℕ ℕ ℕ ℕ ℕ ℕ ℕ item_depth form_depth block_depth controlled_depth do_depth
      else_depth for_depth group_depth statement_depth)
      (fold-roll-BlockItem Part Part PartList Part Part Part Part GroupParts Part item_step form_step
      block_step controlled_step do_step else_step for_step group_step statement_step)
      (bare_item y) x is (item_form y)

  form_layer : (x : Bare StatementForm-F) (y : Pieces StatementForm-F) → bare_form y ≡ x
      → IsStatement (form_nesting (roll-StatementForm x)) (statements.add_statement_form
      (roll-StatementForm x))
  unfolding add_item statements.add_statement_form add_statement parts_of_block parts_of_group item_nesting
      form_nesting
      block_nesting controlled_nesting do_nesting else_nesting for_nesting group_nesting statement_nesting
  form_layer x y is = by_form IsStatement form_nesting statements.add_statement_form roll-StatementForm
      (λ z. form_depth (deep_form z)) (λ z. form_step (added_form z))
      (fold-roll-StatementForm ℕ ℕ ℕ ℕ ℕ ℕ ℕ ℕ ℕ item_depth form_depth block_depth controlled_depth do_depth
      else_depth for_depth group_depth statement_depth)
      (fold-roll-StatementForm Part Part PartList Part Part Part Part GroupParts Part item_step form_step
      block_step controlled_step do_step else_step for_step group_step statement_step)
      (bare_form y) x is (form_form y)

  block_layer : (x : Bare Block-F) (y : Pieces Block-F) → bare_block y ≡ x
      → AreNested (block_nesting (roll-Block x)) (parts_of_block (roll-Block x))
  unfolding add_item statements.add_statement_form add_statement parts_of_block parts_of_group item_nesting
      form_nesting
      block_nesting controlled_nesting do_nesting else_nesting for_nesting group_nesting statement_nesting
  block_layer x y is = by_form AreNested block_nesting parts_of_block roll-Block
      (λ z. block_depth (deep_block z)) (λ z. block_step (added_block z))
      (fold-roll-Block ℕ ℕ ℕ ℕ ℕ ℕ ℕ ℕ ℕ item_depth form_depth block_depth controlled_depth do_depth
      else_depth for_depth group_depth statement_depth)
      (fold-roll-Block Part Part PartList Part Part Part Part GroupParts Part item_step form_step block_step
      controlled_step do_step else_step for_step group_step statement_step)
      (bare_block y) x is (block_form y)

  controlled_layer : (x : Bare Controlled-F) (y : Pieces Controlled-F) → bare_controlled y ≡ x
      → IsStatement (controlled_nesting (roll-Controlled x)) (add_controlled (roll-Controlled x))
  unfolding add_item statements.add_statement_form add_statement parts_of_block parts_of_group item_nesting
      form_nesting
      block_nesting controlled_nesting do_nesting else_nesting for_nesting group_nesting statement_nesting
  controlled_layer x y is = by_form IsStatement controlled_nesting add_controlled roll-Controlled
      (λ z. controlled_depth (deep_controlled z)) (λ z. controlled_step (added_controlled z))
      (fold-roll-Controlled ℕ ℕ ℕ ℕ ℕ ℕ ℕ ℕ ℕ item_depth form_depth block_depth controlled_depth do_depth
      else_depth for_depth group_depth statement_depth)
      (fold-roll-Controlled Part Part PartList Part Part Part Part GroupParts Part item_step form_step
      block_step controlled_step do_step else_step for_step group_step statement_step)
      (bare_controlled y) x is (controlled_form y)

  do_layer : (x : Bare DoWhile-F) (y : Pieces DoWhile-F) → bare_do y ≡ x
      → IsStatement (do_nesting (roll-DoWhile x)) (add_do (roll-DoWhile x))
  unfolding add_item statements.add_statement_form add_statement parts_of_block parts_of_group item_nesting
      form_nesting
      block_nesting controlled_nesting do_nesting else_nesting for_nesting group_nesting statement_nesting
  do_layer x y is = by_form IsStatement do_nesting add_do roll-DoWhile
      (λ z. do_depth (deep_do z)) (λ z. do_step (added_do z))
      (fold-roll-DoWhile ℕ ℕ ℕ ℕ ℕ ℕ ℕ ℕ ℕ item_depth form_depth block_depth controlled_depth do_depth
      else_depth for_depth group_depth statement_depth)
      (fold-roll-DoWhile Part Part PartList Part Part Part Part GroupParts Part item_step form_step block_step
      controlled_step do_step else_step for_step group_step statement_step)
      (bare_do y) x is (do_form y)

  else_layer : (x : Bare Else-F) (y : Pieces Else-F) → bare_else y ≡ x
      → IsStatement (else_nesting (roll-Else x)) (add_else (roll-Else x))
  unfolding add_item statements.add_statement_form add_statement parts_of_block parts_of_group item_nesting
      form_nesting
      block_nesting controlled_nesting do_nesting else_nesting for_nesting group_nesting statement_nesting
  else_layer x y is = by_form IsStatement else_nesting add_else roll-Else
      (λ z. else_depth (deep_else z)) (λ z. else_step (added_else z))
      (fold-roll-Else ℕ ℕ ℕ ℕ ℕ ℕ ℕ ℕ ℕ item_depth form_depth block_depth controlled_depth do_depth else_depth
      for_depth group_depth statement_depth)
      (fold-roll-Else Part Part PartList Part Part Part Part GroupParts Part item_step form_step block_step
      controlled_step do_step else_step for_step group_step statement_step)
      (bare_else y) x is (else_form y)

  for_layer : (x : Bare For-F) (y : Pieces For-F) → bare_for y ≡ x
      → IsStatement (for_nesting (roll-For x)) (add_for (roll-For x))
  unfolding add_item statements.add_statement_form add_statement parts_of_block parts_of_group item_nesting
      form_nesting
      block_nesting controlled_nesting do_nesting else_nesting for_nesting group_nesting statement_nesting
  for_layer x y is = by_form IsStatement for_nesting add_for roll-For
      (λ z. for_depth (deep_for z)) (λ z. for_step (added_for z))
      (fold-roll-For ℕ ℕ ℕ ℕ ℕ ℕ ℕ ℕ ℕ item_depth form_depth block_depth controlled_depth do_depth else_depth
      for_depth group_depth statement_depth)
      (fold-roll-For Part Part PartList Part Part Part Part GroupParts Part item_step form_step block_step
      controlled_step
      do_step else_step for_step group_step statement_step)
      (bare_for y) x is (for_form y)

  group_layer : (x : Bare Group-F) (y : Pieces Group-F) → bare_group y ≡ x
      → AreNested (group_nesting (roll-Group x)) (parts_of_group (roll-Group x)).statements
  unfolding add_item statements.add_statement_form add_statement parts_of_block parts_of_group item_nesting
      form_nesting
      block_nesting controlled_nesting do_nesting else_nesting for_nesting group_nesting statement_nesting
  group_layer x y is = by_form (λ k (g : GroupParts). AreNested k g.statements) group_nesting parts_of_group
      roll-Group
      (λ z. group_depth (deep_group z)) (λ z. group_step (added_group z))
      (fold-roll-Group ℕ ℕ ℕ ℕ ℕ ℕ ℕ ℕ ℕ item_depth form_depth block_depth controlled_depth do_depth
      else_depth for_depth group_depth statement_depth)
      (fold-roll-Group Part Part PartList Part Part Part Part GroupParts Part item_step form_step block_step
      controlled_step
      do_step else_step for_step group_step statement_step)
      (bare_group y) x is (group_form y)

  statement_layer : (x : Bare Statement-F) (y : Pieces Statement-F) → bare_statement y ≡ x
      → IsStatement (statement_nesting (roll-Statement x)) (add_statement (roll-Statement x))
  unfolding add_item statements.add_statement_form add_statement parts_of_block parts_of_group item_nesting
      form_nesting
      block_nesting controlled_nesting do_nesting else_nesting for_nesting group_nesting statement_nesting
  statement_layer x y is = by_form IsStatement statement_nesting add_statement roll-Statement
      (λ z. statement_depth (deep_statement z)) (λ z. statement_step (added_statement z))
      (fold-roll-Statement ℕ ℕ ℕ ℕ ℕ ℕ ℕ ℕ ℕ item_depth form_depth block_depth controlled_depth do_depth
      else_depth for_depth group_depth statement_depth)
      (fold-roll-Statement Part Part PartList Part Part Part Part GroupParts Part item_step form_step
      block_step controlled_step do_step else_step for_step group_step statement_step)
      (bare_statement y) x is (statement_form y)

  blocks_nested : (b : Block) → AreNested (block_nesting b) (parts_of_block b)
  blocks_nested = ind-Block
      (λ x. IsNested (item_nesting x) (add_item x))
      (λ x. IsStatement (form_nesting x) (statements.add_statement_form x))
      (λ x. AreNested (block_nesting x) (parts_of_block x))
      (λ x. IsStatement (controlled_nesting x) (add_controlled x))
      (λ x. IsStatement (do_nesting x) (add_do x))
      (λ x. IsStatement (else_nesting x) (add_else x))
      (λ x. IsStatement (for_nesting x) (add_for x))
      (λ x. AreNested (group_nesting x) (parts_of_group x).statements)
      (λ x. IsStatement (statement_nesting x) (add_statement x))
      item_layer form_layer block_layer controlled_layer do_layer else_layer for_layer group_layer
      statement_layer

-- the statements of a body nest no deeper than its block says
pub body_nested : (p : program.Parts) (f : Function) (b : Block) (scope : Scope) (n : Before)
    → deep (in_order (parts_of_block b) scope n).stmts ≤ block_nesting b
body_nested p f b = (blocks_nested p f b).nested.by
