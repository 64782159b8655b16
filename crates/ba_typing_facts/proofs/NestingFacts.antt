-- How deep statements nest in the parser's tree, and that they nest no deeper in the typed tree.
use Rattle.std.proofs.Common.{◌≡◌, ℕ, ◌+◌, ◌≤◌, max, true, Option, None, Some, List, [], ◌∷◌, ◌++◌, arith}
use Rattle.std.proofs.lemmas.Bool.{and_parts}
use Rattle.ba_trees.specs.declared.tree.statements.BlockItem.{BlockItem}
use Rattle.ba_trees.specs.declared.tree.statements.StatementForm.{StatementForm}
use Rattle.ba_trees.specs.declared.tree.statements.Block.{Block}
use Rattle.ba_trees.specs.declared.tree.statements.Controlled.{Controlled}
use Rattle.ba_trees.specs.declared.tree.statements.DoWhile.{DoWhile}
use Rattle.ba_trees.specs.declared.tree.statements.Else.{Else}
use Rattle.ba_trees.specs.declared.tree.statements.For.{For}
use Rattle.ba_trees.specs.declared.tree.statements.Group.{Group}
use Rattle.ba_trees.specs.declared.tree.statements.Statement.{Statement}
use Rattle.ba_trees.specs.declared.tree.statements.BlockItem.TheOpen.{BlockItem-F, StatementForm-F, Block-F, Controlled-F, DoWhile-F, Else-F, For-F, Group-F, Statement-F}
use Rattle.ba_trees.specs.declared.tree.statements.BlockItem.TheFolds.{fold-BlockItem, fold-StatementForm, fold-Block, fold-Controlled, fold-DoWhile, fold-Else, fold-For, fold-Group, fold-Statement}
use Rattle.ba_tree.specs.Facts.{greatest, are_simple}
use Rattle.ba_tree.specs.declared.tree.Function.{Function}
use Rattle.ba_tree.specs.declared.tree.Parts as program
use Rattle.ba_typing.specs.Declarations.{Before, behind, Part, ◌then◌, in_order}
use Rattle.ba_typing.specs.Names.{Scope, knowing}
use Rattle.ba_typing.specs.Statements.{one_of}
use Rattle.ba_tree.specs.Trees.{StmtTree, stmts_of}
use Rattle.ba_tree.specs.Trees as tree
use Rattle.ba_typing_facts.proofs.AdditionFacts.{all_facts_of}
use Rattle.ba_typing_facts.proofs.DepthFacts.{depth_of, deepest}
use Rattle.ba_typing_facts.proofs.ForFacts.{HasSimple}
use Rattle.ba_typing_facts.proofs.StatementTreeFacts.{stmt_facts_of}

-- HOW DEEP statements nest, by the forms of the grammar

abbrev or_none : Option ℕ → ℕ
or_none None = 0
or_none (Some k) = k

abbrev pub item_depth : BlockItem-F ℕ ℕ ℕ ℕ ℕ ℕ ℕ ℕ ℕ → ℕ
item_depth (BlockItem-F.Declaration d) = 1
item_depth (BlockItem-F.Statement s) = s

abbrev pub form_depth : StatementForm-F ℕ ℕ ℕ ℕ ℕ ℕ ℕ ℕ ℕ → ℕ
form_depth (StatementForm-F.Block items) = 1 + items
form_depth (StatementForm-F.If keyword condition holds fails) = 1 + max holds (or_none fails)
form_depth (StatementForm-F.Switch keyword condition opener groups closer) = 1 + greatest groups.items
form_depth (StatementForm-F.While keyword condition body) = 1 + body
form_depth (StatementForm-F.DoWhile d) = d
form_depth (StatementForm-F.For f) = f
form_depth _ = 1

abbrev pub block_depth : Block-F ℕ ℕ ℕ ℕ ℕ ℕ ℕ ℕ ℕ → ℕ
block_depth b = greatest b.items.items

abbrev pub controlled_depth : Controlled-F ℕ ℕ ℕ ℕ ℕ ℕ ℕ ℕ ℕ → ℕ
controlled_depth c = c.statement.value

abbrev pub do_depth : DoWhile-F ℕ ℕ ℕ ℕ ℕ ℕ ℕ ℕ ℕ → ℕ
do_depth d = 1 + d.body

abbrev pub else_depth : Else-F ℕ ℕ ℕ ℕ ℕ ℕ ℕ ℕ ℕ → ℕ
else_depth e = e.statement

abbrev pub for_depth : For-F ℕ ℕ ℕ ℕ ℕ ℕ ℕ ℕ ℕ → ℕ
for_depth f = 1 + f.body

abbrev pub group_depth : Group-F ℕ ℕ ℕ ℕ ℕ ℕ ℕ ℕ ℕ → ℕ
group_depth g = greatest g.statements.items

abbrev pub statement_depth : Statement-F ℕ ℕ ℕ ℕ ℕ ℕ ℕ ℕ ℕ → ℕ
statement_depth s = s.form

unfoldable pub item_nesting : BlockItem → ℕ
item_nesting = fold-BlockItem ℕ ℕ ℕ ℕ ℕ ℕ ℕ ℕ ℕ item_depth form_depth block_depth controlled_depth do_depth
    else_depth for_depth group_depth statement_depth

unfoldable pub form_nesting : StatementForm → ℕ
form_nesting = fold-StatementForm ℕ ℕ ℕ ℕ ℕ ℕ ℕ ℕ ℕ item_depth form_depth block_depth controlled_depth
    do_depth else_depth for_depth group_depth statement_depth

unfoldable pub block_nesting : Block → ℕ
block_nesting = fold-Block ℕ ℕ ℕ ℕ ℕ ℕ ℕ ℕ ℕ item_depth form_depth block_depth controlled_depth do_depth
    else_depth for_depth group_depth statement_depth

unfoldable pub controlled_nesting : Controlled → ℕ
controlled_nesting = fold-Controlled ℕ ℕ ℕ ℕ ℕ ℕ ℕ ℕ ℕ item_depth form_depth block_depth controlled_depth
    do_depth else_depth for_depth group_depth statement_depth

unfoldable pub do_nesting : DoWhile → ℕ
do_nesting = fold-DoWhile ℕ ℕ ℕ ℕ ℕ ℕ ℕ ℕ ℕ item_depth form_depth block_depth controlled_depth do_depth
    else_depth for_depth group_depth statement_depth

unfoldable pub else_nesting : Else → ℕ
else_nesting = fold-Else ℕ ℕ ℕ ℕ ℕ ℕ ℕ ℕ ℕ item_depth form_depth block_depth controlled_depth do_depth
    else_depth for_depth group_depth statement_depth

unfoldable pub for_nesting : For → ℕ
for_nesting = fold-For ℕ ℕ ℕ ℕ ℕ ℕ ℕ ℕ ℕ item_depth form_depth block_depth controlled_depth do_depth
    else_depth for_depth group_depth statement_depth

unfoldable pub group_nesting : Group → ℕ
group_nesting = fold-Group ℕ ℕ ℕ ℕ ℕ ℕ ℕ ℕ ℕ item_depth form_depth block_depth controlled_depth do_depth
    else_depth for_depth group_depth statement_depth

unfoldable pub statement_nesting : Statement → ℕ
statement_nesting = fold-Statement ℕ ℕ ℕ ℕ ℕ ℕ ℕ ℕ ℕ item_depth form_depth block_depth controlled_depth
    do_depth else_depth for_depth group_depth statement_depth

-- LISTS

abbrev pub deep : List StmtTree → ℕ
deep ss = deepest (stmts_of ss)

pub deep-append : (xs ys : List StmtTree) → deep (xs ++ ys) ≡ max (deep xs) (deep ys)
deep-append [] ys = omega arith
deep-append (x ∷ xs) ys = let rest = deep-append xs ys in omega (arith, rest)

pub one_deep : (k : ℕ) (ss : List StmtTree) → 1 ≤ k → deep ss ≤ k → depth_of (one_of ss) ≤ k
one_deep k [] one h = omega (arith, one)
one_deep k (s ∷ ss) one h = omega (arith, h)

-- a part whose statements nest so deep at most
pub record IsNested (k : ℕ) (part : Part) : Type 0 where
  pub by : (scope : Scope) (n : Before) → deep (part scope n).stmts ≤ k

pub record IsStatement (k : ℕ) (part : Part) : Type 0 where
  pub nested : IsNested k part
  pub one : 1 ≤ k

pub record AreNested (k : ℕ) (parts : List Part) : Type 0 where
  pub nested : IsNested k (in_order parts)

pub nested_then : (j k : ℕ) (first second : Part) → IsNested j first → IsNested k second
    → IsNested (max j k) (first then second)
nested_then j k first second h g = record {
  by = λ scope n.
      let a = first scope n in
      let b = second (knowing a.entries scope) (behind n a) in
      let split = deep-append a.stmts b.stmts in
      let left = h.by scope n in
      let right = g.by (knowing a.entries scope) (behind n a) in omega (arith, split, left, right);
}

-- SIMPLE STATEMENTS hold no others

module _ (p : program.Parts) (f : Function) where
  pub simple_flat : (s : StmtTree) → (stmt_facts_of p f s).is_simple ≡ true → depth_of s ≤ 1
  simple_flat (tree.block body) h = cc
  simple_flat (tree.declare v) h = omega arith
  simple_flat (tree.init stmt v e) h = omega arith
  simple_flat (tree.init_array stmt v es) h = omega arith
  simple_flat (tree.assign stmt v e) h = omega arith
  simple_flat (tree.store stmt v i e) h = omega arith
  simple_flat (tree.if_then stmt when a) h = cc
  simple_flat (tree.if_else stmt when a b) h = cc
  simple_flat (tree.switch stmt t on starts other body) h = cc
  simple_flat (tree.while_loop stmt when body) h = cc
  simple_flat (tree.do_while stmt when body) h = cc
  simple_flat (tree.for_loop stmt first when step body) h = cc
  simple_flat tree.break_loop h = cc
  simple_flat tree.continue_loop h = cc
  simple_flat (tree.return_value stmt e) h = cc
  simple_flat tree.return_none h = cc
  simple_flat (tree.call_stmt stmt c g args) h = omega arith
  simple_flat (tree.print stmt es) h = cc
  simple_flat (tree.assert stmt when) h = cc

  pub all_flat : (ss : List StmtTree) → are_simple (all_facts_of p f ss) ≡ true → deep ss ≤ 1
  all_flat [] h = omega arith
  all_flat (s ∷ ss) h =
      let both = and_parts (stmt_facts_of p f s).is_simple (are_simple (all_facts_of p f ss)) h in
      let here = simple_flat s both.0 in let rest = all_flat ss both.1 in omega (arith, here, rest)

  pub flat : (part : Part) → HasSimple p f part → IsNested 1 part
  flat part h = record { by = λ scope n. all_flat (part scope n).stmts (h.by scope n) }

  pub leaf_statement : (part : Part) → IsNested 1 part → IsStatement 1 part
  leaf_statement part h = record { nested = h; one = omega arith }
