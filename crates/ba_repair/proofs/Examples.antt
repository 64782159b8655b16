-- Nodes and their changes, computed: the node of a number in the list is the one that a change of this number
-- changes.

use Rattle.std.proofs.Common.{◌≡◌, ℕ, pos, [], ◌∷◌, refl}
use Rattle.ba_numbers.specs.declared.numbers.BinOp.TheVariants.{Lt, Le, Add, Sub}
use Rattle.ba_numbers.specs.declared.numbers.CType.TheVariants.{I32}
use Rattle.ba_tree.specs.Trees.{ExprTree, StmtTree}
use Rattle.ba_tree.specs.Trees as tree
use Rattle.ba_repair.specs.Changes.{changed_expr, changed_stmt}
use Rattle.ba_repair.specs.Nodes.{expr_nodes}
use Rattle.ba_repair.specs.declared.listing.Change.TheVariants as change
use Rattle.ba_repair.specs.declared.nodes.EditableNode.TheVariants as node

-- `x ? x + 1 : x && 2 < 3`, of these nodes
abbrev name : ℕ → ExprTree
name n = tree.var (record { 0 = n })

abbrev pair : ExprTree → ExprTree → ExprTree
pair a b = tree.select I32 (name 0) a b

abbrev sum : ExprTree
sum = tree.binary Add I32 (name 0) (tree.const I32 (pos 1))

abbrev test : ExprTree
test = tree.binary Lt I32 (tree.const I32 (pos 2)) (tree.const I32 (pos 3))

abbrev chosen : ExprTree
chosen = pair sum (tree.and_also (name 0) test)

nodes_in_order : expr_nodes chosen ≡ node.Operator Add Sub ∷ node.Constant I32 (pos 1) ∷ node.And
    ∷ node.Operator Lt Le ∷ node.Constant I32 (pos 2) ∷ node.Constant I32 (pos 3) ∷ []
nodes_in_order = refl

no_node : changed_expr (change.Constant (pos 1) (pos 0)) 0 chosen ≡ chosen
no_node = refl

first_node : changed_expr (change.Operator Add Sub) 1 chosen
    ≡ pair (tree.binary Sub I32 (name 0) (tree.const I32 (pos 1))) (tree.and_also (name 0) test)
first_node = refl

second_node : changed_expr (change.Constant (pos 1) (pos 0)) 2 chosen
    ≡ pair (tree.binary Add I32 (name 0) (tree.const I32 (pos 0))) (tree.and_also (name 0) test)
second_node = refl

third_node : changed_expr change.ToOr 3 chosen ≡ pair sum (tree.or_else (name 0) test)
third_node = refl

fourth_node : changed_expr (change.Operator Lt Le) 4 chosen ≡ pair sum (tree.and_also (name 0)
    (tree.binary Le I32 (tree.const I32 (pos 2)) (tree.const I32 (pos 3))))
fourth_node = refl

fifth_node : changed_expr (change.Constant (pos 2) (pos 1)) 5 chosen ≡ pair sum (tree.and_also (name 0)
    (tree.binary Lt I32 (tree.const I32 (pos 1)) (tree.const I32 (pos 3))))
fifth_node = refl

sixth_node : changed_expr (change.Constant (pos 3) (pos 4)) 6 chosen ≡ pair sum (tree.and_also (name 0)
    (tree.binary Lt I32 (tree.const I32 (pos 2)) (tree.const I32 (pos 4))))
sixth_node = refl

past_the_last_node : changed_expr (change.Constant (pos 3) (pos 4)) 7 chosen ≡ chosen
past_the_last_node = refl

-- a call with an array between two values: the array has no node
abbrev call_of : ExprTree → ExprTree → ExprTree
call_of a b = tree.call (record { 0 = 1 }) (record { 0 = 1 })
    (tree.value_then a (tree.array_then (record { 0 = 1 }) (tree.value_then b tree.no_more)))

second_value : changed_expr (change.Constant (pos 5) (pos 6)) 2
    (call_of (tree.const I32 (pos 5)) (tree.const I32 (pos 5)))
    ≡ call_of (tree.const I32 (pos 5)) (tree.const I32 (pos 6))
second_value = refl

-- a store has its index first, then its value; another statement stays
abbrev store_of : ExprTree → ExprTree → StmtTree
store_of index value = tree.store (record { 0 = 4 }) (record { 0 = 1 }) index value

store_index : changed_stmt (record {
  stmt = record { 0 = 4 };
  node = 1;
  change = change.Constant (pos 5) (pos
      6);
})
    (store_of (tree.const I32 (pos 5)) (tree.const I32 (pos 5)))
    ≡ store_of (tree.const I32 (pos 6)) (tree.const I32 (pos 5))
store_index = refl

store_value : changed_stmt (record {
  stmt = record { 0 = 4 };
  node = 2;
  change = change.Constant (pos 5) (pos
      6);
})
    (store_of (tree.const I32 (pos 5)) (tree.const I32 (pos 5)))
    ≡ store_of (tree.const I32 (pos 5)) (tree.const I32 (pos 6))
store_value = refl

other_statement : changed_stmt
    (record { stmt = record { 0 = 3 }; node = 1; change = change.Constant (pos 5) (pos 6) })
    (store_of (tree.const I32 (pos 5)) (tree.const I32 (pos 5)))
    ≡ store_of (tree.const I32 (pos 5)) (tree.const I32 (pos 5))
other_statement = refl
