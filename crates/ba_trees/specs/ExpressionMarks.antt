-- The trees of expressions, written out: what each type adds to its parts, and the folds over the trees.

use Rattle.std.specs.Prelude.{List, [], ◌∷◌, ◌++◌, map, option_map}
use Rattle.ba_trees.specs.declared.tree.expressions.TypeName.{TypeName}
use Rattle.ba_trees.specs.declared.tree.expressions.Primary.TheOpen.{Primary-F, Unary-F, Arguments-F, Branches-F, Chain-F, Conditional-F, Expressions-F, NextExpression-F, Operand-F}
use Rattle.ba_trees.specs.declared.tree.expressions.Primary.TheFolds.{fold-Primary, fold-Unary, fold-Arguments, fold-Branches, fold-Chain, fold-Conditional, fold-Expressions, fold-NextExpression, fold-Operand}
use Rattle.ba_trees.specs.declared.tree.expressions.Primary.{Primary}
use Rattle.ba_trees.specs.declared.tree.expressions.Unary.{Unary}
use Rattle.ba_trees.specs.declared.tree.expressions.Arguments.{Arguments}
use Rattle.ba_trees.specs.declared.tree.expressions.Branches.{Branches}
use Rattle.ba_trees.specs.declared.tree.expressions.Chain.{Chain}
use Rattle.ba_trees.specs.declared.tree.expressions.Conditional.{Conditional}
use Rattle.ba_trees.specs.declared.tree.expressions.Expressions.{Expressions}
use Rattle.ba_trees.specs.declared.tree.expressions.NextExpression.{NextExpression}
use Rattle.ba_trees.specs.declared.tree.expressions.Operand.{Operand}
use Rattle.ba_trees.specs.Marks.{Mark, leaf, node_of, one_deeper, type_name, arguments, conditional, chain, unary, primary}
use Rattle.ba_trees.specs.Views.{joined, optional}

abbrev pub type_name_marks : TypeName → List Mark
type_name_marks t = node_of type_name (map leaf t.words.items)

-- WHAT A TYPE ADDS to its parts written out

abbrev pub M : Type 0
M = List Mark

abbrev pub primary_step : Primary-F M M M M M M M M M → M
primary_step (Primary-F.Name name) = node_of primary (leaf name ∷ [])
primary_step (Primary-F.Element name opener index closer) =
    node_of primary (leaf name ∷ leaf opener ∷ one_deeper index.value ++ leaf closer ∷ [])
primary_step (Primary-F.Call name opener values closer) =
    node_of primary (leaf name ∷ leaf opener ∷ one_deeper values ++ leaf closer ∷ [])
primary_step (Primary-F.Constant constant) = node_of primary (leaf constant ∷ [])
primary_step (Primary-F.Parenthesized opener expression closer) =
    node_of primary (leaf opener ∷ one_deeper expression.value ++ leaf closer ∷ [])

abbrev pub unary_step : Unary-F M M M M M M M M M → M
unary_step (Unary-F.Prefix operator operand) = node_of unary (leaf operator ∷ one_deeper operand.value)
unary_step (Unary-F.Cast opener name closer operand) =
    node_of unary (leaf opener ∷ one_deeper (type_name_marks name) ++ leaf closer ∷ one_deeper
    operand.value)
unary_step (Unary-F.Primary p) = node_of unary p

abbrev pub arguments_step : Arguments-F M M M M M M M M M → M
arguments_step a = node_of arguments (optional a.values)

abbrev pub branches_step : Branches-F M M M M M M M M M → M
branches_step b = leaf b.question ∷ one_deeper b.holds.value ++ leaf b.colon ∷ one_deeper
    b.fails.value

abbrev pub chain_step : Chain-F M M M M M M M M M → M
chain_step c = node_of (chain c.level) (leaf c.operator ∷ one_deeper
    (c.operand ++ optional (option_map (λ r. r.value) c.rest)))

abbrev pub conditional_step : Conditional-F M M M M M M M M M → M
conditional_step c = node_of conditional (c.test ++ optional c.branches)

abbrev pub expressions_step : Expressions-F M M M M M M M M M → M
expressions_step e = e.first.value ++ joined e.rest.items

abbrev pub next_expression_step : NextExpression-F M M M M M M M M M → M
next_expression_step n = leaf n.comma ∷ n.expression

abbrev pub operand_step : Operand-F M M M M M M M M M → M
operand_step o = o.first ++ joined o.chains.items

-- WHOLE TREES

abbrev pub primary_marks : Primary → M
primary_marks = fold-Primary M M M M M M M M M primary_step unary_step arguments_step branches_step chain_step
    conditional_step expressions_step next_expression_step operand_step

abbrev pub unary_marks : Unary → M
unary_marks = fold-Unary M M M M M M M M M primary_step unary_step arguments_step branches_step chain_step
    conditional_step expressions_step next_expression_step operand_step

abbrev pub arguments_marks : Arguments → M
arguments_marks = fold-Arguments M M M M M M M M M primary_step unary_step arguments_step branches_step
    chain_step conditional_step expressions_step next_expression_step operand_step

abbrev pub branches_marks : Branches → M
branches_marks = fold-Branches M M M M M M M M M primary_step unary_step arguments_step branches_step
    chain_step conditional_step expressions_step next_expression_step operand_step

abbrev pub chain_marks : Chain → M
chain_marks = fold-Chain M M M M M M M M M primary_step unary_step arguments_step branches_step chain_step
    conditional_step expressions_step next_expression_step operand_step

abbrev pub conditional_marks : Conditional → M
conditional_marks = fold-Conditional M M M M M M M M M primary_step unary_step arguments_step branches_step
    chain_step conditional_step expressions_step next_expression_step operand_step

abbrev pub expressions_marks : Expressions → M
expressions_marks = fold-Expressions M M M M M M M M M primary_step unary_step arguments_step branches_step
    chain_step conditional_step expressions_step next_expression_step operand_step

abbrev pub next_expression_marks : NextExpression → M
next_expression_marks = fold-NextExpression M M M M M M M M M primary_step unary_step arguments_step
    branches_step chain_step conditional_step expressions_step next_expression_step operand_step

abbrev pub operand_marks : Operand → M
operand_marks = fold-Operand M M M M M M M M M primary_step unary_step arguments_step branches_step chain_step
    conditional_step expressions_step next_expression_step operand_step
