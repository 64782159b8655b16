-- The trees of assignments, steps and calls, and of what is between the parentheses of a statement, written
-- out.

use Rattle.std.specs.Prelude.{List, [], ◌∷◌, ◌++◌, map, option_map}
use Rattle.ba_trees.specs.declared.tree.statements.Target.{Target}
use Rattle.ba_trees.specs.declared.tree.statements.Index.{Index}
use Rattle.ba_trees.specs.declared.tree.statements.Simple.{Simple}
use Rattle.ba_trees.specs.declared.tree.statements.Simple.TheVariants as form
use Rattle.ba_trees.specs.declared.tree.statements.ListedSimple.{ListedSimple}
use Rattle.ba_trees.specs.declared.tree.statements.Simples.{Simples}
use Rattle.ba_trees.specs.declared.tree.statements.Condition.{Condition}
use Rattle.ba_trees.specs.declared.tree.statements.Label.{Label}
use Rattle.ba_trees.specs.declared.tree.statements.Label.TheVariants as labelled
use Rattle.ba_trees.specs.declared.tree.statements.ForFirst.{ForFirst}
use Rattle.ba_trees.specs.declared.tree.statements.ForFirst.TheVariants as first
use Rattle.ba_trees.specs.declared.tree.statements.ForHead.{ForHead}
use Rattle.ba_trees.specs.declared.tree.statements.Printed.{Printed}
use Rattle.ba_trees.specs.Marks.{Mark, leaf, node_of, one_deeper, target, simple, simples, label, for_first}
use Rattle.ba_trees.specs.Views.{joined, optional, optional_leaf}
use Rattle.ba_trees.specs.ExpressionMarks.{type_name_marks, conditional_marks, arguments_marks, next_expression_marks}
use Rattle.ba_trees.specs.DeclarationMarks.{declarators_marks}

abbrev pub index_marks : Index → List Mark
index_marks i = leaf i.«open» ∷ one_deeper (conditional_marks i.value.value) ++ leaf i.close ∷ []

abbrev pub target_marks : Target → List Mark
target_marks t = node_of target (leaf t.name ∷ optional (option_map index_marks t.index))

abbrev pub simple_marks : Simple → List Mark
simple_marks (form.Assign place operator value) = node_of simple (target_marks place ++ leaf operator
    ∷ conditional_marks value)
simple_marks (form.Step place operator) = node_of simple (target_marks place ++ leaf operator ∷ [])
simple_marks (form.PrefixStep operator place) = node_of simple (leaf operator ∷ target_marks place)
simple_marks (form.Call name opener arguments closer) =
    node_of simple (leaf name ∷ leaf opener ∷ one_deeper (arguments_marks arguments)
    ++ leaf closer ∷ [])

abbrev pub listed_simple_marks : ListedSimple → List Mark
listed_simple_marks l = optional_leaf l.comma ++ simple_marks l.simple

abbrev pub simples_marks : Simples → List Mark
simples_marks s = node_of simples (joined (map listed_simple_marks s.all.items))

abbrev pub condition_marks : Condition → List Mark
condition_marks c = leaf c.«open» ∷ one_deeper (conditional_marks c.test.value) ++ leaf c.close ∷ []

abbrev pub label_marks : Label → List Mark
label_marks (labelled.Case keyword value colon) =
    node_of label (leaf keyword ∷ conditional_marks value ++ leaf colon ∷ [])
label_marks (labelled.Default keyword colon) = node_of label (leaf keyword ∷ leaf colon ∷ [])

abbrev pub for_first_marks : ForFirst → List Mark
for_first_marks (first.Declaration name declarators) =
    node_of for_first (type_name_marks name ++ declarators_marks declarators)
for_first_marks (first.Simples s) = node_of for_first (simples_marks s)
for_first_marks first.Nothing = node_of for_first []

abbrev pub for_head_marks : ForHead → List Mark
for_head_marks f =
    for_first_marks f.first ++ leaf f.first_semicolon ∷ optional (option_map conditional_marks f.test)
    ++ leaf f.second_semicolon ∷ optional (option_map simples_marks f.step)

abbrev pub printed_marks : Printed → List Mark
printed_marks p = leaf p.first ∷ map leaf p.rest.items ++ joined
    (map next_expression_marks p.values.items)
