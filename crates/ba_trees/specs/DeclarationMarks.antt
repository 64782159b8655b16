-- The trees of declarations, written out.

use Rattle.std.specs.Prelude.{List, [], ◌∷◌, ◌++◌, map, option_map}
use Rattle.ba_trees.specs.declared.tree.declarations.ArrayLength.{ArrayLength}
use Rattle.ba_trees.specs.declared.tree.declarations.Braced.{Braced}
use Rattle.ba_trees.specs.declared.tree.declarations.Initialiser.{Initialiser}
use Rattle.ba_trees.specs.declared.tree.declarations.Initialiser.TheVariants as initialiser
use Rattle.ba_trees.specs.declared.tree.declarations.Declarator.{Declarator}
use Rattle.ba_trees.specs.declared.tree.declarations.ListedDeclarator.{ListedDeclarator}
use Rattle.ba_trees.specs.declared.tree.declarations.Declarators.{Declarators}
use Rattle.ba_trees.specs.declared.tree.declarations.Declaration.{Declaration}
use Rattle.ba_trees.specs.declared.tree.declarations.Enumerator.{Enumerator}
use Rattle.ba_trees.specs.declared.tree.declarations.EnumeratorList.{EnumeratorList}
use Rattle.ba_trees.specs.declared.tree.declarations.EnumeratorValue.{EnumeratorValue}
use Rattle.ba_trees.specs.declared.tree.declarations.Enumerators.{Enumerators}
use Rattle.ba_trees.specs.declared.tree.declarations.NextEnumerator.{NextEnumerator}
use Rattle.ba_trees.specs.declared.tree.declarations.Specifiers.{Specifiers}
use Rattle.ba_trees.specs.declared.tree.declarations.Parameter.{Parameter}
use Rattle.ba_trees.specs.declared.tree.declarations.NextParameter.{NextParameter}
use Rattle.ba_trees.specs.declared.tree.declarations.ParameterList.{ParameterList}
use Rattle.ba_trees.specs.declared.tree.declarations.Parameters.{Parameters}
use Rattle.ba_trees.specs.Marks.{Mark, leaf, node_of, one_deeper, specifiers, enumerators, enumerator, array_length, braced, declarator, declarators, declaration, parameter, parameters}
use Rattle.ba_trees.specs.Views.{joined, optional, optional_leaf, name_marks}
use Rattle.ba_trees.specs.ExpressionMarks.{type_name_marks, conditional_marks, next_expression_marks}

abbrev pub enumerator_value_marks : EnumeratorValue → List Mark
enumerator_value_marks v = leaf v.assign ∷ conditional_marks v.value

abbrev pub enumerator_marks : Enumerator → List Mark
enumerator_marks e = node_of enumerator (leaf e.name ∷ optional (option_map enumerator_value_marks e.value))

abbrev pub next_enumerator_marks : NextEnumerator → List Mark
next_enumerator_marks n = leaf n.comma ∷ enumerator_marks n.enumerator

abbrev pub enumerator_list_marks : EnumeratorList → List Mark
enumerator_list_marks l = enumerator_marks l.first ++ joined (map next_enumerator_marks l.rest.items)
    ++ optional_leaf l.comma

abbrev pub enumerators_marks : Enumerators → List Mark
enumerators_marks e = node_of enumerators (leaf e.«open» ∷ one_deeper (enumerator_list_marks e.list)
    ++ leaf e.close ∷ [])

abbrev pub specifiers_marks : Specifiers → List Mark
specifiers_marks s = node_of specifiers (map leaf s.words.items ++ optional (option_map enumerators_marks
    s.enumerators) ++ map leaf s.behind.items)

abbrev pub array_length_marks : ArrayLength → List Mark
array_length_marks a =
    node_of array_length (leaf a.«open» ∷ one_deeper (optional (option_map conditional_marks a.length))
    ++ leaf a.close ∷ [])

abbrev pub braced_marks : Braced → List Mark
braced_marks b = node_of braced
    (leaf b.«open» ∷ conditional_marks b.first ++ joined (map next_expression_marks b.rest.items)
    ++ optional_leaf b.comma ++ leaf b.close ∷ [])

abbrev pub initialiser_marks : Initialiser → List Mark
initialiser_marks (initialiser.Expression assign value) = leaf assign ∷ conditional_marks value
initialiser_marks (initialiser.Braced assign values) = leaf assign ∷ braced_marks values

abbrev pub declarator_marks : Declarator → List Mark
declarator_marks d = node_of declarator
    (leaf d.name ∷ optional (option_map array_length_marks d.length) ++ optional
    (option_map initialiser_marks d.initialiser))

abbrev pub listed_declarator_marks : ListedDeclarator → List Mark
listed_declarator_marks l = optional_leaf l.comma ++ declarator_marks l.declarator

abbrev pub declarators_marks : Declarators → List Mark
declarators_marks d = node_of declarators (joined (map listed_declarator_marks d.all.items))

abbrev pub declaration_marks : Declaration → List Mark
declaration_marks d = node_of declaration (specifiers_marks d.specifiers ++ optional
    (option_map declarators_marks d.declarators) ++ leaf d.semicolon ∷ [])

abbrev pub parameter_marks : Parameter → List Mark
parameter_marks p =
    node_of parameter (type_name_marks p.type_name ++ name_marks p.name ++ optional
    (option_map array_length_marks p.length))

abbrev pub next_parameter_marks : NextParameter → List Mark
next_parameter_marks n = leaf n.comma ∷ parameter_marks n.parameter

abbrev pub parameter_list_marks : ParameterList → List Mark
parameter_list_marks p = parameter_marks p.first ++ joined (map next_parameter_marks p.rest.items)

abbrev pub parameters_marks : Parameters → List Mark
parameters_marks p = node_of parameters (optional (option_map parameter_list_marks p.list))
