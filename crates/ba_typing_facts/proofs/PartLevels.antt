-- The marks of what holds no statements go as often up as down.
-- the limit.
use Rattle.std.proofs.Common.{Option, None, Some, List, [], ◌∷◌, map, option_map}
use Rattle.ba_tokens.specs.declared.token.Token.{Token}
use Rattle.ba_trees.specs.Marks.{leaf}
use Rattle.ba_trees.specs.Views.{joined, optional, optional_leaf, name_marks}
use Rattle.ba_trees.specs.ExpressionMarks.{M, conditional_marks, next_expression_marks}
use Rattle.ba_trees.specs.DeclarationMarks.{enumerator_value_marks, enumerator_marks, next_enumerator_marks, enumerator_list_marks, enumerators_marks, specifiers_marks, array_length_marks, initialiser_marks, declarator_marks, listed_declarator_marks, declarators_marks, parameter_marks, next_parameter_marks, parameter_list_marks, parameters_marks}
use Rattle.ba_trees.specs.SimpleMarks.{index_marks, target_marks, simple_marks, listed_simple_marks, simples_marks, condition_marks, label_marks, for_first_marks, for_head_marks, printed_marks}
use Rattle.ba_trees.specs.declared.tree.declarations.ArrayLength.{ArrayLength}
use Rattle.ba_trees.specs.declared.tree.declarations.Initialiser.{Initialiser}
use Rattle.ba_trees.specs.declared.tree.declarations.Initialiser.TheVariants as initialiser
use Rattle.ba_trees.specs.declared.tree.declarations.Declarator.{Declarator}
use Rattle.ba_trees.specs.declared.tree.declarations.ListedDeclarator.{ListedDeclarator}
use Rattle.ba_trees.specs.declared.tree.declarations.Declarators.{Declarators}
use Rattle.ba_trees.specs.declared.tree.declarations.Enumerator.{Enumerator}
use Rattle.ba_trees.specs.declared.tree.declarations.EnumeratorList.{EnumeratorList}
use Rattle.ba_trees.specs.declared.tree.declarations.EnumeratorValue.{EnumeratorValue}
use Rattle.ba_trees.specs.declared.tree.declarations.Enumerators.{Enumerators}
use Rattle.ba_trees.specs.declared.tree.declarations.NextEnumerator.{NextEnumerator}
use Rattle.ba_trees.specs.declared.tree.declarations.Specifiers.{Specifiers}
use Rattle.ba_trees.specs.declared.tree.declarations.Parameter.{Parameter}
use Rattle.ba_trees.specs.declared.tree.declarations.NextParameter.{NextParameter}
use Rattle.ba_trees.specs.declared.tree.declarations.ParameterList.{ParameterList}
use Rattle.ba_trees.specs.declared.tree.declarations.Parameters.{Parameters}
use Rattle.ba_trees.specs.declared.tree.statements.Target.{Target}
use Rattle.ba_trees.specs.declared.tree.statements.Index.{Index}
use Rattle.ba_trees.specs.declared.tree.statements.Simple.{Simple}
use Rattle.ba_trees.specs.declared.tree.statements.Simple.TheVariants as simple
use Rattle.ba_trees.specs.declared.tree.statements.ListedSimple.{ListedSimple}
use Rattle.ba_trees.specs.declared.tree.statements.Simples.{Simples}
use Rattle.ba_trees.specs.declared.tree.statements.Condition.{Condition}
use Rattle.ba_trees.specs.declared.tree.statements.Label.{Label}
use Rattle.ba_trees.specs.declared.tree.statements.Label.TheVariants as label
use Rattle.ba_trees.specs.declared.tree.statements.ForFirst.{ForFirst}
use Rattle.ba_trees.specs.declared.tree.statements.ForFirst.TheVariants as first
use Rattle.ba_trees.specs.declared.tree.statements.ForHead.{ForHead}
use Rattle.ba_trees.specs.declared.tree.statements.Printed.{Printed}
use Rattle.ba_typing_facts.proofs.LevelFacts.{IsEven, none, front, both, inside, deeper, type_even, conditional_even, arguments_even, next_even}

-- PARTS that hold no statements

pub row : {A : Type 0} (marks : A → M) → ((x : A) → IsEven (marks x)) → (xs : List A) → IsEven (joined
    (map marks xs))
row marks h [] = none
row marks h (x ∷ xs) = both (h x) (row marks h xs)

pub maybe : {A : Type 0} (marks : A → M) → ((x : A) → IsEven (marks x)) → (o : Option A) → IsEven (optional
    (option_map marks o))
maybe marks h None = none
maybe marks h (Some x) = h x

pub maybe_leaf : (o : Option Token) → IsEven (optional_leaf o)
maybe_leaf None = none
maybe_leaf (Some t) = front t none

pub words : (ts : List Token) → IsEven (map (λ t. leaf t) ts)
words [] = none
words (t ∷ ts) = front t (words ts)

pub length_even : (a : ArrayLength) → IsEven (array_length_marks a)
length_even a = inside Rattle.ba_trees.specs.Marks.array_length (front a.«open» (both (deeper
    (maybe conditional_marks conditional_even a.length))
    (front a.close none)))

pub initialiser_even : (i : Initialiser) → IsEven (initialiser_marks i)
initialiser_even (initialiser.Expression assign value) = front assign (conditional_even value)
initialiser_even (initialiser.Braced assign b) = front assign (inside Rattle.ba_trees.specs.Marks.braced
    (front b.«open»
    (both (both (both (conditional_even b.first) (row next_expression_marks next_even b.rest.items))
    (maybe_leaf b.comma)) (front b.close none))))

pub declarator_even : (d : Declarator) → IsEven (declarator_marks d)
declarator_even d = inside Rattle.ba_trees.specs.Marks.declarator (front d.name (both
    (maybe array_length_marks length_even d.length)
    (maybe initialiser_marks initialiser_even d.initialiser)))

pub listed_even : (l : ListedDeclarator) → IsEven (listed_declarator_marks l)
listed_even l = both (maybe_leaf l.comma) (declarator_even l.declarator)

pub declarators_even : (d : Declarators) → IsEven (declarators_marks d)
declarators_even d = inside Rattle.ba_trees.specs.Marks.declarators
    (row listed_declarator_marks listed_even d.all.items)

enumerator_value_even : (v : EnumeratorValue) → IsEven (enumerator_value_marks v)
enumerator_value_even v = front v.assign (conditional_even v.value)

enumerator_even : (e : Enumerator) → IsEven (enumerator_marks e)
enumerator_even e = inside Rattle.ba_trees.specs.Marks.enumerator (front e.name
    (maybe enumerator_value_marks enumerator_value_even e.value))

next_enumerator_even : (n : NextEnumerator) → IsEven (next_enumerator_marks n)
next_enumerator_even n = front n.comma (enumerator_even n.enumerator)

enumerator_list_even : (l : EnumeratorList) → IsEven (enumerator_list_marks l)
enumerator_list_even l = both (both (enumerator_even l.first)
    (row next_enumerator_marks next_enumerator_even l.rest.items)) (maybe_leaf l.comma)

enumerators_even : (e : Enumerators) → IsEven (enumerators_marks e)
enumerators_even e = inside Rattle.ba_trees.specs.Marks.enumerators (front e.«open»
    (both (deeper (enumerator_list_even e.list)) (front e.close none)))

pub specifiers_even : (s : Specifiers) → IsEven (specifiers_marks s)
specifiers_even s = inside Rattle.ba_trees.specs.Marks.specifiers (both (both (words s.words.items)
    (maybe enumerators_marks enumerators_even s.enumerators)) (words s.behind.items))

pub name_even : (o : Option Token) → IsEven (name_marks o)
name_even None = inside Rattle.ba_trees.specs.Marks.no_name none
name_even (Some t) = front t none

pub parameter_even : (q : Parameter) → IsEven (parameter_marks q)
parameter_even q = inside Rattle.ba_trees.specs.Marks.parameter (both (both (type_even q.type_name)
    (name_even q.name))
    (maybe array_length_marks length_even q.length))

pub next_parameter_even : (n : NextParameter) → IsEven (next_parameter_marks n)
next_parameter_even n = front n.comma (parameter_even n.parameter)

pub list_even : (l : ParameterList) → IsEven (parameter_list_marks l)
list_even l = both (parameter_even l.first) (row next_parameter_marks next_parameter_even l.rest.items)

pub parameters_even : (ps : Parameters) → IsEven (parameters_marks ps)
parameters_even ps = inside Rattle.ba_trees.specs.Marks.parameters
    (maybe parameter_list_marks list_even ps.list)

pub index_even : (i : Index) → IsEven (index_marks i)
index_even i = front i.«open» (both (deeper (conditional_even i.value.value)) (front i.close none))

pub target_even : (t : Target) → IsEven (target_marks t)
target_even t = inside Rattle.ba_trees.specs.Marks.target (front t.name
    (maybe index_marks index_even t.index))

pub simple_even : (s : Simple) → IsEven (simple_marks s)
simple_even (simple.Assign place operator value) = inside Rattle.ba_trees.specs.Marks.simple (both
    (target_even place) (front operator
    (conditional_even value)))
simple_even (simple.Step place operator) = inside Rattle.ba_trees.specs.Marks.simple (both
    (target_even place) (front operator none))
simple_even (simple.PrefixStep operator place) = inside Rattle.ba_trees.specs.Marks.simple
    (front operator (target_even place))
simple_even (simple.Call name opener arguments closer) = inside Rattle.ba_trees.specs.Marks.simple
    (front name (front opener
    (both (deeper (arguments_even arguments)) (front closer none))))

pub listed_simple_even : (l : ListedSimple) → IsEven (listed_simple_marks l)
listed_simple_even l = both (maybe_leaf l.comma) (simple_even l.simple)

pub simples_even : (s : Simples) → IsEven (simples_marks s)
simples_even s = inside Rattle.ba_trees.specs.Marks.simples (row listed_simple_marks listed_simple_even
    s.all.items)

pub condition_even : (c : Condition) → IsEven (condition_marks c)
condition_even c = front c.«open» (both (deeper (conditional_even c.test.value)) (front c.close none))

pub label_even : (l : Label) → IsEven (label_marks l)
label_even (label.Case keyword value colon) = inside Rattle.ba_trees.specs.Marks.label (front keyword
    (both (conditional_even value) (front colon none)))
label_even (label.Default keyword colon) = inside Rattle.ba_trees.specs.Marks.label (front keyword
    (front colon none))

pub first_even : (f : ForFirst) → IsEven (for_first_marks f)
first_even (first.Declaration name declarators) = inside Rattle.ba_trees.specs.Marks.for_first (both
    (type_even name) (declarators_even declarators))
first_even (first.Simples s) = inside Rattle.ba_trees.specs.Marks.for_first (simples_even s)
first_even first.Nothing = inside Rattle.ba_trees.specs.Marks.for_first none

pub head_even : (f : ForHead) → IsEven (for_head_marks f)
head_even f = both (both (first_even f.first) (front f.first_semicolon
    (maybe conditional_marks conditional_even f.test))) (front f.second_semicolon
    (maybe simples_marks simples_even f.step))

pub printed_even : (q : Printed) → IsEven (printed_marks q)
printed_even q = front q.first (both (words q.rest.items)
    (row next_expression_marks next_even q.values.items))
