-- Declarations of variables (C90 6.5): types, lengths, initialisers, and what they add to a program.

use Rattle.std.specs.Prelude.{ℕ, ◌+◌, nat_lt, ℤ, pos, ◌+ℤ◌, Bool, true, false, not, ◌&&◌, ◌||◌, ◌==◌, cond, Option, None, Some, option_map, unwrap_or, List, [], ◌∷◌, ◌++◌, map, flat_map, length, int_le, unsigned_abs, sum_by}
use Rattle.std.specs.Option.{is_some}
use Rattle.ba_numbers.specs.declared.ids.At.{At}
use Rattle.ba_numbers.specs.declared.ids.StmtId.{StmtId}
use Rattle.ba_numbers.specs.declared.ids.VarId.{VarId}
use Rattle.ba_numbers.specs.declared.numbers.CType.{CType}
use Rattle.ba_numbers.specs.declared.numbers.CType.TheVariants.{I32}
use Rattle.ba_trees.specs.declared.tree.declarations.ArrayLength.{ArrayLength}
use Rattle.ba_trees.specs.declared.tree.declarations.Braced.{Braced}
use Rattle.ba_trees.specs.declared.tree.declarations.Enumerator.{Enumerator}
use Rattle.ba_trees.specs.declared.tree.declarations.EnumeratorList.{EnumeratorList}
use Rattle.ba_trees.specs.declared.tree.declarations.EnumeratorValue.{EnumeratorValue}
use Rattle.ba_trees.specs.declared.tree.declarations.Enumerators.{Enumerators}
use Rattle.ba_trees.specs.declared.tree.declarations.NextEnumerator.{NextEnumerator}
use Rattle.ba_trees.specs.declared.tree.declarations.Specifiers.{Specifiers}
use Rattle.ba_trees.specs.declared.tree.declarations.Initialiser.{Initialiser}
use Rattle.ba_trees.specs.declared.tree.declarations.Initialiser.TheVariants as initialiser
use Rattle.ba_trees.specs.declared.tree.declarations.Declarator.{Declarator}
use Rattle.ba_trees.specs.declared.tree.declarations.ListedDeclarator.{ListedDeclarator}
use Rattle.ba_trees.specs.declared.tree.declarations.Declarators.{Declarators}
use Rattle.ba_trees.specs.declared.tree.expressions.Conditional.{Conditional}
use Rattle.ba_tree.specs.declared.tree.Shape.{Shape}
use Rattle.ba_tree.specs.declared.tree.Shape.TheVariants.{Value, Array}
use Rattle.ba_tree.specs.declared.tree.StmtInfo.{StmtInfo}
use Rattle.ba_tree.specs.declared.tree.StmtKind.{StmtKind}
use Rattle.ba_tree.specs.declared.tree.StmtKind.TheVariants as kind
use Rattle.ba_tree.specs.declared.tree.Variable.{Variable}
use Rattle.ba_tokens.specs.declared.token.Token.{Token}
use Rattle.ba_numbers.specs.Numbers.{converted}
use Rattle.ba_typing.specs.Expressions.{Typed, Typing, typed_conditional, typed_next, tree_as, constant_value, placeholder}
use Rattle.ba_typing.specs.Faults.{fault, fault_if, void_faults, twice_faults, tag_faults, limit_faults, statement_limit, variable_limit, element_limit, height_limit}
use Rattle.ba_typing.specs.Names.{Scope, knowing, is_declared_here, is_declared_in, name_of, tag_of, words_of_declaration, type_specified}
use Rattle.ba_typing.specs.declared.meanings.Entity.TheVariants as entity
use Rattle.ba_typing.specs.declared.meanings.Space.TheVariants as space
use Rattle.ba_tree.specs.Trees.{ExprTree, StmtTree}
use Rattle.ba_tree.specs.Trees as tree
use Rattle.ba_typing.specs.declared.fault.Cause.TheVariants.{WrongKind, WrongCount, BadLength}
use Rattle.ba_typing.specs.declared.fault.Fault.{Fault}
use Rattle.ba_typing.specs.declared.meanings.Entry.{Entry}
use Rattle.ba_typing.specs.declared.meanings.Signature.{Signature}

-- WHAT A PART OF THE TEXT ADDS:
-- - its typed statements
-- - the names that the scope around it knows afterwards
-- - variables and numbered statements in the order of the text
-- - how many enumeration constants, calls and array elements it has
-- - its faults
pub record Added : Type 0 where
  pub stmts : List StmtTree
  pub entries : List Entry
  pub variables : List Variable
  pub constants : ℕ
  pub statements : List StmtInfo
  pub calls : ℕ
  pub elements : ℕ
  pub faults : List Fault

-- what an empty part adds
abbrev pub nothing_added : Added
nothing_added = record {
  stmts = [];
  entries = [];
  variables = [];
  constants = 0;
  statements = [];
  calls = 0;
  elements =
      0;
  faults = [];
}

infixr 5 ◌and◌
-- what two parts add together, the first one before the second
abbrev pub ◌and◌ : Added → Added → Added
(a and b) = record {
  stmts = a.stmts ++ b.stmts;
  entries = a.entries ++ b.entries;
  variables = a.variables ++ b.variables;
  constants = a.constants + b.constants;
  statements = a.statements ++ b.statements;
  calls = a.calls + b.calls;
  elements = a.elements + b.elements;
  faults = a.faults ++ b.faults;
}

-- how many of each come before
pub record Before : Type 0 where
  pub variables : ℕ
  pub constants : ℕ
  pub statements : ℕ
  pub calls : ℕ
  pub elements : ℕ

-- the counts before what follows a part that adds this
abbrev pub behind : Before → Added → Before
behind n a = record {
  variables = n.variables + length a.variables;
  constants = n.constants + a.constants;
  statements = n.statements + length a.statements;
  calls = n.calls + a.calls;
  elements = n.elements + a.elements;
}

-- what a part of the text adds, in a scope and after these counts
abbrev pub Part : Type 0
Part = Scope → Before → Added

-- a part, and then one in the scope that knows what the first declared
infixr 4 ◌then◌
-- two parts in a row: the second sees what the first declares
abbrev pub ◌then◌ : Part → Part → Part
(first then second) scope n = let a = first scope n in a and second (knowing a.entries scope) (behind n a)

-- the part that adds nothing
abbrev pub nothing : Part
nothing scope n = nothing_added

-- parts in a row
abbrev pub in_order : List Part → Part
in_order [] = nothing
in_order (part ∷ parts) = part then in_order parts

-- THE PIECES

-- faults, and nothing else
abbrev pub faults_added : List Fault → Added
faults_added faults = record nothing_added { faults = faults }

-- the number of the next statement
abbrev pub next_stmt : Before → StmtId
next_stmt n = record { 0 = n.statements + 1 }

-- a numbered statement of this tree, with the calls and faults of its expressions
abbrev pub numbered : Before → At → StmtKind → StmtTree → ℕ → List Fault → Added
numbered n at k typed calls faults = record nothing_added {
  stmts = typed ∷ [];
  statements = record { at = at; kind = k } ∷ [];
  calls = calls;
  faults = limit_faults statement_limit (n.statements + 1) at ++ faults;
}

-- the faults of a whole expression, its height at this position among them
abbrev pub whole_faults : At → Typed → List Fault
whole_faults at e = limit_faults height_limit e.height at ++ e.faults

-- VARIABLES

-- the number of the next variable or constant, counted together from 1
abbrev pub next_name : Before → ℕ
next_name n = n.variables + n.constants + 1

-- a name that the file has declared before, as a variable, or as one of these functions
abbrev pub is_declared : Scope → List Signature → List ℕ → Bool
is_declared scope functions name = is_declared_here space.Ordinary scope name
    || ((scope.depth == 0) && is_declared_in functions name)

-- a variable with its name at this position, after these functions were declared
abbrev pub add_variable : List Signature → At → List ℕ → Variable → Part
add_variable functions at name v scope n = record nothing_added {
  entries = record {
    name = name;
    depth = scope.depth;
    entity = entity.Variable (record { var = record { 0 = n.variables }; variable = v });
  } ∷ [];
  variables = v ∷ [];
  faults = twice_faults (is_declared scope functions name) at
      ++ limit_faults variable_limit (next_name n) at;
}

-- ENUMERATIONS (C90 6.5.2.2)

-- a tag is known from its appearance on
abbrev pub add_tag : Option Token → Part
add_tag None scope n = nothing_added
add_tag (Some tag) scope n = record nothing_added {
  entries = record { name = name_of tag; depth = scope.depth; entity = entity.Tag } ∷ [];
  faults = twice_faults (is_declared_here space.Tags scope (name_of tag)) tag.at;
}

-- a constant of this value with its name at this position, after these functions were declared
abbrev pub add_constant : List Signature → At → List ℕ → ℤ → Part
add_constant functions at name z scope n = record nothing_added {
  entries = record { name = name; depth = scope.depth; entity = entity.Constant z } ∷ [];
  constants = 1;
  faults = twice_faults (is_declared scope functions name) at ++ limit_faults variable_limit (next_name n) at;
}

-- A written value. Its height is tested at the constant's name. A value at fault counts as one that is not
-- written.
abbrev pub value_faults : At → Typed → List Fault
value_faults at e = whole_faults at e ++ fault_if (not (is_some (constant_value I32 e))) WrongKind e.first

-- the value that the text gives an enumeration constant, if it gives one
abbrev pub written_value : Enumerator → Option Typing
written_value e = option_map (λ (v : EnumeratorValue). typed_conditional v.value) e.value

-- the value of a constant without a written one: 0 for the first constant, and else one more than the
-- constant before it
abbrev pub following : Option ℤ → ℤ
following None = pos 0
following (Some z) = converted I32 (z +ℤ pos 1)

-- a constant's value, if the constant before it has the value `last`
abbrev pub enumerator_value : Option ℤ → Option Typed → ℤ
enumerator_value last None = following last
enumerator_value last (Some e) = unwrap_or (constant_value I32 e) (following last)

-- the faults and calls of a written value
abbrev pub add_written : At → Option Typed → Part
add_written at None scope n = nothing_added
add_written at (Some e) scope n = record (faults_added (value_faults at e)) { calls = e.calls }

-- a constant is known from the end of its enumerator on
abbrev pub add_enumerator : List Signature → Option ℤ → Enumerator → Option Typed → Part
add_enumerator functions last e v =
    add_written e.name.at v
    then add_constant functions e.name.at (name_of e.name) (enumerator_value last v)

-- the constants of a list, each by its value or as one more than the last
abbrev pub add_enumerator_list : List Signature → Option ℤ → List Enumerator → Part
add_enumerator_list functions last [] scope n = nothing_added
add_enumerator_list functions last (e ∷ es) scope n =
    let v = option_map (λ (typing : Typing). typing scope n.calls) (written_value e) in
    (add_enumerator functions last e v then add_enumerator_list functions (Some (enumerator_value last v)) es) scope n

-- the enumeration constants of a list, at least one
abbrev pub enumerators_in : EnumeratorList → List Enumerator
enumerators_in l = l.first ∷ map (λ (n : NextEnumerator). n.enumerator) l.rest.items

-- The specifiers of an enumerated type. With a list they declare its tag and its constants, the first of
-- which is 0 by default. Without a list they name a known tag.
abbrev pub add_listed : List Signature → Option Token → Option Enumerators → Part
add_listed functions tag None scope n = faults_added (tag_faults scope tag)
add_listed functions tag (Some e) scope n =
    (add_tag tag then add_enumerator_list functions None (enumerators_in e.list)) scope n

-- what the words of a declaration add: a tag and enumeration constants
abbrev pub add_specifiers : List Signature → Specifiers → Part
add_specifiers functions s = add_listed functions (tag_of (words_of_declaration s)) s.enumerators

-- LENGTHS OF ARRAYS (C90 6.5.4.2)

-- from 1 to 256
abbrev pub is_length : ℤ → Bool
is_length z = int_le (pos 1) z && int_le z (pos 256)

-- the value as a length, if it is 1 to 256
abbrev pub length_in_range : Option ℤ → Option ℕ
length_in_range None = None
length_in_range (Some z) = cond (is_length z) (Some (unsigned_abs z)) None

-- a written length, None if it is not constant, traps or is out of range
abbrev pub written_length : Typed → Option ℕ
written_length e = cond e.is_constant (length_in_range e.value) None

-- THE VALUES OF AN INITIALISER (C90 6.5.7)

-- the values between the braces
abbrev pub braced_values : Braced → List Typing
braced_values b = typed_conditional b.first ∷ map typed_next b.rest.items

-- the values of an initialiser
abbrev pub values_of : Initialiser → List Typing
values_of (initialiser.Expression assign e) = typed_conditional e ∷ []
values_of (initialiser.Braced assign b) = braced_values b

-- the initialiser has braces
abbrev pub has_braces : Initialiser → Bool
has_braces (initialiser.Expression assign e) = false
has_braces (initialiser.Braced assign b) = true

-- expressions one after the other
abbrev pub typed_each : Scope → ℕ → List Typing → List Typed
typed_each scope calls [] = []
typed_each scope calls (typing ∷ typings) = let e = typing scope calls in
    e ∷ typed_each scope (calls + e.calls) typings

-- how many calls are in these expressions
abbrev pub calls_in : List Typed → ℕ
calls_in = sum_by (λ (e : Typed). e.calls)

-- a value of an initialiser; that of a global is constant
abbrev pub initial_faults : At → Bool → Typed → List Fault
initial_faults at is_global e = whole_faults at e ++ fault_if (is_global && not e.is_constant) WrongKind at

-- the tree of the first expression, converted to the type
abbrev pub first_tree : CType → List Typed → ExprTree
first_tree t [] = placeholder
first_tree t (e ∷ es) = tree_as t e

-- the values of an array, or the one value of a variable
abbrev pub init_tree : StmtId → VarId → CType → Bool → List Typed → StmtTree
init_tree stmt v t true es = tree.init_array stmt v (map (tree_as t) es)
init_tree stmt v t false es = tree.init stmt v (first_tree t es)

-- DECLARATORS (C90 6.5.4)

-- the length of an array: how many elements, None if it is bad; whether it is written; and what its
-- expression adds
pub record TypedLength : Type 0 where
  pub count : Option ℕ
  pub is_written : Bool
  pub calls : ℕ
  pub faults : List Fault

-- the length that an expression gives
abbrev pub typed_written_length : At → Typed → TypedLength
typed_written_length at e = record {
  count = written_length e;
  is_written = true;
  calls = e.calls;
  faults =
      whole_faults at e;
}

-- the length of an array that is written without one: the count of its values
abbrev pub typed_counted_length : Option ℕ → TypedLength
typed_counted_length values = record {
  count = length_in_range (option_map pos values);
  is_written =
      false;
  calls = 0;
  faults = [];
}

-- the length of an array at this position, with the number of its initialisers, if it has any
abbrev pub typed_length : At → Option ℕ → Option Conditional → Scope → ℕ → TypedLength
typed_length at values None scope calls = typed_counted_length values
typed_length at values (Some e) scope calls = typed_written_length at (typed_conditional e scope calls)

-- the length of an array, None if the variable is no array
abbrev pub typed_array_length : At → Option ℕ → Scope → ℕ → Option ArrayLength → Option TypedLength
typed_array_length at values scope calls None = None
typed_array_length at values scope calls (Some l) = Some (typed_length at values l.length scope calls)

-- a bad length adds no elements, and the array counts as one of 1
abbrev pub length_faults : Before → At → Option ℕ → List Fault
length_faults n at None = fault BadLength at
length_faults n at (Some count) = limit_faults element_limit (n.elements + count) at

-- the faults, calls and elements of a length
abbrev pub add_length : At → Option TypedLength → Part
add_length at None scope n = nothing_added
add_length at (Some l) scope n = record nothing_added {
  calls = l.calls;
  elements = unwrap_or l.count 0;
  faults = length_faults n at l.count ++ l.faults;
}

-- the shape of a variable: a value, or an array of its length (1 for a bad one)
abbrev pub shape_of : Option TypedLength → Shape
shape_of None = Value
shape_of (Some l) = Array (unwrap_or l.count 1)

-- the written length that an initialiser may not exceed, if it is good
abbrev pub written_count : Option TypedLength → Option ℕ
written_count None = None
written_count (Some l) = cond l.is_written l.count None

-- a count is larger than a length that is known
abbrev pub exceeds : Option ℕ → ℕ → Bool
exceeds None count = false
exceeds (Some most) count = nat_lt most count

-- Braces are for an array, and only for an array, and have at most as many values as elements.
abbrev pub add_initialiser : At → VarId → CType → Option TypedLength → Initialiser → Part
add_initialiser at v t l init scope n = let es = typed_each scope n.calls (values_of init) in
    numbered n at kind.Initialiser (init_tree (next_stmt n) v t (is_some l) es) (calls_in es)
    (fault_if (cond (is_some l) (not (has_braces init)) (has_braces init)) WrongKind at
    ++ fault_if (exceeds (written_count l) (length es)) WrongCount at
    ++ flat_map (initial_faults at (scope.depth == 0)) es)

-- what an initialiser adds, if there is one
abbrev pub add_optional_initialiser : At → VarId → CType → Option TypedLength → Option Initialiser → Part
add_optional_initialiser at v t l None = nothing
add_optional_initialiser at v t l (Some init) = add_initialiser at v t l init

-- a local variable is declared at its place in the text, a global before the run
abbrev pub add_declare : VarId → Part
add_declare v scope n = record nothing_added { stmts = cond (scope.depth == 0) [] (tree.declare v ∷ []) }

-- how many values an initialiser has, if there is one
abbrev pub count_of_values : Option Initialiser → Option ℕ
count_of_values = option_map (λ init. length (values_of init))

-- A declarator of a type; `void` is at fault. The variable is known from the end of its declarator on, in its
-- initialiser too.
abbrev pub add_declarator : List Signature → Option CType → Declarator → Part
add_declarator functions t d scope n =
    let at = d.name.at in
    let v : VarId = record { 0 = n.variables } in
    let s = unwrap_or t I32 in
    let l = typed_array_length at (count_of_values d.initialiser) scope n.calls d.length in
    (add_length at l
    then add_variable functions at (name_of d.name) (record { t = s; shape = shape_of l })
    then add_declare v
    then add_optional_initialiser at v s l d.initialiser
    then (λ scope n. faults_added (void_faults t at))) scope n

-- the declarators of a list, of one type, after these functions were declared
abbrev pub add_declarators : List Signature → Option CType → Declarators → Part
add_declarators functions t ds = in_order (map
    (λ (l : ListedDeclarator). add_declarator functions t l.declarator) ds.all.items)

-- what declarators add, if there are some
abbrev pub add_optional_declarators : List Signature → Option CType → Option Declarators → Part
add_optional_declarators functions t None = nothing
add_optional_declarators functions t (Some ds) = add_declarators functions t ds

-- a declaration of a file or of a block, after these functions were declared
abbrev pub add_declaration : List Signature → Specifiers → Option Declarators → Part
add_declaration functions s ds =
    add_specifiers functions s then add_optional_declarators functions (type_specified s) ds
