-- Functions and files (C90 6.7), and the typed program of a tree.

use Rattle.std.specs.Prelude.{◌≡◌, ℕ, ◌+◌, Bool, true, false, not, ◌&&◌, ◌||◌, cond, Option, None, Some, option_map, unwrap_or, List, [], ◌∷◌, ◌++◌, map, flat_map, filter, length, Result, Ok, Err}
use Rattle.std.specs.List.{list_all, list_any, range_with_len}
use Rattle.std.specs.Option.{is_some}
use Rattle.ba_tokens.specs.declared.token.Token.{Token}
use Rattle.ba_tokens.specs.declared.token.Keyword.TheVariants as keyword
use Rattle.ba_numbers.specs.declared.ids.At.{At}
use Rattle.ba_numbers.specs.declared.ids.FnId.{FnId}
use Rattle.ba_numbers.specs.declared.ids.VarId.{VarId}
use Rattle.ba_numbers.specs.declared.numbers.CType.{CType}
use Rattle.ba_numbers.specs.declared.numbers.CType.TheVariants.{I32}
use Rattle.ba_trees.specs.Classes.{class_of, word}
use Rattle.ba_trees.specs.declared.tree.declarations.ArrayLength.{ArrayLength}
use Rattle.ba_trees.specs.declared.tree.declarations.NextParameter.{NextParameter}
use Rattle.ba_trees.specs.declared.tree.declarations.Parameter.{Parameter}
use Rattle.ba_trees.specs.declared.tree.declarations.ParameterList.{ParameterList}
use Rattle.ba_trees.specs.declared.tree.declarations.Parameters.{Parameters}
use Rattle.ba_trees.specs.declared.tree.statements.External.{External}
use Rattle.ba_trees.specs.declared.tree.statements.ExternalForm.{ExternalForm}
use Rattle.ba_trees.specs.declared.tree.statements.ExternalForm.TheVariants as form
use Rattle.ba_trees.specs.declared.tree.statements.FunctionEnd.{FunctionEnd}
use Rattle.ba_trees.specs.declared.tree.statements.FunctionEnd.TheVariants as end
use Rattle.ba_numbers.specs.Types.{same_type}
use Rattle.ba_tree.specs.declared.tree.Program.{Program}
use Rattle.ba_tree.specs.declared.tree.Shape.{Shape}
use Rattle.ba_tree.specs.declared.tree.Shape.TheVariants.{Value, Passed}
use Rattle.ba_tree.specs.declared.tree.Variable.{Variable}
use Rattle.ba_typing.specs.Declarations.{Added, nothing_added, ◌and◌, Before, behind, Part, ◌then◌, nothing, in_order, faults_added, add_variable, add_length, add_specifiers, add_optional_declarators, TypedLength, typed_array_length, shape_of}
use Rattle.ba_typing.specs.Faults.{fault, fault_if, void_faults, twice_faults, tag_faults, limit_faults, function_limit, parameter_limit, IsFirst}
use Rattle.ba_typing.specs.Names.{Scope, no_exits, inner, knowing, name_of, words_of, type_named, type_specified, tag_of, is_main_name, main_name, is_declared_here, is_declared_in, definition_in, same_name}
use Rattle.ba_typing.specs.Statements.{parts_of_block}
use Rattle.ba_tree.specs.Trees.{FunctionTree, ProgramTree, tree_of}
use Rattle.ba_typing.specs.declared.error.TypeError.{TypeError}
use Rattle.ba_typing.specs.declared.error.TypeError.TheVariants as error
use Rattle.ba_typing.specs.declared.fault.Cause.{Cause}
use Rattle.ba_typing.specs.declared.fault.Cause.TheVariants.{UnknownName, Twice, WrongKind, WrongCount, BadLength, BreakOutside, CallInIndex, Limit}
use Rattle.ba_typing.specs.declared.fault.Fault.{Fault}
use Rattle.ba_typing.specs.declared.meanings.Entity.{Entity}
use Rattle.ba_typing.specs.declared.meanings.Entity.TheVariants as entity
use Rattle.ba_typing.specs.declared.meanings.Entry.{Entry}
use Rattle.ba_typing.specs.declared.meanings.Space.TheVariants as space
use Rattle.ba_typing.specs.declared.meanings.ParamType.{ParamType}
use Rattle.ba_typing.specs.declared.meanings.Signature.{Signature}

-- PARAMETERS (C90 6.5.4.3)

-- the parameters between the parentheses; none without a list
abbrev pub params_of_list : Option ParameterList → List Parameter
params_of_list None = []
params_of_list (Some l) = l.first ∷ map (λ (n : NextParameter). n.parameter) l.rest.items

-- the one word `void`, without a name or a length
abbrev pub is_void_word : List Token → Bool
is_void_word [] = false
is_void_word (w ∷ []) = word keyword.Void (class_of w)
is_void_word (w ∷ v ∷ ws) = false

-- the parameter is the word `void` alone
abbrev pub is_void_parameter : Parameter → Bool
is_void_parameter p = is_void_word (words_of p.type_name) && not (is_some p.name) && not (is_some p.length)

-- a list that is `void` alone has no parameter
abbrev pub without_void : List Parameter → List Parameter
without_void [] = []
without_void (p ∷ []) = cond (is_void_parameter p) [] (p ∷ [])
without_void (p ∷ q ∷ ps) = p ∷ q ∷ ps

-- the parameters; a list that is `void` alone has none
abbrev pub params_of : Parameters → List Parameter
params_of ps = without_void (params_of_list ps.list)

-- the type of a parameter, and whether it is an array
abbrev pub type_of_param : Parameter → ParamType
type_of_param p = record { t = type_named p.type_name; is_array = is_some p.length }

-- SIGNATURES: the declarations of functions in a file

-- the function has a body
abbrev pub is_definition : FunctionEnd → Bool
is_definition (end.Body block) = true
is_definition (end.Prototype semicolon) = false

-- a prototype with empty parentheses says nothing of the parameters
abbrev pub says_params : FunctionEnd → Parameters → Bool
says_params e ps = is_definition e || is_some ps.list

-- the signature of a function, None for variables; `definitions` functions are defined before it
abbrev pub signature_of_form : ℕ → Option CType → ExternalForm → Option Signature
signature_of_form definitions result (form.Variables declarators semicolon) = None
signature_of_form definitions result (form.Function name opener params closer e) = Some (record {
  name = name_of name;
  result = result;
  params = cond (says_params e params) (Some (map type_of_param (params_of params))) None;
  is_definition = is_definition e;
  function = record { 0 = definitions };
})

-- the signature of a declaration after this number of definitions
abbrev pub signature_of : ℕ → External → Option Signature
signature_of definitions x = signature_of_form definitions (type_specified x.specifiers) x.form

-- 1 for a definition, else 0
abbrev pub definitions_of : Option Signature → ℕ
definitions_of None = 0
definitions_of (Some s) = cond s.is_definition 1 0

-- a list with the signature before it, if there is one
abbrev pub with_signature : Option Signature → List Signature → List Signature
with_signature None ss = ss
with_signature (Some s) ss = s ∷ ss

-- the signatures of a file in order; this many functions are defined before it
abbrev pub signatures_from : ℕ → List External → List Signature
signatures_from definitions [] = []
signatures_from definitions (x ∷ xs) = let s = signature_of definitions x in
    with_signature s (signatures_from (definitions + definitions_of s) xs)

-- all declarations of functions in a file
abbrev pub signatures : List External → List Signature
signatures = signatures_from 0

-- DECLARATIONS OF FUNCTIONS (C90 6.5.4.3, 6.7.1)

-- the result types are equal; `void` equals itself
abbrev pub same_result : Option CType → Option CType → Bool
same_result None None = true
same_result None (Some t) = false
same_result (Some t) None = false
same_result (Some s) (Some t) = same_type s t

-- both have the same type, and both are arrays or neither
abbrev pub same_param : ParamType → ParamType → Bool
same_param p q = same_result p.t q.t && (cond p.is_array q.is_array (not q.is_array))

-- both lists have the same parameters
abbrev pub same_params : List ParamType → List ParamType → Bool
same_params [] [] = true
same_params [] (q ∷ qs) = false
same_params (p ∷ ps) [] = false
same_params (p ∷ ps) (q ∷ qs) = same_param p q && same_params ps qs

-- empty parentheses agree with every list
abbrev pub params_agree : Option (List ParamType) → Option (List ParamType) → Bool
params_agree None q = true
params_agree (Some ps) None = true
params_agree (Some ps) (Some qs) = same_params ps qs

-- both declare the function with the same result and with parameters that agree
abbrev pub agrees : Signature → Signature → Bool
agrees s t = same_result s.result t.result && params_agree s.params t.params

-- main returns `int` or nothing
abbrev pub is_main_result : Option CType → Bool
is_main_result None = true
is_main_result (Some t) = same_type t I32

-- how many functions these declare, each counted once
abbrev pub count_functions : List Signature → ℕ
count_functions [] = 0
count_functions (s ∷ ss) = cond (is_declared_in ss s.name) (count_functions ss) (1 + count_functions ss)

-- The faults of a declared function's name, after these declarations:
-- - the name of a variable or constant
-- - the 101st function
-- - a second definition
-- - another result or other parameters than before
-- - a `main` with another result
abbrev pub signature_faults : Scope → List Signature → Signature → At → List Fault
signature_faults scope earlier s at =
    let same = filter (λ (e : Signature). same_name e.name s.name) earlier in
    twice_faults (is_declared_here space.Ordinary scope s.name) at
    ++ limit_faults function_limit (count_functions earlier + cond (is_declared_in earlier s.name) 0 1) at
    ++ twice_faults (s.is_definition && list_any (λ (e : Signature). e.is_definition) same) at
    ++ fault_if (not (list_all (agrees s) same)) WrongKind at
    ++ fault_if (is_main_name s.name && not (is_main_result s.result)) WrongKind at

-- the position of a parameter: its name, or its first word
abbrev pub first_at : List Token → At → At
first_at [] other = other
first_at (w ∷ ws) other = w.at

-- the position of a name, or the other one without a name
abbrev pub position_of_name : At → Option Token → At
position_of_name other None = other
position_of_name other (Some name) = name.at

-- the name of a parameter, empty without one
abbrev pub name_of_param : Option Token → List ℕ
name_of_param None = []
name_of_param (Some name) = name_of name

-- the position of a parameter: of its name, else of its first word, else the other one
abbrev pub position_of_param : At → Parameter → At
position_of_param other p = position_of_name (first_at (words_of p.type_name) other) p.name

-- only the lengths of main's array parameters are evaluated
abbrev pub param_length : Bool → At → Option ArrayLength → Scope → ℕ → Option TypedLength
param_length false at length scope calls = None
param_length true at length scope calls = typed_array_length at None scope calls length

-- main's array parameters own their elements; that of another function names the array that is passed
abbrev pub param_shape : Bool → Option ArrayLength → Option TypedLength → Shape
param_shape is_main None l = Value
param_shape true (Some length) l = shape_of l
param_shape false (Some length) l = Passed

-- a length that counts no elements
abbrev pub bad_length_faults : At → Option ℕ → List Fault
bad_length_faults at None = fault BadLength at
bad_length_faults at (Some count) = []

-- the calls and faults of a parameter's length, which adds no elements
abbrev pub check_length : At → Option TypedLength → Part
check_length at None scope n = nothing_added
check_length at (Some l) scope n = record nothing_added {
  calls = l.calls;
  faults =
      bad_length_faults at l.count ++ l.faults;
}

-- the parameters of a definition are variables; those of a prototype are only tested
abbrev pub declare_param : Bool → At → List ℕ → Variable → Option TypedLength → Part
declare_param false at name v l = check_length at l
declare_param true at name v l = add_length at l then add_variable [] at name v

-- parameter `number`, counted from 1, of a function; the flags tell whether it is main, and whether it is
-- defined
abbrev pub add_param : Bool → Bool → At → ℕ → Parameter → Part
add_param is_main defined function_at number p scope n =
    let at = position_of_param function_at p in
    let t = type_named p.type_name in
    let l = param_length is_main at p.length scope n.calls in
    (declare_param defined at (name_of_param p.name)
    (record { t = unwrap_or t I32; shape = param_shape is_main p.length l }) l
    then (λ scope n. faults_added (void_faults t at ++ limit_faults parameter_limit number at
    ++ tag_faults scope (tag_of (words_of p.type_name))))) scope n

-- the parameters from this number on, counted from 1
abbrev pub add_params : Bool → Bool → At → ℕ → List Parameter → Part
add_params is_main defined at number [] = nothing
add_params is_main defined at number (p ∷ ps) =
    add_param is_main defined at number p then add_params is_main defined at (number + 1) ps

-- FUNCTIONS AND FILES

-- the variable of a declared entity, if it is one
abbrev pub var_in : Entity → List VarId
var_in (entity.Variable o) = o.var ∷ []
var_in (entity.Constant z) = []
var_in entity.Tag = []

-- the numbers of the variables among these entries
abbrev pub vars_of : List Entry → List VarId
vars_of = flat_map (λ (e : Entry). var_in e.entity)

-- n variables from this number on
abbrev pub vars_from : ℕ → ℕ → List VarId
vars_from low count = map (λ n. record { 0 = n }) (range_with_len low count)

-- what a part of the file adds: what all parts of the text add, and functions
pub record FileAdded : Type 0 where
  pub added : Added
  pub functions : List FunctionTree

-- the parts of a body, none for a prototype
abbrev pub body_parts : FunctionEnd → List Part
body_parts (end.Body b) = parts_of_block b
body_parts (end.Prototype semicolon) = []

-- the scope of a function's parameters and of its outermost block
abbrev pub function_scope : Option CType → Scope → Scope
function_scope result file = record (inner file) { result = result }

-- the tree of a function
abbrev pub function_tree : Before → Option CType → Added → Added → FunctionTree
function_tree n result params body = record {
  result = result;
  params = vars_of params.entries;
  locals = vars_from (n.variables + length params.variables) (length body.variables);
  body = body.stmts;
}

-- what is declared in a function is not known after it
abbrev pub add_function : At → Signature → List Parameter → FunctionEnd → Scope → List Signature → Before →
    FileAdded
add_function at s ps e file earlier n =
    let inside = function_scope s.result file in
    let params = add_params (is_main_name s.name) s.is_definition at 1 ps inside n in
    let body = in_order (body_parts e) (knowing params.entries inside) (behind n params) in
    record {
      added = record (faults_added (signature_faults file earlier s at) and params and body) {
        stmts =
            [];
        entries = [];
      };
      functions = cond s.is_definition (function_tree n s.result params body ∷ []) [];
    }

-- what variables or a function add
abbrev pub add_external_form : Option CType → ExternalForm → Option Signature → Scope → List Signature →
    Before → FileAdded
add_external_form t (form.Variables declarators semicolon) s file earlier n =
    record { added = add_optional_declarators earlier t declarators file n; functions = [] }
add_external_form t (form.Function name opener params closer e) None file earlier n =
    record { added = nothing_added; functions = [] }
add_external_form t (form.Function name opener params closer e) (Some s) file earlier n =
    add_function name.at s (params_of params) e file earlier n

-- what a declaration of the file adds: its words, then variables or a function
abbrev pub add_external : External → Option Signature → Scope → List Signature → Before → FileAdded
add_external x s file earlier n =
    let w = add_specifiers earlier x.specifiers file n in
    let a = add_external_form (type_specified x.specifiers) x.form s (knowing w.entries file) earlier (behind n w) in
    record { added = w and a.added; functions = a.functions }

-- what two declarations of the file add together
abbrev pub with_functions : FileAdded → FileAdded → FileAdded
with_functions a b = record { added = a.added and b.added; functions = a.functions ++ b.functions }

-- external declarations in the file's scope, after this number of definitions and these declarations of
-- functions
abbrev pub add_externals : ℕ → List External → Scope → List Signature → Before → FileAdded
add_externals definitions [] file earlier n = record { added = nothing_added; functions = [] }
add_externals definitions (x ∷ xs) file earlier n =
    let s = signature_of definitions x in
    let a = add_external x s file earlier n in
    with_functions a (add_externals (definitions + definitions_of s) xs
    (knowing a.added.entries file) (earlier ++ with_signature s []) (behind n a.added))

-- all functions of the file are known from its start
abbrev pub file_scope : List External → Scope
file_scope xs = record { functions = signatures xs; known = []; depth = 0; exits = no_exits; result = None }

-- the counts at the start of a file
abbrev pub no_parts : Before
no_parts = record { variables = 0; constants = 0; statements = 0; calls = 0; elements = 0 }

-- what a file adds
abbrev pub file_of : List External → FileAdded
file_of xs = add_externals 0 xs (file_scope xs) [] no_parts

-- ALL FAULTS of a file, and its typed program with this function as main

-- all faults of a file
unfoldable pub faults_of : List External → List Fault
faults_of xs = (file_of xs).added.faults

-- the typed program of a file, with this function as `main`
abbrev pub program_of : FileAdded → FnId → ProgramTree
program_of f m = record {
  variables = f.added.variables;
  globals = vars_of f.added.entries;
  inits = f.added.stmts;
  functions = f.functions;
  main = m;
  statements = f.added.statements;
}

-- the function that a run begins with, if the file defines it
abbrev pub main_of : List External → Option FnId
main_of xs = option_map (λ (s : Signature). s.function) (definition_in (signatures xs) main_name)

-- the typed program of a file, None without `main`
unfoldable pub typed_of : List External → Option ProgramTree
typed_of xs = option_map (program_of (file_of xs)) (main_of xs)

-- THE ANSWER of typing: the typed program if there is no fault; else the first fault; NoMain if a main is all
-- that is missing

-- the first fault is this one, at this position
abbrev pub FirstFault : List Fault → Cause → At → Type 0
FirstFault faults cause at = IsFirst faults (record { at = at; cause = cause })

-- the answer is right: the typed program of a file without faults, or the first fault
abbrev pub Checked : List External → Result Program TypeError → Type 0
Checked xs (Ok p) = (faults_of xs ≡ []) × (typed_of xs ≡ Some (tree_of p))
Checked xs (Err (error.UnknownName at)) = FirstFault (faults_of xs) UnknownName at
Checked xs (Err (error.Twice at)) = FirstFault (faults_of xs) Twice at
Checked xs (Err (error.WrongKind at)) = FirstFault (faults_of xs) WrongKind at
Checked xs (Err (error.WrongCount at)) = FirstFault (faults_of xs) WrongCount at
Checked xs (Err error.NoMain) = (faults_of xs ≡ []) × (typed_of xs ≡ None)
Checked xs (Err (error.BadLength at)) = FirstFault (faults_of xs) BadLength at
Checked xs (Err (error.BreakOutside at)) = FirstFault (faults_of xs) BreakOutside at
Checked xs (Err (error.CallInIndex at)) = FirstFault (faults_of xs) CallInIndex at
Checked xs (Err (error.Limit at)) = FirstFault (faults_of xs) Limit at
Checked xs (Err error.Memory) = Unit {0}
