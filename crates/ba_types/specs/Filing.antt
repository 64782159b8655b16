-- What type checking has made of a file so far, and what a part of the file adds to it.

use Rattle.std.specs.Prelude.{◌≡◌, ℕ, Bool, false, not, Option, None, Some, Result, Ok, Err, List, [], ◌++◌, filter, is_some, map, unwrap_or}
use Rattle.std.specs.Global.{Vec}
use Rattle.ba_numbers.specs.declared.ids.At.{At}
use Rattle.ba_numbers.specs.declared.numbers.CType.{CType}
use Rattle.ba_numbers.specs.declared.numbers.CType.TheVariants.{I32}
use Rattle.ba_trees.specs.declared.tree.declarations.NextParameter.{NextParameter}
use Rattle.ba_trees.specs.declared.tree.declarations.Parameter.{Parameter}
use Rattle.ba_trees.specs.declared.tree.statements.External.{External}
use Rattle.ba_trees.specs.declared.tree.statements.FunctionEnd.{FunctionEnd}
use Rattle.ba_tree.specs.declared.tree.Function.{Function}
use Rattle.ba_tree.specs.declared.tree.Parts.{Parts}
use Rattle.ba_tree.specs.declared.tree.Stmt.{Stmt}
use Rattle.ba_statements.specs.Adding.{State, state_with, before_of, extended, no_work, with_added}
use Rattle.ba_typing.specs.Declarations.{Added, Before, Part, ◌and◌, behind, in_order}
use Rattle.ba_typing.specs.Files.{FileAdded, FirstFault, add_externals, add_params, body_parts, declare_param, faults_of, file_of, function_tree, main_of, name_of_param, param_length, param_shape, typed_of, vars_of}
use Rattle.ba_typing.specs.Names.{Scope, knowing, same_name}
use Rattle.ba_tree.specs.Trees.{FunctionTree, StmtTree, tree_of_function, tree_of_parts, tree_of_stmt}
use Rattle.ba_statements.specs.declared.declarations.Length.{Length}
use Rattle.ba_typing.specs.declared.error.TypeError.{TypeError}
use Rattle.ba_typing.specs.declared.error.TypeError.TheVariants as error
use Rattle.ba_typing.specs.declared.fault.Cause.{Cause}
use Rattle.ba_typing.specs.declared.fault.Cause.TheVariants.{UnknownName, Twice, WrongKind, WrongCount, BadLength, BreakOutside, CallInIndex, Limit}
use Rattle.ba_types.specs.declared.parameters.Owner.{Owner}
use Rattle.ba_types.specs.declared.files.TypedFile.{TypedFile}
use Rattle.ba_typing.specs.declared.meanings.Signature.{Signature}
use Rattle.ba_statements.specs.declared.work.Work.{Work}

-- DECLARATIONS OF FUNCTIONS

-- the declarations of this name
abbrev pub same_named : List ℕ → List Signature → List Signature
same_named name = filter (λ (s : Signature). same_name s.name name)

-- PARAMETERS

-- the parameters after the first one
abbrev pub next_params : List NextParameter → List Parameter
next_params = map (λ (n : NextParameter). n.parameter)

-- a length that counts no elements
abbrev pub is_bad : Option Length → Bool
is_bad None = false
is_bad (Some l) = not (is_some l.count)

-- a parameter at this position and of this type, without its faults; the flags tell whether its function is
-- main, and whether it is defined
abbrev pub declaring_param : Bool → Bool → At → Option CType → Parameter → Part
declaring_param is_main defined at t p scope n =
    let l = param_length is_main at p.length scope n.calls in
    declare_param defined at (name_of_param p.name)
    (record { t = unwrap_or t I32; shape = param_shape is_main p.length l }) l scope n

-- FUNCTIONS

-- the tree is that of a function with these parameters and this body, which were added
pub record IsFunction (n : Before) (result : Option CType) (params body : Added) (scope later : Scope)
    (w u : Work)
    (f : Function) : Type 0 where
  pub tree : tree_of_function f ≡ function_tree n result params body
  pub knows : later ≡ knowing (params.entries ++ body.entries) scope
  pub works : u ≡ with_added w (params and body)

-- the answer is the tree of a function with these parameters and this body, in the function's own scope
abbrev pub GivesFunction : Owner → Option CType → List Parameter → FunctionEnd → Scope → Work → Scope →
    Work → Function
    → Type 0
GivesFunction owner result ps e scope w later u f =
    let params = add_params owner.is_main owner.is_defined owner.at 1 ps scope (before_of w) in
    IsFunction (before_of w) result params
    (in_order (body_parts e) (knowing params.entries scope) (behind (before_of w) params)) scope later w u f

-- FILES

-- the state between two parts of a file, and the functions that are defined before it
pub record FileState : Type 0 where
  pub state : State
  pub functions : List FunctionTree

-- the state of a file with these initialisers and functions so far
abbrev pub file_state_with : Scope → Work → List StmtTree → Vec Function → FileState
file_state_with scope work inits functions =
    record { state = state_with scope work inits; functions = map tree_of_function functions.items }

-- the state of the code, with the trees of its initialisers and functions
abbrev pub file_state : Scope → Work → Vec Stmt → Vec Function → FileState
file_state scope work inits = file_state_with scope work (map tree_of_stmt inits.items)

-- the state after what a part of the file adds
abbrev pub with_part : FileState → FileAdded → FileState
with_part s a = record { state = extended s.state a.added; functions = s.functions ++ a.functions }

-- the state after parts of a file, which follow this number of definitions and these declarations of
-- functions
unfoldable pub behind_externals : ℕ → List External → List Signature → FileState → FileState
behind_externals definitions xs earlier s =
    with_part s (add_externals definitions xs s.state.scope earlier (before_of s.state.work))

-- the answer is what is said of the file
pub record IsTyped (f : TypedFile) (xs : List External) : Type 0 where
  pub main : f.main ≡ main_of xs
  pub globals : f.globals ≡ vars_of (file_of xs).added.entries
  pub inits : map tree_of_stmt f.inits ≡ (file_of xs).added.stmts
  pub functions : map tree_of_function f.functions ≡ (file_of xs).functions
  pub work : f.work ≡ with_added no_work (file_of xs).added

-- THE ANSWER for a file, as parts that are not yet known to be a program

-- a fault as an answer
abbrev pub error_of : Cause → At → TypeError
error_of UnknownName at = error.UnknownName at
error_of Twice at = error.Twice at
error_of WrongKind at = error.WrongKind at
error_of WrongCount at = error.WrongCount at
error_of BadLength at = error.BadLength at
error_of BreakOutside at = error.BreakOutside at
error_of CallInIndex at = error.CallInIndex at
error_of Limit at = error.Limit at

-- the answer is right, of a program whose parts are not yet known to fit together
abbrev pub CheckedParts : List External → Result Parts TypeError → Type 0
CheckedParts xs (Ok p) = (faults_of xs ≡ []) × (typed_of xs ≡ Some (tree_of_parts p))
CheckedParts xs (Err (error.UnknownName at)) = FirstFault (faults_of xs) UnknownName at
CheckedParts xs (Err (error.Twice at)) = FirstFault (faults_of xs) Twice at
CheckedParts xs (Err (error.WrongKind at)) = FirstFault (faults_of xs) WrongKind at
CheckedParts xs (Err (error.WrongCount at)) = FirstFault (faults_of xs) WrongCount at
CheckedParts xs (Err error.NoMain) = (faults_of xs ≡ []) × (typed_of xs ≡ None)
CheckedParts xs (Err (error.BadLength at)) = FirstFault (faults_of xs) BadLength at
CheckedParts xs (Err (error.BreakOutside at)) = FirstFault (faults_of xs) BreakOutside at
CheckedParts xs (Err (error.CallInIndex at)) = FirstFault (faults_of xs) CallInIndex at
CheckedParts xs (Err (error.Limit at)) = FirstFault (faults_of xs) Limit at
CheckedParts xs (Err error.Memory) = Unit {0}
