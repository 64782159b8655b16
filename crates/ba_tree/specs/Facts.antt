-- What holds of each program: the constraints of C (C90 6.1.2, 6.3, 6.5 to 6.7) and the limits, as typing has
-- tested them.

use Rattle.std.specs.Prelude.{ℕ, ℤ, ◌+◌, ◌-◌, nat_le, nat_lt, Bool, true, false, not, ◌&&◌, ◌==◌, cond, max, Option, None, Some, option_map, option_and_then, unwrap_or, suc, List, [], ◌∷◌, ◌++◌, map, flat_map, length, slice_get, slice_index_or, sum_by}
use Rattle.std.specs.Global.{Box}
use Rattle.std.specs.List.{list_all, list_any}
use Rattle.std.specs.Option.{is_some}
use Rattle.std.specs.Ordering.{int_eq}
use Rattle.ba_numbers.specs.Numbers.{is_in}
use Rattle.ba_numbers.specs.Types.{is_promoted, same_type, shifts, type_of_binary, type_of_unary}
use Rattle.ba_numbers.specs.declared.ids.CallId.{CallId}
use Rattle.ba_numbers.specs.declared.ids.FnId.{FnId}
use Rattle.ba_numbers.specs.declared.ids.StmtId.{StmtId}
use Rattle.ba_numbers.specs.declared.ids.VarId.{VarId}
use Rattle.ba_numbers.specs.declared.numbers.BinOp.{BinOp}
use Rattle.ba_numbers.specs.declared.numbers.CType.{CType}
use Rattle.ba_numbers.specs.declared.numbers.CType.TheVariants.{I32}
use Rattle.ba_tree.specs.declared.tree.Arg.TheOpen.{Arg-F, Expr-F}
use Rattle.ba_tree.specs.declared.tree.Arg.TheFolds.{fold-Arg, fold-Expr}
use Rattle.ba_tree.specs.declared.tree.Arg.{Arg}
use Rattle.ba_tree.specs.declared.tree.Expr.{Expr}
use Rattle.ba_tree.specs.declared.tree.Function.{Function}
use Rattle.ba_tree.specs.declared.tree.Parts.{Parts}
use Rattle.ba_tree.specs.declared.tree.Shape.{Shape}
use Rattle.ba_tree.specs.declared.tree.Shape.TheVariants.{Value, Array, Passed}
use Rattle.ba_tree.specs.declared.tree.Start.{Start}
use Rattle.ba_tree.specs.declared.tree.Stmt.{Stmt}
use Rattle.ba_tree.specs.declared.tree.Stmt.TheOpen.{Stmt-F}
use Rattle.ba_tree.specs.declared.tree.Stmt.TheFolds.{fold-Stmt}
use Rattle.ba_tree.specs.declared.tree.StmtInfo.{StmtInfo}
use Rattle.ba_tree.specs.declared.tree.StmtKind.{StmtKind}
use Rattle.ba_tree.specs.declared.tree.StmtKind.TheVariants as kind
use Rattle.ba_tree.specs.declared.tree.Variable.{Variable}

-- LISTS

-- no number comes twice
abbrev pub are_distinct : List ℕ → Bool
are_distinct [] = true
are_distinct (n ∷ ns) = not (list_any (λ m. m == n) ns) && are_distinct ns

-- each of the `count` numbers from `first` on occurs exactly once, and no other: all are in range, none
-- repeats, and they are as many
abbrev pub has_each_once : ℕ → ℕ → List ℕ → Bool
has_each_once first count ns =
    are_distinct ns && list_all (λ n. nat_le first n && nat_lt n (first + count)) ns && (length ns == count)

-- the greatest number, 0 of none
abbrev pub greatest : List ℕ → ℕ
greatest [] = 0
greatest (n ∷ ns) = max n (greatest ns)

-- an optional value is there and passes the test
abbrev pub holds : {A : Type 0} → (A → Bool) → Option A → Bool
holds test None = false
holds test (Some a) = test a

-- the variable is in the list
abbrev pub has_variable : List VarId → VarId → Bool
has_variable vs v = list_any (λ (w : VarId). w.0 == v.0) vs

-- OPERATORS

-- a binary operator that works in the type t: its right operand has the type t; the count of a shift has any
-- promoted type
abbrev pub fits_right : BinOp → CType → CType → Bool
fits_right op t right = cond (shifts op) (is_promoted right) (same_type right t)

-- both are the same kind of statement
abbrev pub same_kind : StmtKind → StmtKind → Bool
same_kind kind.Initialiser kind.Initialiser = true
same_kind kind.Assignment kind.Assignment = true
same_kind kind.Store kind.Store = true
same_kind kind.Condition kind.Condition = true
same_kind kind.Switch kind.Switch = true
same_kind kind.Return kind.Return = true
same_kind kind.Call kind.Call = true
same_kind kind.Assert kind.Assert = true
same_kind _ _ = false

-- VARIABLES

-- the shape is that of a single value
abbrev pub is_value_shape : Shape → Bool
is_value_shape Value = true
is_value_shape _ = false

-- an array that owns its elements, and an array parameter
abbrev pub is_array_shape : Shape → Bool
is_array_shape Value = false
is_array_shape _ = true

-- the shape is that of an array that a call passes
abbrev pub is_passed_shape : Shape → Bool
is_passed_shape Passed = true
is_passed_shape _ = false

-- how many elements a variable owns
abbrev pub own_elements : Shape → ℕ
own_elements Value = 0
own_elements (Array n) = n
own_elements Passed = 0

-- an array that owns 1 to 256 elements
abbrev pub is_own_array : Shape → Bool
is_own_array (Array n) = true
is_own_array _ = false

-- an array has 1 to 256 elements
abbrev pub is_array_length : Shape → Bool
is_array_length (Array n) = nat_le 1 n && nat_le n 256
is_array_length _ = true

-- the shape of a variable, None if there is no such variable
abbrev pub shape_at : Parts → VarId → Option Shape
shape_at p v = option_map (λ (w : Variable). w.shape) (slice_get p.variables v.0)

-- the type of a variable or of the elements of an array; I32 if there is no such variable
abbrev pub type_at : Parts → VarId → CType
type_at p v = (slice_index_or p.variables v.0 (record { t = I32; shape = Value })).t

-- the variable is declared and has one value
abbrev pub is_value : Parts → VarId → Bool
is_value p v = holds is_value_shape (shape_at p v)

-- the variable is declared, and an array or an array parameter
abbrev pub is_array : Parts → VarId → Bool
is_array p v = holds is_array_shape (shape_at p v)

-- EXPRESSIONS (C90 6.3)

-- What is said of an expression: its type, its height without conversions, the variables that it names, and
-- its calls. It also says that each part meets the constraints.
pub record ExprFacts : Type 0 where
  pub t : CType
  pub height : ℕ
  pub variables : List VarId
  pub calls : List CallId
  pub is_sound : Bool

-- what is said of an argument: the array that it gives, None for a value, and the facts of it as an
-- expression
pub record ArgFacts : Type 0 where
  pub array : Option VarId
  pub given : ExprFacts

-- all these expressions are sound
abbrev pub are_sound : List ExprFacts → Bool
are_sound = list_all (λ (e : ExprFacts). e.is_sound)

-- an operator of this type over these operands; the flag is its own constraint
abbrev pub operator_facts : CType → List ExprFacts → Bool → ExprFacts
operator_facts t operands meets = record {
  t = t;
  height = 1 + greatest (map (λ (e : ExprFacts). e.height) operands);
  variables = flat_map (λ (e : ExprFacts). e.variables) operands;
  calls = flat_map (λ (e : ExprFacts). e.calls) operands;
  is_sound = meets && are_sound operands;
}

-- the facts of an expression that names this variable too
abbrev pub with_variable : VarId → ExprFacts → ExprFacts
with_variable v e = record e { variables = v ∷ e.variables }

-- the facts of an expression that makes this call too
abbrev pub with_call : CallId → ExprFacts → ExprFacts
with_call c e = record e { calls = c ∷ e.calls }

-- the facts of an argument, by those of the expression in it
abbrev pub arg_facts_step : Parts → Arg-F ArgFacts ExprFacts → ArgFacts
arg_facts_step p (Arg-F.Value value) = record { array = None; given = value }
arg_facts_step p (Arg-F.Array array) = record {
  array = Some array;
  given = with_variable array (operator_facts (type_at p array) [] (is_array p array));
}

-- CALLS (C90 6.3.2.2)

-- a value of the parameter's type, or an array of its element type
abbrev pub fits_parameter : Parts → VarId → ArgFacts → Bool
fits_parameter p v arg = same_type arg.given.t (type_at p v)
    && holds (cond (is_some arg.array) is_passed_shape is_value_shape) (shape_at p v)

-- there is one argument for each parameter, and each fits it
abbrev pub fits_parameters : Parts → List VarId → List ArgFacts → Bool
fits_parameters p [] [] = true
fits_parameters p [] (arg ∷ args) = false
fits_parameters p (v ∷ vs) [] = false
fits_parameters p (v ∷ vs) (arg ∷ args) = fits_parameter p v arg && fits_parameters p vs args

-- a declared function other than main, with arguments that fit its parameters in number, shape and type
abbrev pub is_call : Parts → FnId → List ArgFacts → Bool
is_call p f args = not (f.0 == p.main.0)
    && holds (λ (g : Function). fits_parameters p g.params args) (slice_get p.functions f.0)

-- the type that a function returns, None if it returns nothing or does not exist
abbrev pub result_at : Parts → FnId → Option CType
result_at p f = option_and_then (λ (g : Function). g.result) (slice_get p.functions f.0)

-- the facts of the expressions in arguments
abbrev pub givens : List ArgFacts → List ExprFacts
givens = map (λ (arg : ArgFacts). arg.given)

-- the facts of an expression, by those of its parts
abbrev pub expr_facts_step : Parts → Expr-F ArgFacts ExprFacts → ExprFacts
expr_facts_step p (Expr-F.Const t value) = operator_facts t [] (is_in t value)
expr_facts_step p (Expr-F.Var var) = with_variable var (operator_facts (type_at p var) [] (is_value p var))
expr_facts_step p (Expr-F.Element array index) = with_variable array
    (operator_facts (type_at p array) (index.value ∷ []) (is_array p array && is_promoted index.value.t))
expr_facts_step p (Expr-F.Unary op t a) =
    operator_facts (type_of_unary op t) (a.value ∷ []) (is_promoted t && same_type a.value.t t)
expr_facts_step p (Expr-F.Binary op t a b) = operator_facts (type_of_binary op t) (a.value ∷ b.value ∷ [])
    (is_promoted t && same_type a.value.t t && fits_right op t b.value.t)
expr_facts_step p (Expr-F.AndAlso a b) = operator_facts I32 (a.value ∷ b.value ∷ []) true
expr_facts_step p (Expr-F.OrElse a b) = operator_facts I32 (a.value ∷ b.value ∷ []) true
expr_facts_step p (Expr-F.Select t when a b) = operator_facts t (when.value ∷ a.value ∷ b.value ∷ [])
    (is_promoted t && same_type a.value.t t && same_type b.value.t t)
expr_facts_step p (Expr-F.Convert t a) = record a.value { t = t }
expr_facts_step p (Expr-F.Call call function args) = with_call call
    (operator_facts (unwrap_or (result_at p function) I32) (givens args.items)
    (is_call p function args.items && is_some (result_at p function)))

-- the facts of an expression
unfoldable pub expr_facts : Parts → Expr → ExprFacts
expr_facts p = fold-Expr ArgFacts ExprFacts (arg_facts_step p) (expr_facts_step p)

-- the facts of an argument
unfoldable pub arg_facts : Parts → Arg → ArgFacts
arg_facts p = fold-Arg ArgFacts ExprFacts (arg_facts_step p) (expr_facts_step p)

-- STATEMENTS (C90 6.6)

-- What is said of a statement:
-- - how deep statements nest in it
-- - the statement numbers in it, each with its kind
-- - the variables that it names, and its calls
-- - the variable that it initialises, if it is an initialiser
-- - whether it may be in the head of a `for`
-- - whether each `break` in it has a loop or `switch` around it, and each `continue` a loop
-- - that each part of it meets the constraints
pub record StmtFacts : Type 0 where
  pub depth : ℕ
  pub numbers : List (StmtId × StmtKind)
  pub variables : List VarId
  pub calls : List CallId
  pub initialises : Option VarId
  pub is_simple : Bool
  pub breaks : Bool
  pub continues : Bool
  pub is_sound : Bool

-- a whole expression, which is within the limit on heights
abbrev pub is_whole : ExprFacts → Bool
is_whole e = e.is_sound && nat_le e.height 100

-- a value that a target of this type is given
abbrev pub fits_type : CType → ExprFacts → Bool
fits_type t e = same_type e.t t

-- a statement of these expressions that holds no other statement; the flag is its own constraint
abbrev pub leaf_facts : List (StmtId × StmtKind) → List ExprFacts → Bool → StmtFacts
leaf_facts numbers es meets = record {
  depth = 1;
  numbers = numbers;
  variables = flat_map (λ (e : ExprFacts). e.variables) es;
  calls = flat_map (λ (e : ExprFacts). e.calls) es;
  initialises = None;
  is_simple = false;
  breaks = false;
  continues = false;
  is_sound = meets && list_all is_whole es;
}

-- a statement that holds these others after its own parts
abbrev pub around : StmtFacts → List StmtFacts → StmtFacts
around own parts = record own {
  depth = 1 + greatest (map (λ (s : StmtFacts). s.depth) parts);
  numbers = own.numbers ++ flat_map (λ (s : StmtFacts). s.numbers) parts;
  variables = own.variables ++ flat_map (λ (s : StmtFacts). s.variables) parts;
  calls = own.calls ++ flat_map (λ (s : StmtFacts). s.calls) parts;
  breaks = list_any (λ (s : StmtFacts). s.breaks) parts;
  continues = list_any (λ (s : StmtFacts). s.continues) parts;
  is_sound = own.is_sound && list_all (λ (s : StmtFacts). s.is_sound) parts;
}

-- a loop takes each `break` and `continue` of its body (C90 6.6.6.2, 6.6.6.3)
abbrev pub as_loop : StmtFacts → StmtFacts
as_loop s = record s { breaks = false; continues = false }

-- a `switch` takes each `break` of its body, and no `continue`
abbrev pub as_switch : StmtFacts → StmtFacts
as_switch s = record s { breaks = false }

-- the facts of a statement that is simple (C90 6.6.3), so may stand in the head of a `for`
abbrev pub as_simple : StmtFacts → StmtFacts
as_simple s = record s { is_simple = true }

-- a statement that gives a variable or an array its values
abbrev pub naming : VarId → StmtFacts → StmtFacts
naming v s = as_simple (record s { variables = v ∷ s.variables })

-- the facts of a statement that initialises this variable, and names it
abbrev pub initialising : VarId → StmtFacts → StmtFacts
initialising v s = record (naming v s) { initialises = Some v }

-- a call statement
abbrev pub calling : CallId → StmtFacts → StmtFacts
calling c s = as_simple (record s { calls = c ∷ s.calls })

-- the list of one numbered statement
abbrev pub numbered : StmtId → StmtKind → List (StmtId × StmtKind)
numbered stmt k = (stmt, k) ∷ []

-- the facts of an `else` branch, if there is one
abbrev pub optional_facts : Option (Box StmtFacts) → List StmtFacts
optional_facts None = []
optional_facts (Some s) = s.value ∷ []

-- there are at most as many values as elements
abbrev pub fits_array : Parts → VarId → List ExprFacts → Bool
fits_array p array values = nat_le (length values) (own_elements (unwrap_or (shape_at p array) Value))
    && list_all (fits_type (type_at p array)) values

-- the parts of a `for` head: declarations, initialisers, assignments, stores and calls
abbrev pub are_simple : List StmtFacts → Bool
are_simple = list_all (λ (s : StmtFacts). s.is_simple)

-- LABELS (C90 6.6.4.2)

-- no value comes twice
abbrev pub values_differ : List ℤ → Bool
values_differ [] = true
values_differ (z ∷ zs) = not (list_any (λ y. int_eq y z) zs) && values_differ zs

-- a label of a type, in a body of so many statements
abbrev pub is_start : CType → ℕ → Start → Bool
is_start t count start = is_in t start.value && nat_le start.at count

-- the `case` labels and the `default` of a body of so many statements
abbrev pub are_labels : CType → ℕ → List Start → Option ℕ → Bool
are_labels t count starts other = values_differ (map (λ (start : Start). start.value) starts)
    && list_all (is_start t count) starts && nat_le (unwrap_or other 0) count

-- the facts of a statement in this function
abbrev pub stmt_facts_step : Parts → Function → Stmt-F StmtFacts → StmtFacts
stmt_facts_step p f (Stmt-F.Block body) = around (leaf_facts [] [] true) body.items
stmt_facts_step p f (Stmt-F.Declare var) = naming var (leaf_facts [] [] (has_variable f.locals var))
stmt_facts_step p f (Stmt-F.Init stmt var value) = let e = expr_facts p value in initialising var
    (leaf_facts (numbered stmt kind.Initialiser) (e ∷ []) (is_value p var && fits_type (type_at p var) e))
stmt_facts_step p f (Stmt-F.InitArray stmt array values) = let es = map (expr_facts p) values.items in initialising array
    (leaf_facts (numbered stmt kind.Initialiser) es (holds is_own_array (shape_at p array) && fits_array p array es))
stmt_facts_step p f (Stmt-F.Assign stmt var value) = let e = expr_facts p value in naming var
    (leaf_facts (numbered stmt kind.Assignment) (e ∷ []) (is_value p var && fits_type (type_at p var) e))
stmt_facts_step p f (Stmt-F.Store stmt array index value) = let i = expr_facts p index in let e = expr_facts p value in naming array
    (leaf_facts (numbered stmt kind.Store) (i ∷ e ∷ [])
    (is_array p array && is_promoted i.t && fits_type (type_at p array) e))
stmt_facts_step p f (Stmt-F.If stmt when a b) = around
    (leaf_facts (numbered stmt kind.Condition) (expr_facts p when ∷ []) true) (a.value ∷ optional_facts b)
stmt_facts_step p f (Stmt-F.Switch stmt t on starts other body) = let e = expr_facts p on in as_switch (around
    (leaf_facts (numbered stmt kind.Switch) (e ∷ [])
    (is_promoted t && fits_type t e && are_labels t (length body.items) starts.items other)) body.items)
stmt_facts_step p f (Stmt-F.While stmt when body) = as_loop (around
    (leaf_facts (numbered stmt kind.Condition) (expr_facts p when ∷ []) true) (body.value ∷ []))
stmt_facts_step p f (Stmt-F.DoWhile stmt when body) = as_loop (around
    (leaf_facts (numbered stmt kind.Condition) (expr_facts p when ∷ []) true) (body.value ∷ []))
stmt_facts_step p f (Stmt-F.For stmt first when step body) = as_loop (around
    (leaf_facts (numbered stmt kind.Condition) (expr_facts p when ∷ []) (are_simple first.items && are_simple step.items))
    (first.items ++ step.items ++ body.value ∷ []))
stmt_facts_step p f Stmt-F.Break = record (leaf_facts [] [] true) { breaks = true }
stmt_facts_step p f Stmt-F.Continue = record (leaf_facts [] [] true) { continues = true }
stmt_facts_step p f (Stmt-F.Return stmt value) = let e = expr_facts p value in
    leaf_facts (numbered stmt kind.Return) (e ∷ []) (holds (λ t. fits_type t e) f.result)
stmt_facts_step p f Stmt-F.ReturnNone = leaf_facts [] [] true
stmt_facts_step p f (Stmt-F.CallStmt stmt call function args) = let es = map (arg_facts p) args.items in
    calling call (leaf_facts (numbered stmt kind.Call) (givens es) (is_call p function es))
stmt_facts_step p f (Stmt-F.Print stmt args) = leaf_facts (numbered stmt kind.Call) (map (expr_facts p) args.items) true
stmt_facts_step p f (Stmt-F.Assert stmt when) = leaf_facts (numbered stmt kind.Assert) (expr_facts p when ∷ []) true

-- the facts of a statement in the body of this function
unfoldable pub stmt_facts : Parts → Function → Stmt → StmtFacts
stmt_facts p f = fold-Stmt StmtFacts (stmt_facts_step p f)

-- FUNCTIONS (C90 6.7.1)

-- a function's body, as one block
abbrev pub body_facts : Parts → Function → StmtFacts
body_facts p f = around (leaf_facts [] [] true) (map (stmt_facts p f) f.body)

-- main's array parameters own their elements; those of other functions name the arrays that calls give
abbrev pub is_parameter_shape : Bool → Shape → Bool
is_parameter_shape is_main Value = true
is_parameter_shape is_main (Array n) = is_main
is_parameter_shape is_main Passed = not is_main

-- the variable is a value, or an array of its own
abbrev pub is_own_shape : Shape → Bool
is_own_shape shape = not (is_passed_shape shape)

-- statements nest at most 100 deep in the body, which counts as one level
abbrev pub is_function : Parts → Bool → Function → Bool
is_function p is_main f = nat_le (length f.params) 32
    && list_all (λ v. holds (is_parameter_shape is_main) (shape_at p v)) f.params
    && list_all (λ v. holds is_own_shape (shape_at p v)) f.locals
    && (body_facts p f).is_sound && nat_le (body_facts p f).depth 101
    && not (body_facts p f).breaks && not (body_facts p f).continues
    && list_all (has_variable (p.globals ++ f.params ++ f.locals)) (body_facts p f).variables

-- the functions from this number on
abbrev pub are_functions : Parts → ℕ → List Function → Bool
are_functions p k [] = true
are_functions p k (f ∷ fs) = is_function p (k == p.main.0) f && are_functions p (suc k) fs

-- GLOBALS (C90 6.5.7): an initialiser is constant

-- a function without result, parameters and body, around the initialisers of globals
abbrev pub no_function : Function
no_function = record { result = None; params = []; locals = []; body = [] }

-- the facts of the initialisers of globals
abbrev pub init_facts : Parts → List StmtFacts
init_facts p = map (stmt_facts p no_function) p.inits

-- a statement initialises a global, and names no other variable and no call
abbrev pub is_global_initialiser : Parts → StmtFacts → Bool
is_global_initialiser p s = s.is_sound && holds (has_variable p.globals) s.initialises
    && (length s.variables == 1) && (length s.calls == 0)

-- THE WHOLE PROGRAM

-- a variable's array, if it has one, has 1 to 256 elements
abbrev pub is_own_length : Variable → Bool
is_own_length v = is_array_length v.shape

-- all statements: those that initialise globals, and the functions' bodies
abbrev pub all_facts : Parts → List StmtFacts
all_facts p = init_facts p ++ map (body_facts p) p.functions

-- the numbers of all statements, each with its kind, in the order of the tree
abbrev pub all_numbers : Parts → List (StmtId × StmtKind)
all_numbers p = flat_map (λ (s : StmtFacts). s.numbers) (all_facts p)

-- the numbers of all calls, in the order of the tree
abbrev pub all_calls : Parts → List CallId
all_calls p = flat_map (λ (s : StmtFacts). s.calls) (all_facts p)

-- all variables, as globals, or as parameters and other variables of a function
abbrev pub all_owned : Parts → List VarId
all_owned p = p.globals ++ flat_map (λ (f : Function). f.params ++ f.locals) p.functions

-- the statement of this number has this kind
abbrev pub has_kind : Parts → StmtId × StmtKind → Bool
has_kind p (stmt, k) = holds (λ (info : StmtInfo). same_kind info.kind k) (slice_get p.statements (stmt.0 - 1))

-- at most 4,000 statements, 100 functions and 2,000 variables, with 1,024 elements of arrays in all
abbrev pub is_within_limits : Parts → Bool
is_within_limits p = nat_le (length p.statements) 4000 && nat_le (length p.functions) 100
    && nat_le (length p.variables) 2000 && nat_le (sum_by (λ (v : Variable). own_elements v.shape) p.variables) 1024

-- The parts make a program.
unfoldable pub is_program : Parts → Bool
is_program p = is_within_limits p && nat_lt p.main.0 (length p.functions)
    && list_all is_own_length p.variables
    && has_each_once 0 (length p.variables) (map (λ (v : VarId). v.0) (all_owned p))
    && list_all (λ v. holds is_own_shape (shape_at p v)) p.globals
    && list_all (is_global_initialiser p) (init_facts p)
    && are_functions p 0 p.functions
    && has_each_once 1 (length p.statements) (map (λ (n : StmtId × StmtKind). n.0.0) (all_numbers p))
    && list_all (has_kind p) (all_numbers p)
    && are_distinct (map (λ (c : CallId). c.0) (all_calls p))
