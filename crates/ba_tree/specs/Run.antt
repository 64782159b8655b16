-- Calls with their frames, runs of a program, and their outcomes.

use Rattle.std.specs.Prelude.{nat_le, ℕ, ◌-◌, suc, zero, ℤ, pos, Bool, true, false, ◌&&◌, ◌==◌, None, List, [], ◌∷◌, ◌++◌, length, replicate, take, slice_index_or, slice_set, Ok, Err}
use Rattle.std.specs.List.{list_all}
use Rattle.ba_numbers.specs.Numbers.{is_in}
use Rattle.ba_numbers.specs.declared.ids.FnId.{FnId}
use Rattle.ba_numbers.specs.declared.ids.VarId.{VarId}
use Rattle.ba_numbers.specs.declared.numbers.CType.{CType}
use Rattle.ba_choices.specs.declared.Choice.{Choice}
use Rattle.ba_tree.specs.Acts.{then_do, after_part}
use Rattle.ba_tree.specs.State.{State, Act, Ending, Execution, value_at, with_value, location_of, elements_of, with_elements}
use Rattle.ba_tree.specs.Meaning.{Calls, Context, variable_of, exec_all, elements_with}
use Rattle.ba_tree.specs.declared.run.Allowed.{Allowed}
use Rattle.ba_tree.specs.declared.run.Allowed.TheVariants.{Statements}
use Rattle.ba_tree.specs.declared.run.Argument.{Argument}
use Rattle.ba_tree.specs.declared.run.Bounds.{Bounds}
use Rattle.ba_tree.specs.declared.run.Exit.{Exit}
use Rattle.ba_tree.specs.declared.run.Exit.TheVariants.{Break, Continue, Return}
use Rattle.ba_tree.specs.declared.run.Flow.{Flow}
use Rattle.ba_tree.specs.declared.run.Flow.TheVariants.{Next, Leaves}
use Rattle.ba_tree.specs.declared.run.Halt.{Halt}
use Rattle.ba_tree.specs.declared.run.Halt.TheVariants as halt
use Rattle.ba_tree.specs.declared.run.Input.{Input}
use Rattle.ba_tree.specs.declared.run.Outcome.{Outcome}
use Rattle.ba_tree.specs.declared.run.Outcome.TheVariants.{Done, AssertFails, Trap, Beyond, WrongChoices}
use Rattle.ba_tree.specs.declared.tree.Function.{Function}
use Rattle.ba_tree.specs.declared.tree.Program.{Program}
use Rattle.ba_tree.specs.declared.tree.Shape.{Shape}
use Rattle.ba_tree.specs.declared.tree.Shape.TheVariants.{Value, Array, Passed}
use Rattle.ba_tree.specs.declared.tree.Variable.{Variable}

-- FRAMES (C90 6.3.2.2). A call sets the variables of its function, and at its end they have what they had
-- before. So the caller, which may be the same function, finds its own values again.

-- variables begin as 0; an array gets a new location after all others, with elements 0
abbrev pub begin_shape : Shape → VarId → State → State
begin_shape Value v s = with_value s v (pos 0)
begin_shape (Array n) v s = record s {
  arrays = s.arrays ++ replicate n (pos 0) ∷ [];
  locations = slice_set s.locations v.0 (length s.arrays);
}
begin_shape Passed v s = s

-- each of these variables begins
abbrev pub begin_all : Program → List VarId → State → State
begin_all p [] s = s
begin_all p (v ∷ vs) s = begin_all p vs (begin_shape (variable_of p v).shape v s)

-- a parameter has the value, or names the array, of its argument
abbrev pub bind_one : VarId → Argument → State → State
bind_one v (Argument.Value z) s = with_value s v z
bind_one v (Argument.Array location) s = record s { locations = slice_set s.locations v.0 location }

-- each parameter gets its argument
abbrev pub bind_all : List VarId → List Argument → State → State
bind_all [] args s = s
bind_all (v ∷ vs) [] s = s
bind_all (v ∷ vs) (arg ∷ args) s = bind_all vs args (bind_one v arg s)

-- the state in which a function's body begins
abbrev pub begin_frame : Program → Function → List Argument → State → State
begin_frame p f args s = begin_all p f.locals (bind_all f.params args s)

-- the variables have again what they had before the call
abbrev pub with_restored : List VarId → State → State → State
with_restored [] before s = s
with_restored (v ∷ vs) before s = with_restored vs before (record s {
  values = slice_set s.values v.0 (value_at before v);
  locations = slice_set s.locations v.0 (location_of before v);
})

-- the state after a call: the function's variables as before it, and its arrays gone
abbrev pub end_frame : Function → State → State → State
end_frame f before s =
    record (with_restored (f.params ++ f.locals) before s) { arrays = take (length before.arrays) s.arrays }

-- CALLS

-- what a function gives: the value of its `return`, or 0 if it had none
abbrev pub result_of : Flow Exit → ℤ
result_of (Leaves (Return z)) = z
result_of (Leaves Break) = pos 0
result_of (Leaves Continue) = pos 0
result_of Next = pos 0

-- a function's body in a new frame
abbrev pub call_of : Program → Function → Execution → List Argument → Act ℤ
call_of p f body args s =
    then_do (body (begin_frame p f args s)) (λ flow t. (Ok (result_of flow), end_frame f s t))

-- a function without result, parameters and body
abbrev pub no_function : Function
no_function = record { result = None; params = []; locals = []; body = [] }

-- the function of a number
abbrev pub function_of : Program → FnId → Function
function_of p f = slice_index_or p.functions f.0 no_function

-- what stays the same while the body of this function runs
abbrev pub context_in : Program → Allowed → ℕ → Function → Calls → Context
context_in p allowed turns f calls = record {
  program = p;
  allowed = allowed;
  turns = turns;
  result = f.result;
  calls = calls;
}

-- calls if n more frames may begin; the next one ends Beyond at the statement that makes it
unfoldable pub call_at : Program → Allowed → ℕ → ℕ → Calls
call_at p allowed turns zero path here f args s = (Err (halt.Beyond here), s)
call_at p allowed turns (suc frames) path here f args s = call_of p (function_of p f)
    (exec_all (context_in p allowed turns (function_of p f) (call_at p allowed turns frames)) path (function_of p f).body) args s

-- RUNS

-- the function `main`
abbrev pub main_of : Program → Function
main_of p = function_of p p.main

-- the bounds are within their limits
abbrev pub are_bounds : Bounds → Bool
are_bounds b = (nat_le 1 b.turns && nat_le b.turns 128) && (nat_le 1 b.frames && nat_le b.frames 32)

-- the context in main, whose frame is the first one, and in the initialisers of the globals
abbrev pub context_of : Program → Bounds → Allowed → Context
context_of p b allowed = context_in p allowed b.turns (main_of p) (call_at p allowed b.turns (b.frames - 1))

-- the input gives each parameter of main what it can hold: a variable one number of its type, an array one
-- number for each element
abbrev pub fits_shape : Shape → CType → List ℤ → Bool
fits_shape Value t zs = (length zs == 1) && list_all (is_in t) zs
fits_shape (Array n) t zs = (length zs == n) && list_all (is_in t) zs
fits_shape Passed t zs = false

-- as many values as the parameter takes, each in the range of its type
abbrev pub fits_variable : Variable → List ℤ → Bool
fits_variable v zs = fits_shape v.shape v.t zs

-- a list of values for each parameter, which fits it
abbrev pub fits_all : Program → List VarId → List (List ℤ) → Bool
fits_all p [] [] = true
fits_all p [] (zs ∷ given) = false
fits_all p (v ∷ vs) [] = false
fits_all p (v ∷ vs) (zs ∷ given) = fits_variable (variable_of p v) zs && fits_all p vs given

-- the input has a list of values for each parameter of `main`, which fits it
abbrev pub fits : Program → Input → Bool
fits p input = fits_all p (main_of p).params input.values

-- each parameter of main has what the input gives it
abbrev pub with_input_one : Shape → VarId → List ℤ → State → State
with_input_one Value v zs s = with_value s v (slice_index_or zs 0 (pos 0))
with_input_one (Array n) v zs s = with_elements s v (elements_with (length (elements_of s v)) zs)
with_input_one Passed v zs s = s

-- the parameters of `main` get the values of the input
abbrev pub with_input : Program → List VarId → List (List ℤ) → State → State
with_input p [] given s = s
with_input p (v ∷ vs) [] s = s
with_input p (v ∷ vs) (zs ∷ given) s = with_input p vs given (with_input_one (variable_of p v).shape v zs s)

-- all globals are 0 (C90 6.5.7), there is no frame, and no choice is used up
abbrev pub start_of : Program → List Choice → State
start_of p choices = begin_all p p.globals (record {
  values = replicate (length p.variables) (pos 0);
  arrays = [];
  locations = replicate (length p.variables) 0;
  choices = choices;
})

-- the frame of main, with the input
abbrev pub enter_main : Program → Input → State → State
enter_main p input s = with_input p (main_of p).params input.values
    (begin_all p (main_of p).locals (begin_all p (main_of p).params s))

-- the initialisers of the globals in order, and then main
unfoldable pub run_main : Context → Input → Execution
run_main x input s = then_do (exec_all x [] x.program.inits s)
    (after_part (λ s. exec_all x [] (main_of x.program).body (enter_main x.program input s)))

-- choices that are left over make the outcome wrong, however the run ended
abbrev pub if_none_left : List Choice → Outcome → Outcome
if_none_left [] outcome = outcome
if_none_left (c ∷ cs) outcome = WrongChoices

-- the outcome of a run that ended so
abbrev pub outcome_of_halt : Halt → Outcome
outcome_of_halt (halt.AssertFails stmt) = AssertFails stmt
outcome_of_halt (halt.Trap stmt) = Trap stmt
outcome_of_halt (halt.Beyond stmt) = Beyond stmt
outcome_of_halt halt.WrongChoices = WrongChoices

-- the outcome by how `main` ended: choices that are left over make it WrongChoices
abbrev pub outcome_of : Ending (Flow Exit) → Outcome
outcome_of (Ok flow, s) = if_none_left s.choices Done
outcome_of (Err h, s) = if_none_left s.choices (outcome_of_halt h)

-- The outcome of a run. There is exactly one, since this is a function.
unfoldable pub run_of : Program → Input → Bounds → Allowed → List Choice → Outcome
run_of p input b allowed choices = outcome_of (run_main (context_of p b allowed) input (start_of p choices))

-- the outcome is Done
abbrev pub is_done : Outcome → Bool
is_done Done = true
is_done (AssertFails s) = false
is_done (Trap s) = false
is_done (Beyond s) = false
is_done WrongChoices = false

-- the run as written: nothing may be relaxed, and there is no choice
abbrev pub plain_run : Program → Input → Bounds → Outcome
plain_run p input b = run_of p input b (Statements []) []

-- the run as written meets every assertion, within the bounds
abbrev pub runs_well : Program → Input → Bounds → Bool
runs_well p input b = is_done (plain_run p input b)
