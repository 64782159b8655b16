-- How what the code infers of a program relates to the definitions of typing.

use Rattle.std.specs.Prelude.{◌≡◌, ℕ, ◌+◌, Bool, true, ◌&&◌, nat_lt, nat_le, cond, Option, None, Some, Result, Ok, Err, List, [], ◌∷◌, ◌++◌, map, flat_map}
use Rattle.std.specs.Global.{Box}
use Rattle.std.specs.List.{list_all}
use Rattle.ba_trees.specs.declared.tree.expressions.Chain.{Chain, out-Chain}
use Rattle.ba_trees.specs.declared.tree.expressions.Operand.{out-Operand}
use Rattle.ba_tree.specs.Facts.{greatest}
use Rattle.ba_typing.specs.Declarations.{whole_faults, calls_in}
use Rattle.ba_typing.specs.Expressions.{Typed, TypedArg, TypedCall, expressions_of_args, trees_of_args}
use Rattle.ba_typing.specs.Faults.{comes_before}
use Rattle.ba_tree.specs.Trees.{tree_of_arg, tree_of_expr}
use Rattle.ba_typing.specs.declared.fault.Fault.{Fault}
use Rattle.ba_expressions.specs.declared.inferred.Inferred.{Inferred}
use Rattle.ba_expressions.specs.declared.inferred.InferredCall.{InferredCall}
use Rattle.ba_expressions.specs.declared.inferred.Operands.{Operands}
use Rattle.ba_expressions.specs.declared.arguments.InferredArg.{InferredArg}
use Rattle.ba_expressions.specs.declared.arguments.InferredArgs.{InferredArgs}
use Rattle.ba_expressions.specs.declared.uses.CallUse.{CallUse}
use Rattle.ba_expressions.specs.declared.tally.Tally.{Tally}

-- FAULTS

-- the fault that comes first
abbrev pub sooner : Option Fault → Fault → Option Fault
sooner None f = Some f
sooner (Some g) f = Some (cond (comes_before f g) f g)

-- the first of the fault so far and these
abbrev pub least_with : Option Fault → List Fault → Option Fault
least_with least [] = least
least_with least (f ∷ fs) = least_with (sooner least f) fs

-- the tally with these faults more
abbrev pub with_faults : Tally → List Fault → Tally
with_faults t faults = record t { least = least_with t.least faults }

-- the tally with this number of calls and these faults more
abbrev pub after : Tally → ℕ → List Fault → Tally
after t calls faults = record { calls = t.calls + calls; least = least_with t.least faults }

-- no call and no fault yet
abbrev pub nothing_found : Tally
nothing_found = record { calls = 0; least = None }

-- EXPRESSIONS

-- what the code keeps of an expression, with the number of its calls and its faults
abbrev pub typed_from : Inferred → ℕ → List Fault → Typed
typed_from j calls faults = record {
  first = j.first;
  name = j.name;
  height = j.height;
  is_constant = j.is_constant;
  calls = calls;
  t = j.t;
  tree = tree_of_expr j.expr;
  value = j.value;
  faults = faults;
}

-- the greatest height of these, and whether all are constant
abbrev pub greatest_height : List Typed → ℕ
greatest_height es = greatest (map (λ (e : Typed). e.height) es)

-- all expressions are constant
abbrev pub are_constant : List Typed → Bool
are_constant = list_all (λ (e : Typed). e.is_constant)

-- what an operator keeps of these operands
pub record AreOperands (o : Operands) (es : List Typed) : Type 0 where
  pub tallest : o.tallest ≡ greatest_height es
  pub constant : o.are_constant ≡ are_constant es

-- what the code infers is what is said of the expression
abbrev pub Infers : Inferred → Typed → Type 0
Infers j s = typed_from j s.calls s.faults ≡ s

-- the same, and the tally has risen by the calls and the faults
abbrev pub Stands : Inferred → Typed → Tally → Tally → Type 0
Stands j s old new = Infers j s × (new ≡ after old s.calls s.faults)

-- The answer is so inferred. If memory runs out, nothing is said.
abbrev pub Gives : {E : Type 0} → Typed → Tally → Tally → Result Inferred E → Type 0
Gives s old new (Ok j) = Stands j s old new
Gives s old new (Err e) = Unit {0}

-- CHAINS OF OPERATORS

-- the rest of a chain, if there is one, is of this level or a looser one
abbrev pub goes_on : ℕ → Option (Box Chain) → Bool
goes_on level None = true
goes_on level (Some rest) = nat_le level (out-Chain rest.value).level

-- the operators in a chain's operand bind tighter than its own, and those of its rest do not
abbrev pub is_left_to_right : Chain → Bool
is_left_to_right c = let chain = out-Chain c in
    list_all (λ inner. nat_lt (out-Chain inner).level chain.level) (out-Operand chain.operand).chains.items
    && goes_on chain.level chain.rest

-- CALLS

-- what the code infers of arguments is what is said of them
pub record AreArgs (j : InferredArgs) (es : List TypedArg) : Type 0 where
  pub given : map tree_of_arg j.given.items ≡ trees_of_args es
  pub tallest : j.tallest ≡ greatest_height (expressions_of_args es)

-- the faults of an argument; in a call statement also that of its height
abbrev pub faults_of_arg : CallUse → Typed → List Fault
faults_of_arg call e = cond call.as_value e.faults (whole_faults call.at e)

-- the faults of arguments, by where the call is
abbrev pub faults_of_args : CallUse → List TypedArg → List Fault
faults_of_args call es = flat_map (faults_of_arg call) (expressions_of_args es)

-- how many calls are in arguments
abbrev pub calls_of_args : List TypedArg → ℕ
calls_of_args es = calls_in (expressions_of_args es)

-- the answer is so inferred, and the tally has risen by the calls and the faults
abbrev pub GivesArg : {E : Type 0} → CallUse → TypedArg → Tally → Tally → Result InferredArg E → Type 0
GivesArg call e old new (Ok j) = (tree_of_arg j.given ≡ e.given) × (j.height ≡ e.expression.height)
    × (new ≡ after old e.expression.calls (faults_of_arg call e.expression))
GivesArg call e old new (Err error) = Unit {0}

-- arguments were typed as the definition says, or an error came
abbrev pub GivesArgs : {E : Type 0} → CallUse → List TypedArg → Tally → Tally → Result InferredArgs E → Type 0
GivesArgs call es old new (Ok j) = AreArgs j es
    × (new ≡ after old (calls_of_args es) (faults_of_args call es))
GivesArgs call es old new (Err e) = Unit {0}

-- what the code infers is what is said of the call
pub record InfersCall (j : InferredCall) (c : TypedCall) : Type 0 where
  pub call : j.call ≡ c.call
  pub function : j.function ≡ c.function
  pub result : j.result ≡ c.result
  pub args : map tree_of_arg j.args.items ≡ trees_of_args c.args
  pub height : j.height ≡ greatest_height (expressions_of_args c.args)

-- a call was typed as the definition says, or an error came
abbrev pub GivesCall : {E : Type 0} → CallUse → TypedCall → Tally → Tally → Result InferredCall E → Type 0
GivesCall call c old new (Ok j) =
    InfersCall j c × (new ≡ after old (1 + calls_of_args c.args) (c.faults ++ faults_of_args call c.args))
GivesCall call c old new (Err e) = Unit {0}
