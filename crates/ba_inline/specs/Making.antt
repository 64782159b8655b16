-- What the functions of the inliner make.

use Rattle.std.specs.Prelude.{◌≡◌, ℕ, ◌<◌, ℤ, Bool, true, cond, List, [], ◌∷◌, ◌++◌, map, length}
use Rattle.ba_code.specs.Meaning.{InTurns, Setting, path_in, run_nodes}
use Rattle.ba_code.specs.State.{CodeState, operand_value, with_variable}
use Rattle.ba_code.specs.Types.{Types}
use Rattle.ba_code.specs.declared.nodes.Node.{Node}
use Rattle.ba_code.specs.declared.nodes.Operand.{Operand}
use Rattle.ba_code.specs.declared.nodes.Operand.TheVariants.{Const, Var}
use Rattle.ba_inline.specs.Declarations.{Grows}
use Rattle.ba_inline.specs.Ends.{Meets}
use Rattle.ba_inline.specs.Keeping.{Keeps, Stays}
use Rattle.ba_inline.specs.Names.{Names, seen, with_home}
use Rattle.ba_inline.specs.Worlds.{IsReady, World, code_setting}
use Rattle.ba_inline.specs.declared.frames.Exits.{Exits}
use Rattle.ba_inline.specs.declared.frames.Given.{Given}
use Rattle.ba_inline.specs.declared.frames.Given.TheVariants as given
use Rattle.ba_tree.specs.State.{State, Act}
use Rattle.ba_tree.specs.declared.run.Argument.{Argument}
use Rattle.ba_tree.specs.declared.run.Exit.{Exit}
use Rattle.ba_tree.specs.declared.run.Exit.TheVariants.{Break, Continue, Return}
use Rattle.ba_tree.specs.declared.run.Flow.{Flow}
use Rattle.ba_tree.specs.declared.run.Flow.TheVariants.{Next, Leaves}
use Rattle.ba_tree.specs.declared.run.Step.{Step}
use Rattle.ba_tree.specs.declared.tree.Program.{Program}

-- NODES

-- nodes are appended that do this
pub record Adds (old new : List Node) (act : Setting → InTurns) : Type 0 where
  pub nodes : List Node
  pub is : new ≡ old ++ nodes
  pub runs : (g : Setting) (turns : List ℕ) (t : CodeState) → run_nodes g nodes turns t ≡ act g turns t

-- a part of a program, by the world, the path to it (innermost step first), and the state of the code before
-- it
abbrev pub Part : Type 0 → Type 0
Part A = World → List Step → CodeState → Act A

-- how the states of the program and of the code are related at the end of a part, by what the part gives
abbrev pub Standing : Type 0 → Type 1
Standing A = A → State → Flow ℕ → CodeState → Type 0

-- Nodes are appended. Wherever they run with these declarations or more, their end meets that of the part,
-- and the results are related.
pub record Makes {A : Type 0} (p : Program) (names : Names) (path : List Step) (part : Part A)
    (stands : CodeState → Standing A) (low high : Types) (old new : List Node) : Type 0 where
  pub nodes : List Node
  pub is : new ≡ old ++ nodes
  pub grows : Grows low high
  pub runs : (w : World) (turns : List ℕ) (t : CodeState) → IsReady w high t
      → Meets (stands t) (part w (path_in turns path) t (seen names t)) (run_nodes (code_setting p w) nodes
      turns t)

-- VALUES

-- The code's state has the result where `read` finds it. The code leaves the rest as it was.
pub record Gives {A : Type 0} (names : Names) (calls : Bool) (low : Types) (read : CodeState →
    A) (t : CodeState)
    (a : A) (s : State) (way : Flow ℕ) (u : CodeState) : Type 0 where
  pub on : way ≡ Next
  pub sees : s ≡ seen names u
  pub reads : a ≡ read u
  pub keeps : Keeps calls names low t u

-- the value of an operand after the nodes
abbrev pub reading : Operand → CodeState → ℤ
reading o u = operand_value u o

-- the values of operands after the nodes
abbrev pub reading_all : List Operand → CodeState → List ℤ
reading_all os u = map (operand_value u) os

-- the values of two operands after the nodes
abbrev pub reading_two : Operand → Operand → CodeState → ℤ × ℤ
reading_two a b u = (operand_value u a, operand_value u b)

-- an operand that stays as it is: a constant, or a declared variable that is no name if calls come
abbrev pub IsSettled : Bool → Names → Types → Operand → Type 0
IsSettled calls names declared (Const z) = Unit {0}
IsSettled calls names declared (Var n) = (n < length declared.vars) × Stays calls n names.values

-- each operand keeps its value
abbrev pub AreSettled : Bool → Names → Types → List Operand → Type 0
AreSettled calls names declared [] = Unit {0}
AreSettled calls names declared (o ∷ os) = IsSettled calls names declared o × AreSettled calls names
    declared os

-- nodes were made that do a part, and an operand then has its value
pub record MakesValue (p : Program) (names : Names) (path : List Step) (part : Part ℤ) (calls keep : Bool)
    (operand : Operand) (low high : Types) (old new : List Node) : Type 0 where
  pub settled : IsSettled keep names high operand
  pub makes : Makes p names path part (Gives names calls low (reading operand)) low high old new

-- several values
pub record MakesValues (p : Program) (names : Names) (path : List Step) (part : Part (List ℤ)) (calls keep
    : Bool)
    (operands : List Operand) (low high : Types) (old new : List Node) : Type 0 where
  pub settled : AreSettled keep names high operands
  pub makes : Makes p names path part (Gives names calls low (reading_all operands)) low high old new

-- a variable has the value at the end
pub record GivesTo (names : Names) (calls : Bool) (low : Types) (to : ℕ) (t : CodeState)
    (z : ℤ) (s : State) (way : Flow ℕ) (u : CodeState) : Type 0 where
  pub before : CodeState
  pub on : way ≡ Next
  pub sees : s ≡ seen names before
  pub is : u ≡ with_variable to z before
  pub keeps : Keeps calls names low t before

-- ARGUMENTS

-- what a call gives to a parameter
abbrev pub argument_in : CodeState → Given → Argument
argument_in t (given.Value o) = Argument.Value (operand_value t o)
argument_in t (given.Array location) = Argument.Array location

-- the arguments that operands and arrays give after the nodes
abbrev pub reading_arguments : List Given → CodeState → List Argument
reading_arguments gives u = map (argument_in u) gives

-- a given argument keeps its value
abbrev pub IsGiven : Bool → Names → Types → Given → Type 0
IsGiven keep names declared (given.Value o) = IsSettled keep names declared o
IsGiven keep names declared (given.Array location) = Unit {0}

-- each given argument keeps its value
abbrev pub AreGiven : Bool → Names → Types → List Given → Type 0
AreGiven keep names declared [] = Unit {0}
AreGiven keep names declared (g ∷ gs) = IsGiven keep names declared g × AreGiven keep names declared gs

-- nodes were made that do an argument, which is then given so
pub record MakesArgument (p : Program) (names : Names) (path : List Step) (part : Part Argument) (calls
    keep : Bool)
    (gives : Given) (low high : Types) (old new : List Node) : Type 0 where
  pub given : IsGiven keep names high gives
  pub makes : Makes p names path part (Gives names calls low (λ u. argument_in u gives)) low high old new

-- nodes were made that do arguments, which are then given so
pub record MakesArguments (p : Program) (names : Names) (path : List Step) (part : Part (List Argument))
    (calls keep : Bool)
    (gives : List Given) (low high : Types) (old new : List Node) : Type 0 where
  pub given : AreGiven keep names high gives
  pub makes : Makes p names path part (Gives names calls low (reading_arguments gives)) low high old new

-- STATEMENTS

-- The labels of blocks. A `return` leaves the function's block, a `break` the loop's, a `continue` the
-- body's. Outside of loops each leaves the function's.
abbrev pub return_label : ℕ
return_label = 0

-- the label of a `break`, 0 where none may come
abbrev pub break_label : Exits → ℕ
break_label exits = cond exits.breaks 1 0

-- the label of a `continue`, 0 where none may come
abbrev pub continue_label : Exits → ℕ
continue_label exits = cond exits.continues 2 0

-- in the body of a loop
abbrev pub body_exits : Exits
body_exits = record { breaks = true; continues = true }

-- in the step of a loop, in a whole iteration, and in the body of a `switch`
abbrev pub turn_exits : Exits → Exits
turn_exits exits = record { breaks = true; continues = exits.continues }

-- The ways to leave. A returned value is in the variable `home`, which any other way leaves as it was.
abbrev pub SameFlow : Exits → ℕ → CodeState → Flow Exit → Flow ℕ → CodeState → Type 0
SameFlow exits home t Next Next u = u.variables home ≡ t.variables home
SameFlow exits home t Next (Leaves label) u = ⊥
SameFlow exits home t (Leaves exit) Next u = ⊥
SameFlow exits home t (Leaves Break) (Leaves label) u =
    (label ≡ break_label exits) × (u.variables home ≡ t.variables home)
SameFlow exits home t (Leaves Continue) (Leaves label) u =
    (label ≡ continue_label exits) × (u.variables home ≡ t.variables home)
SameFlow exits home t (Leaves (Return z)) (Leaves label) u = (label ≡ return_label) × (z ≡ u.variables home)

-- the nodes did what a statement does: flow, state and result
pub record Does (names : Names) (exits : Exits) (home : ℕ) (low : Types) (t : CodeState)
    (flow : Flow Exit) (s : State) (way : Flow ℕ) (u : CodeState) : Type 0 where
  pub flows : SameFlow exits home t flow way u
  pub sees : s ≡ seen names u
  pub keeps : Keeps true (with_home home names) low t u
