-- What an inliner makes, of names that are in scope.

use Rattle.std.specs.Prelude.{◌≡◌, ℕ, ℤ, Bool, true, false, List}
use Rattle.std.specs.List.{list_any}
use Rattle.ba_code.specs.Types.{Types}
use Rattle.ba_code.specs.declared.nodes.Node.{Node}
use Rattle.ba_code.specs.declared.nodes.Operand.{Operand}
use Rattle.ba_code.specs.declared.nodes.Operand.TheVariants.{Var}
use Rattle.ba_inline.specs.Calling.{arg_has_call, has_call}
use Rattle.ba_inline.specs.Making.{Does, Gives, GivesTo, Makes, MakesArgument, MakesArguments, MakesValue, MakesValues, Part, Standing, reading}
use Rattle.ba_inline.specs.Names.{IsFrame, IsScope}
use Rattle.ba_inline.specs.Parts.{argument_part, arguments_part, given_part, value_part, values_part}
use Rattle.ba_inline.specs.declared.frames.Frame.{Frame}
use Rattle.ba_inline.specs.declared.frames.Given.{Given}
use Rattle.ba_inline.specs.declared.frames.Inliner.{Inliner}
use Rattle.ba_inline.specs.declared.frames.Wanted.TheVariants as wanted
use Rattle.ba_code.specs.State.{CodeState}
use Rattle.ba_numbers.specs.declared.ids.StmtId.{StmtId}
use Rattle.ba_tree.specs.declared.run.Exit.{Exit}
use Rattle.ba_tree.specs.declared.run.Flow.{Flow}
use Rattle.ba_tree.specs.declared.tree.Arg.{Arg}
use Rattle.ba_tree.specs.declared.tree.Expr.{Expr}
use Rattle.ba_tree.specs.declared.tree.Program.{Program}

abbrev pub program_of : Inliner → Program
program_of inliner = inliner.setting.now.program.now

-- a part of a program, within a frame
abbrev pub PartIn : Type 0 → Type 0
PartIn A = Program → Frame → Part A

-- the names of an inliner are in scope
abbrev pub InScope : Inliner → Types → Type 0
InScope inliner low = IsScope (program_of inliner) inliner.scope.now low

-- The code of a part that has a value, and what the value stands as.
abbrev pub Computes : Inliner → PartIn ℤ → (CodeState → Standing ℤ) → Types → Types → List Node → List Node →
    Type 0
Computes inliner part stands low high old new = InScope inliner low
    → Makes (program_of inliner) inliner.scope.now inliner.path.now (part (program_of inliner) inliner.frame)
    stands low high old new

-- a variable gets the value
abbrev pub Assigns : Inliner → PartIn ℤ → Bool → ℕ → Types → Types → List Node → List Node → Type 0
Assigns inliner part calls to low high old new = Computes inliner part
    (GivesTo inliner.scope.now calls low to) low high old new

-- a variable has the value of a condition
abbrev pub Decides : Inliner → StmtId → Expr → ℕ → Types → Types → List Node → List Node → Type 0
Decides inliner stmt when to low high old new = Computes inliner
    (λ p frame. given_part p frame stmt wanted.Truth when)
    (Gives inliner.scope.now (has_call when) low (reading (Var to))) low high old new

-- an operand has the value, also behind calls where it is to keep it
abbrev pub HasValue : Inliner → PartIn ℤ → Bool → Bool → Operand → Types → Types → List Node → List Node → Type 0
HasValue inliner part calls keep operand low high old new = InScope inliner low
    → MakesValue (program_of inliner) inliner.scope.now inliner.path.now
    (part (program_of inliner) inliner.frame) calls keep operand low high old new

-- that of an expression
abbrev pub Evaluates : Inliner → StmtId → Expr → Bool → Operand → Types → Types → List Node → List Node → Type 0
Evaluates inliner here e keep operand low high old new =
    HasValue inliner (λ p frame. value_part p frame here e) (has_call e) keep operand low high old new

-- that of a call
abbrev pub Calls : Inliner → PartIn ℤ → Operand → Types → Types → List Node → List Node → Type 0
Calls inliner part operand low high old new = HasValue inliner part true false operand low high old new

-- those of expressions
abbrev pub EvaluatesAll : Inliner → StmtId → List Expr → List Operand → Types → Types → List Node → List Node →
    Type 0
EvaluatesAll inliner here es operands low high old new = InScope inliner low
    → MakesValues (program_of inliner) inliner.scope.now inliner.path.now
    (values_part (program_of inliner) inliner.frame here es) (list_any has_call es) (list_any has_call es)
    operands low high old new

-- an argument, and arguments
abbrev pub EvaluatesArgument : Inliner → StmtId → Arg → Bool → Given → Types → Types → List Node → List Node →
    Type 0
EvaluatesArgument inliner here arg keep given low high old new = InScope inliner low
    → MakesArgument (program_of inliner) inliner.scope.now inliner.path.now
    (argument_part (program_of inliner) inliner.frame here arg) (arg_has_call arg) keep given low high old new

abbrev pub EvaluatesArguments : Inliner → StmtId → List Arg → List Given → Types → Types → List Node →
    List Node → Type 0
EvaluatesArguments inliner here args given low high old new = InScope inliner low
    → MakesArguments (program_of inliner) inliner.scope.now inliner.path.now
    (arguments_part (program_of inliner) inliner.frame here args) (list_any arg_has_call args)
    (list_any arg_has_call args) given low high old new

-- the code of statements
abbrev pub Executes : Inliner → PartIn (Flow Exit) → Types → Types → List Node → List Node → Type 0
Executes inliner part low high old new = IsFrame (program_of inliner) inliner.frame.home inliner.scope.now low
    → Makes (program_of inliner) inliner.scope.now inliner.path.now (part (program_of inliner) inliner.frame)
    (Does inliner.scope.now inliner.frame.exits inliner.frame.home low) low high old new
