-- Expressions (C90 6.3): type, typed tree, value as a constant, and faults.

use Rattle.std.specs.Prelude.{ℕ, ◌+◌, nat_lt, ℤ, pos, Bool, true, false, not, ◌&&◌, cond, Option, None, Some, option_map, option_and_then, unwrap_or, List, [], ◌∷◌, ◌++◌, map, flat_map, length, sum_by}
use Rattle.std.specs.List.{list_all}
use Rattle.std.specs.Global.{Box}
use Rattle.std.specs.Ordering.{int_eq}
use Rattle.ba_tokens.specs.declared.token.Token.{Token}
use Rattle.ba_tokens.specs.declared.token.TokenKind.{TokenKind}
use Rattle.ba_tokens.specs.declared.token.TokenKind.TheVariants as kind
use Rattle.ba_numbers.specs.Numbers.{converted, value_of, value_of_one, truth}
use Rattle.ba_numbers.specs.declared.ids.At.{At}
use Rattle.ba_numbers.specs.declared.ids.CallId.{CallId}
use Rattle.ba_numbers.specs.declared.ids.FnId.{FnId}
use Rattle.ba_numbers.specs.declared.ids.VarId.{VarId}
use Rattle.ba_numbers.specs.declared.numbers.BinOp.{BinOp}
use Rattle.ba_numbers.specs.declared.numbers.CType.{CType}
use Rattle.ba_numbers.specs.declared.numbers.CType.TheVariants.{I32}
use Rattle.ba_numbers.specs.declared.numbers.UnOp.{UnOp}
use Rattle.ba_trees.specs.declared.tree.expressions.Primary.TheOpen.{Primary-F, Unary-F, Arguments-F, Branches-F, Chain-F, Conditional-F, Expressions-F, NextExpression-F, Operand-F}
use Rattle.ba_trees.specs.declared.tree.expressions.Primary.TheFolds.{fold-Primary, fold-Unary, fold-Arguments, fold-Branches, fold-Chain, fold-Conditional, fold-Expressions, fold-NextExpression, fold-Operand}
use Rattle.ba_trees.specs.declared.tree.expressions.Primary.{Primary}
use Rattle.ba_trees.specs.declared.tree.expressions.Unary.{Unary}
use Rattle.ba_trees.specs.declared.tree.expressions.Arguments.{Arguments}
use Rattle.ba_trees.specs.declared.tree.expressions.Branches.{Branches}
use Rattle.ba_trees.specs.declared.tree.expressions.Chain.{Chain}
use Rattle.ba_trees.specs.declared.tree.expressions.Conditional.{Conditional}
use Rattle.ba_trees.specs.declared.tree.expressions.Expressions.{Expressions}
use Rattle.ba_trees.specs.declared.tree.expressions.NextExpression.{NextExpression}
use Rattle.ba_trees.specs.declared.tree.expressions.Operand.{Operand}
use Rattle.ba_numbers.specs.Types.{same_type, promoted, type_of_binary, type_of_unary, usual, working_type, right_type}
use Rattle.ba_tree.specs.Facts.{greatest}
use Rattle.ba_typing.specs.Faults.{fault, value_name_faults, array_name_faults, call_faults, tag_faults}
use Rattle.ba_typing.specs.Names.{Scope, meaning_of, definition_in, is_main_name, is_array_object, name_of, punct_of, words_of, type_named, tag_of, unary_operator, binary_operator}
use Rattle.ba_tree.specs.Trees.{ExprTree, ArgTree, args_of}
use Rattle.ba_tree.specs.Trees as tree
use Rattle.ba_typing.specs.declared.fault.Cause.TheVariants.{WrongKind}
use Rattle.ba_typing.specs.declared.fault.Fault.{Fault}
use Rattle.ba_typing.specs.declared.names.Operator.{Operator}
use Rattle.ba_typing.specs.declared.names.Operator.TheVariants.{Value, AndAlso, OrElse}
use Rattle.ba_typing.specs.declared.meanings.Meaning.{Meaning}
use Rattle.ba_typing.specs.declared.meanings.Meaning.TheVariants as meaning
use Rattle.ba_typing.specs.declared.meanings.ParamType.{ParamType}
use Rattle.ba_typing.specs.declared.meanings.Signature.{Signature}

-- WHAT IS SAID OF AN EXPRESSION:
-- - the position of its first token
-- - the name that it is, in parentheses or not
-- - its height
-- - whether it is constant: it has no call, and no name but those of enumeration constants (C90 6.4)
-- - how many calls are in it
-- - its type and its typed tree
-- - its value if it is constant, None if it traps
-- - its faults
pub record Typed : Type 0 where
  pub first : At
  pub name : Option (List ℕ)
  pub height : ℕ
  pub is_constant : Bool
  pub calls : ℕ
  pub t : CType
  pub tree : ExprTree
  pub value : Option ℤ
  pub faults : List Fault

-- an expression in a scope, after this number of calls
abbrev pub Typing : Type 0
Typing = Scope → ℕ → Typed

-- the tree of an expression converted to this type; a conversion is made only if it changes the type
abbrev pub tree_as : CType → Typed → ExprTree
tree_as t e = cond (same_type e.t t) e.tree (tree.convert t e.tree)

-- the expression's value converted to this type
abbrev pub value_as : CType → Typed → Option ℤ
value_as t e = option_map (converted t) e.value

-- the value of a constant expression converted to this type, None if it is not constant or traps
abbrev pub constant_value : CType → Typed → Option ℤ
constant_value t e = cond e.is_constant (value_as t e) None

-- OPERATORS

-- an operator over these operands, without a fault of its own
abbrev pub operator_over : At → List Typed → CType → ExprTree → Option ℤ → Typed
operator_over first operands t typed z = record {
  first = first;
  name = None;
  height = 1 + greatest (map (λ (e : Typed). e.height) operands);
  is_constant = list_all (λ (e : Typed). e.is_constant) operands;
  calls = sum_by (λ (e : Typed). e.calls) operands;
  t = t;
  tree = typed;
  value = z;
  faults = flat_map (λ (e : Typed). e.faults) operands;
}

-- unary `+` gives its promoted operand (C90 6.3.3.3)
abbrev pub typed_unary : At → Option UnOp → Typed → Typed
typed_unary first None a = let t = promoted a.t in operator_over first (a ∷ []) t (tree_as t a) (value_as t a)
typed_unary first (Some op) a = let t = promoted a.t in
    operator_over first (a ∷ []) (type_of_unary op t) (tree.unary op t (tree_as t a))
    (option_map (value_of_one op t) (value_as t a))

-- a cast to `void` is at fault (C90 6.3.4)
abbrev pub typed_cast : At → Option CType → Typed → Typed
typed_cast first None a = record (operator_over first (a ∷ []) I32 (tree_as I32 a) (value_as I32 a))
    { faults = fault WrongKind first ++ a.faults }
typed_cast first (Some t) a = operator_over first (a ∷ []) t (tree_as t a) (value_as t a)

-- an expression with these faults too
abbrev pub with_more_faults : List Fault → Typed → Typed
with_more_faults faults e = record e { faults = faults ++ e.faults }

-- the value of an operator whose operands have these values, None if an operand has none
abbrev pub both_then : (ℤ → ℤ → Option ℤ) → Option ℤ → Option ℤ → Option ℤ
both_then f a b = option_and_then (λ y. option_and_then (f y) b) a

-- an operator of two values, which are converted to its types
abbrev pub typed_value : BinOp → Typed → Typed → Typed
typed_value op a b = let t = working_type op a.t b.t in let s = right_type op a.t b.t in
    operator_over a.first (a ∷ b ∷ []) (type_of_binary op t) (tree.binary op t (tree_as t a) (tree_as s b))
    (both_then (value_of op t) (value_as t a) (value_as s b))

-- a value other than 0
abbrev pub is_true : ℤ → Bool
is_true z = not (int_eq z (pos 0))

-- 1 for a value other than 0, and else 0
abbrev pub truth_of : ℤ → ℤ
truth_of z = truth (is_true z)

-- the right operand's value counts only if the left one does not decide
abbrev pub typed_binary : Operator → Typed → Typed → Typed
typed_binary (Value op) a b = typed_value op a b
typed_binary AndAlso a b = operator_over a.first (a ∷ b ∷ []) I32
    (tree.and_also (tree_as (promoted a.t) a) (tree_as (promoted b.t) b))
    (option_and_then (λ y. cond (is_true y) (option_map truth_of b.value) (Some (pos 0))) a.value)
typed_binary OrElse a b = operator_over a.first (a ∷ b ∷ []) I32
    (tree.or_else (tree_as (promoted a.t) a) (tree_as (promoted b.t) b))
    (option_and_then (λ y. cond (is_true y) (Some (pos 1)) (option_map truth_of b.value)) a.value)

-- a conditional operator: test, value if it is not 0, value if it is 0
abbrev pub typed_select : Typed → Typed → Typed → Typed
typed_select when a b = let t = usual a.t b.t in
    operator_over when.first (when ∷ a ∷ b ∷ []) t (tree.select t when.tree (tree_as t a) (tree_as t b))
    (option_and_then (λ y. cond (is_true y) (value_as t a) (value_as t b)) when.value)

-- PRIMARY EXPRESSIONS (C90 6.3.1)

-- a constant of this type
abbrev pub typed_constant : At → CType → ℤ → Typed
typed_constant at t z = operator_over at [] t (tree.const t z) (Some z)

-- what replaces a name that is at fault
abbrev pub placeholder : ExprTree
placeholder = tree.const I32 (pos 0)

-- an expression that is not constant, with the name that it is, if it is one, and its own faults
abbrev pub typed_with : Typed → Option (List ℕ) → List Fault → Typed
typed_with e name faults = record e {
  name = name;
  is_constant = false;
  value = None;
  faults =
      faults ++ e.faults;
}

-- the tree of a name that is used as a value; that of a bad name is the constant 0
abbrev pub variable_tree : Meaning → ExprTree
variable_tree meaning.Unknown = placeholder
variable_tree meaning.Function = placeholder
variable_tree (meaning.Constant z) = placeholder
variable_tree (meaning.Variable e) = cond (is_array_object e) placeholder (tree.var e.var)

-- the type of a name that is used as a value; `int` for a bad name
abbrev pub variable_type : Meaning → CType
variable_type meaning.Unknown = I32
variable_type meaning.Function = I32
variable_type (meaning.Constant z) = I32
variable_type (meaning.Variable e) = cond (is_array_object e) I32 e.variable.t

-- an enumeration constant is a constant of I32 (C90 6.1.3.3)
abbrev pub typed_named : At → List ℕ → Meaning → Typed
typed_named at name m = typed_with (operator_over at [] (variable_type m) (variable_tree m) None) (Some name)
    (value_name_faults m at)

-- a name that is used as a value
abbrev pub typed_name : At → List ℕ → Meaning → Typed
typed_name at name (meaning.Constant z) = record (typed_constant at I32 z) { name = Some name }
typed_name at name m = typed_named at name m

-- the array whose element is taken; any number if the name is at fault
abbrev pub array_of : Meaning → VarId
array_of meaning.Unknown = record { 0 = 0 }
array_of meaning.Function = record { 0 = 0 }
array_of (meaning.Constant z) = record { 0 = 0 }
array_of (meaning.Variable e) = cond (is_array_object e) e.var (record { 0 = 0 })

-- the type of the elements of what a name means; `int` if it is no array
abbrev pub element_type : Meaning → CType
element_type meaning.Unknown = I32
element_type meaning.Function = I32
element_type (meaning.Constant z) = I32
element_type (meaning.Variable e) = cond (is_array_object e) e.variable.t I32

-- an element of an array
abbrev pub typed_element : At → Meaning → Typed → Typed
typed_element at m index = typed_with
    (operator_over at (index ∷ []) (element_type m)
    (tree.element (array_of m) (tree_as (promoted index.t) index)) None)
    None (array_name_faults m at)

-- CALLS (C90 6.3.2.2)

-- an argument: how it is passed, and what is said of it as an expression
pub record TypedArg : Type 0 where
  pub given : ArgTree
  pub expression : Typed

-- the array that an argument names, if its elements have this type
abbrev pub array_given : Option CType → Meaning → Option VarId
array_given t meaning.Unknown = None
array_given t meaning.Function = None
array_given None (meaning.Variable e) = None
array_given t (meaning.Constant z) = None
array_given (Some t) (meaning.Variable e) = cond (is_array_object e && same_type e.variable.t t) (Some e.var)
    None

-- the array that an argument names, if it is a name and the parameter takes an array of its type
abbrev pub named_array : Scope → Option CType → Option (List ℕ) → Option VarId
named_array scope t None = None
named_array scope t (Some name) = array_given t (meaning_of scope name)

-- a value, converted to the parameter's type
abbrev pub value_arg : Option CType → Typed → TypedArg
value_arg t e = record { given = tree.value (tree_as (unwrap_or t e.t) e); expression = e }

-- an array argument; anything else is at fault at its first token, in addition to its own faults
abbrev pub array_arg : Option VarId → Typed → TypedArg
array_arg None e = record {
  given = tree.value e.tree;
  expression =
      record e { faults = fault WrongKind e.first ++ e.faults };
}
array_arg (Some v) e = record { given = tree.array v; expression = record e { faults = [] } }

-- the argument for a parameter, None if the function has no more parameters
abbrev pub typed_arg : Scope → Option ParamType → Typed → TypedArg
typed_arg scope None e = value_arg None e
typed_arg scope (Some p) e = cond p.is_array (array_arg (named_array scope p.t e.name) e) (value_arg p.t e)

-- the first parameter, if there is one
abbrev pub first_param : List ParamType → Option ParamType
first_param [] = None
first_param (p ∷ ps) = Some p

-- all parameters but the first
abbrev pub other_params : List ParamType → List ParamType
other_params [] = []
other_params (p ∷ ps) = ps

-- the arguments from left to right, each with its parameter, if there is one
abbrev pub typed_args : Scope → ℕ → List ParamType → List Typing → List TypedArg
typed_args scope calls params [] = []
typed_args scope calls params (typing ∷ typings) = let e = typing scope calls in
    typed_arg scope (first_param params) e ∷ typed_args scope (calls + e.calls) (other_params params) typings

-- the parameters of the called function; none for a bad one
abbrev pub params_of_called : Option Signature → List ParamType
params_of_called None = []
params_of_called (Some f) = unwrap_or f.params []

-- the number of the called function; 0 for a bad one
abbrev pub function_of : Option Signature → FnId
function_of None = record { 0 = 0 }
function_of (Some f) = f.function

-- the type of the call; `int` for a bad function, or one without a result
abbrev pub result_of : Option Signature → CType
result_of None = I32
result_of (Some f) = unwrap_or f.result I32

-- the definition of what is called, None if the name means no function
abbrev pub definition_of_meaning : Meaning → Option Signature → Option Signature
definition_of_meaning meaning.Unknown definition = None
definition_of_meaning (meaning.Variable e) definition = None
definition_of_meaning (meaning.Constant z) definition = None
definition_of_meaning meaning.Function definition = definition

-- the definition that a called name means, unless a variable or a constant hides it
abbrev pub called : Scope → List ℕ → Option Signature
called scope name = definition_of_meaning (meaning_of scope name) (definition_in scope.functions name)

-- What is said of a call: its number (one more than the calls before), the function, the arguments, and the
-- faults of the name.
pub record TypedCall : Type 0 where
  pub call : CallId
  pub function : FnId
  pub result : CType
  pub args : List TypedArg
  pub faults : List Fault

-- a call as a value, or as a statement
abbrev pub typed_call : Bool → At → List ℕ → List Typing → Scope → ℕ → TypedCall
typed_call as_value at name typings scope calls = let f = called scope name in record {
  call = record { 0 = calls + 1 };
  function = function_of f;
  result = result_of f;
  args = typed_args scope (calls + 1) (params_of_called f) typings;
  faults = call_faults (meaning_of scope name) (is_main_name name) f as_value (length typings) at;
}

-- the trees of arguments
abbrev pub trees_of_args : List TypedArg → List ArgTree
trees_of_args = map (λ (a : TypedArg). a.given)

-- the expressions of arguments
abbrev pub expressions_of_args : List TypedArg → List Typed
expressions_of_args = map (λ (a : TypedArg). a.expression)

-- an expression with one more call
abbrev pub counting_call : Typed → Typed
counting_call e = record e { calls = 1 + e.calls }

-- a call
abbrev pub typed_called : At → TypedCall → Typed
typed_called at c = typed_with
    (counting_call (operator_over at (expressions_of_args c.args) c.result
    (tree.call c.call c.function (args_of (trees_of_args c.args))) None))
    None c.faults

-- THE FORMS OF THE GRAMMAR

-- the value of a constant token is in its type's range; the conversion makes that so for every tree
abbrev pub typed_constant_kind : At → TokenKind → Typed
typed_constant_kind at (kind.Constant t z) = typed_constant at t (converted t z)
typed_constant_kind at _ = typed_constant at I32 (pos 0)

-- a name or a constant, by the kind of its token
abbrev pub typed_token_kind : At → TokenKind → Typing
typed_token_kind at (kind.Name name) scope calls = typed_name at name (meaning_of scope name)
typed_token_kind at k scope calls = typed_constant_kind at k

-- a token as an operand: a name or a constant
abbrev pub typed_token : Token → Typing
typed_token token = typed_token_kind token.at token.kind

-- parentheses change only the position of the first token
abbrev pub parenthesized : At → Typing → Typing
parenthesized at inside scope calls = record (inside scope calls) { first = at }

-- a conditional operator, its parts from left to right
abbrev pub select_typing : Typing → Typing → Typing → Typing
select_typing when if_true if_false scope calls = let w = when scope calls in let a =
    if_true scope (calls + w.calls) in
    typed_select w a (if_false scope (calls + w.calls + a.calls))

-- Arguments give a list, and branches give two. A chain of operators has the level of its operator, and comes
-- after its leftmost operand. The number of calls before that operand is given. An operand gives its first
-- expression and the chains after it.
abbrev pub Typings : Type 0
Typings = List Typing

-- the two values of a conditional operator
abbrev pub BranchTypings : Type 0
BranchTypings = Typing × Typing

-- operators of one level with their right operands: a function from what is left of them
pub record ChainTyping : Type 0 where
  pub level : ℕ
  pub over : Scope → ℕ → Typed → Typed

-- an operand with the chains of operators after it
pub record OperandTyping : Type 0 where
  pub first : Typing
  pub chains : List ChainTyping

-- a primary expression, by its parts
abbrev pub primary_step : Primary-F Typing Typing Typings BranchTypings ChainTyping Typing Typings Typing
    OperandTyping → Typing
primary_step (Primary-F.Name name) scope calls = typed_token name scope calls
primary_step (Primary-F.Element name opener index closer) scope calls =
    typed_element name.at (meaning_of scope (name_of name)) (index.value scope calls)
primary_step (Primary-F.Call name opener arguments closer) scope calls =
    typed_called name.at (typed_call true name.at (name_of name) arguments scope calls)
primary_step (Primary-F.Constant constant) scope calls = typed_token constant scope calls
primary_step (Primary-F.Parenthesized opener expression closer) scope calls =
    parenthesized opener.at expression.value scope calls

-- a unary expression, by its parts
abbrev pub unary_step : Unary-F Typing Typing Typings BranchTypings ChainTyping Typing Typings Typing
    OperandTyping → Typing
unary_step (Unary-F.Prefix operator operand) scope calls =
    typed_unary operator.at (unary_operator (punct_of operator)) (operand.value scope calls)
unary_step (Unary-F.Cast opener name closer operand) scope calls =
    with_more_faults (tag_faults scope (tag_of (words_of name)))
    (typed_cast opener.at (type_named name) (operand.value scope calls))
unary_step (Unary-F.Primary p) scope calls = p scope calls

-- the arguments of a call; none between empty parentheses
abbrev pub arguments_step : Arguments-F Typing Typing Typings BranchTypings ChainTyping Typing Typings
    Typing OperandTyping → Typings
arguments_step a = unwrap_or a.values []

-- the values of a conditional operator
abbrev pub branches_step : Branches-F Typing Typing Typings BranchTypings ChainTyping Typing Typings Typing
    OperandTyping → BranchTypings
branches_step b = (b.holds.value, b.fails.value)

-- one chain after the other, each with all that precedes it as its leftmost operand
abbrev pub after_chains : Scope → ℕ → Typed → List ChainTyping → Typed
after_chains scope calls left [] = left
after_chains scope calls left (chain ∷ chains) = after_chains scope calls (chain.over scope calls left) chains

-- an operand with all its chains
abbrev pub whole_operand : OperandTyping → Typing
whole_operand o scope calls = after_chains scope calls (o.first scope calls) o.chains

-- Of the chains after an operator's first right operand, the tighter ones belong to its right operand. The
-- first looser one, and what follows it, go on with the operator's value (C90 6.3.5 to 6.3.14).
abbrev pub tighter : ℕ → List ChainTyping → List ChainTyping
tighter level [] = []
tighter level (c ∷ cs) = cond (nat_lt c.level level) (c ∷ tighter level cs) []

-- the chains from the first one on whose level is at least this one
abbrev pub from_looser : ℕ → List ChainTyping → List ChainTyping
from_looser level [] = []
from_looser level (c ∷ cs) = cond (nat_lt c.level level) (from_looser level cs) (c ∷ cs)

-- an operator of this level, its first right operand, and the chains after that
abbrev pub chain_of : ℕ → Operator → Typing → List ChainTyping → ChainTyping
chain_of level operator first chains = record {
  level = level;
  over = λ scope calls left.
      let right = whole_operand (record { first = first; chains = tighter level chains }) scope
      (calls + left.calls) in
      after_chains scope calls (typed_binary operator left right) (from_looser level chains);
}

-- the rest of a chain, if there is one
abbrev pub rest_of_chain : Option (Box ChainTyping) → List ChainTyping
rest_of_chain None = []
rest_of_chain (Some rest) = rest.value ∷ []

-- a chain, by its parts
abbrev pub chain_step : Chain-F Typing Typing Typings BranchTypings ChainTyping Typing Typings Typing
    OperandTyping → ChainTyping
chain_step c = chain_of c.level (binary_operator (punct_of c.operator)) c.operand.first
    (c.operand.chains ++ rest_of_chain c.rest)

-- a test alone, or a conditional operator
abbrev pub with_branches : Typing → Option BranchTypings → Typing
with_branches test None = test
with_branches test (Some (holds, fails)) = select_typing test holds fails

-- a conditional expression, by its parts
abbrev pub conditional_step : Conditional-F Typing Typing Typings BranchTypings ChainTyping Typing Typings
    Typing OperandTyping → Typing
conditional_step c = with_branches (whole_operand c.test) c.branches

-- a list of expressions, by its parts
abbrev pub expressions_step : Expressions-F Typing Typing Typings BranchTypings ChainTyping Typing Typings
    Typing OperandTyping → Typings
expressions_step e = e.first.value ∷ e.rest.items

-- an expression after a comma
abbrev pub next_expression_step : NextExpression-F Typing Typing Typings BranchTypings ChainTyping Typing
    Typings Typing OperandTyping → Typing
next_expression_step n = n.expression

-- an operand with its chains, by its parts
abbrev pub operand_step : Operand-F Typing Typing Typings BranchTypings ChainTyping Typing Typings Typing
    OperandTyping → OperandTyping
operand_step o = record { first = o.first; chains = o.chains.items }

-- WHOLE TREES

-- a conditional expression: type, tree, value if it is constant, and faults
unfoldable pub typed_conditional : Conditional → Typing
typed_conditional = fold-Conditional Typing Typing Typings BranchTypings ChainTyping Typing Typings Typing
    OperandTyping primary_step unary_step arguments_step branches_step chain_step conditional_step
    expressions_step next_expression_step operand_step

-- an operand with its chains
unfoldable pub typed_operand : Operand → OperandTyping
typed_operand = fold-Operand Typing Typing Typings BranchTypings ChainTyping Typing Typings Typing
    OperandTyping primary_step unary_step arguments_step branches_step chain_step conditional_step
    expressions_step next_expression_step operand_step

-- a chain of operators
unfoldable pub typed_chain : Chain → ChainTyping
typed_chain = fold-Chain Typing Typing Typings BranchTypings ChainTyping Typing Typings Typing OperandTyping
    primary_step unary_step arguments_step branches_step chain_step conditional_step expressions_step
    next_expression_step operand_step

-- a unary expression
unfoldable pub typed_unary_expression : Unary → Typing
typed_unary_expression = fold-Unary Typing Typing Typings BranchTypings ChainTyping Typing Typings Typing
    OperandTyping primary_step unary_step arguments_step branches_step chain_step conditional_step
    expressions_step next_expression_step operand_step

-- a primary expression
unfoldable pub typed_primary : Primary → Typing
typed_primary = fold-Primary Typing Typing Typings BranchTypings ChainTyping Typing Typings Typing
    OperandTyping primary_step unary_step arguments_step branches_step chain_step conditional_step
    expressions_step next_expression_step operand_step

-- the arguments of a call
unfoldable pub typed_arguments : Arguments → Typings
typed_arguments = fold-Arguments Typing Typing Typings BranchTypings ChainTyping Typing Typings Typing
    OperandTyping primary_step unary_step arguments_step branches_step chain_step conditional_step
    expressions_step next_expression_step operand_step

-- an expression after a comma
unfoldable pub typed_next : NextExpression → Typing
typed_next = fold-NextExpression Typing Typing Typings BranchTypings ChainTyping Typing Typings Typing
    OperandTyping primary_step unary_step arguments_step branches_step chain_step conditional_step
    expressions_step next_expression_step operand_step

-- several expressions, and the branches of a conditional one
abbrev pub typed_expressions : Expressions → Typings
typed_expressions = fold-Expressions Typing Typing Typings BranchTypings ChainTyping Typing Typings Typing
    OperandTyping primary_step unary_step arguments_step branches_step chain_step conditional_step
    expressions_step next_expression_step operand_step

-- the two values of a conditional operator
abbrev pub typed_branches : Branches → BranchTypings
typed_branches = fold-Branches Typing Typing Typings BranchTypings ChainTyping Typing Typings Typing
    OperandTyping primary_step unary_step arguments_step branches_step chain_step conditional_step
    expressions_step next_expression_step operand_step
