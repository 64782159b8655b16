-- What there is to say of each form of the parser's trees, one equation a form.
use Rattle.std.proofs.Common.{◌≡◌, ℕ, ◌+◌, Bool, true, false, cond, Option, None, Some, List, [], ◌∷◌, ◌++◌, map, refl, sym, ◌∙◌, ap, subst, arith}
use Rattle.std.specs.Prelude.{nat_lt, nat_le}
use Rattle.std.specs.List.{list_all}
use Rattle.std.proofs.lemmas.Bool.{and_parts}
use Rattle.std.proofs.lemmas.Bool.Decides.{nat_tests}
use Rattle.std.proofs.lemmas.List.{append-nil}
use Rattle.std.specs.Global.{Box}
use Rattle.ba_tokens.specs.declared.token.Token.{Token}
use Rattle.ba_trees.specs.declared.tree.expressions.Primary.TheFolds.{fold-roll-Primary, fold-roll-Unary, fold_out-Arguments, fold_out-Branches, fold_out-Chain, fold_out-Conditional, fold_out-Expressions, fold_out-NextExpression, fold_out-Operand, map-Arguments, map-Chain, map-Conditional}
use Rattle.ba_trees.specs.declared.tree.expressions.Primary.TheOpen.{Primary-F, Unary-F}
use Rattle.ba_trees.specs.declared.tree.expressions.Arguments.{Arguments, out-Arguments}
use Rattle.ba_trees.specs.declared.tree.expressions.Branches.{Branches, out-Branches}
use Rattle.ba_trees.specs.declared.tree.expressions.Chain.{Chain, out-Chain}
use Rattle.ba_trees.specs.declared.tree.expressions.Conditional.{Conditional, out-Conditional}
use Rattle.ba_trees.specs.declared.tree.expressions.Expressions.{Expressions, out-Expressions}
use Rattle.ba_trees.specs.declared.tree.expressions.NextExpression.{NextExpression, out-NextExpression}
use Rattle.ba_trees.specs.declared.tree.expressions.Operand.{Operand, out-Operand}
use Rattle.ba_trees.specs.declared.tree.expressions.Primary.{Primary}
use Rattle.ba_trees.specs.declared.tree.expressions.Primary as primary
use Rattle.ba_trees.specs.declared.tree.expressions.TypeName.{TypeName}
use Rattle.ba_trees.specs.declared.tree.expressions.Unary.{Unary}
use Rattle.ba_trees.specs.declared.tree.expressions.Unary as unary
use Rattle.ba_typing.specs.Expressions.{Typed, OperandTyping, chain_of, whole_operand, tighter, from_looser, typed_token, Typing, Typings, BranchTypings, ChainTyping, typed_primary, typed_unary_expression, typed_arguments, typed_chain, typed_conditional, typed_next, typed_operand, primary_step, unary_step, arguments_step, branches_step, chain_step, conditional_step, expressions_step, next_expression_step, operand_step, typed_element, typed_called, typed_call, typed_unary, typed_cast, typed_binary, select_typing, after_chains, with_branches, typed_branches, typed_expressions, with_more_faults}
use Rattle.ba_expressions.specs.Inferring.{goes_on, is_left_to_right}
use Rattle.ba_typing.specs.declared.names.Operator.{Operator}
use Rattle.ba_typing.specs.Faults.{tag_faults}
use Rattle.ba_typing.specs.Names.{Scope, meaning_of, name_of, punct_of, tag_of, type_named, unary_operator, binary_operator, words_of}

-- PRIMARY EXPRESSIONS

pub name-is : (name : Token) (scope : Scope) (calls : ℕ)
    → typed_primary (primary.Name name) scope calls ≡ typed_token name scope calls
unfolding typed_primary typed_unary_expression typed_arguments typed_chain typed_conditional typed_next
    typed_operand
    primary.roll-Primary denote.Hole.Carrier.roll
name-is name scope calls = ap (λ (f : Typing). f scope calls) (fold-roll-Primary Typing Typing Typings
    BranchTypings ChainTyping Typing Typings Typing OperandTyping primary_step unary_step arguments_step
    branches_step chain_step conditional_step expressions_step next_expression_step operand_step
    (Primary-F.Name name))

pub element-is : (name opener : Token) (index : Box Conditional) (closer : Token) (scope : Scope)
    (calls : ℕ)
    → typed_primary (primary.Element name opener index closer) scope calls
    ≡ typed_element name.at (meaning_of scope (name_of name)) (typed_conditional index.value scope
    calls)
unfolding typed_primary typed_unary_expression typed_arguments typed_chain typed_conditional typed_next
    typed_operand
    primary.roll-Primary denote.Hole.Carrier.roll
element-is name opener index closer scope calls = ap (λ (f : Typing). f scope calls) (fold-roll-Primary
    Typing Typing Typings BranchTypings ChainTyping Typing Typings Typing OperandTyping primary_step
    unary_step arguments_step
    branches_step chain_step conditional_step expressions_step next_expression_step operand_step
    (Primary-F.Element name opener index closer))

pub call-is : (name opener : Token) (a : Arguments) (closer : Token) (scope : Scope) (calls : ℕ)
    → typed_primary (primary.Call name opener a closer) scope calls
    ≡ typed_called name.at (typed_call true name.at (name_of name) (typed_arguments a) scope
    calls)
unfolding typed_primary typed_unary_expression typed_arguments typed_chain typed_conditional typed_next
    typed_operand
    primary.roll-Primary denote.Hole.Carrier.roll
call-is name opener a closer scope calls = ap (λ (f : Typing). f scope calls) (fold-roll-Primary Typing Typing
    Typings BranchTypings ChainTyping Typing Typings Typing OperandTyping primary_step unary_step
    arguments_step
    branches_step chain_step conditional_step expressions_step next_expression_step operand_step
    (Primary-F.Call name opener a closer))

pub constant-is : (constant : Token) (scope : Scope) (calls : ℕ)
    → typed_primary (primary.Constant constant) scope calls ≡ typed_token constant scope calls
unfolding typed_primary typed_unary_expression typed_arguments typed_chain typed_conditional typed_next
    typed_operand
    primary.roll-Primary denote.Hole.Carrier.roll
constant-is constant scope calls = ap (λ (f : Typing). f scope calls) (fold-roll-Primary Typing Typing Typings
    BranchTypings ChainTyping Typing Typings Typing OperandTyping primary_step unary_step arguments_step
    branches_step chain_step conditional_step expressions_step next_expression_step operand_step
    (Primary-F.Constant constant))

pub parenthesized-is : (opener : Token) (e : Box Conditional) (closer : Token) (scope : Scope)
    (calls : ℕ)
    → typed_primary (primary.Parenthesized opener e closer) scope calls ≡ record (typed_conditional e.value
    scope calls) { first = opener.at }
unfolding typed_primary typed_unary_expression typed_arguments typed_chain typed_conditional typed_next
    typed_operand
    primary.roll-Primary denote.Hole.Carrier.roll
parenthesized-is opener e closer scope calls = ap (λ (f : Typing). f scope calls) (fold-roll-Primary Typing
    Typing Typings BranchTypings ChainTyping Typing Typings Typing OperandTyping primary_step unary_step
    arguments_step
    branches_step chain_step conditional_step expressions_step next_expression_step operand_step
    (Primary-F.Parenthesized opener e closer))

-- UNARY EXPRESSIONS

pub prefix-is : (operator : Token) (a : Box Unary) (scope : Scope) (calls : ℕ)
    → typed_unary_expression (unary.Prefix operator a) scope calls
    ≡ typed_unary operator.at (unary_operator (punct_of operator)) (typed_unary_expression a.value
    scope calls)
unfolding typed_primary typed_unary_expression typed_arguments typed_chain typed_conditional typed_next
    typed_operand
    unary.roll-Unary denote.Hole.Carrier.roll
prefix-is operator a scope calls = ap (λ (f : Typing). f scope calls) (fold-roll-Unary Typing Typing Typings
    BranchTypings ChainTyping Typing Typings Typing OperandTyping primary_step unary_step arguments_step
    branches_step chain_step conditional_step expressions_step next_expression_step operand_step
    (Unary-F.Prefix operator a))

pub cast-is : (opener : Token) (name : TypeName) (closer : Token) (a : Box Unary) (scope : Scope)
    (calls : ℕ)
    → typed_unary_expression (unary.Cast opener name closer a) scope calls
    ≡ with_more_faults (tag_faults scope (tag_of (words_of name)))
    (typed_cast opener.at (type_named name) (typed_unary_expression a.value scope calls))
unfolding typed_primary typed_unary_expression typed_arguments typed_chain typed_conditional typed_next
    typed_operand
    unary.roll-Unary denote.Hole.Carrier.roll
cast-is opener name closer a scope calls = ap (λ (f : Typing). f scope calls) (fold-roll-Unary Typing Typing
    Typings BranchTypings ChainTyping Typing Typings Typing OperandTyping primary_step unary_step
    arguments_step
    branches_step chain_step conditional_step expressions_step next_expression_step operand_step
    (Unary-F.Cast opener name closer a))

pub primary-is : (p : Primary) (scope : Scope) (calls : ℕ)
    → typed_unary_expression (unary.Primary p) scope calls ≡ typed_primary p scope calls
unfolding typed_primary typed_unary_expression typed_arguments typed_chain typed_conditional typed_next
    typed_operand
    unary.roll-Unary denote.Hole.Carrier.roll
primary-is p scope calls = ap (λ (f : Typing). f scope calls) (fold-roll-Unary Typing Typing Typings
    BranchTypings ChainTyping Typing Typings Typing OperandTyping primary_step unary_step arguments_step
    branches_step chain_step conditional_step expressions_step next_expression_step operand_step
    (Unary-F.Primary p))

-- CHAINS AND OPERANDS

pub operand-is : (o : Operand) → typed_operand o
    ≡ record {
      first = typed_unary_expression (out-Operand o).first;
      chains = map typed_chain (out-Operand
          o).chains.items;
    }
unfolding typed_primary typed_unary_expression typed_arguments typed_chain typed_conditional typed_next
    typed_operand
operand-is o = fold_out-Operand Typing Typing Typings
    BranchTypings ChainTyping Typing Typings Typing OperandTyping primary_step unary_step arguments_step
    branches_step chain_step conditional_step expressions_step next_expression_step operand_step o

module _ (c : Chain) where
  abbrev operator-of : Operator
  operator-of = binary_operator (punct_of (out-Chain c).operator)

  abbrev operand-of : OperandTyping
  operand-of = typed_operand (out-Chain c).operand

  chain-at : (rest : Option (Box Chain)) → (out-Chain c).rest ≡ rest
      → typed_chain c
      ≡ chain_step (map-Chain Primary Unary Arguments Branches Chain Conditional Expressions NextExpression
      Operand
      Typing Typing Typings BranchTypings ChainTyping Typing Typings Typing OperandTyping
      typed_primary typed_unary_expression typed_arguments typed_branches typed_chain typed_conditional
      typed_expressions
      typed_next typed_operand (record (out-Chain c) { rest = rest }))
  unfolding typed_primary typed_unary_expression typed_arguments typed_chain typed_conditional typed_next
      typed_operand
  chain-at rest is = fold_out-Chain Typing Typing Typings
      BranchTypings ChainTyping Typing Typings Typing OperandTyping primary_step unary_step arguments_step
      branches_step chain_step conditional_step expressions_step next_expression_step operand_step c
      ∙ ap (λ rest. chain_step (map-Chain Primary Unary Arguments Branches Chain Conditional Expressions
      NextExpression Operand
      Typing Typing Typings BranchTypings ChainTyping Typing Typings Typing OperandTyping
      typed_primary typed_unary_expression typed_arguments typed_branches typed_chain typed_conditional
      typed_expressions
      typed_next typed_operand (record (out-Chain c) { rest = rest }))) is

  chain-none : (out-Chain c).rest ≡ None
      → typed_chain c ≡ chain_of (out-Chain c).level operator-of operand-of.first (operand-of.chains ++ [])
  unfolding typed_primary typed_unary_expression typed_arguments typed_chain typed_conditional typed_next
      typed_operand
  chain-none is = chain-at None is

  chain-some : (rest : Box Chain) → (out-Chain c).rest ≡ Some rest
      → typed_chain c ≡ chain_of (out-Chain c).level operator-of operand-of.first
      (operand-of.chains ++ typed_chain rest.value ∷ [])
  unfolding typed_primary typed_unary_expression typed_arguments typed_chain typed_conditional typed_next
      typed_operand
  chain-some rest is = chain-at (Some rest) is

-- the level that is kept of a chain
chain-level : (c : Chain) → (typed_chain c).level ≡ (out-Chain c).level
unfolding typed_primary typed_unary_expression typed_arguments typed_chain typed_conditional typed_next
    typed_operand
chain-level c = ap (λ (t : ChainTyping). t.level) (chain-at c (out-Chain c).rest refl)

tests-level : (c : Chain) (level : ℕ) (b : Bool) → nat_lt (out-Chain c).level level ≡ b
    → nat_lt (typed_chain c).level level ≡ b
tests-level c level b is = ap (λ n. nat_lt n level) (chain-level c) ∙ is

-- chains that bind tighter, and then others

tighter-all : (level : ℕ) (cs : List Chain) (others : List ChainTyping)
    → list_all (λ c. nat_lt (out-Chain c).level level) cs ≡ true
    → tighter level (map typed_chain cs ++ others) ≡ map typed_chain cs ++ tighter level others
tighter-all level [] others all = refl
tighter-all level (c ∷ cs) others all =
    let both = and_parts (nat_lt (out-Chain c).level level) (list_all (λ c. nat_lt (out-Chain c).level
    level) cs) all in
    ap (λ b. cond b (typed_chain c ∷ tighter level (map typed_chain cs ++ others)) []) (tests-level c level
    true both.0)
    ∙ ap (λ ts. typed_chain c ∷ ts) (tighter-all level cs others both.1)

looser-all : (level : ℕ) (cs : List Chain) (others : List ChainTyping)
    → list_all (λ c. nat_lt (out-Chain c).level level) cs ≡ true
    → from_looser level (map typed_chain cs ++ others) ≡ from_looser level others
looser-all level [] others all = refl
looser-all level (c ∷ cs) others all =
    let both = and_parts (nat_lt (out-Chain c).level level) (list_all (λ c. nat_lt (out-Chain c).level
    level) cs) all in
    ap (λ b. cond b (from_looser level (map typed_chain cs ++ others)) (typed_chain c ∷ (map typed_chain cs
    ++ others)))
    (tests-level c level true both.0)
    ∙ looser-all level cs others both.1

not-below : (m n : ℕ) → nat_le m n ≡ true → nat_lt n m ≡ false
not-below m n h = grind (arith, nat_tests, h)

-- a chain from left to right: its operator over the whole operand, and then its rest

module _ (c : Chain) (is_ordered : is_left_to_right c ≡ true) (scope : Scope) (calls : ℕ) (left : Typed) where
  abbrev inner-chains : List Chain
  inner-chains = (out-Operand (out-Chain c).operand).chains.items

  abbrev level-of : ℕ
  level-of = (out-Chain c).level

  facts : (list_all (λ inner. nat_lt (out-Chain inner).level level-of) inner-chains ≡ true)
      × (goes_on level-of (out-Chain c).rest ≡ true)
  facts = and_parts (list_all (λ inner. nat_lt (out-Chain inner).level level-of) inner-chains)
      (goes_on level-of (out-Chain c).rest) is_ordered

  chains-are : (operand-of c).chains ≡ map typed_chain inner-chains
  chains-are = ap (λ (o : OperandTyping). o.chains) (operand-is (out-Chain c).operand)

  abbrev pub combined : Typed
  combined = typed_binary (operator-of c) left (whole_operand (operand-of c) scope (calls + left.calls))

  over-all : (others later : List ChainTyping)
      → tighter level-of others ≡ [] → from_looser level-of others ≡ later
      → (chain_of level-of (operator-of c) (operand-of c).first ((operand-of c).chains ++ others)).over
      scope calls left
      ≡ after_chains scope calls combined later
  over-all others later none all =
      let inside : tighter level-of ((operand-of c).chains ++ others) ≡ (operand-of c).chains
      = subst (λ ts. tighter level-of (ts ++ others) ≡ ts) (sym chains-are)
      (tighter-all level-of inner-chains others facts.0
      ∙ ap (λ ts. map typed_chain inner-chains ++ ts) none ∙ append-nil (map typed_chain inner-chains)) in
      let outside : from_looser level-of ((operand-of c).chains ++ others) ≡ later
      = subst (λ ts. from_looser level-of (ts ++ others) ≡ later) (sym chains-are)
      (looser-all level-of inner-chains others facts.0 ∙ all) in
      ap (λ ts. after_chains scope calls (typed_binary (operator-of c) left
      (whole_operand (record { first = (operand-of c).first; chains = ts }) scope (calls + left.calls)))
      (from_looser level-of ((operand-of c).chains ++ others))) inside
      ∙ ap (λ ts. after_chains scope calls combined ts) outside

  pub chain-last : (out-Chain c).rest ≡ None → (typed_chain c).over scope calls left ≡ combined
  chain-last is = ap (λ (t : ChainTyping). t.over scope calls left) (chain-none c is) ∙ over-all [] [] refl
      refl

  pub chain-more : (rest : Box Chain) → (out-Chain c).rest ≡ Some rest
      → (typed_chain c).over scope calls left ≡ (typed_chain rest.value).over scope calls combined
  chain-more rest is =
      let later : nat_lt (typed_chain rest.value).level level-of ≡ false
      = tests-level rest.value level-of false (not-below level-of (out-Chain rest.value).level
      (subst (λ r. goes_on level-of r ≡ true) is facts.1)) in
      ap (λ (t : ChainTyping). t.over scope calls left) (chain-some c rest is)
      ∙ over-all (typed_chain rest.value ∷ []) (typed_chain rest.value ∷ [])
      (ap (λ b. cond b (typed_chain rest.value ∷ []) []) later)
      (ap (λ b. cond b [] (typed_chain rest.value ∷ [])) later)

-- CONDITIONAL EXPRESSIONS

module _ (c : Conditional) (scope : Scope) (calls : ℕ) where
  conditional-at : (branches : Option Branches) → (out-Conditional c).branches ≡ branches
      → typed_conditional c scope calls
      ≡ conditional_step (map-Conditional Primary Unary Arguments Branches Chain Conditional Expressions
      NextExpression Operand
      Typing Typing Typings BranchTypings ChainTyping Typing Typings Typing OperandTyping
      typed_primary typed_unary_expression typed_arguments typed_branches typed_chain typed_conditional
      typed_expressions
      typed_next typed_operand (record (out-Conditional c) { branches = branches })) scope calls
  unfolding typed_primary typed_unary_expression typed_arguments typed_chain typed_conditional typed_next
      typed_operand
  conditional-at branches is = ap (λ (f : Typing). f scope calls) (fold_out-Conditional Typing Typing Typings
      BranchTypings ChainTyping Typing Typings Typing OperandTyping primary_step unary_step arguments_step
      branches_step chain_step conditional_step expressions_step next_expression_step operand_step c
      ∙ ap (λ branches. conditional_step (map-Conditional Primary Unary Arguments Branches Chain
      Conditional Expressions NextExpression Operand
      Typing Typing Typings BranchTypings ChainTyping Typing Typings Typing OperandTyping
      typed_primary typed_unary_expression typed_arguments typed_branches typed_chain typed_conditional
      typed_expressions
      typed_next typed_operand (record (out-Conditional c) { branches = branches }))) is)

  pub conditional-plain : (out-Conditional c).branches ≡ None
      → typed_conditional c scope calls ≡ whole_operand (typed_operand (out-Conditional c).test) scope calls
  unfolding typed_primary typed_unary_expression typed_arguments typed_chain typed_conditional typed_next
      typed_operand
  conditional-plain is = conditional-at None is

  pub conditional-selects : (b : Branches) → (out-Conditional c).branches ≡ Some b
      → typed_conditional c scope calls
      ≡ select_typing (whole_operand (typed_operand (out-Conditional c).test)) (typed_conditional
      (out-Branches b).holds.value)
      (typed_conditional (out-Branches b).fails.value) scope calls
  unfolding typed_primary typed_unary_expression typed_arguments typed_chain typed_conditional typed_next
      typed_operand
  conditional-selects b is = conditional-at (Some b) is
      ∙ ap (λ two. with_branches (whole_operand (typed_operand (out-Conditional c).test)) (Some two) scope
      calls)
      (fold_out-Branches Typing Typing Typings BranchTypings ChainTyping Typing Typings Typing
      OperandTyping primary_step
      unary_step arguments_step
      branches_step chain_step conditional_step expressions_step next_expression_step operand_step b)

-- ARGUMENTS

pub next-is : (n : NextExpression) → typed_next n ≡ typed_conditional (out-NextExpression n).expression
unfolding typed_primary typed_unary_expression typed_arguments typed_chain typed_conditional typed_next
    typed_operand
next-is n = fold_out-NextExpression Typing Typing Typings BranchTypings ChainTyping Typing Typings Typing
    OperandTyping
    primary_step unary_step arguments_step
    branches_step chain_step conditional_step expressions_step next_expression_step operand_step n

arguments-at : (a : Arguments) (values : Option Expressions) → (out-Arguments a).values ≡ values
    → typed_arguments a ≡ arguments_step (map-Arguments Primary Unary Arguments Branches Chain Conditional
    Expressions NextExpression Operand
    Typing Typing Typings BranchTypings ChainTyping Typing Typings Typing OperandTyping
    typed_primary typed_unary_expression typed_arguments typed_branches typed_chain typed_conditional
    typed_expressions
    typed_next typed_operand (record (out-Arguments a) { values = values }))
unfolding typed_primary typed_unary_expression typed_arguments typed_chain typed_conditional typed_next
    typed_operand
arguments-at a values is = fold_out-Arguments Typing Typing Typings BranchTypings ChainTyping Typing
    Typings Typing
    OperandTyping primary_step unary_step arguments_step
    branches_step chain_step conditional_step expressions_step next_expression_step operand_step a
    ∙ ap (λ values. arguments_step (map-Arguments Primary Unary Arguments Branches Chain Conditional
    Expressions NextExpression Operand
    Typing Typing Typings BranchTypings ChainTyping Typing Typings Typing OperandTyping
    typed_primary typed_unary_expression typed_arguments typed_branches typed_chain typed_conditional
    typed_expressions
    typed_next typed_operand (record (out-Arguments a) { values = values }))) is

pub arguments-none : (a : Arguments) → (out-Arguments a).values ≡ None → typed_arguments a ≡ []
unfolding typed_primary typed_unary_expression typed_arguments typed_chain typed_conditional typed_next
    typed_operand
arguments-none a is = arguments-at a None is

pub arguments-some : (a : Arguments) (e : Expressions) → (out-Arguments a).values ≡ Some e
    → typed_arguments a ≡ typed_conditional (out-Expressions e).first.value ∷ map typed_next (out-Expressions
    e).rest.items
unfolding typed_primary typed_unary_expression typed_arguments typed_chain typed_conditional typed_next
    typed_operand
arguments-some a e is = arguments-at a (Some e) is ∙ fold_out-Expressions Typing Typing Typings BranchTypings
    ChainTyping Typing Typings Typing OperandTyping primary_step unary_step arguments_step
    branches_step chain_step conditional_step expressions_step next_expression_step operand_step e
