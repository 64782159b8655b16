-- Each expression of the grammar: what is said of it holds of its typed tree, if there is no fault in it. By
-- induction on the parser's trees, one line a form.
use Rattle.std.proofs.Common.{◌≡◌, ℕ, ◌+◌, ℤ, pos, Bool, true, false, Option, None, Some, List, [], ◌∷◌, ◌++◌, cond, map, refl, sym, subst, int_le, T, Box, Global}
use Rattle.std.specs.Prelude.{nat_lt, unwrap_or}
use Rattle.std.proofs.lemmas.Bool.{and_from}
use Rattle.ba_tokens.specs.declared.token.TokenKind.{TokenKind}
use Rattle.ba_tokens.specs.declared.token.TokenKind.TheVariants as kind
use Rattle.ba_numbers.specs.Numbers.{IsIn, is_in, converted, least_of, greatest_of}
use Rattle.ba_numbers.proofs.Conversions.{converted_in_range}
use Rattle.ba_numbers.specs.declared.ids.At.{At}
use Rattle.ba_numbers.specs.declared.ids.VarId.{VarId}
use Rattle.ba_numbers.specs.declared.numbers.CType.{CType}
use Rattle.ba_numbers.specs.declared.numbers.CType.TheVariants.{I32}
use Rattle.ba_numbers.specs.declared.numbers.UnOp.{UnOp}
use Rattle.ba_trees.specs.declared.tree.expressions.Primary.{Primary}
use Rattle.ba_trees.specs.declared.tree.expressions.Unary.{Unary}
use Rattle.ba_trees.specs.declared.tree.expressions.Arguments.{Arguments}
use Rattle.ba_trees.specs.declared.tree.expressions.Branches.{Branches}
use Rattle.ba_trees.specs.declared.tree.expressions.Chain.{Chain}
use Rattle.ba_trees.specs.declared.tree.expressions.Conditional.{Conditional}
use Rattle.ba_trees.specs.declared.tree.expressions.Expressions.{Expressions}
use Rattle.ba_trees.specs.declared.tree.expressions.NextExpression.{NextExpression}
use Rattle.ba_trees.specs.declared.tree.expressions.Operand.{Operand}
use Rattle.ba_trees.specs.declared.tree.expressions.Primary.TheOpen.{Primary-F, Unary-F, Arguments-F, Branches-F, Chain-F, Conditional-F, Expressions-F, NextExpression-F, Operand-F}
use Rattle.ba_trees.specs.declared.tree.expressions.Primary.TheShapes.{former-Arguments-values, former-Chain-rest, former-Conditional-branches}
use Rattle.ba_trees.specs.declared.tree.expressions.Primary.TheViews.{roll-Primary, roll-Unary, roll-Arguments, roll-Branches, roll-Chain, roll-Conditional, roll-Expressions, roll-NextExpression, roll-Operand}
use Rattle.ba_trees.specs.declared.tree.expressions.Primary.TheFolds.{map-Primary, map-Unary, map-Arguments, map-Branches, map-Chain, map-Conditional, map-Expressions, map-NextExpression, map-Operand, ind-Arguments, ind-Conditional, ind-NextExpression, fold-roll-Primary, fold-roll-Unary, fold-roll-Arguments, fold-roll-Branches, fold-roll-Chain, fold-roll-Conditional, fold-roll-Expressions, fold-roll-NextExpression, fold-roll-Operand}
use Rattle.ba_tree.specs.declared.tree.Parts.{Parts}
use Rattle.ba_typing.specs.Expressions.{Typed, OperandTyping, chain_of, whole_operand, tighter, from_looser, typed_token_kind, Typing, Typings, BranchTypings, ChainTyping, typed_unary, typed_cast, with_more_faults, typed_binary, typed_constant_kind, parenthesized, select_typing, with_branches, rest_of_chain, after_chains, primary_step, unary_step, arguments_step, branches_step, chain_step, conditional_step, expressions_step, next_expression_step, operand_step, typed_conditional, typed_operand, typed_chain, typed_unary_expression, typed_primary, typed_arguments, typed_next, typed_branches, typed_expressions}
use Rattle.ba_typing.specs.Faults.{tag_faults}
use Rattle.ba_typing.specs.declared.names.Operator.{Operator}
use Rattle.ba_typing.specs.declared.names.Operator.TheVariants as operator
use Rattle.ba_typing.specs.Names.{Scope, meaning_of, name_of, punct_of, words_of, type_named, tag_of, unary_operator, binary_operator}
use Rattle.ba_typing_facts.proofs.OperatorFacts.{IsWellTyped, unary_typed, more_typed, cast_typed, binary_typed, select_typed, constant_typed}
use Rattle.ba_typing_facts.proofs.ScopeFacts.{IsScope, meaning_is}
use Rattle.ba_typing_facts.proofs.PrimaryFacts.{IsNoArray, unnamed, IsWellTyping, AreWellTypings, name_typed, name_no_array, element_typed, called_typed}

pub is_in_from : (t : CType) (z : ℤ) → IsIn t z → is_in t z ≡ true
is_in_from t z h = and_from _ _ (from (int_le (least_of t) z) h.low.le) (from (int_le z
    (greatest_of t)) h.high.le)
  where
    from : (b : Bool) → T b → b ≡ true
    from true h = refl
    from false h = absurd h

module _ (p : Parts) (owned : List VarId) where
  abbrev AreBranches : BranchTypings → Type 0
  AreBranches b = IsWellTyping p owned b.0 × IsWellTyping p owned b.1

  -- the rest of a chain keeps it of what is before
  record IsChain (c : ChainTyping) : Type 0 where
    by : (scope : Scope) → IsScope p owned scope → (before : ℕ) (left : Typed) →
        IsWellTyped p owned before left
        → IsWellTyped p owned before (c.over scope before left)
    no_name : (scope : Scope) (before : ℕ) (left : Typed) → (c.over scope before left).name ≡ None

  abbrev AreChains : List ChainTyping → Type 0
  AreChains [] = Unit {0}
  AreChains (c ∷ cs) = IsChain c × AreChains cs

  abbrev IsOperand : OperandTyping → Type 0
  IsOperand o = IsWellTyping p owned o.first × AreChains o.chains

  -- parts of a tree of which it holds
  abbrev Of : {A S : Type 0} → (S → Type 0) → (A → S) → Type 0
  Of {A} holds see = (x : A) × holds (see x)

  abbrev OfPrimary : Type 0
  OfPrimary = Of (IsWellTyping p owned) typed_primary

  abbrev OfUnary : Type 0
  OfUnary = Of (IsWellTyping p owned) typed_unary_expression

  abbrev OfArguments : Type 0
  OfArguments = Of (AreWellTypings p owned) typed_arguments

  abbrev OfBranches : Type 0
  OfBranches = Of AreBranches typed_branches

  abbrev OfChain : Type 0
  OfChain = Of IsChain typed_chain

  abbrev OfConditional : Type 0
  OfConditional = Of (IsWellTyping p owned) typed_conditional

  abbrev OfExpressions : Type 0
  OfExpressions = Of (AreWellTypings p owned) typed_expressions

  abbrev OfNext : Type 0
  OfNext = Of (IsWellTyping p owned) typed_next

  abbrev OfOperand : Type 0
  OfOperand = Of IsOperand typed_operand

  abbrev Bare : (Type 0 → Type 0 → Type 0 → Type 0 → Type 0 → Type 0 → Type 0 → Type 0 → Type 0 → Type 0)
      → Type 0
  Bare F = F Primary Unary Arguments Branches Chain Conditional Expressions NextExpression Operand

  abbrev Pieces : (Type 0 → Type 0 → Type 0 → Type 0 → Type 0 → Type 0 → Type 0 → Type 0 → Type 0 → Type 0)
      → Type 0
  Pieces F = F OfPrimary OfUnary OfArguments OfBranches OfChain OfConditional OfExpressions OfNext OfOperand

  abbrev Attributes : (Type 0 → Type 0 → Type 0 → Type 0 → Type 0 → Type 0 → Type 0 → Type 0 → Type 0 →
      Type 0)
      → Type 0
  Attributes F = F Typing Typing Typings BranchTypings ChainTyping Typing Typings Typing OperandTyping

  abbrev bare_primary : Pieces Primary-F → Bare Primary-F
  bare_primary = map-Primary OfPrimary OfUnary OfArguments OfBranches OfChain OfConditional OfExpressions
      OfNext OfOperand
      Primary Unary Arguments Branches Chain Conditional Expressions NextExpression Operand
      (λ e. e.0) (λ e. e.0) (λ e. e.0) (λ e. e.0) (λ e. e.0) (λ e. e.0) (λ e. e.0) (λ e. e.0) (λ e. e.0)

  abbrev attributes_primary : Bare Primary-F → Attributes Primary-F
  attributes_primary = map-Primary Primary Unary Arguments Branches Chain Conditional Expressions
      NextExpression
      Operand
      Typing Typing Typings BranchTypings ChainTyping Typing Typings Typing OperandTyping
      typed_primary typed_unary_expression typed_arguments typed_branches typed_chain typed_conditional
      typed_expressions
      typed_next typed_operand

  abbrev bare_unary : Pieces Unary-F → Bare Unary-F
  bare_unary = map-Unary OfPrimary OfUnary OfArguments OfBranches OfChain OfConditional OfExpressions OfNext
      OfOperand
      Primary Unary Arguments Branches Chain Conditional Expressions NextExpression Operand
      (λ e. e.0) (λ e. e.0) (λ e. e.0) (λ e. e.0) (λ e. e.0) (λ e. e.0) (λ e. e.0) (λ e. e.0) (λ e. e.0)

  abbrev attributes_unary : Bare Unary-F → Attributes Unary-F
  attributes_unary = map-Unary Primary Unary Arguments Branches Chain Conditional Expressions
      NextExpression Operand
      Typing Typing Typings BranchTypings ChainTyping Typing Typings Typing OperandTyping
      typed_primary typed_unary_expression typed_arguments typed_branches typed_chain typed_conditional
      typed_expressions
      typed_next typed_operand

  abbrev bare_arguments : Pieces Arguments-F → Bare Arguments-F
  bare_arguments = map-Arguments OfPrimary OfUnary OfArguments OfBranches OfChain OfConditional
      OfExpressions OfNext OfOperand
      Primary Unary Arguments Branches Chain Conditional Expressions NextExpression Operand
      (λ e. e.0) (λ e. e.0) (λ e. e.0) (λ e. e.0) (λ e. e.0) (λ e. e.0) (λ e. e.0) (λ e. e.0) (λ e. e.0)

  abbrev attributes_arguments : Bare Arguments-F → Attributes Arguments-F
  attributes_arguments = map-Arguments Primary Unary Arguments Branches Chain Conditional Expressions
      NextExpression Operand
      Typing Typing Typings BranchTypings ChainTyping Typing Typings Typing OperandTyping
      typed_primary typed_unary_expression typed_arguments typed_branches typed_chain typed_conditional
      typed_expressions
      typed_next typed_operand

  abbrev bare_branches : Pieces Branches-F → Bare Branches-F
  bare_branches = map-Branches OfPrimary OfUnary OfArguments OfBranches OfChain OfConditional OfExpressions
      OfNext OfOperand
      Primary Unary Arguments Branches Chain Conditional Expressions NextExpression Operand
      (λ e. e.0) (λ e. e.0) (λ e. e.0) (λ e. e.0) (λ e. e.0) (λ e. e.0) (λ e. e.0) (λ e. e.0) (λ e. e.0)

  abbrev attributes_branches : Bare Branches-F → Attributes Branches-F
  attributes_branches = map-Branches Primary Unary Arguments Branches Chain Conditional Expressions
      NextExpression
      Operand
      Typing Typing Typings BranchTypings ChainTyping Typing Typings Typing OperandTyping
      typed_primary typed_unary_expression typed_arguments typed_branches typed_chain typed_conditional
      typed_expressions
      typed_next typed_operand

  abbrev bare_chain : Pieces Chain-F → Bare Chain-F
  bare_chain = map-Chain OfPrimary OfUnary OfArguments OfBranches OfChain OfConditional OfExpressions OfNext
      OfOperand
      Primary Unary Arguments Branches Chain Conditional Expressions NextExpression Operand
      (λ e. e.0) (λ e. e.0) (λ e. e.0) (λ e. e.0) (λ e. e.0) (λ e. e.0) (λ e. e.0) (λ e. e.0) (λ e. e.0)

  abbrev attributes_chain : Bare Chain-F → Attributes Chain-F
  attributes_chain = map-Chain Primary Unary Arguments Branches Chain Conditional Expressions
      NextExpression Operand
      Typing Typing Typings BranchTypings ChainTyping Typing Typings Typing OperandTyping
      typed_primary typed_unary_expression typed_arguments typed_branches typed_chain typed_conditional
      typed_expressions
      typed_next typed_operand

  abbrev bare_conditional : Pieces Conditional-F → Bare Conditional-F
  bare_conditional = map-Conditional OfPrimary OfUnary OfArguments OfBranches OfChain OfConditional
      OfExpressions OfNext OfOperand
      Primary Unary Arguments Branches Chain Conditional Expressions NextExpression Operand
      (λ e. e.0) (λ e. e.0) (λ e. e.0) (λ e. e.0) (λ e. e.0) (λ e. e.0) (λ e. e.0) (λ e. e.0) (λ e. e.0)

  abbrev attributes_conditional : Bare Conditional-F → Attributes Conditional-F
  attributes_conditional = map-Conditional Primary Unary Arguments Branches Chain Conditional Expressions
      NextExpression Operand
      Typing Typing Typings BranchTypings ChainTyping Typing Typings Typing OperandTyping
      typed_primary typed_unary_expression typed_arguments typed_branches typed_chain typed_conditional
      typed_expressions
      typed_next typed_operand

  abbrev bare_expressions : Pieces Expressions-F → Bare Expressions-F
  bare_expressions = map-Expressions OfPrimary OfUnary OfArguments OfBranches OfChain OfConditional
      OfExpressions OfNext OfOperand
      Primary Unary Arguments Branches Chain Conditional Expressions NextExpression Operand
      (λ e. e.0) (λ e. e.0) (λ e. e.0) (λ e. e.0) (λ e. e.0) (λ e. e.0) (λ e. e.0) (λ e. e.0) (λ e. e.0)

  abbrev attributes_expressions : Bare Expressions-F → Attributes Expressions-F
  attributes_expressions = map-Expressions Primary Unary Arguments Branches Chain Conditional Expressions
      NextExpression Operand
      Typing Typing Typings BranchTypings ChainTyping Typing Typings Typing OperandTyping
      typed_primary typed_unary_expression typed_arguments typed_branches typed_chain typed_conditional
      typed_expressions
      typed_next typed_operand

  abbrev bare_next : Pieces NextExpression-F → Bare NextExpression-F
  bare_next = map-NextExpression OfPrimary OfUnary OfArguments OfBranches OfChain OfConditional
      OfExpressions OfNext OfOperand
      Primary Unary Arguments Branches Chain Conditional Expressions NextExpression Operand
      (λ e. e.0) (λ e. e.0) (λ e. e.0) (λ e. e.0) (λ e. e.0) (λ e. e.0) (λ e. e.0) (λ e. e.0) (λ e. e.0)

  abbrev attributes_next : Bare NextExpression-F → Attributes NextExpression-F
  attributes_next = map-NextExpression Primary Unary Arguments Branches Chain Conditional Expressions
      NextExpression Operand
      Typing Typing Typings BranchTypings ChainTyping Typing Typings Typing OperandTyping
      typed_primary typed_unary_expression typed_arguments typed_branches typed_chain typed_conditional
      typed_expressions
      typed_next typed_operand

  abbrev bare_operand : Pieces Operand-F → Bare Operand-F
  bare_operand = map-Operand OfPrimary OfUnary OfArguments OfBranches OfChain OfConditional OfExpressions
      OfNext OfOperand
      Primary Unary Arguments Branches Chain Conditional Expressions NextExpression Operand
      (λ e. e.0) (λ e. e.0) (λ e. e.0) (λ e. e.0) (λ e. e.0) (λ e. e.0) (λ e. e.0) (λ e. e.0) (λ e. e.0)

  abbrev attributes_operand : Bare Operand-F → Attributes Operand-F
  attributes_operand = map-Operand Primary Unary Arguments Branches Chain Conditional Expressions
      NextExpression
      Operand
      Typing Typing Typings BranchTypings ChainTyping Typing Typings Typing OperandTyping
      typed_primary typed_unary_expression typed_arguments typed_branches typed_chain typed_conditional
      typed_expressions
      typed_next typed_operand

  constant_form : (before : ℕ) (at : At) (k : TokenKind) →
      IsWellTyped p owned before (typed_constant_kind at k)
  constant_form before at (kind.Constant t z) =
      constant_typed p owned before at t (converted t z) (is_in_from t (converted t z)
      (converted_in_range t z))
  constant_form before at k = constant_typed p owned before at I32 (pos 0) refl

  inside : (at : At) (s : Typing) → IsWellTyping p owned s → IsWellTyping p owned (parenthesized at s)
  inside at s h = record {
    by = λ scope sound before. let e = h.by scope sound before in record {
      named = λ name is. let b = e.named name is in record { calls = b.calls; height = b.height };
      right = e.right;
    };
    no_array = h.no_array;
  }

  constant_unnamed : (at : At) (k : TokenKind) → (typed_constant_kind at k).name ≡ None
  constant_unnamed at (kind.Constant t z) = refl
  constant_unnamed at k = refl

  constant_token : (at : At) (k : TokenKind) (scope : Scope) → IsNoArray scope (typed_constant_kind at k)
  constant_token at k scope = unnamed scope (typed_constant_kind at k) (constant_unnamed at k)

  token_form : (at : At) (k : TokenKind) → IsWellTyping p owned (typed_token_kind at k)
  token_form at (kind.Name name) = record {
    by = λ scope sound before. name_typed p owned before at name
        (meaning_of scope name) (meaning_is p owned scope sound name);
    no_array = λ scope before. name_no_array scope at name;
  }
  token_form at (kind.Keyword k) = record {
    by = λ scope sound before. constant_form before at (kind.Keyword k);
    no_array = λ scope before. constant_token at (kind.Keyword k) scope;
  }
  token_form at (kind.Constant t z) = record {
    by = λ scope sound before. constant_form before at (kind.Constant t z);
    no_array = λ scope before. constant_token at (kind.Constant t z) scope;
  }
  token_form at kind.Quoted = record {
    by = λ scope sound before. constant_form before at kind.Quoted;
    no_array = λ scope before. constant_token at kind.Quoted scope;
  }
  token_form at (kind.Punct q) = record {
    by = λ scope sound before. constant_form before at (kind.Punct q);
    no_array = λ scope before. constant_token at (kind.Punct q) scope;
  }

  primary_form : (y : Pieces Primary-F) →
      IsWellTyping p owned (primary_step (attributes_primary (bare_primary y)))
  primary_form (Primary-F.Name name) = token_form name.at name.kind
  primary_form (Primary-F.Element name opener index closer) = record {
    by = λ scope sound before. element_typed p owned before name.at (meaning_of scope (name_of name))
        (typed_conditional index.value.0 scope before) (meaning_is p owned scope sound (name_of name))
        (index.value.1.by scope sound before);
    no_array = λ scope before t v wrong. cc;
  }
  primary_form (Primary-F.Call name opener arguments closer) = record {
    by = λ scope sound before. called_typed p owned scope sound name.at (name_of name)
        (typed_arguments arguments.0) arguments.1 before;
    no_array = λ scope before t v wrong. cc;
  }
  primary_form (Primary-F.Constant constant) = token_form constant.at constant.kind
  primary_form (Primary-F.Parenthesized opener e closer) = inside opener.at
      (typed_conditional e.value.0) e.value.1

  unary_unnamed : (at : At) (op : Option UnOp) (a : Typed) → (typed_unary at op a).name ≡ None
  unary_unnamed at None a = refl
  unary_unnamed at (Some op) a = refl

  cast_unnamed : (at : At) (t : Option CType) (a : Typed) → (typed_cast at t a).name ≡ None
  cast_unnamed at None a = refl
  cast_unnamed at (Some t) a = refl

  unary_form : (y : Pieces Unary-F) → IsWellTyping p owned (unary_step (attributes_unary (bare_unary y)))
  unary_form (Unary-F.Prefix operator operand) = record {
    by = λ scope sound before. unary_typed p owned before operator.at (unary_operator
        (punct_of operator))
        (typed_unary_expression operand.value.0 scope before) (operand.value.1.by scope sound before);
    no_array = λ scope before.
        let e = typed_unary_expression operand.value.0 scope before in
        let op = unary_operator (punct_of operator) in
        unnamed scope (typed_unary operator.at op e) (unary_unnamed operator.at op e);
  }
  unary_form (Unary-F.Cast opener name closer operand) = record {
    by = λ scope sound before.
        let e = typed_unary_expression operand.value.0 scope before in
        more_typed p owned before (tag_faults scope (tag_of (words_of name)))
        (typed_cast opener.at (type_named name) e)
        (cast_typed p owned before opener.at (type_named name) e (operand.value.1.by scope sound before));
    no_array = λ scope before.
        let e = typed_unary_expression operand.value.0 scope before in
        unnamed scope (with_more_faults (tag_faults scope (tag_of (words_of name)))
        (typed_cast opener.at (type_named name) e)) (cast_unnamed opener.at (type_named name) e);
  }
  unary_form (Unary-F.Primary e) = e.1

  maybe : (o : Option OfExpressions) → AreWellTypings p owned (unwrap_or
      (former-Arguments-values.map Expressions Typings typed_expressions
      (former-Arguments-values.map OfExpressions Expressions (λ e. e.0) o)) [])
  maybe None = tt
  maybe (Some es) = es.1

  -- CHAINS

  rest_form : (o : Option (Box OfChain Global)) → AreChains (rest_of_chain
      (former-Chain-rest.map Chain ChainTyping typed_chain (former-Chain-rest.map OfChain Chain (λ e. e.0)
      o)))
  rest_form None = tt
  rest_form (Some c) = (c.value.1, tt)

  all_chains : (cs ds : List ChainTyping) → AreChains cs → AreChains ds → AreChains (cs ++ ds)
  all_chains [] ds h k = k
  all_chains (c ∷ cs) ds h k = (h.0, all_chains cs ds h.1 k)

  tighter_chains : (level : ℕ) (cs : List ChainTyping) → AreChains cs → AreChains (tighter level cs)
  tighter_chains level [] h = tt
  tighter_chains level (c ∷ cs) h = from (nat_lt c.level level) (tighter_chains level cs h.1) where
    from : (b : Bool) → AreChains (tighter level cs) → AreChains (cond b (c ∷ tighter level cs) [])
    from true more = (h.0, more)
    from false more = tt

  looser_chains : (level : ℕ) (cs : List ChainTyping) → AreChains cs → AreChains (from_looser level cs)
  looser_chains level [] h = tt
  looser_chains level (c ∷ cs) h = from (nat_lt c.level level) (looser_chains level cs h.1) where
    from : (b : Bool) → AreChains (from_looser level cs) → AreChains (cond b (from_looser level cs) (c ∷ cs))
    from true more = more
    from false more = h

  over_chains : (scope : Scope) → IsScope p owned scope → (before : ℕ) (left : Typed) →
      IsWellTyped p owned before left
      → (cs : List ChainTyping) → AreChains cs →
      IsWellTyped p owned before (after_chains scope before left cs)
  over_chains scope sound before left h [] k = h
  over_chains scope sound before left h (c ∷ cs) k =
      over_chains scope sound before (c.over scope before left) (k.0.by scope sound before left h) cs k.1

  still_unnamed : (scope : Scope) (before : ℕ) (left : Typed) → left.name ≡ None → (cs : List ChainTyping)
      → AreChains cs → (after_chains scope before left cs).name ≡ None
  still_unnamed scope before left h [] k = h
  still_unnamed scope before left h (c ∷ cs) k =
      still_unnamed scope before (c.over scope before left) (k.0.no_name scope before left) cs k.1

  no_array_over : (scope : Scope) (before : ℕ) (left : Typed) → IsNoArray scope left
      → (cs : List ChainTyping) → AreChains cs → IsNoArray scope (after_chains scope before left cs)
  no_array_over scope before left h [] k = h
  no_array_over scope before left h (c ∷ cs) k = unnamed scope (after_chains scope before left (c ∷ cs))
      (still_unnamed scope before (c.over scope before left) (k.0.no_name scope before left) cs k.1)

  operand_whole : (o : OperandTyping) → IsOperand o → IsWellTyping p owned (whole_operand o)
  operand_whole o h = record {
    by = λ scope sound before. over_chains scope sound before (o.first scope before)
        (h.0.by scope sound before) o.chains h.1;
    no_array = λ scope before. no_array_over scope before (o.first scope before) (h.0.no_array scope before)
        o.chains h.1;
  }

  binary_unnamed : (op : Operator) (a b : Typed) → (typed_binary op a b).name ≡ None
  binary_unnamed (operator.Value op) a b = refl
  binary_unnamed operator.AndAlso a b = refl
  binary_unnamed operator.OrElse a b = refl

  chain_whole : (level : ℕ) (op : Operator) (first : Typing) (cs : List ChainTyping) →
      IsWellTyping p owned first
      → AreChains cs → IsChain (chain_of level op first cs)
  chain_whole level op first cs h k = record {
    by = λ scope sound before left is.
        let o : OperandTyping = record { first = first; chains = tighter level cs } in
        let e = whole_operand o scope (before + left.calls) in
        over_chains scope sound before (typed_binary op left e)
        (binary_typed p owned before left e is
        ((operand_whole o (h, tighter_chains level cs k)).by scope sound (before + left.calls)) op)
        (from_looser level cs) (looser_chains level cs k);
    no_name = λ scope before left.
        let o : OperandTyping = record { first = first; chains = tighter level cs } in
        let e = whole_operand o scope (before + left.calls) in
        still_unnamed scope before (typed_binary op left e) (binary_unnamed op left e)
        (from_looser level cs) (looser_chains level cs k);
  }

  arguments_form : (y : Pieces Arguments-F) → AreWellTypings p owned (arguments_step (attributes_arguments
      (bare_arguments y)))
  arguments_form y = maybe y.values

  branches_form : (y : Pieces Branches-F) →
      AreBranches (branches_step (attributes_branches (bare_branches y)))
  branches_form y = (y.holds.value.1, y.fails.value.1)

  chain_form : (y : Pieces Chain-F) → IsChain (chain_step (attributes_chain (bare_chain y)))
  chain_form y = let o = typed_operand y.operand.0 in
      let rest = rest_of_chain (former-Chain-rest.map Chain ChainTyping typed_chain
      (former-Chain-rest.map OfChain Chain (λ e. e.0) y.rest)) in
      chain_whole y.level (binary_operator (punct_of y.operator)) o.first (o.chains ++ rest)
      y.operand.1.0 (all_chains o.chains rest y.operand.1.1 (rest_form y.rest))

  select_form : (test : Typing) (b : BranchTypings) → IsWellTyping p owned test → AreBranches b
      → IsWellTyping p owned (select_typing test b.0 b.1)
  select_form test b h k = record {
    by = λ scope sound before.
        let w = test scope before in
        let x = b.0 scope (before + w.calls) in
        let y = b.1 scope (before + w.calls + x.calls) in
        select_typed p owned before w x y (h.by scope sound before) (k.0.by scope sound (before + w.calls))
        (k.1.by scope sound (before + w.calls + x.calls));
    no_array = λ scope before t v wrong. cc;
  }

  with_branches_form : (test : Typing) → IsWellTyping p owned test → (o : Option OfBranches)
      → IsWellTyping p owned (with_branches test
      (former-Conditional-branches.map Branches BranchTypings typed_branches
      (former-Conditional-branches.map OfBranches Branches (λ e. e.0) o)))
  with_branches_form test h None = h
  with_branches_form test h (Some b) = select_form test (typed_branches b.0) h b.1

  conditional_form : (y : Pieces Conditional-F)
      → IsWellTyping p owned (conditional_step (attributes_conditional (bare_conditional y)))
  conditional_form y = with_branches_form (whole_operand (typed_operand y.test.0))
      (operand_whole (typed_operand y.test.0) y.test.1) y.branches

  row : (es : List OfNext) → AreWellTypings p owned (map typed_next (map (λ e. e.0) es))
  row [] = tt
  row (e ∷ es) = (e.1, row es)

  expressions_form : (y : Pieces Expressions-F)
      → AreWellTypings p owned (expressions_step (attributes_expressions (bare_expressions y)))
  expressions_form y = (y.first.value.1, row y.rest.items)

  next_form : (y : Pieces NextExpression-F) →
      IsWellTyping p owned (next_expression_step (attributes_next (bare_next y)))
  next_form y = y.expression.1

  row_of_chains : (cs : List OfChain) → AreChains (map typed_chain (map (λ e. e.0) cs))
  row_of_chains [] = tt
  row_of_chains (c ∷ cs) = (c.1, row_of_chains cs)

  operand_form : (y : Pieces Operand-F) → IsOperand (operand_step (attributes_operand (bare_operand y)))
  operand_form y = (y.first.1, row_of_chains y.chains.items)

  -- it holds of a tree if it holds of what its form makes of the parts
  by_form : {A F S : Type 0} (holds : S → Type 0) (see : A → S) (roll : F → A) (step : F → S)
      → ((z : F) → see (roll z) ≡ step z) → (z x : F) → z ≡ x → holds (step z) → holds (see (roll x))
  by_form holds see roll step rolls z x is h = subst (λ y. holds (see (roll y))) is (subst holds (sym
      (rolls z)) h)

  primary_layer : (x : Bare Primary-F) (y : Pieces Primary-F) → bare_primary y ≡ x → IsWellTyping p owned
      (typed_primary (roll-Primary x))
  unfolding typed_conditional typed_operand typed_chain typed_unary_expression typed_primary
      typed_arguments typed_next
  primary_layer x y is = by_form (IsWellTyping p owned) typed_primary roll-Primary (λ z. primary_step
      (attributes_primary z))
      (fold-roll-Primary Typing Typing Typings BranchTypings ChainTyping Typing Typings Typing
      OperandTyping primary_step
      unary_step
      arguments_step branches_step chain_step conditional_step expressions_step next_expression_step
      operand_step) (bare_primary y) x is (primary_form y)

  unary_layer : (x : Bare Unary-F) (y : Pieces Unary-F) → bare_unary y ≡ x → IsWellTyping p owned
      (typed_unary_expression (roll-Unary x))
  unfolding typed_conditional typed_operand typed_chain typed_unary_expression typed_primary
      typed_arguments typed_next
  unary_layer x y is = by_form (IsWellTyping p owned) typed_unary_expression roll-Unary (λ z. unary_step
      (attributes_unary z))
      (fold-roll-Unary Typing Typing Typings BranchTypings ChainTyping Typing Typings Typing OperandTyping
      primary_step
      unary_step
      arguments_step branches_step chain_step conditional_step expressions_step next_expression_step
      operand_step) (bare_unary y) x is (unary_form y)

  arguments_layer : (x : Bare Arguments-F) (y : Pieces Arguments-F) → bare_arguments y ≡ x
      → AreWellTypings p owned (typed_arguments (roll-Arguments x))
  unfolding typed_conditional typed_operand typed_chain typed_unary_expression typed_primary
      typed_arguments typed_next
  arguments_layer x y is = by_form (AreWellTypings p owned) typed_arguments roll-Arguments (λ z.
      arguments_step
      (attributes_arguments z))
      (fold-roll-Arguments Typing Typing Typings BranchTypings ChainTyping Typing Typings Typing
      OperandTyping primary_step
      unary_step
      arguments_step branches_step chain_step conditional_step expressions_step next_expression_step
      operand_step) (bare_arguments y) x is (arguments_form y)

  branches_layer : (x : Bare Branches-F) (y : Pieces Branches-F) → bare_branches y ≡ x → AreBranches
      (typed_branches (roll-Branches x))
  unfolding typed_conditional typed_operand typed_chain typed_unary_expression typed_primary
      typed_arguments typed_next
  branches_layer x y is = by_form AreBranches typed_branches roll-Branches (λ z. branches_step
      (attributes_branches z))
      (fold-roll-Branches Typing Typing Typings BranchTypings ChainTyping Typing Typings Typing
      OperandTyping primary_step
      unary_step
      arguments_step branches_step chain_step conditional_step expressions_step next_expression_step
      operand_step) (bare_branches y) x is (branches_form y)

  chain_layer : (x : Bare Chain-F) (y : Pieces Chain-F) → bare_chain y ≡ x → IsChain (typed_chain
      (roll-Chain x))
  unfolding typed_conditional typed_operand typed_chain typed_unary_expression typed_primary
      typed_arguments typed_next
  chain_layer x y is = by_form IsChain typed_chain roll-Chain (λ z. chain_step (attributes_chain z))
      (fold-roll-Chain Typing Typing Typings BranchTypings ChainTyping Typing Typings Typing OperandTyping
      primary_step
      unary_step
      arguments_step branches_step chain_step conditional_step expressions_step next_expression_step
      operand_step) (bare_chain y) x is (chain_form y)

  conditional_layer : (x : Bare Conditional-F) (y : Pieces Conditional-F) → bare_conditional y ≡ x
      → IsWellTyping p owned (typed_conditional (roll-Conditional x))
  unfolding typed_conditional typed_operand typed_chain typed_unary_expression typed_primary
      typed_arguments typed_next
  conditional_layer x y is = by_form (IsWellTyping p owned) typed_conditional roll-Conditional
      (λ z. conditional_step (attributes_conditional z))
      (fold-roll-Conditional Typing Typing Typings BranchTypings ChainTyping Typing Typings Typing
      OperandTyping
      primary_step unary_step
      arguments_step branches_step chain_step conditional_step expressions_step next_expression_step
      operand_step) (bare_conditional y) x is (conditional_form y)

  expressions_layer : (x : Bare Expressions-F) (y : Pieces Expressions-F) → bare_expressions y ≡ x
      → AreWellTypings p owned (typed_expressions (roll-Expressions x))
  unfolding typed_conditional typed_operand typed_chain typed_unary_expression typed_primary
      typed_arguments typed_next
  expressions_layer x y is = by_form (AreWellTypings p owned) typed_expressions roll-Expressions
      (λ z. expressions_step (attributes_expressions z))
      (fold-roll-Expressions Typing Typing Typings BranchTypings ChainTyping Typing Typings Typing
      OperandTyping
      primary_step unary_step
      arguments_step branches_step chain_step conditional_step expressions_step next_expression_step
      operand_step) (bare_expressions y) x is (expressions_form y)

  next_layer : (x : Bare NextExpression-F) (y : Pieces NextExpression-F) → bare_next y ≡ x →
      IsWellTyping p owned
      (typed_next (roll-NextExpression x))
  unfolding typed_conditional typed_operand typed_chain typed_unary_expression typed_primary
      typed_arguments typed_next
  next_layer x y is = by_form (IsWellTyping p owned) typed_next roll-NextExpression (λ z. next_expression_step
      (attributes_next z))
      (fold-roll-NextExpression Typing Typing Typings BranchTypings ChainTyping Typing Typings Typing
      OperandTyping
      primary_step unary_step
      arguments_step branches_step chain_step conditional_step expressions_step next_expression_step
      operand_step) (bare_next y) x is (next_form y)

  operand_layer : (x : Bare Operand-F) (y : Pieces Operand-F) → bare_operand y ≡ x → IsOperand
      (typed_operand (roll-Operand x))
  unfolding typed_conditional typed_operand typed_chain typed_unary_expression typed_primary
      typed_arguments typed_next
  operand_layer x y is = by_form IsOperand typed_operand roll-Operand (λ z. operand_step
      (attributes_operand z))
      (fold-roll-Operand Typing Typing Typings BranchTypings ChainTyping Typing Typings Typing
      OperandTyping primary_step
      unary_step
      arguments_step branches_step chain_step conditional_step expressions_step next_expression_step
      operand_step) (bare_operand y) x is (operand_form y)

  pub conditional_typing : (x : Conditional) → IsWellTyping p owned (typed_conditional x)
  conditional_typing = ind-Conditional
      (λ x. IsWellTyping p owned (typed_primary x)) (λ x. IsWellTyping p owned (typed_unary_expression x))
      (λ x. AreWellTypings p owned (typed_arguments x)) (λ x. AreBranches (typed_branches x))
      (λ x. IsChain (typed_chain x)) (λ x. IsWellTyping p owned (typed_conditional x))
      (λ x. AreWellTypings p owned (typed_expressions x)) (λ x. IsWellTyping p owned (typed_next x))
      (λ x. IsOperand (typed_operand x))
      primary_layer unary_layer arguments_layer branches_layer chain_layer conditional_layer expressions_layer
      next_layer operand_layer

  pub next_typing : (x : NextExpression) → IsWellTyping p owned (typed_next x)
  next_typing = ind-NextExpression
      (λ x. IsWellTyping p owned (typed_primary x)) (λ x. IsWellTyping p owned (typed_unary_expression x))
      (λ x. AreWellTypings p owned (typed_arguments x)) (λ x. AreBranches (typed_branches x))
      (λ x. IsChain (typed_chain x)) (λ x. IsWellTyping p owned (typed_conditional x))
      (λ x. AreWellTypings p owned (typed_expressions x)) (λ x. IsWellTyping p owned (typed_next x))
      (λ x. IsOperand (typed_operand x))
      primary_layer unary_layer arguments_layer branches_layer chain_layer conditional_layer expressions_layer
      next_layer operand_layer

  pub arguments_typing : (x : Arguments) → AreWellTypings p owned (typed_arguments x)
  arguments_typing = ind-Arguments
      (λ x. IsWellTyping p owned (typed_primary x)) (λ x. IsWellTyping p owned (typed_unary_expression x))
      (λ x. AreWellTypings p owned (typed_arguments x)) (λ x. AreBranches (typed_branches x))
      (λ x. IsChain (typed_chain x)) (λ x. IsWellTyping p owned (typed_conditional x))
      (λ x. AreWellTypings p owned (typed_expressions x)) (λ x. IsWellTyping p owned (typed_next x))
      (λ x. IsOperand (typed_operand x))
      primary_layer unary_layer arguments_layer branches_layer chain_layer conditional_layer expressions_layer
      next_layer operand_layer
