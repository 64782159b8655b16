-- Expressions, read back: the row of each type of the parser's trees, by induction on the trees.
use Rattle.std.proofs.Common.{◌≡◌, Option, None, Some, List, [], ◌∷◌, ◌++◌, map, refl, sym, ◌∙◌, ap, subst, Box, Global}
use Rattle.std.specs.Prelude.{option_map, unwrap_or}
use Rattle.std.proofs.lemmas.List.{append-nil}
use Rattle.ba_tokens.specs.declared.token.Token.{Token}
use Rattle.ba_trees.specs.Marks.{leaf}
use Rattle.ba_trees.specs.Marks as rule
use Rattle.ba_trees.specs.Views.{joined, optional}
use Rattle.ba_trees.specs.ExpressionMarks.{M, type_name_marks, primary_marks, unary_marks, arguments_marks, branches_marks, chain_marks, conditional_marks, expressions_marks, next_expression_marks, operand_marks}
use Rattle.ba_trees.specs.ExpressionMarks as marks
use Rattle.ba_trees.specs.declared.tree.expressions.TypeName.{TypeName}
use Rattle.ba_trees.specs.declared.tree.expressions.Primary.{Primary}
use Rattle.ba_trees.specs.declared.tree.expressions.Unary.{Unary}
use Rattle.ba_trees.specs.declared.tree.expressions.Arguments.{Arguments}
use Rattle.ba_trees.specs.declared.tree.expressions.Branches.{Branches}
use Rattle.ba_trees.specs.declared.tree.expressions.Chain.{Chain}
use Rattle.ba_trees.specs.declared.tree.expressions.Conditional.{Conditional}
use Rattle.ba_trees.specs.declared.tree.expressions.Expressions.{Expressions}
use Rattle.ba_trees.specs.declared.tree.expressions.NextExpression.{NextExpression}
use Rattle.ba_trees.specs.declared.tree.expressions.Operand.{Operand}
use Rattle.ba_trees.specs.declared.tree.expressions.Primary.TheOpen.{Primary-F, Unary-F, Arguments-F, Branches-F, Chain-F, Conditional-F, Expressions-F, NextExpression-F, Operand-F}
use Rattle.ba_trees.specs.declared.tree.expressions.Primary.TheShapes.{former-Arguments-values, former-Chain-rest, former-Conditional-branches}
use Rattle.ba_trees.specs.declared.tree.expressions.Primary.TheViews.{roll-Primary, roll-Unary, roll-Arguments, roll-Branches, roll-Chain, roll-Conditional, roll-Expressions, roll-NextExpression, roll-Operand}
use Rattle.ba_trees.specs.declared.tree.expressions.Primary.TheFolds.{map-Primary, map-Unary, map-Arguments, map-Branches, map-Chain, map-Conditional, map-Expressions, map-NextExpression, map-Operand, ind-Arguments, ind-Conditional, ind-NextExpression, fold-roll-Primary, fold-roll-Unary, fold-roll-Arguments, fold-roll-Branches, fold-roll-Chain, fold-roll-Conditional, fold-roll-Expressions, fold-roll-NextExpression, fold-roll-Operand}
use Rattle.ba_typing.specs.Expressions.{Typing, Typings, BranchTypings, ChainTyping, OperandTyping, primary_step, unary_step, arguments_step, branches_step, chain_step, conditional_step, expressions_step, next_expression_step, operand_step, typed_conditional, typed_operand, typed_chain, typed_unary_expression, typed_primary, typed_arguments, typed_next, with_branches, whole_operand, chain_of, rest_of_chain, typed_branches, typed_expressions}
use Rattle.ba_typing.specs.Names.{punct_of, binary_operator, words_of}
use Rattle.ba_tree_laws.proofs.Rows.{Row, Reads, token, words, primary, unary, conditional, arguments, chain, as_token, as_conditional, as_chain, items_of, items_append, items_all, items_none, two_of, none, both, front, deeper, inside, as_row}

-- WORDS OF A TYPE

pub leaves : (ts : List Token) →
    Reads (map leaf ts) (map token ts)
leaves [] = none
leaves (t ∷ ts) = front t (leaves ts)

pub words_all : (ts : List Token) →
    items_of as_token (map token ts) ≡ ts
words_all [] = refl
words_all (t ∷ ts) = ap (λ us. t ∷ us) (words_all ts)

pub type_row : (t : TypeName) → Reads (type_name_marks t) (words (words_of t) ∷ [])
type_row t = as_row (ap (λ ws. words ws ∷ []) (words_all t.words.items)) (inside rule.type_name (leaves
    t.words.items))

-- WHAT IS READ of each type

abbrev IsPrimary : M → Typing → Type 0
IsPrimary m s = Reads m (primary s ∷ [])

abbrev IsUnary : M → Typing → Type 0
IsUnary m s = Reads m (unary s ∷ [])

abbrev AreArguments : M → Typings → Type 0
AreArguments m s = Reads m (arguments s ∷ [])

record AreBranches (m : M) (s : BranchTypings) : Type 0 where
  question : Token
  colon : Token
  reads : Reads m (token question ∷ conditional s.0 ∷ token colon ∷ conditional s.1 ∷ [])

abbrev IsChain : M → ChainTyping → Type 0
IsChain m s = Reads m (chain s ∷ [])

abbrev pub IsConditional : M → Typing → Type 0
IsConditional m s = Reads m (conditional s ∷ [])

-- expressions with commas between
pub record AreListed (m : M) (s : Typings) : Type 0 where
  pub row : Row
  pub reads : Reads m row
  pub are : items_of as_conditional row ≡ s
  pub no_chains : items_of as_chain row ≡ []

pub record IsNext (m : M) (s : Typing) : Type 0 where
  pub comma : Token
  pub reads : Reads m (token comma ∷ conditional s ∷ [])

abbrev IsOperand : M → OperandTyping → Type 0
IsOperand m s = Reads m (unary s.first ∷ map chain s.chains)

abbrev Of : {A S : Type 0} → (M → S → Type 0) → (A → M) → (A → S) → Type 0
Of {A} holds marks typed = (x : A) × holds (marks x) (typed x)

abbrev OfPrimary : Type 0
OfPrimary = Of IsPrimary primary_marks typed_primary

abbrev OfUnary : Type 0
OfUnary = Of IsUnary unary_marks typed_unary_expression

abbrev OfArguments : Type 0
OfArguments = Of AreArguments arguments_marks typed_arguments

abbrev OfBranches : Type 0
OfBranches = Of AreBranches branches_marks typed_branches

abbrev OfChain : Type 0
OfChain = Of IsChain chain_marks typed_chain

abbrev OfConditional : Type 0
OfConditional = Of IsConditional conditional_marks typed_conditional

abbrev OfExpressions : Type 0
OfExpressions = Of AreListed expressions_marks typed_expressions

abbrev OfNext : Type 0
OfNext = Of IsNext next_expression_marks typed_next

abbrev OfOperand : Type 0
OfOperand = Of IsOperand operand_marks typed_operand

abbrev Bare : (Type 0 → Type 0 → Type 0 → Type 0 → Type 0 → Type 0 → Type 0 → Type 0 → Type 0 → Type 0) →
    Type 0
Bare F = F Primary Unary Arguments Branches Chain Conditional Expressions NextExpression Operand

abbrev Pieces : (Type 0 → Type 0 → Type 0 → Type 0 → Type 0 → Type 0 → Type 0 → Type 0 → Type 0 →
    Type 0) → Type 0
Pieces F = F OfPrimary OfUnary OfArguments OfBranches OfChain OfConditional OfExpressions OfNext OfOperand

abbrev Marked : (Type 0 → Type 0 → Type 0 → Type 0 → Type 0 → Type 0 → Type 0 → Type 0 → Type 0 →
    Type 0) → Type 0
Marked F = F M M M M M M M M M

abbrev Attributes : (Type 0 → Type 0 → Type 0 → Type 0 → Type 0 → Type 0 → Type 0 → Type 0 → Type 0 →
    Type 0) → Type 0
Attributes F = F Typing Typing Typings BranchTypings ChainTyping Typing Typings Typing OperandTyping

abbrev bare_primary : Pieces Primary-F → Bare Primary-F
bare_primary = map-Primary OfPrimary OfUnary OfArguments OfBranches OfChain OfConditional OfExpressions
    OfNext OfOperand
    Primary Unary Arguments Branches Chain Conditional Expressions NextExpression Operand
    (λ e. e.0) (λ e. e.0) (λ e. e.0) (λ e. e.0) (λ e. e.0) (λ e. e.0) (λ e. e.0) (λ e. e.0) (λ e. e.0)

abbrev marked_primary : Bare Primary-F → Marked Primary-F
marked_primary = map-Primary Primary Unary Arguments Branches Chain Conditional Expressions NextExpression
    Operand
    M M M M M M M M M primary_marks unary_marks arguments_marks branches_marks chain_marks conditional_marks
    expressions_marks next_expression_marks operand_marks

abbrev typings_primary : Bare Primary-F → Attributes Primary-F
typings_primary = map-Primary Primary Unary Arguments Branches Chain Conditional Expressions NextExpression
    Operand
    Typing Typing Typings BranchTypings ChainTyping Typing Typings Typing OperandTyping
    typed_primary typed_unary_expression typed_arguments typed_branches typed_chain typed_conditional
    typed_expressions
    typed_next typed_operand

abbrev bare_unary : Pieces Unary-F → Bare Unary-F
bare_unary = map-Unary OfPrimary OfUnary OfArguments OfBranches OfChain OfConditional OfExpressions OfNext
    OfOperand
    Primary Unary Arguments Branches Chain Conditional Expressions NextExpression Operand
    (λ e. e.0) (λ e. e.0) (λ e. e.0) (λ e. e.0) (λ e. e.0) (λ e. e.0) (λ e. e.0) (λ e. e.0) (λ e. e.0)

abbrev marked_unary : Bare Unary-F → Marked Unary-F
marked_unary = map-Unary Primary Unary Arguments Branches Chain Conditional Expressions NextExpression Operand
    M M M M M M M M M primary_marks unary_marks arguments_marks branches_marks chain_marks conditional_marks
    expressions_marks next_expression_marks operand_marks

abbrev typings_unary : Bare Unary-F → Attributes Unary-F
typings_unary = map-Unary Primary Unary Arguments Branches Chain Conditional Expressions NextExpression
    Operand
    Typing Typing Typings BranchTypings ChainTyping Typing Typings Typing OperandTyping
    typed_primary typed_unary_expression typed_arguments typed_branches typed_chain typed_conditional
    typed_expressions
    typed_next typed_operand

abbrev bare_arguments : Pieces Arguments-F → Bare Arguments-F
bare_arguments = map-Arguments OfPrimary OfUnary OfArguments OfBranches OfChain OfConditional OfExpressions
    OfNext OfOperand
    Primary Unary Arguments Branches Chain Conditional Expressions NextExpression Operand
    (λ e. e.0) (λ e. e.0) (λ e. e.0) (λ e. e.0) (λ e. e.0) (λ e. e.0) (λ e. e.0) (λ e. e.0) (λ e. e.0)

abbrev marked_arguments : Bare Arguments-F → Marked Arguments-F
marked_arguments = map-Arguments Primary Unary Arguments Branches Chain Conditional Expressions
    NextExpression Operand
    M M M M M M M M M primary_marks unary_marks arguments_marks branches_marks chain_marks conditional_marks
    expressions_marks next_expression_marks operand_marks

abbrev typings_arguments : Bare Arguments-F → Attributes Arguments-F
typings_arguments = map-Arguments Primary Unary Arguments Branches Chain Conditional Expressions
    NextExpression Operand
    Typing Typing Typings BranchTypings ChainTyping Typing Typings Typing OperandTyping
    typed_primary typed_unary_expression typed_arguments typed_branches typed_chain typed_conditional
    typed_expressions
    typed_next typed_operand

abbrev bare_branches : Pieces Branches-F → Bare Branches-F
bare_branches = map-Branches OfPrimary OfUnary OfArguments OfBranches OfChain OfConditional OfExpressions
    OfNext OfOperand
    Primary Unary Arguments Branches Chain Conditional Expressions NextExpression Operand
    (λ e. e.0) (λ e. e.0) (λ e. e.0) (λ e. e.0) (λ e. e.0) (λ e. e.0) (λ e. e.0) (λ e. e.0) (λ e. e.0)

abbrev marked_branches : Bare Branches-F → Marked Branches-F
marked_branches = map-Branches Primary Unary Arguments Branches Chain Conditional Expressions
    NextExpression Operand
    M M M M M M M M M primary_marks unary_marks arguments_marks branches_marks chain_marks conditional_marks
    expressions_marks next_expression_marks operand_marks

abbrev typings_branches : Bare Branches-F → Attributes Branches-F
typings_branches = map-Branches Primary Unary Arguments Branches Chain Conditional Expressions
    NextExpression Operand
    Typing Typing Typings BranchTypings ChainTyping Typing Typings Typing OperandTyping
    typed_primary typed_unary_expression typed_arguments typed_branches typed_chain typed_conditional
    typed_expressions
    typed_next typed_operand

abbrev bare_chain : Pieces Chain-F → Bare Chain-F
bare_chain = map-Chain OfPrimary OfUnary OfArguments OfBranches OfChain OfConditional OfExpressions OfNext
    OfOperand
    Primary Unary Arguments Branches Chain Conditional Expressions NextExpression Operand
    (λ e. e.0) (λ e. e.0) (λ e. e.0) (λ e. e.0) (λ e. e.0) (λ e. e.0) (λ e. e.0) (λ e. e.0) (λ e. e.0)

abbrev marked_chain : Bare Chain-F → Marked Chain-F
marked_chain = map-Chain Primary Unary Arguments Branches Chain Conditional Expressions NextExpression Operand
    M M M M M M M M M primary_marks unary_marks arguments_marks branches_marks chain_marks conditional_marks
    expressions_marks next_expression_marks operand_marks

abbrev typings_chain : Bare Chain-F → Attributes Chain-F
typings_chain = map-Chain Primary Unary Arguments Branches Chain Conditional Expressions NextExpression
    Operand
    Typing Typing Typings BranchTypings ChainTyping Typing Typings Typing OperandTyping
    typed_primary typed_unary_expression typed_arguments typed_branches typed_chain typed_conditional
    typed_expressions
    typed_next typed_operand

abbrev bare_conditional : Pieces Conditional-F → Bare Conditional-F
bare_conditional = map-Conditional OfPrimary OfUnary OfArguments OfBranches OfChain OfConditional
    OfExpressions OfNext OfOperand
    Primary Unary Arguments Branches Chain Conditional Expressions NextExpression Operand
    (λ e. e.0) (λ e. e.0) (λ e. e.0) (λ e. e.0) (λ e. e.0) (λ e. e.0) (λ e. e.0) (λ e. e.0) (λ e. e.0)

abbrev marked_conditional : Bare Conditional-F → Marked Conditional-F
marked_conditional = map-Conditional Primary Unary Arguments Branches Chain Conditional Expressions
    NextExpression Operand
    M M M M M M M M M primary_marks unary_marks arguments_marks branches_marks chain_marks conditional_marks
    expressions_marks next_expression_marks operand_marks

abbrev typings_conditional : Bare Conditional-F → Attributes Conditional-F
typings_conditional = map-Conditional Primary Unary Arguments Branches Chain Conditional Expressions
    NextExpression Operand
    Typing Typing Typings BranchTypings ChainTyping Typing Typings Typing OperandTyping
    typed_primary typed_unary_expression typed_arguments typed_branches typed_chain typed_conditional
    typed_expressions
    typed_next typed_operand

abbrev bare_expressions : Pieces Expressions-F → Bare Expressions-F
bare_expressions = map-Expressions OfPrimary OfUnary OfArguments OfBranches OfChain OfConditional
    OfExpressions OfNext OfOperand
    Primary Unary Arguments Branches Chain Conditional Expressions NextExpression Operand
    (λ e. e.0) (λ e. e.0) (λ e. e.0) (λ e. e.0) (λ e. e.0) (λ e. e.0) (λ e. e.0) (λ e. e.0) (λ e. e.0)

abbrev marked_expressions : Bare Expressions-F → Marked Expressions-F
marked_expressions = map-Expressions Primary Unary Arguments Branches Chain Conditional Expressions
    NextExpression Operand
    M M M M M M M M M primary_marks unary_marks arguments_marks branches_marks chain_marks conditional_marks
    expressions_marks next_expression_marks operand_marks

abbrev typings_expressions : Bare Expressions-F → Attributes Expressions-F
typings_expressions = map-Expressions Primary Unary Arguments Branches Chain Conditional Expressions
    NextExpression Operand
    Typing Typing Typings BranchTypings ChainTyping Typing Typings Typing OperandTyping
    typed_primary typed_unary_expression typed_arguments typed_branches typed_chain typed_conditional
    typed_expressions
    typed_next typed_operand

abbrev bare_next : Pieces NextExpression-F → Bare NextExpression-F
bare_next = map-NextExpression OfPrimary OfUnary OfArguments OfBranches OfChain OfConditional OfExpressions
    OfNext OfOperand
    Primary Unary Arguments Branches Chain Conditional Expressions NextExpression Operand
    (λ e. e.0) (λ e. e.0) (λ e. e.0) (λ e. e.0) (λ e. e.0) (λ e. e.0) (λ e. e.0) (λ e. e.0) (λ e. e.0)

abbrev marked_next : Bare NextExpression-F → Marked NextExpression-F
marked_next = map-NextExpression Primary Unary Arguments Branches Chain Conditional Expressions
    NextExpression Operand
    M M M M M M M M M primary_marks unary_marks arguments_marks branches_marks chain_marks conditional_marks
    expressions_marks next_expression_marks operand_marks

abbrev typings_next : Bare NextExpression-F → Attributes NextExpression-F
typings_next = map-NextExpression Primary Unary Arguments Branches Chain Conditional Expressions
    NextExpression Operand
    Typing Typing Typings BranchTypings ChainTyping Typing Typings Typing OperandTyping
    typed_primary typed_unary_expression typed_arguments typed_branches typed_chain typed_conditional
    typed_expressions
    typed_next typed_operand

abbrev bare_operand : Pieces Operand-F → Bare Operand-F
bare_operand = map-Operand OfPrimary OfUnary OfArguments OfBranches OfChain OfConditional OfExpressions
    OfNext OfOperand
    Primary Unary Arguments Branches Chain Conditional Expressions NextExpression Operand
    (λ e. e.0) (λ e. e.0) (λ e. e.0) (λ e. e.0) (λ e. e.0) (λ e. e.0) (λ e. e.0) (λ e. e.0) (λ e. e.0)

abbrev marked_operand : Bare Operand-F → Marked Operand-F
marked_operand = map-Operand Primary Unary Arguments Branches Chain Conditional Expressions NextExpression
    Operand
    M M M M M M M M M primary_marks unary_marks arguments_marks branches_marks chain_marks conditional_marks
    expressions_marks next_expression_marks operand_marks

abbrev typings_operand : Bare Operand-F → Attributes Operand-F
typings_operand = map-Operand Primary Unary Arguments Branches Chain Conditional Expressions NextExpression
    Operand
    Typing Typing Typings BranchTypings ChainTyping Typing Typings Typing OperandTyping
    typed_primary typed_unary_expression typed_arguments typed_branches typed_chain typed_conditional
    typed_expressions
    typed_next typed_operand

-- THE FORMS

primary_form : (y : Pieces Primary-F)
    → IsPrimary (marks.primary_step (marked_primary (bare_primary y))) (primary_step (typings_primary
    (bare_primary y)))
primary_form (Primary-F.Name name) = inside rule.primary (front name none)
primary_form (Primary-F.Element name opener index closer) =
    inside rule.primary (front name (front opener (both (deeper index.value.1) (front closer
    none))))
primary_form (Primary-F.Call name opener values closer) =
    inside rule.primary (front name (front opener (both (deeper values.1) (front closer none))))
primary_form (Primary-F.Constant constant) = inside rule.primary (front constant none)
primary_form (Primary-F.Parenthesized opener e closer) =
    inside rule.primary (front opener (both (deeper e.value.1) (front closer none)))

unary_form : (y : Pieces Unary-F)
    → IsUnary (marks.unary_step (marked_unary (bare_unary y))) (unary_step (typings_unary (bare_unary y)))
unary_form (Unary-F.Prefix operator e) = inside rule.unary (front operator (deeper e.value.1))
unary_form (Unary-F.Cast opener name closer e) =
    inside rule.unary (front opener (both (deeper (type_row name)) (front closer (deeper e.value.1))))
unary_form (Unary-F.Primary p) = inside rule.unary p.1

-- nothing, or expressions
listed : (o : Option OfExpressions) → AreListed
    (optional (former-Arguments-values.map Expressions M expressions_marks
    (former-Arguments-values.map OfExpressions Expressions (λ e. e.0) o)))
    (unwrap_or (former-Arguments-values.map Expressions Typings typed_expressions
    (former-Arguments-values.map OfExpressions Expressions (λ e. e.0) o)) [])
listed None = record { row = []; reads = none; are = refl; no_chains = refl }
listed (Some e) = e.1

arguments_form : (y : Pieces Arguments-F) →
    AreArguments (marks.arguments_step (marked_arguments (bare_arguments y)))
    (arguments_step (typings_arguments (bare_arguments y)))
arguments_form y = let all = listed y.values in
    as_row (ap (λ es. arguments es ∷ []) all.are) (inside rule.arguments all.reads)

branches_form : (y : Pieces Branches-F) →
    AreBranches (marks.branches_step (marked_branches (bare_branches y)))
    (branches_step (typings_branches (bare_branches y)))
branches_form y = record {
  question = y.question;
  colon = y.colon;
  reads = front y.question (both (deeper y.holds.value.1) (front y.colon (deeper y.fails.value.1)));
}

rest_form : (o : Option (Box OfChain Global)) → Reads
    (optional (option_map (λ (r : Box M Global). r.value) (former-Chain-rest.map Chain M chain_marks
    (former-Chain-rest.map OfChain Chain (λ e. e.0) o))))
    (map chain (rest_of_chain (former-Chain-rest.map Chain ChainTyping typed_chain
    (former-Chain-rest.map OfChain Chain (λ e. e.0) o))))
rest_form None = none
rest_form (Some c) = c.value.1

chains_are : (cs : List ChainTyping) → items_of as_chain (map chain cs) ≡ cs
chains_are = items_all as_chain chain (λ c. refl)

chain_form : (y : Pieces Chain-F) → IsChain (marks.chain_step (marked_chain (bare_chain y)))
    (chain_step (typings_chain (bare_chain y)))
chain_form y =
    let o = typed_operand y.operand.0 in
    let rest = rest_of_chain (former-Chain-rest.map Chain ChainTyping typed_chain
    (former-Chain-rest.map OfChain Chain (λ e. e.0) y.rest)) in
    let are : items_of as_chain (map chain o.chains ++ map chain rest) ≡ o.chains ++ rest
    = items_append as_chain (map chain o.chains) (map chain rest)
    ∙ ap (λ cs. cs ++ items_of as_chain (map chain rest)) (chains_are o.chains)
    ∙ ap (λ cs. o.chains ++ cs) (chains_are rest) in
    as_row (ap (λ cs. chain (chain_of y.level (binary_operator (punct_of y.operator)) o.first cs) ∷ [])
    are)
    (inside (rule.chain y.level) (front y.operator (deeper (both y.operand.1 (rest_form y.rest)))))

-- after the operand, nothing or the two branches
record AreMaybe (m : M) (s : Option BranchTypings) : Type 0 where
  row : Row
  reads : Reads m row
  are : two_of (items_of as_conditional row) ≡ s
  no_chains : items_of as_chain row ≡ []

maybe_form : (o : Option OfBranches) → AreMaybe
    (optional (former-Conditional-branches.map Branches M branches_marks
    (former-Conditional-branches.map OfBranches Branches (λ e. e.0) o)))
    (former-Conditional-branches.map Branches BranchTypings typed_branches
    (former-Conditional-branches.map OfBranches Branches (λ e. e.0) o))
maybe_form None = record { row = []; reads = none; are = refl; no_chains = refl }
maybe_form (Some b) = record {
  row = token b.1.question ∷ conditional (typed_branches b.0).0 ∷ token b.1.colon ∷ conditional
      (typed_branches b.0).1 ∷ [];
  reads = b.1.reads;
  are = refl;
  no_chains = refl;
}

conditional_form : (y : Pieces Conditional-F) →
    IsConditional (marks.conditional_step (marked_conditional (bare_conditional y)))
    (conditional_step (typings_conditional (bare_conditional y)))
conditional_form y =
    let o = typed_operand y.test.0 in
    let all = maybe_form y.branches in
    let chains : items_of as_chain (map chain o.chains ++ all.row) ≡ o.chains
    = items_append as_chain (map chain o.chains) all.row
    ∙ ap (λ cs. cs ++ items_of as_chain all.row) (chains_are o.chains)
    ∙ ap (λ cs. o.chains ++ cs) all.no_chains ∙ append-nil o.chains in
    let two : two_of (items_of as_conditional (map chain o.chains ++ all.row))
    ≡ former-Conditional-branches.map Branches BranchTypings typed_branches
    (former-Conditional-branches.map OfBranches Branches (λ e. e.0) y.branches)
    = ap two_of (items_append as_conditional (map chain o.chains) all.row
    ∙ ap (λ es. es ++ items_of as_conditional all.row) (items_none as_conditional chain (λ c. refl)
    o.chains)) ∙ all.are in
    as_row (ap (λ cs. conditional (with_branches (whole_operand (record { first = o.first; chains = cs }))
    (two_of (items_of as_conditional (map chain o.chains ++ all.row)))) ∷ []) chains
    ∙ ap (λ b. conditional (with_branches (whole_operand o) b) ∷ []) two)
    (inside rule.conditional (both y.test.1 all.reads))

-- expressions after commas
nexts : (es : List OfNext) → AreListed (joined (map next_expression_marks (map (λ e. e.0) es)))
    (map typed_next (map (λ e. e.0) es))
nexts [] = record { row = []; reads = none; are = refl; no_chains = refl }
nexts (e ∷ es) = let rest = nexts es in record {
  row = token e.1.comma ∷ conditional (typed_next e.0) ∷ rest.row;
  reads = both e.1.reads rest.reads;
  are = ap (λ ts. typed_next e.0 ∷ ts) rest.are;
  no_chains = rest.no_chains;
}

expressions_form : (y : Pieces Expressions-F) →
    AreListed (marks.expressions_step (marked_expressions (bare_expressions y)))
    (expressions_step (typings_expressions (bare_expressions y)))
expressions_form y = let rest = nexts y.rest.items in record {
  row = conditional (typed_conditional y.first.value.0) ∷ rest.row;
  reads = both y.first.value.1 rest.reads;
  are = ap (λ ts. typed_conditional y.first.value.0 ∷ ts) rest.are;
  no_chains = rest.no_chains;
}

next_form : (y : Pieces NextExpression-F) → IsNext (marks.next_expression_step (marked_next (bare_next y)))
    (next_expression_step (typings_next (bare_next y)))
next_form y = record { comma = y.comma; reads = front y.comma y.expression.1 }

chains_row : (cs : List OfChain) → Reads (joined (map chain_marks (map (λ e. e.0) cs)))
    (map chain (map typed_chain (map (λ e. e.0) cs)))
chains_row [] = none
chains_row (c ∷ cs) = both c.1 (chains_row cs)

operand_form : (y : Pieces Operand-F) → IsOperand (marks.operand_step (marked_operand (bare_operand y)))
    (operand_step (typings_operand (bare_operand y)))
operand_form y = both y.first.1 (chains_row y.chains.items)

-- WHOLE TREES

by_form : {A F S : Type 0} (holds : M → S → Type 0) (marks : A → M) (typed : A → S) (roll : F → A)
    (mark : F → M) (step : F → S) → ((z : F) → marks (roll z) ≡ mark z) → ((z : F) → typed (roll z) ≡ step z)
    → (z x : F) → z ≡ x → holds (mark z) (step z) → holds (marks (roll x)) (typed (roll x))
by_form holds marks typed roll mark step mark_is step_is z x is h =
    subst (λ y. holds (marks (roll y)) (typed (roll y))) is
    (subst (λ k. holds k (typed (roll z))) (sym (mark_is z)) (subst (holds (mark z)) (sym (step_is z)) h))

primary_layer : (x : Bare Primary-F) (y : Pieces Primary-F) → bare_primary y ≡ x →
    IsPrimary (primary_marks (roll-Primary x)) (typed_primary (roll-Primary x))
unfolding typed_conditional typed_operand typed_chain typed_unary_expression typed_primary typed_arguments
    typed_next
primary_layer x y is = by_form IsPrimary primary_marks typed_primary roll-Primary (λ z. marks.primary_step
    (marked_primary z)) (λ z. primary_step (typings_primary z))
    (fold-roll-Primary M M M M M M M M M marks.primary_step marks.unary_step marks.arguments_step
    marks.branches_step
    marks.chain_step marks.conditional_step marks.expressions_step marks.next_expression_step
    marks.operand_step)
    (fold-roll-Primary Typing Typing Typings BranchTypings ChainTyping Typing Typings Typing OperandTyping
    primary_step
    unary_step arguments_step branches_step chain_step conditional_step expressions_step next_expression_step
    operand_step) (bare_primary y) x is (primary_form y)

unary_layer : (x : Bare Unary-F) (y : Pieces Unary-F) → bare_unary y ≡ x →
    IsUnary (unary_marks (roll-Unary x)) (typed_unary_expression (roll-Unary x))
unfolding typed_conditional typed_operand typed_chain typed_unary_expression typed_primary typed_arguments
    typed_next
unary_layer x y is = by_form IsUnary unary_marks typed_unary_expression roll-Unary (λ z. marks.unary_step
    (marked_unary z)) (λ z. unary_step (typings_unary z))
    (fold-roll-Unary M M M M M M M M M marks.primary_step marks.unary_step marks.arguments_step
    marks.branches_step
    marks.chain_step marks.conditional_step marks.expressions_step marks.next_expression_step
    marks.operand_step)
    (fold-roll-Unary Typing Typing Typings BranchTypings ChainTyping Typing Typings Typing OperandTyping
    primary_step
    unary_step arguments_step branches_step chain_step conditional_step expressions_step next_expression_step
    operand_step) (bare_unary y) x is (unary_form y)

arguments_layer : (x : Bare Arguments-F) (y : Pieces Arguments-F) → bare_arguments y ≡ x →
    AreArguments (arguments_marks (roll-Arguments x)) (typed_arguments (roll-Arguments x))
unfolding typed_conditional typed_operand typed_chain typed_unary_expression typed_primary typed_arguments
    typed_next
arguments_layer x y is = by_form AreArguments arguments_marks typed_arguments roll-Arguments (λ z.
    marks.arguments_step (marked_arguments z)) (λ z. arguments_step (typings_arguments z))
    (fold-roll-Arguments M M M M M M M M M marks.primary_step marks.unary_step marks.arguments_step
    marks.branches_step
    marks.chain_step marks.conditional_step marks.expressions_step marks.next_expression_step
    marks.operand_step)
    (fold-roll-Arguments Typing Typing Typings BranchTypings ChainTyping Typing Typings Typing
    OperandTyping primary_step
    unary_step arguments_step branches_step chain_step conditional_step expressions_step next_expression_step
    operand_step) (bare_arguments y) x is (arguments_form y)

branches_layer : (x : Bare Branches-F) (y : Pieces Branches-F) → bare_branches y ≡ x →
    AreBranches (branches_marks (roll-Branches x)) (typed_branches (roll-Branches x))
unfolding typed_conditional typed_operand typed_chain typed_unary_expression typed_primary typed_arguments
    typed_next
branches_layer x y is = by_form AreBranches branches_marks typed_branches roll-Branches (λ z.
    marks.branches_step (marked_branches z)) (λ z. branches_step (typings_branches z))
    (fold-roll-Branches M M M M M M M M M marks.primary_step marks.unary_step marks.arguments_step
    marks.branches_step
    marks.chain_step marks.conditional_step marks.expressions_step marks.next_expression_step
    marks.operand_step)
    (fold-roll-Branches Typing Typing Typings BranchTypings ChainTyping Typing Typings Typing OperandTyping
    primary_step
    unary_step arguments_step branches_step chain_step conditional_step expressions_step next_expression_step
    operand_step) (bare_branches y) x is (branches_form y)

chain_layer : (x : Bare Chain-F) (y : Pieces Chain-F) → bare_chain y ≡ x →
    IsChain (chain_marks (roll-Chain x)) (typed_chain (roll-Chain x))
unfolding typed_conditional typed_operand typed_chain typed_unary_expression typed_primary typed_arguments
    typed_next
chain_layer x y is = by_form IsChain chain_marks typed_chain roll-Chain (λ z. marks.chain_step
    (marked_chain z)) (λ z. chain_step (typings_chain z))
    (fold-roll-Chain M M M M M M M M M marks.primary_step marks.unary_step marks.arguments_step
    marks.branches_step
    marks.chain_step marks.conditional_step marks.expressions_step marks.next_expression_step
    marks.operand_step)
    (fold-roll-Chain Typing Typing Typings BranchTypings ChainTyping Typing Typings Typing OperandTyping
    primary_step
    unary_step arguments_step branches_step chain_step conditional_step expressions_step next_expression_step
    operand_step) (bare_chain y) x is (chain_form y)

conditional_layer : (x : Bare Conditional-F) (y : Pieces Conditional-F) → bare_conditional y ≡ x →
    IsConditional (conditional_marks (roll-Conditional x)) (typed_conditional (roll-Conditional x))
unfolding typed_conditional typed_operand typed_chain typed_unary_expression typed_primary typed_arguments
    typed_next
conditional_layer x y is = by_form IsConditional conditional_marks typed_conditional roll-Conditional (λ z.
    marks.conditional_step (marked_conditional z)) (λ z. conditional_step (typings_conditional z))
    (fold-roll-Conditional M M M M M M M M M marks.primary_step marks.unary_step marks.arguments_step
    marks.branches_step
    marks.chain_step marks.conditional_step marks.expressions_step marks.next_expression_step
    marks.operand_step)
    (fold-roll-Conditional Typing Typing Typings BranchTypings ChainTyping Typing Typings Typing
    OperandTyping primary_step
    unary_step arguments_step branches_step chain_step conditional_step expressions_step next_expression_step
    operand_step) (bare_conditional y) x is (conditional_form y)

expressions_layer : (x : Bare Expressions-F) (y : Pieces Expressions-F) → bare_expressions y ≡ x →
    AreListed (expressions_marks (roll-Expressions x)) (typed_expressions (roll-Expressions x))
unfolding typed_conditional typed_operand typed_chain typed_unary_expression typed_primary typed_arguments
    typed_next
expressions_layer x y is = by_form AreListed expressions_marks typed_expressions roll-Expressions (λ z.
    marks.expressions_step (marked_expressions z)) (λ z. expressions_step (typings_expressions z))
    (fold-roll-Expressions M M M M M M M M M marks.primary_step marks.unary_step marks.arguments_step
    marks.branches_step
    marks.chain_step marks.conditional_step marks.expressions_step marks.next_expression_step
    marks.operand_step)
    (fold-roll-Expressions Typing Typing Typings BranchTypings ChainTyping Typing Typings Typing
    OperandTyping primary_step
    unary_step arguments_step branches_step chain_step conditional_step expressions_step next_expression_step
    operand_step) (bare_expressions y) x is (expressions_form y)

next_layer : (x : Bare NextExpression-F) (y : Pieces NextExpression-F) → bare_next y ≡ x →
    IsNext (next_expression_marks (roll-NextExpression x)) (typed_next (roll-NextExpression x))
unfolding typed_conditional typed_operand typed_chain typed_unary_expression typed_primary typed_arguments
    typed_next
next_layer x y is = by_form IsNext next_expression_marks typed_next roll-NextExpression (λ z.
    marks.next_expression_step (marked_next z)) (λ z. next_expression_step (typings_next z))
    (fold-roll-NextExpression M M M M M M M M M marks.primary_step marks.unary_step marks.arguments_step
    marks.branches_step
    marks.chain_step marks.conditional_step marks.expressions_step marks.next_expression_step
    marks.operand_step)
    (fold-roll-NextExpression Typing Typing Typings BranchTypings ChainTyping Typing Typings Typing
    OperandTyping primary_step
    unary_step arguments_step branches_step chain_step conditional_step expressions_step next_expression_step
    operand_step) (bare_next y) x is (next_form y)

operand_layer : (x : Bare Operand-F) (y : Pieces Operand-F) → bare_operand y ≡ x →
    IsOperand (operand_marks (roll-Operand x)) (typed_operand (roll-Operand x))
unfolding typed_conditional typed_operand typed_chain typed_unary_expression typed_primary typed_arguments
    typed_next
operand_layer x y is = by_form IsOperand operand_marks typed_operand roll-Operand (λ z. marks.operand_step
    (marked_operand z)) (λ z. operand_step (typings_operand z))
    (fold-roll-Operand M M M M M M M M M marks.primary_step marks.unary_step marks.arguments_step
    marks.branches_step
    marks.chain_step marks.conditional_step marks.expressions_step marks.next_expression_step
    marks.operand_step)
    (fold-roll-Operand Typing Typing Typings BranchTypings ChainTyping Typing Typings Typing OperandTyping
    primary_step
    unary_step arguments_step branches_step chain_step conditional_step expressions_step next_expression_step
    operand_step) (bare_operand y) x is (operand_form y)

pub conditional_row : (c : Conditional) → IsConditional (conditional_marks c) (typed_conditional c)
conditional_row = ind-Conditional
    (λ x. IsPrimary (primary_marks x) (typed_primary x))
    (λ x. IsUnary (unary_marks x) (typed_unary_expression x))
    (λ x. AreArguments (arguments_marks x) (typed_arguments x))
    (λ x. AreBranches (branches_marks x) (typed_branches x))
    (λ x. IsChain (chain_marks x) (typed_chain x))
    (λ x. IsConditional (conditional_marks x) (typed_conditional x))
    (λ x. AreListed (expressions_marks x) (typed_expressions x))
    (λ x. IsNext (next_expression_marks x) (typed_next x))
    (λ x. IsOperand (operand_marks x) (typed_operand x))
    primary_layer unary_layer arguments_layer branches_layer chain_layer conditional_layer expressions_layer
    next_layer operand_layer

pub next_row : (c : NextExpression) → IsNext (next_expression_marks c) (typed_next c)
next_row = ind-NextExpression
    (λ x. IsPrimary (primary_marks x) (typed_primary x))
    (λ x. IsUnary (unary_marks x) (typed_unary_expression x))
    (λ x. AreArguments (arguments_marks x) (typed_arguments x))
    (λ x. AreBranches (branches_marks x) (typed_branches x))
    (λ x. IsChain (chain_marks x) (typed_chain x))
    (λ x. IsConditional (conditional_marks x) (typed_conditional x))
    (λ x. AreListed (expressions_marks x) (typed_expressions x))
    (λ x. IsNext (next_expression_marks x) (typed_next x))
    (λ x. IsOperand (operand_marks x) (typed_operand x))
    primary_layer unary_layer arguments_layer branches_layer chain_layer conditional_layer expressions_layer
    next_layer operand_layer

pub arguments_row : (c : Arguments) → Reads (arguments_marks c) (arguments (typed_arguments c) ∷ [])
arguments_row = ind-Arguments
    (λ x. IsPrimary (primary_marks x) (typed_primary x))
    (λ x. IsUnary (unary_marks x) (typed_unary_expression x))
    (λ x. AreArguments (arguments_marks x) (typed_arguments x))
    (λ x. AreBranches (branches_marks x) (typed_branches x))
    (λ x. IsChain (chain_marks x) (typed_chain x))
    (λ x. IsConditional (conditional_marks x) (typed_conditional x))
    (λ x. AreListed (expressions_marks x) (typed_expressions x))
    (λ x. IsNext (next_expression_marks x) (typed_next x))
    (λ x. IsOperand (operand_marks x) (typed_operand x))
    primary_layer unary_layer arguments_layer branches_layer chain_layer conditional_layer expressions_layer
    next_layer operand_layer

-- the expressions after commas of a vector
pub nexts_row : (es : List NextExpression) →
    AreListed (joined (map next_expression_marks es)) (map typed_next es)
nexts_row [] = record { row = []; reads = none; are = refl; no_chains = refl }
nexts_row (e ∷ es) = let one = next_row e in let rest = nexts_row es in record {
  row = token one.comma ∷ conditional (typed_next e) ∷ rest.row;
  reads = both one.reads rest.reads;
  are = ap (λ ts. typed_next e ∷ ts) rest.are;
  no_chains = rest.no_chains;
}
