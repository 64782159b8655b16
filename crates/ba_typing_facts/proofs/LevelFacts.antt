-- The levels of the parser's tree bound how deep statements nest in it.
use Rattle.std.proofs.Common.{◌≡◌, ℕ, suc, ◌-◌, Option, None, Some, List, [], ◌∷◌, ◌++◌, map, option_map, append_assoc, append-nil, refl, sym, ◌∙◌, ap, subst, arith, Box, Global}
use Rattle.ba_tokens.specs.declared.token.Token.{Token}
use Rattle.ba_trees.specs.Marks.{Rule, Mark, leaf, leave, up, node_of, one_deeper, levels}
use Rattle.ba_trees.specs.Views.{joined, optional}
use Rattle.ba_trees.specs.ExpressionMarks.{M, type_name_marks, primary_step, unary_step, arguments_step, branches_step, chain_step, conditional_step, expressions_step, next_expression_step, operand_step, primary_marks, unary_marks, arguments_marks, branches_marks, chain_marks, conditional_marks, expressions_marks, next_expression_marks, operand_marks}
use Rattle.ba_trees.specs.declared.tree.expressions.TypeName.{TypeName}
use Rattle.ba_trees.specs.declared.tree.expressions.Primary.{Primary}
use Rattle.ba_trees.specs.declared.tree.expressions.Unary.{Unary}
use Rattle.ba_trees.specs.declared.tree.expressions.Arguments.{Arguments}
use Rattle.ba_trees.specs.declared.tree.expressions.Branches.{Branches}
use Rattle.ba_trees.specs.declared.tree.expressions.Chain.{Chain}
use Rattle.ba_trees.specs.declared.tree.expressions.Conditional.{Conditional}
use Rattle.ba_trees.specs.declared.tree.expressions.Expressions.{Expressions}
use Rattle.ba_trees.specs.declared.tree.expressions.NextExpression.{NextExpression}
use Rattle.ba_trees.specs.declared.tree.expressions.Operand.{Operand}
use Rattle.ba_trees.specs.declared.tree.expressions.Primary.TheOpen.{Primary-F, Unary-F}
use Rattle.ba_trees.specs.declared.tree.expressions.Primary.TheShapes.{former-Arguments-values, former-Chain-rest}
use Rattle.ba_trees.specs.declared.tree.expressions.Primary.TheViews.{roll-Primary, roll-Unary, roll-Arguments, roll-Branches, roll-Chain, roll-Conditional, roll-Expressions, roll-NextExpression, roll-Operand}
use Rattle.ba_trees.specs.declared.tree.expressions.Primary.TheFolds.{map-Primary, map-Unary, ind-Conditional, ind-Arguments, ind-NextExpression, fold-roll-Primary, fold-roll-Unary, fold-roll-Arguments, fold-roll-Branches, fold-roll-Chain, fold-roll-Conditional, fold-roll-Expressions, fold-roll-NextExpression, fold-roll-Operand}

-- MARKS that go as often up as down

pub record IsEven (f : List Mark) : Type 0 where
  pub joins : (d : ℕ) (g : List Mark) → levels d (f ++ g) ≡ levels d f ++ levels d g

pub none : IsEven []
none = record { joins = λ d g. refl }

pub front : (t : Token) → {f : List Mark} → IsEven f → IsEven (leaf t ∷ f)
front t h = record { joins = λ d g. ap (λ ns. d ∷ ns) (h.joins d g) }

pub both : {f g : List Mark} → IsEven f → IsEven g → IsEven (f ++ g)
both {f} {g} h k = record {
  joins = λ d e. ap (levels d) (append_assoc f g e) ∙ h.joins d (g ++ e) ∙ ap (λ ns. levels d f ++ ns)
      (k.joins d e)
      ∙ sym (append_assoc (levels d f) (levels d g) (levels d e))
      ∙ ap (λ ns. ns ++ levels d e) (sym (h.joins d g));
}

pub inside : (r : Rule) → {f : List Mark} → IsEven f → IsEven (node_of r f)
inside r {f} h = let end : IsEven (f ++ leave r ∷ []) = both h (record { joins = λ d g. refl }) in
    record { joins = end.joins }

-- the levels one deeper
pub deep_levels : {f : List Mark} → IsEven f → (d : ℕ) → levels d (one_deeper f) ≡ levels (suc d) f
deep_levels {f} h d = h.joins (suc d) (up ∷ []) ∙ append-nil (levels (suc d) f)

pub deeper : {f : List Mark} → IsEven f → IsEven (one_deeper f)
deeper {f} h = record {
  joins = λ d g.
      ap (levels (suc d)) (append_assoc f (up ∷ []) g)
      ∙ h.joins (suc d) (up ∷ g)
      ∙ ap (λ k. levels (suc d) f ++ levels k g) (let e : suc d - 1 ≡ d = omega arith in e)
      ∙ ap (λ ns. ns ++ levels d g) (sym (deep_levels h d));
}

words : (ts : List Token) → IsEven (map (λ t. leaf t) ts)
words [] = none
words (t ∷ ts) = front t (words ts)

pub type_even : (t : TypeName) → IsEven (type_name_marks t)
type_even t = inside Rattle.ba_trees.specs.Marks.type_name (words t.words.items)

-- EXPRESSIONS, by induction on their trees

abbrev Of : {A : Type 0} → (A → M) → Type 0
Of {A} marks = (x : A) × IsEven (marks x)

maybe : {A : Type 0} (marks : A → M) (o : Option (Of marks)) →
    IsEven (optional (former-Arguments-values.map A M marks (former-Arguments-values.map (Of marks) A
    (λ e. e.0) o)))
maybe marks None = none
maybe marks (Some e) = e.1

rest : (o : Option (Box (Of chain_marks) Global)) →
    IsEven (optional (option_map (λ r. r.value) (former-Chain-rest.map Chain M chain_marks
    (former-Chain-rest.map (Of chain_marks) Chain (λ e. e.0) o))))
rest None = none
rest (Some b) = b.value.1

row : {A : Type 0} (marks : A → M) (es : List (Of marks)) → IsEven (joined (map marks (map (λ e. e.0) es)))
row marks [] = none
row marks (e ∷ es) = both e.1 (row marks es)

by_step : {A F : Type 0} (marks : A → M) (roll : F → A) (step : F → M) → ((z : F) → marks (roll z) ≡ step z) →
    (z x : F) → z ≡ x → IsEven (step z) → IsEven (marks (roll x))
by_step marks roll step rolls z x is p = subst (λ y. IsEven (marks (roll y))) is
    (subst IsEven (sym (rolls z)) p)

abbrev PrimaryParts : Type 0
PrimaryParts = Primary-F (Of primary_marks) (Of unary_marks) (Of arguments_marks) (Of branches_marks)
    (Of chain_marks) (Of conditional_marks) (Of expressions_marks) (Of next_expression_marks)
    (Of operand_marks)

abbrev UnaryParts : Type 0
UnaryParts = Unary-F (Of primary_marks) (Of unary_marks) (Of arguments_marks) (Of branches_marks)
    (Of chain_marks) (Of conditional_marks) (Of expressions_marks) (Of next_expression_marks)
    (Of operand_marks)

abbrev primary_parts : PrimaryParts → Primary-F M M M M M M M M M
primary_parts y = map-Primary Primary Unary Arguments Branches Chain Conditional Expressions NextExpression
    Operand M M M M M M M M M
    primary_marks unary_marks arguments_marks branches_marks chain_marks conditional_marks expressions_marks
    next_expression_marks operand_marks
    (map-Primary (Of primary_marks) (Of unary_marks) (Of arguments_marks) (Of branches_marks)
    (Of chain_marks) (Of conditional_marks) (Of expressions_marks) (Of next_expression_marks)
    (Of operand_marks)
    Primary Unary Arguments Branches Chain Conditional Expressions NextExpression Operand
    (λ e. e.0) (λ e. e.0) (λ e. e.0) (λ e. e.0) (λ e. e.0) (λ e. e.0) (λ e. e.0) (λ e. e.0) (λ e. e.0) y)

abbrev unary_parts : UnaryParts → Unary-F M M M M M M M M M
unary_parts y = map-Unary Primary Unary Arguments Branches Chain Conditional Expressions NextExpression
    Operand M M M M M M M M M
    primary_marks unary_marks arguments_marks branches_marks chain_marks conditional_marks expressions_marks
    next_expression_marks operand_marks
    (map-Unary (Of primary_marks) (Of unary_marks) (Of arguments_marks) (Of branches_marks) (Of chain_marks)
    (Of conditional_marks) (Of expressions_marks) (Of next_expression_marks) (Of operand_marks)
    Primary Unary Arguments Branches Chain Conditional Expressions NextExpression Operand
    (λ e. e.0) (λ e. e.0) (λ e. e.0) (λ e. e.0) (λ e. e.0) (λ e. e.0) (λ e. e.0) (λ e. e.0) (λ e. e.0) y)

primary_even : (y : PrimaryParts) → IsEven (primary_step (primary_parts y))
primary_even (Primary-F.Name name) = inside Rattle.ba_trees.specs.Marks.primary (front name none)
primary_even (Primary-F.Element name opener index closer) =
    inside Rattle.ba_trees.specs.Marks.primary (front name (front opener (both
    (deeper index.value.1) (front closer none))))
primary_even (Primary-F.Call name opener values closer) =
    inside Rattle.ba_trees.specs.Marks.primary (front name (front opener (both (deeper values.1)
    (front closer none))))
primary_even (Primary-F.Constant constant) = inside Rattle.ba_trees.specs.Marks.primary
    (front constant none)
primary_even (Primary-F.Parenthesized opener e closer) =
    inside Rattle.ba_trees.specs.Marks.primary (front opener (both (deeper e.value.1)
    (front closer none)))

unary_even : (y : UnaryParts) → IsEven (unary_step (unary_parts y))
unary_even (Unary-F.Prefix operator e) = inside Rattle.ba_trees.specs.Marks.unary (front operator
    (deeper e.value.1))
unary_even (Unary-F.Cast opener name closer e) =
    inside Rattle.ba_trees.specs.Marks.unary (front opener (both (deeper (type_even name))
    (front closer (deeper e.value.1))))
unary_even (Unary-F.Primary p) = inside Rattle.ba_trees.specs.Marks.unary p.1

pub conditional_even : (c : Conditional) → IsEven (conditional_marks c)
conditional_even =
    ind-Conditional
    (λ x. IsEven (primary_marks x))
    (λ x. IsEven (unary_marks x))
    (λ x. IsEven (arguments_marks x))
    (λ x. IsEven (branches_marks x))
    (λ x. IsEven (chain_marks x))
    (λ x. IsEven (conditional_marks x))
    (λ x. IsEven (expressions_marks x))
    (λ x. IsEven (next_expression_marks x))
    (λ x. IsEven (operand_marks x))
    (λ x y is. by_step primary_marks roll-Primary _ (fold-roll-Primary M M M M M M M M M primary_step
    unary_step arguments_step branches_step chain_step conditional_step expressions_step
    next_expression_step operand_step) _ x is
    (primary_even y))
    (λ x y is. by_step unary_marks roll-Unary _ (fold-roll-Unary M M M M M M M M M primary_step unary_step
    arguments_step branches_step chain_step conditional_step expressions_step
    next_expression_step operand_step) _ x is
    (unary_even y))
    (λ x y is. by_step arguments_marks roll-Arguments _ (fold-roll-Arguments M M M M M M M M M primary_step
    unary_step arguments_step branches_step chain_step conditional_step expressions_step
    next_expression_step operand_step) _ x is
    (inside Rattle.ba_trees.specs.Marks.arguments (maybe expressions_marks y.values)))
    (λ x y is. by_step branches_marks roll-Branches _ (fold-roll-Branches M M M M M M M M M primary_step
    unary_step arguments_step branches_step chain_step conditional_step expressions_step
    next_expression_step operand_step) _ x is
    (front y.question (both (deeper y.holds.value.1) (front y.colon (deeper y.fails.value.1)))))
    (λ x y is. by_step chain_marks roll-Chain _ (fold-roll-Chain M M M M M M M M M primary_step unary_step
    arguments_step branches_step chain_step conditional_step expressions_step
    next_expression_step operand_step) _ x is
    (inside (Rattle.ba_trees.specs.Marks.chain y.level) (front y.operator (deeper (both y.operand.1
    (rest y.rest))))))
    (λ x y is. by_step conditional_marks roll-Conditional _ (fold-roll-Conditional M M M M M M M M M
    primary_step unary_step arguments_step branches_step chain_step conditional_step expressions_step
    next_expression_step operand_step) _ x is
    (inside Rattle.ba_trees.specs.Marks.conditional (both y.test.1 (maybe branches_marks y.branches))))
    (λ x y is. by_step expressions_marks roll-Expressions _ (fold-roll-Expressions M M M M M M M M M
    primary_step unary_step arguments_step branches_step chain_step conditional_step expressions_step
    next_expression_step operand_step) _ x is
    (both y.first.value.1 (row next_expression_marks y.rest.items)))
    (λ x y is. by_step next_expression_marks roll-NextExpression _
    (fold-roll-NextExpression M M M M M M M M M primary_step unary_step arguments_step branches_step
    chain_step conditional_step expressions_step
    next_expression_step operand_step) _ x is
    (front y.comma y.expression.1))
    (λ x y is. by_step operand_marks roll-Operand _ (fold-roll-Operand M M M M M M M M M primary_step
    unary_step arguments_step branches_step chain_step conditional_step expressions_step
    next_expression_step operand_step) _ x is
    (both y.first.1 (row chain_marks y.chains.items)))

pub arguments_even : (c : Arguments) → IsEven (arguments_marks c)
arguments_even =
    ind-Arguments
    (λ x. IsEven (primary_marks x))
    (λ x. IsEven (unary_marks x))
    (λ x. IsEven (arguments_marks x))
    (λ x. IsEven (branches_marks x))
    (λ x. IsEven (chain_marks x))
    (λ x. IsEven (conditional_marks x))
    (λ x. IsEven (expressions_marks x))
    (λ x. IsEven (next_expression_marks x))
    (λ x. IsEven (operand_marks x))
    (λ x y is. by_step primary_marks roll-Primary _ (fold-roll-Primary M M M M M M M M M primary_step
    unary_step arguments_step branches_step chain_step conditional_step expressions_step
    next_expression_step operand_step) _ x is
    (primary_even y))
    (λ x y is. by_step unary_marks roll-Unary _ (fold-roll-Unary M M M M M M M M M primary_step unary_step
    arguments_step branches_step chain_step conditional_step expressions_step
    next_expression_step operand_step) _ x is
    (unary_even y))
    (λ x y is. by_step arguments_marks roll-Arguments _ (fold-roll-Arguments M M M M M M M M M primary_step
    unary_step arguments_step branches_step chain_step conditional_step expressions_step
    next_expression_step operand_step) _ x is
    (inside Rattle.ba_trees.specs.Marks.arguments (maybe expressions_marks y.values)))
    (λ x y is. by_step branches_marks roll-Branches _ (fold-roll-Branches M M M M M M M M M primary_step
    unary_step arguments_step branches_step chain_step conditional_step expressions_step
    next_expression_step operand_step) _ x is
    (front y.question (both (deeper y.holds.value.1) (front y.colon (deeper y.fails.value.1)))))
    (λ x y is. by_step chain_marks roll-Chain _ (fold-roll-Chain M M M M M M M M M primary_step unary_step
    arguments_step branches_step chain_step conditional_step expressions_step
    next_expression_step operand_step) _ x is
    (inside (Rattle.ba_trees.specs.Marks.chain y.level) (front y.operator (deeper (both y.operand.1
    (rest y.rest))))))
    (λ x y is. by_step conditional_marks roll-Conditional _ (fold-roll-Conditional M M M M M M M M M
    primary_step unary_step arguments_step branches_step chain_step conditional_step expressions_step
    next_expression_step operand_step) _ x is
    (inside Rattle.ba_trees.specs.Marks.conditional (both y.test.1 (maybe branches_marks y.branches))))
    (λ x y is. by_step expressions_marks roll-Expressions _ (fold-roll-Expressions M M M M M M M M M
    primary_step unary_step arguments_step branches_step chain_step conditional_step expressions_step
    next_expression_step operand_step) _ x is
    (both y.first.value.1 (row next_expression_marks y.rest.items)))
    (λ x y is. by_step next_expression_marks roll-NextExpression _
    (fold-roll-NextExpression M M M M M M M M M primary_step unary_step arguments_step branches_step
    chain_step conditional_step expressions_step
    next_expression_step operand_step) _ x is
    (front y.comma y.expression.1))
    (λ x y is. by_step operand_marks roll-Operand _ (fold-roll-Operand M M M M M M M M M primary_step
    unary_step arguments_step branches_step chain_step conditional_step expressions_step
    next_expression_step operand_step) _ x is
    (both y.first.1 (row chain_marks y.chains.items)))

pub next_even : (c : NextExpression) → IsEven (next_expression_marks c)
next_even =
    ind-NextExpression
    (λ x. IsEven (primary_marks x))
    (λ x. IsEven (unary_marks x))
    (λ x. IsEven (arguments_marks x))
    (λ x. IsEven (branches_marks x))
    (λ x. IsEven (chain_marks x))
    (λ x. IsEven (conditional_marks x))
    (λ x. IsEven (expressions_marks x))
    (λ x. IsEven (next_expression_marks x))
    (λ x. IsEven (operand_marks x))
    (λ x y is. by_step primary_marks roll-Primary _ (fold-roll-Primary M M M M M M M M M primary_step
    unary_step arguments_step branches_step chain_step conditional_step expressions_step
    next_expression_step operand_step) _ x is
    (primary_even y))
    (λ x y is. by_step unary_marks roll-Unary _ (fold-roll-Unary M M M M M M M M M primary_step unary_step
    arguments_step branches_step chain_step conditional_step expressions_step
    next_expression_step operand_step) _ x is
    (unary_even y))
    (λ x y is. by_step arguments_marks roll-Arguments _ (fold-roll-Arguments M M M M M M M M M primary_step
    unary_step arguments_step branches_step chain_step conditional_step expressions_step
    next_expression_step operand_step) _ x is
    (inside Rattle.ba_trees.specs.Marks.arguments (maybe expressions_marks y.values)))
    (λ x y is. by_step branches_marks roll-Branches _ (fold-roll-Branches M M M M M M M M M primary_step
    unary_step arguments_step branches_step chain_step conditional_step expressions_step
    next_expression_step operand_step) _ x is
    (front y.question (both (deeper y.holds.value.1) (front y.colon (deeper y.fails.value.1)))))
    (λ x y is. by_step chain_marks roll-Chain _ (fold-roll-Chain M M M M M M M M M primary_step unary_step
    arguments_step branches_step chain_step conditional_step expressions_step
    next_expression_step operand_step) _ x is
    (inside (Rattle.ba_trees.specs.Marks.chain y.level) (front y.operator (deeper (both y.operand.1
    (rest y.rest))))))
    (λ x y is. by_step conditional_marks roll-Conditional _ (fold-roll-Conditional M M M M M M M M M
    primary_step unary_step arguments_step branches_step chain_step conditional_step expressions_step
    next_expression_step operand_step) _ x is
    (inside Rattle.ba_trees.specs.Marks.conditional (both y.test.1 (maybe branches_marks y.branches))))
    (λ x y is. by_step expressions_marks roll-Expressions _ (fold-roll-Expressions M M M M M M M M M
    primary_step unary_step arguments_step branches_step chain_step conditional_step expressions_step
    next_expression_step operand_step) _ x is
    (both y.first.value.1 (row next_expression_marks y.rest.items)))
    (λ x y is. by_step next_expression_marks roll-NextExpression _
    (fold-roll-NextExpression M M M M M M M M M primary_step unary_step arguments_step branches_step
    chain_step conditional_step expressions_step
    next_expression_step operand_step) _ x is
    (front y.comma y.expression.1))
    (λ x y is. by_step operand_marks roll-Operand _ (fold-roll-Operand M M M M M M M M M primary_step
    unary_step arguments_step branches_step chain_step conditional_step expressions_step
    next_expression_step operand_step) _ x is
    (both y.first.1 (row chain_marks y.chains.items)))
