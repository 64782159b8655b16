-- No node without a name is in the words of a type, nor in an array's length.

use Rattle.std.proofs.Common.{◌≡◌, Bool, true, false, ◌||◌, List, [], ◌∷◌, ◌++◌, map, Option, None, Some, option_map, refl, sym, ap, ◌∙◌, subst, Box, Global}
use Rattle.ba_tokens.specs.declared.token.Token.{Token}
use Rattle.ba_parse.specs.Grammar.{has_unnamed, is_no_name}
use Rattle.ba_trees.specs.Marks.{Rule, Mark, leaf, enter, leave, down, up, node_of, one_deeper, type_name, array_length, arguments, conditional, chain, unary, primary}
use Rattle.ba_trees.specs.Views.{joined, optional}
use Rattle.ba_trees.specs.ExpressionMarks.{M, type_name_marks, primary_step, unary_step, arguments_step, branches_step, chain_step, conditional_step, expressions_step, next_expression_step, operand_step, primary_marks, unary_marks, arguments_marks, branches_marks, chain_marks, conditional_marks, expressions_marks, next_expression_marks, operand_marks}
use Rattle.ba_trees.specs.DeclarationMarks.{array_length_marks}
use Rattle.ba_trees.specs.declared.tree.declarations.ArrayLength.{ArrayLength}
use Rattle.ba_trees.specs.declared.tree.expressions.TypeName.{TypeName}
use Rattle.ba_trees.specs.declared.tree.expressions.Primary.{Primary}
use Rattle.ba_trees.specs.declared.tree.expressions.Unary.{Unary}
use Rattle.ba_trees.specs.declared.tree.expressions.Arguments.{Arguments}
use Rattle.ba_trees.specs.declared.tree.expressions.Branches.{Branches}
use Rattle.ba_trees.specs.declared.tree.expressions.Chain.{Chain}
use Rattle.ba_trees.specs.declared.tree.expressions.Conditional.{Conditional}
use Rattle.ba_trees.specs.declared.tree.expressions.Expressions.{Expressions}
use Rattle.ba_trees.specs.declared.tree.expressions.NextExpression.{NextExpression}
use Rattle.ba_trees.specs.declared.tree.expressions.Operand.{Operand}
use Rattle.ba_trees.specs.declared.tree.expressions.Primary.TheOpen.{Primary-F, Unary-F}
use Rattle.ba_trees.specs.declared.tree.expressions.Primary.TheShapes.{former-Arguments-values, former-Chain-rest}
use Rattle.ba_trees.specs.declared.tree.expressions.Primary.TheViews.{roll-Primary, roll-Unary, roll-Arguments, roll-Branches, roll-Chain, roll-Conditional, roll-Expressions, roll-NextExpression, roll-Operand}
use Rattle.ba_trees.specs.declared.tree.expressions.Primary.TheFolds.{map-Primary, map-Unary, ind-Conditional, fold-roll-Primary, fold-roll-Unary, fold-roll-Arguments, fold-roll-Branches, fold-roll-Chain, fold-roll-Conditional, fold-roll-Expressions, fold-roll-NextExpression, fold-roll-Operand}

or_assoc : (a b c : Bool) → ((a || b) || c) ≡ (a || (b || c))
or_assoc true b c = refl
or_assoc false b c = refl

pub unnamed_append : (f g : List Mark) → has_unnamed (f ++ g) ≡ (has_unnamed f || has_unnamed g)
unnamed_append [] g = refl
unnamed_append (leaf t ∷ f) g = unnamed_append f g
unnamed_append (enter r ∷ f) g = ap (λ b. is_no_name r || b) (unnamed_append f g)
    ∙ sym (or_assoc (is_no_name r) (has_unnamed f) (has_unnamed g))
unnamed_append (leave r ∷ f) g = unnamed_append f g
unnamed_append (down ∷ f) g = unnamed_append f g
unnamed_append (up ∷ f) g = unnamed_append f g

-- HOW QUIET PARTS are put together

record IsQuiet (f : List Mark) : Type 0 where
  named : has_unnamed f ≡ false

none : IsQuiet []
none = record { named = refl }

both : {f g : List Mark} → IsQuiet f → IsQuiet g → IsQuiet (f ++ g)
both {f} {g} p q = record { named = unnamed_append f g ∙ ap (λ b. b || has_unnamed g) p.named ∙ q.named }

front : (t : Token) → {f : List Mark} → IsQuiet f → IsQuiet (leaf t ∷ f)
front t {f} p = record { named = p.named }

inside : (r : Rule) → is_no_name r ≡ false → {f : List Mark} → IsQuiet f → IsQuiet (node_of r f)
inside r other {f} p =
    let end : IsQuiet (f ++ leave r ∷ []) = both p (record { named = refl }) in
    record { named = ap (λ b. b || has_unnamed (f ++ leave r ∷ [])) other ∙ end.named }

deeper : {f : List Mark} → IsQuiet f → IsQuiet (one_deeper f)
deeper {f} p = let end : IsQuiet (f ++ up ∷ []) = both p (record { named = refl }) in
    record { named = end.named }

words : (ts : List Token) → IsQuiet (map leaf ts)
words [] = none
words (t ∷ ts) = front t (words ts)

type_quiet : (t : TypeName) → IsQuiet (type_name_marks t)
type_quiet t = inside type_name refl (words t.words.items)

-- EXPRESSIONS, by induction on their trees

-- a tree that is quiet
abbrev Of : {A : Type 0} → (A → M) → Type 0
Of {A} marks = (x : A) × IsQuiet (marks x)

maybe : {A : Type 0} (marks : A → M) (o : Option (Of marks)) →
    IsQuiet (optional (former-Arguments-values.map A M marks (former-Arguments-values.map (Of marks) A
    (λ e. e.0) o)))
maybe marks None = none
maybe marks (Some e) = e.1

rest : (o : Option (Box (Of chain_marks) Global)) →
    IsQuiet (optional (option_map (λ r. r.value) (former-Chain-rest.map Chain M chain_marks
    (former-Chain-rest.map (Of chain_marks) Chain (λ e. e.0) o))))
rest None = none
rest (Some b) = b.value.1

row : {A : Type 0} (marks : A → M) (es : List (Of marks)) → IsQuiet (joined (map marks (map (λ e. e.0) es)))
row marks [] = none
row marks (e ∷ es) = both e.1 (row marks es)

-- a tree is quiet if what its type adds to quiet parts is
by_step : {A F : Type 0} (marks : A → M) (roll : F → A) (step : F → M) → ((z : F) → marks (roll z) ≡ step z) →
    (z x : F) → z ≡ x → IsQuiet (step z) → IsQuiet (marks (roll x))
by_step marks roll step rolls z x is p = subst (λ y. IsQuiet (marks (roll y))) is
    (subst IsQuiet (sym (rolls z)) p)

abbrev PrimaryParts : Type 0
PrimaryParts = Primary-F (Of primary_marks) (Of unary_marks) (Of arguments_marks) (Of branches_marks)
    (Of chain_marks) (Of conditional_marks) (Of expressions_marks) (Of next_expression_marks)
    (Of operand_marks)

abbrev UnaryParts : Type 0
UnaryParts = Unary-F (Of primary_marks) (Of unary_marks) (Of arguments_marks) (Of branches_marks)
    (Of chain_marks) (Of conditional_marks) (Of expressions_marks) (Of next_expression_marks)
    (Of operand_marks)

abbrev primary_parts : PrimaryParts → Primary-F M M M M M M M M M
primary_parts y =
    map-Primary Primary Unary Arguments Branches Chain Conditional Expressions NextExpression Operand M M M M
    M M M M M
    primary_marks unary_marks arguments_marks branches_marks chain_marks conditional_marks expressions_marks
    next_expression_marks operand_marks
    (map-Primary (Of primary_marks) (Of unary_marks) (Of arguments_marks) (Of branches_marks) (Of chain_marks)
    (Of conditional_marks) (Of expressions_marks) (Of next_expression_marks) (Of operand_marks)
    Primary Unary Arguments Branches Chain Conditional Expressions NextExpression Operand
    (λ e. e.0) (λ e. e.0) (λ e. e.0) (λ e. e.0) (λ e. e.0) (λ e. e.0) (λ e. e.0) (λ e. e.0) (λ e. e.0) y)

abbrev unary_parts : UnaryParts → Unary-F M M M M M M M M M
unary_parts y =
    map-Unary Primary Unary Arguments Branches Chain Conditional Expressions NextExpression Operand M M M M M
    M M M M
    primary_marks unary_marks arguments_marks branches_marks chain_marks conditional_marks expressions_marks
    next_expression_marks operand_marks
    (map-Unary (Of primary_marks) (Of unary_marks) (Of arguments_marks) (Of branches_marks) (Of chain_marks)
    (Of conditional_marks) (Of expressions_marks) (Of next_expression_marks) (Of operand_marks)
    Primary Unary Arguments Branches Chain Conditional Expressions NextExpression Operand
    (λ e. e.0) (λ e. e.0) (λ e. e.0) (λ e. e.0) (λ e. e.0) (λ e. e.0) (λ e. e.0) (λ e. e.0) (λ e. e.0) y)

primary_quiet : (y : PrimaryParts) → IsQuiet (primary_step (primary_parts y))
primary_quiet (Primary-F.Name name) = inside primary refl (front name none)
primary_quiet (Primary-F.Element name opener index closer) =
    inside primary refl (front name (front opener (both (deeper index.value.1) (front closer none))))
primary_quiet (Primary-F.Call name opener values closer) =
    inside primary refl (front name (front opener (both (deeper values.1) (front closer none))))
primary_quiet (Primary-F.Constant constant) = inside primary refl (front constant none)
primary_quiet (Primary-F.Parenthesized opener e closer) =
    inside primary refl (front opener (both (deeper e.value.1) (front closer none)))

unary_quiet : (y : UnaryParts) → IsQuiet (unary_step (unary_parts y))
unary_quiet (Unary-F.Prefix operator e) = inside unary refl (front operator (deeper e.value.1))
unary_quiet (Unary-F.Cast opener name closer e) =
    inside unary refl (front opener (both (deeper (type_quiet name)) (front closer (deeper e.value.1))))
unary_quiet (Unary-F.Primary p) = inside unary refl p.1

conditional_quiet : (c : Conditional) → IsQuiet (conditional_marks c)
conditional_quiet =
    ind-Conditional
    (λ x. IsQuiet (primary_marks x)) (λ x. IsQuiet (unary_marks x)) (λ x. IsQuiet (arguments_marks x))
    (λ x. IsQuiet (branches_marks x)) (λ x. IsQuiet (chain_marks x))
    (λ x. IsQuiet (conditional_marks x)) (λ x. IsQuiet (expressions_marks x))
    (λ x. IsQuiet (next_expression_marks x)) (λ x. IsQuiet (operand_marks x))
    (λ x y is. by_step primary_marks roll-Primary _ (fold-roll-Primary M M M M M M M M M primary_step
    unary_step arguments_step branches_step chain_step conditional_step expressions_step
    next_expression_step operand_step) _ x is
    (primary_quiet y))
    (λ x y is. by_step unary_marks roll-Unary _ (fold-roll-Unary M M M M M M M M M primary_step unary_step
    arguments_step branches_step chain_step conditional_step expressions_step next_expression_step
    operand_step) _ x is
    (unary_quiet y))
    (λ x y is. by_step arguments_marks roll-Arguments _ (fold-roll-Arguments M M M M M M M M M primary_step
    unary_step arguments_step branches_step chain_step conditional_step expressions_step
    next_expression_step operand_step) _ x is
    (inside arguments refl (maybe expressions_marks y.values)))
    (λ x y is. by_step branches_marks roll-Branches _ (fold-roll-Branches M M M M M M M M M primary_step
    unary_step arguments_step branches_step chain_step conditional_step expressions_step
    next_expression_step operand_step) _ x is
    (front y.question (both (deeper y.holds.value.1) (front y.colon (deeper y.fails.value.1)))))
    (λ x y is. by_step chain_marks roll-Chain _ (fold-roll-Chain M M M M M M M M M primary_step unary_step
    arguments_step branches_step chain_step conditional_step expressions_step next_expression_step
    operand_step) _ x is
    (inside (chain y.level) refl (front y.operator (deeper (both y.operand.1 (rest y.rest))))))
    (λ x y is. by_step conditional_marks roll-Conditional _ (fold-roll-Conditional M M M M M M M M M
    primary_step unary_step arguments_step branches_step chain_step conditional_step expressions_step
    next_expression_step operand_step) _ x is
    (inside conditional refl (both y.test.1 (maybe branches_marks y.branches))))
    (λ x y is. by_step expressions_marks roll-Expressions _ (fold-roll-Expressions M M M M M M M M M
    primary_step unary_step arguments_step branches_step chain_step conditional_step expressions_step
    next_expression_step operand_step) _ x is
    (both y.first.value.1 (row next_expression_marks y.rest.items)))
    (λ x y is. by_step next_expression_marks roll-NextExpression _ (fold-roll-NextExpression M M M M M M M M M
    primary_step unary_step arguments_step branches_step chain_step conditional_step expressions_step
    next_expression_step operand_step) _ x is
    (front y.comma y.expression.1))
    (λ x y is. by_step operand_marks roll-Operand _ (fold-roll-Operand M M M M M M M M M primary_step
    unary_step arguments_step branches_step chain_step conditional_step expressions_step
    next_expression_step operand_step) _ x is
    (both y.first.1 (row chain_marks y.chains.items)))

maybe_quiet : (o : Option Conditional) → IsQuiet (optional (option_map conditional_marks o))
maybe_quiet None = none
maybe_quiet (Some c) = conditional_quiet c

length_quiet : (l : ArrayLength) → IsQuiet (array_length_marks l)
length_quiet l = inside array_length refl
    (front l.«open» (both (deeper (maybe_quiet l.length)) (front l.close none)))

-- so the words of a type and an array's length are

pub quiet_type : (t : TypeName) → has_unnamed (type_name_marks t) ≡ false
quiet_type t = (type_quiet t).named

pub quiet_length : (l : Option ArrayLength) → has_unnamed (optional (option_map array_length_marks l)) ≡ false
quiet_length None = refl
quiet_length (Some l) = (length_quiet l).named
