-- Whole expressions, and expressions of each of which a tree is kept.
use Rattle.std.proofs.Common.{◌≡◌, ℕ, ◌+◌, ◌<◌, ◌≤◌, Bool, true, false, not, List, [], ◌∷◌, ◌++◌, map, length, get_or, drop, refl, sym, ◌∙◌, ap, subst, append_assoc, append-nil}
use Rattle.std.specs.Prelude.{flat_map}
use Rattle.std.specs.Global.{Vec}
use Rattle.std.proofs.lemmas.List.Concat.{flat_map-cons}
use Rattle.std.proofs.lemmas.List.Sums.{sum_by-cons}
use Rattle.ba_numbers.specs.declared.ids.At.{At}
use Rattle.ba_numbers.specs.declared.ids.StmtId.{StmtId}
use Rattle.ba_numbers.specs.declared.ids.VarId.{VarId}
use Rattle.ba_numbers.specs.declared.numbers.CType.{CType}
use Rattle.ba_trees.specs.declared.tree.expressions.NextExpression.{NextExpression, out-NextExpression}
use Rattle.ba_tree.specs.declared.tree.Expr.{Expr}
use Rattle.ba_tree.specs.declared.tree.Stmt as code
use Rattle.ba_statements.specs.Adding.{Keeping, Kept, first_of, keep_each, keep_one}
use Rattle.ba_typing.specs.Declarations.{calls_in, first_tree, init_tree, typed_each, whole_faults}
use Rattle.ba_typing.specs.Expressions.{Typed, Typing, typed_conditional, typed_next, tree_as}
use Rattle.ba_typing.specs.Faults.{limit_faults, height_limit}
use Rattle.ba_expressions.specs.Inferring.{Stands, after, with_faults}
use Rattle.ba_typing.specs.Names.{Scope}
use Rattle.ba_tree.specs.Trees.{ExprTree, tree_of_expr, tree_of_stmt}
use Rattle.ba_tree.specs.Trees as tree
use Rattle.ba_expressions.specs.declared.inferred.Inferred.{Inferred}
use Rattle.ba_expressions.specs.declared.tally.Tally.{Tally}
use Rattle.ba_statements.proofs.Adding.{after-after, after-nothing}
use Rattle.ba_expressions.proofs.ParsedForms.{next-is}
use Rattle.ba_typing.proofs.StmtForms.{tree-Init, tree-InitArray}
use Rattle.ba_expressions.proofs.Tallies.{faults-before}
use Rattle.ba_typing.proofs.Walks.{next_item, none_left}

pub whole-is : (at : At) (j : Inferred) (s : Typed) (old mid new : Tally) → Stands j s old mid
    → new ≡ with_faults mid (limit_faults height_limit j.height at) → new ≡ after old s.calls (whole_faults
    at s)
whole-is at j s old mid new stands more =
    subst (λ h. new ≡ after old s.calls (limit_faults height_limit h at ++ s.faults)) (ap (λ (e : Typed).
    e.height) stands.0)
    (faults-before old mid new s.calls s.faults (limit_faults height_limit j.height at) stands.1 more)

-- THE STATEMENT OF AN INITIALISER

pub init-all : (stmt : StmtId) (v : VarId) (t : CType) (exprs : Vec Expr) (b : Bool) (es : List Typed) → b ≡
    true
    → map tree_of_expr exprs.items ≡ map (tree_as t) es
    → tree_of_stmt (code.InitArray stmt v exprs) ≡ init_tree stmt v t b es
init-all stmt v t exprs b es array trees = tree-InitArray stmt v exprs ∙ ap (tree.init_array stmt v) trees
    ∙ ap (λ b. init_tree stmt v t b es) (sym array)

first-as : (t : CType) (es : List Typed) → first_of (map (tree_as t) es) ≡ first_tree t es
first-as t [] = refl
first-as t (e ∷ es) = refl

pub init-one : (stmt : StmtId) (v : VarId) (t : CType) (expr : Expr) (trees : List ExprTree) (b : Bool) (es
    : List Typed)
    → b ≡ false → tree_of_expr expr ≡ first_of trees → trees ≡ map (tree_as t) es
    → tree_of_stmt (code.Init stmt v expr) ≡ init_tree stmt v t b es
init-one stmt v t expr trees b es single first is = tree-Init stmt v expr
    ∙ ap (tree.init stmt v) (first ∙ ap first_of is ∙ first-as t es) ∙ ap (λ b. init_tree stmt v t b es)
    (sym single)

-- VALUES ONE AFTER THE OTHER

sum-more : (e : Typed) (es : List Typed) → e.calls + calls_in es ≡ calls_in (e ∷ es)
sum-more e es = sym (sum_by-cons (λ (e : Typed). e.calls) e es)

pub kept-is : (how : Keeping) (scope : Scope) (typings : List Typing) (k : Kept)
    → keep_each how scope typings k ≡ record {
      trees = k.trees ++ map how.tree (typed_each scope k.tally.calls typings);
      tally = after k.tally (calls_in (typed_each scope k.tally.calls typings))
          (flat_map how.faults (typed_each scope k.tally.calls typings));
    }
kept-is how scope [] k = ap (λ ts. record { trees = ts; tally = k.tally }) (sym (append-nil k.trees))
    ∙ ap (λ t. record { trees = k.trees ++ []; tally = t }) (after-nothing k.tally)
kept-is how scope (typing ∷ typings) k =
    let e = typing scope k.tally.calls in let es = typed_each scope (k.tally.calls + e.calls) typings in
    let faults = how.faults e ++ flat_map how.faults es in let trees = k.trees ++ (how.tree e ∷ map
    how.tree es) in
    kept-is how scope typings (keep_one how e k)
    ∙ ap (λ ts. record {
      trees = ts;
      tally = after (after k.tally e.calls (how.faults e)) (calls_in es)
          (flat_map how.faults es);
    })
    (append_assoc k.trees (how.tree e ∷ []) (map how.tree es))
    ∙ ap (λ t. record { trees = trees; tally = t })
    (after-after k.tally e.calls (calls_in es) (how.faults e) (flat_map how.faults es)
    ∙ ap (λ c. after k.tally c faults) (sum-more e es)
    ∙ ap (after k.tally (calls_in (e ∷ es))) (sym (flat_map-cons how.faults e es)))

-- one more of a list, from a place
pub next-value : (how : Keeping) (scope : Scope) (xs : List NextExpression) (i : ℕ) (x : NextExpression)
    (old new whole : Kept)
    → i < length xs → x ≡ get_or xs i x → keep_each how scope (map typed_next (drop i xs)) old ≡ whole
    → new ≡ keep_one how (typed_conditional (out-NextExpression x).expression scope old.tally.calls) old
    → keep_each how scope (map typed_next (drop (i + 1) xs)) new ≡ whole
next-value how scope xs i x old new whole within is rest one =
    ap (keep_each how scope (map typed_next (drop (i + 1) xs))) one
    ∙ ap (λ (s : Typing). keep_each how scope (map typed_next (drop (i + 1) xs)) (keep_one how (s scope
    old.tally.calls) old))
    (sym (next-is x))
    ∙ ap (λ ys. keep_each how scope (map typed_next ys) old) (sym (next_item xs i x within is)) ∙ rest

pub no-value : (how : Keeping) (scope : Scope) (xs : List NextExpression) (i : ℕ) (k whole : Kept) → length
    xs ≤ i
    → keep_each how scope (map typed_next (drop i xs)) k ≡ whole → k ≡ whole
no-value how scope xs i k whole all rest =
    ap (λ ys. keep_each how scope (map typed_next ys) k) (sym (none_left xs i all)) ∙ rest

pub un-not : (a b : Bool) → not a ≡ b → a ≡ not b
un-not true b e = ap not e
un-not false b e = ap not e
