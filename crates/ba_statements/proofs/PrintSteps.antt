-- What a `printf` adds, from the inferences of what it prints.
use Rattle.std.proofs.Common.{◌≡◌, List, [], ◌∷◌, ◌++◌, map, refl, ◌∙◌, ap}
use Rattle.std.specs.Prelude.{flat_map}
use Rattle.std.specs.Global.{Vec}
use Rattle.std.proofs.lemmas.List.{map-append}
use Rattle.ba_numbers.specs.declared.ids.At.{At}
use Rattle.ba_numbers.specs.declared.ids.StmtId.{StmtId}
use Rattle.ba_tree.specs.declared.tree.Expr.{Expr}
use Rattle.ba_tree.specs.declared.tree.Stmt as code
use Rattle.ba_tree.specs.declared.tree.StmtKind.TheVariants as kind
use Rattle.ba_statements.specs.Adding.{Kept, Numbers, state_with, before_of, behind_part, keep_each, keep_one, kept, printing}
use Rattle.ba_typing.specs.Declarations.{calls_in, next_stmt, typed_each, whole_faults}
use Rattle.ba_typing.specs.Expressions.{Typed, Typing}
use Rattle.ba_expressions.specs.Inferring.{Infers, after}
use Rattle.ba_typing.specs.Names.{Scope}
use Rattle.ba_typing.specs.Statements.{add_printf}
use Rattle.ba_tree.specs.Trees.{StmtTree, tree_of_expr, tree_of_stmt}
use Rattle.ba_tree.specs.Trees as tree
use Rattle.ba_expressions.specs.declared.inferred.Inferred.{Inferred}
use Rattle.ba_expressions.specs.declared.tally.Tally.{Tally}
use Rattle.ba_statements.specs.declared.work.Work.{Work}
use Rattle.ba_statements.proofs.Adding.{numbered-is}
use Rattle.ba_statements.proofs.KeptValues.{kept-is}
use Rattle.ba_typing.proofs.StmtForms.{tree-Print}

-- a value that is printed
pub printed-is : (at : At) (s : Typed) (j : Inferred) (old new : Tally) (olds news : List Expr) → Infers j s
    → new ≡ after old s.calls (whole_faults at s) → news ≡ olds ++ j.expr ∷ []
    → record { trees = map tree_of_expr news; tally = new }
    ≡ keep_one (printing at) s (record { trees = map tree_of_expr olds; tally = old })
printed-is at s j old new olds news infers counted pushed =
    ap (λ xs. record { trees = xs; tally = new }) (ap (map tree_of_expr) pushed ∙ map-append tree_of_expr olds
    (j.expr ∷ [])
    ∙ ap (λ x. map tree_of_expr olds ++ x ∷ []) (ap (λ (e : Typed). e.tree) infers))
    ∙ ap (λ t. record { trees = map tree_of_expr olds ++ s.tree ∷ []; tally = t }) counted

pub printf-is : (at : At) (typings : List Typing) (scope : Scope) (w u : Work) (values : Vec Expr) (new :
    Tally)
    (stmt : StmtId) (olds news : List StmtTree)
    → kept new values ≡ keep_each (printing at) scope typings (record { trees = []; tally = w.tally })
    → Numbers at kind.Call stmt (record w { tally = new }) u
    → news ≡ olds ++ tree_of_stmt (code.Print stmt values) ∷ []
    → state_with scope u news ≡ behind_part (add_printf at typings) (state_with scope w olds)
printf-is at typings scope w u values new stmt olds news is counted pushed =
    let es = typed_each scope w.tally.calls typings in let n = next_stmt (before_of w) in
    let whole = is ∙ kept-is (printing at) scope typings (record { trees = []; tally = w.tally }) in
    numbered-is (add_printf at typings) scope w (record w { tally = new }) u olds news at kind.Call
    (tree.print n (map (λ (e : Typed). e.tree) es)) (calls_in es) (flat_map (whole_faults at) es) refl
    (ap (λ t. record w { tally = t }) (ap (λ (k : Kept). k.tally) whole)) counted.1
    (pushed ∙ ap (λ x. olds ++ x ∷ []) (tree-Print stmt values
    ∙ ap (λ n. tree.print n (map tree_of_expr values.items)) counted.0
    ∙ ap (tree.print n) (ap (λ (k : Kept). k.trees) whole)))
