-- What statements add, from the inferences of their expressions.
use Rattle.std.proofs.Common.{◌≡◌, Bool, not, List, [], ◌∷◌, ◌++◌, refl, ◌∙◌, ap}
use Rattle.std.specs.Option.{is_some}
use Rattle.std.specs.Prelude.{unwrap_or}
use Rattle.ba_numbers.specs.declared.ids.At.{At}
use Rattle.ba_numbers.specs.declared.ids.StmtId.{StmtId}
use Rattle.ba_numbers.specs.declared.numbers.CType.TheVariants.{I32}
use Rattle.ba_tree.specs.declared.tree.Expr.{Expr}
use Rattle.ba_tree.specs.declared.tree.Stmt as code
use Rattle.ba_tree.specs.declared.tree.StmtKind.TheVariants as kind
use Rattle.ba_statements.specs.Adding.{GivesTest, Numbers, state_with, before_of, behind_part, with_inferred, with_number}
use Rattle.ba_typing.specs.Declarations.{Part, next_stmt, whole_faults}
use Rattle.ba_typing.specs.Expressions.{Typed, Typing, tree_as}
use Rattle.ba_typing.specs.Faults.{fault_if, height_limit, limit_faults}
use Rattle.ba_expressions.specs.Inferring.{Infers, Stands, after, with_faults}
use Rattle.ba_typing.specs.Names.{Scope}
use Rattle.ba_typing.specs.Statements.{add_assert, add_return, add_return_none, unnumbered}
use Rattle.ba_tree.specs.Trees.{StmtTree, tree_of_expr, tree_of_stmt}
use Rattle.ba_tree.specs.Trees as tree
use Rattle.ba_typing.specs.declared.fault.Cause.TheVariants.{BreakOutside, WrongKind}
use Rattle.ba_expressions.specs.declared.inferred.Inferred.{Inferred}
use Rattle.ba_expressions.specs.declared.tally.Tally.{Tally}
use Rattle.ba_statements.specs.declared.work.Work.{Work}
use Rattle.ba_statements.proofs.Adding.{faults-work, in-scope, numbered-is, numbered-work, with_added-nothing}
use Rattle.ba_statements.proofs.KeptValues.{whole-is}
use Rattle.ba_typing.proofs.StmtForms.{tree-Assert, tree-Return}
use Rattle.ba_expressions.proofs.Tallies.{faults-before}

pub test-is : (s : Typed) (scope : Scope) (w u : Work) (j : Inferred) (mid new : Tally) (stmt : StmtId)
    → Stands j s w.tally mid → new ≡ with_faults mid (limit_faults height_limit j.height j.first)
    → Numbers j.first kind.Condition stmt (record w { tally = new }) u
    → GivesTest s scope w u (record { stmt = stmt; when = j.expr })
test-is s scope w u j mid new stmt stands more counted = (
  counted.0,
  ap (λ (e : Typed). e.tree) stands.0,
  counted.1 ∙ ap (λ t. with_number (record w { tally = t }) j.first kind.Condition)
      (whole-is j.first j s w.tally mid new stands more)
      ∙ ap (λ at. with_number (with_inferred w s.calls (whole_faults at s)) at kind.Condition) (ap (λ (e :
      Typed). e.first) stands.0)
      ∙ numbered-work w s.first kind.Condition tree.break_loop s.calls (whole_faults s.first s),
)

pub assert-is : (at : At) (typing : Typing) (scope : Scope) (w u : Work) (j : Inferred) (new : Tally) (stmt :
    StmtId)
    (olds news : List StmtTree) → Infers j (typing scope w.tally.calls)
    → new ≡ after w.tally (typing scope w.tally.calls).calls (whole_faults at (typing scope w.tally.calls))
    → Numbers at kind.Assert stmt (record w { tally = new }) u
    → news ≡ olds ++ tree_of_stmt (code.Assert stmt j.expr) ∷ []
    → state_with scope u news ≡ behind_part (add_assert at typing) (state_with scope w olds)
assert-is at typing scope w u j new stmt olds news infers counts counted pushed =
    let e = typing scope w.tally.calls in
    numbered-is (add_assert at typing) scope w (record w { tally = new }) u olds news at kind.Assert
    (tree.assert (next_stmt (before_of w)) e.tree) e.calls (whole_faults at e) refl
    (ap (λ t. record w { tally = t }) counts) counted.1
    (pushed ∙ ap (λ x. olds ++ x ∷ []) (tree-Assert stmt j.expr
    ∙ ap (λ n. tree.assert n (tree_of_expr j.expr)) counted.0
    ∙ ap (λ x. tree.assert (next_stmt (before_of w)) x) (ap (λ (e : Typed). e.tree) infers)))

pub jump-is : (part : Part) (at : At) (typed : StmtTree) (is_inside : Bool) (scope : Scope) (w u : Work)
    (olds news : List StmtTree)
    → part scope (before_of w) ≡ unnumbered typed (fault_if (not is_inside) BreakOutside at)
    → u ≡ record w { tally = with_faults w.tally (fault_if (not is_inside) BreakOutside at) }
    → news ≡ olds ++ typed ∷ [] → state_with scope u news ≡ behind_part part (state_with scope w olds)
jump-is part at typed is_inside scope w u olds news is counted pushed =
    let faults = fault_if (not is_inside) BreakOutside at in
    in-scope part (unnumbered typed faults) scope w u olds news is refl (counted ∙ faults-work w faults)
    pushed

pub return-none-is : (scope : Scope) (w : Work) (olds news : List StmtTree) → news ≡ olds ++
    tree.return_none ∷ []
    → state_with scope w news ≡ behind_part add_return_none (state_with scope w olds)
return-none-is scope w olds news pushed = in-scope add_return_none (unnumbered tree.return_none [])
    scope w w olds news
    refl refl (with_added-nothing w) pushed

pub return-is : (at : At) (typing : Typing) (scope : Scope) (w u : Work) (e : Expr) (mid new : Tally) (stmt :
    StmtId)
    (olds news : List StmtTree)
    → mid ≡ after w.tally (typing scope w.tally.calls).calls (whole_faults at (typing scope w.tally.calls))
    → new ≡ with_faults mid (fault_if (not (is_some scope.result)) WrongKind at)
    → tree_of_expr e ≡ tree_as (unwrap_or scope.result I32) (typing scope w.tally.calls)
    → Numbers at kind.Return stmt (record w { tally = new }) u
    → news ≡ olds ++ tree_of_stmt (code.Return stmt e) ∷ []
    → state_with scope u news ≡ behind_part (add_return at typing) (state_with scope w olds)
return-is at typing scope w u e mid new stmt olds news counts more typed counted pushed =
    let s = typing scope w.tally.calls in let t = unwrap_or scope.result I32 in
    numbered-is (add_return at typing) scope w (record w { tally = new }) u olds news at kind.Return
    (tree.return_value (next_stmt (before_of w)) (tree_as t s)) s.calls
    (fault_if (not (is_some scope.result)) WrongKind at ++ whole_faults at s) refl
    (ap (λ t. record w { tally = t })
    (faults-before w.tally mid new s.calls (whole_faults at s) (fault_if (not (is_some scope.result))
    WrongKind at) counts more))
    counted.1
    (pushed ∙ ap (λ x. olds ++ x ∷ []) (tree-Return stmt e ∙ ap (λ n. tree.return_value n (tree_of_expr e))
    counted.0
    ∙ ap (tree.return_value (next_stmt (before_of w))) typed))
