-- What a call as a statement adds, from the inference of the call.
use Rattle.std.proofs.Common.{◌≡◌, ℕ, ◌+◌, false, List, [], ◌∷◌, ◌++◌, map, refl, ◌∙◌, ap}
use Rattle.std.specs.Prelude.{flat_map}
use Rattle.ba_numbers.specs.declared.ids.At.{At}
use Rattle.ba_numbers.specs.declared.ids.StmtId.{StmtId}
use Rattle.ba_tree.specs.declared.tree.Stmt as code
use Rattle.ba_tree.specs.declared.tree.StmtKind.TheVariants as kind
use Rattle.ba_statements.specs.Adding.{Numbers, state_with, before_of, behind_part}
use Rattle.ba_typing.specs.Declarations.{calls_in, next_stmt, whole_faults}
use Rattle.ba_typing.specs.Expressions.{Typing, typed_call, expressions_of_args, trees_of_args}
use Rattle.ba_expressions.specs.Inferring.{InfersCall, after}
use Rattle.ba_typing.specs.Names.{Scope}
use Rattle.ba_typing.specs.Statements.{add_call}
use Rattle.ba_tree.specs.Trees.{StmtTree, tree_of_arg, tree_of_stmt}
use Rattle.ba_tree.specs.Trees as tree
use Rattle.ba_expressions.specs.declared.inferred.InferredCall.{InferredCall}
use Rattle.ba_expressions.specs.declared.tally.Tally.{Tally}
use Rattle.ba_statements.specs.declared.work.Work.{Work}
use Rattle.ba_statements.proofs.Adding.{numbered-is}
use Rattle.ba_typing.proofs.StmtForms.{tree-CallStmt}

pub call-is : (at : At) (name : List ℕ) (typings : List Typing) (scope : Scope) (w u : Work)
    (j : InferredCall)
    (new : Tally)
    (stmt : StmtId) (olds news : List StmtTree)
    → InfersCall j (typed_call false at name typings scope w.tally.calls)
    → new ≡ after w.tally (1 + calls_in (expressions_of_args (typed_call false at name typings scope
    w.tally.calls).args))
    ((typed_call false at name typings scope w.tally.calls).faults
    ++ flat_map (whole_faults at) (expressions_of_args (typed_call false at name typings scope
    w.tally.calls).args))
    → Numbers at kind.Call stmt (record w { tally = new }) u
    → news ≡ olds ++ tree_of_stmt (code.CallStmt stmt j.call j.function j.args) ∷ []
    → state_with scope u news ≡ behind_part (add_call at name typings) (state_with scope w olds)
call-is at name typings scope w u j new stmt olds news infers counts counted pushed =
    let c = typed_call false at name typings scope w.tally.calls in let n = next_stmt (before_of w) in
    numbered-is (add_call at name typings) scope w (record w { tally = new }) u olds news at kind.Call
    (tree.call_stmt n c.call c.function (trees_of_args c.args)) (1 + calls_in (expressions_of_args c.args))
    (c.faults ++ flat_map (whole_faults at) (expressions_of_args c.args)) refl (ap (λ t. record w {
      tally =
          t;
    })
    counts) counted.1
    (pushed ∙ ap (λ x. olds ++ x ∷ []) (tree-CallStmt stmt j.call j.function j.args
    ∙ ap (λ n. tree.call_stmt n j.call j.function (map tree_of_arg j.args.items)) counted.0
    ∙ ap (λ k. tree.call_stmt n k j.function (map tree_of_arg j.args.items)) infers.call
    ∙ ap (λ f. tree.call_stmt n c.call f (map tree_of_arg j.args.items)) infers.function
    ∙ ap (tree.call_stmt n c.call c.function) infers.args))
