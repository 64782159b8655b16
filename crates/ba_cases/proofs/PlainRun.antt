-- The run as written makes no wrong choices, and names a statement of its program.

use Rattle.std.proofs.Common.{◌≡◌, ◌≢◌, ◌∙◌, [], Result, IfOk, sym, subst}
use Rattle.std.proofs.lemmas.Result.{IfOk-weaker}
use Rattle.ba_laws.specs.Names.{NamesStatement}
use Rattle.ba_laws.proofs.NamingRuns.{names_statement}
use Rattle.ba_laws.proofs.PlainRuns.{plain_right}
use Rattle.ba_tree.specs.Run.{plain_run}
use Rattle.ba_tree.specs.declared.run.Allowed.TheVariants.{Statements}
use Rattle.ba_tree.specs.declared.run.Bounds.{Bounds}
use Rattle.ba_tree.specs.declared.run.Input.{Input}
use Rattle.ba_tree.specs.declared.run.Outcome.{Outcome}
use Rattle.ba_tree.specs.declared.run.Outcome.TheVariants.{WrongChoices}
use Rattle.ba_tree.specs.declared.tree.Program.{Program}

module _ {E : Type 0} (p : Program) (i : Input) (b : Bounds) (r : Result Outcome E)
    (is : IfOk r (λ end. end ≡ plain_run p i b)) where
  pub is_chosen : IfOk r (λ end. end ≢ WrongChoices)
  is_chosen = IfOk-weaker r (λ end. end ≡ plain_run p i b) (λ end. end ≢ WrongChoices)
      (λ end e wrong. plain_right p i b (sym e ∙ wrong)) is

  pub is_named : IfOk r (NamesStatement p)
  is_named = IfOk-weaker r (λ end. end ≡ plain_run p i b) (NamesStatement p)
      (λ end e. subst (NamesStatement p) (sym e) (names_statement p i b (Statements []) [])) is
