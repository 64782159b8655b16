use Rattle.std.proofs.lemmas.Result.{on_ok_weaker}
use Rattle.std.proofs.Common.{◌∙◌, ap}
use Rattle.std.specs.List.{list_any}
use Rattle.ba_clauses.specs.Clauses.{code_true}
use Rattle.ba_clauses.proofs.Adding.{Adds-as, codes_fit, any-codes}
use Rattle.ba_clauses.proofs.clauses.add.Goals as goal

pub add_clause-requires : goal.add_clause-requires
add_clause-requires c =
    rw c.in_ok-codes.ensures (codes_fit c.args.variables.now c.args.formula.now.variables c.args.head.now
    c.args.bits.now c.requires.head c.requires.bits)

pub returns : goal.returns
returns c =
    on_ok_weaker c.add_clause.result
    (λ adds. Adds-as _ _ _ _ adds
    (λ v. ap (list_any (code_true v)) c.in_ok-codes.ensures ∙ any-codes c.args.variables.now v
    c.args.head.now c.args.bits.now))
    c.add_clause.ensures
