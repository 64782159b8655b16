use Rattle.std.proofs.Common.{◌≡◌, ap, ◌∙◌, inl, inr, ⊎_elim}
use Rattle.std.proofs.lemmas.Bool.{false≢true}
use Rattle.std.proofs.lemmas.List.{get_or_default}
use Rattle.ba_lits.specs.Literals.{Literal, lit_at, no_literal}
use Rattle.ba_lits.proofs.ClauseLaws.{IsClause-ends}
use Rattle.ba_lits.proofs.clause.is_clause.Goals as goal

pub returns-then-variable-last : goal.returns-then-variable-last
returns-then-variable-last c =
    let lits = c.args.lits.now in
    let i = c.loop-lit.lit-index in
    let v : c.variable-variable.result ≡ (lit_at lits i).variable =
    c.variable-variable.ensures.variable
    ∙ ap (λ (l : Literal). l.variable)
    (c.lit-item.is ∙ get_or_default lits i _ no_literal c.loop-lit-test.true) in
    let inv = c.loop-lit.invariant in (
      λ is. absurd (false≢true is),
      λ clause. absurd (IsClause-ends c.args.variables c.loop-lit.last c.variable-variable.result i lits c.loop-lit-test.true v
          inv.none inv.last (⊎_elim (λ low. inl low)
          (λ wide. inr wide.1) c.then-variable-last.either) clause),
    )
