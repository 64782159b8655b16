use Rattle.std.proofs.Common.{◌≡◌, ℕ, List, Some, not, ◌&&◌, cond, sym, ◌∙◌, ap}
use Rattle.std.specs.Prelude.{is_some}
use Rattle.ba_typing.specs.Names.{same_name}
use Rattle.ba_scopes.specs.Storage.{number_in}
use Rattle.ba_scopes.proofs.Listing.{list-more}
use Rattle.ba_scopes.proofs.Storing.{when-ok}
use Rattle.ba_scopes.proofs.scopes.list.Goals as goal

pub returns-clause-ok : goal.returns-clause-ok
returns-clause-ok c ds s named defines number listed =
    let names = c.args.names.now in let definitions = c.args.definitions.now in
    let next = c.set.new.self in let name = c.args.name.now in
    list-more ds names next definitions c.define.new.definitions listed name c.args.number s
    c.in_ok-is_first.is_first named number
    (c.in_ok-is_first.ensures.first ∙ ap (λ b. b && not (is_some (number_in definitions name))) (sym defines))
    c.in_ok-is_first.ensures.ok
    (when-ok c.set.result ((other : List ℕ) → number_in next other
    ≡ cond (same_name name other) (Some c.args.number) (number_in names other))
    c.set.ensures.ok (sym c.is_err.ensures.value ∙ c.if-is_err.false))
