use Rattle.std.proofs.Common.{List, drop, ◌∙◌, ap}
use Rattle.ba_scopes.specs.declared.scopes.Stored.{Stored}
use Rattle.ba_scopes.proofs.Storing.{numbers_of, vars-stored}
use Rattle.ba_scopes.proofs.scopes.Declared.vars_behind.Goals as goal

pub returns : goal.returns
returns c = c.from_vec.ensures ∙ c.in_ok-vars.ensures
    ∙ ap (λ (xs : List Stored). numbers_of (drop c.args.count xs)) c.as_slice.ensures.value
    ∙ vars-stored c.self.inside.stored.items c.args.count c.args.self.now c.self.view_is
