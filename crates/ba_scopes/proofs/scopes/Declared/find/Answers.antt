use Rattle.std.proofs.Common.{◌≡◌, ◌<◌, ◌≤◌, Some, length, get_or, ◌∙◌, ap, subst}
use Rattle.ba_scopes.proofs.Storing.{find-none, find-past, find-some}
use Rattle.ba_scopes.proofs.scopes.Declared.find.Goals as goal

pub returns-in_err-number : goal.returns-in_err-number
returns-in_err-number c = c.from_residual.ensures
    ∙ find-none c.self.inside.stored.items c.self.inside.newest c.args.within c.args.name.now c.args.self.now
    c.self.invariant c.self.view_is
    c.get.result c.get.ensures c.in_err-number.was

pub returns-in_err-stored : goal.returns-in_err-stored
returns-in_err-stored c = c.from_residual-in_err-stored.ensures
    ∙ find-past c.self.inside.stored.items c.self.inside.newest c.args.within c.args.name.now c.args.self.now
    c.self.invariant c.self.view_is
    c.get.result c.get.ensures c.in_ok-number.number c.in_ok-number.was
    (subst (λ xs. length xs ≤ c.in_ok-number.number) c.deref.ensures.value c.in_err-stored.ensures.lookup.3)

pub returns : goal.returns
returns c = let t = c.in_ok-stored.stored.now in ap Some c.copy.ensures
    ∙ find-some c.self.inside.stored.items c.self.inside.newest c.args.within c.args.name.now c.args.self.now
    c.self.invariant c.self.view_is
    c.get.result c.get.ensures c.in_ok-number.number t c.in_ok-number.was
    (subst (λ xs. c.in_ok-number.number < length xs) c.deref.ensures.value c.in_ok-stored.ensures.lookup.3.0)
    (subst (λ xs. t ≡ get_or xs c.in_ok-number.number t) c.deref.ensures.value
    c.in_ok-stored.ensures.lookup.1)
