use Rattle.std.proofs.Common.{◌≡◌, ◌<◌, ◌≤◌, List, length, get_or, ◌∙◌, ap, subst}
use Rattle.std.specs.Borrow.{Bor}
use Rattle.std.specs.Prelude.{option_map}
use Rattle.ba_typing.specs.Names.{definition_in}
use Rattle.ba_typing.specs.declared.meanings.Signature.{Signature}
use Rattle.ba_scopes.proofs.Listing.{definition-none, definition-past, definition-some}
use Rattle.ba_scopes.proofs.scopes.Functions.definition.Goals as goal

pub returns-in_err-number : goal.returns-in_err-number
returns-in_err-number c = ap (option_map (λ (s : Bor Signature). s.now)) c.from_residual.ensures
    ∙ definition-none c.self.inside.declarations.items c.self.inside.names c.self.inside.definitions
    c.self.invariant.listed
    c.args.name.now c.get.result c.get.ensures c.in_err-number.was
    ∙ ap (λ (ds : List Signature). definition_in ds c.args.name.now) c.self.view_is

pub returns-in_err-signature : goal.returns-in_err-signature
returns-in_err-signature c = ap (option_map (λ (s : Bor Signature). s.now))
    c.from_residual-in_err-signature.ensures
    ∙ definition-past c.self.inside.declarations.items c.self.inside.names c.self.inside.definitions
    c.self.invariant.listed
    c.args.name.now c.get.result c.get.ensures c.in_ok-number.number c.in_ok-number.was
    (subst (λ xs. length xs ≤ c.in_ok-number.number) c.deref.ensures.value
    c.in_err-signature.ensures.lookup.3)
    ∙ ap (λ (ds : List Signature). definition_in ds c.args.name.now) c.self.view_is

pub returns : goal.returns
returns c = let s = c.in_ok-signature.signature.now in
    definition-some c.self.inside.declarations.items c.self.inside.names c.self.inside.definitions
    c.self.invariant.listed
    c.args.name.now c.get.result c.get.ensures c.in_ok-number.number s c.in_ok-number.was
    (subst (λ xs. c.in_ok-number.number < length xs) c.deref.ensures.value
    c.in_ok-signature.ensures.lookup.3.0)
    (subst (λ xs. s ≡ get_or xs c.in_ok-number.number s) c.deref.ensures.value
    c.in_ok-signature.ensures.lookup.1)
    ∙ ap (λ (ds : List Signature). definition_in ds c.args.name.now) c.self.view_is
