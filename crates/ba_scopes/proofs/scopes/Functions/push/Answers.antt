use Rattle.std.proofs.Common.{◌≡◌, List, [], ◌∷◌, ◌++◌, length, refl, sym, ◌∙◌, ap, subst, arith}
use Rattle.std.specs.Prelude.{is_some}
use Rattle.ba_scopes.specs.Storage.{AreCounted, AreListed}
use Rattle.ba_typing.specs.declared.meanings.Signature.{Signature}
use Rattle.ba_scopes.proofs.Listing.{count-more}
use Rattle.ba_scopes.proofs.Storing.{when-ok}
use Rattle.ba_scopes.proofs.scopes.Functions.push.Goals as goal

pub invariant_of-self-2 : goal.invariant_of-self-2
invariant_of-self-2 c =
    let ds = c.self.inside.declarations.items in let s = c.args.signature in
    let names = c.self.inside.names in let defs = c.self.inside.definitions in
    let next = c.list-listed.new.names in let more = c.list-listed.new.definitions in
    let number : c.len-number.result ≡ length ds = omega (arith, c.len-number.ensures) in
    let entered = when-ok c.list-listed.result ((ds : List Signature) (s : Signature)
    → s.name ≡ c.copy-name.result
    → s.is_definition ≡ c.args.signature.is_definition → c.len-number.result ≡ length ds
    → AreListed ds names defs → AreListed (ds ++ s ∷ []) next more)
    c.list-listed.ensures.ok (sym c.is_err.ensures.value ∙ c.if-is_err.false) in
    subst (λ xs. AreCounted xs next more c.in_ok-count.count) (sym c.in_ok-push.ensures.items)
    (count-more ds names next defs more s c.copy-name.result c.self.inside.count c.in_ok-count.count
    c.is_some-is_declared.result c.self.invariant (sym c.copy-name.ensures)
    (c.is_some-is_declared.ensures ∙ ap is_some c.get.ensures) c.in_ok-count.ensures
    (entered ds s (sym c.copy-name.ensures) refl number c.self.invariant.listed))
