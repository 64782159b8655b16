use Rattle.std.proofs.Common.{◌≡◌, Some, length, sym, ◌∙◌, ap, subst, arith}
use Rattle.ba_typing.specs.Names.{space_of}
use Rattle.ba_scopes.specs.Storage.{AreStored, HasNewest, newest_in}
use Rattle.ba_scopes.proofs.Storing.{push-stored, when-ok}
use Rattle.ba_scopes.proofs.scopes.Declared.push.Goals as goal

pub invariant_of-self-else-is_err : goal.invariant_of-self-else-is_err
invariant_of-self-else-is_err c =
    let items = c.self.inside.stored.items in let newest = c.self.inside.newest in let next =
    c.set.new.self in
    let e = c.args.entry in
    let named = c.copy-name.ensures in let within = c.space-within.ensures in
    let count : c.len-number.result ≡ length items = omega (arith, c.len-number.ensures) in
    let set = when-ok c.set.result
    (HasNewest c.space-within.result c.copy-name.result (Some c.len-number.result) newest next)
    c.set.ensures.ok (sym c.is_err.ensures.value ∙ c.if-is_err.false) in
    subst (λ xs. AreStored xs next) (sym c.in_ok-push.ensures.items)
    (push-stored items (record { entry = e; hidden = c.get-hidden.result }) newest next c.self.invariant
    (c.get-hidden.ensures ∙ ap (λ s. newest_in newest s c.copy-name.result) within
    ∙ ap (newest_in newest (space_of e.entity)) named)
    (subst (λ n. HasNewest (space_of e.entity) e.name (Some n) newest next) count
    (subst (λ n. HasNewest (space_of e.entity) n (Some c.len-number.result) newest next) named
    (subst (λ s. HasNewest s c.copy-name.result (Some c.len-number.result) newest next) within set))))
