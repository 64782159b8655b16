use Rattle.std.proofs.Common.{◌≡◌, true, None, Some, cond, length, sym, ◌∙◌, ap, subst}
use Rattle.std.specs.Prelude.{is_some}
use Rattle.ba_typing.specs.Names.{space_of}
use Rattle.ba_scopes.specs.Storage.{AreStored, HasNewest, entries_of, last_number, newest_in}
use Rattle.ba_scopes.proofs.Storing.{named-self, newest-is, pop-stored}
use Rattle.ba_scopes.proofs.scopes.Declared.pop.Goals as goal

pub invariant_of-self-in-Some-hidden : goal.invariant_of-self-in-Some-hidden
invariant_of-self-in-Some-hidden c =
    let items = c.pop.new.self.items in let t = c.in-Some.last in
    let newest = c.self.inside.newest in let next = c.replace.new.self in
    let stored = subst (λ xs. AreStored xs newest) c.in-Some.ensures.items c.self.invariant in
    let name = t.entry.name in let within = space_of t.entry.entity in
    let there : is_some (newest_in newest within name) ≡ true = ap is_some
    (newest-is items t newest next stored within name
    ∙ ap (λ b. cond b (Some (length (entries_of items))) (last_number within name (entries_of items)))
    (named-self t.entry)) in
    let replaced = subst (λ s. is_some (newest_in newest s name) ≡ true
    → HasNewest s name (Some c.in-Some-hidden.number) newest next) c.space.ensures c.replace.ensures in
    pop-stored items t newest next stored
    (subst (λ h. HasNewest within name h newest next) (sym c.in-Some-hidden.is) (replaced there))

pub invariant_of-self-in-None : goal.invariant_of-self-in-None
invariant_of-self-in-None c =
    let items = c.pop.new.self.items in let t = c.in-Some.last in
    let newest = c.self.inside.newest in let next = c.remove.new.self in
    let stored = subst (λ xs. AreStored xs newest) c.in-Some.ensures.items c.self.invariant in
    let name = t.entry.name in
    pop-stored items t newest next stored
    (subst (λ h. HasNewest (space_of t.entry.entity) name h newest next) (sym c.in-None.is)
    (subst (λ s. HasNewest s name None newest next) c.space-in-None.ensures c.remove.ensures))
