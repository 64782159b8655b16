use Rattle.std.proofs.Common.{[], sym, subst}
use Rattle.ba_inline.proofs.Bindings.{binds-nothing}
use Rattle.ba_inline.proofs.Rows.{frame-begins}
use Rattle.ba_inline.specs.Binding.{Binds}
use Rattle.ba_inline.specs.Names.{seen}
use Rattle.ba_inline.proofs.binding.begin_frame.Goals as goal

pub returns : goal.returns
returns c = λ scope given.
    let p = c.args.setting.now.program.now in
    let names = c.args.scope.now in
    let low = c.args.declared.now in
    let old = c.args.out.now.items in
    frame-begins p names c.args.function.now c.as_slice.result.now c.as_slice-2.result.now c.args.given.now
    c.in_ok-inner.inner _ _ low _ _ old _ _ c.as_slice.ensures c.as_slice-2.ensures
    (c.in_ok-bind_all.ensures names low old scope given
    (subst (λ inner. Binds p names [] (seen names) inner low low old old) (sym c.in_ok-inner.ensures)
    (binds-nothing p names low scope old)))
    (λ own begun binds. c.in_ok-begin_all.ensures names own begun low old scope binds)
