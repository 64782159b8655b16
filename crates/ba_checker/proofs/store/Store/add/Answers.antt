use Rattle.std.proofs.Common.{arith, ap, ◌∙◌, ◌++◌, ◌∷◌, []}
use Rattle.ba_checker.proofs.CutLaws.{added}
use Rattle.ba_checker.proofs.store.Store.add.Goals as goal

pub invariant_of-self-2 : goal.invariant_of-self-2
invariant_of-self-2 c =
    (added _ _ c.args.lits.now _ _ _ _ c.args.origin c.len.result _ c.self.invariant c.self.view_is
    c.in_ok-extend_from_slice.ensures.items (omega
    (arith, c.len.ensures, c.extend_from_slice.new.self.ok.0)) (c.in_ok-push.ensures.items
    ∙ ap (λ ends. ends ++ c.len.result ∷ []) c.reserve.ensures.items) (c.in_ok-push-2.ensures.items
    ∙ ap (λ origins. origins ++ c.args.origin ∷ []) c.reserve-2.ensures.items)).0

pub returns-clause-ok : goal.returns-clause-ok
returns-clause-ok c =
    (added _ _ c.args.lits.now _ _ _ _ c.args.origin c.len.result _ c.self.invariant c.self.view_is
    c.in_ok-extend_from_slice.ensures.items (omega
    (arith, c.len.ensures, c.extend_from_slice.new.self.ok.0)) (c.in_ok-push.ensures.items
    ∙ ap (λ ends. ends ++ c.len.result ∷ []) c.reserve.ensures.items) (c.in_ok-push-2.ensures.items
    ∙ ap (λ origins. origins ++ c.args.origin ∷ []) c.reserve-2.ensures.items)).1
