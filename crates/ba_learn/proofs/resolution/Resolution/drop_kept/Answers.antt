use Rattle.std.proofs.Common.{arith, vec_len, ◌+◌, ◌-◌, ◌≡◌, ℕ, ◌<◌, ◌≤◌, List, length, get_or, refl, subst, sym, ap, ◌∙◌}
use Rattle.std.proofs.lemmas.List.{get_or_default}
use Rattle.std.specs.List.{swap_remove}
use Rattle.ba_learn.specs.Resolving.{Work, StandsBehind}
use Rattle.ba_learn.proofs.ResolveLaws.{swapped_rest}
use Rattle.ba_learn.proofs.resolution.Resolution.drop_kept.Goals as goal

pub returns-clause-drops : goal.returns-clause-drops
returns-clause-drops c =
    let i = c.self.inside in
    let e = c.swap_remove.ensures in
    let rest : List ℕ → List ℕ = λ xs. swap_remove xs c.args.index (get_or xs c.args.index 0) in
    let within : c.args.index < length i.kept.items =
    subst (λ (w : Work). c.args.index < length w.kept) (sym c.self.view_is) c.requires in
    ap (λ (xs : List ℕ). record {
      seen = i.seen;
      floor = i.floor;
      deep = i.deep;
      pending = i.pending;
      kept = xs;
      resolved = i.resolved.items;
      waiting = i.waiting.items;
    }) (e.items ∙ ap (swap_remove i.kept.items c.args.index) (e.value
    ∙ get_or_default i.kept.items c.args.index c.swap_remove.result 0 within))
    ∙ ap (λ (w : Work). record w { kept = rest w.kept }) c.self.view_is

pub returns-clause-behind : goal.returns-clause-behind
returns-clause-behind c =
    let i = c.self.inside in
    let e = c.swap_remove.ensures in
    let len : vec_len i.kept ≡ length i.kept.items = omega (arith, i.kept.ok.0) in
    let P : ℕ → Type 0 = StandsBehind i.kept.items c.args.index in
    subst (λ (w : Work). (k : ℕ) → c.args.index ≤ k → k < length c.swap_remove.new.self.items →
    StandsBehind w.kept c.args.index (get_or c.swap_remove.new.self.items k 0)) c.self.view_is
    (swapped_rest P i.kept.items c.swap_remove.new.self.items c.args.index
    (omega (arith, e.len, i.kept.ok.0, c.swap_remove.new.self.ok.0))
    (λ more. e.by_index.0 0 (omega (arith, more, i.kept.ok.0))
    ∙ ap (λ (n : ℕ). get_or i.kept.items (n - 1) 0) len)
    (λ k ne more. e.by_index.1 k 0 ne (omega (arith, more, i.kept.ok.0)))
    (λ k above within. (k, omega (arith, above), within, refl)))
