use Rattle.std.proofs.Common.{◌≡◌, ℕ, ◌<◌, ◌++◌, ◌∷◌, [], List, length, get_or, map, take, subst, sym, ap, ◌∙◌, arith, rules}
use Rattle.std.proofs.lemmas.List.{map_more, take_all, get_or_default}
use Rattle.std.proofs.lemmas.List.Sorted.{IsNonDecreasingBy-from_sort_by_key}
use Rattle.std.specs.List.Sorted.{IsPermutation}
use Rattle.ba_lits.specs.Literals.{Literal, negate, lit_at, no_literal}
use Rattle.ba_learn.specs.Resolving.{Work, negated_at}
use Rattle.ba_learn.proofs.resolution.Resolution.clause.Goals as goal

pub loop-place-preserved : goal.loop-place-preserved
loop-place-preserved c =
    let s = c.args.watch.now in
    let xs : List ℕ = c.deref-place-items.result.now in
    let i : ℕ = c.loop-place.place-index in
    let T : List Literal = c.trail-trail.result.now in
    let p : ℕ = get_or xs i 0 in
    let within : p < length T = search rules in
    let value : c.negated.result ≡ negated_at s p = c.negated.ensures
    ∙ ap negate (c.index-trail-place.is ∙ (get_or_default T p _ no_literal within
    ∙ ap (λ (t : List Literal). lit_at t p) c.trail-trail.ensures)) in
    let items : c.push-in-loop-place.new.self.items ≡ c.loop-place.lits.items ++ c.negated.result ∷ [] =
    search rules in
    items ∙ (ap (λ (ls : List Literal). ls ++ c.negated.result ∷ []) c.loop-place.invariant
    ∙ (ap (λ (l : Literal). c.args.lead ∷ (map (negated_at s) (take i xs) ++ l ∷ [])) value
    ∙ ap (λ (ls : List Literal). c.args.lead ∷ ls)
    (sym (map_more (negated_at s) xs i 0 (omega (arith, c.loop-place-test.true))))))

pub returns : goal.returns
returns c =
    let s = c.args.watch.now in
    let xs : List ℕ = c.deref-place-items.result.now in
    let whole : take c.loop-place.place-index xs ≡ c.args.self.now.kept =
    take_all c.loop-place.place-index xs (omega (arith, c.loop-place-test.false))
    ∙ (c.deref-place-items.ensures.value ∙ ap (λ (w : Work). w.kept) c.self.view_is) in
    let e = c.sort_unstable_by_key.ensures in
    record {
      same = subst (λ (ls : List Literal). IsPermutation ls c.sort_unstable_by_key.new.self.items)
          (c.loop-place.invariant ∙ ap (λ (ps : List ℕ). c.args.lead ∷ map (negated_at s) ps) whole)
          e.permutation;
      ascends = IsNonDecreasingBy-from_sort_by_key (λ (l : Literal). l.variable) _ e.sorted
          (λ a r q k. search rules);
    }
