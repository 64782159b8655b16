-- Runs on inputs that are lent, one by one.
use Rattle.std.proofs.Common.{◌≡◌, ℕ, ◌+◌, ◌<◌, ◌≤◌, true, false, true≢false, List, map, take, length, get_or, sym, ap, subst, ◌∙◌, arith, Bor}
use Rattle.std.proofs.Math.ListN.{get_or-map}
use Rattle.std.proofs.lemmas.List.{length-map, take_all}
use Rattle.std.proofs.lemmas.List.Elements.{All-more}
use Rattle.ba_tree.specs.Run.{runs_well}
use Rattle.ba_tree.specs.declared.run.Bounds.{Bounds}
use Rattle.ba_tree.specs.declared.run.Input.{Input}
use Rattle.ba_tree.specs.declared.tree.Program.{Program}
use Rattle.ba_repair.specs.Good.{Passes}

-- the inputs themselves
abbrev pub lent : List (Bor Input) → List Input
lent = map (λ (input : Bor Input). input.now)

module _ (p : Program) (bounds : Bounds) (inputs : List (Bor Input)) where
  module _ (k : ℕ) (input : Bor Input) (within : k < length inputs) (is : input ≡ get_or inputs k input) where
    here : get_or (lent inputs) k input.now ≡ input.now
    here = get_or-map (λ (input : Bor Input). input.now) inputs k input
        ∙ ap (λ (input : Bor Input). input.now) (sym is)

    there : k < length (lent inputs)
    there = let same = length-map inputs (λ (input : Bor Input). input.now) in omega (arith, same, within)

    -- one that is not done
    pub fails : runs_well p input.now bounds ≡ false → Passes bounds (lent inputs) p → ⊥
    fails none passes = true≢false (sym (subst (λ i. runs_well p i bounds ≡ true) here
        (passes k input.now there)) ∙ none)

    -- one more that is
    pub one-more : runs_well p input.now bounds ≡ true → Passes bounds (take k (lent inputs)) p
        → Passes bounds (take (k + 1) (lent inputs)) p
    one-more well passes = All-more (λ i. runs_well p i bounds ≡ true) (lent inputs) k input.now there passes
        (subst (λ i. runs_well p i bounds ≡ true) (sym here) well)

  pub all-pass : (k : ℕ) → length inputs ≤ k → Passes bounds (take k (lent inputs)) p
      → Passes bounds (lent inputs) p
  all-pass k past passes = subst (λ inputs. Passes bounds inputs p)
      (take_all k (lent inputs) (let same = length-map inputs (λ (input : Bor Input). input.now) in
      omega (arith, same, past))) passes
