-- The steps of a path, form by form.
use Rattle.std.proofs.Common.{◌≡◌, Bool, true, false, ◌&&◌, ◌==◌, length, List, [], ◌∷◌, ◌++◌, reverse, refl, sym, ◌∙◌, ap, arith}
use Rattle.std.proofs.lemmas.Bool.Decides.{nat_tests}
use Rattle.std.proofs.lemmas.List.{reverse-append}
use Rattle.ba_tree.specs.Choices.{same_path, same_step}
use Rattle.ba_tree.specs.declared.run.Step.{Step}
use Rattle.ba_interp.specs.Paths.{steps_of, path_step}
use Rattle.ba_interp.specs.declared.path.Path.{Path}
use Rattle.ba_interp.specs.declared.path.Path as path
use Rattle.ba_interp.specs.declared.path.Path.TheOpen.{Path-F}
use Rattle.ba_interp.specs.declared.path.Path.TheFolds.{fold-roll-Path}
use Rattle.std.specs.Borrow.{Bor}

pub steps_of-Main : (p : Path) → p ≡ path.Main → steps_of p ≡ []
unfolding steps_of path.roll-Path denote.Hole.Carrier.roll
steps_of-Main p is = ap steps_of is ∙ fold-roll-Path (List Step) path_step Path-F.Main

pub steps_of-Within : (p : Path) (step : Step) (outer : Bor Path) → p ≡ path.Within step outer
    → steps_of p ≡ step ∷ steps_of outer.now
unfolding steps_of path.roll-Path denote.Hole.Carrier.roll
steps_of-Within p step outer is = ap steps_of is
    ∙ fold-roll-Path (List Step) path_step (Path-F.Within step outer)

-- COMPARING a path with steps, outermost first

reversed : (step : Step) (outer : List Step) → reverse (step ∷ outer) ≡ reverse outer ++ step ∷ []
reversed step outer = reverse-append (step ∷ []) outer

none-last : (ys : List Step) (y : Step) → same_path [] (ys ++ y ∷ []) ≡ false
none-last [] y = refl
none-last (x ∷ xs) y = refl

some-none : (xs : List Step) (x : Step) → same_path (xs ++ x ∷ []) [] ≡ false
some-none [] x = refl
some-none (y ∷ ys) x = refl

and_false : (b : Bool) → b && false ≡ false
and_false true = refl
and_false false = refl

and_true : (b : Bool) → b && true ≡ b
and_true true = refl
and_true false = refl

and_assoc : (a b c : Bool) → a && (b && c) ≡ (a && b) && c
and_assoc true b c = refl
and_assoc false b c = refl

lasts-same : (xs ys : List Step) (x y : Step)
    → same_path (xs ++ x ∷ []) (ys ++ y ∷ []) ≡ same_path xs ys && same_step x y
lasts-same [] [] x y = and_true (same_step x y)
lasts-same [] (z ∷ zs) x y = ap (λ b. same_step x z && b) (none-last zs y) ∙ and_false (same_step x z)
lasts-same (z ∷ zs) [] x y = ap (λ b. same_step z y && b) (some-none zs x) ∙ and_false (same_step z y)
lasts-same (z ∷ zs) (u ∷ us) x y = ap (λ b. same_step z u && b) (lasts-same zs us x y)
    ∙ and_assoc (same_step z u) (same_path zs us) (same_step x y)

pub none-same : (steps inner : List Step) → inner ≡ [] → (length steps == 0) ≡ same_path steps (reverse inner)
none-same [] inner is = ap (λ inner. same_path [] (reverse inner)) (sym is)
none-same (s ∷ ss) inner is = grind (arith, nat_tests)
    ∙ ap (λ inner. same_path (s ∷ ss) (reverse inner)) (sym is)

nothing : (steps : List Step) → length steps ≡ 0 → steps ≡ []
nothing [] none = refl
nothing (s ∷ ss) none = absurd (omega arith)

module _ (steps inner outer : List Step) (step : Step) (is : inner ≡ step ∷ outer) where
  pub no-steps : length steps ≡ 0 → false ≡ same_path steps (reverse inner)
  no-steps none = sym (ap (λ steps. same_path steps (reverse inner)) (nothing steps none)
      ∙ ap (λ inner. same_path [] (reverse inner)) is
      ∙ ap (same_path []) (reversed step outer) ∙ none-last (reverse outer) step)

  pub last-compared : (others : List Step) (last : Step) → steps ≡ others ++ last ∷ []
      → same_path steps (reverse inner) ≡ same_path others (reverse outer) && same_step last step
  last-compared others last some = ap (λ steps. same_path steps (reverse inner)) some
      ∙ ap (λ inner. same_path (others ++ last ∷ []) (reverse inner)) is
      ∙ ap (same_path (others ++ last ∷ [])) (reversed step outer)
      ∙ lasts-same others (reverse outer) last step
