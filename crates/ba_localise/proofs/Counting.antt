-- A list of sets that differ is no longer than one that has them all.

use Rattle.std.proofs.Common.{◌≡◌, ℕ, ◌+◌, ◌≤◌, true, false, List, [], ◌∷◌, length, sym, ◌∙◌, inl, inr, refl, arith}
use Rattle.std.specs.Prelude.{Contains, nat_eq}
use Rattle.std.specs.List.{AllByRecursion, IsDistinct}
use Rattle.std.specs.Cmp.Lexicographic.{bytes_decides, pointwise}
use Rattle.ba_tree.proofs.Members.{Has, contains_has, has_contains}

-- a list without the first place of a set that it has
without : (sets : List (List ℕ)) (set : List ℕ) → Has sets set → List (List ℕ)
without [] set has = absurd has
without (x ∷ xs) set (inl e) = xs
without (x ∷ xs) set (inr has) = x ∷ without xs set has

shorter : (sets : List (List ℕ)) (set : List ℕ) (has : Has sets set)
    → length sets ≡ length (without sets set has) + 1
unfolding without
shorter [] set has = absurd has
shorter (x ∷ xs) set (inl e) = omega arith
shorter (x ∷ xs) set (inr has) = let rest = shorter xs set has in omega arith

-- it still has each other one
still : (sets : List (List ℕ)) (set other : List ℕ) (has : Has sets set) → (set ≡ other → ⊥)
    → Has sets other → Has (without sets set has) other
unfolding without
still [] set other has apart other_has = absurd has
still (x ∷ xs) set other (inl e) apart (inl f) = absurd (apart (e ∙ sym f))
still (x ∷ xs) set other (inl e) apart (inr there) = there
still (x ∷ xs) set other (inr has) apart (inl f) = inl f
still (x ∷ xs) set other (inr has) apart (inr there) = inr (still xs set other has apart there)

-- the first of sets that differ is none of the others
others_differ : (set other : List ℕ) (sets : List (List ℕ))
    → AllByRecursion (λ y. pointwise nat_eq set y ≡ false) sets → Has sets other → set ≡ other → ⊥
others_differ set other [] all has same = has
others_differ set other (x ∷ xs) all (inl e) same =
    let no : false ≡ true = sym all.0 ∙ (bytes_decides set x).1 (same ∙ e) in cc
others_differ set other (x ∷ xs) all (inr has) same = others_differ set other xs all.1 has same

short : (sets others : List (List ℕ)) → IsDistinct (pointwise nat_eq) sets
    → ((set : List ℕ) → Has sets set → Has others set) → length sets ≤ length others
unfolding IsDistinct
short [] others differ within = omega arith
short (set ∷ sets) others differ within =
    let has : Has others set = within set (inl refl) in
    let less = shorter others set has in
    let rest = short sets (without others set has) differ.1 (λ other there.
    still others set other has (others_differ set other sets differ.0 there) (within other (inr there))) in
    omega arith

pub distinct_short : (sets others : List (List ℕ)) → IsDistinct (pointwise nat_eq) sets
    → ((set : List ℕ) → Contains sets set → Contains others set) → length sets ≤ length others
distinct_short sets others differ within = short sets others differ
    (λ set has. contains_has others set (within set (has_contains sets set has)))
