-- Elements that are set to values in order, and the rest to 0.
use Rattle.std.proofs.Common.{◌≡◌, ℕ, ◌+◌, ◌-◌, ◌<◌, ℤ, pos, List, ◌∷◌, [], ◌++◌, length, take, replicate, refl, sym, ◌∙◌, ap, arith}
use Rattle.std.proofs.Common.{get_or, set}
use Rattle.std.proofs.Math.Seq.{take-length}
use Rattle.std.proofs.lemmas.List.{get_or-take, get_or_past, get_or-replicate, get_or-append_right, get_or_append_left, take_more, take_more_set}
use Rattle.ba_tree.proofs.Elements.{elements-length}
use Rattle.ba_tree.specs.Meaning.{elements_with}

filled-at : (n : ℕ) (zs : List ℤ) (k : ℕ) → k < n
    → get_or (elements_with n zs) k (pos 0) ≡ get_or zs k (pos 0)
filled-at n zs k below = get_or-take n (zs ++ replicate n (pos 0)) k (pos 0) below ∙ within_or_past where
  within_or_past : get_or (zs ++ replicate n (pos 0)) k (pos 0) ≡ get_or zs k (pos 0)
  within_or_past = grind (
    arith,
    get_or_append_left zs (replicate n (pos 0)) (pos 0) k,
    get_or_past zs k (pos
        0),
    get_or-append_right zs (replicate n (pos 0)) (length zs) k (pos 0) refl,
    get_or-replicate n (k -
        length zs) (pos 0) (pos 0),
  )

-- one more element
pub filled-more : (n : ℕ) (zs elements : List ℤ) (k : ℕ) (z : ℤ) → k < n → length elements ≡ n
    → z ≡ get_or zs k (pos 0)
    → take k elements ≡ take k (elements_with n zs) → take (k + 1) (set elements k z) ≡ take (k + 1)
    (elements_with n zs)
filled-more n zs elements k z below is_length is_value first =
    take_more_set elements k z (grind (arith, is_length)) ∙ ap (λ front. front ++ z ∷ []) first
    ∙ ap (λ z. take k (elements_with n zs) ++ z ∷ []) (is_value ∙ sym (filled-at n zs k below))
    ∙ sym (take_more (elements_with n zs) k (pos 0) (grind (arith, elements-length n zs)))

-- all of them
pub filled-all : (n : ℕ) (zs elements : List ℤ) → length elements ≡ n
    → take n elements ≡ take n (elements_with n zs) → elements ≡ elements_with n zs
filled-all n zs elements is_length same =
    sym (take-length elements) ∙ ap (λ k. take k elements) is_length ∙ same
    ∙ ap (λ k. take k (elements_with n zs)) (sym (elements-length n zs)) ∙ take-length (elements_with n zs)
