-- What a frame gives back.
use Rattle.std.proofs.Common.{◌≡◌, ℕ, ℤ, List, [], ◌∷◌, ◌++◌, length, take, refl, sym, ◌∙◌, ap}
use Rattle.ba_numbers.specs.declared.ids.VarId.{VarId}
use Rattle.ba_tree.specs.Run.{with_restored, end_frame}
use Rattle.ba_tree.specs.State.{State}
use Rattle.ba_tree.specs.declared.tree.Function.{Function}

with_restored-append : (vs us : List VarId) (before s : State)
    → with_restored (vs ++ us) before s ≡ with_restored us before (with_restored vs before s)
with_restored-append [] us before s = refl
with_restored-append (v ∷ vs) us before s = with_restored-append vs us before (with_restored (v ∷ []) before
    s)

with_restored-arrays : (vs : List VarId) (before s : State) → (with_restored vs before s).arrays ≡ s.arrays
with_restored-arrays [] before s = refl
with_restored-arrays (v ∷ vs) before s = with_restored-arrays vs before (with_restored (v ∷ []) before s)

abbrev with_arrays : State → List (List ℤ) → State
with_arrays s arrays = record s { arrays = arrays }

pub ended : (f : Function) (before s t u : State) (n : ℕ) → t ≡ with_restored f.params before s
    → u ≡ with_restored f.locals before t
    → n ≡ length before.arrays → with_arrays u (take n u.arrays) ≡ end_frame f before s
ended f before s t u n first second count =
    let all : u ≡ with_restored (f.params ++ f.locals) before s =
    second ∙ ap (with_restored f.locals before) first
    ∙ sym (with_restored-append f.params f.locals before s) in
    let same : u.arrays ≡ s.arrays = ap (λ (s : State). s.arrays) all
    ∙ with_restored-arrays (f.params ++ f.locals) before s in
    ap (λ n. with_arrays u (take n u.arrays)) count
    ∙ ap (λ arrays. with_arrays u (take (length before.arrays) arrays)) same
    ∙ ap (λ u. with_arrays u (take (length before.arrays) s.arrays)) all
