-- A text to which parts are added.

use Rattle.std.proofs.Common.{◌≡◌, ℕ, List, ◌++◌, ap, sym, ◌∙◌, append_assoc}

-- a first part, and a second of two
pub parts_added : (old mid new first second third : List ℕ) → mid ≡ old ++ first
    → new ≡ mid ++ (second ++ third) → new ≡ old ++ (first ++ second ++ third)
parts_added old mid new first second third one two =
    two ∙ ap (λ (t : List ℕ). t ++ (second ++ third)) one ∙ append_assoc old first (second ++ third)
    ∙ ap (λ (t : List ℕ). old ++ t) (sym (append_assoc first second third))
