-- A set of places as a table of stamps.

use Rattle.std.proofs.Common.{◌≡◌, ℕ, suc, zero, ◌+◌, ◌<◌, ◌≤◌, Bool, true, false, ◌||◌, List, [], ◌∷◌, length, get_or, set, map, eqb, refl, sym, ap, ◌∙◌, arith, ⊎_elim}
use Rattle.std.proofs.lemmas.List.{get_or-set_same, get_or-set_other, map-set}
use Rattle.std.proofs.lemmas.Bool.{cases_eq, eq-eqb, ne_eqb, or_left}
use Rattle.std.proofs.lemmas.Bool.Decides.{nat_tests}

-- what a table of stamps says of a place
stamped : (xs : List ℕ) (stamp p : ℕ) → 1 ≤ stamp →
    get_or (map (λ (s : ℕ). eqb s stamp) xs) p false ≡ eqb (get_or xs p 0) stamp
stamped [] stamp p some = grind (arith, nat_tests)
stamped (x ∷ xs) stamp zero some = refl
stamped (x ∷ xs) stamp (suc p) some = stamped xs stamp p some

-- a greater stamp empties the set
pub stamped-none : (xs : List ℕ) (stamp p : ℕ) → get_or xs p 0 ≤ stamp →
    get_or (map (λ (s : ℕ). eqb s (stamp + 1)) xs) p false ≡ false
stamped-none xs stamp p le =
    stamped xs (stamp + 1) p (omega arith) ∙ ne_eqb (get_or xs p 0) (stamp + 1) (λ e. absurd (omega arith))

-- a longer table says the same
pub stamped-longer : (xs ys : List ℕ) (stamp p : ℕ) → 1 ≤ stamp → ((k : ℕ) → get_or ys k 0 ≡ get_or xs k 0) →
    get_or (map (λ (s : ℕ). eqb s stamp) ys) p false ≡ get_or (map (λ (s : ℕ). eqb s stamp) xs) p false
stamped-longer xs ys stamp p some same =
    stamped ys stamp p some ∙ (ap (λ (n : ℕ). eqb n stamp) (same p) ∙ sym (stamped xs stamp p some))

-- stamps stay at most the present one
pub below-set : (xs : List ℕ) (stamp q p : ℕ) → ((k : ℕ) → get_or xs k 0 ≤ stamp) → q < length xs →
    get_or (set xs q stamp) p 0 ≤ stamp
below-set xs stamp q p le within = ⊎_elim
    (λ same. rw same (rw (get_or-set_same xs q stamp 0 within) (omega arith)))
    (λ other. rw (get_or-set_other xs q p stamp 0 other) (le p))
    (cases_eq p q)

-- a place is stamped
pub stamped-set : (xs : List ℕ) (stamp q : ℕ) →
    map (λ (s : ℕ). eqb s stamp) (set xs q stamp) ≡ set (map (λ (s : ℕ). eqb s stamp) xs) q true
stamped-set xs stamp q =
    map-set (λ (s : ℕ). eqb s stamp) xs q stamp
    ∙ ap (λ (b : Bool). set (map (λ (s : ℕ). eqb s stamp) xs) q b) (eq-eqb stamp stamp refl)

-- a place is marked
pub marked-set : (marks : List Bool) (q p : ℕ) → q < length marks →
    get_or (set marks q true) p false ≡ (eqb p q || get_or marks p false)
marked-set marks q p within = ⊎_elim
    (λ same.
    rw same (get_or-set_same marks q true false within)
    ∙ sym (or_left (eqb p q) (get_or marks p false) (eq-eqb p q same)))
    (λ other.
    get_or-set_other marks q p true false other
    ∙ sym (ap (λ (b : Bool). b || get_or marks p false) (ne_eqb p q other)))
    (cases_eq p q)
