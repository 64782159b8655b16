-- Literals of a clause in which two were exchanged.

use Rattle.std.proofs.Common.{◌≡◌, ◌≢◌, ℕ, ◌<◌, List, length, set, cond, eqb, sym, ap, ◌∙◌, subst, arith, ⊎_elim, get_or-set_same, get_or-set_other}
use Rattle.std.proofs.lemmas.Bool.{cases_eq}
use Rattle.std.proofs.lemmas.Bool.Decides.{nat_tests}
use Rattle.std.proofs.lemmas.List.{length-set}
use Rattle.std.specs.List.{swap}
use Rattle.std.proofs.lemmas.List.Edits.{swap_is, length-swap}
use Rattle.ba_lits.specs.Literals.{Literal, no_literal, lit_at, index_of}
use Rattle.ba_watch.specs.Threads.{AreApart}

pub lit_at-swap_second : (lits : List Literal) (a b : ℕ) → a < length lits → b < length lits →
    lit_at (swap lits a b) b ≡ lit_at lits a
lit_at-swap_second lits a b a_in b_in =
    rw (← swap_is lits a b no_literal a_in b_in) (get_or-set_same (set lits a (lit_at lits b)) b
    (lit_at lits a) no_literal (rw length-set b_in))

pub lit_at-swap_first : (lits : List Literal) (a b : ℕ) → a < length lits → b < length lits →
    lit_at (swap lits a b) a ≡ lit_at lits b
lit_at-swap_first lits a b a_in b_in = ⊎_elim
    (λ e. subst (λ (n : ℕ). lit_at (swap lits a b) n ≡ lit_at lits b) (sym e)
    (lit_at-swap_second lits a b a_in b_in ∙ ap (lit_at lits) e))
    (λ ne. rw (← swap_is lits a b no_literal a_in b_in)
    (get_or-set_other (set lits a (lit_at lits b)) b a (lit_at lits a) no_literal ne
    ∙ get_or-set_same lits a (lit_at lits b) no_literal a_in))
    (cases_eq a b)

pub lit_at-swap_other : (lits : List Literal) (a b k : ℕ) → a < length lits → b < length lits → k ≢ a →
    k ≢ b → lit_at (swap lits a b) k ≡ lit_at lits k
lit_at-swap_other lits a b k a_in b_in ka kb =
    rw (← swap_is lits a b no_literal a_in b_in) (get_or-set_other (set lits a (lit_at lits b)) b k
    (lit_at lits a) no_literal kb ∙ get_or-set_other lits a k (lit_at lits b) no_literal ka)

-- what holds at each place holds at each place after the exchange
pub each-swap : (P : Literal → Type 0) (lits : List Literal) (a b : ℕ) → a < length lits → b < length lits
    → ((k : ℕ) → k < length lits → P (lit_at lits k)) → (k : ℕ) → k < length (swap lits a b) →
    P (lit_at (swap lits a b) k)
each-swap P lits a b a_in b_in each k k_in = ⊎_elim
    (λ ea. subst P (sym (ap (lit_at (swap lits a b)) ea ∙ lit_at-swap_first lits a b a_in b_in))
    (each b b_in))
    (λ ka. ⊎_elim
    (λ eb. subst P (sym (ap (lit_at (swap lits a b)) eb ∙ lit_at-swap_second lits a b a_in b_in))
    (each a a_in))
    (λ kb. subst P (sym (lit_at-swap_other lits a b k a_in b_in ka kb))
    (each k (subst (λ (n : ℕ). k < n) (length-swap lits a b) k_in)))
    (cases_eq k b))
    (cases_eq k a)

-- and the other way round
pub each-from_swap : (P : Literal → Type 0) (lits : List Literal) (a b : ℕ) → a < length lits →
    b < length lits
    → ((k : ℕ) → k < length (swap lits a b) → P (lit_at (swap lits a b) k)) → (k : ℕ) → k < length lits →
    P (lit_at lits k)
each-from_swap P lits a b a_in b_in each k k_in =
    let len : length (swap lits a b) ≡ length lits = length-swap lits a b in ⊎_elim
    (λ ea. subst P (lit_at-swap_second lits a b a_in b_in
    ∙ sym (ap (lit_at lits) ea)) (each b (omega (arith, len))))
    (λ ka. ⊎_elim
    (λ eb. subst P (lit_at-swap_first lits a b a_in b_in
    ∙ sym (ap (lit_at lits) eb)) (each a (omega (arith, len))))
    (λ kb. subst P (lit_at-swap_other lits a b k a_in b_in ka kb) (each k (omega (arith, len))))
    (cases_eq k b))
    (cases_eq k a)

-- the place where the literal at a place was before
abbrev sigma : ℕ → ℕ → ℕ → ℕ
sigma a b n = cond (eqb n a) b (cond (eqb n b) a n)

sigma_apart : (a b j k : ℕ) → j ≢ k → sigma a b j ≢ sigma a b k
sigma_apart a b j k ne = grind (arith, nat_tests)

sigma_first : (a b : ℕ) → sigma a b a ≡ b
sigma_first a b = grind (arith, nat_tests)

sigma_second : (a b : ℕ) → sigma a b b ≡ a
sigma_second a b = grind (arith, nat_tests)

sigma_other : (a b n : ℕ) → n ≢ a → n ≢ b → sigma a b n ≡ n
sigma_other a b n na nb = grind (arith, nat_tests)

sigma_within : (a b n len : ℕ) → a < len → b < len → n < len → sigma a b n < len
sigma_within a b n len la lb ln = grind (arith, nat_tests)

lit_at-swap : (lits : List Literal) (a b n : ℕ) → a < length lits → b < length lits →
    lit_at (swap lits a b) n ≡ lit_at lits (sigma a b n)
lit_at-swap lits a b n a_in b_in = ⊎_elim
    (λ ea. subst (λ (m : ℕ). lit_at (swap lits a b) m ≡ lit_at lits (sigma a b m)) (sym ea)
    (lit_at-swap_first lits a b a_in b_in ∙ ap (lit_at lits) (sym (sigma_first a b))))
    (λ na. ⊎_elim
    (λ eb. subst (λ (m : ℕ). lit_at (swap lits a b) m ≡ lit_at lits (sigma a b m)) (sym eb)
    (lit_at-swap_second lits a b a_in b_in ∙ ap (lit_at lits) (sym (sigma_second a b))))
    (λ nb. lit_at-swap_other lits a b n a_in b_in na nb ∙ ap (lit_at lits) (sym (sigma_other a b n na nb)))
    (cases_eq n b))
    (cases_eq n a)

pub AreApart-swap : (lits : List Literal) (a b : ℕ) → a < length lits → b < length lits → AreApart lits →
    AreApart (swap lits a b)
AreApart-swap lits a b a_in b_in apart j k j_in k_in ne same =
    let len : length (swap lits a b) ≡ length lits = length-swap lits a b in
    apart (sigma a b j) (sigma a b k) (sigma_within a b j (length lits) a_in b_in (omega (arith, len)))
    (sigma_within a b k (length lits) a_in b_in (omega (arith, len))) (sigma_apart a b j k ne)
    (ap index_of (sym (lit_at-swap lits a b j a_in b_in))
    ∙ (same ∙ ap index_of (lit_at-swap lits a b k a_in b_in)))
