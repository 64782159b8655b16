-- Where the clauses are after a compaction.

use Rattle.std.proofs.Common.{◌≡◌, ℕ, suc, zero, ◌+◌, ◌-◌, ◌<◌, ◌≤◌, Option, None, Some, [], ◌∷◌, ◌++◌, length, replicate, length-append, refl, sym, ap, ◌∙◌, arith, zero-add, ⊎_elim}
use Rattle.std.proofs.lemmas.Bool.{cases_lt}
use Rattle.std.proofs.lemmas.List.{length-replicate}
use Rattle.ba_arena.specs.Clauses.{Stored, Clauses, clause_at, IsLive}
use Rattle.ba_arena.specs.Compaction.{size_of, moved, compacted}

past_nones : (n m : ℕ) (xs : Clauses) → clause_at (replicate n None ++ xs) (n + m) ≡ clause_at xs m
past_nones zero m xs = ap (clause_at xs) (zero-add m)
past_nones (suc n) m xs =
    ap (clause_at (replicate (suc n) None ++ xs)) (index n m) ∙ past_nones n m xs
  where
    index : (n m : ℕ) → suc n + m ≡ suc (n + m)
    index n m = omega arith

in_nones : (n j : ℕ) (xs : Clauses) → j < n → clause_at (replicate n None ++ xs) j ≡ None
in_nones zero j xs h = absurd (omega (arith, h))
in_nones (suc n) zero xs h = refl
in_nones (suc n) (suc j) xs h = in_nones n j xs (omega (arith, h))

-- each live clause is where it moved
pub moved-there : (cs : Clauses) (r : ℕ) (s : Stored) → clause_at cs r ≡ Some s
    → clause_at (compacted cs) (moved cs r) ≡ Some s
moved-there [] r s e = absurd (cc e)
moved-there (None ∷ cs) zero s e = absurd (cc e)
moved-there (None ∷ cs) (suc r) s e = ap (clause_at (compacted cs)) (zero-add (moved cs r)) ∙ moved-there cs r s e
moved-there (Some t ∷ cs) zero s e = e
moved-there (Some t ∷ cs) (suc r) s e =
    ap (clause_at (compacted (Some t ∷ cs))) (index (length t.lits) (moved cs r))
    ∙ (past_nones (3 + length t.lits) (moved cs r) (compacted cs) ∙ moved-there cs r s e)
  where
    index : (n m : ℕ) → 4 + n + m ≡ suc (3 + n + m)
    index n m = omega arith

-- the live clauses take all words
pub moved-length : (cs : Clauses) → length (compacted cs) ≡ moved cs (length cs)
moved-length [] = refl
moved-length (None ∷ cs) = omega (arith, moved-length cs)
moved-length (Some t ∷ cs) =
    omega (
      arith,
      length-append (replicate (3 + length t.lits) none) (compacted cs),
      length-replicate (3 + length t.lits) none,
      moved-length cs,
    )
  where
    none : Option Stored
    none = None

-- past the last word nothing moves
pub moved-past : (cs : Clauses) (n : ℕ) → length cs ≤ n → moved cs n ≡ moved cs (length cs)
moved-past [] n h = refl
moved-past (c ∷ cs) zero h = absurd (omega (arith, h))
moved-past (c ∷ cs) (suc n) h = ap (λ m. size_of c + m) (moved-past cs n (omega (arith, h)))

-- and each clause that is there then has moved there
pub record Source (cs : Clauses) (q : ℕ) (s : Stored) : Type 0 where
  pub from : ℕ
  pub is : clause_at cs from ≡ Some s
  pub to : moved cs from ≡ q

pub moved-from : (cs : Clauses) (q : ℕ) (s : Stored) → clause_at (compacted cs) q ≡ Some s → Source cs q s
moved-from [] q s e = absurd (cc e)
moved-from (None ∷ cs) q s e =
    let out = moved-from cs q s e in
    record { from = suc out.from; is = out.is; to = zero-add (moved cs out.from) ∙ out.to }
moved-from (Some t ∷ cs) zero s e = record { from = 0; is = e; to = refl }
moved-from (Some t ∷ cs) (suc q) s e = ⊎_elim
    (λ below. absurd (clash s (sym (in_nones (3 + length t.lits) q (compacted cs) below) ∙ e)))
    (λ above.
    let m : ℕ = q - (3 + length t.lits) in
    let q_is : q ≡ 3 + length t.lits + m = omega (arith, above) in
    let out = moved-from cs m s (sym (past_nones (3 + length t.lits) m (compacted cs))
    ∙ (ap (clause_at (replicate (3 + length t.lits) None ++ compacted cs)) (sym q_is) ∙ e)) in
    record { from = suc out.from; is = out.is; to = omega (arith, out.to, q_is) })
    (cases_lt q (3 + length t.lits))
  where
    clash : (s : Stored) → None ≡ Some s → ⊥
    clash s e = cc e

-- no two live clauses move to one place
pub moved-lt : (cs : Clauses) (r q : ℕ) → r < q → IsLive cs r → moved cs r < moved cs q
moved-lt [] r q h live = absurd (cc live)
moved-lt (c ∷ cs) r zero h live = absurd (omega (arith, h))
moved-lt (None ∷ cs) zero (suc q) h live = absurd (cc live)
moved-lt (Some s ∷ cs) zero (suc q) h live = omega arith
moved-lt (c ∷ cs) (suc r) (suc q) h live = omega (arith, moved-lt cs r q (omega (arith, h)) live)

pub moved-apart : (cs : Clauses) (r q : ℕ) → IsLive cs r → IsLive cs q → moved cs r ≡ moved cs q → r ≡ q
moved-apart cs r q r_live q_live e = ⊎_elim
    (λ below. absurd (omega (arith, e, moved-lt cs r q below r_live)))
    (λ above. ⊎_elim
    (λ below. absurd (omega (arith, e, moved-lt cs q r below q_live)))
    (λ le. omega (arith, above, le))
    (cases_lt q r))
    (cases_lt r q)

-- places that hold clauses of the same sizes
pub moved-same : (cs ds : Clauses) → ((k : ℕ) → size_of (clause_at ds k) ≡ size_of (clause_at cs k)) → (r : ℕ)
    → moved ds r ≡ moved cs r
moved-same [] [] same r = refl
moved-same [] (d ∷ ds) same zero = refl
moved-same [] (d ∷ ds) same (suc r) = omega (arith, same 0, moved-same [] ds (λ k. same (suc k)) r)
moved-same (c ∷ cs) [] same zero = refl
moved-same (c ∷ cs) [] same (suc r) = omega (arith, same 0, moved-same cs [] (λ k. same (suc k)) r)
moved-same (c ∷ cs) (d ∷ ds) same zero = refl
moved-same (c ∷ cs) (d ∷ ds) same (suc r) = omega (arith, same 0, moved-same cs ds (λ k. same (suc k)) r)

-- over places without clauses
pub moved-start : (cs : Clauses) (m : ℕ) → ((k : ℕ) → k < m → clause_at cs k ≡ None) → moved cs m ≡ 0
moved-start [] m none = refl
moved-start (c ∷ cs) zero none = refl
moved-start (c ∷ cs) (suc m) none =
    omega (
      arith,
      ap size_of (none 0 (omega arith)),
      moved-start cs m (λ k h. none (suc k) (omega (arith, h))),
    )

pub moved-next : (cs : Clauses) (c m : ℕ) → c < m → ((k : ℕ) → c < k → k < m → clause_at cs k ≡ None)
    → moved cs m ≡ moved cs c + size_of (clause_at cs c)
moved-next [] c m h none = refl
moved-next (x ∷ cs) c zero h none = absurd (omega (arith, h))
moved-next (x ∷ cs) zero (suc m) h none =
    omega (arith, moved-start cs m (λ k below. none (suc k) (omega arith) (omega (arith, below))))
moved-next (x ∷ cs) (suc c) (suc m) h none =
    omega (
      arith,
      moved-next cs c m (omega (arith, h))
          (λ k after below. none (suc k) (omega (arith, after)) (omega (arith, below))),
    )
