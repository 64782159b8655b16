-- The clauses of a split are clauses, and what holds of a state when steps are taken.

use Rattle.std.proofs.Common.{◌≡◌, ◌≢◌, ℕ, suc, zero, ◌+◌, ◌-◌, ◌<◌, ◌≤◌, Bool, true, false, cond, ltb, Some, List, [], ◌∷◌, ◌++◌, map, length, All, refl, sym, arith, subst}
use Rattle.std.proofs.lemmas.Option.{cond_some}
use Rattle.std.proofs.lemmas.Bool.Decides.{nat_tests}
use Rattle.std.proofs.lemmas.List.Elements.{All-nil, All-cons, All-append, All-weaker, All-map, All-head, All-tail}
use Rattle.std.specs.List.{slice_get}
use Rattle.ba_lits.specs.Literals.{Literal, negate, IsClause, lit_at, positive, negative}
use Rattle.ba_lits.proofs.ClauseLaws.{IsClause-more, cons_formed, single_formed, IsClause-rest}
use Rattle.ba_checker.specs.Splits.{in_order, or_gate, and_gate, some_of, or_clauses, and_clauses, split_clauses, fresh_count}
use Rattle.ba_checker.specs.States.{Kept, kept, clause_at, live_lits, is_live_origin, without, without_all}
use Rattle.ba_checker.specs.declared.store.Origin.{Origin}
use Rattle.ba_checker.specs.declared.store.Origin.TheVariants as origins

pair_formed : (n : ℕ) (a b : Literal) → 1 ≤ a.variable → a.variable < b.variable → b.variable ≤ n →
    IsClause n (a ∷ b ∷ [])
pair_formed n a b counted lt within = cons_formed n a (b ∷ []) counted (omega arith) (λ some. lt)
    (single_formed n b (omega arith) within)

-- two literals in order, and one before them
in_order_formed : (n : ℕ) (a b : Literal) → 1 ≤ a.variable → 1 ≤ b.variable → a.variable ≤ n →
    b.variable ≤ n → a.variable ≢ b.variable → IsClause n (in_order a b)
in_order_formed n a b p q r s ne = cases (ltb a.variable b.variable) refl
  where
    less : (x y : ℕ) → ltb x y ≡ true → x < y
    less x y e = grind (arith, nat_tests)

    more : (x y : ℕ) → ltb x y ≡ false → x ≢ y → y < x
    more x y e ne = grind (arith, nat_tests)

    cases : (t : Bool) → ltb a.variable b.variable ≡ t → IsClause n (cond t (a ∷ b ∷ []) (b ∷ a ∷ []))
    cases true e = pair_formed n a b p (less a.variable b.variable e) s
    cases false e = pair_formed n b a q (more a.variable b.variable e ne) r

in_order_above : (x : ℕ) (a b : Literal) → x < a.variable → x < b.variable →
    x < (lit_at (in_order a b) 0).variable
in_order_above x a b p q = cases (ltb a.variable b.variable)
  where
    cases : (t : Bool) → x < (lit_at (cond t (a ∷ b ∷ []) (b ∷ a ∷ [])) 0).variable
    cases true = p
    cases false = q

or_gate_formed : (n d : ℕ) (b c : Literal) → 1 ≤ b.variable → b.variable < d → b.variable < c.variable →
    c.variable ≢ d → d ≤ n → c.variable ≤ n → All (IsClause n) (or_gate d b c)
or_gate_formed n d b c counted before_d before_c other d_le c_le =
    All-cons (IsClause n) (b ∷ in_order (negative d) c) ((negate b ∷ positive d ∷ [])
    ∷ in_order (positive d) (negate c) ∷ [])
    (cons_formed n b (in_order (negative d) c) counted (omega arith)
    (λ some. in_order_above b.variable (negative d) c before_d before_c)
    (in_order_formed n (negative d) c (omega arith) (omega arith) d_le c_le (λ e. other (sym e))))
    (All-cons (IsClause n) (negate b ∷ positive d ∷ []) (in_order (positive d) (negate c) ∷ [])
    (pair_formed n (negate b) (positive d) counted before_d d_le)
    (All-cons (IsClause n) (in_order (positive d) (negate c)) []
    (in_order_formed n (positive d) (negate c) (omega arith) (omega arith) d_le c_le (λ e. other (sym e)))
    (All-nil (IsClause n))))

and_gate_formed : (n e : ℕ) (b c : Literal) → 1 ≤ b.variable → b.variable < c.variable → c.variable < e →
    e ≤ n → All (IsClause n) (and_gate e b c)
and_gate_formed n e b c counted before after_ e_le =
    All-cons (IsClause n) (b ∷ negative e ∷ []) ((c ∷ negative e ∷ [])
    ∷ (negate b ∷ negate c ∷ positive e ∷ []) ∷ [])
    (pair_formed n b (negative e) counted (omega arith) e_le)
    (All-cons (IsClause n) (c ∷ negative e ∷ []) ((negate b ∷ negate c ∷ positive e ∷ []) ∷ [])
    (pair_formed n c (negative e) (omega arith) after_ e_le)
    (All-cons (IsClause n) (negate b ∷ negate c ∷ positive e ∷ []) []
    (cons_formed n (negate b) (negate c ∷ positive e ∷ []) counted (omega arith) (λ some. before)
    (pair_formed n (negate c) (positive e) (omega arith) after_ e_le)) (All-nil (IsClause n))))

-- what stands for the later literals is a fresh variable, or the last literal
some_of_is : (P : ℕ → Type 0) (d : ℕ) (c : Literal) (rest : List Literal) → P c.variable →
    (0 < length rest → P d) → P (some_of d (c ∷ rest)).variable
some_of_is P d c [] old fresh = old
some_of_is P d c (x ∷ rest) old fresh = fresh (omega arith)

or_clauses_formed : (m n d : ℕ) (lits : List Literal) → IsClause m lits → m < d →
    d + (length lits - 1) ≤ n + 1 → All (IsClause n) (or_clauses d lits)
or_clauses_formed m n d [] clause fresh le = All-nil (IsClause n)
or_clauses_formed m n d (b ∷ []) clause fresh le = All-nil (IsClause n)
or_clauses_formed m n d (b ∷ c ∷ rest) clause fresh le =
    let b_counted = clause.counted 0 (omega arith) in
    let c_within = clause.within 1 (omega arith) in
    let before = clause.ascends 0 1 (omega arith) (omega arith) in
    All-append (IsClause n) (or_gate d b (some_of (d + 1) (c ∷ rest))) (or_clauses (d + 1) (c ∷ rest))
    (or_gate_formed n d b (some_of (d + 1) (c ∷ rest)) b_counted (omega (arith, before, c_within, fresh))
    (some_of_is (λ x. b.variable < x) (d + 1) c rest before (λ some. omega (arith, before, c_within, fresh)))
    (some_of_is (λ x. x ≢ d) (d + 1) c rest (λ e. omega (arith, e, c_within, fresh))
    (λ some e. omega (arith, e)))
    (omega arith)
    (some_of_is (λ x. x ≤ n) (d + 1) c rest (omega (arith, c_within, fresh, le)) (λ some. omega arith)))
    (or_clauses_formed m n (d + 1) (c ∷ rest) (IsClause-rest m b (c ∷ rest) clause) (omega arith)
    (omega arith))

and_clauses_formed : (m n d e : ℕ) (lits : List Literal) → IsClause m lits → m < d → m < e →
    (2 < length lits → d < e) → e + (length lits - 1) ≤ n + 1 → All (IsClause n) (and_clauses d e lits)
and_clauses_formed m n d e [] clause fresh_d fresh_e apart le = All-nil (IsClause n)
and_clauses_formed m n d e (b ∷ []) clause fresh_d fresh_e apart le = All-nil (IsClause n)
and_clauses_formed m n d e (b ∷ c ∷ rest) clause fresh_d fresh_e apart le =
    let b_counted = clause.counted 0 (omega arith) in
    let c_within = clause.within 1 (omega arith) in
    let before = clause.ascends 0 1 (omega arith) (omega arith) in
    All-append (IsClause n) (and_gate e b (some_of d (c ∷ rest))) (and_clauses (d + 1) (e + 1) (c ∷ rest))
    (and_gate_formed n e b (some_of d (c ∷ rest)) b_counted
    (some_of_is (λ x. b.variable < x) d c rest before (λ some. omega (arith, before, c_within, fresh_d)))
    (some_of_is (λ x. x < e) d c rest (omega (arith, c_within, fresh_e)) (λ some. apart (omega arith)))
    (omega arith))
    (and_clauses_formed m n (d + 1) (e + 1) (c ∷ rest) (IsClause-rest m b (c ∷ rest) clause) (omega arith)
    (omega arith) (λ many. let a = apart (omega arith) in omega (arith, a)) (omega arith))

pub split_formed : (m n : ℕ) (lits : List Literal) → IsClause m lits → m + fresh_count (length lits) ≤ n →
    All (IsClause n) (split_clauses (m + 1) lits)
split_formed m n [] clause le = All-nil (IsClause n)
split_formed m n (b ∷ rest) clause le =
    All-append (IsClause n) (or_clauses (m + 1) rest)
    (and_clauses (m + 1) (m + 1 + (length rest - 1)) (b ∷ rest))
    (or_clauses_formed m n (m + 1) rest (IsClause-rest m b rest clause) (omega arith) (omega arith))
    (and_clauses_formed m n (m + 1) (m + 1 + (length rest - 1)) (b ∷ rest) clause (omega arith)
    (omega arith) (λ many. omega arith) (omega arith))

-- clauses that are kept
abbrev pub AreFormed : ℕ → List Kept → Type 0
AreFormed n clauses = All (λ (k : Kept). IsClause n k.lits) clauses

pub kept_formed : (n : ℕ) (origin : Origin) (cs : List (List Literal)) → All (IsClause n) cs →
    AreFormed n (map (kept origin) cs)
kept_formed n origin cs all = All-map (λ (k : Kept). IsClause n k.lits) (kept origin) cs all

pub one_formed : (n : ℕ) (origin : Origin) (clauses : List Kept) (lits : List Literal) → AreFormed n clauses →
    IsClause n lits → AreFormed n (clauses ++ kept origin lits ∷ [])
one_formed n origin clauses lits all clause =
    All-append (λ (k : Kept). IsClause n k.lits) clauses (kept origin lits ∷ []) all
    (All-cons (λ (k : Kept). IsClause n k.lits) (kept origin lits) [] clause
    (All-nil (λ (k : Kept). IsClause n k.lits)))

pub core_formed : (m n : ℕ) (clauses : List Kept) (lits : List Literal) → AreFormed m clauses →
    IsClause m lits → m + fresh_count (length lits) ≤ n →
    AreFormed n (clauses ++ kept origins.Core lits ∷ []
    ++ map (kept origins.Split) (split_clauses (m + 1) lits))
core_formed m n clauses lits all clause le =
    All-append (λ (k : Kept). IsClause n k.lits) (clauses ++ kept origins.Core lits ∷ [])
    (map (kept origins.Split) (split_clauses (m + 1) lits))
    (All-append (λ (k : Kept). IsClause n k.lits) clauses (kept origins.Core lits ∷ [])
    (All-weaker (λ (k : Kept). IsClause m k.lits) (λ (k : Kept). IsClause n k.lits)
    (λ k c. IsClause-more m n k.lits (omega arith) c) clauses all)
    (All-cons (λ (k : Kept). IsClause n k.lits) (kept origins.Core lits) []
    (IsClause-more m n lits (omega arith) clause) (All-nil (λ (k : Kept). IsClause n k.lits))))
    (kept_formed n origins.Split (split_clauses (m + 1) lits) (split_formed m n lits clause le))

-- clauses are deleted
without_formed : (n : ℕ) (clauses : List Kept) (number : ℕ) → AreFormed n clauses →
    AreFormed n (without clauses number)
without_formed n clauses zero all = all
without_formed n [] (suc k) all = all
without_formed n (x ∷ xs) (suc zero) all =
    All-cons (λ (y : Kept). IsClause n y.lits) (kept origins.Deleted x.lits) xs
    (All-head (λ (y : Kept). IsClause n y.lits) x xs all)
    (All-tail (λ (y : Kept). IsClause n y.lits) x xs all)
without_formed n (x ∷ xs) (suc (suc k)) all =
    All-cons (λ (y : Kept). IsClause n y.lits) x (without xs (suc k))
    (All-head (λ (y : Kept). IsClause n y.lits) x xs all)
    (without_formed n xs (suc k) (All-tail (λ (y : Kept). IsClause n y.lits) x xs all))

pub without_all_formed : (n : ℕ) (clauses : List Kept) (numbers : List ℕ) → AreFormed n clauses →
    AreFormed n (without_all clauses numbers)
without_all_formed n clauses [] all = all
without_all_formed n clauses (number ∷ numbers) all =
    without_all_formed n (without clauses number) numbers (without_formed n clauses number all)

clause_in : (n : ℕ) (clauses : List Kept) (k : ℕ) (c : List Literal) → AreFormed n clauses →
    live_lits (slice_get clauses k) ≡ Some c → IsClause n c
clause_in n [] k c all is = absurd (cc)
clause_in n (x ∷ xs) zero c all is =
    subst (IsClause n) ((cond_some (is_live_origin x.origin) x.lits c is).1)
    (All-head (λ (y : Kept). IsClause n y.lits) x xs all)
clause_in n (x ∷ xs) (suc k) c all is = clause_in n xs k c
    (All-tail (λ (y : Kept). IsClause n y.lits) x xs all) is

pub clause_formed : (n : ℕ) (clauses : List Kept) (number : ℕ) (c : List Literal) → AreFormed n clauses →
    clause_at clauses number ≡ Some c → IsClause n c
clause_formed n clauses zero c all is = absurd (cc)
clause_formed n clauses (suc k) c all is = clause_in n clauses k c all is

-- literals of variables that exist
pub exist_formed : (m n : ℕ) (lits : List Literal) → IsClause m lits →
    ((k : ℕ) → k < length lits → (lit_at lits k).variable ≤ n) → IsClause n lits
exist_formed m n lits clause within = record {
  ascends = clause.ascends;
  counted = clause.counted;
  within =
      within;
}
