-- The clause that blocks a set of groups is a clause over their variables.

use Rattle.std.proofs.Common.{◌≡◌, ◌≢◌, ℕ, suc, zero, ◌<◌, ◌≤◌, ◌==◌, Bool, true, false, cond, ltb, Option, None, Some, List, [], ◌∷◌, ◌++◌, length, take, drop, All, refl, sym, ap, ◌∙◌, subst, arith}
use Rattle.std.proofs.lemmas.Bool.{or_parts}
use Rattle.std.proofs.lemmas.Bool.Decides.{nat_tests}
use Rattle.std.proofs.lemmas.List.Elements.{All-head, All-tail}
use Rattle.std.proofs.lemmas.Option.{same_Some}
use Rattle.std.specs.List.{slice_get}
use Rattle.ba_lits.specs.Literals.{Literal, IsClause, lit_at}
use Rattle.ba_lits.specs.Satisfaction.{Soft}
use Rattle.ba_steps.specs.Steps.{AreAbove}
use Rattle.ba_lits.proofs.ClauseLaws.{nil_formed, cons_formed, single_formed, IsClause-rest}
use Rattle.ba_checker.specs.States.{present}
use Rattle.ba_checker.specs.Facts.{Differs, AreDifferent, AreAmong}
use Rattle.ba_checker.specs.Blocks.{entry_of, entry_weight, weight_at, lacks_group, inserted, with_selector, block_clause}

-- no literal is of the variable
abbrev Lacks : ℕ → List Literal → Type 0
Lacks x [] = Unit {0}
Lacks x (l ∷ ls) = (l.variable ≢ x) × Lacks x ls

Lacks-inserted : (x : ℕ) (l : Literal) (lits : List Literal) → l.variable ≢ x → Lacks x lits →
    Lacks x (inserted l lits)
Lacks-inserted x l [] ne lacks = (ne, tt)
Lacks-inserted x l (m ∷ ms) ne lacks = cases (ltb l.variable m.variable) (Lacks-inserted x l ms ne lacks.1)
  where
    cases : (t : Bool) → Lacks x (inserted l ms) → Lacks x (cond t (l ∷ m ∷ ms) (m ∷ inserted l ms))
    cases true rest = (ne, lacks)
    cases false rest = (lacks.0, rest)

-- the first of them
inserted_above : (x : ℕ) (l : Literal) (lits : List Literal) → x < l.variable →
    (0 < length lits → x < (lit_at lits 0).variable) → x < (lit_at (inserted l lits) 0).variable
inserted_above x l [] lt rest = lt
inserted_above x l (m ∷ ms) lt rest = cases (ltb l.variable m.variable)
  where
    cases : (t : Bool) → x < (lit_at (cond t (l ∷ m ∷ ms) (m ∷ inserted l ms)) 0).variable
    cases true = lt
    cases false = rest (omega arith)

inserted_formed : (n : ℕ) (l : Literal) (lits : List Literal) → 1 ≤ l.variable → l.variable ≤ n →
    Lacks l.variable lits → IsClause n lits → IsClause n (inserted l lits)
inserted_formed n l [] counted within lacks clause = single_formed n l counted within
inserted_formed n l (m ∷ ms) counted within lacks clause =
    cases (ltb l.variable m.variable) refl
    (inserted_formed n l ms counted within lacks.1 (IsClause-rest n m ms clause))
  where
    less : (x y : ℕ) → ltb x y ≡ true → x < y
    less x y e = grind (arith, nat_tests)

    more : (x y : ℕ) → ltb x y ≡ false → y ≢ x → y < x
    more x y e ne = grind (arith, nat_tests)

    cases : (t : Bool) → ltb l.variable m.variable ≡ t → IsClause n (inserted l ms) →
        IsClause n (cond t (l ∷ m ∷ ms) (m ∷ inserted l ms))
    cases true e rest =
        cons_formed n l (m ∷ ms) counted within (λ some. less l.variable m.variable e) clause
    cases false e rest =
        cons_formed n m (inserted l ms) (clause.counted 0 (omega arith)) (clause.within 0 (omega arith))
        (λ some. inserted_above m.variable l ms (more l.variable m.variable e lacks.0) (λ some.
        clause.ascends 0 1 (omega arith) (omega arith))) rest

-- an entry with a weight is one of those that are present
pub heavy : (x : ℕ) → (x == 0) ≡ false → ltb 0 x ≡ true
heavy x e = grind (arith, nat_tests)

entry_each : (P : Soft → Type 0) (groups : List Soft) (k : ℕ) (s : Soft) → All P (present groups) →
    slice_get groups k ≡ Some s → (s.1 == 0) ≡ false → P s
entry_each P [] k s all is weighs = absurd (cc)
entry_each P (g ∷ gs) zero s all is weighs =
    let same : g ≡ s = same_Some g s is in
    subst P same (first (ltb 0 g.1) (heavy g.1 (ap (λ (x : Soft). x.1 == 0) same ∙ weighs)) all)
  where
    first : (t : Bool) → t ≡ true → All P (cond t (g ∷ present gs) (present gs)) → P g
    first true e some = All-head P g (present gs) some
    first false e some = absurd (cc)
entry_each P (g ∷ gs) (suc k) s all is weighs = entry_each P gs k s (rest (ltb 0 g.1) all) is weighs
  where
    rest : (t : Bool) → All P (cond t (g ∷ present gs) (present gs)) → All P (present gs)
    rest true some = All-tail P g (present gs) some
    rest false some = some

entry_differs : (x : ℕ) (groups : List Soft) (k : ℕ) (s : Soft) → Differs x (present groups) →
    slice_get groups k ≡ Some s → (s.1 == 0) ≡ false → s.0.variable ≢ x
entry_differs x [] k s differ is weighs = absurd (cc)
entry_differs x (g ∷ gs) zero s differ is weighs =
    let P : Soft → Type 0 = λ soft. soft.0.variable ≢ x in
    let same : g ≡ s = same_Some g s is in
    subst P same (first (ltb 0 g.1) (heavy g.1 (ap (λ (y : Soft). y.1 == 0) same ∙ weighs)) differ)
  where
    first : (t : Bool) → t ≡ true → Differs x (cond t (g ∷ present gs) (present gs)) →
        g.0.variable ≢ x
    first true e some = some.0
    first false e some = absurd (cc)
entry_differs x (g ∷ gs) (suc k) s differ is weighs =
    entry_differs x gs k s (rest (ltb 0 g.1) differ) is weighs
  where
    rest : (t : Bool) → Differs x (cond t (g ∷ present gs) (present gs)) → Differs x (present gs)
    rest true some = some.1
    rest false some = some

entries_differ : (groups : List Soft) (j k : ℕ) (s t : Soft) → AreDifferent (present groups) → j < k →
    slice_get groups j ≡ Some s → (s.1 == 0) ≡ false → slice_get groups k ≡ Some t →
    (t.1 == 0) ≡ false → t.0.variable ≢ s.0.variable
entries_differ [] j k s t differ lt first s_weighs second t_weighs = absurd (cc)
entries_differ (g ∷ gs) j zero s t differ lt first s_weighs second t_weighs = absurd (omega arith)
entries_differ (g ∷ gs) zero (suc k) s t differ lt first s_weighs second t_weighs =
    let P : Soft → Type 0 = λ soft. t.0.variable ≢ soft.0.variable in
    let same : g ≡ s = same_Some g s first in
    subst P same (entry_differs g.0.variable gs k t
    (head (ltb 0 g.1) (heavy g.1 (ap (λ (y : Soft). y.1 == 0) same ∙ s_weighs)) differ) second t_weighs)
  where
    head : (b : Bool) → b ≡ true → AreDifferent (cond b (g ∷ present gs) (present gs)) →
        Differs g.0.variable (present gs)
    head true e some = some.0
    head false e some = absurd (cc)
entries_differ (g ∷ gs) (suc j) (suc k) s t differ lt first s_weighs second t_weighs =
    entries_differ gs j k s t (rest (ltb 0 g.1) differ) (omega arith) first s_weighs second t_weighs
  where
    rest : (b : Bool) → AreDifferent (cond b (g ∷ present gs) (present gs)) → AreDifferent (present gs)
    rest true some = some.1
    rest false some = some

-- so for the numbers of groups
numbered_each : (P : Soft → Type 0) (groups : List Soft) (n : ℕ) (s : Soft) → All P (present groups) →
    entry_of groups n ≡ Some s → (s.1 == 0) ≡ false → P s
numbered_each P groups zero s all is weighs = absurd (cc)
numbered_each P groups (suc k) s all is weighs = entry_each P groups k s all is weighs

numbered_differ : (groups : List Soft) (m n : ℕ) (s t : Soft) → AreDifferent (present groups) → m < n →
    entry_of groups m ≡ Some s → (s.1 == 0) ≡ false → entry_of groups n ≡ Some t →
    (t.1 == 0) ≡ false → t.0.variable ≢ s.0.variable
numbered_differ groups zero n s t differ lt first s_weighs second t_weighs = absurd (cc)
numbered_differ groups (suc j) zero s t differ lt first s_weighs second t_weighs = absurd (cc)
numbered_differ groups (suc j) (suc k) s t differ lt first s_weighs second t_weighs =
    entries_differ groups j k s t differ (omega arith) first s_weighs second t_weighs

-- the clause of later groups lacks the variable of a group
block_lacks : (groups : List Soft) (n last : ℕ) (s : Soft) (set : List ℕ) → AreDifferent (present groups) →
    entry_of groups n ≡ Some s → (s.1 == 0) ≡ false → n ≤ last → AreAbove last set →
    lacks_group groups set ≡ false → Lacks s.0.variable (block_clause groups set)
block_lacks groups n last s [] differ is weighs le above exist = tt
block_lacks groups n last s (m ∷ ms) differ is weighs le above exist =
    let parts = or_parts (weight_at groups m == 0) (lacks_group groups ms) exist in
    cases (entry_of groups m) refl parts.0
    (block_lacks groups n m s ms differ is weighs (omega (arith, le, above.0)) above.1 parts.1)
  where
    cases : (o : Option Soft) → entry_of groups m ≡ o → (entry_weight o == 0) ≡ false →
        Lacks s.0.variable (block_clause groups ms) →
        Lacks s.0.variable (with_selector o (block_clause groups ms))
    cases None e none rest = absurd (cc)
    cases (Some t) e some rest =
        Lacks-inserted s.0.variable t.0 (block_clause groups ms)
        (numbered_differ groups n m s t differ (omega (arith, le, above.0)) is weighs e some) rest

-- THE CLAUSE of a set
block_from : (variables : ℕ) (groups : List Soft) (last : ℕ) (set : List ℕ) →
    AreAmong variables (present groups) → AreDifferent (present groups) → AreAbove last set →
    lacks_group groups set ≡ false → IsClause variables (block_clause groups set)
block_from variables groups last [] among differ above exist = nil_formed variables
block_from variables groups last (n ∷ ns) among differ above exist =
    let parts = or_parts (weight_at groups n == 0) (lacks_group groups ns) exist in
    cases (entry_of groups n) refl parts.0 parts.1
    (block_from variables groups n ns among differ above.1 parts.1)
  where
    cases : (o : Option Soft) → entry_of groups n ≡ o → (entry_weight o == 0) ≡ false →
        lacks_group groups ns ≡ false → IsClause variables (block_clause groups ns) →
        IsClause variables (with_selector o (block_clause groups ns))
    cases None e none later rest = absurd (cc)
    cases (Some s) e some later rest =
        let here = numbered_each (λ (x : Soft). (1 ≤ x.0.variable) × (x.0.variable ≤ variables)) groups n s
        among e some in
        inserted_formed variables s.0 (block_clause groups ns) here.0 here.1
        (block_lacks groups n n s ns differ e some (omega arith) above.1 later) rest

pub block_formed : (variables : ℕ) (groups : List Soft) (set : List ℕ) →
    AreAmong variables (present groups) → AreDifferent (present groups) → AreAbove 0 set →
    lacks_group groups set ≡ false → IsClause variables (block_clause groups set)
block_formed variables groups set = block_from variables groups 0 set

-- where a literal is inserted: before the first of a greater variable
pub inserted_turn : (l m : Literal) (lits : List Literal) (k : ℕ) → slice_get lits k ≡ Some m →
    ltb l.variable m.variable ≡ false →
    take (suc k) lits ++ inserted l (drop (suc k) lits) ≡ take k lits ++ inserted l (drop k lits)
inserted_turn l m [] k is later = absurd (cc)
inserted_turn l m (x ∷ xs) zero is later =
    let test : ltb l.variable x.variable ≡ false =
    ap (λ (y : Literal). ltb l.variable y.variable) (same_Some x m is) ∙ later in
    sym (ap (λ b. cond b (l ∷ x ∷ xs) (x ∷ inserted l xs)) test)
inserted_turn l m (x ∷ xs) (suc k) is later = ap (λ ys. x ∷ ys) (inserted_turn l m xs k is later)

pub inserted_here : (l m : Literal) (lits : List Literal) (k : ℕ) → slice_get lits k ≡ Some m →
    ltb l.variable m.variable ≡ true →
    take k lits ++ l ∷ drop k lits ≡ take k lits ++ inserted l (drop k lits)
inserted_here l m [] k is sooner = absurd (cc)
inserted_here l m (x ∷ xs) zero is sooner =
    let test : ltb l.variable x.variable ≡ true =
    ap (λ (y : Literal). ltb l.variable y.variable) (same_Some x m is) ∙ sooner in
    sym (ap (λ b. cond b (l ∷ x ∷ xs) (x ∷ inserted l xs)) test)
inserted_here l m (x ∷ xs) (suc k) is sooner = ap (λ ys. x ∷ ys) (inserted_here l m xs k is sooner)
