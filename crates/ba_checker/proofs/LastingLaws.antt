-- The learnt clauses, also the deleted ones, hold wherever the lasting ones do.

use Rattle.std.proofs.Common.{◌≡◌, ℕ, suc, zero, Bool, true, false, ◌&&◌, cond, ltb, Option, None, Some, List, [], ◌∷◌, ◌++◌, map, filter, refl, sym, ap, ◌∙◌}
use Rattle.std.proofs.lemmas.Bool.{and_parts, and_from}
use Rattle.std.proofs.lemmas.List.{append-nil}
use Rattle.std.proofs.lemmas.List.Elements.{filter-append}
use Rattle.std.specs.List.{list_all}
use Rattle.ba_lits.specs.Literals.{Literal}
use Rattle.ba_lits.specs.Satisfaction.{Assignment, any_true, all_true}
use Rattle.ba_lits.proofs.Satisfied.{all_true-append}
use Rattle.ba_steps.specs.declared.step.StepError.TheVariants.{NotNew, WrongCount, BadVariable}
use Rattle.ba_checker.specs.States.{Kept, kept, State, kept_at, is_learnt_at, is_learnt_entry, is_learnt_origin, is_lasting, is_lasting_origin, width_at, without, without_all}
use Rattle.ba_checker.specs.StepRules.{error_if, lacks_variable, is_spent, hint_error, learn_error}
use Rattle.ba_checker.specs.Facts.{all_lits, lasting}
use Rattle.ba_checker.specs.Parts.{holds_clause}
use Rattle.ba_checker.specs.declared.store.Origin.{Origin}
use Rattle.ba_checker.specs.declared.store.Origin.TheVariants as origins
use Rattle.ba_checker.proofs.FactLaws.{no_error, follows_true, all_lits-append, all_lits-kept, all_lits-without_all, all_true-push}

abbrev pub AreImplied : List Kept → Type 0
AreImplied clauses = (v : Assignment) → all_true v (lasting clauses) ≡ true →
    all_true v (all_lits clauses) ≡ true

lasting-append : (xs ys : List Kept) → lasting (xs ++ ys) ≡ lasting xs ++ lasting ys
lasting-append xs ys = ap all_lits (filter-append is_lasting xs ys)
    ∙ all_lits-append (filter is_lasting xs) (filter is_lasting ys)

-- clauses of one lasting origin
lasting_kept : (origin : Origin) (cs : List (List Literal)) → is_lasting_origin origin ≡ true →
    lasting (map (kept origin) cs) ≡ cs
lasting_kept origin [] lasts = refl
lasting_kept origin (c ∷ cs) lasts = one (is_lasting_origin origin) lasts (lasting_kept origin cs lasts)
  where
    one : (b : Bool) → b ≡ true → lasting (map (kept origin) cs) ≡ cs →
        all_lits (cond b (kept origin c ∷ filter is_lasting (map (kept origin) cs))
        (filter is_lasting (map (kept origin) cs))) ≡ c ∷ cs
    one true e rest = ap (λ ds. c ∷ ds) rest
    one false e rest = absurd (cc)

pub given_implied : (cs : List (List Literal)) → AreImplied (map (kept origins.Given) cs)
given_implied cs v holds = ap (all_true v) (all_lits-kept origins.Given cs)
    ∙ sym (ap (all_true v) (lasting_kept origins.Given cs refl)) ∙ holds

-- lasting clauses are added
more_implied : (xs ys : List Kept) → lasting ys ≡ all_lits ys → AreImplied xs → AreImplied (xs ++ ys)
more_implied xs ys same h v holds =
    let parts = and_parts (all_true v (lasting xs)) (all_true v (lasting ys))
    (sym (all_true-append v (lasting xs) (lasting ys)) ∙ sym (ap (all_true v) (lasting-append xs ys))
    ∙ holds) in
    ap (all_true v) (all_lits-append xs ys) ∙ all_true-append v (all_lits xs) (all_lits ys)
    ∙ and_from (all_true v (all_lits xs)) (all_true v (all_lits ys)) (h v parts.0)
    (sym (ap (all_true v) same) ∙ parts.1)

pub core_implied : (clauses : List Kept) (lits : List Literal) (splits : List (List Literal)) →
    AreImplied clauses →
    AreImplied (clauses ++ kept origins.Core lits ∷ [] ++ map (kept origins.Split) splits)
core_implied clauses lits splits h =
    more_implied (clauses ++ kept origins.Core lits ∷ []) (map (kept origins.Split) splits)
    (lasting_kept origins.Split splits refl ∙ sym (all_lits-kept origins.Split splits))
    (more_implied clauses (kept origins.Core lits ∷ []) refl h)

-- a set is blocked
pub blocked_implied : (clauses : List Kept) (lits : List Literal) → AreImplied clauses →
    AreImplied (clauses ++ kept origins.Blocked lits ∷ [])
blocked_implied clauses lits h = more_implied clauses (kept origins.Blocked lits ∷ []) refl h

-- a clause is learnt
pub learnt_implied : (clauses : List Kept) (lits : List Literal) →
    ((v : Assignment) → all_true v (all_lits clauses) ≡ true → any_true v lits ≡ true) → AreImplied clauses →
    AreImplied (clauses ++ kept origins.Learnt lits ∷ [])
learnt_implied clauses lits follows h v holds =
    let before : all_true v (all_lits clauses) ≡ true =
    h v (sym (ap (all_true v)
    (lasting-append clauses (kept origins.Learnt lits ∷ []) ∙ append-nil (lasting clauses)))
    ∙ holds) in
    ap (all_true v) (all_lits-append clauses (kept origins.Learnt lits ∷ []))
    ∙ all_true-push v (all_lits clauses) lits before (follows v before)

pub learn_implied : (s : State) (lits : List Literal) (hints : List ℕ) → learn_error s lits hints ≡ None →
    AreImplied s.clauses → AreImplied (s.clauses ++ kept origins.Learnt lits ∷ [])
learn_implied s lits hints none h =
    let exists = no_error (lacks_variable s lits) BadVariable
    (error_if (is_spent s) WrongCount (error_if (holds_clause s.clauses lits) NotNew
    (hint_error s lits hints))) none in
    let left = no_error (is_spent s) WrongCount (error_if (holds_clause s.clauses lits) NotNew
    (hint_error s lits hints)) exists.1 in
    let new = no_error (holds_clause s.clauses lits) NotNew (hint_error s lits hints) left.1 in
    learnt_implied s.clauses lits (λ v lives. follows_true s v lits hints new.1 lives) h

-- no lasting clause is at the number
abbrev pub lasts : Option Kept → Bool
lasts None = false
lasts (Some k) = is_lasting k

learnt_goes : (o : Option Kept) → is_learnt_entry o ≡ true → lasts o ≡ false
learnt_goes None e = refl
learnt_goes (Some k) e = of_origin k.origin e
  where
    of_origin : (origin : Origin) → is_learnt_origin origin ≡ true → is_lasting_origin origin ≡ false
    of_origin origins.Given e = absurd (cc)
    of_origin origins.Learnt e = refl
    of_origin origins.Core e = absurd (cc)
    of_origin origins.Split e = absurd (cc)
    of_origin origins.Blocked e = absurd (cc)
    of_origin origins.Deleted e = refl

lasting-without : (clauses : List Kept) (m : ℕ) → lasts (kept_at clauses m) ≡ false →
    lasting (without clauses m) ≡ lasting clauses
lasting-without clauses zero goes = refl
lasting-without [] (suc k) goes = refl
lasting-without (x ∷ xs) (suc zero) goes = drops (is_lasting x) goes
  where
    drops : (b : Bool) → b ≡ false →
        lasting xs ≡ all_lits (cond b (x ∷ filter is_lasting xs) (filter is_lasting xs))
    drops true e = absurd (cc)
    drops false e = refl
lasting-without (x ∷ xs) (suc (suc k)) goes = keeps (is_lasting x) (lasting-without xs (suc k) goes)
  where
    keeps : (b : Bool) → lasting (without xs (suc k)) ≡ lasting xs →
        all_lits (cond b (x ∷ filter is_lasting (without xs (suc k)))
        (filter is_lasting (without xs (suc k)))) ≡ all_lits
        (cond b (x ∷ filter is_lasting xs) (filter is_lasting xs))
    keeps true e = ap (λ cs. x.lits ∷ cs) e
    keeps false e = e

still_goes : (clauses : List Kept) (m n : ℕ) → lasts (kept_at clauses n) ≡ false →
    lasts (kept_at (without clauses m) n) ≡ false
still_goes clauses zero n goes = goes
still_goes clauses (suc j) zero goes = refl
still_goes [] (suc j) (suc k) goes = refl
still_goes (x ∷ xs) (suc zero) (suc zero) goes = refl
still_goes (x ∷ xs) (suc zero) (suc (suc k)) goes = goes
still_goes (x ∷ xs) (suc (suc j)) (suc zero) goes = goes
still_goes (x ∷ xs) (suc (suc j)) (suc (suc k)) goes = still_goes xs (suc j) (suc k) goes

-- learnt clauses are deleted: none of the lasting ones
lasting-without_all : (clauses less : List Kept) (numbers : List ℕ) →
    ((n : ℕ) → lasts (kept_at clauses n) ≡ false → lasts (kept_at less n) ≡ false) →
    list_all (λ (n : ℕ). is_learnt_at clauses n && ltb 2 (width_at clauses n)) numbers ≡ true →
    lasting (without_all less numbers) ≡ lasting less
lasting-without_all clauses less [] same go = refl
lasting-without_all clauses less (m ∷ ms) same go =
    let parts = and_parts (is_learnt_at clauses m && ltb 2 (width_at clauses m))
    (list_all (λ (n : ℕ). is_learnt_at clauses n && ltb 2 (width_at clauses n)) ms) go in
    let learnt = and_parts (is_learnt_at clauses m) (ltb 2 (width_at clauses m)) parts.0 in
    lasting-without_all clauses (without less m) ms (λ n goes. still_goes less m n (same n goes)) parts.1
    ∙ lasting-without less m (same m (learnt_goes (kept_at clauses m) learnt.0))

pub deleted_implied : (clauses : List Kept) (numbers : List ℕ) →
    list_all (λ (n : ℕ). is_learnt_at clauses n && ltb 2 (width_at clauses n)) numbers ≡ true →
    AreImplied clauses → AreImplied (without_all clauses numbers)
deleted_implied clauses numbers go h v holds =
    ap (all_true v) (all_lits-without_all clauses numbers)
    ∙ h v (sym (ap (all_true v) (lasting-without_all clauses clauses numbers (λ n goes. goes) go))
    ∙ holds)
