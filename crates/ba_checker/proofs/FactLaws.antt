-- The facts hold of every state that allowed steps lead to.

use Rattle.std.proofs.Common.{◌≡◌, ◌≢◌, ℕ, suc, zero, ◌+◌, ◌*◌, ◌-◌, ◌^◌, ◌<◌, ◌≤◌, Bool, true, false, not, ◌&&◌, ◌||◌, cond, ltb, eqb, nat_eq, ◌==◌, min, unwrap_or, Option, None, Some, List, [], ◌∷◌, ◌++◌, map, length, get_or, set, All, refl, sym, ap, ◌∙◌, arith, subst, ⊎_elim}
use Rattle.std.proofs.Math.Nat.{mul-add}
use Rattle.std.proofs.lemmas.Bool.{cases_lt, or_parts, or_cases, and_parts, and_from}
use Rattle.std.proofs.lemmas.Bool.Decides.{nat_tests}
use Rattle.std.proofs.lemmas.List.{map-append, append_assoc, append-nil}
use Rattle.std.proofs.lemmas.List.Elements.{All-nil, All-cons, All-append, All-weaker, All-head, All-tail}
use Rattle.std.proofs.lemmas.Option.{same_Some, cond_some}
use Rattle.std.specs.List.{slice_get, list_all, AllByRecursion, IsDistinct}
use Rattle.std.specs.Cmp.Lexicographic.{pointwise}
use Rattle.ba_choices.specs.declared.Choice.{Choice}
use Rattle.ba_lits.specs.Literals.{Literal, negate, IsClause, index_of, positive, negative}
use Rattle.ba_lits.specs.Satisfaction.{Assignment, any_true, all_true, Soft, cost, Agree, one_if}
use Rattle.ba_lits.specs.Formulas.{Cnf}
use Rattle.ba_lits.specs.Hints.{Replay, Refutes, StaysOpen, NamesNone, NamesIdle, replay, has_literal}
use Rattle.ba_lits.proofs.Satisfied.{ClauseBelow, ClausesBelow, SoftsBelow, any_true-agree, all_true-agree, cost-agree, all_true-append, cost-append, ClauseBelow-more, ClausesBelow-more, ClausesBelow-append}
use Rattle.ba_lits.proofs.HintLaws.{FollowsByHints-holds}
use Rattle.ba_lits.proofs.Members.{same_literal, negate-negate}
use Rattle.ba_steps.specs.Steps.{IsFormed, AreFormedLits, AreAbove}
use Rattle.ba_steps.specs.declared.step.CertStep.{CertStep}
use Rattle.ba_steps.specs.declared.step.CertStep.TheVariants.{Learn, Core, Delete, Block, EndLocated, EndNoRepair, EndTooMany, EndSpent}
use Rattle.ba_steps.specs.declared.step.StepError.{StepError}
use Rattle.ba_steps.specs.declared.step.StepError.TheVariants.{DeadClause, RunNotGood, SetTwice, WrongWeight, AfterEnd, NotNew, TooSoon, NotSofts, CoreAfterSet, WrongCount, BadVariable, Memory}
use Rattle.ba_lits.proofs.ClauseLaws.{IsClause-rest}
use Rattle.ba_checker.specs.Splits.{in_order, or_gate, and_gate, some_of, or_clauses, and_clauses, split_clauses, fresh_count, split_softs, late_softs, is_soft, lesser, lightest, lowered}
use Rattle.ba_checker.specs.States.{Kept, kept, State, kept_at, clause_at, live_lits, is_live_origin, is_learnt_at, is_learnt_entry, is_learnt_origin, width_at, lits_at, without, without_all, present, first_state}
use Rattle.ba_choices.specs.Judges.{Judge}
use Rattle.ba_checker.specs.StepRules.{error_if, lacks_variable, is_spent, lacks_soft, hint_error, error_of_replay, error_of, after, after_learn, after_core, after_delete, after_block, block_error, may_go, apart_by, delete_error, after_all, next_if, learn_error, core_error}
use Rattle.ba_checker.specs.Facts.{all_lits, Differs, AreDifferent, AreAmong, IsStart, step_splits, splits_of, IsLive, IsBlocked, Holds}
use Rattle.ba_checker.specs.Blocks.{lacks_group, is_among, set_weight, block_clause, block_clauses}
use Rattle.ba_checker.proofs.BlockLaws.{block_formed}
use Rattle.ba_checker.specs.declared.store.Origin.{Origin}
use Rattle.ba_checker.specs.declared.store.Origin.TheVariants as origins
use Rattle.ba_checker.specs.Parts.{holds_clause}
use Rattle.ba_checker.proofs.SplitMeaning.{OrsHave, AndsHave, split_holds, split_has, extended, extended-old, extended-ors, extended-ands, OrsHave-each, AndsHave-each, ors_alone, ands_alone, pairs, count_pairs, late_cost}
use Rattle.ba_checker.proofs.LoweredLaws.{lowered_cost, hits, hits_count, AreAtLeast, lightest_at_least}

-- the clause has an entry, which no deletion may name
abbrev pub Stays : Origin → List Kept → List Literal → Type 0
Stays origin clauses c = (number : ℕ) × (kept_at clauses number ≡ Some (kept origin c))

-- What the induction needs. The facts hold, and all variables are below the next fresh one. The clauses of
-- the formula, of the splits and of the blocked sets have their origins.
pub record KeepsFacts (good : Judge) (formula : Cnf) (softs : List Soft) (splits : List (List Literal)) (s
    : State) : Type 0 where
  pub facts : Holds good formula softs splits s
  pub groups_stay : s.groups ≡ softs
  pub wide : formula.variables ≤ s.variables
  pub splits_below : ClausesBelow (s.variables + 1) splits
  pub live_below : ClausesBelow (s.variables + 1) (all_lits s.clauses)
  pub given_stay : (place : ℕ) → place < length formula.clauses →
      kept_at s.clauses (place + 1) ≡ Some (kept origins.Given (get_or formula.clauses place []))
  pub splits_stay : All (Stays origins.Split s.clauses) splits
  pub sets_stay : All (Stays origins.Blocked s.clauses) (block_clauses softs s.sets)

-- an allowed test is false, and the rest is allowed
pub no_error : (test : Bool) (e : StepError) (rest : Option StepError) → error_if test e rest ≡ None →
    (test ≡ false) × (rest ≡ None)
no_error true e rest none = absurd (cc)
no_error false e rest none = (refl, none)

holds_at : (v : Assignment) (clauses : List Kept) (k : ℕ) (c : List Literal) →
    all_true v (all_lits clauses) ≡ true → live_lits (slice_get clauses k) ≡ Some c → any_true v c ≡ true
holds_at v [] k c holds is = absurd (cc)
holds_at v (x ∷ xs) zero c holds is =
    ap (any_true v) (sym ((cond_some (is_live_origin x.origin) x.lits c is).1))
    ∙ (and_parts (any_true v x.lits) (all_true v (all_lits xs)) holds).0
holds_at v (x ∷ xs) (suc k) c holds is =
    holds_at v xs k c ((and_parts (any_true v x.lits) (all_true v (all_lits xs)) holds).1) is

holds_number : (v : Assignment) (clauses : List Kept) (number : ℕ) (c : List Literal) →
    all_true v (all_lits clauses) ≡ true → clause_at clauses number ≡ Some c → any_true v c ≡ true
holds_number v clauses zero c holds is = absurd (cc)
holds_number v clauses (suc k) c holds is = holds_at v clauses k c holds is

-- a clause without an error in its hints holds if the live ones do
pub follows_true : (s : State) (v : Assignment) (lits : List Literal) (hints : List ℕ) →
    hint_error s lits hints ≡ None → all_true v (all_lits s.clauses) ≡ true → any_true v lits ≡ true
follows_true s v lits hints none holds =
    FollowsByHints-holds (clause_at s.clauses) v (λ n c is. holds_number v s.clauses n c holds is) lits
    hints (refutes (replay (clause_at s.clauses) lits hints) none)
  where
    refutes : (r : Replay) → error_of_replay r ≡ None → r ≡ Refutes
    refutes Refutes e = refl
    refutes StaysOpen e = absurd (cc)
    refutes NamesNone e = absurd (cc)
    refutes NamesIdle e = absurd (cc)

-- variables that exist are below the next
exist_below : (s : State) (lits : List Literal) → lacks_variable s lits ≡ false →
    ClauseBelow (s.variables + 1) lits
exist_below s [] known = tt
exist_below s (l ∷ ls) known =
    let parts = or_parts (ltb s.variables l.variable) (lacks_variable s ls) known in
    (below s.variables l.variable parts.0, exist_below s ls parts.1)
  where
    below : (n x : ℕ) → ltb n x ≡ false → x < n + 1
    below n x e = grind (arith, nat_tests)

-- an entry stays if others are added
slice_get-more : (xs ys : List Kept) (k : ℕ) (x : Kept) → slice_get xs k ≡ Some x →
    slice_get (xs ++ ys) k ≡ Some x
slice_get-more [] ys k x is = absurd (cc)
slice_get-more (y ∷ xs) ys zero x is = is
slice_get-more (y ∷ xs) ys (suc k) x is = slice_get-more xs ys k x is

kept_at-more : (xs ys : List Kept) (number : ℕ) (x : Kept) → kept_at xs number ≡ Some x →
    kept_at (xs ++ ys) number ≡ Some x
kept_at-more xs ys zero x is = absurd (cc)
kept_at-more xs ys (suc k) x is = slice_get-more xs ys k x is

all_stay-more : (origin : Origin) (xs ys : List Kept) (cs : List (List Literal)) → All (Stays origin xs) cs →
    All (Stays origin (xs ++ ys)) cs
all_stay-more origin xs ys cs h = All-weaker (Stays origin xs) (Stays origin (xs ++ ys))
    (λ c (number, is). (number, kept_at-more xs ys number (kept origin c) is)) cs h

-- such an entry is live
stays_live : (origin : Origin) (clauses : List Kept) (cs : List (List Literal)) → is_live_origin origin ≡
    true →
    All (Stays origin clauses) cs → All (IsLive clauses) cs
stays_live origin clauses cs lives h = All-weaker (Stays origin clauses) (IsLive clauses)
    (λ c (number, is). (number, ap live_lits is ∙ ap (λ b. cond b (Some c) None) lives)) cs h

-- added clauses have entries
slice_get-seam : (front : List Kept) (x : Kept) (ys : List Kept) →
    slice_get (front ++ x ∷ ys) (length front) ≡ Some x
slice_get-seam [] x ys = refl
slice_get-seam (f ∷ front) x ys = slice_get-seam front x ys

added_stay : (front : List Kept) (cs : List (List Literal)) → All (Stays origins.Split (front ++ map (kept
    origins.Split) cs)) cs
added_stay front [] = All-nil (Stays origins.Split (front ++ []))
added_stay front (c ∷ cs) =
    All-cons (Stays origins.Split (front ++ map (kept origins.Split) (c ∷ cs))) c cs
    (suc (length front), slice_get-seam front (kept origins.Split c) (map (kept origins.Split) cs))
    (let P : List Kept → Type 0 = λ all. All (Stays origins.Split all) cs in subst P (append_assoc front
    (kept origins.Split c ∷ []) (map (kept origins.Split) cs)) (added_stay (front ++ kept origins.Split
    c ∷ []) cs))

-- the literals of added clauses
pub all_lits-append : (xs ys : List Kept) → all_lits (xs ++ ys) ≡ all_lits xs ++ all_lits ys
all_lits-append xs ys = map-append (λ (k : Kept). k.lits) xs ys

pub all_lits-kept : (origin : Origin) (cs : List (List Literal)) → all_lits (map (kept origin) cs) ≡ cs
all_lits-kept origin [] = refl
all_lits-kept origin (c ∷ cs) = ap (λ ds. c ∷ ds) (all_lits-kept origin cs)

pub all_true-push : (v : Assignment) (cs : List (List Literal)) (c : List Literal) → all_true v cs ≡ true →
    any_true v c ≡ true → all_true v (cs ++ c ∷ []) ≡ true
all_true-push v cs c all one = all_true-append v cs (c ∷ [])
    ∙ and_from (all_true v cs) (any_true v c && true) all (and_from (any_true v c) true one refl)

-- A LEARN STEP keeps the facts
pub learn_keeps : (good : Judge) (formula : Cnf) (softs : List Soft) (splits : List (List Literal)) (s :
    State) (lits : List Literal) (hints : List ℕ) →
    KeepsFacts good formula softs splits s → lacks_variable s lits ≡ false → hint_error s lits hints ≡ None
    → KeepsFacts good formula softs splits (after_learn s lits)
learn_keeps good formula softs splits s lits hints h exists follows = record {
  facts = record {
    extends = λ v given blocked. let (z, same, split, lives, costs) = h.facts.extends v given blocked in (
      z,
      same,
      split,
      ap (all_true z) lives_is
          ∙ all_true-push z (all_lits s.clauses) lits lives (follows_true s z lits hints follows lives),
      costs,
    );
    alone = h.facts.alone;
    sets_differ = h.facts.sets_differ;
    sets_good = h.facts.sets_good;
    differ = h.facts.differ;
    among = h.facts.among;
    weighty = h.facts.weighty;
    given_live = λ place lt. ap live_lits (given_stay place lt);
    splits_live = stays_live origins.Split (s.clauses ++ kept origins.Learnt lits ∷ []) splits refl
        splits_stay;
    sets_live = stays_live origins.Blocked (s.clauses ++ kept origins.Learnt lits ∷ []) (block_clauses
        softs s.sets) refl sets_stay;
  };
  groups_stay = h.groups_stay;
  wide = h.wide;
  splits_below = h.splits_below;
  live_below = let P : List (List Literal) → Type 0 = λ cs. ClausesBelow (s.variables + 1) cs in
      subst P (sym lives_is) (ClausesBelow-append (s.variables + 1) (all_lits s.clauses)
      (lits ∷ []) h.live_below (exist_below s lits exists, tt));
  given_stay = given_stay;
  splits_stay = splits_stay;
  sets_stay = sets_stay;
}
  where
    given_stay : (place : ℕ) → place < length formula.clauses →
        kept_at (s.clauses ++ kept origins.Learnt lits ∷ []) (place + 1)
        ≡ Some (kept origins.Given (get_or formula.clauses place []))
    given_stay place lt = kept_at-more s.clauses (kept origins.Learnt lits ∷ []) (place + 1)
        (kept origins.Given (get_or formula.clauses place [])) (h.given_stay place lt)

    splits_stay : All (Stays origins.Split (s.clauses ++ kept origins.Learnt lits ∷ [])) splits
    splits_stay = all_stay-more origins.Split s.clauses (kept origins.Learnt lits ∷ []) splits h.splits_stay

    sets_stay : All (Stays origins.Blocked (s.clauses ++ kept origins.Learnt lits ∷ [])) (block_clauses
        softs s.sets)
    sets_stay = all_stay-more origins.Blocked s.clauses (kept origins.Learnt lits ∷ []) (block_clauses
        softs s.sets) h.sets_stay

    lives_is : all_lits (s.clauses ++ kept origins.Learnt lits ∷ []) ≡ all_lits s.clauses ++ lits ∷ []
    lives_is = all_lits-append s.clauses (kept origins.Learnt lits ∷ [])

-- AN END keeps them
pub end_keeps : (good : Judge) (formula : Cnf) (softs : List Soft) (splits : List (List Literal)) (s :
    State) → KeepsFacts good formula softs splits s → KeepsFacts good formula softs splits (record s {
      ended = true;
    })
end_keeps good formula softs splits s h = record {
  facts = record {
    extends = h.facts.extends;
    alone = h.facts.alone;
    sets_differ = h.facts.sets_differ;
    sets_good = h.facts.sets_good;
    differ = h.facts.differ;
    among = h.facts.among;
    weighty = h.facts.weighty;
    given_live = h.facts.given_live;
    splits_live = h.facts.splits_live;
    sets_live = h.facts.sets_live;
  };
  groups_stay = h.groups_stay;
  wide = h.wide;
  splits_below = h.splits_below;
  live_below = h.live_below;
  given_stay = h.given_stay;
  splits_stay = h.splits_stay;
  sets_stay = h.sets_stay;
}

-- A DELETE STEP keeps them: it names learnt clauses alone, and changes no literals
all_lits-without : (clauses : List Kept) (number : ℕ) → all_lits (without clauses number) ≡ all_lits clauses
all_lits-without clauses zero = refl
all_lits-without [] (suc k) = refl
all_lits-without (x ∷ xs) (suc zero) = refl
all_lits-without (x ∷ xs) (suc (suc k)) = ap (λ cs. x.lits ∷ cs) (all_lits-without xs (suc k))

pub all_lits-without_all : (clauses : List Kept) (numbers : List ℕ) →
    all_lits (without_all clauses numbers) ≡ all_lits clauses
all_lits-without_all clauses [] = refl
all_lits-without_all clauses (number ∷ numbers) = all_lits-without_all (without clauses number) numbers
    ∙ all_lits-without clauses number

slice_get-other : (clauses : List Kept) (j k : ℕ) (x : Kept) → j ≢ k →
    slice_get (set clauses j x) k ≡ slice_get clauses k
slice_get-other [] j k x ne = refl
slice_get-other (y ∷ ys) zero zero x ne = absurd (ne refl)
slice_get-other (y ∷ ys) zero (suc k) x ne = refl
slice_get-other (y ∷ ys) (suc j) zero x ne = refl
slice_get-other (y ∷ ys) (suc j) (suc k) x ne = slice_get-other ys j k x (λ e. ne (ap suc e))

kept_at-other : (clauses : List Kept) (m number : ℕ) → m ≢ number →
    kept_at (without clauses m) number ≡ kept_at clauses number
kept_at-other clauses zero number ne = refl
kept_at-other clauses (suc j) zero ne = refl
kept_at-other clauses (suc j) (suc k) ne = slice_get-other clauses j k
    (kept origins.Deleted (lits_at clauses j)) (λ e. ne (ap suc e))

kept_at-without_all : (s : State) (clauses : List Kept) (numbers : List ℕ) (number : ℕ) (k : Kept) →
    list_all (may_go s) numbers ≡ true → kept_at s.clauses number ≡ Some k →
    is_learnt_origin k.origin ≡ false →
    kept_at (without_all clauses numbers) number ≡ kept_at clauses number
kept_at-without_all s clauses [] number k go is stays = refl
kept_at-without_all s clauses (m ∷ ms) number k go is stays =
    let parts = and_parts (may_go s m) (list_all (may_go s) ms) go in
    let learnt = and_parts (is_learnt_at s.clauses m) (ltb 2 (width_at s.clauses m)) parts.0 in
    kept_at-without_all s (without clauses m) ms number k parts.1 is stays
    ∙ kept_at-other clauses m number (λ e. let other : is_learnt_at s.clauses m ≡ false =
    ap (is_learnt_at s.clauses) e ∙ (ap is_learnt_entry is ∙ stays) in cc)

pub delete_keeps : (good : Judge) (formula : Cnf) (softs : List Soft) (splits : List (List Literal)) (s :
    State) (numbers : List ℕ) →
    KeepsFacts good formula softs splits s → list_all (may_go s) numbers ≡ true → KeepsFacts good formula
    softs splits (after_delete s numbers)
delete_keeps good formula softs splits s numbers h go = record {
  facts = record {
    extends = λ v given blocked. let (z, same, split, lives, costs) = h.facts.extends v given blocked in
        (z, same, split, ap (all_true z) (all_lits-without_all s.clauses numbers) ∙ lives, costs);
    alone = h.facts.alone;
    sets_differ = h.facts.sets_differ;
    sets_good = h.facts.sets_good;
    differ = h.facts.differ;
    among = h.facts.among;
    weighty = h.facts.weighty;
    given_live = λ place lt. ap live_lits (given_stay place lt);
    splits_live = stays_live origins.Split (without_all s.clauses numbers) splits refl splits_stay;
    sets_live = stays_live origins.Blocked (without_all s.clauses numbers) (block_clauses softs s.sets)
        refl sets_stay;
  };
  groups_stay = h.groups_stay;
  wide = h.wide;
  splits_below = h.splits_below;
  live_below = let P : List (List Literal) → Type 0 = λ cs. ClausesBelow (s.variables + 1) cs in
      subst P (sym (all_lits-without_all s.clauses numbers)) h.live_below;
  given_stay = given_stay;
  splits_stay = splits_stay;
  sets_stay = sets_stay;
}
  where
    given_stay : (place : ℕ) → place < length formula.clauses →
        kept_at (without_all s.clauses numbers) (place + 1)
        ≡ Some (kept origins.Given (get_or formula.clauses place []))
    given_stay place lt =
        let is = h.given_stay place lt in
        kept_at-without_all s s.clauses numbers (place + 1)
        (kept origins.Given (get_or formula.clauses place [])) go is refl ∙ is

    splits_stay : All (Stays origins.Split (without_all s.clauses numbers)) splits
    splits_stay = All-weaker (Stays origins.Split s.clauses) (Stays origins.Split (without_all s.clauses
        numbers))
        (λ c (number, is). (
          number,
          kept_at-without_all s s.clauses numbers number (kept origins.Split c)
              go is refl ∙ is,
        ))
        splits h.splits_stay

    sets_stay : All (Stays origins.Blocked (without_all s.clauses numbers)) (block_clauses softs s.sets)
    sets_stay = All-weaker (Stays origins.Blocked s.clauses) (Stays origins.Blocked (without_all s.clauses
        numbers))
        (λ c (number, is). (
          number,
          kept_at-without_all s s.clauses numbers number (kept origins.Blocked c)
              go is refl ∙ is,
        ))
        (block_clauses softs s.sets) h.sets_stay

-- the clauses of a split have variables below the next fresh one
in_order-below : (n : ℕ) (a b : Literal) → a.variable < n → b.variable < n → ClauseBelow n (in_order a b)
in_order-below n a b p q = cases (ltb a.variable b.variable)
  where
    cases : (t : Bool) → ClauseBelow n (cond t (a ∷ b ∷ []) (b ∷ a ∷ []))
    cases true = (p, (q, tt))
    cases false = (q, (p, tt))

some_of-below : (n d : ℕ) (b : Literal) (rest : List Literal) → ClauseBelow n (b ∷ rest) →
    (0 < length rest → d < n) → (some_of d (b ∷ rest)).variable < n
some_of-below n d b [] below fresh = below.0
some_of-below n d b (c ∷ rest) below fresh = fresh (omega arith)

or_clauses-below : (n d : ℕ) (lits : List Literal) → ClauseBelow n lits → d + (length lits - 1) ≤ n →
    ClausesBelow n (or_clauses d lits)
or_clauses-below n d [] below le = tt
or_clauses-below n d (b ∷ []) below le = tt
or_clauses-below n d (b ∷ c ∷ rest) below le =
    let later : (some_of (d + 1) (c ∷ rest)).variable < n =
    some_of-below n (d + 1) c rest below.1 (λ some. omega arith) in
    let fresh : d < n = omega arith in
    ClausesBelow-append n (or_gate d b (some_of (d + 1) (c ∷ rest))) (or_clauses (d + 1) (c ∷ rest)) (
      (below.0, in_order-below n (negative d) (some_of (d + 1) (c ∷ rest)) fresh later),
      (
        (below.0, (fresh, tt)),
        (
          in_order-below n (positive d) (negate (some_of (d + 1) (c ∷ rest))) fresh
              later,
          tt,
        ),
      ),
    )
    (or_clauses-below n (d + 1) (c ∷ rest) below.1 (omega arith))

and_clauses-below : (n d e : ℕ) (lits : List Literal) → ClauseBelow n lits → d ≤ e →
    e + (length lits - 1) ≤ n → ClausesBelow n (and_clauses d e lits)
and_clauses-below n d e [] below le more = tt
and_clauses-below n d e (b ∷ []) below le more = tt
and_clauses-below n d e (b ∷ c ∷ rest) below le more =
    let later : (some_of d (c ∷ rest)).variable < n =
    some_of-below n d c rest below.1 (λ some. omega arith) in
    let fresh : e < n = omega arith in
    ClausesBelow-append n (and_gate e b (some_of d (c ∷ rest))) (and_clauses (d + 1) (e + 1) (c ∷ rest))
    ((below.0, (fresh, tt)), ((later, (fresh, tt)), ((below.0, (later, (fresh, tt))), tt)))
    (and_clauses-below n (d + 1) (e + 1) (c ∷ rest) below.1 (omega arith) (omega arith))

split_clauses-below : (n m : ℕ) (b : Literal) (rest : List Literal) → ClauseBelow n (b ∷ rest) →
    n + fresh_count (length (b ∷ rest)) ≤ m → ClausesBelow m (split_clauses n (b ∷ rest))
split_clauses-below n m b rest below le =
    let wide = ClauseBelow-more n m (b ∷ rest) (omega arith) below in
    ClausesBelow-append m (or_clauses n rest) (and_clauses n (n + (length rest - 1)) (b ∷ rest))
    (or_clauses-below m n rest wide.1 (omega arith))
    (and_clauses-below m n (n + (length rest - 1)) (b ∷ rest) wide (omega arith) (omega arith))

-- lowered soft literals are some of the soft literals
pub lowered-below : (n w : ℕ) (core : List Literal) (softs : List Soft) → SoftsBelow n softs →
    SoftsBelow n (lowered core w softs)
lowered-below n w core [] below = tt
lowered-below n w core (s ∷ ss) below = cases (has_literal (negate s.0) core) (ltb w s.1)
    (lowered-below n w core ss below.1)
  where
    cases : (m h : Bool) → SoftsBelow n (lowered core w ss) →
        SoftsBelow n (cond m (cond h ((s.0, s.1 - w) ∷ lowered core w ss) (lowered core w ss)) (s
        ∷ lowered core w ss))
    cases true true rest = (below.0, rest)
    cases true false rest = rest
    cases false h rest = (below.0, rest)

lowered-differs : (x w : ℕ) (core : List Literal) (softs : List Soft) → Differs x softs →
    Differs x (lowered core w softs)
lowered-differs x w core [] h = tt
lowered-differs x w core (s ∷ ss) h = cases (has_literal (negate s.0) core) (ltb w s.1)
    (lowered-differs x w core ss h.1)
  where
    cases : (m t : Bool) → Differs x (lowered core w ss) →
        Differs x (cond m (cond t ((s.0, s.1 - w) ∷ lowered core w ss) (lowered core w ss)) (s
        ∷ lowered core w ss))
    cases true true rest = (h.0, rest)
    cases true false rest = rest
    cases false t rest = (h.0, rest)

pub lowered-different : (w : ℕ) (core : List Literal) (softs : List Soft) → AreDifferent softs →
    AreDifferent (lowered core w softs)
lowered-different w core [] h = tt
lowered-different w core (s ∷ ss) h = cases (has_literal (negate s.0) core) (ltb w s.1)
    (lowered-differs s.0.variable w core ss h.0) (lowered-different w core ss h.1)
  where
    cases : (m t : Bool) → Differs s.0.variable (lowered core w ss) → AreDifferent (lowered core w ss) →
        AreDifferent (cond m (cond t ((s.0, s.1 - w) ∷ lowered core w ss) (lowered core w ss)) (s
        ∷ lowered core w ss))
    cases true true first rest = (first, rest)
    cases true false first rest = rest
    cases false t first rest = (first, rest)

pub lowered-all : (P : Soft → Type 0) (w : ℕ) (core : List Literal) (softs : List Soft) →
    ((s : Soft) → P s → w < s.1 → P (s.0, s.1 - w)) → All P softs → All P (lowered core w softs)
lowered-all P w core [] less all = All-nil P
lowered-all P w core (s ∷ ss) less all = cases (has_literal (negate s.0) core) (ltb w s.1) refl
    (lowered-all P w core ss less (All-tail P s ss all))
  where
    heavier : (a b : ℕ) → ltb a b ≡ true → a < b
    heavier a b e = grind (arith, nat_tests)

    cases : (m t : Bool) → ltb w s.1 ≡ t → All P (lowered core w ss) →
        All P (cond m (cond t ((s.0, s.1 - w) ∷ lowered core w ss) (lowered core w ss)) (s
        ∷ lowered core w ss))
    cases true true e rest = All-cons P (s.0, s.1 - w) (lowered core w ss)
        (less s (All-head P s ss all) (heavier w s.1 e)) rest
    cases true false e rest = rest
    cases false t e rest = All-cons P s (lowered core w ss) (All-head P s ss all) rest

-- the late soft literals are of fresh variables
late-from : (x w e : ℕ) (lits : List Literal) → x < e → Differs x (late_softs w e lits)
late-from x w e [] lt = tt
late-from x w e (b ∷ []) lt = tt
late-from x w e (b ∷ c ∷ rest) lt = (
  λ same. absurd (omega arith),
  late-from x w (e + 1) (c ∷ rest)
      (omega arith),
)

late-different : (w e : ℕ) (lits : List Literal) → AreDifferent (late_softs w e lits)
late-different w e [] = tt
late-different w e (b ∷ []) = tt
late-different w e (b ∷ c ∷ rest) = (
  late-from e w (e + 1) (c ∷ rest) (omega arith),
  late-different w
      (e + 1) (c ∷ rest),
)

pub late-all : (P : Soft → Type 0) (w e : ℕ) (lits : List Literal) →
    ((x : ℕ) → e ≤ x → x < e + (length lits - 1) → P (negative x, w)) → All P (late_softs w e lits)
late-all P w e [] each = All-nil P
late-all P w e (b ∷ []) each = All-nil P
late-all P w e (b ∷ c ∷ rest) each =
    All-cons P (negative e, w) (late_softs w (e + 1) (c ∷ rest)) (each e (omega arith) (omega arith))
    (late-all P w (e + 1) (c ∷ rest) (λ x ge lt. each x (omega arith) (omega arith)))

Differs-append : (x : ℕ) (xs ys : List Soft) → Differs x xs → Differs x ys → Differs x (xs ++ ys)
Differs-append x [] ys first second = second
Differs-append x (s ∷ ss) ys first second = (first.0, Differs-append x ss ys first.1 second)

pub apart : (n w e : ℕ) (xs : List Soft) (lits : List Literal) → n ≤ e → SoftsBelow n xs → AreDifferent xs →
    AreDifferent (xs ++ late_softs w e lits)
apart n w e [] lits le below differ = late-different w e lits
apart n w e (s ∷ ss) lits le below differ = (
  Differs-append s.0.variable ss (late_softs w e lits) differ.0
      (late-from s.0.variable w e lits (omega (arith, below.0, le))),
  apart n w e ss lits le below.1
      differ.1,
)

pub among-below : (variables : ℕ) (softs : List Soft) → AreAmong variables softs →
    SoftsBelow (variables + 1) softs
among-below variables [] all = tt
among-below variables (s ∷ ss) all =
    let P : Soft → Type 0 = λ soft. (1 ≤ soft.0.variable) × (soft.0.variable ≤ variables) in
    let first = All-head P s ss all in
    (omega (arith, first.1), among-below variables ss (All-tail P s ss all))

-- the least weight of a core is at least 1
light_step : (core : List Literal) (s : Soft) (ss : List Soft) (m : Bool) →
    has_literal (negate s.0) core ≡ m → lightest core (s ∷ ss)
    ≡ cond m (Some (lesser s.1 (lightest core ss))) (lightest core ss)
light_step core s ss m is = ap (λ t. cond t (Some (lesser s.1 (lightest core ss))) (lightest core ss)) is

lightest_some : (core : List Literal) (softs : List Soft) (w : ℕ) →
    All (λ (soft : Soft). 1 ≤ soft.1) softs → lightest core softs ≡ Some w → 1 ≤ w
lightest_some core [] w weighty is = absurd (cc)
lightest_some core (s ∷ ss) w weighty is =
    cases (has_literal (negate s.0) core) refl (lightest core ss) refl
    (λ u e. lightest_some core ss u (All-tail (λ (soft : Soft). 1 ≤ soft.1) s ss weighty) e)
  where
    first : 1 ≤ s.1
    first = All-head (λ (soft : Soft). 1 ≤ soft.1) s ss weighty

    cases : (m : Bool) → has_literal (negate s.0) core ≡ m → (o : Option ℕ) → lightest core ss ≡ o →
        ((u : ℕ) → lightest core ss ≡ Some u → 1 ≤ u) → 1 ≤ w
    cases true m None o next =
        let e = same_Some s.1 w (sym (light_step core s ss true m ∙ ap (λ l. Some (lesser s.1 l)) o)
        ∙ is) in omega (arith, e, first)
    cases true m (Some u) o next =
        let e = same_Some (min s.1 u) w
        (sym (light_step core s ss true m ∙ ap (λ l. Some (lesser s.1 l)) o) ∙ is) in
        let more = next u o in
        omega (arith, e, first, more)
    cases false m o e next = next w (sym (light_step core s ss false m) ∙ is)

lightest_there : (core : List Literal) (softs : List Soft) (b : Literal) → has_literal b core ≡ true →
    is_soft softs (negate b) ≡ true → lightest core softs ≡ None → ⊥
lightest_there core [] b known is none = cc
lightest_there core (s ∷ ss) b known is none =
    cases (has_literal (negate s.0) core) refl (λ later e. lightest_there core ss b known later e)
  where
    cases : (m : Bool) → has_literal (negate s.0) core ≡ m →
        (is_soft ss (negate b) ≡ true → lightest core ss ≡ None → ⊥) → ⊥
    cases true m next = let e = sym (light_step core s ss true m) ∙ none in cc
    cases false m next =
        ⊎_elim
        (λ here.
        let same = same_literal s.0 (negate b) here in
        let back : has_literal (negate s.0) core ≡ true = ap (λ l. has_literal (negate l) core) same
        ∙ (ap (λ l. has_literal l core) (negate-negate b) ∙ known) in
        (cc))
        (λ later. next later (sym (light_step core s ss false m) ∙ none))
        (or_cases (eqb (index_of s.0) (index_of (negate b))) (is_soft ss (negate b)) is)

pub lightest_weighty : (core : List Literal) (softs : List Soft) (b : Literal) →
    All (λ (soft : Soft). 1 ≤ soft.1) softs → has_literal b core ≡ true → is_soft softs (negate b) ≡ true →
    1 ≤ unwrap_or (lightest core softs) 0
lightest_weighty core softs b weighty known is = cases (lightest core softs) refl
  where
    cases : (o : Option ℕ) → lightest core softs ≡ o → 1 ≤ unwrap_or o 0
    cases None e = absurd (lightest_there core softs b known is e)
    cases (Some w) e = lightest_some core softs w weighty e

-- the extension of an assignment to the fresh variables of a core has their meaning
extension_means : (n : ℕ) (z : Assignment) (b : Literal) (rest : List Literal) →
    OrsHave z (extended z n (n + (length rest - 1)) rest (b ∷ rest)) n rest
    × AndsHave z (extended z n (n + (length rest - 1)) rest (b ∷ rest)) (n + (length rest - 1)) (b ∷ rest)
extension_means n z b rest =
    let e = n + (length rest - 1) in (
      OrsHave-each z (extended z n e rest (b ∷ rest)) n rest
          (λ j lt. extended-ors z n e rest (b ∷ rest) j (omega arith)),
      AndsHave-each z (extended z n e rest (b ∷ rest)) e (b ∷ rest)
          (λ j lt. extended-ands z n e rest (b ∷ rest) j (omega arith)),
    )

-- what the soft literals cost before and after the split
split_cost : (n : ℕ) (z y : Assignment) (b : Literal) (rest : List Literal) (softs : List Soft)
    (bound w : ℕ) →
    Agree n z y → SoftsBelow n softs → IsClause (2 ^ 62 - 1) (b ∷ rest) →
    lacks_soft softs (b ∷ rest) ≡ false → AreDifferent softs →
    w ≡ unwrap_or (lightest (b ∷ rest) softs) 0 →
    any_true z (b ∷ rest) ≡ true → AndsHave z y (n + (length rest - 1)) (b ∷ rest) →
    bound + cost z softs ≡ bound + w + cost y (lowered (b ∷ rest) w softs ++ split_softs w n (b ∷ rest))
split_cost n z y b rest softs bound w same below clause known differ w_is some ands =
    let least : AreAtLeast w (b ∷ rest) softs = let P : ℕ → Type 0 = λ x. AreAtLeast x (b ∷ rest) softs in
    subst P (sym w_is) (lightest_at_least (b ∷ rest) softs) in
    let before = lowered_cost z w (b ∷ rest) softs least in
    let counted = hits_count (2 ^ 62 - 1) z (b ∷ rest) softs clause known differ in
    let paired = count_pairs z b rest ∙ ap (λ t. one_if t + pairs z (b ∷ rest)) some in
    let kept_cost = cost-agree n z y (lowered (b ∷ rest) w softs) same
    (lowered-below n w (b ∷ rest) softs below) in
    let start : n + (length (b ∷ rest) - 2) ≡ n + (length rest - 1) = omega arith in
    let late = ap (λ e. cost y (late_softs w e (b ∷ rest))) start
    ∙ late_cost z y w (n + (length rest - 1)) (b ∷ rest) ands in
    let joined = cost-append y (lowered (b ∷ rest) w softs) (split_softs w n (b ∷ rest)) in
    let product = mul-add w 1 (pairs z (b ∷ rest)) in
    let times : w * hits z (b ∷ rest) softs ≡ w * (1 + pairs z (b ∷ rest)) =
    ap (λ k. w * k) (counted ∙ paired) in
    omega (arith, before, times, product, kept_cost, late, joined)

-- the split determines the fresh variables
split_alone : (n m : ℕ) (y z : Assignment) (b : Literal) (rest : List Literal) → Agree n y z →
    ClauseBelow n (b ∷ rest) → all_true y (split_clauses n (b ∷ rest)) ≡ true →
    all_true z (split_clauses n (b ∷ rest)) ≡ true → m ≡ n + fresh_count (length (b ∷ rest)) → Agree m y z
split_alone n m y z b rest same below first second m_is u lt =
    let own = split_has n y y b rest (λ x _. refl) below first in
    let other = split_has n z z b rest (λ x _. refl) below second in
    ⊎_elim
    (λ old. same u old)
    (λ fresh. ⊎_elim
    (λ before. ors_alone n y z n rest same below.1 own.0 other.0 u fresh before)
    (λ after_. ands_alone n y z (n + (length rest - 1)) (b ∷ rest) same below own.1 other.1 u after_
    (omega arith))
    (cases_lt u (n + (length rest - 1))))
    (cases_lt u n)

-- A CORE STEP keeps the facts
pub core_keeps : (good : Judge) (formula : Cnf) (softs : List Soft) (splits : List (List Literal)) (s :
    State) (b : Literal) (rest : List Literal) (hints : List ℕ) →
    KeepsFacts good formula softs splits s → IsClause (2 ^ 62 - 1) (b ∷ rest) → lacks_variable s (b ∷ rest)
    ≡ false → lacks_soft s.softs (b ∷ rest) ≡ false → s.sets ≡ [] → hint_error s (b ∷ rest) hints ≡ None →
    KeepsFacts good formula softs (splits ++ split_clauses (s.variables + 1) (b ∷ rest)) (after_core s (b ∷
    rest))
core_keeps good formula softs splits s b rest hints h clause exists known no_sets follows = record {
  facts = record {
    extends = λ v given blocked. let (z, same, split, lives, costs) = h.facts.extends v given blocked in
        extends v z same split lives costs;
    alone = λ y z same first second.
        let own = and_parts (all_true y splits) (all_true y (split_clauses (s.variables + 1) (b ∷ rest)))
        (sym (all_true-append y splits (split_clauses (s.variables + 1) (b ∷ rest))) ∙ first) in
        let other = and_parts (all_true z splits) (all_true z (split_clauses (s.variables + 1) (b ∷ rest)))
        (sym (all_true-append z splits (split_clauses (s.variables + 1) (b ∷ rest))) ∙ second) in
        split_alone (s.variables + 1) (s.variables + fresh_count (length (b ∷ rest)) + 1) y z b rest
        (h.facts.alone y z same own.0 other.0) below own.1 other.1 (omega arith);
    sets_differ = h.facts.sets_differ;
    sets_good = none_blocked s.sets no_sets;
    differ = apart (s.variables + 1) (unwrap_or (lightest (b ∷ rest) s.softs) 0)
        ((s.variables + 1) + (length (b ∷ rest) - 2))
        (lowered (b ∷ rest) (unwrap_or (lightest (b ∷ rest) s.softs) 0) s.softs) (b ∷ rest) (omega arith)
        (lowered-below (s.variables + 1) (unwrap_or (lightest (b ∷ rest) s.softs) 0) (b ∷ rest) s.softs
        softs_below) (lowered-different (unwrap_or (lightest (b ∷ rest) s.softs) 0) (b ∷ rest) s.softs
        h.facts.differ);
    among = All-append (λ (soft : Soft). (1 ≤ soft.0.variable)
        × (soft.0.variable ≤ s.variables + fresh_count (length (b ∷ rest))))
        (lowered (b ∷ rest) (unwrap_or (lightest (b ∷ rest) s.softs) 0) s.softs)
        (split_softs (unwrap_or (lightest (b ∷ rest) s.softs) 0) (s.variables + 1) (b ∷ rest))
        (lowered-all (λ (soft : Soft). (1 ≤ soft.0.variable)
        × (soft.0.variable ≤ s.variables + fresh_count (length (b ∷ rest))))
        (unwrap_or (lightest (b ∷ rest) s.softs) 0) (b ∷ rest) s.softs (λ soft p lt. p)
        (All-weaker (λ (soft : Soft). (1 ≤ soft.0.variable) × (soft.0.variable ≤ s.variables))
        (λ (soft : Soft). (1 ≤ soft.0.variable) × (soft.0.variable ≤ s.variables + fresh_count
        (length (b ∷ rest)))) (λ soft p. (p.0, omega (arith, p.1))) s.softs h.facts.among))
        (late-all (λ (soft : Soft). (1 ≤ soft.0.variable)
        × (soft.0.variable ≤ s.variables + fresh_count (length (b ∷ rest))))
        (unwrap_or (lightest (b ∷ rest) s.softs) 0) ((s.variables + 1) + (length (b ∷ rest) - 2)) (b
        ∷ rest) (λ x ge lt. (omega arith, omega arith)));
    weighty = All-append (λ (soft : Soft). 1 ≤ soft.1)
        (lowered (b ∷ rest) (unwrap_or (lightest (b ∷ rest) s.softs) 0) s.softs)
        (split_softs (unwrap_or (lightest (b ∷ rest) s.softs) 0) (s.variables + 1) (b ∷ rest))
        (lowered-all (λ (soft : Soft). 1 ≤ soft.1) (unwrap_or (lightest (b ∷ rest) s.softs) 0) (b ∷ rest)
        s.softs (λ soft p lt. omega (arith, lt)) h.facts.weighty)
        (late-all (λ (soft : Soft). 1 ≤ soft.1) (unwrap_or (lightest (b ∷ rest) s.softs) 0)
        ((s.variables + 1) + (length (b ∷ rest) - 2)) (b ∷ rest) (λ x ge lt. light));
    given_live = λ place lt. ap live_lits (given_stay place lt);
    splits_live = stays_live origins.Split (s.clauses ++ (kept origins.Core (b ∷ rest) ∷ map (kept
        origins.Split) (split_clauses (s.variables + 1) (b ∷ rest)))) (splits ++ split_clauses (s.variables
        + 1) (b ∷ rest)) refl splits_stay;
    sets_live = stays_live origins.Blocked grown (block_clauses softs s.sets) refl sets_stay;
  };
  groups_stay = h.groups_stay;
  wide = omega (arith, h.wide);
  splits_below = ClausesBelow-append (s.variables + fresh_count (length (b ∷ rest)) + 1) splits
      (split_clauses (s.variables + 1) (b ∷ rest)) (ClausesBelow-more (s.variables + 1)
      (s.variables + fresh_count (length (b ∷ rest)) + 1) splits (omega arith) h.splits_below) new_below;
  live_below = let P : List (List Literal) → Type 0 =
      λ cs. ClausesBelow (s.variables + fresh_count (length (b ∷ rest)) + 1) cs in
      subst P (sym lives_is) (ClausesBelow-append (s.variables + fresh_count (length (b ∷ rest)) + 1)
      (all_lits s.clauses) ((b ∷ rest) ∷ (split_clauses (s.variables + 1) (b ∷ rest)))
      (ClausesBelow-more (s.variables + 1) (s.variables + fresh_count (length (b ∷ rest)) + 1)
      (all_lits s.clauses) (omega arith) h.live_below) (
        ClauseBelow-more (s.variables + 1) (s.variables + fresh_count (length (b ∷ rest)) + 1)
            (b ∷ rest) (omega arith) below,
        new_below,
      ));
  given_stay = given_stay;
  splits_stay = splits_stay;
  sets_stay = sets_stay;
}
  where
    grown : List Kept
    grown = s.clauses ++ (kept origins.Core (b ∷ rest) ∷ map (kept origins.Split) (split_clauses
        (s.variables + 1) (b ∷ rest)))

    none_blocked : (sets : List (List ℕ)) → sets ≡ [] →
        All (IsBlocked good softs (s.bound + unwrap_or (lightest (b ∷ rest) s.softs) 0)) sets
    none_blocked [] none = All-nil (IsBlocked good softs (s.bound + unwrap_or (lightest (b ∷ rest) s.softs)
        0))
    none_blocked (x ∷ xs) none = absurd (cc)

    sets_stay : All (Stays origins.Blocked grown) (block_clauses softs s.sets)
    sets_stay = all_stay-more origins.Blocked s.clauses
        (kept origins.Core (b ∷ rest) ∷ map (kept origins.Split) (split_clauses (s.variables + 1) (b ∷ rest)))
        (block_clauses softs s.sets) h.sets_stay

    given_stay : (place : ℕ) → place < length formula.clauses →
        kept_at (s.clauses ++ (kept origins.Core (b ∷ rest)
        ∷ map (kept origins.Split) (split_clauses (s.variables + 1) (b ∷ rest)))) (place + 1)
        ≡ Some (kept origins.Given (get_or formula.clauses place []))
    given_stay place lt = kept_at-more s.clauses (kept origins.Core (b ∷ rest)
        ∷ map (kept origins.Split) (split_clauses (s.variables + 1) (b ∷ rest))) (place + 1)
        (kept origins.Given (get_or formula.clauses place [])) (h.given_stay place lt)

    below : ClauseBelow (s.variables + 1) (b ∷ rest)
    below = exist_below s (b ∷ rest) exists

    softs_below : SoftsBelow (s.variables + 1) s.softs
    softs_below = among-below s.variables s.softs h.facts.among

    new_below : ClausesBelow (s.variables + fresh_count (length (b ∷ rest)) + 1)
        (split_clauses (s.variables + 1) (b ∷ rest))
    new_below = split_clauses-below (s.variables + 1) (s.variables + fresh_count (length (b ∷ rest)) + 1) b
        rest below (omega arith)

    lives_is : all_lits (s.clauses ++ (kept origins.Core (b ∷ rest) ∷ map (kept origins.Split)
        (split_clauses (s.variables + 1) (b ∷ rest)))) ≡ all_lits s.clauses ++ (b ∷ rest) ∷
        (split_clauses (s.variables + 1) (b ∷ rest))
    lives_is = all_lits-append s.clauses
        (kept origins.Core (b ∷ rest) ∷ map (kept origins.Split) (split_clauses (s.variables + 1) (b ∷ rest)))
        ∙ ap (λ cs. all_lits s.clauses ++ (b ∷ rest) ∷ cs)
        (all_lits-kept origins.Split (split_clauses (s.variables + 1) (b ∷ rest)))

    new_stay : All (Stays origins.Split (s.clauses ++ (kept origins.Core (b ∷ rest) ∷ map (kept
        origins.Split) (split_clauses (s.variables + 1) (b ∷ rest))))) (split_clauses (s.variables + 1) (b
        ∷ rest))
    new_stay = let P : List Kept → Type 0 = λ cs. All (Stays origins.Split cs) (split_clauses (s.variables
        + 1) (b ∷ rest)) in
        subst P (append_assoc s.clauses (kept origins.Core (b ∷ rest) ∷ [])
        (map (kept origins.Split) (split_clauses (s.variables + 1) (b ∷ rest))))
        (added_stay (s.clauses ++ kept origins.Core (b ∷ rest) ∷ [])
        (split_clauses (s.variables + 1) (b ∷ rest)))

    splits_stay : All (Stays origins.Split (s.clauses ++ (kept origins.Core (b ∷ rest) ∷ map (kept
        origins.Split) (split_clauses (s.variables + 1) (b ∷ rest))))) (splits ++ split_clauses
        (s.variables + 1) (b ∷ rest))
    splits_stay = All-append (Stays origins.Split (s.clauses ++ (kept origins.Core (b ∷ rest) ∷ map (kept
        origins.Split) (split_clauses (s.variables + 1) (b ∷ rest))))) splits (split_clauses (s.variables +
        1) (b ∷ rest)) (all_stay-more origins.Split s.clauses (kept origins.Core (b ∷ rest) ∷ map (kept
        origins.Split) (split_clauses (s.variables + 1) (b ∷ rest))) splits h.splits_stay) new_stay

    light : 1 ≤ (unwrap_or (lightest (b ∷ rest) s.softs) 0)
    light = lightest_weighty (b ∷ rest) s.softs b h.facts.weighty (first_there b rest)
        (soft_there (is_soft s.softs (negate b)) (lacks_soft s.softs rest) known)
      where
        first_there : (b : Literal) (rest : List Literal) → has_literal b (b ∷ rest) ≡ true
        first_there b rest = grind (arith, nat_tests)

        soft_there : (x y : Bool) → (not x || y) ≡ false → x ≡ true
        soft_there true y e = refl
        soft_there false y e = absurd (cc)

    extends : (v z : Assignment) → Agree (formula.variables + 1) v z → all_true z splits ≡ true →
        all_true z (all_lits s.clauses) ≡ true → cost v (present softs) ≡ s.bound + cost z s.softs →
        (y : Assignment) × Agree
        (formula.variables + 1) v y × (all_true y
        (splits ++ (split_clauses (s.variables + 1) (b ∷ rest))) ≡ true) × (all_true y
        (all_lits (s.clauses ++ (kept origins.Core (b ∷ rest) ∷ map (kept origins.Split)
        (split_clauses (s.variables + 1) (b ∷ rest))))) ≡ true) × (cost v
        (present softs) ≡ s.bound + (unwrap_or (lightest (b ∷ rest) s.softs) 0) + cost y
        (lowered (b ∷ rest) (unwrap_or
        (lightest (b ∷ rest) s.softs) 0) s.softs ++ split_softs
        (unwrap_or (lightest (b ∷ rest) s.softs) 0) (s.variables + 1)
        (b ∷ rest)))
    extends v z same split lives costs =
        let e = (s.variables + 1) + (length rest - 1) in
        let y : Assignment = extended z (s.variables + 1) e rest (b ∷ rest) in
        let agree : Agree (s.variables + 1) z y = extended-old z (s.variables + 1) e rest (b ∷ rest) in
        let means = extension_means (s.variables + 1) z b rest in
        let news : all_true y (split_clauses (s.variables + 1) (b ∷ rest)) ≡ true =
        split_holds (s.variables + 1) z y b rest agree below means.0 means.1 in
        let true_ : any_true z (b ∷ rest) ≡ true = follows_true s z (b ∷ rest) hints follows lives in
        let core_true : any_true y (b ∷ rest) ≡ true =
        sym (any_true-agree (s.variables + 1) z y (b ∷ rest) agree below) ∙ true_ in (
          y,
          λ u lt. same u lt ∙ agree u (omega (arith, h.wide, lt)),
          all_true-append y splits (split_clauses (s.variables + 1) (b ∷ rest))
              ∙ and_from (all_true y splits) (all_true y (split_clauses (s.variables + 1) (b ∷ rest)))
              (sym (all_true-agree (s.variables + 1) z y splits agree h.splits_below) ∙ split) news,
          ap (all_true y) lives_is
              ∙ (all_true-append y (all_lits s.clauses)
              ((b ∷ rest) ∷ (split_clauses (s.variables + 1) (b ∷ rest)))
              ∙ and_from (all_true y (all_lits s.clauses))
              (any_true y (b ∷ rest) && all_true y (split_clauses (s.variables + 1) (b ∷ rest)))
              (sym (all_true-agree (s.variables + 1) z y
              (all_lits s.clauses) agree h.live_below) ∙ lives)
              (and_from (any_true y (b ∷ rest))
              (all_true y (split_clauses (s.variables + 1)
              (b ∷ rest))) core_true news)),
          costs ∙ split_cost (s.variables + 1) z y b rest s.softs s.bound
              (unwrap_or (lightest (b ∷ rest) s.softs) 0) agree softs_below clause known h.facts.differ refl
              true_ means.1,
        )

-- AN ALLOWED STEP keeps the facts
no_more : (good : Judge) (formula : Cnf) (softs : List Soft) (splits : List (List Literal)) (s : State) →
    KeepsFacts good formula softs splits s → KeepsFacts good formula softs (splits ++ []) s
no_more good formula softs splits s h = let P : List (List Literal) → Type 0 = λ cs. KeepsFacts good
    formula softs cs s in subst P (sym (append-nil splits)) h

core_step : (good : Judge) (formula : Cnf) (softs : List Soft) (splits : List (List Literal)) (s : State)
    (lits : List Literal) (hints : List ℕ) →
    KeepsFacts good formula softs splits s → AreFormedLits lits → lacks_variable s lits ≡ false →
    lacks_soft s.softs lits ≡ false → s.sets ≡ [] → hint_error s lits hints ≡ None →
    KeepsFacts good formula softs (splits ++ split_clauses (s.variables + 1) lits) (after_core s lits)
core_step good formula softs splits s [] hints h formed exists known no_sets follows = absurd (omega
    (arith, formed.1))
core_step good formula softs splits s (b ∷ rest) hints h formed exists known no_sets follows =
    core_keeps good formula softs splits s b rest hints h formed.0 exists known no_sets follows

-- A BLOCK STEP keeps them: a clause over the formula's variables is added, which is a premise from then on
clause_below : (n : ℕ) (c : List Literal) → IsClause n c → ClauseBelow (n + 1) c
clause_below n [] clause = tt
clause_below n (l ∷ ls) clause = (
  let le = clause.within 0 (omega arith) in omega (arith, le),
  clause_below
      n ls (IsClause-rest n l ls clause),
)

clauses_below : (n : ℕ) (cs : List (List Literal)) → All (IsClause n) cs → ClausesBelow (n + 1) cs
clauses_below n [] all = tt
clauses_below n (c ∷ cs) all = (
  clause_below n c (All-head (IsClause n) c cs all),
  clauses_below n cs
      (All-tail (IsClause n) c cs all),
)

-- a list more that differs from each
pub distinct_none : IsDistinct (pointwise nat_eq) []
unfolding IsDistinct
distinct_none = tt

distinct_more : (sets : List (List ℕ)) (set : List ℕ) → IsDistinct (pointwise nat_eq) sets →
    is_among sets set ≡ false → IsDistinct (pointwise nat_eq) (sets ++ set ∷ [])
unfolding IsDistinct
distinct_more [] set distinct other = (tt, tt)
distinct_more (x ∷ xs) set distinct other =
    let parts = or_parts (pointwise nat_eq x set) (is_among xs set) other in
    (each xs distinct.0 parts.0, distinct_more xs set distinct.1 parts.1)
  where
    each : (ys : List (List ℕ)) → AllByRecursion (λ y. pointwise nat_eq x y ≡ false) ys →
        pointwise nat_eq x set ≡ false →
        AllByRecursion (λ y. pointwise nat_eq x y ≡ false) (ys ++ set ∷ [])
    each [] all last = (last, tt)
    each (y ∷ ys) all last = (all.0, each ys all.1 last)

-- what an allowed Block step says of its set
pub block_parts : (good : Judge) (s : State) (set : List ℕ) (run : List Choice) →
    block_error good s set run ≡ None →
    (lacks_group s.groups set ≡ false) × (is_among s.sets set ≡ false)
    × (set_weight s.groups set ≡ s.bound) × (good set run ≡ true)
block_parts good s set run none =
    let runs : Option StepError = error_if (not (good set run)) RunNotGood None in
    let weighs : Option StepError = error_if (not (set_weight s.groups set == s.bound)) WrongWeight runs in
    let known = no_error (lacks_group s.groups set) BadVariable (error_if (is_among s.sets set) SetTwice
    weighs) none in
    let once = no_error (is_among s.sets set) SetTwice weighs known.1 in
    let heavy = no_error (not (set_weight s.groups set == s.bound)) WrongWeight runs once.1 in
    let run_good = no_error (not (good set run)) RunNotGood None heavy.1 in
    (known.0, once.0, same (set_weight s.groups set) s.bound heavy.0, is_true (good set run) run_good.0)
  where
    same : (a b : ℕ) → not (a == b) ≡ false → a ≡ b
    same a b e = grind (arith, nat_tests)

    is_true : (b : Bool) → not b ≡ false → b ≡ true
    is_true true e = refl
    is_true false e = absurd (cc)

block_keeps : (good : Judge) (formula : Cnf) (softs : List Soft) (splits : List (List Literal)) (s : State)
    (set : List ℕ) (run : List Choice) →
    IsStart formula softs → KeepsFacts good formula softs splits s → AreAbove 0 set →
    block_error good s set run ≡ None → KeepsFacts good formula softs splits (after_block s set)
block_keeps good formula softs splits s set run start h above none = record {
  facts = record {
    extends = λ v given blocked.
        let parts = and_parts (all_true v (block_clauses softs s.sets)) (any_true v new && true)
        (sym (all_true-append v (block_clauses softs s.sets) (new ∷ []))
        ∙ (sym (ap (all_true v) sets_is) ∙ blocked)) in
        let (z, same, split, lives, costs) = h.facts.extends v given parts.0 in (
          z,
          same,
          split,
          ap (all_true z) lives_is
              ∙ all_true-push z (all_lits s.clauses) new lives
              (sym (any_true-agree (formula.variables + 1) v z new same below)
              ∙ (and_parts (any_true v new) true parts.1).0),
          costs,
        );
    alone = h.facts.alone;
    sets_differ = distinct_more s.sets set h.facts.sets_differ parts_of.1;
    sets_good = All-append (IsBlocked good softs s.bound) s.sets (set ∷ []) h.facts.sets_good
        (All-cons (IsBlocked good softs s.bound) set [] is_blocked (All-nil (IsBlocked good softs s.bound)));
    differ = h.facts.differ;
    among = h.facts.among;
    weighty = h.facts.weighty;
    given_live = λ place lt. ap live_lits (given_stay place lt);
    splits_live = stays_live origins.Split grown splits refl splits_stay;
    sets_live = stays_live origins.Blocked grown (block_clauses softs (s.sets ++ set ∷ [])) refl sets_stay;
  };
  groups_stay = h.groups_stay;
  wide = h.wide;
  splits_below = h.splits_below;
  live_below = let P : List (List Literal) → Type 0 = λ cs. ClausesBelow (s.variables + 1) cs in
      subst P (sym lives_is) (ClausesBelow-append (s.variables + 1) (all_lits s.clauses) (new ∷ [])
      h.live_below (
        ClauseBelow-more (formula.variables + 1) (s.variables + 1) new (omega (arith, h.wide))
            below,
        tt,
      ));
  given_stay = given_stay;
  splits_stay = splits_stay;
  sets_stay = sets_stay;
}
  where
    parts_of : (lacks_group s.groups set ≡ false) × (is_among s.sets set ≡ false)
        × (set_weight s.groups set ≡ s.bound) × (good set run ≡ true)
    parts_of = block_parts good s set run none

    new : List Literal
    new = block_clause softs set

    added : List Kept
    added = kept origins.Blocked (block_clause s.groups set) ∷ []

    grown : List Kept
    grown = s.clauses ++ added

    exist : lacks_group softs set ≡ false
    exist = ap (λ g. lacks_group g set) (sym h.groups_stay) ∙ parts_of.0

    is_blocked : IsBlocked good softs s.bound set
    is_blocked = record {
      ascends = above;
      exist = exist;
      weight = ap (λ g. set_weight g set) (sym h.groups_stay) ∙ parts_of.2;
      run = run;
      is_good = parts_of.3;
    }

    below : ClauseBelow (formula.variables + 1) new
    below = clause_below formula.variables new
        (block_formed formula.variables softs set start.softs_among start.softs_differ above exist)

    lives_is : all_lits grown ≡ all_lits s.clauses ++ new ∷ []
    lives_is = all_lits-append s.clauses added
        ∙ ap (λ g. all_lits s.clauses ++ block_clause g set ∷ []) h.groups_stay

    sets_is : block_clauses softs (s.sets ++ set ∷ []) ≡ block_clauses softs s.sets ++ new ∷ []
    sets_is = map-append (block_clause softs) s.sets (set ∷ [])

    given_stay : (place : ℕ) → place < length formula.clauses →
        kept_at grown (place + 1) ≡ Some (kept origins.Given (get_or formula.clauses place []))
    given_stay place lt = kept_at-more s.clauses added (place + 1)
        (kept origins.Given (get_or formula.clauses place [])) (h.given_stay place lt)

    splits_stay : All (Stays origins.Split grown) splits
    splits_stay = all_stay-more origins.Split s.clauses added splits h.splits_stay

    new_stays : Stays origins.Blocked grown new
    new_stays = (
      suc (length s.clauses),
      slice_get-seam s.clauses (kept origins.Blocked (block_clause s.groups set)) []
          ∙ ap (λ g. Some (kept origins.Blocked (block_clause g set))) h.groups_stay,
    )

    sets_stay : All (Stays origins.Blocked grown) (block_clauses softs (s.sets ++ set ∷ []))
    sets_stay = let P : List (List Literal) → Type 0 = λ cs. All (Stays origins.Blocked grown) cs in
        subst P (sym sets_is) (All-append (Stays origins.Blocked grown) (block_clauses softs s.sets) (new ∷
        [])
        (all_stay-more origins.Blocked s.clauses added (block_clauses softs s.sets) h.sets_stay)
        (All-cons (Stays origins.Blocked grown) new [] new_stays (All-nil (Stays origins.Blocked grown))))

step_keeps : (good : Judge) (formula : Cnf) (softs : List Soft) (splits : List (List Literal)) (s : State)
    (step : CertStep) →
    IsStart formula softs → KeepsFacts good formula softs splits s → IsFormed step → error_of good s step ≡
    None → KeepsFacts good formula softs (splits ++ step_splits s step) (after s step)
step_keeps good formula softs splits s (Learn lits hints) start h formed none =
    let awake = no_error s.refused Memory (error_if s.ended AfterEnd (learn_error s lits hints)) none in
    let going = no_error s.ended AfterEnd (learn_error s lits hints) awake.1 in
    let exists = no_error (lacks_variable s lits) BadVariable
    (error_if (is_spent s) WrongCount (error_if (holds_clause s.clauses lits) NotNew
    (hint_error s lits hints))) going.1 in
    let left = no_error (is_spent s) WrongCount (error_if (holds_clause s.clauses lits) NotNew
    (hint_error s lits hints)) exists.1 in
    let new = no_error (holds_clause s.clauses lits) NotNew (hint_error s lits hints) left.1 in
    no_more good formula softs splits (after_learn s lits) (learn_keeps good formula softs splits s lits
    hints h exists.0 new.1)
step_keeps good formula softs splits s (Core lits hints) start h formed none =
    let awake = no_error s.refused Memory (error_if s.ended AfterEnd (core_error s lits hints)) none in
    let going = no_error s.ended AfterEnd (core_error s lits hints) awake.1 in
    let exists = no_error (lacks_variable s lits) BadVariable
    (error_if (is_spent s) WrongCount (error_if (ltb 0 (length s.sets)) CoreAfterSet
    (error_if (lacks_soft s.softs lits) NotSofts (hint_error s lits hints)))) going.1 in
    let left = no_error (is_spent s) WrongCount (error_if (ltb 0 (length s.sets)) CoreAfterSet
    (error_if (lacks_soft s.softs lits) NotSofts (hint_error s lits hints))) exists.1 in
    let early = no_error (ltb 0 (length s.sets)) CoreAfterSet
    (error_if (lacks_soft s.softs lits) NotSofts (hint_error s lits hints)) left.1 in
    let known = no_error (lacks_soft s.softs lits) NotSofts (hint_error s lits hints) early.1 in
    core_step good formula softs splits s lits hints h formed.0 exists.0 known.0 (none_yet s.sets early.0)
    known.1
  where
    none_yet : (sets : List (List ℕ)) → ltb 0 (length sets) ≡ false → sets ≡ []
    none_yet [] none = refl
    none_yet (x ∷ xs) none = absurd (some (length xs) none)
      where
        some : (n : ℕ) → ltb 0 (suc n) ≡ false → ⊥
        some n e = grind (arith, nat_tests)
step_keeps good formula softs splits s (Delete numbers) start h formed none =
    let awake = no_error s.refused Memory (error_if s.ended AfterEnd (delete_error s numbers)) none in
    let going = no_error s.ended AfterEnd (delete_error s numbers) awake.1 in
    let goes = no_error (not (list_all (may_go s) numbers)) DeadClause
    (error_if (ltb s.learnt apart_by) TooSoon None) going.1 in
    no_more good formula softs splits (after_delete s numbers) (delete_keeps good formula softs splits s
    numbers h (not_not (list_all (may_go s) numbers) goes.0))
  where
    not_not : (b : Bool) → not b ≡ false → b ≡ true
    not_not true e = refl
    not_not false e = absurd (cc)
step_keeps good formula softs splits s (Block groups run) start h formed none =
    let awake = no_error s.refused Memory (error_if s.ended AfterEnd (block_error good s groups run)) none in
    let going = no_error s.ended AfterEnd (block_error good s groups run) awake.1 in
    no_more good formula softs splits (after_block s groups) (block_keeps good formula softs splits s
    groups run start h formed.0 going.1)
step_keeps good formula softs splits s (EndLocated lits hints) start h formed none = no_more good formula
    softs splits (record s { ended = true }) (end_keeps good formula softs splits s h)
step_keeps good formula softs splits s (EndNoRepair hints) start h formed none = no_more good formula softs
    splits (record s { ended = true }) (end_keeps good formula softs splits s h)
step_keeps good formula softs splits s EndTooMany start h formed none = no_more good formula softs splits
    (record s { ended = true }) (end_keeps good formula softs splits s h)
step_keeps good formula softs splits s EndSpent start h formed none = no_more good formula softs splits
    (record s { ended = true }) (end_keeps good formula softs splits s h)

-- so do any allowed steps
pub allowed : (o : Option StepError) (next : Option State) (t : State) → next_if o next ≡ Some t →
    (o ≡ None) × (next ≡ Some t)
allowed None next t is = (refl, is)
allowed (Some e) next t is = absurd (cc)

pub next_allowed : (o : Option StepError) (next : Option State) (t : State) → o ≡ None → next ≡ Some t →
    next_if o next ≡ Some t
next_allowed None next t none is = is
next_allowed (Some e) next t none is = absurd (cc none)

-- one after the other
pub after_append : (good : Judge) (xs ys : List CertStep) (a b c : State) → after_all good a xs ≡ Some b →
    after_all good b ys ≡ Some c → after_all good a (xs ++ ys) ≡ Some c
after_append good [] ys a b c first second =
    let e : b ≡ a = sym (same_Some a b first) in
    let P : State → Type 0 = λ s. after_all good s ys ≡ Some c in
    subst P e second
after_append good (x ∷ xs) ys a b c first second =
    let parts = allowed (error_of good a x) (after_all good (after a x) xs) b first in
    next_allowed (error_of good a x) (after_all good (after a x) (xs ++ ys)) c parts.0
    (after_append good xs ys (after a x) b c parts.1 second)

steps_keep : (good : Judge) (formula : Cnf) (softs : List Soft) (splits : List (List Literal)) (s : State)
    (steps : List CertStep) (t : State) →
    IsStart formula softs → KeepsFacts good formula softs splits s → All IsFormed steps → after_all good s
    steps ≡ Some t → KeepsFacts good formula softs (splits ++ splits_of s steps) t
steps_keep good formula softs splits s [] t start h formed is =
    let e : s ≡ t = cc in
    let P : State → Type 0 = λ u. KeepsFacts good formula softs (splits ++ []) u in
    subst P e (no_more good formula softs splits s h)
steps_keep good formula softs splits s (step ∷ steps) t start h formed is =
    let next = allowed (error_of good s step) (after_all good (after s step) steps) t is in
    let P : List (List Literal) → Type 0 = λ cs. KeepsFacts good formula softs cs t in
    subst P (append_assoc splits (step_splits s step) (splits_of (after s step) steps))
    (steps_keep good formula softs (splits ++ step_splits s step) (after s step) steps t start
    (step_keeps good formula softs splits s step start h (All-head IsFormed step steps formed) next.0)
    (All-tail IsFormed step steps formed) next.1)

-- THE FIRST STATE has them
pub present_weighty : (softs : List Soft) → All (λ (soft : Soft). 1 ≤ soft.1) (present softs)
present_weighty [] = All-nil (λ (soft : Soft). 1 ≤ soft.1)
present_weighty (s ∷ ss) = cases (ltb 0 s.1) refl (present_weighty ss)
  where
    heavy : (x : ℕ) → ltb 0 x ≡ true → 1 ≤ x
    heavy x e = grind (arith, nat_tests)

    cases : (t : Bool) → ltb 0 s.1 ≡ t → All (λ (soft : Soft). 1 ≤ soft.1) (present ss) →
        All (λ (soft : Soft). 1 ≤ soft.1) (cond t (s ∷ present ss) (present ss))
    cases true e rest = All-cons (λ (soft : Soft). 1 ≤ soft.1) s (present ss) (heavy s.1 e) rest
    cases false e rest = rest

given_at : (cs : List (List Literal)) (place : ℕ) → place < length cs →
    slice_get (map (kept origins.Given) cs) place ≡ Some (kept origins.Given (get_or cs place []))
given_at [] place lt = absurd (omega arith)
given_at (c ∷ cs) zero lt = refl
given_at (c ∷ cs) (suc place) lt = given_at cs place (omega arith)

given_numbered : (cs : List (List Literal)) (place : ℕ) → place < length cs →
    kept_at (map (kept origins.Given) cs) (place + 1) ≡ Some (kept origins.Given (get_or cs place []))
given_numbered cs place lt = let e : place + 1 ≡ suc place = omega arith in rw e (given_at cs place lt)

first_keeps : (good : Judge) (formula : Cnf) (softs : List Soft) (conflicts sets : ℕ) → IsStart formula
    softs → KeepsFacts good formula softs [] (first_state formula softs conflicts sets)
first_keeps good formula softs conflicts sets start = record {
  facts = record {
    extends = λ v given blocked. (
      v,
      λ u lt. refl,
      refl,
      ap (all_true v) (all_lits-kept origins.Given formula.clauses)
          ∙ given,
      from_zero (cost v (present softs)),
    );
    alone = λ y z same first second. same;
    sets_differ = distinct_none;
    sets_good = All-nil (IsBlocked good softs 0);
    differ = start.softs_differ;
    among = start.softs_among;
    weighty = present_weighty softs;
    given_live = λ place lt. ap live_lits (given_numbered formula.clauses place lt);
    splits_live = All-nil (IsLive (map (kept origins.Given) formula.clauses));
    sets_live = All-nil (IsLive (map (kept origins.Given) formula.clauses));
  };
  groups_stay = refl;
  wide = omega arith;
  splits_below = tt;
  live_below = let P : List (List Literal) → Type 0 =
      λ cs. ClausesBelow (formula.variables + 1) cs in subst P
      (sym (all_lits-kept origins.Given formula.clauses))
      (clauses_below formula.variables formula.clauses start.clauses);
  given_stay = λ place lt. given_numbered formula.clauses place lt;
  splits_stay = All-nil (Stays origins.Split (map (kept origins.Given) formula.clauses));
  sets_stay = All-nil (Stays origins.Blocked (map (kept origins.Given) formula.clauses));
}
  where
    from_zero : (k : ℕ) → k ≡ 0 + k
    from_zero k = omega arith

-- the law
pub facts_hold : (good : Judge) (formula : Cnf) (softs : List Soft) (conflicts sets : ℕ) →
    IsStart formula softs → (steps : List CertStep) → All IsFormed steps → (s : State) →
    after_all good (first_state formula softs conflicts sets) steps ≡ Some s → Holds good formula softs
    (splits_of (first_state formula softs conflicts sets) steps) s
facts_hold good formula softs conflicts sets start steps formed s is =
    (steps_keep good formula softs [] (first_state formula softs conflicts sets) steps s start (first_keeps
    good formula softs conflicts sets start) formed is).facts
