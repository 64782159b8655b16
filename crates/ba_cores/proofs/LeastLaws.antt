-- A model that satisfies all present soft literals costs the bound, and no model costs less.

use Rattle.std.proofs.Common.{◌≡◌, ℕ, suc, ◌+◌, ◌<◌, Bool, true, false, cond, Some, List, [], ◌∷◌, length, get_or, All, refl, ap, ◌∙◌, arith}
use Rattle.std.proofs.lemmas.Bool.{and_from}
use Rattle.std.proofs.lemmas.List.Elements.{All-head, All-tail}
use Rattle.ba_lits.specs.Literals.{Literal}
use Rattle.ba_lits.specs.Satisfaction.{Assignment, lit_true, any_true, all_true, assignment_of, Soft, cost}
use Rattle.ba_lits.specs.Formulas.{Cnf}
use Rattle.ba_lits.specs.Hints.{FollowsByHints}
use Rattle.ba_lits.proofs.Satisfied.{cost-agree}
use Rattle.ba_checker.specs.States.{Kept, State, clause_at, present, first_state}
use Rattle.ba_choices.specs.Judges.{Judge}
use Rattle.ba_checker.specs.Puts.{Checking}
use Rattle.ba_checker.specs.StepRules.{error_of_replay}
use Rattle.ba_checker.specs.Facts.{IsLive, Holds, splits_of}
use Rattle.ba_checker.specs.Blocks.{block_clauses}
use Rattle.ba_checker.proofs.FactLaws.{facts_hold, follows_true, among-below}
use Rattle.ba_search.specs.Answers.{IsModel, IsCore}
use Rattle.ba_cores.specs.Derivations.{IsReached}
use Rattle.ba_cores.specs.Findings.{IsLeast, IsFound}
use Rattle.ba_cores.specs.declared.costs.Found.TheVariants.{NoModel}
use Rattle.ba_cores.specs.Rounds.{literals_of}

-- clauses hold if each does
pub all_of_each : (v : Assignment) (cs : List (List Literal)) →
    ((k : ℕ) → k < length cs → any_true v (get_or cs k []) ≡ true) → all_true v cs ≡ true
all_of_each v [] each = refl
all_of_each v (c ∷ cs) each =
    and_from (any_true v c) (all_true v cs) (each 0 (omega arith))
    (all_of_each v cs (λ k lt. each (suc k) (omega (arith, lt))))

pub all_of_live : (v : Assignment) (kept : List Kept) →
    ((number : ℕ) (c : List Literal) → clause_at kept number ≡ Some c → any_true v c ≡ true) →
    (cs : List (List Literal)) → All (IsLive kept) cs → all_true v cs ≡ true
all_of_live v kept holds [] all = refl
all_of_live v kept holds (c ∷ cs) all =
    let (number, is) = All-head (IsLive kept) c cs all in
    and_from (any_true v c) (all_true v cs) (holds number c is)
    (all_of_live v kept holds cs (All-tail (IsLive kept) c cs all))

-- soft literals that are all true cost nothing
pub cost_of_true : (v : Assignment) (softs : List Soft) → All (λ l. lit_true v l ≡ true) (literals_of softs) →
    cost v softs ≡ 0
cost_of_true v [] all = refl
cost_of_true v (s ∷ ss) all =
    let first : lit_true v s.0 ≡ true = All-head (λ l. lit_true v l ≡ true) s.0 (literals_of ss) all in
    let rest : cost v ss ≡ 0 = cost_of_true v ss (All-tail (λ l. lit_true v l ≡ true) s.0 (literals_of ss)
    all) in
    ap (λ b. cond b 0 s.1 + cost v ss) first ∙ (omega (arith, rest))

-- the facts of a state that a formula's derivation reaches
reached_facts : (good : Judge) (formula : Cnf) (softs : List Soft) (s : State)
    (r : IsReached good formula softs s) →
    Holds good formula softs (splits_of (first_state formula softs r.conflicts r.sets) r.steps) s
reached_facts good formula softs s r = facts_hold good formula softs r.conflicts r.sets r.start r.steps
    r.formed s r.reached

-- if no set is blocked, no clause is to be satisfied beside the formula's
none_to_block : (softs : List Soft) (s : State) (v : Assignment) → s.sets ≡ [] →
    all_true v (block_clauses softs s.sets) ≡ true
none_to_block softs s v none = ap (λ sets. all_true v (block_clauses softs sets)) none

-- from the facts: a model of all live clauses and present soft literals is a least one
least_of_facts : (good : Judge) (formula : Cnf) (softs : List Soft) (splits : List (List Literal))
    (s : State) (values : List Bool) →
    Holds good formula softs splits s → s.sets ≡ [] → IsModel s (literals_of s.softs) values →
    IsLeast formula softs s.bound values
least_of_facts good formula softs splits s values h none m = record {
  satisfies = given;
  costs = costs;
  least = λ v holds. let (z, same, split, lives, is) = h.extends v holds (none_to_block softs s v none) in
      omega (arith, is);
}
  where
    v : Assignment
    v = assignment_of values

    given : all_true v formula.clauses ≡ true
    given = all_of_each v formula.clauses (λ k lt. m.clauses (k + 1) (get_or formula.clauses k [])
        (h.given_live k lt))

    splits_true : all_true v splits ≡ true
    splits_true = all_of_live v s.clauses m.clauses splits h.splits_live

    costs : cost v (present softs) ≡ s.bound
    costs =
        let (z, same, split, lives, is) = h.extends v given (none_to_block softs s v none) in
        let agree : cost v s.softs ≡ cost z s.softs =
        cost-agree (s.variables + 1) v z s.softs (h.alone v z same splits_true split)
        (among-below s.variables s.softs h.among) in
        let none : cost v s.softs ≡ 0 = cost_of_true v s.softs m.assumed in
        omega (arith, is, agree, none)

pub least_of_model : (good : Judge) (formula : Cnf) (softs : List Soft) (s : State) (values : List Bool) →
    IsModel s (literals_of s.softs) values → s.sets ≡ [] → IsReached good formula softs s →
    IsLeast formula softs s.bound values
least_of_model good formula softs s values m none r =
    least_of_facts good formula softs (splits_of (first_state formula softs r.conflicts r.sets) r.steps) s
    values (reached_facts good formula softs s r) none m

-- if the empty clause follows there is no model
pub none_of_empty : (good : Judge) (formula : Cnf) (softs : List Soft) (s : State) (hints : List ℕ) →
    FollowsByHints (clause_at s.clauses) [] hints → s.sets ≡ [] → IsReached good formula softs s →
    (v : Assignment) → all_true v formula.clauses ≡ true → ⊥
none_of_empty good formula softs s hints follows none r v holds =
    let (z, same, split, lives, is) = (reached_facts good formula softs s r).extends v holds
    (none_to_block softs s v none) in
    let e : false ≡ true = follows_true s z [] hints (ap error_of_replay follows) lives in
    cc e

none_from : (s : State) (a lits : List Literal) (hints : List ℕ) (back : ℕ) → IsCore s a lits hints back →
    length lits ≡ 0 → FollowsByHints (clause_at s.clauses) [] hints
none_from s a [] hints back core none = core.follows
none_from s a (l ∷ ls) hints back core none = absurd (omega (arith, none))

-- a core without a literal
pub none_of_core : (log : Checking) (a lits : List Literal) (hints : List ℕ) (back : ℕ) →
    IsCore log.checker a lits hints back → log.checker.sets ≡ [] → length lits ≡ 0 →
    IsFound log log (NoModel hints)
none_of_core log a lits hints back core no_sets none =
    let follows = none_from log.checker a lits hints back core none in (
      follows,
      core.numbers,
      core.left,
      λ formula softs r v holds. none_of_empty log.accepts formula softs log.checker hints
          follows no_sets r v holds,
    )
