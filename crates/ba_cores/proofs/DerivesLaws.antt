-- Derivations put end to end, and what they leave as it was.

use Rattle.std.proofs.Common.{◌≡◌, ℕ, ◌+◌, ◌-◌, ◌<◌, ◌≤◌, Option, None, Some, IfSome, IfNone, Result, Ok, Err, List, [], ◌∷◌, ◌++◌, All, refl, sym, ap, ◌∙◌, arith, subst}
use Rattle.std.specs.Result.{OnOk}
use Rattle.std.proofs.lemmas.List.Elements.{All-nil, All-cons, All-append}
use Rattle.ba_lits.specs.Literals.{Literal}
use Rattle.ba_lits.specs.Satisfaction.{Soft}
use Rattle.ba_lits.specs.Formulas.{Cnf}
use Rattle.ba_steps.specs.Sinks.{with_step, MayAddStep}
use Rattle.ba_steps.specs.Steps.{IsFormed}
use Rattle.ba_steps.specs.declared.step.CertStep.{CertStep}
use Rattle.ba_steps.specs.declared.step.CertStep.TheVariants.{Learn, Core, Delete}
use Rattle.ba_checker.specs.States.{State, first_state}
use Rattle.ba_choices.specs.Judges.{Judge}
use Rattle.ba_checker.specs.StepRules.{error_of, after, after_all}
use Rattle.ba_checker.specs.Puts.{Checking, IsTakenOrAsleep, Lasts, LeavesSteps, leaves_all, leaves_last}
use Rattle.ba_checker.proofs.PutLaws.{logs_then, leaves_weaker, leaves_after}
use Rattle.ba_checker.proofs.FactLaws.{next_allowed, after_append}
use Rattle.ba_search.specs.Searching.{HasTaken, Searching, Searches, searches_none, searches_learn, searches_delete, Leaves as LeavesSearched, Puts as PutsSearched}
use Rattle.ba_search.proofs.StepLaws.{Gives}
use Rattle.ba_cores.specs.Derivations.{Derives, derives_none, derives_learn, derives_delete, derives_core, IsReached, Leaves}
use Rattle.ba_cores.specs.Findings.{IsFound}
use Rattle.ba_cores.specs.Rounds.{EndsRound, HasPut, IsReady, Puts}
use Rattle.ba_cores.specs.declared.costs.Found.{Found}
use Rattle.ba_cores.specs.declared.costs.Found.TheVariants.{Least, NoModel, Spent}

-- the steps of a search are steps
pub searches_derives : {good : Judge} {gives : Gives} {a b : State} {learnt all : List ℕ}
    {xs : List CertStep} →
    Searches good gives a learnt xs b all → Derives good a xs b
searches_derives (searches_none s learnt) = derives_none s
searches_derives (searches_learn s t learnt all lits hints steps formed allowed new rest) =
    derives_learn s t lits hints steps formed allowed new (searches_derives rest)
searches_derives (searches_delete s t learnt all numbers steps formed allowed given_up rest) =
    derives_delete s t numbers steps formed allowed (searches_derives rest)

-- one derivation after another
pub derives_append : {good : Judge} {a b : State} {xs : List CertStep} → Derives good a xs b →
    (c : State) (ys : List CertStep) → Derives good b ys c → Derives good a (xs ++ ys) c
derives_append (derives_none s) c ys more = more
derives_append (derives_learn s t lits hints steps formed allowed new rest) c ys more =
    derives_learn s c lits hints (steps ++ ys) formed allowed new (derives_append rest c ys more)
derives_append (derives_delete s t numbers steps formed allowed rest) c ys more =
    derives_delete s c numbers (steps ++ ys) formed allowed (derives_append rest c ys more)
derives_append (derives_core s t lits hints steps formed allowed rest) c ys more =
    derives_core s c lits hints (steps ++ ys) formed allowed (derives_append rest c ys more)

-- what a derivation leaves as it was, and what grows
pub record Stays (old new : State) : Type 0 where
  pub sets : new.sets ≡ old.sets
  pub budget : new.budget ≡ old.budget
  pub ended : new.ended ≡ old.ended
  pub refused : new.refused ≡ old.refused
  pub conflicts : old.conflicts ≤ new.conflicts

stays_same : (s : State) → Stays s s
stays_same s = record { sets = refl; budget = refl; ended = refl; refused = refl; conflicts = omega arith }

-- a step takes no conflict back
stays_step : (old mid new : State) → mid.sets ≡ old.sets → mid.budget ≡ old.budget → mid.ended ≡ old.ended →
    mid.refused ≡ old.refused → old.conflicts ≤ mid.conflicts → Stays mid new → Stays old new
stays_step old mid new sets budget ended refused conflicts h = record {
  sets = h.sets ∙ sets;
  budget = h.budget ∙ budget;
  ended = h.ended ∙ ended;
  refused = h.refused ∙ refused;
  conflicts = omega (arith, h.conflicts, conflicts);
}

pub derives_stays : {good : Judge} {a b : State} {xs : List CertStep} → Derives good a xs b → Stays a b
derives_stays (derives_none s) = stays_same s
derives_stays (derives_learn s t lits hints steps formed allowed new rest) =
    stays_step s (after s (Learn lits hints)) t refl refl refl refl (omega arith) (derives_stays rest)
derives_stays (derives_delete s t numbers steps formed allowed rest) =
    stays_step s (after s (Delete numbers)) t refl refl refl refl (omega arith) (derives_stays rest)
derives_stays (derives_core s t lits hints steps formed allowed rest) =
    stays_step s (after s (Core lits hints)) t refl refl refl refl (omega arith) (derives_stays rest)

-- the steps of a search leave the soft literals too
searches_softs : {good : Judge} {gives : Gives} {a b : State} {learnt all : List ℕ} {xs : List CertStep} →
    Searches good gives a learnt xs b all → b.softs ≡ a.softs
searches_softs (searches_none s learnt) = refl
searches_softs (searches_learn s t learnt all lits hints steps formed allowed new rest) = searches_softs rest
searches_softs (searches_delete s t learnt all numbers steps formed allowed given_up rest) =
    searches_softs rest

-- a derivation is one of allowed, formed steps
pub derives_formed : {good : Judge} {a b : State} {xs : List CertStep} → Derives good a xs b → All IsFormed xs
derives_formed (derives_none s) = All-nil IsFormed
derives_formed (derives_learn s t lits hints steps formed allowed new rest) =
    All-cons IsFormed (Learn lits hints) steps formed (derives_formed rest)
derives_formed (derives_delete s t numbers steps formed allowed rest) =
    All-cons IsFormed (Delete numbers) steps formed (derives_formed rest)
derives_formed (derives_core s t lits hints steps formed allowed rest) =
    All-cons IsFormed (Core lits hints) steps formed (derives_formed rest)

pub derives_after : {good : Judge} {a b : State} {xs : List CertStep} → Derives good a xs b →
    after_all good a xs ≡ Some b
derives_after (derives_none s) = refl
derives_after {good} (derives_learn s t lits hints steps formed allowed new rest) =
    next_allowed (error_of good s (Learn lits hints)) (after_all good (after s (Learn lits hints)) steps) t
    allowed (derives_after rest)
derives_after {good} (derives_delete s t numbers steps formed allowed rest) =
    next_allowed (error_of good s (Delete numbers)) (after_all good (after s (Delete numbers)) steps) t
    allowed (derives_after rest)
derives_after {good} (derives_core s t lits hints steps formed allowed rest) =
    next_allowed (error_of good s (Core lits hints)) (after_all good (after s (Core lits hints)) steps) t
    allowed (derives_after rest)

-- what a formula's derivation reaches, it reaches after more steps
pub reached_on : {good : Judge} {a b : State} {xs : List CertStep} (formula : Cnf) (softs : List Soft) →
    IsReached good formula softs a → Derives good a xs b → IsReached good formula softs b
reached_on {good} {a} {b} {xs} formula softs r d = record {
  start = r.start;
  conflicts = r.conflicts;
  sets = r.sets;
  steps = r.steps ++ xs;
  formed = All-append IsFormed r.steps xs r.formed (derives_formed d);
  reached = after_append good r.steps xs (first_state formula softs r.conflicts r.sets) a b r.reached
      (derives_after d);
}

-- THE STEPS OF ROUNDS
pub puts_none : (log : Checking) → Puts log log
puts_none log = record { steps = []; leads = derives_none log.checker; logs = refl }

pub puts_on : (a b c : Checking) → Lasts a b → Puts a b → Puts b c → Puts a c
puts_on a b c lasts p q = record {
  steps = p.steps ++ q.steps;
  leads = derives_append p.leads c.checker q.steps
      (subst (λ (j : Judge). Derives j b.checker q.steps c.checker) lasts.judge_stays q.leads);
  logs = logs_then p.steps q.steps a.told.logs b.told.logs c.told.logs p.logs q.logs;
}

pub puts_core : (old new : Checking) (lits : List Literal) (hints : List ℕ) →
    IsFormed (Core lits hints) → error_of old.accepts old.checker (Core lits hints) ≡ None →
    new.checker ≡ after old.checker (Core lits hints) →
    new.told.logs ≡ with_step (Core lits hints) old.told.logs → Puts old new
puts_core old new lits hints formed allowed taken told = record {
  steps = Core lits hints ∷ [];
  leads = derives_core old.checker new.checker lits hints [] formed allowed
      (let P : State → Type 0 = λ s. Derives old.accepts s [] new.checker in
      subst P taken (derives_none new.checker));
  logs = told;
}

-- Learn and Delete steps, as the search tells them
pub puts_searched : {gives : Gives} {learnt all : List ℕ} (old new : Checking) →
    PutsSearched gives learnt all old new → Puts old new
puts_searched old new searched =
    record { steps = searched.steps; leads = searches_derives searched.leads; logs = searched.logs }

pub puts_ready : (old new : Checking) → Puts old new → IsReady old.checker → IsReady new.checker
puts_ready old new p r =
    let s = derives_stays p.leads in
    record { begun = s.ended ∙ r.begun; awake = s.refused ∙ r.awake; none_blocked = s.sets ∙ r.none_blocked }

pub puts_softs : {gives : Gives} {learnt all : List ℕ} (old new : Checking) →
    PutsSearched gives learnt all old new → new.checker.softs ≡ old.checker.softs
puts_softs old new searched = searches_softs searched.leads

-- WHAT IS FOUND from a later state is found from an earlier one
reached_later : (a b : Checking) → Lasts a b → Puts a b → (formula : Cnf) (softs : List Soft) →
    IsReached a.accepts formula softs a.checker → IsReached b.accepts formula softs b.checker
reached_later a b lasts p formula softs r =
    subst (λ (j : Judge). IsReached j formula softs b.checker) (sym lasts.judge_stays)
    (reached_on formula softs r p.leads)

pub found_on : (a b c : Checking) → Lasts a b → Puts a b → (found : Found) → IsFound b c found →
    IsFound a c found
found_on a b c lasts p (Least weight model) is =
    (is.0, is.1, λ formula softs r. is.2 formula softs (reached_later a b lasts p formula softs r))
found_on a b c lasts p (NoModel hints) is =
    (is.0, is.1, is.2, λ formula softs r. is.3 formula softs (reached_later a b lasts p formula softs r))
found_on a b c lasts p Spent is = is

pub round_on : (a b c : Checking) (v w : ℕ) → Lasts a b → Puts a b → (found : Option Found) →
    EndsRound b c v w found → EndsRound a c v w found
round_on a b c v w lasts p (Some found) is = found_on a b c lasts p found is
round_on a b c v w lasts p None is =
    let s = derives_stays p.leads in omega (arith, is, s.budget, s.conflicts)

pub found_some : (a b : Checking) (v w : ℕ) (ended : Option Found) (found : Found) → ended ≡ Some found →
    EndsRound a b v w ended → IsFound a b found
found_some a b v w ended found is ends = subst (EndsRound a b v w) is ends

-- a round that leaves the weight from which on soft literals are assumed
pub round_weight : (a b : Checking) (v : ℕ) (found : Option Found) → EndsRound a b 0 0 found →
    EndsRound a b v v found
round_weight a b v (Some found) is = is
round_weight a b v None is = omega (arith, is)

-- a round that ends with a model
pub round_model : (log : Checking) (v w : ℕ) (found : Option Found) → IfSome found (IsFound log log) →
    IfNone found (w < v) → EndsRound log log v w found
round_model log v w (Some found) is less = is
round_model log v w None is less = omega (arith, less)

-- a Core step takes one of the conflicts that are left
pub core_fewer : (s t : State) (lits : List Literal) (hints : List ℕ) → s.conflicts < s.budget →
    t ≡ after s (Core lits hints) → t.budget - t.conflicts < s.budget - s.conflicts
core_fewer s t lits hints left taken =
    let budget : t.budget ≡ s.budget = ap (λ (u : State). u.budget) taken in
    let conflicts : t.conflicts ≡ s.conflicts + 1 = ap (λ (u : State). u.conflicts) taken in
    omega (arith, left, budget, conflicts)

-- a fact that doesn't hang on the result
pub on_ok : {T E P : Type 0} (r : Result T E) → P → OnOk r P
on_ok (Ok x) p = p
on_ok (Err e) p = tt

-- where the search has taken the clauses of steps that were put
pub put_taken : {R T E : Type 0} (r : Result T E) (search : Searching R) (old new : Checking) →
    OnOk r (HasTaken search new) → new.refusal ≡ None → Puts old new → OnOk r (HasPut search old new)
put_taken (Ok x) search old new taken fresh puts = record {
  goes_on = record { working = taken.stays_fresh; fresh = fresh; same = taken.same };
  puts = puts;
}
put_taken (Err e) search old new taken fresh puts = tt

-- WHAT IS LEFT
pub leaves_none : (log : Checking) → Leaves log log
leaves_none log = leaves_all [] (derives_none log.checker) refl

pub leaves_put : (old new : Checking) → Puts old new → Leaves old new
leaves_put old new p = leaves_all p.steps p.leads p.logs

pub leaves_core : (old new : Checking) (lits : List Literal) (hints : List ℕ) →
    IsFormed (Core lits hints) → error_of old.accepts old.checker (Core lits hints) ≡ None →
    IsTakenOrAsleep old.checker (Core lits hints) new.checker →
    MayAddStep (Core lits hints) old.told.logs new.told.logs → Leaves old new
leaves_core old new lits hints formed allowed taken told =
    let next : State = after old.checker (Core lits hints) in
    leaves_last [] (Core lits hints) old.checker (derives_none old.checker)
    (derives_core old.checker next lits hints [] formed allowed (derives_none next))
    taken told

pub leaves_searches : {gives : Gives} {learnt : List ℕ} (old new : Checking) →
    LeavesSearched gives learnt old new → Leaves old new
leaves_searches old new left = leaves_weaker (λ steps t s. searches_derives s.1) left

pub leaves_on : (a b c : Checking) → Lasts a b → Puts a b → Leaves b c → Leaves a c
leaves_on a b c lasts p left =
    leaves_after p.steps c.checker a.told.logs b.told.logs c.told.logs p.logs
    (λ steps t d. derives_append p.leads t steps d)
    (subst (λ (j : Judge). LeavesSteps (Derives j b.checker) b.told.logs c.checker c.told.logs)
    lasts.judge_stays left)
