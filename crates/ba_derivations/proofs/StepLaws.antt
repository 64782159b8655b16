-- What stays, and what is counted, along allowed steps.
use Rattle.std.proofs.Common.{◌≡◌, ◌+◌, not, None, Some, List, [], ◌∷◌, ◌++◌, All, refl, sym, ap, ◌∙◌, arith, ◌==◌}
use Rattle.std.proofs.lemmas.List.{append_assoc, append-nil}
use Rattle.std.proofs.lemmas.List.Elements.{All-nil, All-cons, All-head, All-tail}
use Rattle.std.proofs.lemmas.Option.{same_Some}
use Rattle.std.proofs.lemmas.Bool.{not-false}
use Rattle.ba_steps.specs.Steps.{IsFormed}
use Rattle.ba_steps.specs.declared.step.CertStep.{CertStep}
use Rattle.ba_steps.specs.declared.step.CertStep.TheVariants.{Learn, Core, Delete, Block, EndLocated, EndNoRepair, EndTooMany, EndSpent}
use Rattle.ba_steps.specs.declared.step.StepError.TheVariants.{AfterEnd, BadVariable, Memory, RunNotGood, SetTwice, WrongWeight}
use Rattle.ba_checker.specs.Blocks.{lacks_group, is_among, set_weight}
use Rattle.ba_choices.specs.Judges.{Judge}
use Rattle.ba_checker.specs.StepRules.{error_if, error_of, error_before_end, after, after_all}
use Rattle.ba_checker.specs.States.{State}
use Rattle.ba_checker.proofs.FactLaws.{allowed, no_error}
use Rattle.ba_derivations.specs.declared.verdict.FoundSet.{FoundSet}
use Rattle.ba_derivations.specs.Derivations.{IsGood, blocked_by, conflict_of, conflicts_in, sets_of, with_block}

-- the first steps of formed ones are formed
pub front_formed : (front rest : List CertStep) → All IsFormed (front ++ rest) → All IsFormed front
front_formed [] rest all = All-nil IsFormed
front_formed (step ∷ steps) rest all =
    All-cons IsFormed step steps (All-head IsFormed step (steps ++ rest) all)
    (front_formed steps rest (All-tail IsFormed step (steps ++ rest) all))

-- an allowed step has no error before the end
pub before_end : (good : Judge) (s : State) (step : CertStep) → error_of good s step ≡ None →
    error_before_end good s step ≡ None
before_end good s step none =
    let first = no_error s.refused Memory (error_if s.ended AfterEnd (error_before_end good s step)) none in
    (no_error s.ended AfterEnd (error_before_end good s step) first.1).1

-- THE LIMITS stay
pub record SameLimits (s t : State) : Type 0 where
  pub budget : t.budget ≡ s.budget
  pub most_sets : t.most_sets ≡ s.most_sets

step_limits : (s : State) (step : CertStep) → SameLimits s (after s step)
step_limits s (Learn lits hints) = record { budget = refl; most_sets = refl }
step_limits s (Core lits hints) = record { budget = refl; most_sets = refl }
step_limits s (Delete clauses) = record { budget = refl; most_sets = refl }
step_limits s (Block groups run) = record { budget = refl; most_sets = refl }
step_limits s (EndLocated lits hints) = record { budget = refl; most_sets = refl }
step_limits s (EndNoRepair hints) = record { budget = refl; most_sets = refl }
step_limits s EndTooMany = record { budget = refl; most_sets = refl }
step_limits s EndSpent = record { budget = refl; most_sets = refl }

pub limits_stay : (good : Judge) (s : State) (steps : List CertStep) (t : State) →
    after_all good s steps ≡ Some t →
    SameLimits s t
limits_stay good s [] t is =
    record {
      budget = sym (ap (λ (x : State). x.budget) (same_Some s t is));
      most_sets = sym (ap (λ (x :
          State). x.most_sets) (same_Some s t is));
    }
limits_stay good s (step ∷ steps) t is =
    let one = step_limits s step in
    let rest = limits_stay good (after s step) steps t
    ((allowed (error_of good s step) (after_all good (after s step) steps) t is).1) in
    record { budget = rest.budget ∙ one.budget; most_sets = rest.most_sets ∙ one.most_sets }

-- CONFLICTS are counted
step_conflicts : (s : State) (step : CertStep) → (after s step).conflicts ≡ s.conflicts + conflict_of step
step_conflicts s (Learn lits hints) = refl
step_conflicts s (Core lits hints) = refl
step_conflicts s (Delete clauses) = omega arith
step_conflicts s (Block groups run) = omega arith
step_conflicts s (EndLocated lits hints) = omega arith
step_conflicts s (EndNoRepair hints) = omega arith
step_conflicts s EndTooMany = omega arith
step_conflicts s EndSpent = omega arith

pub conflicts_counted : (good : Judge) (s : State) (steps : List CertStep) (t : State) →
    after_all good s steps ≡ Some t →
    t.conflicts ≡ s.conflicts + conflicts_in steps
conflicts_counted good s [] t is =
    let same : s.conflicts ≡ t.conflicts = ap (λ (x : State). x.conflicts) (same_Some s t is) in omega
    (arith, same)
conflicts_counted good s (step ∷ steps) t is =
    let one = step_conflicts s step in
    let rest = conflicts_counted good (after s step) steps t
    ((allowed (error_of good s step) (after_all good (after s step) steps) t is).1) in
    omega (arith, one, rest)

pub conflicts_append : (xs ys : List CertStep) → conflicts_in (xs ++ ys) ≡ conflicts_in xs + conflicts_in ys
conflicts_append [] ys = omega arith
conflicts_append (x ∷ xs) ys = let rest = conflicts_append xs ys in omega (arith, rest)

-- BLOCKED SETS are gathered
step_sets : (s : State) (step : CertStep) → (after s step).sets ≡ s.sets ++ sets_of (with_block step [])
step_sets s (Learn lits hints) = sym (append-nil s.sets)
step_sets s (Core lits hints) = sym (append-nil s.sets)
step_sets s (Delete clauses) = sym (append-nil s.sets)
step_sets s (Block groups run) = refl
step_sets s (EndLocated lits hints) = sym (append-nil s.sets)
step_sets s (EndNoRepair hints) = sym (append-nil s.sets)
step_sets s EndTooMany = sym (append-nil s.sets)
step_sets s EndSpent = sym (append-nil s.sets)

with_block_is : (step : CertStep) (rest : List FoundSet) → with_block step rest ≡ with_block step [] ++ rest
with_block_is (Learn lits hints) rest = refl
with_block_is (Core lits hints) rest = refl
with_block_is (Delete clauses) rest = refl
with_block_is (Block groups run) rest = refl
with_block_is (EndLocated lits hints) rest = refl
with_block_is (EndNoRepair hints) rest = refl
with_block_is EndTooMany rest = refl
with_block_is EndSpent rest = refl

pub sets_append : (xs ys : List FoundSet) → sets_of (xs ++ ys) ≡ sets_of xs ++ sets_of ys
sets_append [] ys = refl
sets_append (x ∷ xs) ys = ap (λ zs. x.groups ∷ zs) (sets_append xs ys)

pub blocked_append : (xs ys : List CertStep) → blocked_by (xs ++ ys) ≡ blocked_by xs ++ blocked_by ys
blocked_append [] ys = refl
blocked_append (x ∷ xs) ys =
    ap (with_block x) (blocked_append xs ys)
    ∙ (with_block_is x (blocked_by xs ++ blocked_by ys)
    ∙ (sym (append_assoc (with_block x []) (blocked_by xs) (blocked_by ys))
    ∙ ap (λ zs. zs ++ blocked_by ys) (sym (with_block_is x (blocked_by xs)))))

pub sets_gathered : (good : Judge) (s : State) (steps : List CertStep) (t : State) →
    after_all good s steps ≡ Some t →
    t.sets ≡ s.sets ++ sets_of (blocked_by steps)
sets_gathered good s [] t is = sym (ap (λ (x : State). x.sets) (same_Some s t is)) ∙ sym (append-nil s.sets)
sets_gathered good s (step ∷ steps) t is =
    let rest = sets_gathered good (after s step) steps t
    ((allowed (error_of good s step) (after_all good (after s step) steps) t is).1) in
    rest ∙ (ap (λ sets. sets ++ sets_of (blocked_by steps)) (step_sets s step)
    ∙ (append_assoc s.sets (sets_of (with_block step [])) (sets_of (blocked_by steps))
    ∙ ap (λ sets. s.sets ++ sets) (sym (ap sets_of (with_block_is step (blocked_by steps))
    ∙ sets_append (with_block step []) (blocked_by steps)))))

-- THEIR RUNS are good
step_good : (good : Judge) (s : State) (step : CertStep) (rest : List FoundSet) →
    error_before_end good s step ≡ None →
    All (IsGood good) rest → All (IsGood good) (with_block step rest)
step_good good s (Learn lits hints) rest none all = all
step_good good s (Core lits hints) rest none all = all
step_good good s (Delete clauses) rest none all = all
step_good good s (Block groups run) rest none all =
    let weigh = error_if (not (good groups run)) RunNotGood None in
    let twice = error_if (not (set_weight s.groups groups == s.bound)) WrongWeight weigh in
    let first = no_error (lacks_group s.groups groups) BadVariable (error_if (is_among s.sets groups)
    SetTwice twice) none in
    let second = no_error (is_among s.sets groups) SetTwice twice first.1 in
    let third = no_error (not (set_weight s.groups groups == s.bound)) WrongWeight weigh second.1 in
    let fourth = no_error (not (good groups run)) RunNotGood None third.1 in
    All-cons (IsGood good) (record { groups = groups; run = run }) rest (not-false (good groups run) fourth.0)
    all
step_good good s (EndLocated lits hints) rest none all = all
step_good good s (EndNoRepair hints) rest none all = all
step_good good s EndTooMany rest none all = all
step_good good s EndSpent rest none all = all

pub runs_good : (good : Judge) (s : State) (steps : List CertStep) (t : State) →
    after_all good s steps ≡ Some t →
    All (IsGood good) (blocked_by steps)
runs_good good s [] t is = All-nil (IsGood good)
runs_good good s (step ∷ steps) t is =
    let parts = allowed (error_of good s step) (after_all good (after s step) steps) t is in
    step_good good s step (blocked_by steps) (before_end good s step parts.0)
    (runs_good good (after s step) steps t parts.1)
