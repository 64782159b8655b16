-- What a search for all least sets finds.

use Rattle.std.specs.Prelude.{◌≡◌, ◌≤◌, true, None, Some, List, length, All, Contains, ◌↔◌}
use Rattle.ba_derivations.specs.Derivations.{Problem, Derives, start_of, verdict_of, blocked_by, sets_of}
use Rattle.ba_derivations.specs.Derivations as derived
use Rattle.ba_derivations.specs.Encodings.{HasModelFor}
use Rattle.ba_derivations.specs.declared.verdict.FoundSet.{FoundSet}
use Rattle.ba_derivations.specs.declared.verdict.Verdict.{Verdict}
use Rattle.ba_derivations.specs.declared.verdict.Verdict.TheVariants.{Located, NoRepair, TooMany, Spent}
use Rattle.ba_encode.specs.declared.encoded.Encoded.{Encoded}
use Rattle.ba_enum.specs.Problems.{problem_in}
use Rattle.ba_enum.specs.Leading.{AreNew, Puts}
use Rattle.ba_lits.specs.Satisfaction.{Assignment, all_true}
use Rattle.ba_steps.specs.Sinks.{Logs, with_step}
use Rattle.ba_steps.specs.Steps.{IsFormed}
use Rattle.ba_steps.specs.declared.step.CertStep.{CertStep}
use Rattle.ba_checker.specs.StepRules.{error_of, after, after_all}
use Rattle.ba_checker.specs.Puts.{Checking, with_steps}
use Rattle.ba_checker.specs.States.{State}
use Rattle.ba_tree.specs.Least.{AreInOrder}

-- the lists have the same sets with the same runs
abbrev pub HaveSame : List FoundSet → List FoundSet → Type 0
HaveSame xs ys = (b : FoundSet) → Contains xs b ↔ Contains ys b

-- STEPS SAY A VERDICT if they derive it. Its sets are those that they block, each with its run. They are in
-- order, and at most as many as may be listed, if they are all. They are in the order of blocking if they are
-- too many. There is no repair only if the formula has no model.
abbrev pub Says : Problem → List CertStep → Verdict → Type 0
Says p steps (Located weight sets) =
    Derives p steps (derived.Located weight (sets_of (blocked_by steps)))
    × HaveSame sets (blocked_by steps) × AreInOrder (sets_of sets) × (length sets ≤ p.most_sets)
Says p steps NoRepair =
    Derives p steps derived.NoRepair × ((v : Assignment) → all_true v p.formula.clauses ≡ true → ⊥)
Says p steps (TooMany weight sets) = Derives p steps (derived.TooMany weight (sets_of sets))
    × (sets ≡ blocked_by steps)
Says p steps Spent = Derives p steps derived.Spent

-- ALL LEAST SETS ARE SEARCHED FOR. Steps were put that lead from the start of the problem to the checker's
-- state, and say the verdict. Each clause that they learn is new to propagation when it is learnt. Each set
-- that they block is that of a model of the formula.
pub record Enumerates (p : Problem) (old_logs : Logs) (verdict : Verdict) (new : State)
    (new_logs : Logs) : Type 0 where
  pub steps : List CertStep
  pub logs : new_logs ≡ with_steps steps old_logs
  pub reaches : after_all p.good (start_of p) steps ≡ Some new
  pub news : AreNew (start_of p) steps
  pub models : All (HasModelFor p.formula p.softs) (sets_of (blocked_by steps))
  pub says : Says p steps verdict

-- THE END

-- the verdict is what an End step says in a state in which these sets are blocked
abbrev pub Fits : State → List FoundSet → Verdict → derived.Verdict → Type 0
Fits s found (Located weight sets) said =
    (said ≡ derived.Located weight (sets_of found)) × HaveSame sets found × AreInOrder (sets_of sets)
    × (length sets ≤ s.most_sets)
Fits s found NoRepair said = said ≡ derived.NoRepair
Fits s found (TooMany weight sets) said = (said ≡ derived.TooMany weight (sets_of sets)) × (sets ≡ found)
Fits s found Spent said = said ≡ derived.Spent

-- a formed and allowed End step was put, which says the verdict if these sets are blocked
pub record EndsWith (found : List FoundSet) (old new : Checking) (verdict : Verdict) : Type 0 where
  pub last : CertStep
  pub said : derived.Verdict
  pub formed : IsFormed last
  pub allowed : error_of old.accepts old.checker last ≡ None
  pub says : verdict_of old.checker last ≡ Some said
  pub fits : Fits old.checker found verdict said
  pub taken : new.checker ≡ after old.checker last
  pub told : new.told.logs ≡ with_step last old.told.logs

-- sets were blocked, and then such a step was put, under the same judge
pub record Finishes (encoded : Encoded) (old new : Checking) (verdict : Verdict) : Type 0 where
  pub found : List FoundSet
  pub between : Checking
  pub judge_stays : between.accepts ≡ old.accepts
  pub puts : Puts encoded found old between
  pub ends : EndsWith found between new verdict

-- all least sets over an encoding were searched for, by the steps of a log
abbrev pub EnumeratesIn : Encoded → Checking → Checking → Verdict → Type 0
EnumeratesIn encoded old new verdict = Enumerates (problem_in encoded old.accepts old.checker) old.told.logs
    verdict
    new.checker new.told.logs
