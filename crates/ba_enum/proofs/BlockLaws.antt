-- Blocking the set of a model is an allowed step.

use Rattle.std.proofs.Common.{◌≡◌, ℕ, ◌<◌, ◌≤◌, ◌==◌, Bool, true, false, not, None, List, [], ◌∷◌, ◌++◌, length, refl, sym, ap, ◌∙◌, subst, arith}
use Rattle.std.proofs.lemmas.Bool.Decides.{nat_tests}
use Rattle.std.proofs.lemmas.List.Elements.{All-nil, All-cons}
use Rattle.std.specs.List.{list_all}
use Rattle.ba_choices.specs.declared.Choice.{Choice}
use Rattle.ba_derivations.specs.Encodings.{HasModelFor, false_groups}
use Rattle.ba_derivations.specs.declared.verdict.FoundSet.{FoundSet}
use Rattle.ba_derivations.proofs.GroupLaws.{cost_is}
use Rattle.ba_encode.specs.Readings.{choices_read, is_in_range}
use Rattle.ba_encode.specs.declared.encoded.Encoded.{Encoded}
use Rattle.ba_enum.specs.Leading.{HasReached, IsNext, IsNextModel, IsRead, IsReached, IsReady, Puts}
use Rattle.ba_enum.specs.Problems.{IsReadable}
use Rattle.ba_encode.specs.Softs.{softs_of}
use Rattle.ba_enum.proofs.GroupLaws.{groups_ascend, some_groups, groups_exist, not_among}
use Rattle.ba_enum.proofs.LeadLaws.{reached_groups, reached_wide, one_after}
use Rattle.ba_enum.proofs.RangeLaws.{formed_choices}
use Rattle.ba_lits.specs.Satisfaction.{Assignment, Soft, assignment_of}
use Rattle.ba_steps.specs.Sinks.{with_step}
use Rattle.ba_steps.specs.Steps.{AreAbove, IsFormed}
use Rattle.ba_steps.specs.declared.step.CertStep.TheVariants.{Block}
use Rattle.ba_steps.specs.declared.step.StepError.TheVariants.{AfterEnd, Memory, BadVariable, SetTwice, WrongWeight, RunNotGood}
use Rattle.ba_checker.specs.Blocks.{lacks_group, is_among, set_weight}
use Rattle.ba_checker.specs.Puts.{Checking}
use Rattle.ba_choices.specs.Judges.{Judge}
use Rattle.ba_checker.specs.StepRules.{error_if, error_of, after}
use Rattle.ba_checker.specs.States.{State}

pub read_same : (encoded : Encoded) (values : List Bool) (groups : List ℕ) (run : List Choice)
    (set : FoundSet) →
    IsRead encoded values set → groups ≡ set.groups → run ≡ set.run →
    IsRead encoded values (record { groups = groups; run = run })
read_same encoded values groups run set read first second = record {
  groups = first ∙ read.groups;
  run = second ∙ read.run;
  in_range = let P : List Choice → Type 0 = λ cs. list_all is_in_range cs ≡ true in
      subst P (sym second) read.in_range;
}

pub found_same : (old new : List FoundSet) (groups : List ℕ) (run : List Choice) (set : FoundSet) →
    groups ≡ set.groups → run ≡ set.run → new ≡ old ++ set ∷ [] →
    new ≡ old ++ record { groups = groups; run = run } ∷ []
found_same old new groups run set first second pushed =
    let same : record { groups = groups; run = run } ≡ set =
    λ i. record { groups = first i; run = second i } in
    pushed ∙ ap (λ (b : FoundSet). old ++ b ∷ []) (sym same)

pub long_enough : (encoded : Encoded) (log : Checking) (values : List Bool) (found : List FoundSet) →
    HasReached encoded log found → IsNextModel encoded log values →
    encoded.formula.variables ≤ length values
long_enough encoded log values found reached next =
    let wide = reached_wide reached in
    let all = next.all in
    omega (arith, wide, all)

-- THE STEP IS FORMED
pub block_formed : (good : Judge) (encoded : Encoded) (s : State) (values : List Bool) (set : FoundSet) →
    IsReadable encoded good → IsNext encoded.formula (softs_of encoded.groups) s values →
    IsRead encoded values set →
    IsFormed (Block set.groups set.run)
block_formed good encoded s values set readable next read = (
  let P : List ℕ → Type 0 = AreAbove 0 in
      subst P (sym read.groups) (groups_ascend (assignment_of values) (softs_of encoded.groups)),
  let P : List ℕ → Type 0 = λ groups. 0 < length groups in
      subst P (sym read.groups)
      (some_groups (false_groups (assignment_of values) (softs_of encoded.groups))
      (readable.some (assignment_of values) next.satisfies)),
  formed_choices set.run read.in_range,
)

-- THE STEP IS ALLOWED
no_error : (refused ended lacks twice weighs run : Bool) → refused ≡ false → ended ≡ false → lacks ≡ false →
    twice ≡ false → weighs ≡ true → run ≡ true →
    error_if refused Memory (error_if ended AfterEnd (error_if lacks BadVariable (error_if twice SetTwice
    (error_if (not weighs) WrongWeight (error_if (not run) RunNotGood None))))) ≡ None
no_error refused ended lacks twice weighs run e f g h i j = rw (e, f, g, h, i, j) refl

allowed_set : (good : Judge) (encoded : Encoded) (s : State) (values : List Bool) (found : List FoundSet) →
    IsReadable encoded good → IsReached good encoded.formula (softs_of encoded.groups) s found →
    IsNext encoded.formula (softs_of encoded.groups) s values → IsReady s →
    error_of good s (Block (false_groups (assignment_of values) (softs_of encoded.groups))
    (choices_read (assignment_of values) encoded.places)) ≡ None
allowed_set good encoded s values found readable reached next ready =
    no_error s.refused s.ended (lacks_group s.groups set) (is_among s.sets set)
    (set_weight s.groups set == s.bound) (good set run)
    ready.awake ready.begun
    (ap (λ gs. lacks_group gs set) groups ∙ groups_exist v softs)
    (not_among v softs s.sets next.unblocked)
    (same (set_weight s.groups set) s.bound (ap (λ gs. set_weight gs set) groups
    ∙ (cost_is v softs ∙ next.costs)))
    (readable.good_run v next.satisfies)
  where
    v : Assignment
    v = assignment_of values

    softs : List Soft
    softs = softs_of encoded.groups

    set : List ℕ
    set = false_groups v softs

    run : List Choice
    run = choices_read v encoded.places

    groups : s.groups ≡ softs
    groups = reached_groups reached

    same : (a b : ℕ) → a ≡ b → (a == b) ≡ true
    same a b e = grind (arith, nat_tests)

pub block_allowed : (encoded : Encoded) (log : Checking) (values : List Bool) (found : List FoundSet)
    (set : FoundSet) →
    IsReadable encoded log.accepts → HasReached encoded log found → IsNextModel encoded log values →
    IsReady log.checker → IsRead encoded values set →
    error_of log.accepts log.checker (Block set.groups set.run) ≡ None
block_allowed encoded log values found set readable reached next ready read =
    let P : List ℕ → Type 0 = λ groups. error_of log.accepts log.checker (Block groups set.run) ≡ None in
    let Q : List Choice → Type 0 = λ run. error_of log.accepts log.checker
    (Block (false_groups (assignment_of values) (softs_of encoded.groups)) run) ≡ None in
    subst P (sym read.groups) (subst Q (sym read.run)
    (allowed_set log.accepts encoded log.checker values found readable reached next ready))

-- SO IT LEADS ON
pub block_puts : (encoded : Encoded) (old new : Checking) (values : List Bool) (found : List FoundSet)
    (set : FoundSet) →
    IsReadable encoded old.accepts → HasReached encoded old found → IsNextModel encoded old values →
    IsReady old.checker → IsRead encoded values set →
    new.checker ≡ after old.checker (Block set.groups set.run) →
    new.told.logs ≡ with_step (Block set.groups set.run) old.told.logs → Puts encoded (set ∷ []) old new
block_puts encoded old new values found set readable reached next ready read taken told = record {
  steps = Block set.groups set.run ∷ [];
  leads = record {
    formed = All-cons IsFormed (Block set.groups set.run) []
        (block_formed old.accepts encoded old.checker values set readable next read) (All-nil IsFormed);
    reaches = one_after old.accepts old.checker new.checker (Block set.groups set.run)
        (block_allowed encoded old values found set readable reached next ready read) taken;
    news = (tt, tt);
    blocks = refl;
    models = All-cons (HasModelFor encoded.formula (softs_of encoded.groups)) set.groups [] model
        (All-nil (HasModelFor encoded.formula (softs_of encoded.groups)));
  };
  logs = told;
}
  where
    model : HasModelFor encoded.formula (softs_of encoded.groups) set.groups
    model = record {
      assignment = assignment_of values;
      is_model = record { satisfies = next.satisfies; groups_are = sym read.groups };
    }
