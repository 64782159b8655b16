-- From the first model to the verdict.

use Rattle.std.proofs.Common.{◌≡◌, ℕ, Option, None, Some, Result, Ok, Err, List, [], nat_eq, refl, sym, ap, ◌∙◌, subst}
use Rattle.std.specs.Cmp.Lexicographic.{pointwise}
use Rattle.std.specs.List.{IsDistinct}
use Rattle.std.proofs.lemmas.List.Elements.{All-nil}
use Rattle.ba_cores.specs.Derivations as cores
use Rattle.ba_cores.specs.Findings.{IsFound}
use Rattle.ba_cores.specs.declared.costs.Found.{Found}
use Rattle.ba_cores.specs.declared.costs.Found.TheVariants.{Least}
use Rattle.ba_derivations.specs.Derivations.{start_of, sets_of}
use Rattle.ba_derivations.specs.declared.verdict.FoundSet.{FoundSet}
use Rattle.ba_derivations.specs.declared.verdict.Verdict.{Verdict}
use Rattle.ba_enum.specs.Enumerating.{EndsWith, EnumeratesIn, Finishes}
use Rattle.ba_encode.specs.declared.encoded.Encoded.{Encoded}
use Rattle.ba_enum.specs.Leading.{AddsSets, HasFound, HasReached, IsNextModel, IsReached, Puts}
use Rattle.ba_enum.specs.Problems.{IsFresh, problem_in}
use Rattle.ba_encode.specs.Softs.{softs_of}
use Rattle.ba_enum.proofs.LeadLaws.{reached_start, reached_on, reached_facts, reached_sets, puts_on}
use Rattle.ba_enum.proofs.NextLaws.{next_of_least}
use Rattle.ba_enum.proofs.VerdictLaws.{enumerates}
use Rattle.ba_lits.specs.declared.assignment.Model.{Model}
use Rattle.ba_search.specs.Searching.{Searching}
use Rattle.ba_search.specs.declared.search.SearchError.{SearchError}
use Rattle.ba_steps.specs.Steps.{IsFormed}
use Rattle.ba_checker.specs.Facts.{IsStart}
use Rattle.ba_choices.specs.Judges.{Judge}
use Rattle.ba_checker.specs.Puts.{Checking}
use Rattle.ba_checker.specs.States.{State, first_state}
use Rattle.ba_checker.proofs.FactLaws.{distinct_none}

-- the found sets are blocked and differ
pub reached_found : (encoded : Encoded) (log : Checking) (found : List FoundSet) → HasReached encoded log
    found →
    HasFound log found
reached_found encoded log found reached =
    let facts = reached_facts log.accepts encoded.formula (softs_of encoded.groups) log.checker found reached
    in
    let are = reached_sets reached in
    record { sets = are; differ = subst (IsDistinct (pointwise nat_eq)) are facts.sets_differ }

pub none_found : (log : Checking) (found : List FoundSet) → log.checker.sets ≡ [] → found ≡ [] →
    HasFound log found
none_found log found none is = record {
  sets = none ∙ ap sets_of (sym is);
  differ = subst (λ (fs : List FoundSet). IsDistinct (pointwise nat_eq) (sets_of fs)) (sym is) distinct_none;
}

-- the end after sets that were added
pub finishes_of : (encoded : Encoded) (old mid new : Checking) (found : List FoundSet) (verdict : Verdict) →
    mid.accepts ≡ old.accepts → AddsSets encoded old mid [] found → EndsWith found mid new verdict →
    Finishes encoded old new verdict
finishes_of encoded old mid new found verdict judge adds ends = record {
  found = found;
  between = mid;
  judge_stays = judge;
  puts = subst (λ (fs : List FoundSet). Puts encoded fs old mid) (sym adds.found) adds.puts;
  ends = ends;
}

-- the whole: the search for the least cost, further sets, and the end
pub enumerates_on : (encoded : Encoded) (start mid end : Checking) (verdict : Verdict) →
    IsStart encoded.formula (softs_of encoded.groups) → mid.accepts ≡ start.accepts →
    start.checker ≡ start_of (problem_in encoded start.accepts start.checker) →
    Puts encoded [] start mid → Finishes encoded mid end verdict → EnumeratesIn encoded start end verdict
enumerates_on encoded start mid end verdict clauses judge first puts f =
    enumerates encoded start f.between end f.found verdict clauses first (f.judge_stays ∙ judge)
    (puts_on encoded start mid f.between [] f.found judge puts f.puts) f.ends

-- the search for the least cost, and the end
pub enumerates_end : (encoded : Encoded) (start mid end : Checking) (found : List FoundSet) (verdict :
    Verdict) →
    IsStart encoded.formula (softs_of encoded.groups) → mid.accepts ≡ start.accepts →
    start.checker ≡ start_of (problem_in encoded start.accepts start.checker) →
    Puts encoded [] start mid → found ≡ [] → EndsWith found mid end verdict →
    EnumeratesIn encoded start end verdict
enumerates_end encoded start mid end found verdict clauses judge first puts none ends =
    enumerates encoded start mid end found verdict clauses first judge
    (subst (λ (fs : List FoundSet). Puts encoded fs start mid) (sym none) puts) ends

-- THE START
module _ {R : Type 0} {encoded : Encoded} {sets : ℕ} {search : Searching R} {log : Checking}
    (fresh : IsFresh encoded sets search log) where
  pub fresh_sets : log.checker.most_sets ≡ sets
  fresh_sets = ap (λ (s : State). s.most_sets) fresh.starts

  pub fresh_start : (good : Judge) → log.checker ≡ start_of (problem_in encoded good log.checker)
  fresh_start good =
      fresh.starts
      ∙ ap (first_state encoded.formula (softs_of encoded.groups) log.checker.budget) (sym fresh_sets)

-- THE SEARCH FOR THE LEAST COST
pub was_working : {X : Type 0} (failure : Option SearchError) (result : Result X SearchError) (x : X) →
    result ≡ Ok x →
    ((error : SearchError) → failure ≡ Some error → result ≡ Err error) → failure ≡ None
was_working None result x is again = refl
was_working (Some error) result x is again =
    let failed = again error refl in
    let both : Ok x ≡ Err error = sym is ∙ failed in
    absurd (cc both)

pub cores_reached : (good : Judge) (encoded : Encoded) (start : State) →
    IsStart encoded.formula (softs_of encoded.groups) → start ≡ start_of (problem_in encoded good start) →
    cores.IsReached good encoded.formula (softs_of encoded.groups) start
cores_reached good encoded start clauses first = record {
  start = clauses;
  conflicts = start.budget;
  sets = start.most_sets;
  steps = [];
  formed = All-nil IsFormed;
  reached = ap Some (sym first);
}

pub least_reached : (encoded : Encoded) (start mid : Checking) → mid.accepts ≡ start.accepts →
    IsStart encoded.formula (softs_of encoded.groups) →
    start.checker ≡ start_of (problem_in encoded start.accepts start.checker) → Puts encoded [] start mid →
    HasReached encoded mid []
least_reached encoded start mid judge clauses first puts =
    let s = start.checker in
    subst (λ (j : Judge). IsReached j encoded.formula (softs_of encoded.groups) mid.checker []) (sym judge)
    (reached_on (reached_start start.accepts encoded.formula (softs_of encoded.groups) s s.budget s.most_sets
    clauses first) mid.checker puts.steps [] puts.leads)

pub least_next : (encoded : Encoded) (start mid : Checking) (found : Found) (weight : ℕ) (model : Model) →
    IsStart encoded.formula (softs_of encoded.groups) →
    start.checker ≡ start_of (problem_in encoded start.accepts start.checker) →
    found ≡ Least weight model → IsFound start mid found → mid.checker.sets ≡ [] →
    IsNextModel encoded mid model.values
least_next encoded start mid found weight model clauses first is found_is none =
    let (bound, all, least) = subst (IsFound start mid) is found_is in
    next_of_least encoded.formula (softs_of encoded.groups) mid.checker weight model.values bound all
    (least encoded.formula (softs_of encoded.groups)
    (cores_reached start.accepts encoded start.checker clauses first)) none
