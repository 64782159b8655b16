-- The words of runs: of one, and of several behind one another.
use Rattle.std.proofs.Common.{◌≡◌, zero, suc, pos, true, cond, List, [], ◌∷◌, ◌++◌, map, length, refl, sym, ◌∙◌, ap, ap₂, subst, arith, append_assoc}
use Rattle.std.proofs.lemmas.Bool.{and_from, and_parts, false≢true}
use Rattle.std.proofs.lemmas.List.{map-append}
use Rattle.std.specs.Prelude.{Contains}
use Rattle.ba_all.proofs.Cutting.{alone-good, cut-of, parts_of}
use Rattle.ba_all.specs.Cuts.{RunTest, all_good, can_be_cut}
use Rattle.ba_choices.specs.declared.Choice.{Choice}
use Rattle.ba_code.specs.declared.trees.BoundTree.{BoundTree}
use Rattle.ba_code_laws.specs.Tracing.{Relaxes}
use Rattle.ba_code_laws.specs.Visits.{are_kept, chosen}
use Rattle.ba_formula.specs.Words.{HasOutcomesOf, HasRuns, good_on, good_on_all}
use Rattle.ba_guards.specs.Contract.{Chosen, IsGuarded}
use Rattle.ba_tree.specs.Choices.{admits}
use Rattle.ba_tree.specs.Run.{fits, is_done, run_of}
use Rattle.ba_tree.specs.declared.run.Allowed.{Allowed}
use Rattle.ba_tree.specs.declared.run.Bounds.{Bounds}
use Rattle.ba_tree.specs.declared.run.Input.{Input}
use Rattle.ba_tree.specs.declared.run.Outcome.{Outcome}
use Rattle.ba_tree.specs.declared.run.Outcome.TheVariants.{Done, AssertFails, Trap, Beyond, WrongChoices}
use Rattle.ba_tree.specs.declared.tree.Program.{Program}
use Rattle.ba_wordlist.proofs.Choices.{chosen-append, chosen-none, kept-append, kept-none, visits-none}
use Rattle.ba_wordlist.proofs.Joined.{law-holds, law-visits, pair-holds, pair-visits}
use Rattle.ba_wordlist.specs.Joining.{IsJoined, behind, joined_at}
use Rattle.ba_wordlist.specs.Meaning.{Assignment, are_met, holds, values_of, visits_in, visits_of}
use Rattle.ba_wordlist.specs.declared.words.WordList.{WordList}

-- TESTS OF RUNS, one more behind the others

good-behind : (tests : List RunTest) (good : RunTest) (first second : List Choice)
    → all_good tests first ≡ true → good second ≡ true
    → all_good (tests ++ good ∷ []) (first ++ second) ≡ true
good-behind [] good [] second h k = alone-good good second ∙ k
good-behind [] good (c ∷ first) second h k = absurd (false≢true h)
good-behind (test ∷ tests) good first second h k =
    let parts = parts_of test (all_good tests) first h in
    subst (λ cs. can_be_cut test (all_good (tests ++ good ∷ [])) cs ≡ true)
    (sym (append_assoc parts.first parts.second second) ∙ ap (λ cs. cs ++ second) parts.joined)
    (cut-of test (all_good (tests ++ good ∷ [])) parts.first (parts.second ++ second) parts.first_good
    (good-behind tests good parts.second second parts.second_good k))

push-cut : (tests : List RunTest) (good : RunTest) (choices : List Choice)
    → can_be_cut (all_good tests) good choices ≡ true → all_good (tests ++ good ∷ []) choices ≡ true
push-cut tests good choices h =
    let parts = parts_of (all_good tests) good choices h in
    subst (λ cs. all_good (tests ++ good ∷ []) cs ≡ true) parts.joined
    (good-behind tests good parts.first parts.second parts.first_good parts.second_good)

cut-push : (tests : List RunTest) (good : RunTest) (choices : List Choice)
    → all_good (tests ++ good ∷ []) choices ≡ true → can_be_cut (all_good tests) good choices ≡ true
cut-push [] good choices h = cut-of (all_good []) good [] choices refl (sym (alone-good good choices) ∙ h)
cut-push (test ∷ tests) good choices h =
    let parts = parts_of test (all_good (tests ++ good ∷ [])) choices h in
    let rest = parts_of (all_good tests) good parts.second
    (cut-push tests good parts.second parts.second_good) in
    subst (λ cs. can_be_cut (all_good (test ∷ tests)) good cs ≡ true)
    (append_assoc parts.first rest.first rest.second ∙ ap (λ cs. parts.first ++ cs) rest.joined
    ∙ parts.joined)
    (cut-of (all_good (test ∷ tests)) good (parts.first ++ rest.first) rest.second
    (cut-of test (all_good tests) parts.first rest.first parts.first_good rest.first_good) rest.second_good)

-- no choices are good for all only where they are for each
pub good-without : (test : Input → RunTest) (inputs : List Input) → all_good (map test inputs) [] ≡ true
    → (input : Input) → Contains inputs input → test input [] ≡ true
good-without test [] h input (k, few, at) = absurd (let no : ⊥ = omega (arith, few) in no)
good-without test (i ∷ inputs) h input (zero, few, at) =
    subst (λ (i : Input). test i [] ≡ true) at (and_parts (test i []) (all_good (map test inputs) []) h).0
good-without test (i ∷ inputs) h input (suc k, few, at) =
    good-without test inputs (and_parts (test i []) (all_good (map test inputs) []) h).1 input
    (k, omega (arith, few), at)

-- WORDS OF ONE RUN

pub done-is : (o : Outcome) → is_done o ≡ true → o ≡ Done
done-is Done is = refl
done-is (AssertFails stmt) is = absurd (subst (λ t. cond t ⊥ Unit) is tt)
done-is (Trap stmt) is = absurd (subst (λ t. cond t ⊥ Unit) is tt)
done-is (Beyond stmt) is = absurd (subst (λ t. cond t ⊥ Unit) is tt)
done-is WrongChoices is = absurd (subst (λ t. cond t ⊥ Unit) is tt)

pub one-run : (p : Program) (input : Input) (b : Bounds) → fits p input ≡ true
    → (tree : BoundTree) → HasOutcomesOf p b tree → (list : WordList) → IsGuarded tree input list
    → HasRuns p (good_on p input b) list
one-run p input b fit tree same list guards = record {
  spelled = λ allowed f kept met.
      let choices = chosen (admits p allowed) (visits_of f list) in
      ap is_done (sym (same input allowed choices fit) ∙ (guards.exactly 0 (admits p allowed) f kept).0 met);
  each = λ allowed choices good. guards.each 0 (admits p allowed) choices
      (same input allowed choices fit ∙ done-is (run_of p input b allowed choices) good);
}

-- WORDS OF SEVERAL RUNS

no-choice : (choices : List Choice) → all_good [] choices ≡ true → [] ≡ choices
no-choice [] h = refl
no-choice (c ∷ cs) h = absurd (false≢true h)

-- of none
pub no-runs : (p : Program) (b : Bounds) (list : WordList) → list.require ≡ [] → list.places ≡ []
    → HasRuns p (good_on_all p [] b) list
no-runs p b list require places = record {
  spelled = λ allowed f kept met.
      ap (all_good []) (ap (chosen (admits p allowed)) (none f) ∙ chosen-none (admits p allowed));
  each = λ allowed choices good. record {
    by = zeros;
    holds = ap (are_met (values_of zeros list.words)) require;
    kept = ap (are_kept (admits p allowed)) (none zeros) ∙ kept-none (admits p allowed);
    spells = ap (chosen (admits p allowed)) (none zeros) ∙ chosen-none (admits p allowed)
        ∙ no-choice choices good;
  };
}
  where
    zeros : Assignment
    zeros k = pos 0

    none : (f : Assignment) → visits_of f list ≡ []
    none f = ap (visits_in (values_of f list.words)) places ∙ visits-none (values_of f list.words)

-- of those of two lists
module _ (p : Program) (good others : Allowed → RunTest) (first second joined : WordList)
    (has : HasRuns p good first) (more : HasRuns p others second) (j : IsJoined first second joined)
    (allowed : Allowed) where
  abbrev r : Relaxes
  r = admits p allowed

  both-spelled : (f : Assignment) → are_kept r (visits_of f joined) ≡ true → holds f joined ≡ true
      → can_be_cut (good allowed) (others allowed) (chosen r (visits_of f joined)) ≡ true
  both-spelled f kept met =
      let g : Assignment = behind (length first.words) f in
      let vs = visits_of f first in
      let ws = visits_of g second in
      let visits : visits_of f joined ≡ vs ++ ws = law-visits first second joined f j in
      let keep = and_parts (are_kept r vs) (are_kept r ws)
      (sym (ap (are_kept r) visits ∙ kept-append r vs ws) ∙ kept) in
      let hold = and_parts (holds f first) (holds g second)
      (sym (law-holds first second joined f j) ∙ met) in
      subst (λ cs. can_be_cut (good allowed) (others allowed) cs ≡ true)
      (sym (ap (chosen r) visits ∙ chosen-append r vs ws))
      (cut-of (good allowed) (others allowed) (chosen r vs) (chosen r ws)
      (has.spelled allowed f keep.0 hold.0) (more.spelled allowed g keep.1 hold.1))

  both-each : (choices : List Choice) → can_be_cut (good allowed) (others allowed) choices ≡ true
      → Chosen joined r choices
  both-each choices h =
      let parts = parts_of (good allowed) (others allowed) choices h in
      let a : Chosen first r parts.first = has.each allowed parts.first parts.first_good in
      let b : Chosen second r parts.second = more.each allowed parts.second parts.second_good in
      let vs = visits_of a.by first in
      let ws = visits_of b.by second in
      let visits = pair-visits first second joined a.by b.by j in
      record {
        by = joined_at (length first.words) a.by b.by;
        holds = pair-holds first second joined a.by b.by j
            ∙ and_from (holds a.by first) (holds b.by second) a.holds b.holds;
        kept = ap (are_kept r) visits ∙ kept-append r vs ws
            ∙ and_from (are_kept r vs) (are_kept r ws) a.kept b.kept;
        spells = ap (chosen r) visits ∙ chosen-append r vs ws
            ∙ ap₂ (λ (xs ys : List Choice). xs ++ ys) a.spells b.spells ∙ parts.joined;
      }

abbrev test-on : Program → Bounds → Allowed → Input → RunTest
test-on p b allowed input = good_on p input b allowed

-- and of one run behind those before
pub more-runs : (p : Program) (b : Bounds) (inputs : List Input) (input : Input)
    (first second joined : WordList) → HasRuns p (good_on_all p inputs b) first
    → HasRuns p (good_on p input b) second → IsJoined first second joined
    → HasRuns p (good_on_all p (inputs ++ input ∷ []) b) joined
more-runs p b inputs input first second joined has more j = record {
  spelled = λ allowed f kept met. forward allowed (chosen (admits p allowed) (visits_of f joined))
      (both-spelled p (good_on_all p inputs b) (good_on p input b) first second joined has more j allowed f
      kept met);
  each = λ allowed choices good.
      both-each p (good_on_all p inputs b) (good_on p input b) first second joined has more j allowed choices
      (back allowed choices good);
}
  where
    forward : (allowed : Allowed) (choices : List Choice)
        → can_be_cut (good_on_all p inputs b allowed) (good_on p input b allowed) choices ≡ true
        → good_on_all p (inputs ++ input ∷ []) b allowed choices ≡ true
    forward allowed choices h =
        subst (λ (tests : List RunTest). all_good tests choices ≡ true)
        (sym (map-append (test-on p b allowed) inputs (input ∷ [])))
        (push-cut (map (test-on p b allowed) inputs) (test-on p b allowed input) choices h)

    back : (allowed : Allowed) (choices : List Choice)
        → good_on_all p (inputs ++ input ∷ []) b allowed choices ≡ true
        → can_be_cut (good_on_all p inputs b allowed) (good_on p input b allowed) choices ≡ true
    back allowed choices h = cut-push (map (test-on p b allowed) inputs) (test-on p b allowed input) choices
        (subst (λ (tests : List RunTest). all_good tests choices ≡ true)
        (map-append (test-on p b allowed) inputs (input ∷ [])) h)
