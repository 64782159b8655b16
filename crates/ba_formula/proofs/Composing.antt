-- The four steps from a program to its formula, put together.
use Rattle.std.proofs.Common.{◌≡◌, ◌≢◌, ℕ, Bool, true, ◌&&◌, is_some, List, [], ◌∷◌, map, All, refl, sym, ◌∙◌, ap, subst}
use Rattle.std.specs.List.{list_all}
use Rattle.std.specs.Prelude.{IfOk, Ok, Err, Result}
use Rattle.ba_choices.specs.Judges.{Judge}
use Rattle.ba_code_laws.specs.Tracing.{Relaxes}
use Rattle.ba_derivations.specs.Encodings.{HasModelFor, IsFaithful, false_groups}
use Rattle.ba_encode.specs.Encodings.{AreGivenUp, GoodRun, HasChoices, IsEncodingOf}
use Rattle.ba_encode.specs.Groups.{relaxes_in, statements_from}
use Rattle.ba_encode.specs.Readings.{choices_read}
use Rattle.ba_encode.specs.Softs.{softs_of}
use Rattle.ba_encode.specs.declared.encoded.Encoded.{Encoded}
use Rattle.ba_encode.specs.declared.grouping.Grouping.{Grouping}
use Rattle.ba_encode.specs.declared.grouping.Grouping.TheVariants.{ByStatement}
use Rattle.ba_all.specs.AllRuns.{judge_of_all}
use Rattle.ba_all.specs.Cuts.{RunTest}
use Rattle.ba_code_laws.specs.Visits.{Visit, chosen}
use Rattle.ba_formula.proofs.Guarding.{done-is, good-without}
use Rattle.ba_formula.proofs.Members.{are-selectors, false-relaxable, given-up, is_in, set-given-up, statements-are, weighs}
use Rattle.ba_formula.proofs.Relaxing.{same-relaxes}
use Rattle.ba_formula.proofs.Spreading.{HaveWeights, statements-have}
use Rattle.ba_formula.specs.AllFormulas.{IsFormulaOfAll}
use Rattle.ba_formula.specs.Formulas.{IsFormulaOf}
use Rattle.ba_formula.specs.Words.{HasRuns, good_on, good_on_all}
use Rattle.ba_guards.specs.Contract.{Chosen}
use Rattle.ba_lits.specs.Literals.{IsClause}
use Rattle.ba_lits.specs.Satisfaction.{Assignment, all_true}
use Rattle.ba_tree.specs.Choices.{admits}
use Rattle.ba_tree.specs.Least.{AreWeightsOf, IsFeasible, IsRelaxableSet, WeightList, judge_of, stmt_of, weight_at}
use Rattle.ba_tree.specs.Run.{plain_run}
use Rattle.ba_tree.specs.Weights.{is_weight}
use Rattle.ba_tree.specs.declared.run.Allowed.{Allowed}
use Rattle.ba_tree.specs.declared.run.Allowed.TheVariants.{Statements}
use Rattle.ba_tree.specs.declared.run.Bounds.{Bounds}
use Rattle.ba_tree.specs.declared.run.Input.{Input}
use Rattle.ba_tree.specs.declared.run.Weights.{Weights}
use Rattle.ba_tree.specs.declared.tree.Program.{Program}
use Rattle.ba_wordlist.specs.Meaning.{visits_of}
use Rattle.ba_wordlist.specs.declared.words.WordList.{WordList}

-- no choice is made where nothing may be relaxed
none-chosen : (p : Program) (vs : List Visit) → chosen (admits p (Statements [])) vs ≡ []
unfolding chosen admits
none-chosen p [] = refl
none-chosen p (v ∷ vs) = none-chosen p vs

-- A FORMULA encodes faithfully, by groups of so many weights, which runs are good by a judge; each of its
-- models spells choices that are; and where no choices make good runs without any relaxed, some selector is
-- false
pub record IsFormulaBy (good : Allowed → RunTest) (weights : WeightList) (judge : Judge) (encoded : Encoded) :
    Type 0 where
  pub faithful : IsFaithful encoded.formula (softs_of encoded.groups) weights judge
  pub runs : (v : Assignment) → all_true v encoded.formula.clauses ≡ true
      → judge (false_groups v (softs_of encoded.groups)) (choices_read v encoded.places) ≡ true
  pub some : good (Statements []) [] ≢ true → (v : Assignment) → all_true v encoded.formula.clauses ≡ true
      → false_groups v (softs_of encoded.groups) ≢ []

-- Groups of whatever kind: those of a set of numbers are relaxed in the list exactly where the program allows
-- what the set stands for, and nothing is where the set has none.
module _ (p : Program) (good : Allowed → RunTest) (list : WordList) (has : HasRuns p good list)
    (grouping : Grouping) (encoded : Encoded) (encodes : IsEncodingOf list grouping encoded)
    (clauses : All (IsClause encoded.formula.variables) encoded.formula.clauses)
    (weights : WeightList) (in_range : list_all is_weight weights ≡ true)
    (have : HaveWeights 1 weights encoded.groups) (allowed : List ℕ → Allowed)
    (same : (set : List ℕ) → IsRelaxableSet weights set
    → relaxes_in grouping (is_in set) ≡ admits p (allowed set))
    (nothing : relaxes_in grouping (is_in []) ≡ admits p (Statements [])) where
  abbrev judge : Judge
  judge set = good (allowed set)

  -- the run of a model, where exactly these groups are false
  run-of : (set : List ℕ) (v : Assignment) → all_true v encoded.formula.clauses ≡ true
      → false_groups v (softs_of encoded.groups) ≡ set
      → HasChoices (relaxes_in grouping (is_in set)) list encoded v
  run-of set v satisfies are = encodes.has_run (is_in set) v satisfies
      (subst (λ ns. AreGivenUp v encoded.groups (is_in ns)) are
      (given-up weights encoded.groups have in_range v))

  spelled-good : (set : List ℕ) (v : Assignment) → IsRelaxableSet weights set
      → all_true v encoded.formula.clauses ≡ true → false_groups v (softs_of encoded.groups) ≡ set
      → judge set (choices_read v encoded.places) ≡ true
  spelled-good set v relaxable satisfies are =
      let run : HasChoices (admits p (allowed set)) list encoded v =
      subst (λ (r : Relaxes). HasChoices r list encoded v) (same set relaxable)
      (run-of set v satisfies are) in
      subst (λ choices. judge set choices ≡ true) (sym run.choices)
      (has.spelled (allowed set) run.run.by run.run.kept run.run.met)

  -- no group is false only where runs are good without choices
  none-false : (v : Assignment) → all_true v encoded.formula.clauses ≡ true
      → false_groups v (softs_of encoded.groups) ≡ [] → good (Statements []) [] ≡ true
  none-false v satisfies none =
      let run : HasChoices (admits p (Statements [])) list encoded v =
      subst (λ (r : Relaxes). HasChoices r list encoded v) nothing (run-of [] v satisfies none) in
      subst (λ choices. good (Statements []) choices ≡ true) (none-chosen p (visits_of run.run.by list))
      (has.spelled (Statements []) run.run.by run.run.kept run.run.met)

  model-feasible : (set : List ℕ) → IsRelaxableSet weights set
      → HasModelFor encoded.formula (softs_of encoded.groups) set → IsFeasible judge set
  model-feasible set relaxable model = record {
    choices = choices_read model.assignment encoded.places;
    is_good = spelled-good set model.assignment relaxable model.is_model.satisfies model.is_model.groups_are;
  }

  feasible-model : (set : List ℕ) → IsRelaxableSet weights set → IsFeasible judge set
      → HasModelFor encoded.formula (softs_of encoded.groups) set
  feasible-model set relaxable feasible =
      let spells : Chosen list (relaxes_in grouping (is_in set)) feasible.choices =
      subst (λ (r : Relaxes). Chosen list r feasible.choices) (sym (same set relaxable))
      (has.each (allowed set) feasible.choices feasible.is_good) in
      let model = encodes.has_model (is_in set) (record {
        by = spells.by;
        met = spells.holds;
        kept = spells.kept;
      }) in
      record {
        assignment = model.assignment;
        is_model = record {
          satisfies = model.satisfies;
          groups_are = set-given-up weights encoded.groups have in_range model.assignment set relaxable
              model.given_up;
        };
      }

  pub composed : IsFormulaBy good weights judge encoded
  composed = record {
    faithful = record {
      clauses = clauses;
      selectors = are-selectors weights encoded.groups have in_range encoded.formula encodes.selectors;
      weighs = weighs weights encoded.groups have in_range;
      models = λ set relaxable. (model-feasible set relaxable, feasible-model set relaxable);
    };
    runs = λ v satisfies. spelled-good (false_groups v (softs_of encoded.groups)) v
        (false-relaxable weights encoded.groups have in_range v) satisfies refl;
    some = λ fails v satisfies none. fails (none-false v satisfies none);
  }

-- BY STATEMENTS

-- a formula by weights is one by others of the same list
pub same-encoding : (list : WordList) (a b : Weights) (encoded : Encoded) → a.of ≡ b.of
    → IsEncodingOf list (ByStatement a) encoded → IsEncodingOf list (ByStatement b) encoded
same-encoding list a b encoded same is = record {
  groups_are = is.groups_are ∙ ap (statements_from 1) same;
  selectors = is.selectors;
  has_model = λ set run. is.has_model set
      (subst (λ (r : Relaxes). GoodRun r list) (sym (relaxed set)) run);
  has_run = λ set v satisfies given. subst (λ (r : Relaxes). HasChoices r list encoded v) (relaxed set)
      (is.has_run set v satisfies given);
}
  where
    relaxed : (set : ℕ → Bool) → relaxes_in (ByStatement a) set ≡ relaxes_in (ByStatement b) set
    relaxed set = λ i path stmt. set stmt.0 && is_some (weight_at (same i) stmt.0)

module _ (p : Program) (good : Allowed → RunTest) (weights : Weights) (are_weights : AreWeightsOf p
    weights.of)
    (list : WordList) (has : HasRuns p good list) (encoded : Encoded)
    (encodes : IsEncodingOf list (ByStatement weights) encoded)
    (clauses : All (IsClause encoded.formula.variables) encoded.formula.clauses) where
  by-statements : IsFormulaBy good weights.of (λ set. good (Statements (map stmt_of set))) encoded
  by-statements = composed p good list has (ByStatement weights) encoded encodes clauses weights.of
      are_weights.in_range (statements-have weights.of encoded.groups encodes.groups_are)
      (λ set. Statements (map stmt_of set)) (same-relaxes p weights are_weights)
      (same-relaxes p weights are_weights [] tt)

-- on an input
pub formula-is : (p : Program) (input : Input) (b : Bounds) (weights : Weights) → AreWeightsOf p weights.of
    → (list : WordList) → HasRuns p (good_on p input b) list
    → (encoded : Encoded) → IsEncodingOf list (ByStatement weights) encoded
    → All (IsClause encoded.formula.variables) encoded.formula.clauses
    → IsFormulaOf p input b weights.of encoded
formula-is p input b weights are_weights list has encoded encodes clauses =
    let made : IsFormulaBy (good_on p input b) weights.of (judge_of p input b) encoded =
    by-statements p (good_on p input b) weights are_weights list has encoded encodes clauses in
    record {
      faithful = made.faithful;
      runs = made.runs;
      some = λ fails. made.some (λ good. fails (done-is (plain_run p input b) good));
      statements = statements-are weights.of encoded.groups encodes.groups_are;
    }

-- on several
pub formula-of-all-is : (p : Program) (inputs : List Input) (b : Bounds) (weights : Weights)
    → AreWeightsOf p weights.of
    → (list : WordList) → HasRuns p (good_on_all p inputs b) list
    → (encoded : Encoded) → IsEncodingOf list (ByStatement weights) encoded
    → All (IsClause encoded.formula.variables) encoded.formula.clauses
    → IsFormulaOfAll p inputs b weights.of encoded
formula-of-all-is p inputs b weights are_weights list has encoded encodes clauses =
    let made : IsFormulaBy (good_on_all p inputs b) weights.of (judge_of_all p inputs b) encoded =
    by-statements p (good_on_all p inputs b) weights are_weights list has encoded encodes clauses in
    record {
      faithful = made.faithful;
      runs = made.runs;
      some = λ input at fails. made.some (λ good. fails (done-is (plain_run p input b)
          (good-without (λ (i : Input). good_on p i b (Statements [])) inputs good input at)));
      statements = statements-are weights.of encoded.groups encodes.groups_are;
    }

-- what two clauses of a result give
pub two-ok : {A E : Type 0} → (r : Result A E) (P Q R : A → Type 0) → ((a : A) → P a → Q a → R a)
    → IfOk r P → IfOk r Q → IfOk r R
two-ok (Ok a) P Q R gives one two = gives a one two
two-ok (Err e) P Q R gives one two = tt
