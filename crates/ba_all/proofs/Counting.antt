-- How many choices a run takes, and what that says of a cut.

use Rattle.std.proofs.Common.{◌≡◌, ◌≢◌, ℕ, ◌-◌, ◌+◌, ◌≤◌, ◌<◌, ◌==◌, zero, suc, Bool, true, false, ◌&&◌, ◌||◌, Option, None, Some, List, [], ◌∷◌, ◌++◌, length, take, drop, get_or, map, refl, sym, ◌∙◌, ap, subst, arith, append-nil, length-append}
use Rattle.std.proofs.Math.Dec.{eqb-suc-zero}
use Rattle.std.proofs.Math.ListN.{drop_of_length-le}
use Rattle.std.proofs.Math.Seq.{drop-cons, take-append_seam}
use Rattle.std.proofs.lemmas.Bool.{false≢true}
use Rattle.std.proofs.lemmas.List.{append_assoc, length-drop, take-append-drop}
use Rattle.ba_all.proofs.Judging.{done-right}
use Rattle.ba_all.proofs.Prefixes.{alone, left-behind, outcome-behind}
use Rattle.ba_all.specs.AllRuns.{judge_of_all, tests_of}
use Rattle.ba_all.specs.Cuts.{IsCut, RunTest, all_good, can_be_cut}
use Rattle.ba_choices.specs.declared.Choice.{Choice}
use Rattle.ba_interp.specs.Prefixes.{choices_left, prefix_outcome}
use Rattle.ba_tree.specs.Least.{judge_of, stmt_of}
use Rattle.ba_tree.specs.Run.{is_done, run_of}
use Rattle.ba_tree.specs.declared.run.Allowed.{Allowed}
use Rattle.ba_tree.specs.declared.run.Allowed.TheVariants.{Statements}
use Rattle.ba_tree.specs.declared.run.Bounds.{Bounds}
use Rattle.ba_tree.specs.declared.run.Input.{Input}
use Rattle.ba_tree.specs.declared.tree.Program.{Program}

-- A RUN that is done takes the first of its choices, as many as it does not leave

module _ (p : Program) (i : Input) (b : Bounds) (x : Allowed) (choices : List Choice) where
  abbrev left : List Choice
  left = choices_left p i b x choices

  module _ (done : is_done (prefix_outcome p i b x choices) ≡ true) where
    parts : (front : List Choice) × (choices ≡ front ++ left)
        × (run_of p i b x front ≡ prefix_outcome p i b x choices)
    parts = alone p i b x choices (done-right (prefix_outcome p i b x choices) done)

    lengths : length choices ≡ length parts.0 + length left
    lengths = ap length parts.1 ∙ length-append parts.0 left

    pub left-fits : length left ≤ length choices
    left-fits = omega (arith, lengths)

    taken : take (length choices - length left) choices ≡ parts.0
    taken =
        let count : length choices - length left ≡ length parts.0 = omega (arith, lengths) in
        ap (λ n. take n choices) count ∙ ap (λ cs. take (length parts.0) cs) parts.1
        ∙ take-append_seam parts.0 left

    taken-done : is_done (run_of p i b x (take (length choices - length left) choices)) ≡ true
    taken-done = ap (λ cs. is_done (run_of p i b x cs)) taken ∙ ap is_done parts.2 ∙ done

  module _ (count : ℕ) (within : count ≤ length choices)
      (good : is_done (run_of p i b x (take count choices)) ≡ true) where
    whole-done : is_done (prefix_outcome p i b x choices) ≡ true
    whole-done = ap (λ cs. is_done (prefix_outcome p i b x cs)) (sym (take-append-drop count choices))
        ∙ ap is_done (outcome-behind p i b x (take count choices) (drop count choices)
        (done-right (run_of p i b x (take count choices)) good)) ∙ good

    left-is : left ≡ drop count choices
    left-is = ap (choices_left p i b x) (sym (take-append-drop count choices))
        ∙ left-behind p i b x (take count choices) (drop count choices)
        (done-right (run_of p i b x (take count choices)) good)

    count-is : length choices - length left ≡ count
    count-is = omega (arith, within, ap length left-is ∙ length-drop count choices)

  -- over what may be relaxed: the statements of a set
  module _ (set : List ℕ) (is : x ≡ Statements (map stmt_of set)) where
    pub taken-good : is_done (prefix_outcome p i b x choices) ≡ true
        → judge_of p i b set (take (length choices - length left) choices) ≡ true
    taken-good done = subst (λ (y : Allowed). is_done
        (run_of p i b y (take (length choices - length left) choices)) ≡ true) is (taken-done done)

    done-with : (count : ℕ) → judge_of p i b set (take count choices) ≡ true
        → is_done (run_of p i b x (take count choices)) ≡ true
    done-with count good =
        subst (λ (y : Allowed). is_done (run_of p i b y (take count choices)) ≡ true) (sym is) good

    pub only-taken : (count : ℕ) → count ≤ length choices
        → judge_of p i b set (take count choices) ≡ true → length choices - length left ≡ count
    only-taken count within good = count-is count within (done-with count good)

    pub done-where : (count : ℕ) → count ≤ length choices
        → judge_of p i b set (take count choices) ≡ true → is_done (prefix_outcome p i b x choices) ≡ true
    done-where count within good = whole-done count within (done-with count good)

-- CUTS where at most one front is good

and-right : (a b : Bool) → a ≡ true → (a && b) ≡ b
and-right true b is = refl
and-right false b is = absurd (false≢true is)

or-left : (a b : Bool) → b ≡ false → (a || b) ≡ a
or-left true b is = refl
or-left false b is = is

or-right : (a b c : Bool) → a ≢ true → ((a && b) || c) ≡ c
or-right true b c not = absurd (not refl)
or-right false b c not = refl

and-not : (a b : Bool) → a ≢ true → (a && b) ≡ false
and-not true b not = absurd (not refl)
and-not false b not = refl

pub uncut : (front rest : RunTest) (choices : List Choice)
    → ((n : ℕ) → n ≤ length choices → front (take n choices) ≢ true)
    → can_be_cut front rest choices ≡ false
uncut front rest [] none = and-not (front []) (rest []) (none 0 (omega arith))
uncut front rest (c ∷ cs) none =
    or-right (front []) (rest (c ∷ cs)) (can_be_cut (λ others. front (c ∷ others)) rest cs)
    (none 0 (omega arith))
    ∙ uncut (λ others. front (c ∷ others)) rest cs (λ n few. none (suc n) (omega (arith, few)))

pub cut-at : (front rest : RunTest) (choices : List Choice) (count : ℕ) → count ≤ length choices
    → front (take count choices) ≡ true
    → ((n : ℕ) → n ≤ length choices → front (take n choices) ≡ true → n ≡ count)
    → can_be_cut front rest choices ≡ rest (drop count choices)
cut-at front rest [] zero within good only = and-right (front []) (rest []) good
cut-at front rest [] (suc count) within good only = absurd (let no : ⊥ = omega (arith, within) in no)
cut-at front rest (c ∷ cs) zero within good only =
    or-left (front [] && rest (c ∷ cs)) (can_be_cut (λ others. front (c ∷ others)) rest cs)
    (uncut (λ others. front (c ∷ others)) rest cs
    (λ n few here. let no : ⊥ = omega (arith, only (suc n) (omega (arith, few)) here) in absurd no))
    ∙ and-right (front []) (rest (c ∷ cs)) good
cut-at front rest (c ∷ cs) (suc count) within good only =
    or-right (front []) (rest (c ∷ cs)) (can_be_cut (λ others. front (c ∷ others)) rest cs)
    (λ here. let no : ⊥ = omega (arith, only 0 (omega arith) here) in absurd no)
    ∙ cut-at (λ others. front (c ∷ others)) rest cs count (omega (arith, within)) good
    (λ n few here. omega (arith, only (suc n) (omega (arith, few)) here))

-- the first of several runs in front of the others
pub cut-behind : (good : RunTest) (others : List RunTest) (choices : List Choice) (runs : List (List Choice))
    (count : ℕ) → good (take count choices) ≡ true → IsCut others (drop count choices) runs
    → IsCut (good ∷ others) choices (take count choices ∷ runs)
cut-behind good others choices runs count here cut = record {
  whole = ap (λ rest. take count choices ++ rest) cut.whole ∙ take-append-drop count choices;
  each = (here, cut.each);
}

-- FROM THE LEFT: what is said of the inputs from here on

module _ (p : Program) (b : Bounds) (set : List ℕ) where
  abbrev pub tests_from : List Input → ℕ → List RunTest
  tests_from inputs k = map (λ (input : Input). judge_of p input b set) (drop k inputs)

  abbrev pub Only : Input → List Choice → ℕ → Type 0
  Only input choices count = (n : ℕ) → n ≤ length choices
      → judge_of p input b set (take n choices) ≡ true → n ≡ count

  tests-cons : (inputs : List Input) (k : ℕ) (input : Input) → k < length inputs
      → input ≡ get_or inputs k input
      → tests_from inputs k ≡ judge_of p input b set ∷ tests_from inputs (suc k)
  tests-cons inputs k input few is =
      ap (map (λ (input : Input). judge_of p input b set))
      (drop-cons inputs k input few ∙ ap (λ (first : Input). first ∷ drop (suc k) inputs) (sym is))

  pub good-from : (inputs : List Input) (k : ℕ) (input : Input) (choices : List Choice) (count : ℕ)
      → k < length inputs → input ≡ get_or inputs k input → count ≤ length choices
      → judge_of p input b set (take count choices) ≡ true → Only input choices count
      → all_good (tests_from inputs k) choices ≡ all_good (tests_from inputs (suc k)) (drop count choices)
  good-from inputs k input choices count few is within good only =
      ap (λ tests. all_good tests choices) (tests-cons inputs k input few is)
      ∙ cut-at (judge_of p input b set) (all_good (tests_from inputs (suc k))) choices count within good only

  pub none-from : (inputs : List Input) (k : ℕ) (input : Input) (choices : List Choice)
      → k < length inputs → input ≡ get_or inputs k input
      → ((n : ℕ) → n ≤ length choices → judge_of p input b set (take n choices) ≢ true)
      → all_good (tests_from inputs k) choices ≡ false
  none-from inputs k input choices few is none =
      ap (λ tests. all_good tests choices) (tests-cons inputs k input few is)
      ∙ uncut (judge_of p input b set) (all_good (tests_from inputs (suc k))) choices none

  pub cut-from-here : (inputs : List Input) (k : ℕ) (input : Input) (choices : List Choice)
      (runs : List (List Choice)) (count : ℕ) → k < length inputs → input ≡ get_or inputs k input
      → judge_of p input b set (take count choices) ≡ true
      → IsCut (tests_from inputs (suc k)) (drop count choices) runs
      → IsCut (tests_from inputs k) choices (take count choices ∷ runs)
  cut-from-here inputs k input choices runs count few is good cut =
      subst (λ (tests : List RunTest). IsCut tests choices (take count choices ∷ runs))
      (sym (tests-cons inputs k input few is))
      (cut-behind (judge_of p input b set) (tests_from inputs (suc k)) choices runs count good cut)

pub ended : (choices : List Choice) → all_good [] choices ≡ true → [] ≡ choices
ended [] h = refl
ended (c ∷ cs) h = absurd (false≢true h)

pub ended-is : (choices : List Choice) → all_good [] choices ≡ (length choices == 0)
ended-is [] = refl
ended-is (c ∷ cs) = sym (eqb-suc-zero (length cs))

-- after some of the inputs: the runs so far, and the choices of the others
pub record IsCutting (p : Program) (b : Bounds) (set : List ℕ) (inputs : List Input) (k : ℕ)
    (choices rest : List Choice) (runs : List (List Choice)) : Type 0 where
  pub good : all_good (tests_from p b set inputs k) rest ≡ true
  pub from : (others : List (List Choice)) → IsCut (tests_from p b set inputs k) rest others
      → IsCut (tests_of p inputs b set) choices (runs ++ others)

pub cutting-begins : (p : Program) (b : Bounds) (set : List ℕ) (inputs : List Input) (choices : List Choice)
    → judge_of_all p inputs b set choices ≡ true → IsCutting p b set inputs 0 choices choices []
cutting-begins p b set inputs choices good = record { good = good; from = λ others cut. cut }

module _ (p : Program) (b : Bounds) (set : List ℕ) (inputs : List Input) (k : ℕ)
    (choices rest : List Choice) (runs : List (List Choice))
    (cutting : IsCutting p b set inputs k choices rest runs) where
  pub cutting-more : (input : Input) (count : ℕ) → k < length inputs → input ≡ get_or inputs k input
      → count ≤ length rest → judge_of p input b set (take count rest) ≡ true → Only p b set input rest count
      → IsCutting p b set inputs (suc k) choices (drop count rest) (runs ++ take count rest ∷ [])
  cutting-more input count few is within good only = record {
    good = sym (good-from p b set inputs k input rest count few is within good only) ∙ cutting.good;
    from = λ others cut. subst (λ (runs : List (List Choice)). IsCut (tests_of p inputs b set) choices runs)
        (sym (append_assoc runs (take count rest ∷ []) others))
        (cutting.from (take count rest ∷ others)
        (cut-from-here p b set inputs k input rest others count few is good cut));
  }

  -- after one more input, as the code has it
  pub cutting-step : (input : Input) (count : ℕ) → k < length inputs → input ≡ get_or inputs k input
      → count ≤ length rest → judge_of p input b set (take count rest) ≡ true → Only p b set input rest count
      → (next : ℕ) (more : List Choice) (added : List (List Choice)) → next ≡ suc k
      → more ≡ drop count rest → added ≡ runs ++ take count rest ∷ []
      → IsCutting p b set inputs next choices more added
  cutting-step input count few is within good only next more added next_is more_is added_is =
      subst (λ (n : ℕ). IsCutting p b set inputs n choices more added) (sym next_is)
      (subst (λ (cs : List Choice). IsCutting p b set inputs (suc k) choices cs added) (sym more_is)
      (subst (λ (rs : List (List Choice)). IsCutting p b set inputs (suc k) choices (drop count rest) rs)
      (sym added_is) (cutting-more input count few is within good only)))

  pub cutting-ends : length inputs ≤ k → IsCut (tests_of p inputs b set) choices runs
  cutting-ends all =
      let none : tests_from p b set inputs k ≡ [] =
      ap (map (λ (input : Input). judge_of p input b set)) (drop_of_length-le inputs all) in
      let over : [] ≡ rest = ended rest
      (subst (λ (tests : List RunTest). all_good tests rest ≡ true) none cutting.good) in
      subst (λ (runs : List (List Choice)). IsCut (tests_of p inputs b set) choices runs) (append-nil runs)
      (cutting.from []
      (subst (λ (tests : List RunTest). IsCut tests rest []) (sym none) (record { whole = over; each = tt })))

  pub cutting-finds : (input : Input) → k < length inputs → input ≡ get_or inputs k input
      → ((n : ℕ) → n ≤ length rest → judge_of p input b set (take n rest) ≢ true) → ⊥
  cutting-finds input few is none =
      false≢true (sym (none-from p b set inputs k input rest few is none) ∙ cutting.good)

-- what a search for a part finds
pub some-same : (found : Option ℕ) (n count : ℕ) → found ≡ Some n → found ≡ Some count → n ≡ count
some-same found n count one other = let both = sym one ∙ other in cc

pub none-some : (found : Option ℕ) (n : ℕ) → found ≡ None → found ≡ Some n → ⊥
none-some found n none some = let both = sym none ∙ some in cc
