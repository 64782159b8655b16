-- Choices that can be cut into those of several runs.

use Rattle.std.proofs.Common.{◌≡◌, ◌⊎◌, inl, inr, Bool, true, false, ◌&&◌, ◌||◌, List, [], ◌∷◌, ◌++◌, refl, ◌∙◌, ap, subst}
use Rattle.std.proofs.lemmas.Bool.{and_from, and_parts, false≢true, or_cases, or_left, or_right}
use Rattle.std.specs.List.{flat_map}
use Rattle.ba_all.specs.Cuts.{IsCut, RunTest, all_good, can_be_cut}
use Rattle.ba_choices.specs.declared.Choice.{Choice}

-- IN TWO

pub record TwoParts (front rest : RunTest) (choices : List Choice) : Type 0 where
  pub first : List Choice
  pub second : List Choice
  pub joined : first ++ second ≡ choices
  pub first_good : front first ≡ true
  pub second_good : rest second ≡ true

pub parts_of : (front rest : RunTest) (choices : List Choice) → can_be_cut front rest choices ≡ true
    → TwoParts front rest choices
parts_of front rest [] h = let both = and_parts (front []) (rest []) h in record {
  first = [];
  second = [];
  joined = refl;
  first_good = both.0;
  second_good = both.1;
}
parts_of front rest (c ∷ cs) h = by (parts_of (λ others. front (c ∷ others)) rest cs)
    (or_cases (front [] && rest (c ∷ cs)) (can_be_cut (λ others. front (c ∷ others)) rest cs) h)
  where
    by : (can_be_cut (λ others. front (c ∷ others)) rest cs ≡ true
        → TwoParts (λ others. front (c ∷ others)) rest cs)
        → ((front [] && rest (c ∷ cs)) ≡ true) ⊎ (can_be_cut (λ others. front (c ∷ others)) rest cs ≡ true)
        → TwoParts front rest (c ∷ cs)
    by later (inl here) = let both = and_parts (front []) (rest (c ∷ cs)) here in record {
      first = [];
      second = c ∷ cs;
      joined = refl;
      first_good = both.0;
      second_good = both.1;
    }
    by later (inr behind) = let parts = later behind in record {
      first = c ∷ parts.first;
      second = parts.second;
      joined = ap (λ others. c ∷ others) parts.joined;
      first_good = parts.first_good;
      second_good = parts.second_good;
    }

cut-here : (front rest : RunTest) (second : List Choice) → front [] ≡ true → rest second ≡ true
    → can_be_cut front rest second ≡ true
cut-here front rest [] f r = and_from (front []) (rest []) f r
cut-here front rest (c ∷ cs) f r = or_left (front [] && rest (c ∷ cs))
    (can_be_cut (λ others. front (c ∷ others)) rest cs) (and_from (front []) (rest (c ∷ cs)) f r)

pub cut-of : (front rest : RunTest) (first second : List Choice) → front first ≡ true → rest second ≡ true
    → can_be_cut front rest (first ++ second) ≡ true
cut-of front rest [] second f r = cut-here front rest second f r
cut-of front rest (c ∷ first) second f r = or_right (front [] && rest (c ∷ (first ++ second)))
    (can_be_cut (λ others. front (c ∷ others)) rest (first ++ second))
    (cut-of (λ others. front (c ∷ others)) rest first second f r)

-- IN AS MANY AS THERE ARE RUNS

none : (choices : List Choice) → all_good [] choices ≡ true → [] ≡ choices
none [] h = refl
none (c ∷ cs) h = absurd (false≢true h)

pub cut_from : (tests : List RunTest) (choices : List Choice) → all_good tests choices ≡ true
    → (runs : List (List Choice)) × IsCut tests choices runs
cut_from [] choices h = ([], record { whole = none choices h; each = tt })
cut_from (good ∷ others) choices h =
    let parts = parts_of good (all_good others) choices h in
    let rest = cut_from others parts.second parts.second_good in (
      parts.first ∷ rest.0,
      record {
        whole = ap (λ cs. parts.first ++ cs) rest.1.whole ∙ parts.joined;
        each = (parts.first_good, rest.1.each);
      },
    )

pub good_by : (tests : List RunTest) (choices : List Choice) (runs : List (List Choice))
    → IsCut tests choices runs → all_good tests choices ≡ true
good_by [] choices [] cut = subst (λ cs. all_good [] cs ≡ true) cut.whole refl
good_by [] choices (run ∷ runs) cut = absurd cut.each
good_by (good ∷ others) choices [] cut = absurd cut.each
good_by (good ∷ others) choices (run ∷ runs) cut =
    let rest = flat_map (λ (run : List Choice). run) runs in
    subst (λ cs. can_be_cut good (all_good others) cs ≡ true) cut.whole
    (cut-of good (all_good others) run rest cut.each.0
    (good_by others rest runs (record { whole = refl; each = cut.each.1 })))

-- ONE RUN ALONE
pub alone-good : (good : RunTest) (choices : List Choice) → all_good (good ∷ []) choices ≡ good choices
alone-good good choices = one good choices where
  drop-false : (a b c : Bool) → b ≡ false → ((a && b) || c) ≡ c
  drop-false true b c is = ap (λ b. b || c) is
  drop-false false b c is = refl

  keep-true : (a : Bool) → (a && true) ≡ a
  keep-true true = refl
  keep-true false = refl

  one : (good : RunTest) (choices : List Choice) → can_be_cut good (all_good []) choices ≡ good choices
  one good [] = keep-true (good [])
  one good (c ∷ cs) = drop-false (good []) (all_good [] (c ∷ cs))
      (can_be_cut (λ others. good (c ∷ others)) (all_good []) cs) refl
      ∙ one (λ others. good (c ∷ others)) cs
