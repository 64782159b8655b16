-- The judge of several inputs: one cut, and feasible sets.

use Rattle.std.proofs.Common.{◌≡◌, ◌≢◌, ℕ, zero, suc, true, List, [], ◌∷◌, ◌++◌, map, refl, sym, ◌∙◌, ap, ap₂, subst, arith}
use Rattle.std.specs.List.{AllZip, flat_map}
use Rattle.std.specs.Prelude.{Contains}
use mathlib.Core.Path.{fun_ext}
use Rattle.std.proofs.lemmas.List.{append_cancel_right}
use Rattle.ba_all.proofs.Cutting.{alone-good, cut_from, good_by}
use Rattle.ba_all.proofs.Prefixes.{left-behind}
use Rattle.ba_all.specs.AllRuns.{judge_of_all, tests_of}
use Rattle.ba_all.specs.Cuts.{IsCut, RunTest}
use Rattle.ba_choices.specs.declared.Choice.{Choice}
use Rattle.ba_interp.specs.Prefixes.{choices_left}
use Rattle.ba_tree.specs.Least.{IsFeasible, judge_of, stmt_of}
use Rattle.ba_tree.specs.Run.{is_done, run_of}
use Rattle.ba_tree.specs.declared.run.Allowed.{Allowed}
use Rattle.ba_tree.specs.declared.run.Allowed.TheVariants.{Statements}
use Rattle.ba_tree.specs.declared.run.Bounds.{Bounds}
use Rattle.ba_tree.specs.declared.run.Input.{Input}
use Rattle.ba_tree.specs.declared.run.Outcome.{Outcome}
use Rattle.ba_tree.specs.declared.run.Outcome.TheVariants.{Done, AssertFails, Trap, Beyond, WrongChoices}
use Rattle.ba_tree.specs.declared.tree.Program.{Program}

pub done-right : (o : Outcome) → is_done o ≡ true → o ≢ WrongChoices
done-right Done h wrong = absurd (let no : ⊥ = cc in no)
done-right (AssertFails s) h wrong = absurd (let no : ⊥ = cc in no)
done-right (Trap s) h wrong = absurd (let no : ⊥ = cc in no)
done-right (Beyond s) h wrong = absurd (let no : ⊥ = cc in no)
done-right WrongChoices h wrong = absurd (let no : ⊥ = cc in no)

module _ (p : Program) (b : Bounds) (set : List ℕ) where
  abbrev allowed : Allowed
  allowed = Statements (map stmt_of set)

  -- choices of one run, and others behind them: what the run leaves
  left : (i : Input) (run others : List Choice) → judge_of p i b set run ≡ true
      → choices_left p i b allowed (run ++ others) ≡ others
  left i run others good = left-behind p i b allowed run others
      (done-right (run_of p i b allowed run) good)

  -- two cuts of the same choices leave the same behind the first run
  same-rest : (i : Input) (run other rest more : List Choice) → judge_of p i b set run ≡ true
      → judge_of p i b set other ≡ true → run ++ rest ≡ other ++ more → rest ≡ more
  same-rest i run other rest more g h same =
      sym (left i run rest g) ∙ ap (choices_left p i b allowed) same ∙ left i other more h

  abbrev rest_of : List (List Choice) → List Choice
  rest_of runs = flat_map (λ (run : List Choice). run) runs

  pub one-cut : (inputs : List Input) (choices : List Choice) (runs others : List (List Choice))
      → IsCut (tests_of p inputs b set) choices runs → IsCut (tests_of p inputs b set) choices others
      → runs ≡ others
  one-cut [] choices [] [] c d = refl
  one-cut [] choices [] (other ∷ others) c d = absurd d.each
  one-cut [] choices (run ∷ runs) others c d = absurd c.each
  one-cut (i ∷ inputs) choices [] others c d = absurd c.each
  one-cut (i ∷ inputs) choices (run ∷ runs) [] c d = absurd d.each
  one-cut (i ∷ inputs) choices (run ∷ runs) (other ∷ others) c d =
      let whole : run ++ rest_of runs ≡ other ++ rest_of others = c.whole ∙ sym d.whole in
      let same : rest_of runs ≡ rest_of others =
      same-rest i run other (rest_of runs) (rest_of others) c.each.0 d.each.0 whole in
      let first : run ≡ other = append_cancel_right run other (rest_of others)
      (ap (λ rest. run ++ rest) (sym same) ∙ whole) in
      ap₂ (λ (r : List Choice) (rs : List (List Choice)). r ∷ rs) first
      (one-cut inputs (rest_of runs) runs others (record { whole = refl; each = c.each.1 })
      (record { whole = sym same; each = d.each.1 }))

  -- FEASIBLE sets

  abbrev AreGood : List Input → List (List Choice) → Type 0
  AreGood inputs runs =
      AllZip (λ (good : RunTest) (run : List Choice). good run ≡ true) (tests_of p inputs b set) runs

  of-each : (inputs : List Input) (runs : List (List Choice)) → AreGood inputs runs → (input : Input)
      → Contains inputs input → IsFeasible (judge_of p input b) set
  of-each [] runs each input (k, few, at) = absurd (let no : ⊥ = omega (arith, few) in no)
  of-each (i ∷ inputs) [] each input (k, few, at) = absurd each
  of-each (i ∷ inputs) (run ∷ runs) each input (zero, few, at) =
      subst (λ (i : Input). IsFeasible (judge_of p i b) set) at (record { choices = run; is_good = each.0 })
  of-each (i ∷ inputs) (run ∷ runs) each input (suc k, few, at) =
      of-each inputs runs each.1 input (k, omega (arith, few), at)

  of-all : (inputs : List Input)
      → ((input : Input) → Contains inputs input → IsFeasible (judge_of p input b) set)
      → (runs : List (List Choice)) × AreGood inputs runs
  of-all [] feasible = ([], tt)
  of-all (i ∷ inputs) feasible =
      let here = feasible i (zero, omega arith, refl) in
      let others = of-all inputs (λ input at. feasible input (suc at.0, omega (arith, at.1), at.2)) in
      (here.choices ∷ others.0, (here.is_good, others.1))

  pub feasible-for-each : (inputs : List Input) → IsFeasible (judge_of_all p inputs b) set → (input : Input)
      → Contains inputs input → IsFeasible (judge_of p input b) set
  feasible-for-each inputs feasible =
      let cut = cut_from (tests_of p inputs b set) feasible.choices feasible.is_good in
      of-each inputs cut.0 cut.1.each

  pub feasible-for-all : (inputs : List Input)
      → ((input : Input) → Contains inputs input → IsFeasible (judge_of p input b) set)
      → IsFeasible (judge_of_all p inputs b) set
  feasible-for-all inputs feasible =
      let runs = of-all inputs feasible in
      record {
        choices = rest_of runs.0;
        is_good = good_by (tests_of p inputs b set) (rest_of runs.0) runs.0
            (record { whole = refl; each = runs.1 });
      }

pub one-input : (p : Program) (i : Input) (b : Bounds) → judge_of_all p (i ∷ []) b ≡ judge_of p i b
one-input p i b = fun_ext (λ set. fun_ext (λ choices. alone-good (judge_of p i b set) choices))
