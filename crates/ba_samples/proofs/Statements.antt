-- What the statements of a sample do, as written or as a choice says.
use Rattle.std.proofs.Common.{◌≡◌, inl, inr, zero, suc, ℕ, ◌+◌, ◌<◌, ◌≤◌, ℤ, pos, Bool, true, false, cond, Option, None, Some, Ok, Err, List, [], ◌∷◌, ◌++◌, map, sym, ◌∙◌, ap, arith}
use Rattle.std.specs.List.{range_with_len}
use Rattle.ba_numbers.specs.declared.numbers.BinOp.TheVariants.{Add}
use Rattle.ba_numbers.specs.declared.numbers.CType.TheVariants.{I32}
use Rattle.ba_choices.specs.declared.Choice.{Choice}
use Rattle.ba_choices.specs.declared.Choice.TheVariants.{Take}
use Rattle.ba_tree.specs.Acts.{give, then_do, after_part}
use Rattle.ba_tree.specs.State.{State, Ending, Execution}
use Rattle.ba_tree.specs.Choices.{if_fitting, one_value, value_by_choice}
use Rattle.ba_tree.specs.Least.{stmt_of}
use Rattle.ba_tree.specs.Meaning.{Calls, assert_that, or_trap, set_value, stmts_in_order}
use Rattle.ba_tree.specs.Trees.{ExprTree, StmtTree}
use Rattle.ba_tree.specs.Trees as tree
use Rattle.ba_tree.specs.declared.run.Allowed.{Allowed}
use Rattle.ba_tree.specs.declared.run.Exit.{Exit}
use Rattle.ba_tree.specs.declared.run.Exit.TheVariants.{Return}
use Rattle.ba_tree.specs.declared.run.Flow.{Flow}
use Rattle.ba_tree.specs.declared.run.Flow.TheVariants.{Leaves}
use Rattle.ba_tree.specs.declared.run.Halt.TheVariants.{AssertFails}
use Rattle.ba_tree.specs.declared.tree.StmtInfo.{StmtInfo}
use Rattle.ba_tree_laws.proofs.TreeRuns.{Setting, eval_tree, exec_tree, is_relaxed_in}
use Rattle.ba_samples.specs.Sample.{addition, constant, counter, int_variable, sample_end}
use Rattle.ba_samples.proofs.Values.{le_or_lt, limit, is_in_range, added, compared_equal, compared_below}

-- the variable has this value, and these choices are left
abbrev pub standing : ℕ → List Choice → State
standing v choices = record {
  values = pos v ∷ [];
  arrays = [];
  locations = 0 ∷ [];
  choices = choices;
}

module _ (statements : List StmtInfo) (allowed : Allowed) (turns : ℕ) (calls : Calls) where
  abbrev pub setting : Setting
  setting = record {
    variables = int_variable ∷ [];
    statements = statements;
    allowed = allowed;
    turns = turns;
    result = Some I32;
    calls = calls;
  }

  abbrev pub runs : List StmtTree → Execution
  runs body = stmts_in_order [] (map (exec_tree setting) body)

  abbrev pub relaxed : ℕ → Bool
  relaxed stmt = is_relaxed_in setting [] (stmt_of stmt)

  -- an assignment or initialiser of the variable, if this flag says whether it is relaxed
  abbrev setting_by : Bool → ℕ → ExprTree → List StmtTree → Execution
  setting_by admitted stmt e rest s = then_do
      (then_do (value_by_choice admitted (one_value I32) (eval_tree setting [] (stmt_of stmt) e) s)
      (set_value counter))
      (after_part (runs rest))

  -- the same, if it has this value or traps
  abbrev with_sum : ℕ → List StmtTree → State → Option ℤ → Ending (Flow Exit)
  with_sum stmt rest s z =
      then_do (then_do (or_trap (stmt_of stmt) z s) (set_value counter)) (after_part (runs rest))

  -- the same, if the choice has this value, or one that doesn't fit
  abbrev with_choice : List StmtTree → State → Bool → ℤ → Ending (Flow Exit)
  with_choice rest s fits z =
      then_do (then_do (if_fitting (cond fits (Some z) None) s) (set_value counter)) (after_part (runs rest))

  -- ADDITIONS

  pub one_added : (stmt v : ℕ) (choices : List Choice) (rest : List StmtTree) → relaxed stmt ≡ false
      → v + 1 < limit
      → runs (addition stmt ∷ rest) (standing v choices) ≡ runs rest (standing (v + 1) choices)
  one_added stmt v choices rest written low =
      ap (λ b. setting_by b stmt (tree.binary Add I32 (tree.var counter) (constant 1)) rest
      (standing v choices)) written
      ∙ ap (with_sum stmt rest (standing v choices)) (added v low)

  pub addition_taken : (stmt v z : ℕ) (choices : List Choice) (rest : List StmtTree)
      → relaxed stmt ≡ true → z < limit
      → runs (addition stmt ∷ rest) (standing v (Take (pos z ∷ []) ∷ choices))
      ≡ runs rest (standing z choices)
  addition_taken stmt v z choices rest taken low =
      ap (λ b. setting_by b stmt (tree.binary Add I32 (tree.var counter) (constant 1)) rest
      (standing v (Take (pos z ∷ []) ∷ choices))) taken
      ∙ ap (λ b. with_choice rest (standing v choices) b (pos z)) (is_in_range z low)

  pub all_added : (count stmt v : ℕ) (choices : List Choice) (rest : List StmtTree)
      → ((k : ℕ) → stmt ≤ k → k < stmt + count → relaxed k ≡ false) → v + count < limit
      → runs (map addition (range_with_len stmt count) ++ rest) (standing v choices)
      ≡ runs rest (standing (v + count) choices)
  all_added zero stmt v choices rest written low =
      ap (λ w. runs rest (standing w choices)) (omega arith)
  all_added (suc count) stmt v choices rest written low =
      one_added stmt v choices (map addition (range_with_len (stmt + 1) count) ++ rest)
      (written stmt (omega arith) (omega arith)) (omega arith)
      ∙ all_added count (stmt + 1) (v + 1) choices rest
      (λ k from to. written k (omega arith) (omega arith)) (omega arith)
      ∙ ap (λ w. runs rest (standing w choices)) (omega arith)

  -- the addition of one number takes this value, and those after it add to it
  pub one_taken : (count stmt v s z w : ℕ) (choices : List Choice) (rest : List StmtTree)
      → stmt ≤ s → s < stmt + count → w + (s + 1) ≡ z + (stmt + count)
      → ((k : ℕ) → (s ≡ k → ⊥) → relaxed k ≡ false) → relaxed s ≡ true
      → v + count < limit → z + count < limit
      → runs (map addition (range_with_len stmt count) ++ rest) (standing v (Take (pos z ∷ []) ∷ choices))
      ≡ runs rest (standing w choices)
  one_taken zero stmt v s z w choices rest from to ends written taken low fits = absurd (omega arith)
  one_taken (suc count) stmt v s z w choices rest from to ends written taken low fits =
      elim (le_or_lt s stmt) [
        | inl first ↦ let here : s ≡ stmt = omega arith in
            addition_taken stmt v z choices (map addition (range_with_len (stmt + 1) count) ++ rest)
            (ap relaxed (sym here) ∙ taken) (omega arith)
            ∙ all_added count (stmt + 1) z choices rest (λ k above below. written k (λ same. omega arith))
            (omega arith)
            ∙ ap (λ w. runs rest (standing w choices)) (omega arith)
        | inr later ↦
            one_added stmt v (Take (pos z ∷ []) ∷ choices)
            (map addition (range_with_len (stmt + 1) count) ++ rest) (written stmt (λ same. omega arith))
            (omega arith)
            ∙ one_taken count (stmt + 1) (v + 1) s z w choices rest (omega arith) (omega arith) (omega arith)
            written taken (omega arith) (omega arith)
      ]

  -- THE INITIALISER

  pub initialised : (v : ℕ) (choices : List Choice) (rest : List StmtTree) → relaxed 1 ≡ false
      → runs (tree.declare counter ∷ tree.init (stmt_of 1) counter (constant 0) ∷ rest) (standing v choices)
      ≡ runs rest (standing 0 choices)
  initialised v choices rest written =
      ap (λ b. setting_by b 1 (constant 0) rest (standing 0 choices)) written

  pub initialiser_taken : (v z : ℕ) (choices : List Choice) (rest : List StmtTree) → relaxed 1 ≡ true
      → z < limit
      → runs (tree.declare counter ∷ tree.init (stmt_of 1) counter (constant 0) ∷ rest)
      (standing v (Take (pos z ∷ []) ∷ choices))
      ≡ runs rest (standing z choices)
  initialiser_taken v z choices rest taken low =
      ap (λ b. setting_by b 1 (constant 0) rest (standing 0 (Take (pos z ∷ []) ∷ choices))) taken
      ∙ ap (λ b. with_choice rest (standing 0 choices) b (pos z)) (is_in_range z low)

  -- THE ASSERTION AND THE RETURN

  abbrev asserted : ℕ → List StmtTree → State → Option ℤ → Ending (Flow Exit)
  asserted stmt rest s z =
      then_do (then_do (or_trap (stmt_of stmt) z s) (assert_that (stmt_of stmt))) (after_part (runs rest))

  abbrev returning_by : Bool → ℕ → State → Ending (Flow Exit)
  returning_by admitted stmt s = then_do
      (then_do (value_by_choice admitted (one_value I32) (eval_tree setting [] (stmt_of stmt) (constant 0)) s)
      (λ z. give (Leaves (Return z))))
      (after_part (runs []))

  pub end_fails : (n v : ℕ) (choices : List Choice) → v < n + 1
      → runs (sample_end n) (standing v choices) ≡ (Err (AssertFails (stmt_of (n + 2))), standing v choices)
  end_fails n v choices low = ap (asserted (n + 2) (tree.return_value (stmt_of (n + 3)) (constant 0) ∷ [])
      (standing v choices))
      (compared_below v (n + 1) low)

  pub end_holds : (n v : ℕ) (choices : List Choice) → v ≡ n + 1 → relaxed (n + 3) ≡ false
      → runs (sample_end n) (standing v choices) ≡ (Ok (Leaves (Return (pos 0))), standing v choices)
  end_holds n v choices same written = ap (asserted (n + 2)
      (tree.return_value (stmt_of (n + 3)) (constant 0) ∷ []) (standing v choices))
      (compared_equal v (n + 1) same)
      ∙ ap (λ b. returning_by b (n + 3) (standing v choices)) written
