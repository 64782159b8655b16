-- AN EDITED PROGRAM FITS TOGETHER: the facts of its statements are those of the program. They also cost the
-- same.
use Rattle.std.proofs.Common.{◌≡◌, ℕ, zero, suc, ◌==◌, nat_le, nat_lt, Bool, true, ◌&&◌, not, List, [], ◌∷◌, ◌++◌, map, flat_map, length, refl, sym, ap, subst, ◌∙◌}
use Rattle.std.specs.Prelude.{IsTrue, option_and_then, slice_get, slice_index_or, sum_by}
use Rattle.std.specs.List.{list_all}
use Rattle.std.proofs.lemmas.Bool.{and_from}
use Rattle.std.proofs.lemmas.Grind.{flat_map-append}
use Rattle.ba_numbers.specs.declared.ids.CallId.{CallId}
use Rattle.ba_numbers.specs.declared.ids.VarId.{VarId}
use Rattle.ba_tree.proofs.Kept.{AreFit, fit, fit-function}
use Rattle.ba_tree.proofs.Tests.{both}
use Rattle.ba_tree.specs.Facts.{StmtFacts, are_distinct, are_functions, around, body_facts, fits_parameters, has_each_once, has_kind, has_variable, holds, init_facts, is_global_initialiser, is_own_length, is_own_shape, is_parameter_shape, is_program, leaf_facts, no_function, own_elements, shape_at, stmt_facts}
use Rattle.ba_tree.specs.Kept.{parts_of}
use Rattle.ba_tree.specs.Trees.{FunctionTree, tree_of, tree_of_function, tree_of_parts, tree_of_stmt}
use Rattle.ba_tree.specs.Units.{Bodies, Lengths}
use Rattle.ba_tree.specs.declared.tree.Function.{Function}
use Rattle.ba_tree.specs.declared.tree.Parts.{Parts}
use Rattle.ba_tree.specs.declared.tree.Program.{Program}
use Rattle.ba_tree.specs.declared.tree.Stmt.{Stmt}
use Rattle.ba_tree.specs.declared.tree.Variable.{Variable}
use Rattle.ba_typing_facts.proofs.StatementTreeFacts.{all_facts_are, stmt_facts_of}
use Rattle.ba_repair.specs.Changes.{changed_function, changed_program, changed_stmt}
use Rattle.ba_repair.specs.Edits.{IsEditOf}
use Rattle.ba_repair.specs.Nodes.{body_nodes, nodes_at}
use Rattle.ba_repair.specs.declared.listing.Edit.{Edit}
use Rattle.ba_repair.specs.declared.nodes.StmtNode.{StmtNode}
use Rattle.ba_repair.proofs.OwnChanges.{Suits}
use Rattle.ba_repair.proofs.Listed.{edit-suits}
use Rattle.ba_repair.proofs.KeptFacts.{HasSameHeads, with_bodies}
use Rattle.ba_repair.proofs.StatementsKept.{AreOf, Suitable, body-kept, body-of, body_units, both-of, differ, numbers, numbers_in, split}

-- FUNCTIONS that are edited, one by one

abbrev pub AreEdited : Edit → List Function → List Function → Type 0
AreEdited edit [] [] = Unit {0}
AreEdited edit [] (g ∷ gs) = ⊥
AreEdited edit (f ∷ fs) [] = ⊥
AreEdited edit (f ∷ fs) (g ∷ gs) =
    (tree_of_function g ≡ changed_function edit (tree_of_function f)) × AreEdited edit fs gs

heads : {X : Type 0} (x y : X) (xs ys : List X) → x ∷ xs ≡ y ∷ ys → x ≡ y
heads x y xs ys e = cc

tails : {X : Type 0} (x y : X) (xs ys : List X) → x ∷ xs ≡ y ∷ ys → xs ≡ ys
tails x y xs ys e = cc

pub edited-each : (edit : Edit) (fs gs : List Function)
    → map tree_of_function gs ≡ map (changed_function edit) (map tree_of_function fs) → AreEdited edit fs gs
edited-each edit [] [] e = tt
edited-each edit [] (g ∷ gs) e = cc
edited-each edit (f ∷ fs) [] e = cc
edited-each edit (f ∷ fs) (g ∷ gs) e = (heads _ _ _ _ e, edited-each edit fs gs (tails _ _ _ _ e))

same-length : (edit : Edit) (fs gs : List Function) → AreEdited edit fs gs → length gs ≡ length fs
same-length edit [] [] h = refl
same-length edit [] (g ∷ gs) h = absurd h
same-length edit (f ∷ fs) [] h = absurd h
same-length edit (f ∷ fs) (g ∷ gs) h = ap suc (same-length edit fs gs h.1)

same-owned : (edit : Edit) (fs gs : List Function) → AreEdited edit fs gs
    → flat_map (λ (f : Function). f.params ++ f.locals) gs
    ≡ flat_map (λ (f : Function). f.params ++ f.locals) fs
same-owned edit [] [] h = refl
same-owned edit [] (g ∷ gs) h = absurd h
same-owned edit (f ∷ fs) [] h = absurd h
same-owned edit (f ∷ fs) (g ∷ gs) h =
    λ i. ((h.0 i).params ++ (h.0 i).locals) ++ same-owned edit fs gs h.1 i

results-stay : (edit : Edit) (fs gs : List Function) → AreEdited edit fs gs → (n : ℕ)
    → option_and_then (λ (f : Function). f.result) (slice_get gs n)
    ≡ option_and_then (λ (f : Function). f.result) (slice_get fs n)
results-stay edit [] [] h n = refl
results-stay edit [] (g ∷ gs) h n = absurd h
results-stay edit (f ∷ fs) [] h n = absurd h
results-stay edit (f ∷ fs) (g ∷ gs) h zero = λ i. (h.0 i).result
results-stay edit (f ∷ fs) (g ∷ gs) h (suc n) = results-stay edit fs gs h.1 n

params-stay : (edit : Edit) (fs gs : List Function) → AreEdited edit fs gs
    → (test : List VarId → Bool) (n : ℕ)
    → holds (λ (f : Function). test f.params) (slice_get gs n)
    ≡ holds (λ (f : Function). test f.params) (slice_get fs n)
params-stay edit [] [] h test n = refl
params-stay edit [] (g ∷ gs) h test n = absurd h
params-stay edit (f ∷ fs) [] h test n = absurd h
params-stay edit (f ∷ fs) (g ∷ gs) h test zero = λ i. test (h.0 i).params
params-stay edit (f ∷ fs) (g ∷ gs) h test (suc n) = params-stay edit fs gs h.1 test n

-- the tests of a function, by its parameters, its other variables and the facts of its body
abbrev function_test : Parts → Bool → List VarId → List VarId → StmtFacts → Bool
function_test p is_main params locals body = nat_le (length params) 32
    && list_all (λ v. holds (is_parameter_shape is_main) (shape_at p v)) params
    && list_all (λ v. holds is_own_shape (shape_at p v)) locals
    && body.is_sound && nat_le body.depth 101
    && not body.breaks && not body.continues
    && list_all (has_variable (p.globals ++ params ++ locals)) body.variables

-- the tests of a program, by what its functions say
abbrev program_test : Parts → ℕ → List VarId → List StmtFacts → List StmtFacts → Bool → Bool
program_test p count owned inits all functions =
    (nat_le (length p.statements) 4000 && nat_le count 100 && nat_le (length p.variables) 2000
    && nat_le (sum_by (λ (v : Variable). own_elements v.shape) p.variables) 1024)
    && nat_lt p.main.0 count
    && list_all is_own_length p.variables
    && has_each_once 0 (length p.variables) (map (λ (v : VarId). v.0) owned)
    && list_all (λ v. holds is_own_shape (shape_at p v)) p.globals
    && list_all (is_global_initialiser p) inits
    && functions
    && has_each_once 1 (length p.statements) (numbers (numbers_in all))
    && list_all (has_kind p) (numbers_in all)
    && are_distinct (map (λ (c : CallId). c.0) (flat_map (λ (s : StmtFacts). s.calls) all))

inits-sound : (p : Parts) (xs : List StmtFacts) → list_all (is_global_initialiser p) xs ≡ true
    → list_all (λ (s : StmtFacts). s.is_sound) xs ≡ true
inits-sound p [] h = refl
inits-sound p (x ∷ xs) h =
    let parts = both _ _ h in
    let but_calls = both _ _ parts.0 in
    let but_names = both _ _ but_calls.0 in
    let sound = both _ _ but_names.0 in
    and_from _ _ sound.0 (inits-sound p xs parts.1)

-- statements that cost as much as these
abbrev pub CostAlike : Parts → List Stmt → List Stmt → Type 0
CostAlike p after before = (turns : ℕ) (bodies : Bodies) (lengths : Lengths)
    → body_units p.variables turns bodies lengths (map tree_of_stmt after)
    ≡ body_units p.variables turns bodies lengths (map tree_of_stmt before)

abbrev function_nodes : List Function → List StmtNode
function_nodes fs = flat_map (λ (f : FunctionTree). body_nodes f.body) (map tree_of_function fs)

module _ (p : Parts) where
  -- the facts of a body of trees
  abbrev tree_facts : Function → List Stmt → List StmtFacts
  tree_facts f body = map (stmt_facts_of p f) (map tree_of_stmt body)

  functions-of : (fs : List Function) → AreOf (numbers_in (map (body_facts p) fs)) (function_nodes fs)
  functions-of [] = λ n none. refl
  functions-of (f ∷ fs) = both-of (body_facts p f).numbers (numbers_in (map (body_facts p) fs))
      (body_nodes (map tree_of_stmt f.body)) (function_nodes fs)
      (subst (λ facts. AreOf (numbers_in facts) (body_nodes (map tree_of_stmt f.body)))
      (sym (all_facts_are p f f.body)) (body-of p f (map tree_of_stmt f.body)))
      (functions-of fs)

-- statements that stay as they were, but for values and operators
pub record StmtsStayed (p q : Parts) (f g : Function) (after before : List Stmt) : Type 0 where
  pub facts : map (stmt_facts q g) after ≡ map (stmt_facts p f) before
  pub units : CostAlike p after before

-- functions whose bodies stay so; the first one has this number
pub record FunctionsStayed (p q : Parts) (k : ℕ) (after before : List Function) : Type 0 where
  pub facts : map (body_facts q) after ≡ map (body_facts p) before
  pub tests : are_functions q k after ≡ are_functions p k before
  pub units : (n : ℕ) → CostAlike p (slice_index_or after n no_function).body
      (slice_index_or before n no_function).body

first-or-later : (p : Parts) (gs fs : List Function) (g f : Function) → CostAlike p g.body f.body
    → ((n : ℕ) → CostAlike p (slice_index_or gs n no_function).body (slice_index_or fs n no_function).body)
    → (n : ℕ)
    → CostAlike p (slice_index_or (g ∷ gs) n no_function).body (slice_index_or (f ∷ fs) n no_function).body
first-or-later p gs fs g f first rest zero = first
first-or-later p gs fs g f first rest (suc n) = rest n

module _ (p : Parts) (edit : Edit) (inits : List Stmt) (functions : List Function)
    (same : HasSameHeads p (with_bodies p inits functions)) where
  abbrev q : Parts
  q = with_bodies p inits functions

  -- a body that is edited
  stmts-stay : (f g : Function) (before after : List Stmt) → g.result ≡ f.result → g.locals ≡ f.locals
      → map tree_of_stmt after ≡ map (changed_stmt edit) (map tree_of_stmt before)
      → Suitable edit (numbers_in (map (stmt_facts p f) before)) (body_nodes (map tree_of_stmt before))
      → list_all (λ (s : StmtFacts). s.is_sound) (map (stmt_facts p f) before) ≡ true
      → StmtsStayed p q f g after before
  stmts-stay f g before after results locals edited suit sound =
      let are = all_facts_are p f before in
      let stays = body-kept p inits functions same edit f g results locals (map tree_of_stmt before)
      (subst (λ facts. Suitable edit (numbers_in facts) (body_nodes (map tree_of_stmt before))) are suit)
      (subst (λ facts. list_all (λ (s : StmtFacts). s.is_sound) facts ≡ true) are sound) in
      record {
        facts = all_facts_are q g after ∙ ap (map (stmt_facts_of q g)) edited ∙ stays.facts ∙ sym are;
        units = λ turns bodies lengths.
            ap (body_units p.variables turns bodies lengths) edited ∙ stays.units turns bodies lengths;
      }

  functions-stay : (k : ℕ) (fs gs : List Function) → AreEdited edit fs gs
      → Suitable edit (numbers_in (map (body_facts p) fs)) (function_nodes fs)
      → are_functions p k fs ≡ true → FunctionsStayed p q k gs fs
  functions-stay k [] [] h suit fits =
      record { facts = refl; tests = refl; units = λ n turns bodies lengths. refl }
  functions-stay k [] (g ∷ gs) h suit fits = absurd h
  functions-stay k (f ∷ fs) [] h suit fits = absurd h
  functions-stay k (f ∷ fs) (g ∷ gs) h suit fits =
      let tests = both _ _ fits in
      let names = subst (λ facts. AreOf (numbers_in facts) (body_nodes (map tree_of_stmt f.body)))
      (sym (all_facts_are p f f.body)) (body-of p f (map tree_of_stmt f.body)) in
      let parts = split edit (body_facts p f).numbers (numbers_in (map (body_facts p) fs))
      (body_nodes (map tree_of_stmt f.body)) (function_nodes fs) names (functions-of p fs) suit in
      let is_fit = fit-function p (k == p.main.0) f tests.0 in
      let first = stmts-stay f g f.body g.body (λ i. (h.0 i).result) (λ i. (h.0 i).locals)
      (λ i. (h.0 i).body) parts.0 is_fit.sound in
      let rest = functions-stay (suc k) fs gs h.1 parts.1 tests.1 in
      record {
        facts = λ i. around (leaf_facts [] [] true) (first.facts i) ∷ rest.facts i;
        tests = λ i. function_test p (k == p.main.0) (h.0 i).params (h.0 i).locals
            (around (leaf_facts [] [] true) (first.facts i)) && rest.tests i;
        units = first-or-later p gs fs g f first.units rest.units;
      }

-- THE WHOLE PROGRAM

same-heads : (p : Parts) (edit : Edit) (inits : List Stmt) (gs : List Function)
    → AreEdited edit p.functions gs → HasSameHeads p (with_bodies p inits gs)
same-heads p edit inits gs h = record {
  results = λ f. results-stay edit p.functions gs h f.0;
  calls = λ f args. ap (λ b. not (f.0 == p.main.0) && b)
      (params-stay edit p.functions gs h (λ params. fits_parameters p params args) f.0);
}

pub record ProgramStays (p : Parts) (first : List Stmt) (gs : List Function) : Type 0 where
  pub inits : StmtsStayed p (with_bodies p first gs) no_function no_function first p.inits
  pub functions : FunctionsStayed p (with_bodies p first gs) 0 gs p.functions

pub program-stays : (p : Parts) (edit : Edit) (inits : List Stmt) (gs : List Function)
    → Suits edit.change edit.node (nodes_at (tree_of_parts p) edit.stmt.0)
    → map tree_of_stmt inits ≡ map (changed_stmt edit) (map tree_of_stmt p.inits)
    → AreEdited edit p.functions gs → AreFit p → ProgramStays p inits gs
program-stays p edit inits gs own edited_inits edited fits =
    let heads = same-heads p edit inits gs edited in
    let first = init_facts p in
    let bodies = map (body_facts p) p.functions in
    let joined : numbers_in (first ++ bodies) ≡ numbers_in first ++ numbers_in bodies =
    flat_map-append (λ (s : StmtFacts). s.numbers) first bodies in
    let counted = both _ _ fits.numbered in
    let in_range = both _ _ counted.0 in
    let once : differ (numbers_in first ++ numbers_in bodies) ≡ true =
    subst (λ ns. differ ns ≡ true) joined in_range.0 in
    let parts = split edit (numbers_in first) (numbers_in bodies)
    (body_nodes (map tree_of_stmt p.inits)) (function_nodes p.functions)
    (subst (λ facts. AreOf (numbers_in facts) (body_nodes (map tree_of_stmt p.inits)))
    (sym (all_facts_are p no_function p.inits)) (body-of p no_function (map tree_of_stmt p.inits)))
    (functions-of p p.functions) (record { suits = own; once = once }) in
    record {
      inits = stmts-stay p edit inits gs heads no_function no_function p.inits inits refl refl edited_inits
          parts.0 (inits-sound p first fits.inits);
      functions = functions-stay p edit inits gs heads 0 p.functions gs edited parts.1 fits.functions;
    }

bodies-fit : (p : Parts) (edit : Edit) (inits : List Stmt) (gs : List Function)
    → Suits edit.change edit.node (nodes_at (tree_of_parts p) edit.stmt.0)
    → map tree_of_stmt inits ≡ map (changed_stmt edit) (map tree_of_stmt p.inits)
    → AreEdited edit p.functions gs
    → IsTrue (is_program p) → IsTrue (is_program (with_bodies p inits gs))
unfolding is_program
bodies-fit p edit inits gs own edited_inits edited is_program_p =
    let stays = program-stays p edit inits gs own edited_inits edited (fit p is_program_p) in
    let same : is_program (with_bodies p inits gs) ≡ is_program p = λ i. program_test p
    (same-length edit p.functions gs edited i)
    (p.globals ++ same-owned edit p.functions gs edited i) (stays.inits.facts i)
    (stays.inits.facts i ++ stays.functions.facts i) (stays.functions.tests i) in
    same ∙ is_program_p

pub edited-fits : (p : Program) (edit : Edit) (q : Parts) → IsEditOf p edit
    → tree_of_parts q ≡ changed_program edit (tree_of p) → IsTrue (is_program q)
edited-fits p edit q own edited =
    let fits = bodies-fit (parts_of p) edit q.inits q.functions (edit-suits p edit own)
    (λ i. (edited i).inits) (edited-each edit p.functions q.functions (λ i. (edited i).functions)) p.fit
    in
    let same : q ≡ with_bodies (parts_of p) q.inits q.functions = λ i. record {
      variables = (edited i).variables;
      globals = (edited i).globals;
      inits = q.inits;
      functions = q.functions;
      main = (edited i).main;
      statements = (edited i).statements;
    } in
    subst (λ r. IsTrue (is_program r)) (sym same) fits

-- the tree of copied parts
pub edited-tree : (p : Program) (edit : Edit) (q : Parts) → q.variables ≡ p.variables → q.globals ≡ p.globals
    → map tree_of_stmt q.inits ≡ map (changed_stmt edit) (map tree_of_stmt p.inits)
    → map tree_of_function q.functions ≡ map (changed_function edit) (map tree_of_function p.functions)
    → q.main ≡ p.main → q.statements ≡ p.statements → tree_of_parts q ≡ changed_program edit (tree_of p)
edited-tree p edit q variables globals inits functions main statements = λ i. record {
  variables = variables i;
  globals = globals i;
  inits = inits i;
  functions = functions i;
  main = main i;
  statements = statements i;
}
