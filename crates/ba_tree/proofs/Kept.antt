-- What each program keeps, fact by fact.
use Rattle.std.proofs.Common.{◌≡◌, ◌&&◌, ◌==◌, ◌++◌, ◌+◌, ◌<◌, nat_le, nat_lt, ℕ, zero, suc, Bool, true, not, Option, None, Some, option_map, List, [], ◌∷◌, map, length, get_or, refl, sym, ap, subst, ◌∙◌, arith}
use Rattle.std.specs.Prelude.{sum_by, slice_get, IsTrue}
use Rattle.std.specs.List.{list_all}
use Rattle.std.proofs.lemmas.Bool.Decides.{nat_tests}
use Rattle.std.proofs.lemmas.Option.{get_or_from_slice_get}
use Rattle.ba_numbers.specs.declared.ids.CallId.{CallId}
use Rattle.ba_numbers.specs.declared.ids.FnId.{FnId}
use Rattle.ba_numbers.specs.declared.ids.StmtId.{StmtId}
use Rattle.ba_numbers.specs.declared.ids.VarId.{VarId}
use Rattle.ba_numbers.specs.declared.numbers.CType.TheVariants.{I32}
use Rattle.ba_tree.specs.Facts.{all_calls, all_numbers, all_owned, are_distinct, are_functions, body_facts, has_each_once, has_kind, has_variable, holds, init_facts, is_array_length, is_function, is_global_initialiser, is_own_length, is_own_shape, is_parameter_shape, is_program, is_within_limits, own_elements, shape_at}
use Rattle.ba_tree.specs.Kept.{parts_of}
use Rattle.ba_tree.specs.Meaning.{variable_of}
use Rattle.ba_tree.specs.Inputs.{IsInputOf}
use Rattle.ba_tree.specs.declared.run.Input.{Input}
use Rattle.ba_tree.proofs.InputLemmas.{input-fits}
use Rattle.ba_tree.specs.Run.{fits, function_of, main_of, no_function}
use Rattle.ba_tree.specs.declared.tree.Function.{Function}
use Rattle.ba_tree.specs.declared.tree.Parts.{Parts}
use Rattle.ba_tree.specs.declared.tree.Program.{Program}
use Rattle.ba_tree.specs.declared.tree.Shape.{Shape}
use Rattle.ba_tree.specs.declared.tree.Shape.TheVariants.{Value}
use Rattle.ba_tree.specs.declared.tree.StmtKind.{StmtKind}
use Rattle.ba_tree.specs.declared.tree.Variable.{Variable}
use Rattle.ba_tree.proofs.Tests.{both}

less : (a b : ℕ) → nat_lt a b ≡ true → a < b
less a b h = grind (arith, nat_tests, h)

-- THE FACTS of parts that make a program
pub record AreFit (p : Parts) : Type 0 where
  pub within : is_within_limits p ≡ true
  pub main : p.main.0 < length p.functions
  pub lengths : list_all is_own_length p.variables ≡ true
  pub owned : has_each_once 0 (length p.variables) (map (λ (v : VarId). v.0) (all_owned p)) ≡ true
  pub globals : list_all (λ v. holds is_own_shape (shape_at p v)) p.globals ≡ true
  pub inits : list_all (is_global_initialiser p) (init_facts p) ≡ true
  pub functions : are_functions p 0 p.functions ≡ true
  pub numbered : has_each_once 1 (length p.statements) (map (λ (n : StmtId × StmtKind). n.0.0) (all_numbers
      p)) ≡ true
  pub kinds : list_all (has_kind p) (all_numbers p) ≡ true
  pub calls : are_distinct (map (λ (c : CallId). c.0) (all_calls p)) ≡ true

pub fit : (p : Parts) → IsTrue (is_program p) → AreFit p
unfolding is_program
fit p h =
    let a = both _ _ h in
    let b = both _ _ a.0 in
    let c = both _ _ b.0 in
    let d = both _ _ c.0 in
    let e = both _ _ d.0 in
    let f = both _ _ e.0 in
    let g = both _ _ f.0 in
    let i = both _ _ g.0 in
    let j = both _ _ i.0 in
    record {
      within = j.0;
      main = less _ _ j.1;
      lengths = i.1;
      owned = g.1;
      globals = f.1;
      inits = e.1;
      functions = d.1;
      numbered = c.1;
      kinds = b.1;
      calls = a.1;
    }

-- of a program
pub kept : (p : Program) → AreFit (parts_of p)
kept p = fit (parts_of p) p.fit

-- THE LIMITS
pub record AreWithin (p : Parts) : Type 0 where
  pub statements : nat_le (length p.statements) 4000 ≡ true
  pub functions : nat_le (length p.functions) 100 ≡ true
  pub variables : nat_le (length p.variables) 2000 ≡ true
  pub elements : nat_le (sum_by (λ (v : Variable). own_elements v.shape) p.variables) 1024 ≡ true

pub within-limits : (p : Parts) → is_within_limits p ≡ true → AreWithin p
within-limits p h =
    let a = both _ _ h in
    let b = both _ _ a.0 in
    let c = both _ _ b.0 in
    record { statements = c.0; functions = c.1; variables = b.1; elements = a.1 }

-- numbers that occur once each
pub record StandOnce (first count : ℕ) (ns : List ℕ) : Type 0 where
  pub differ : are_distinct ns ≡ true
  pub there : list_all (λ n. nat_le first n && nat_lt n (first + count)) ns ≡ true
  pub all : length ns ≡ count

pub stand-once : (first count : ℕ) (ns : List ℕ) → has_each_once first count ns ≡ true → StandOnce first count ns
stand-once first count ns h =
    let a = both _ _ h in
    let b = both _ _ a.0 in
    let same : length ns ≡ count = grind (arith, nat_tests, a.1) in
    record { differ = b.0; there = b.1; all = same }

-- THE FACTS of a function
pub record IsFitFunction (p : Parts) (is_main : Bool) (f : Function) : Type 0 where
  pub few : nat_le (length f.params) 32 ≡ true
  pub params : list_all (λ v. holds (is_parameter_shape is_main) (shape_at p v)) f.params ≡ true
  pub locals : list_all (λ v. holds is_own_shape (shape_at p v)) f.locals ≡ true
  pub sound : (body_facts p f).is_sound ≡ true
  pub deep : nat_le (body_facts p f).depth 101 ≡ true
  pub no_break : not (body_facts p f).breaks ≡ true
  pub no_continue : not (body_facts p f).continues ≡ true
  pub named : list_all (has_variable (p.globals ++ f.params ++ f.locals)) (body_facts p f).variables ≡ true

pub fit-function : (p : Parts) (is_main : Bool) (f : Function) → is_function p is_main f ≡ true →
    IsFitFunction p is_main f
fit-function p is_main f h =
    let a = both _ _ h in
    let b = both _ _ a.0 in
    let c = both _ _ b.0 in
    let d = both _ _ c.0 in
    let e = both _ _ d.0 in
    let g = both _ _ e.0 in
    let i = both _ _ g.0 in
    record {
      few = i.0;
      params = i.1;
      locals = g.1;
      sound = e.1;
      deep = d.1;
      no_break = c.1;
      no_continue = b.1;
      named = a.1;
    }

-- each function meets its constraint
functions-at : (p : Parts) (k : ℕ) (fs : List Function) (i : ℕ) (d : Function) → are_functions p k fs ≡
    true → i < length fs
    → is_function p ((i + k) == p.main.0) (get_or fs i d) ≡ true
functions-at p k [] i d h within = absurd (omega arith)
functions-at p k (f ∷ fs) zero d h within =
    let same : 0 + k ≡ k = omega arith in
    subst (λ n. is_function p (n == p.main.0) f ≡ true) (sym same) (both _ _ h).0
functions-at p k (f ∷ fs) (suc i) d h within =
    let same : suc i + k ≡ i + suc k = omega arith in
    subst (λ n. is_function p (n == p.main.0) (get_or fs i d) ≡ true) (sym same)
    (functions-at p (suc k) fs i d (both _ _ h).1 (omega arith))

pub function-kept : (p : Program) (f : FnId) → f.0 < length p.functions
    → IsFitFunction (parts_of p) (f.0 == p.main.0) (function_of p f)
function-kept p f within =
    let same : f.0 + 0 ≡ f.0 = omega arith in
    fit-function (parts_of p) (f.0 == p.main.0) (function_of p f) (subst (λ n. is_function (parts_of p) (n
    == p.main.0)
    (function_of p f) ≡ true) same (functions-at (parts_of p) 0 p.functions f.0 no_function (kept
    p).functions within))

equal : (n : ℕ) → (n == n) ≡ true
equal n = grind (arith, nat_tests)

pub main-kept : (p : Program) → IsFitFunction (parts_of p) true (main_of p)
main-kept p =
    subst (λ b. IsFitFunction (parts_of p) b (main_of p)) (equal p.main.0) (function-kept p p.main (kept
    p).main)

-- VARIABLES

-- what holds of the shape of a variable that is there
pub shape-there : (p : Program) (test : Shape → Bool) (v : VarId) → holds test (shape_at (parts_of p) v) ≡
    true
    → test (variable_of p v).shape ≡ true
shape-there p test v = by (slice_get p.variables v.0) refl
  where
    by : (found : Option Variable) → slice_get p.variables v.0 ≡ found
        → holds test (option_map (λ (w : Variable). w.shape) found) ≡ true → test (variable_of p v).shape ≡
        true
    by None is h = cc
    by (Some w) is h = ap (λ (w : Variable). test w.shape)
        (get_or_from_slice_get p.variables v.0 w (record { t = I32; shape = Value }) is) ∙ h

pub all-there : (p : Program) (test : Shape → Bool) (vs : List VarId) → list_all (λ v. holds test (shape_at
    (parts_of p) v)) vs ≡ true
    → list_all (λ v. test (variable_of p v).shape) vs ≡ true
all-there p test [] h = refl
all-there p test (v ∷ vs) h = let b = both _ _ h in
    λ i. both-true (shape-there p test v b.0) (all-there p test vs b.1) i
  where
    both-true : {s t : Bool} → s ≡ true → t ≡ true → (s && t) ≡ true
    both-true p q = λ i. p i && q i

-- the parameters of main have values of their own
pub main-has-values : (p : Program) → list_all (λ v. is_parameter_shape true (variable_of p v).shape)
    (main_of p).params
    ≡ true
main-has-values p = all-there p (is_parameter_shape true) (main_of p).params (main-kept p).params

-- the input that a text writes fits
pub input-kept : (p : Program) (text : List ℕ) (input : Input) → IsInputOf p text input → fits p input ≡ true
input-kept p text input i = input-fits p text input (main-has-values p) i

-- each array has 1 to 256 elements
pub length-kept : (p : Program) (v : VarId) → is_array_length (variable_of p v).shape ≡ true
length-kept p v = by p.variables v.0 (kept p).lengths
  where
    by : (vs : List Variable) (i : ℕ) → list_all is_own_length vs ≡ true
        → is_array_length (get_or vs i (record { t = I32; shape = Value })).shape ≡ true
    by [] i h = refl
    by (w ∷ vs) zero h = (both _ _ h).0
    by (w ∷ vs) (suc i) h = by vs i (both _ _ h).1
