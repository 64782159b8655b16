-- THE TYPED PROGRAM of a file without faults is a program.
use Rattle.std.proofs.Common.{◌≡◌, ℕ, suc, ◌+◌, ◌≤◌, ◌<◌, Bool, true, false, ◌&&◌, ◌==◌, cond, Option, None, Some, List, [], ◌∷◌, ◌++◌, map, flat_map, length, length-append, append_assoc, refl, sym, ◌∙◌, ap, subst, arith, sum_by, nat_le, slice_get, option_map}
use Rattle.std.specs.List.{list_all}
use Rattle.std.proofs.lemmas.Bool.{and_from, and_parts, eq-eqb, le-leb, lt-ltb, or_left, or_right}
use Rattle.std.proofs.lemmas.List.Folds.{list_any-append}
use Rattle.std.proofs.lemmas.List.{map-append, length-map}
use Rattle.std.proofs.lemmas.Option.{same_Some, none-some}
use Rattle.ba_numbers.specs.declared.ids.CallId.{CallId}
use Rattle.ba_numbers.specs.declared.ids.FnId.{FnId}
use Rattle.ba_numbers.specs.declared.ids.StmtId.{StmtId}
use Rattle.ba_numbers.specs.declared.ids.VarId.{VarId}
use Rattle.ba_trees.specs.declared.tree.statements.External.{External}
use Rattle.ba_tree.specs.Facts.{is_program, is_within_limits, is_own_length, has_each_once, all_owned, holds, is_own_shape, shape_at, is_global_initialiser, init_facts, are_functions, is_function, all_facts, all_numbers, all_calls, has_kind, are_distinct, has_variable, body_facts, around, leaf_facts, no_function, own_elements}
use Rattle.ba_tree.specs.declared.tree.Function.{Function}
use Rattle.ba_tree.specs.declared.tree.Parts.{Parts}
use Rattle.ba_tree.specs.declared.tree.StmtKind.{StmtKind}
use Rattle.ba_tree.specs.declared.tree.Variable.{Variable}
use Rattle.ba_typing.specs.Declarations.{Before, behind, add_specifiers}
use Rattle.ba_typing.specs.Files.{FileAdded, vars_of, signature_of, definitions_of, with_signature, signatures_from, signatures, add_external, add_externals, file_scope, no_parts, file_of, faults_of, program_of, typed_of}
use Rattle.ba_tree.specs.Trees.{tree_of_parts}
use Rattle.ba_typing.specs.Names.{Scope, knowing, same_name, definition_in, main_name, type_specified}
use Rattle.ba_tree.specs.Trees.{FunctionTree, ProgramTree, tree_of_stmt, tree_of_function, stmts_of}
use Rattle.ba_typing.specs.declared.meanings.Signature.{Signature}
use Rattle.ba_typing_facts.proofs.AdditionFacts.{all_facts_of}
use Rattle.ba_typing_facts.proofs.DepthFacts.{deepest, is_shallow, body_depth}
use Rattle.ba_typing_facts.proofs.FileFacts.{AreGood, IsFile, inits_of, owned_by, externals_are}
use Rattle.ba_typing_facts.proofs.FileSignatureFacts.{form_count, signatures_numbered, AreNewIn, signatures_new, functions_are, signatures_declared}
use Rattle.ba_typing_facts.proofs.FunctionFacts.{function_at, function_here, bodies_of, IsFileScope}
use Rattle.ba_typing_facts.proofs.LeafFacts.{HasAt}
use Rattle.ba_typing_facts.proofs.OnceFacts.{each_once, each_distinct}
use Rattle.ba_typing.proofs.SignatureFacts.{AreNumbered, count_definitions, few_definitions}
use Rattle.ba_typing_facts.proofs.StatementTreeFacts.{all_facts_are}
use Rattle.ba_typing_facts.proofs.SequenceFacts.{IsEach, stmt_numbers, numbers_in, calls_in}
use Rattle.ba_typing_facts.proofs.FittingFacts.{call_numbers}

-- LISTS

-- a list is in itself
at_end : {A : Type 0} (first : List A) (x : A) (xs : List A) → slice_get (first ++ (x ∷ xs)) (length first)
    ≡ Some x
at_end [] x xs = refl
at_end (y ∷ first) x xs = at_end first x xs

has_behind : {A : Type 0} (first xs : List A) → HasAt (first ++ xs) (length first) xs
has_behind first [] = tt
has_behind first (x ∷ xs) = (
  at_end first x xs,
  subst (λ ys. HasAt ys (length first + 1) xs) (append_assoc first (x ∷ []) xs)
      (subst (λ k. HasAt ((first ++ x ∷ []) ++ xs) k xs) (length-append first (x ∷ [])) (has_behind
      (first ++ x ∷ []) xs)),
)

pub has_itself : {A : Type 0} (xs : List A) → HasAt xs 0 xs
has_itself xs = has_behind [] xs

has_own : (first vs : List VarId) → list_all (has_variable (first ++ vs)) vs ≡ true
has_own first [] = refl
has_own first (v ∷ vs) = and_from _ _
    (list_any-append (λ (w : VarId). w.0 == v.0) first (v ∷ vs)
    ∙ or_right (has_variable first v) (has_variable (v ∷ vs) v) (or_left (v.0 == v.0) (has_variable vs v)
    (eq-eqb v.0 v.0 refl)))
    (subst (λ ws. list_all (has_variable ws) vs ≡ true) (append_assoc first (v ∷ []) vs) (has_own
    (first ++ v ∷ []) vs))

-- HOW MANY FUNCTIONS

definitions-with : (o : Option Signature) (ss : List Signature)
    → count_definitions (with_signature o ss) ≡ definitions_of o + count_definitions ss
definitions-with None ss = omega arith
definitions-with (Some s) ss = refl

functions_count : (p : Parts) (d : ℕ) (xs : List External) (file : Scope) (earlier : List Signature)
    (n : Before)
    → length (add_externals d xs file earlier n).functions ≡ count_definitions (signatures_from d xs)
functions_count p d [] file earlier n = refl
functions_count p d (x ∷ xs) file earlier n =
    let s = signature_of d x in
    let a = add_external x s file earlier n in
    let b = add_externals (d + definitions_of s) xs (knowing a.added.entries file)
    (earlier ++ with_signature s []) (behind n a.added) in
    let both = length-append a.functions b.functions in
    let w = add_specifiers earlier x.specifiers file n in
    let first = form_count p d (type_specified x.specifiers) x.form (knowing w.entries file) earlier
    (behind n w) in
    let rest = functions_count p (d + definitions_of s) xs (knowing a.added.entries file)
    (earlier ++ with_signature s []) (behind n a.added) in
    let all = definitions-with s (signatures_from (d + definitions_of s) xs) in
    omega (arith, both, first, rest, all)

-- a definition's number is below their count
found_high : (k : ℕ) (ss : List Signature) (name : List ℕ) (s : Signature) → AreNumbered k ss
    → definition_in ss name ≡ Some s → s.function.0 < k + count_definitions ss
found_high k [] name s all h = cc
found_high k (t ∷ ss) name s all h =
    from (t.is_definition && same_name t.name name) (λ is. (and_parts t.is_definition
    (same_name t.name name) is).0)
    (found_high (k + cond t.is_definition 1 0) ss name s all.1) h where
      from : (b : Bool) → (b ≡ true → t.is_definition ≡ true)
          → (definition_in ss name ≡ Some s → s.function.0 < (k + cond t.is_definition 1 0) +
          count_definitions
          ss)
          → cond b (Some t) (definition_in ss name) ≡ Some s
          → s.function.0 < k + (cond t.is_definition 1 0 + count_definitions ss)
      from true is rest h =
          let here = all.0 in let same = ap (λ (s : Signature). s.function.0) (same_Some t s h) in
          let one : ◌≡◌ {A = ℕ} (cond t.is_definition 1 0) 1 = ap (λ b. cond b 1 0) (is refl) in omega
          (arith, here, same, one)
      from false is rest h = let below = rest h in omega (arith, below)

-- THE PROGRAM'S OWN LISTS

module _ (p : Parts) where
  bodies_are : (k : ℕ) (fs : List Function) → HasAt p.functions k fs
      → map (body_facts p) fs ≡ bodies_of p k (map tree_of_function fs)
  bodies_are k [] h = refl
  bodies_are k (f ∷ fs) h =
      ap (λ b. b ∷ map (body_facts p) fs) (ap (around (leaf_facts [] [] true)) (all_facts_are p f f.body)
      ∙ ap (λ g. around (leaf_facts [] [] true) (all_facts_of p g (map tree_of_stmt f.body))) (sym
      (function_here p k f h.0)))
      ∙ ap (λ bs. around (leaf_facts [] [] true) (all_facts_of p (function_at p k)
      (map tree_of_stmt f.body)) ∷ bs)
      (bodies_are (k + 1) fs h.1)

  owned_are : (fs : List Function)
      → flat_map (λ (f : Function). f.params ++ f.locals) fs ≡ owned_by (map tree_of_function fs)
  owned_are [] = refl
  owned_are (f ∷ fs) = ap (λ vs. (f.params ++ f.locals) ++ vs) (owned_are fs)

  functions_right : (k : ℕ) (fs : List Function) → HasAt p.functions k fs → AreGood p k
      (map tree_of_function fs)
      → list_all (λ (f : FunctionTree). nat_le (deepest (stmts_of f.body)) 100) (map tree_of_function fs)
      ≡ true
      → are_functions p k fs ≡ true
  functions_right k [] h good shallow = refl
  functions_right k (f ∷ fs) h good shallow =
      let both = and_parts (nat_le (deepest (stmts_of (map tree_of_stmt f.body))) 100) _ shallow in
      let here = function_here p k f h.0 in
      and_from _ _ (subst (λ f. is_function p (k == p.main.0) f ≡ true) here
      (good.0 (subst (λ f. nat_le (body_facts p f).depth 101 ≡ true) (sym here) (body_depth p f both.0))))
      (subst (λ i. are_functions p i fs ≡ true) (let e : k + 1 ≡ suc k = omega arith in e)
      (functions_right (k + 1) fs h.1 good.1 both.1))

-- THE THEOREM

module _ (xs : List External) (p : Parts) (none : (file_of xs).added.faults ≡ []) (m : Signature)
    (found : definition_in (signatures xs) main_name ≡ Some m)
    (is : program_of (file_of xs) m.function ≡ tree_of_parts p) (shallow : is_shallow (tree_of_parts p)
    ≡ true) where
  abbrev file : FileAdded
  file = file_of xs

  variables_are : file.added.variables ≡ p.variables
  variables_are = ap (λ (t : ProgramTree). t.variables) is

  globals_are : vars_of file.added.entries ≡ p.globals
  globals_are = ap (λ (t : ProgramTree). t.globals) is

  inits_are : file.added.stmts ≡ map tree_of_stmt p.inits
  inits_are = ap (λ (t : ProgramTree). t.inits) is

  trees_are : file.functions ≡ map tree_of_function p.functions
  trees_are = ap (λ (t : ProgramTree). t.functions) is

  main_is : m.function ≡ p.main
  main_is = ap (λ (t : ProgramTree). t.main) is

  statements_are : file.added.statements ≡ p.statements
  statements_are = ap (λ (t : ProgramTree). t.statements) is

  variables_stand : HasAt p.variables 0 file.added.variables
  variables_stand = subst (HasAt p.variables 0) (sym variables_are) (has_itself p.variables)

  trees_stand : HasAt (map tree_of_function p.functions) 0 file.functions
  trees_stand = subst (HasAt (map tree_of_function p.functions) 0) (sym trees_are) (has_itself
      (map tree_of_function p.functions))

  new_in : AreNewIn [] (signatures xs)
  new_in = signatures_new 0 xs (file_scope xs) [] no_parts none (omega arith)

  in_scope : IsFileScope p (file_scope xs)
  in_scope = record {
    sound = record {
      entries = tt;
      functions = functions_are p (signatures xs) (signatures_numbered 0 xs) m found main_is
          (signatures_declared p 0 xs (file_scope xs) [] no_parts none variables_stand trees_stand);
    };
    depth = refl;
    exits = refl;
    result = refl;
  }

  file_is : IsFile p 0 no_parts file
  file_is = externals_are p (signatures xs) (signatures_numbered 0 xs) m found main_is 0 xs
      (file_scope xs) [] no_parts refl
      new_in.new in_scope none (
        variables_stand,
        subst (HasAt p.statements 0) (sym statements_are)
            (has_itself p.statements),
        trees_stand,
        subst (λ vs. list_all (has_variable p.globals) vs ≡ true) (sym globals_are) (has_own [] p.globals),
      )

  -- limits

  few_functions : length p.functions ≤ 100
  few_functions =
      let count = functions_count p 0 xs (file_scope xs) [] no_parts in
      let same = ap length trees_are ∙ length-map p.functions tree_of_function in
      let fewer = few_definitions (signatures xs) new_in.new in
      let few = new_in.few in omega (arith, count, same, fewer, few)

  has_main : p.main.0 < length p.functions
  has_main =
      let count = functions_count p 0 xs (file_scope xs) [] no_parts in
      let same = ap length trees_are ∙ length-map p.functions tree_of_function in
      let high = found_high 0 (signatures xs) main_name m (signatures_numbered 0 xs) found in
      let main = ap (λ (f : FnId). f.0) main_is in omega (arith, count, same, high, main)

  limits : is_within_limits p ≡ true
  limits =
      let statements = file_is.few.statements (omega arith) in
      let variables = file_is.few.variables (omega arith) in
      let elements = file_is.few.elements (omega arith) in
      let all = file_is.sized.elements in
      let same_statements = ap length statements_are in
      let same_variables = ap length variables_are in
      let same_elements = ap (sum_by (λ (v : Variable). own_elements v.shape)) variables_are in
      and_from _ _ (and_from _ _ (and_from _ _
      (le-leb (length p.statements) 4000 (omega (arith, statements, same_statements)))
      (le-leb (length p.functions) 100 few_functions))
      (le-leb (length p.variables) 2000 (omega (arith, variables, same_variables))))
      (le-leb (sum_by (λ (v : Variable). own_elements v.shape) p.variables) 1024 (omega
      (arith, elements, all, same_elements)))

  -- numbers

  abbrev numbers : List VarId → List ℕ
  numbers = map (λ (v : VarId). v.0)

  owned_once : has_each_once 0 (length p.variables) (numbers (all_owned p)) ≡ true
  owned_once = each_once 0 (length p.variables) (numbers (all_owned p))
      (subst (λ c. IsEach 0 c (numbers (all_owned p))) (ap length variables_are)
      (subst (IsEach 0 (length file.added.variables)) (sym split) file_is.owned)) where
        split : numbers (all_owned p) ≡ numbers (vars_of file.added.entries) ++ numbers
            (owned_by file.functions)
        split = map-append (λ (v : VarId). v.0) p.globals (flat_map (λ (f : Function). f.params ++ f.locals)
            p.functions)
            ∙ ap (λ vs. numbers vs ++ numbers (flat_map (λ (f : Function). f.params ++ f.locals) p.functions))
            (sym globals_are)
            ∙ ap (λ vs. numbers (vars_of file.added.entries) ++ numbers vs) (owned_are p p.functions
            ∙ ap owned_by (sym trees_are))

  init_facts_are : init_facts p ≡ inits_of p file.added.stmts
  init_facts_are = all_facts_are p no_function p.inits ∙ ap (inits_of p) (sym inits_are)

  all_facts_are_told : all_facts p ≡ inits_of p file.added.stmts ++ bodies_of p 0 file.functions
  all_facts_are_told = ap (λ ss. ss ++ map (body_facts p) p.functions) init_facts_are
      ∙ ap (λ ss. inits_of p file.added.stmts ++ ss)
      (bodies_are p 0 p.functions (has_itself p.functions) ∙ ap (bodies_of p 0) (sym trees_are))

  stmts_once : has_each_once 1 (length p.statements) (map (λ (n : StmtId × StmtKind). n.0.0)
      (all_numbers p)) ≡ true
  stmts_once = each_once 1 (length p.statements) _
      (subst (λ ss. IsEach 1 (length p.statements) (stmt_numbers (numbers_in ss))) (sym all_facts_are_told)
      (subst (λ c. IsEach 1 c (stmt_numbers (numbers_in (inits_of p file.added.stmts ++ bodies_of p 0
      file.functions))))
      (ap length statements_are) file_is.told.each_number))

  kinds : list_all (has_kind p) (all_numbers p) ≡ true
  kinds = ap (λ ss. list_all (has_kind p) (numbers_in ss)) all_facts_are_told ∙ file_is.told.kinds

  calls_once : are_distinct (map (λ (c : CallId). c.0) (all_calls p)) ≡ true
  calls_once = ap (λ ss. are_distinct (call_numbers (calls_in ss))) all_facts_are_told
      ∙ each_distinct 1 file.added.calls _ file_is.told.each_call

  is_program_here : is_program p ≡ true
  unfolding is_program
  is_program_here = and_from _ _ (and_from _ _ (and_from _ _ (and_from _ _ (and_from _ _ (and_from _ _
      (and_from _ _
      (and_from _ _ (and_from _ _ limits (lt-ltb p.main.0 (length p.functions) has_main))
      (ap (list_all is_own_length) (sym variables_are) ∙ file_is.sized.lengths)) owned_once)
      (ap (list_all (λ v. holds is_own_shape (shape_at p v))) (sym globals_are) ∙ file_is.globals))
      (ap (list_all (is_global_initialiser p)) init_facts_are ∙ file_is.inits))
      (functions_right p 0 p.functions (has_itself p.functions) (subst
      (AreGood p 0) trees_are file_is.good) shallow))
      stmts_once) kinds) calls_once

-- The typed tree of a file without faults is that of a program, if its statements nest at most 100 deep.
pub typed_is_program : (xs : List External) (tree : ProgramTree) (p : Parts) → faults_of xs ≡ []
    → typed_of xs ≡ Some tree
    → tree_of_parts p ≡ tree → is_shallow tree ≡ true → is_program p ≡ true
unfolding faults_of typed_of
typed_is_program xs tree p none typed same shallow = from (definition_in
    (signatures xs) main_name) refl typed where
      from : (o : Option Signature) → definition_in (signatures xs) main_name ≡ o
          → option_map (program_of (file_of xs)) (option_map (λ (s : Signature). s.function) o) ≡ Some tree
          → is_program p ≡ true
      from None found typed = absurd (none-some tree typed)
      from (Some m) found typed = is_program_here xs p none m found (same_Some _ tree typed ∙ sym same)
          (ap is_shallow same ∙ shallow)
